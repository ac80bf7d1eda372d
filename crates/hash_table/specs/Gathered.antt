-- The pairs of chains as they are gathered.
use Rattle.std.specs.Prelude.{◌≡◌, ℕ, suc, ◌<◌, ◌≤◌, ◌⊎◌, List, Bool, true, length, map, slice_get, Some}
use Rattle.bucket_walks.specs.bucket_laws.specs.Chain.{Nodes}

module _ (bucket : ℕ → ℕ) (n : Nodes) (on : ℕ → Bool) where
  -- the pair of a node
  abbrev pub pair_of : ℕ → ℕ × ℕ
  pair_of t = (n.key t, n.value t)

  -- the slot is among these
  abbrev pub IsAmong : List ℕ → ℕ → Type 0
  IsAmong seen t = (i : ℕ) × (slice_get seen i ≡ Some t)

  -- these slots stand in the chains, each once, and these are their pairs
  pub record AreSeen (seen : List ℕ) (items : List (ℕ × ℕ)) : Type 0 where
    pub pairs : items ≡ map pair_of seen
    pub once : (i j t : ℕ) → slice_get seen i ≡ Some t → slice_get seen j ≡ Some t → i ≡ j
    pub in_chain : (t : ℕ) → IsAmong seen t → on t ≡ true

  -- these are the pairs of the chains of all buckets below this one
  pub record IsGathered (below : ℕ) (items : List (ℕ × ℕ)) : Type 0 where
    pub seen : List ℕ
    pub are : AreSeen seen items
    pub low : (t : ℕ) → IsAmong seen t → bucket (n.key t) < below
    pub all : (t : ℕ) → on t ≡ true → bucket (n.key t) < below → IsAmong seen t

  -- these are the pairs of the chains of all buckets below this one, and those of its own chain before the slot to
  -- which this link leads, at least so many
  pub record IsGathering (rank : ℕ → ℕ) (i link made : ℕ) (items : List (ℕ × ℕ)) : Type 0 where
    pub seen : List ℕ
    pub are : AreSeen seen items
    pub many : made ≤ length seen
    pub low : (t : ℕ) → IsAmong seen t
        → (bucket (n.key t) < i) ⊎ ((bucket (n.key t) ≡ i) × ((u : ℕ) → link ≡ suc u → rank u < rank t))
    pub all : (t : ℕ) → on t ≡ true → bucket (n.key t) < i → IsAmong seen t
    pub chain : (t : ℕ) → on t ≡ true → bucket (n.key t) ≡ i
        → IsAmong seen t ⊎ ((u : ℕ) × (link ≡ suc u) × (rank t ≤ rank u))
    pub at : (u : ℕ) → link ≡ suc u → (on u ≡ true) × (bucket (n.key u) ≡ i)
