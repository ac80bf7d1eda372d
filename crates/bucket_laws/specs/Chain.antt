-- The chains of a hash table: which slots stand in them, each with a rank that falls along its chain.
use Rattle.std.specs.Prelude.{ℕ, suc, ◌<◌, ◌≤◌, ◌≡◌, ◌≢◌, Bool, true, Option, Some}
use Rattle.structure_laws.specs.body_terms.specs.Update.{upd}

-- the values of the heads by bucket, and of the cells of the slots
pub record Nodes : Type 0 where
  pub head : ℕ → ℕ
  pub key : ℕ → ℕ
  pub value : ℕ → ℕ
  pub next : ℕ → ℕ

abbrev pub with_head : Nodes → ℕ → ℕ → Nodes
with_head n bucket link = record n { head = upd n.head bucket link }

abbrev pub with_next : Nodes → ℕ → ℕ → Nodes
with_next n slot link = record n { next = upd n.next slot link }

abbrev pub with_value : Nodes → ℕ → ℕ → Nodes
with_value n slot value = record n { value = upd n.value slot value }

module _ (bucket : ℕ → ℕ) where
  -- the keys of the two slots are of one bucket
  abbrev pub IsBeside : Nodes → ℕ → ℕ → Type 0
  IsBeside n s t = bucket (n.key s) ≡ bucket (n.key t)

  -- a head leads to the highest slot of its bucket, and a link to the next lower one; ranks and keys differ
  pub record Chains (n : Nodes) (on : ℕ → Bool) (rank : ℕ → ℕ) : Type 0 where
    pub head_on : (i t : ℕ) → n.head i ≡ suc t → (on t ≡ true) × (bucket (n.key t) ≡ i)
    pub head_top : (i t u : ℕ) → n.head i ≡ suc t → on u ≡ true → bucket (n.key u) ≡ i → rank u ≤ rank t
    pub head_none : (i u : ℕ) → n.head i ≡ 0 → on u ≡ true → bucket (n.key u) ≢ i
    pub next_on : (s t : ℕ) → on s ≡ true → n.next s ≡ suc t → (on t ≡ true) × IsBeside n t s × (rank t < rank s)
    pub next_top : (s t u : ℕ) → on s ≡ true → n.next s ≡ suc t → on u ≡ true → IsBeside n u s → rank u < rank s
        → rank u ≤ rank t
    pub next_none : (s u : ℕ) → on s ≡ true → n.next s ≡ 0 → on u ≡ true → IsBeside n u s → rank s ≤ rank u
    pub rank_once : (s t : ℕ) → on s ≡ true → on t ≡ true → IsBeside n s t → rank s ≡ rank t → s ≡ t
    pub key_once : (s t : ℕ) → on s ≡ true → on t ≡ true → n.key s ≡ n.key t → s ≡ t

-- the pairs of the slots in the chains are those that the map looks up
pub record Contents (n : Nodes) (on : ℕ → Bool) (lookup : ℕ → Option ℕ) : Type 0 where
  pub pair : (t : ℕ) → on t ≡ true → lookup (n.key t) ≡ Some (n.value t)
  pub slot : (key value : ℕ) → lookup key ≡ Some value → (t : ℕ) × (on t ≡ true) × (n.key t ≡ key)
