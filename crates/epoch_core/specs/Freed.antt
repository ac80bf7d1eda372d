-- What an event adds to the history, and where it moves the slots.
use Rattle.std.specs.Prelude.{ℕ, ◌<◌, ◌≤◌, ◌≡◌, ◌≢◌, ◌⊎◌, true, [], ◌∷◌}
use Rattle.epoch_core.specs.declared.location.Location.TheVariants.{Fixed, Live, Hand, Free, Worn, Limbo, OnBoard}
use Rattle.epoch_core.specs.State.{Counts, Retires, EpochState}
use Rattle.epoch_core.specs.Events.{slot_of}
use Rattle.epoch_core.specs.History.{History, is_out}

-- a slot goes from this runner's hand to live: by the first commit of a section's Make that won
pub record IsMade (w w' : EpochState) (h h' : History) (runner slot : ℕ) : Type 0 where
  pub number : ℕ
  pub index : ℕ
  pub hand : w.location slot ≡ Hand runner
  pub live : w'.location slot ≡ Live
  pub none : h.made number index ≡ []
  pub one : h'.made number index ≡ slot ∷ []

-- a live slot goes into this runner's limbo, with this epoch: by the first commit of a section's
-- Retire that won
pub record IsRetired (w w' : EpochState) (h h' : History) (runner slot epoch : ℕ) : Type 0 where
  pub number : ℕ
  pub index : ℕ
  pub live : w.location slot ≡ Live
  pub limbo : w'.location slot ≡ Limbo runner epoch
  pub none : h.retired number index ≡ []
  pub one : h'.retired number index ≡ epoch ∷ []

module _ (c : Counts) where
  -- where an event moves the node slots
  pub record SlotsMove (w w' : EpochState) (h h' : History) : Type 0 where
    -- a fixed slot stays so
    pub fixed : (s : ℕ) → w.location s ≡ Fixed → w'.location s ≡ Fixed
    -- a slot in a hand stays there, comes to be live by a commit that won, or goes back to that
    -- runner's free or worn list
    pub hand : (s r : ℕ) → w.location s ≡ Hand r → (w'.location s ≡ Hand r) ⊎ (IsMade w w' h h' r s
        ⊎ ((w'.location s ≡ Free r) ⊎ (w'.location s ≡ Worn r)))
    -- a live slot was live, or comes from a hand by a commit that won
    pub live : (s : ℕ) → s < c.nodes → w'.location s ≡ Live
        → (w.location s ≡ Live) ⊎ ((r : ℕ) × IsMade w w' h h' r s)
    -- a slot in limbo was there, or comes from live by a commit that won
    pub limbo : (s r y : ℕ) → s < c.nodes → w'.location s ≡ Limbo r y
        → (w.location s ≡ Limbo r y) ⊎ IsRetired w w' h h' r s y
    -- a slot on the board was there, or comes from a free list; one that leaves it goes into a free list
    pub board : (s i : ℕ) → w'.location s ≡ OnBoard i
        → (w.location s ≡ OnBoard i) ⊎ ((r : ℕ) × (w.location s ≡ Free r))
    pub unboard : (s i : ℕ) → w.location s ≡ OnBoard i
        → (w'.location s ≡ OnBoard i) ⊎ ((r : ℕ) × (w'.location s ≡ Free r))
    -- each commit of a Make that won took a slot from a hand to live
    pub made : (n k s : ℕ) → h.made n k ≡ [] → h'.made n k ≡ s ∷ []
        → (r : ℕ) × (w.location s ≡ Hand r) × (w'.location s ≡ Live)
    -- each commit of a Retire that won put the slot that the Retire names from live into one limbo
    pub retired : (n k y : ℕ) → h.retired n k ≡ [] → h'.retired n k ≡ y ∷ []
        → (d s r : ℕ) × (h.section d ≡ n) × (w.role d k ≡ Retires s) × (w.location s ≡ Live)
        × (w'.location s ≡ Limbo r y)

  -- no descriptor that isn't free has the section with this number: its descriptor is free again,
  -- or it isn't published yet
  abbrev pub IsFreed : EpochState → History → ℕ → Type 0
  IsFreed w h n = (d : ℕ) → is_out (w.location (slot_of c d)) ≡ true → h.section d ≢ n

  -- an event adds nothing to what was won for a section whose descriptor is free after it
  pub record FreedStay (w w' : EpochState) (h h' : History) : Type 0 where
    pub made : (n k : ℕ) → IsFreed w' h' n → h'.made n k ≡ h.made n k
    pub retired : (n k : ℕ) → IsFreed w' h' n → h'.retired n k ≡ h.retired n k
    -- and a published section whose descriptor is free stays so
    pub freed : (n : ℕ) → n ≤ h.published → IsFreed w h n → IsFreed w' h' n
    -- a descriptor becomes free only from limbo
    pub late : (d : ℕ) → is_out (w.location (slot_of c d)) ≡ true
        → (is_out (w'.location (slot_of c d)) ≡ true)
        ⊎ ((r y : ℕ) × (w.location (slot_of c d) ≡ Limbo r y))
