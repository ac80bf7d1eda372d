-- No slot is given out again while somebody holds it.
use Rattle.std.specs.Prelude.{ℕ, ◌+◌, ◌<◌, ◌≤◌, ◌≡◌, ◌≢◌, Bool, true, false}
use Rattle.epoch_core.specs.declared.location.Location.TheVariants.{Hand, Free, Worn, Limbo, OnBoard}
use Rattle.epoch_core.specs.State.{Counts, EpochState, is_entered, entry_of}
use Rattle.epoch_core.specs.Events.{Event, ScanLast, Advance, Enabled, after, slot_of}
use Rattle.epoch_core.specs.Sound.{IsSound}

-- no held slot is in a free list, in a worn list, or in a hand, where it is tested or waits for its Make's commit, and
-- none is on the board
pub record HeldAreSafe (w : EpochState) : Type 0 where
  pub free : (r s r' : ℕ) → w.holds r s ≡ true → w.location s ≢ Free r'
  pub hand : (r s r' : ℕ) → w.holds r s ≡ true → w.location s ≢ Hand r'
  pub worn : (r s r' : ℕ) → w.holds r s ≡ true → w.location s ≢ Worn r'
  pub board : (r s i : ℕ) → w.holds r s ≡ true → w.location s ≢ OnBoard i

module _ (c : Counts) where
  -- a slot that was retired in epoch `y` leaves its limbo by this event: two epochs have passed since,
  -- nobody holds the slot, and everybody who is entered came later
  pub record MayLeave (w : EpochState) (e : Event) (s y : ℕ) : Type 0 where
    pub passed : y + 2 ≤ (after c w e).epoch
    pub unheld : (r : ℕ) → w.holds r s ≡ true → ⊥
    pub later : (r : ℕ) → is_entered (w.stage r) ≡ true → y < entry_of (w.stage r)

  -- the end of a scan leaves no old node slot in the runner's own limbo: none that was retired two epochs before the
  -- one that the scan reached
  abbrev pub LeavesNothingOld : Type 0
  LeavesNothingOld = (w : EpochState) (r x n : ℕ) (b : Bool) (s y : ℕ) → s < c.nodes
      → ((after c w (ScanLast r x n b)).location s ≡ Limbo r y → x < y + 2)
      × ((after c w (Advance r x n)).location s ≡ Limbo r y → x + 1 < y + 2)

  -- a node slot leaves limbo only so
  abbrev pub LeavesLate : Type 0
  LeavesLate = (w : EpochState) (e : Event) → IsSound c w → Enabled c w e
      → (s r y : ℕ) → s < c.nodes → w.location s ≡ Limbo r y → (after c w e).location s ≢ Limbo r y → MayLeave w e s y

  -- and a descriptor only where nobody holds it
  abbrev pub LeavesUnheld : Type 0
  LeavesUnheld = (w : EpochState) (e : Event) → IsSound c w → Enabled c w e
      → (d r y : ℕ) → w.location (slot_of c d) ≡ Limbo r y → (after c w e).location (slot_of c d) ≢ Limbo r y
      → (q : ℕ) → w.holds q (slot_of c d) ≡ false
