-- How a runner comes to hold a slot: by a link that it reads, or by a word that names a descriptor.
use Rattle.std.specs.Prelude.{ℕ, ◌≤◌, ◌≡◌, Bool, true, false}
use Rattle.epoch_core.specs.declared.location.Location.{Location}
use Rattle.epoch_core.specs.declared.location.Location.TheVariants.{Fixed, Live, Hand, Free, Worn, Limbo, OnBoard}
use Rattle.epoch_core.specs.State.{Counts, EpochState, is_entered, entry_of, IsPending, IsKept, MayHold}
use Rattle.epoch_core.specs.Events.{slot_of}

-- fixed or live
abbrev pub is_in_use : Location → Bool
is_in_use Fixed = true
is_in_use Live = true
is_in_use (Hand r) = false
is_in_use (Free r) = false
is_in_use (Worn r) = false
is_in_use (OnBoard i) = false
is_in_use (Limbo r y) = false

module _ (c : Counts) where
  -- what has to be known of a link that an entered runner reads, or of a named descriptor, for the runner
  -- to come to hold what it names
  pub record MayFollow (w : EpochState) : Type 0 where
    -- a link in a fixed cell or in a live slot: what it names is in use, and nobody has loaded an epoch for
    -- a Retire of it that isn't agreed
    pub from_live : (r t : ℕ) → is_entered (w.stage r) ≡ true → is_in_use (w.location t) ≡ true
        → ((r' : ℕ) → IsPending w r' → (w.retire r').slot ≡ t → ⊥) → MayHold w r t
    -- a link in a held slot that was retired in epoch `z`: what it names is in use or was retired no
    -- earlier, and so was each epoch that was loaded for a Retire of it that isn't agreed
    pub from_retired : (r q p z t : ℕ) → w.holds r q ≡ true → w.location q ≡ Limbo p z → IsKept (w.location t) z
        → ((r' : ℕ) → IsPending w r' → (w.retire r').slot ≡ t → z ≤ (w.retire r').epoch) → MayHold w r t
    -- a descriptor: it is published, or was retired no earlier than the runner's epoch
    pub descriptor : (r d : ℕ) → is_entered (w.stage r) ≡ true
        → IsKept (w.location (slot_of c d)) (entry_of (w.stage r)) → MayHold w r (slot_of c d)
