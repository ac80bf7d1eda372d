-- The first state, and lists of enabled events.
use Rattle.std.specs.Prelude.{ℕ, ◌≡◌, Bool, true, false, List, [], ◌∷◌, None}
use Rattle.guard_core.specs.State.{Counts, Location, Free, Live, Limbo, GuardState}
use Rattle.guard_core.specs.Events.{Event, Enabled, after}

-- it is in somebody's free list
abbrev pub is_free : Location → Bool
is_free (Free q) = true
is_free (Live q) = false
is_free (Limbo q d) = false

-- at first every descriptor and every block is free
pub record IsFirst (descriptor block : ℕ → Location) : Type 0 where
  pub descriptors : (d : ℕ) → is_free (descriptor d) ≡ true
  pub blocks : (b : ℕ) → is_free (block b) ≡ true

-- the first state, with descriptors and blocks at these places
abbrev pub first_state : (ℕ → Location) → (ℕ → Location) → GuardState
first_state descriptor block = record {
  entered = λ r. false;
  guard = λ r. None;
  sure = λ r. false;
  run = λ r. None;
  looked = λ r. [];
  descriptor = descriptor;
  block = block;
  linked = λ d. [];
  over = λ d. false;
}

module _ (c : Counts) where
  -- each event of the list is enabled in the state that the events before it lead to
  abbrev pub AllEnabled : GuardState → List Event → Type 0
  AllEnabled w [] = Unit {0}
  AllEnabled w (e ∷ es) = Enabled c w e × AllEnabled (after w e) es

-- the state after a list of events
abbrev pub after_all : GuardState → List Event → GuardState
after_all w [] = w
after_all w (e ∷ es) = after_all (after w e) es
