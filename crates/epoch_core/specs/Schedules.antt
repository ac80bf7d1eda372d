-- The first state, and lists of enabled events.
use Rattle.std.specs.Prelude.{ℕ, ◌<◌, ◌≡◌, Bool, true, false, List, [], ◌∷◌}
use Rattle.epoch_core.specs.declared.stage.Stage.TheVariants.{Idle}
use Rattle.epoch_core.specs.declared.location.Location.{Location}
use Rattle.epoch_core.specs.declared.location.Location.TheVariants.{Fixed, Live, Hand, Free, Worn, Limbo, OnBoard}
use Rattle.epoch_core.specs.State.{Counts, Agrees, no_retire, EpochState}
use Rattle.epoch_core.specs.Events.{Event, Enabled, after}
use Rattle.epoch_core.specs.Sound.{is_for_nodes}

-- no slot is given out yet
abbrev pub is_unused : Location → Bool
is_unused Fixed = true
is_unused (Free r) = true
is_unused Live = false
is_unused (Hand r) = false
is_unused (Worn r) = false
is_unused (OnBoard i) = false
is_unused (Limbo r y) = false

-- the first state, with the slots at these places
abbrev pub first_state : (ℕ → Location) → EpochState
first_state location = record {
  epoch = 1;
  announced = λ r. 0;
  stage = λ r. Idle;
  clear = λ r r'. false;
  location = location;
  holds = λ r s. false;
  retire = λ r. no_retire;
  role = λ d k. Agrees;
  log = λ d k. 0;
}

module _ (c : Counts) where
  -- each slot is fixed or in a free list, and only node slots are fixed
  pub record IsFirst (location : ℕ → Location) : Type 0 where
    pub unused : (s : ℕ) → is_unused (location s) ≡ true
    pub for_nodes : (s : ℕ) → is_for_nodes (location s) ≡ true → s < c.nodes

  -- each event of the list is enabled in the state that the events before it lead to
  abbrev pub AllEnabled : EpochState → List Event → Type 0
  AllEnabled w [] = Unit {0}
  AllEnabled w (e ∷ es) = Enabled c w e × AllEnabled (after c w e) es

  -- the state after a list of events
  abbrev pub after_all : EpochState → List Event → EpochState
  after_all w [] = w
  after_all w (e ∷ es) = after_all (after c w e) es
