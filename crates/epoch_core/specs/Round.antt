-- One slot's way round, as an example: made by one section, retired by the next, and free again two epochs later.
use Rattle.std.specs.Prelude.{ℕ, ◌≡◌, ◌==◌, true, false, cond, List, [], ◌∷◌, ◌++◌}
use Rattle.epoch_core.specs.declared.location.Location.TheVariants.{Live, Free, Limbo, OnBoard}
use Rattle.epoch_core.specs.State.{Counts, Role, Agrees, Makes, Retires, EpochState}
use Rattle.epoch_core.specs.Events.{Event, EnterLoad, Announce, EnterAgain, Exit, ScanEpoch, ScanOne, Advance, Test, TakeSlot, MakeCommit, GiveBoard, TakeBoard, RetireEpoch, RetireCommit, Reach, Publish, RetireDescriptor, after}
use Rattle.epoch_core.specs.Schedules.{first_state, AllEnabled, after_all}
use Rattle.epoch_core.specs.History.{no_history, noted_all}
use Rattle.epoch_core.specs.Starts.{all_free}

-- one worker and the keeper, one node slot, two descriptors
abbrev pub few : Counts
few = record { runners = 1; nodes = 1; descriptors = 2 }

-- a section with one commit
abbrev pub alone : Role → ℕ → Role
alone role k = cond (k == 0) role Agrees

-- the worker enters, and its first section makes the slot
abbrev pub making : List Event
making = EnterLoad 0 ∷ Announce 0 1 ∷ EnterAgain 0 ∷ Publish 0 0 (alone Makes) ∷ TakeSlot 0 0
    ∷ MakeCommit 0 0 0 0 false ∷ RetireDescriptor 0 0 ∷ []

-- its second section retires it, and the worker exits
abbrev pub retiring : List Event
retiring = Reach 0 (λ s. s == 0) ∷ Publish 0 1 (alone (Retires 0)) ∷ RetireEpoch 0 1 0 0 ∷ RetireCommit 0
    ∷ RetireDescriptor 0 1 ∷ Exit 0 ∷ []

-- it scans twice, and the slot is tested
abbrev pub collecting : List Event
collecting = ScanEpoch 0 ∷ ScanOne 0 1 0 true ∷ ScanOne 0 1 1 true ∷ Advance 0 1 2 ∷ ScanEpoch 0
    ∷ ScanOne 0 2 0 true ∷ ScanOne 0 2 1 true ∷ Advance 0 2 2 ∷ Test 0 0 false ∷ []

-- it gives the slot to the board, and another runner takes it
abbrev pub passing : List Event
passing = GiveBoard 0 0 5 ∷ TakeBoard 1 0 5 ∷ []

-- the states after each part
abbrev pub made_state : EpochState
made_state = after_all few (first_state all_free) making

abbrev pub retired_state : EpochState
retired_state = after_all few made_state retiring

abbrev pub last_state : EpochState
last_state = after_all few retired_state collecting

abbrev pub passed_state : EpochState
passed_state = after_all few last_state passing

-- every event may come, and the slot goes from the free list to live, into limbo, and back, and then from one runner to
-- the other
pub record ComesRound : Type 0 where
  pub makes : AllEnabled few (first_state all_free) making
  pub live : made_state.location 0 ≡ Live
  pub retires : AllEnabled few made_state retiring
  pub limbo : retired_state.location 0 ≡ Limbo 0 1
  pub collects : AllEnabled few retired_state collecting
  pub free : last_state.location 0 ≡ Free 0
  pub epoch : last_state.epoch ≡ 3
  pub passes : AllEnabled few last_state passing
  pub given : (after few last_state (GiveBoard 0 0 5)).location 0 ≡ OnBoard 5
  pub passed : passed_state.location 0 ≡ Free 1
  -- the first section's Make was won with slot 0, the second's Retire with epoch 1
  pub made : (noted_all few (first_state all_free) no_history (making ++ retiring ++ collecting)).made 1 0 ≡ 0 ∷ []
  pub retired : (noted_all few (first_state all_free) no_history (making ++ retiring
      ++ collecting)).retired 2 0 ≡ 1 ∷ []
