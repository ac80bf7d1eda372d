-- A step of the machine as events of the component of epochs and slots.
use Rattle.std.specs.Prelude.{ℕ, List}
use Rattle.machine_states.specs.map_history.specs.declared.op.Request.{Request}
use Rattle.machine_states.specs.table_words.specs.declared.layout.Layout.{Layout}
use Rattle.machine_states.specs.structure_laws.specs.Meaning.{Meaning}
use Rattle.machine_states.specs.runner_parts.specs.declared.event.EventKind.{EventKind}
use Rattle.machine_states.specs.epoch_core.specs.State.{EpochState}
use Rattle.machine_states.specs.epoch_core.specs.Events.{Event}
use Rattle.machine_states.specs.epoch_core.specs.Schedules.{first_state, AllEnabled, after_all}
use Rattle.machine_states.specs.World.{World}
use Rattle.machine_states.specs.First.{IsFirst}
use Rattle.machine_states.specs.Sight.{Sight, sight, Steps}
use Rattle.machine_epochs.specs.Entries.{counts_of}
use Rattle.machine_epochs.specs.Firsts.{first_place}
use Rattle.machine_epochs.specs.Joined.{IsJoinedToEpochs}
use Rattle.machine_epochs.specs.Supplied.{EpochsAreSupplied}
use Rattle.machine_epochs.specs.Chunks.{IsChunk}

module _ (m : Meaning) (l : Layout) where
  -- these enabled events of the component lead to a state that is joined with this one of the machine
  pub record Goes (events : List Event) (w : EpochState) (s : Sight) : Type 0 where
    pub enabled : AllEnabled (counts_of m l) w events
    pub joined : IsJoinedToEpochs m l (after_all (counts_of m l) w events) s

  -- events of which this holds lead to such a state
  abbrev pub GoesBy : (List Event → Type 0) → EpochState → Sight → Type 0
  GoesBy P w s = (events : List Event) × P events × Goes events w s

  -- each step of the machine is the component's events of its kind, where it is supplied
  abbrev pub StepsAreEvents : List Request → Type 0
  StepsAreEvents requests = (w : EpochState) (s s' : Sight) (r : ℕ) (kind : EventKind) → IsJoinedToEpochs m l w s
      → (step : Steps m l requests s s' r kind) → EpochsAreSupplied m l w s r kind step.ask.0
      → GoesBy (IsChunk m l r kind (s.part r) (s.part r).run (s.word (step.ask.0))) w s'

  -- in the first state each slot is where it is at first, and nobody holds one
  abbrev pub StartsJoined : List Request → Type 0
  StartsJoined requests = (w : World) → IsFirst m l requests w
      → IsJoinedToEpochs m l (first_state (first_place m l)) (sight m l requests w)
