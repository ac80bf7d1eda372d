-- The state after a list of events from the first state on.
use Rattle.std.specs.Prelude.{◌≡◌, ℕ, List, take, slice_get, Some, None}
use Rattle.runner_steps.specs.map_history.specs.declared.op.Request.{Request}
use Rattle.runner_steps.specs.table_words.specs.declared.layout.Layout.{Layout}
use Rattle.runner_steps.specs.runner_parts.specs.structure_laws.specs.Meaning.{Meaning}
use Rattle.runner_steps.specs.runner_parts.specs.declared.event.Event.{Event}
use Rattle.machine_states.specs.World.{World, happens, run}
use Rattle.machine_states.specs.First.{IsFirst}

-- these events lead from the first state to this one
pub record IsAfter (m : Meaning) (l : Layout) (requests : List Request) (events : List Event) (w : World) : Type 0 where
  pub start : World
  pub first : IsFirst m l requests start
  pub runs : run m l requests start events ≡ Some w

-- the event with this number is the first that isn't enabled
pub record StopsAt (m : Meaning) (l : Layout) (requests : List Request) (events : List Event) (at : ℕ) : Type 0 where
  pub world : World
  pub before : IsAfter m l requests (take at events) world
  pub event : Event
  pub here : slice_get events at ≡ Some event
  pub refused : happens m l requests world event ≡ None
