-- The states that the machine reaches.
use Rattle.std.specs.Prelude.{List}
use Rattle.runner_steps.specs.map_history.specs.declared.op.Request.{Request}
use Rattle.runner_steps.specs.table_words.specs.declared.layout.Layout.{Layout}
use Rattle.runner_steps.specs.runner_parts.specs.structure_laws.specs.Meaning.{Meaning}
use Rattle.runner_steps.specs.runner_parts.specs.declared.event.Event.{Event}
use Rattle.machine_states.specs.World.{World}
use Rattle.machine_states.specs.Schedules.{IsAfter}

-- some list of events, each enabled where it is made, leads from the first state to this one
pub record Reached (m : Meaning) (l : Layout) (requests : List Request) (w : World) : Type 0 where
  pub events : List Event
  pub after : IsAfter m l requests events w
