-- The next step of each run after every list of events.
use Rattle.std.specs.Prelude.{List}
use Rattle.machine_states.specs.map_history.specs.declared.op.Request.{Request}
use Rattle.machine_states.specs.table_words.specs.Limits.{IsWithinLimits}
use Rattle.machine_states.specs.table_words.specs.declared.layout.Layout.{Layout}
use Rattle.machine_states.specs.structure_laws.specs.Meaning.{Meaning}
use Rattle.machine_states.specs.runner_parts.specs.declared.event.Event.{Event}
use Rattle.machine_states.specs.World.{World}
use Rattle.machine_states.specs.Schedules.{IsAfter}
use Rattle.machine_states.specs.Sight.{sight}
use Rattle.reached_histories.specs.machine_facts.specs.machine_invariant.specs.After.{AreAllowed}
use Rattle.next_steps.specs.Enabled.{NextIsEnabled, RunsGoOn}

-- whoever is in a run and wasn't joined has an enabled event, the next one of its opening, line or end, but
-- where a Make finds no free slot or a link no free block; and the machine can make it
pub record NextStepsGo (m : Meaning) (l : Layout) (requests : List Request) (w : World) : Type 0 where
  pub enabled : NextIsEnabled m l requests (sight m l requests w)
  pub goes_on : RunsGoOn m l requests w

-- so it is wherever events lead from a first state, where the layout and the requests are within their limits
abbrev pub NextStepsAfter : Meaning → Layout → List Request → List Event → World → Type 0
NextStepsAfter m l requests events w = IsWithinLimits l → AreAllowed requests
    → IsAfter m l requests events w → NextStepsGo m l requests w
