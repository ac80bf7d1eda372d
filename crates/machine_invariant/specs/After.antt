-- What holds after every list of events of the machine.
use Rattle.std.specs.Prelude.{List, All}
use Rattle.machine_states.specs.map_history.specs.declared.op.Request.{Request}
use Rattle.machine_states.specs.map_history.specs.Requests.{AreInOrder}
use Rattle.machine_states.specs.table_words.specs.declared.layout.Layout.{Layout}
use Rattle.machine_states.specs.table_words.specs.Limits.{IsWithinLimits}
use Rattle.machine_states.specs.structure_laws.specs.Meaning.{Meaning}
use Rattle.machine_states.specs.structure_laws.specs.Sections.{IsAllowed}
use Rattle.machine_states.specs.runner_parts.specs.declared.event.Event.{Event}
use Rattle.machine_states.specs.World.{World}
use Rattle.machine_states.specs.Schedules.{IsAfter}
use Rattle.machine_states.specs.Sight.{sight}
use Rattle.machine_invariant.specs.Along.{Components, first_components, GoAlong}
use Rattle.machine_invariant.specs.States.{StateIsSound}

-- the requests are at most 131,072, numbered by their index, in traces that never fall along the list and
-- are below 64, and each one's keys and value are within the limits
pub record AreAllowed (requests : List Request) : Type 0 where
  pub in_order : AreInOrder requests 64
  pub each : All (λ (request : Request). IsAllowed request.op) requests

-- where these events, each enabled where it is made, lead from a first state of the machine to this one,
-- the components go along with them, event by event, and this state is sound beside the components' states
-- and histories
pub record IsSoundAfter (m : Meaning) (l : Layout) (requests : List Request) (events : List Event) (w : World)
    (after : IsAfter m l requests events w) : Type 0 where
  pub components : Components
  pub along : GoAlong m l requests after.start (first_components m l (sight m l requests after.start)) events w
      components
  pub sound : StateIsSound m l (sight m l requests w) components

-- so it is where the layout and the requests are within their limits
abbrev pub WholeAfter : Meaning → Layout → List Request → List Event → World → Type 0
WholeAfter m l requests events w = IsWithinLimits l → AreAllowed requests → (after : IsAfter m l requests events w)
    → IsSoundAfter m l requests events w after
