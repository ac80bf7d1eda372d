-- What is known after every list of events of the machine.
use Rattle.std.specs.Prelude.{◌≡◌, List, Some}
use Rattle.machine_states.specs.map_history.specs.declared.op.Request.{Request}
use Rattle.machine_states.specs.table_words.specs.Limits.{IsWithinLimits}
use Rattle.machine_states.specs.table_words.specs.declared.layout.Layout.{Layout}
use Rattle.machine_states.specs.structure_laws.specs.Meaning.{Meaning}
use Rattle.machine_states.specs.runner_parts.specs.declared.event.Event.{Event}
use Rattle.machine_states.specs.World.{World, happens}
use Rattle.machine_states.specs.Schedules.{IsAfter}
use Rattle.machine_states.specs.Sight.{sight}
use Rattle.machine_invariant.specs.Along.{Components, first_components}
use Rattle.machine_invariant.specs.After.{AreAllowed}
use Rattle.machine_facts.specs.States.{FactsStand}
use Rattle.machine_facts.specs.Passed.{Leads, GoSoundly}
use Rattle.machine_facts.specs.Once.{EachSectionOnce}

-- where these events lead from a first state of the machine to this one: the components go along,
-- all facts hold of each state that is passed and of each step, so of this state, and each section
-- that was published had its effects once
pub record AreFactsAfter (m : Meaning) (l : Layout) (requests : List Request)
    (events : List Event) (w : World) (after : IsAfter m l requests events w) : Type 0 where
  pub components : Components
  pub through : GoSoundly m l requests after.start
      (first_components m l (sight m l requests after.start)) events w components
  pub here : FactsStand m l (sight m l requests w) components
  pub once : EachSectionOnce m l requests after.start
      (first_components m l (sight m l requests after.start)) events w components

-- so it is where the layout and the requests are within their limits
abbrev pub FactsAfter : Meaning → Layout → List Request → List Event → World → Type 0
FactsAfter m l requests events w = IsWithinLimits l → AreAllowed requests
    → (after : IsAfter m l requests events w)
    → AreFactsAfter m l requests events w after

-- an event leads from the one state to the other: all facts hold of both, and of the step
pub record AreFactsOfStep (m : Meaning) (l : Layout) (requests : List Request) (w : World)
    (e : Event) (v : World) : Type 0 where
  pub before : Components
  pub after : Components
  pub there : FactsStand m l (sight m l requests w) before
  pub leads : Leads m l requests w before e v after
  pub here : FactsStand m l (sight m l requests v) after

-- so it is of each event that is enabled in a state to which events lead from a first one
abbrev pub StepFactsAfter : Meaning → Layout → List Request → List Event → World → Type 0
StepFactsAfter m l requests events w = IsWithinLimits l → AreAllowed requests
    → IsAfter m l requests events w
    → (e : Event) (v : World) → happens m l requests w e ≡ Some v
    → AreFactsOfStep m l requests w e v
