-- What a runner in a run knows of its section's request.
use Rattle.std.specs.Prelude.{ℕ, ◌<◌, ◌≡◌, true, false, List, Some}
use Rattle.machine_states.specs.map_history.specs.declared.op.Request.{Request}
use Rattle.machine_states.specs.body_terms.specs.Line.{micro_at}
use Rattle.machine_states.specs.body_terms.specs.declared.micro.Micro.{Micro}
use Rattle.machine_states.specs.body_terms.specs.declared.micro.Micro.TheVariants as micros
use Rattle.machine_states.specs.table_words.specs.declared.layout.Layout.{Layout}
use Rattle.machine_states.specs.table_words.specs.Limits.{IsWithinLimits}
use Rattle.machine_states.specs.structure_laws.specs.Meaning.{Meaning}
use Rattle.machine_states.specs.runner_parts.specs.declared.entries.Known.{Known}
use Rattle.machine_states.specs.runner_parts.specs.declared.event.EventKind.{EventKind}
use Rattle.machine_states.specs.runner_parts.specs.State.{RunState, PartState}
use Rattle.machine_states.specs.runner_parts.specs.Tests.{knows}
use Rattle.machine_states.specs.runner_steps.specs.Sections.{thunk_of, line_of}
use Rattle.machine_states.specs.World.{World}
use Rattle.machine_states.specs.First.{IsFirst}
use Rattle.machine_states.specs.Reached.{Reached}
use Rattle.machine_states.specs.Sight.{Sight, sight, Steps}
use Rattle.machine_invariant.specs.After.{AreAllowed}
use Rattle.machine_invariant.specs.Whole.{Beside, IsWhole}

-- the word of this request is known to which this step of a run writes
abbrev pub IsTold : List Known → ℕ → Micro → Type 0
IsTold known request micros.StampExchange = knows known request false ≡ true
IsTold known request (micros.ReplyExchange reply) = knows known request true ≡ true
IsTold known request _ = Unit {0}

module _ (m : Meaning) where
  -- the runner knows the words of the run's request to which the steps write that the run has
  -- passed
  abbrev pub RunIsTold : List Known → RunState → Type 0
  RunIsTold known q = (i : ℕ) → i < q.at
      → IsTold known (thunk_of q.opened).request (micro_at (line_of m q) i)

  pub record PartIsTold (p : PartState) : Type 0 where
    pub told : (q : RunState) → p.run ≡ Some q → RunIsTold p.records.known q

  -- each runner does
  abbrev pub RunsAreTold : Sight → Type 0
  RunsAreTold s = (r : ℕ) → PartIsTold (s.part r)

  module _ (l : Layout) (requests : List Request) where
    -- so it is at first, and each step keeps it
    abbrev pub FirstIsTold : Type 0
    FirstIsTold = (w : World) → IsFirst m l requests w → RunsAreTold (sight m l requests w)

    abbrev pub StepsTellRuns : Type 0
    StepsTellRuns = (g : Beside) (s s' : Sight) (r : ℕ) (kind : EventKind) → IsWhole m l g s
        → Steps m l requests s s' r kind → RunsAreTold s → RunsAreTold s'

    -- so it is in every state that the machine reaches
    abbrev pub ReachedAreTold : Type 0
    ReachedAreTold = IsWithinLimits l → AreAllowed requests → (w : World) → Reached m l requests w
        → RunsAreTold (sight m l requests w)
