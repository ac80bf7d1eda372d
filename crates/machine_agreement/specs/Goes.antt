-- A step of the machine as events of the component of agreement.
use Rattle.std.specs.Prelude.{◌≡◌, ℕ, List, ◌++◌, replicate}
use Rattle.machine_states.specs.map_history.specs.declared.op.Request.{Request}
use Rattle.machine_states.specs.table_words.specs.declared.layout.Layout.{Layout}
use Rattle.machine_states.specs.table_words.specs.declared.spot.Spot.TheVariants.{Cell}
use Rattle.machine_states.specs.structure_laws.specs.Meaning.{Meaning}
use Rattle.machine_states.specs.runner_parts.specs.declared.event.EventKind.{EventKind}
use Rattle.agreement_core.specs.State.{AgreementState}
use Rattle.agreement_core.specs.Events.{Event, Pass}
use Rattle.agreement_core.specs.Schedules.{first_state, AllEnabled, after_all}
use Rattle.machine_states.specs.World.{World}
use Rattle.machine_states.specs.First.{IsFirst}
use Rattle.machine_states.specs.Sight.{Sight, sight, Steps}
use Rattle.machine_scenes.specs.Shown.{rules_of}
use Rattle.machine_agreement.specs.Joined.{IsJoinedToAgreement}
use Rattle.machine_agreement.specs.Supplied.{AgreementIsSupplied}
use Rattle.machine_agreement.specs.Chunks.{IsChunk}

module _ (m : Meaning) (l : Layout) where
  -- these events, and then a Pass of this runner for each check behind them that passes, lead from the one
  -- state to the other, each of them enabled where it comes
  pub record Leads (r : ℕ) (heads : List Event) (w w' : AgreementState) : Type 0 where
    pub passes : ℕ
    pub enabled : AllEnabled (rules_of m l) w (heads ++ replicate passes (Pass r))
    pub there : after_all (rules_of m l) w (heads ++ replicate passes (Pass r)) ≡ w'

  -- they lead to a state that is joined with this one of the machine
  pub record Goes (r : ℕ) (heads : List Event) (w : AgreementState) (s : Sight) : Type 0 where
    pub next : AgreementState
    pub leads : Leads r heads w next
    pub joined : IsJoinedToAgreement m l next s

  -- each step of the machine is the events of its kind, where it is supplied, and then a Pass for each
  -- check behind them that passes
  abbrev pub StepsAreEvents : List Request → Type 0
  StepsAreEvents requests = (w : AgreementState) (s s' : Sight) (r : ℕ) (kind : EventKind) → IsJoinedToAgreement m l w s
      → (step : Steps m l requests s s' r kind) → AgreementIsSupplied m l w s r kind (s.word (step.ask.0))
      → (heads : List Event) × IsChunk m l w r kind (s.part r) (s.part r).run (s.word (step.ask.0)) heads
      × Goes r heads w s'

  -- in the first state agreement has done nothing
  abbrev pub StartsJoined : List Request → Type 0
  StartsJoined requests = (w : World) → IsFirst m l requests w
      → IsJoinedToAgreement m l (first_state (λ p. (sight m l requests w).word (Cell p))) (sight m l requests w)
