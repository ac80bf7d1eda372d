-- The outer lock of a thunk that fits a plan's readings is a lock.
use Rattle.std.specs.Prelude.{slice_get}
use Rattle.std.proofs.Common.{◌≡◌, ap, ◌∙◌, subst}
use Rattle.machine_states.specs.map_history.specs.declared.op.Request.{Request}
use Rattle.machine_states.specs.body_terms.specs.declared.thunk.Thunk.{Thunk}
use Rattle.machine_states.specs.table_words.specs.Limits.{IsWithinLimits}
use Rattle.machine_states.specs.structure_laws.specs.Scene.{Readings}
use Rattle.machine_states.specs.structure_laws.specs.Meaning.{Meaning}
use Rattle.machine_states.specs.structure_laws.specs.Laws.{Laws}
use Rattle.machine_states.specs.structure_laws.specs.Shape.{Shaped}
use Rattle.machine_states.specs.runner_parts.specs.State.{ReadsState}
use Rattle.machine_facts.specs.machine_invariant.specs.After.{AreAllowed}
use Rattle.version_words.specs.RunnerState.{RunnerState}
use Rattle.caller_facts.specs.try_lock.specs.declared.planned.Planned.TheVariants as plans
use Rattle.caller_facts.specs.try_lock.specs.Planning.{Planning}
use Rattle.caller_facts.proofs.Shapes.{fitting_shaped}
use Rattle.attempts.specs.Course.{HasPlanned}
use Rattle.attempts.proofs.Courses.{planned_at, planned_reads}

module _ {T : Type 0} (m : Meaning) (laws : Laws m) (planning : Planning) (request : Request) (readings : Readings) (thunk : Thunk) (old r : RunnerState T)
    (limits : IsWithinLimits r.layout) (allowed : AreAllowed r.requests) (is : HasPlanned m planning request readings (plans.Thunk thunk) old r) where
  walk : r.part.reads.walk ≡ readings
  walk = ap (λ (x : ReadsState). x.walk) (planned_reads m planning request old readings (plans.Thunk thunk) r is)

  pub planned_shaped : Shaped m r.layout readings thunk
  planned_shaped = subst (λ (xs : Readings). Shaped m r.layout xs thunk) walk
      (fitting_shaped m laws request thunk r limits allowed is.reached is.enters.enters.epoch
      (planned_at m planning request old readings (plans.Thunk thunk) r is).at
      (ap (λ rs. slice_get rs request.number) is.still.requests ∙ is.enters.may.there)
      ((λ i. m.fits (is.still.layout i) request.op (walk i) thunk) ∙ is.answers.fits))
