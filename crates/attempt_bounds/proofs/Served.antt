-- So with one worker no attempt is refused but by a spent word.
use Rattle.std.proofs.Common.{sym, subst, ⊎_elim}
use Rattle.machine_states.specs.map_history.specs.declared.op.Request.{Request}
use Rattle.machine_states.specs.structure_laws.specs.Meaning.{Meaning}
use Rattle.machine_states.specs.structure_laws.specs.Laws.{Laws}
use Rattle.machine_states.specs.structure_laws.specs.Planner.{PlannerLaws}
use Rattle.version_words.specs.RunnerState.{RunnerState}
use Rattle.attempts.specs.try_lock.specs.Planning.{Planning}
use Rattle.attempts.specs.lock_walks.specs.Steady.{IsSteady}
use Rattle.attempts.specs.Course.{IsRefused}
use Rattle.attempts.specs.Attempts.{Answers}
use Rattle.attempts.specs.declared.answers.Attempt.{Attempt}
use Rattle.attempts.specs.declared.answers.Attempt.TheVariants as answers
use Rattle.attempt_bounds.specs.Lone.{NobodyCameBetween, IsLone, LoneAttemptsAreServed}
use Rattle.attempt_bounds.proofs.Planned.{plan_so}
use Rattle.attempt_bounds.proofs.Tried.{none_refused}
use Rattle.attempt_bounds.proofs.Left.{left_so}

module _ {T : Type 0} (m : Meaning) (laws : Laws m) (planning : Planning) (planner : PlannerLaws m planning.per_pair) (steady : IsSteady m planning) where
  refused_so : (request : Request) (answer : Attempt) (old cut : RunnerState T) → IsLone old → IsRefused m planning request answer old cut
      → NobodyCameBetween answer
  refused_so request answer old cut lone refused = ⊎_elim
      (λ plan. subst NobodyCameBetween (sym plan.same)
      (plan_so m laws planning steady request old cut lone plan.readings plan.refusal plan.plans plan.plans.answers))
      (⊎_elim
      (λ lock. absurd (none_refused m laws planning steady request old lock.guarded lone lock.thunk lock.refusal lock.tries))
      (λ section. subst NobodyCameBetween (sym section.same)
      (left_so m laws planning planner steady request old section.left.run.ran lone section.left.run.section section.thunk section.outcome
      section.left.trail section.left.run.ended)))
      refused

  answers_so : (request : Request) (answer : Attempt) (old new : RunnerState T) → IsLone old → Answers m planning request answer old new
      → NobodyCameBetween answer
  answers_so request (answers.Done reply stamp) old new lone is = tt
  answers_so request (answers.Short short) old new lone is = tt
  answers_so request answers.Halted old new lone is = tt
  answers_so request (answers.Spent place word) old new lone is = tt
  answers_so request (answers.Busy place word) old new lone is = refused_so request (answers.Busy place word) old is.cut lone is.cause
  answers_so request (answers.Stale place expected read) old new lone is = refused_so request (answers.Stale place expected read) old is.cut lone is.cause
  answers_so request (answers.Far loads) old new lone is = refused_so request (answers.Far loads) old is.cut lone is.cause

  pub lone_served : LoneAttemptsAreServed T m planning
  lone_served = record { refused = refused_so; answers = answers_so }
