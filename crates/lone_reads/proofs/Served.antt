-- So with one worker no read is refused but by a spent word or by its body.
use Rattle.std.proofs.Common.{◌≡◌, ℕ, sym, subst, true}
use Rattle.runner_parts.specs.structure_laws.specs.map_history.specs.declared.op.Op.TheVariants.{Get}
use Rattle.runner_parts.specs.structure_laws.specs.map_history.specs.declared.op.Request.{Request}
use Rattle.runner_parts.specs.structure_laws.specs.Meaning.{Meaning}
use Rattle.runner_parts.specs.structure_laws.specs.Laws.{Laws}
use Rattle.runner_parts.specs.structure_laws.specs.Planner.{PlannerLaws}
use Rattle.version_words.specs.RunnerState.{RunnerState}
use Rattle.lone_plans.specs.Lone.{IsLone}
use Rattle.seq_read.specs.caller_facts.specs.lock_walks.specs.Gets.{GetsAreLight}
use Rattle.seq_read.specs.caller_facts.specs.lock_walks.specs.Steady.{IsSteady}
use Rattle.seq_read.specs.caller_facts.specs.try_lock.specs.Planning.{Planning}
use Rattle.seq_read.specs.Course.{IsRefused, ByPlan, ByBody, ByCell, ByLock}
use Rattle.seq_read.specs.Reads.{Answers}
use Rattle.seq_read.specs.declared.answers.Read.{Read}
use Rattle.seq_read.specs.declared.answers.Read.TheVariants as answers
use Rattle.seq_read.proofs.Light.{get_looks}
use Rattle.lone_reads.specs.Lone.{NobodyCameBetween, IsMadeOrSpent, LoneReadsAreServed}
use Rattle.lone_reads.proofs.Refused.{plan_so, no_cell, no_lock}

module _ {T : Type 0} (m : Meaning) (laws : Laws m) (planning : Planning) (planner : PlannerLaws m planning.per_pair) (steady : IsSteady m planning) where
  refused_so : (request : Request) (answer : Read) (old cut : RunnerState T) → IsLone old → IsRefused m planning request answer old cut
      → NobodyCameBetween answer
  refused_so request answer old cut lone (ByPlan is) = subst NobodyCameBetween (sym is.same) (plan_so m laws planning request old lone steady is.readings is.refusal cut is.plans)
  refused_so request answer old cut lone (ByBody at same is) = subst NobodyCameBetween (sym same) tt
  refused_so request answer old cut lone (ByCell place expected read same is) = absurd (no_cell m laws planning request old lone planner place expected read cut is)
  refused_so request answer old cut lone (ByLock is) = absurd (no_lock m laws planning request old lone is.thunk is.found is.clock is.word cut is.locks is.other)

  answers_so : (request : Request) (answer : Read) (old new : RunnerState T) → IsLone old → Answers m planning request answer old new
      → NobodyCameBetween answer
  answers_so request (answers.Done reply stamp) old new lone is = tt
  answers_so request answers.Halted old new lone is = tt
  answers_so request (answers.Spent place word) old new lone is = tt
  answers_so request (answers.Locked at) old new lone is = tt
  answers_so request (answers.Busy place word) old new lone is = refused_so request (answers.Busy place word) old is.cut lone is.cause
  answers_so request (answers.Stale place expected read) old new lone is = refused_so request (answers.Stale place expected read) old is.cut lone is.cause
  answers_so request (answers.Far loads) old new lone is = refused_so request (answers.Far loads) old is.cut lone is.cause

  module _ (light : GetsAreLight m planning) where
    gets_so : m.is_map ≡ true → (request : Request) (key : ℕ) → request.op ≡ Get key → (answer : Read) (old new : RunnerState T) → IsLone old
        → Answers m planning request answer old new → IsMadeOrSpent answer
    gets_so map request key get (answers.Done reply stamp) old new lone is = tt
    gets_so map request key get answers.Halted old new lone is = tt
    gets_so map request key get (answers.Spent place word) old new lone is = tt
    gets_so map request key get (answers.Locked at) old new lone is = get_looks m planning light request key get old map at is.cut is.cause
    gets_so map request key get (answers.Busy place word) old new lone is = refused_so request (answers.Busy place word) old is.cut lone is.cause
    gets_so map request key get (answers.Stale place expected read) old new lone is = refused_so request (answers.Stale place expected read) old is.cut lone is.cause
    gets_so map request key get (answers.Far loads) old new lone is = refused_so request (answers.Far loads) old is.cut lone is.cause

    pub lone_served : LoneReadsAreServed T m planning
    lone_served = record { refused = refused_so; answers = answers_so; gets = gets_so }
