-- A plan of the one worker is refused by a spent word alone.
use Rattle.std.proofs.Common.{◌≡◌, ℕ, length, sym, ap, ◌∙◌, subst, arith, None}
use Rattle.machine_states.specs.map_history.specs.declared.op.Request.{Request}
use Rattle.machine_states.specs.table_words.specs.declared.layout.Layout.{Layout}
use Rattle.machine_states.specs.table_words.specs.Limits.{IsWithinLimits}
use Rattle.machine_states.specs.structure_laws.specs.Scene.{Readings}
use Rattle.machine_states.specs.structure_laws.specs.Meaning.{Meaning}
use Rattle.machine_states.specs.structure_laws.specs.Laws.{Laws}
use Rattle.machine_states.specs.structure_laws.specs.Sections.{IsAllowed}
use Rattle.machine_states.specs.epoch_core.specs.declared.stage.Stage.TheVariants as stages
use Rattle.machine_states.specs.runner_parts.specs.Lists.{no_reads}
use Rattle.machine_states.specs.runner_parts.specs.State.{ReadsState}
use Rattle.version_words.specs.machine_invariant.specs.After.{AreAllowed}
use Rattle.version_words.specs.RunnerState.{RunnerState}
use Rattle.version_words.specs.Stages.{IsAt}
use Rattle.lone_plans.specs.one_worker.specs.Alone.{HasPublishedNone}
use Rattle.lone_plans.specs.Lone.{NobodyRefuses, HasWalkedAlone}
use Rattle.lone_plans.proofs.Planned as alones
use Rattle.attempts.specs.try_lock.specs.declared.planned.Planned.{Planned}
use Rattle.attempts.specs.try_lock.specs.declared.planned.Planned.TheVariants as plans
use Rattle.attempts.specs.try_lock.specs.Planning.{Planning}
use Rattle.attempts.specs.try_lock.specs.Plans.{reads_walked, IsWalk, Answers}
use Rattle.attempts.specs.lock_walks.specs.Steady.{IsSteady}
use Rattle.attempts.specs.Course.{of_plan, HasPlanned}
use Rattle.attempts.specs.caller_facts.specs.Asking.{MayAttempt}
use Rattle.attempts.specs.caller_facts.proofs.Shapes.{allowed_at}
use Rattle.attempt_bounds.specs.Lone.{NobodyCameBetween, IsLone}

-- what no plan is refused by is no answer of an attempt
plan_met : (p : Planned) → NobodyRefuses p → NobodyCameBetween (of_plan p)
plan_met (plans.Busy place word) none = none
plan_met (plans.Spent place word) none = tt
plan_met (plans.Stale place expected read) none = none
plan_met (plans.Far loads) none = none
plan_met (plans.Thunk thunk) none = tt
plan_met plans.Halted none = tt

-- the one worker has number 0
pub worker_zero : {T : Type 0} (m : Meaning) (planning : Planning) (request : Request) (r : RunnerState T) → r.layout.runners ≡ 1 → MayAttempt planning request r → r.number ≡ 0
worker_zero m planning request r one may = alones.worker_zero request r one may.next

module _ {T : Type 0} (m : Meaning) (laws : Laws m) (planning : Planning) (steady : IsSteady m planning) (request : Request) (old new : RunnerState T)
    (lone : IsLone old) (readings : Readings) (answer : Planned) (has : HasPlanned m planning request readings answer old new) where
  pub number_is : new.number ≡ 0
  number_is = has.still.number ∙ worker_zero m planning request old lone.one has.enters.may

  pub lone_is : IsLone new
  lone_is = record {
    limits = subst IsWithinLimits (sym has.still.layout) lone.limits;
    allowed = subst AreAllowed (sym has.still.requests) lone.allowed;
    one = ap (λ (l : Layout). l.runners) has.still.layout ∙ lone.one;
  }

  abbrev pub epoch : ℕ
  epoch = has.enters.enters.epoch

  pub at_is : IsAt new (stages.Entered epoch) None
  at_is = has.walked.at epoch None has.enters.enters.at

  reads_is : new.part.reads ≡ reads_walked no_reads readings
  reads_is = has.walked.reads ∙ ap (λ (s : ReadsState). reads_walked s readings) has.enters.enters.reads

  pub walk_is : new.part.reads.walk ≡ readings
  walk_is = ap (λ (s : ReadsState). s.walk) reads_is

  pub cells_is : new.part.reads.cells ≡ readings
  cells_is = ap (λ (s : ReadsState). s.cells) reads_is

  pub fresh_is : HasPublishedNone new.part
  fresh_is = record {
    unpublished = at_is.published;
    walked = let cells = ap length cells_is in let walk = ap length walk_is in omega (arith, cells, walk);
  }

  pub allowed_is : IsAllowed request.op
  allowed_is = allowed_at old.requests request.number request has.enters.may.there lone.allowed.each

  walked_is : HasWalkedAlone m planning request.op readings has.entered new
  walked_is = record {
    alone = record { lone = lone_is; worker = number_is; epoch = epoch; at = at_is; fresh = fresh_is };
    loads = has.walked.loads;
    read = walk_is;
    reached = has.reached;
    allowed = allowed_is;
    served = has.enters.may.served;
    walk = subst (λ l. IsWalk m planning l request.op readings) (sym has.still.layout) has.walk;
  }

  pub plan_so : Answers m planning old.layout request.op request.number readings answer → NobodyCameBetween (of_plan answer)
  plan_so is = plan_met answer (alones.plan_so m laws planning steady request.op readings has.entered new walked_is request.number answer
      (subst (λ l. Answers m planning l request.op request.number readings answer) (sym has.still.layout) is))
