use Rattle.std.proofs.Common.{sym, ap, subst}
use Rattle.machine_states.specs.runner_parts.specs.Tests.{is_answered}
use Rattle.lock_attempts.specs.attempts.specs.caller_facts.specs.Asking.{MayAttempt}
use Rattle.lock_tests.proofs.Next.{may_add, may_take_then}
use Rattle.lock_tests.proofs.block_rows.take_out.Goals as goal

pub attempt-runner-requires-clause-next : goal.attempt-runner-requires-clause-next
attempt-runner-requires-clause-next g c κs within =
    let planning = g.S.Planner.planning c.args.table.now.structure in
    subst (λ q. MayAttempt planning q c.args.runner) (sym c.added-request.ensures)
    (may_add planning c.args.table.now c.requires.scene c.args.runner c.requires.own c.requires.fresh.tidy c.requires.fresh.number
    (ap (λ ks. is_answered ks 0) c.requires.fresh.knows))

pub attempt-after-requires-clause-next : goal.attempt-after-requires-clause-next
attempt-after-requires-clause-next g c κs within =
    let planning = g.S.Planner.planning c.args.table.now.structure in
    subst (λ q. MayAttempt planning q c.attempt-runner.result.0) (sym c.taken.ensures)
    (may_take_then (g.S.Structure.meaning c.args.table.now.structure) planning c.args.table.now c.requires.scene c.args.runner c.attempt-runner.result.0
    c.requires.own c.attempt-runner.ensures.own c.added-request.result c.attempt-runner.result.1 _ _ _ _ _ _ _ c.attempt-runner.ensures.attempts
    c.requires.fresh c.added-request.ensures c.in-Done.reply c.in-Done.stamp c.in-Done.is)
