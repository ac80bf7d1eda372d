use Rattle.std.proofs.Common.{sym, ap, subst}
use Rattle.machine_states.specs.runner_parts.specs.Tests.{is_answered}
use Rattle.lock_attempts.specs.attempts.specs.caller_facts.specs.Asking.{MayAttempt}
use Rattle.lock_tests.proofs.Next.{may_ask, may_ask_again}
use Rattle.lock_tests.proofs.block_rows.ask_on.Goals as goal

pub attempt-runner-requires-clause-next : goal.attempt-runner-requires-clause-next
attempt-runner-requires-clause-next g c κs within =
    let planning = g.S.Planner.planning c.args.table.now.structure in
    subst (λ q. MayAttempt planning q c.args.runner) (sym c.asked-request.ensures)
    (may_ask planning c.args.table.now c.requires.scene c.args.runner c.requires.own c.requires.fresh.tidy c.requires.fresh.number
    (ap (λ ks. is_answered ks 2) c.requires.fresh.knows))

pub attempt-after-requires-clause-next : goal.attempt-after-requires-clause-next
attempt-after-requires-clause-next g c κs within =
    may_ask_again (g.S.Structure.meaning c.args.table.now.structure) (g.S.Planner.planning c.args.table.now.structure) c.args.table.now c.requires.scene c.args.runner c.attempt-runner.result.0
    c.requires.own c.attempt-runner.ensures.own c.asked-request.result c.attempt-runner.result.1 _ _ _ _ _ _ _ c.attempt-runner.ensures.attempts
    c.requires.fresh.number c.asked-request.ensures c.in-Busy.place c.in-Busy.word c.in-Busy.is
