use Rattle.std.proofs.Common.{sym, ap, subst}
use Rattle.machine_states.specs.runner_parts.specs.Tests.{is_answered}
use Rattle.lock_attempts.specs.attempts.specs.caller_facts.specs.Asking.{MayAttempt}
use Rattle.lock_tests.proofs.Next.{may_add}
use Rattle.lock_tests.proofs.attempt_scene.add_once.Goals as goal

pub attempt-requires-clause-next : goal.attempt-requires-clause-next
attempt-requires-clause-next g c κs within =
    let planning = g.S.Planner.planning c.args.table.now.structure in
    subst (λ q. MayAttempt planning q c.args.runner) (sym c.added.ensures)
    (may_add planning c.args.table.now c.requires.scene c.args.runner c.requires.own c.requires.fresh.tidy c.requires.fresh.number
    (ap (λ ks. is_answered ks 0) c.requires.fresh.knows))
