use Rattle.std.proofs.Common.{sym, subst, ◌∙◌, true}
use Rattle.std.specs.Prelude.{◌≡◌}
use Rattle.lock_tests.proofs.Sharing.{passed_of_two, may_of_two, served_own, lacks_still}
use Rattle.lock_tests.proofs.board_rows.visit.Goals as goal

pub attempt-runner-requires-clause-next : goal.attempt-runner-requires-clause-next
attempt-runner-requires-clause-next g c κs within =
    may_of_two c.args.table.now c.args.runner c.requires.own c.requires.two c.args.request.now c.requires.there c.requires.before
    (g.S.Planner.planning c.args.table.now.structure) (c.if-request-number.false ∙ c.number.ensures)
    (subst (λ s. (g.S.Planner.planning s).serves c.args.request.now.op ≡ true) c.structure.ensures (sym c.if-not-serves.ensures))

pub returns-then-request-number-clause-served : goal.returns-then-request-number-clause-served
returns-then-request-number-clause-served g c =
    passed_of_two c.args.table.now c.args.runner c.requires.own c.requires.two c.args.request.now c.requires.there c.requires.before
    (λ same. c.if-request-number.true (same ∙ sym c.number.ensures))

pub returns-in-Done-clause-served : goal.returns-in-Done-clause-served
returns-in-Done-clause-served g c =
    served_own (g.S.Structure.meaning c.args.table.now.structure) (g.S.Planner.planning c.args.table.now.structure) c.args.table.now c.args.runner c.attempt-runner.result.0
    c.requires.own c.attempt-runner.ensures.own c.args.request.now c.attempt-runner.result.1 _ _ _ _ _ _ _ c.attempt-runner.ensures.attempts c.requires.before
    c.in-Done.reply c.in-Done.stamp c.in-Done.is

pub returns-in-Short-clause-lacks : goal.returns-in-Short-clause-lacks
returns-in-Short-clause-lacks g c =
    lacks_still (g.S.Structure.meaning c.args.table.now.structure) (g.S.Planner.planning c.args.table.now.structure) c.args.table.now c.args.runner c.attempt-runner.result.0
    c.requires.own c.attempt-runner.ensures.own c.args.request.now c.attempt-runner.result.1 _ _ _ _ _ _ _ c.attempt-runner.ensures.attempts c.requires.before
    c.in-Short.short c.in-Short.is
