use Rattle.std.proofs.lemmas.Result.{err_from_is_err_and}
use Rattle.flock_tool.proofs.Ends.{IfSome-from, asks_another, must_another, must_layout, must_plan, must_refuse, refused_layout}
use Rattle.flock_tool.proofs.plan.plan_of.Goals as goal

pub returns-in_err-traces-clause-must : goal.returns-in_err-traces-clause-must
returns-in_err-traces-clause-must g c = λ steady.
    let p = err_from_is_err_and c.from_residual.result c.from_residual.ensures.1 in
    rw (p.1, p.2) (IfSome-from _ _ _ (c.in_err-traces.ensures.exact steady) (λ text exact. must_refuse c.args.options c.in_err-traces.field-0.0 text exact))

-- a text for another table
pub returns-then-is_for_another_table-clause-refused : goal.returns-then-is_for_another_table-clause-refused
returns-then-is_for_another_table-clause-refused g c =
    asks_another c.args.options _ c.in_ok-traces.traces c.in_ok-traces.ensures.answer (c.is_for_another_table.ensures.0 c.if-is_for_another_table.true)

pub returns-then-is_for_another_table-clause-must : goal.returns-then-is_for_another_table-clause-must
returns-then-is_for_another_table-clause-must g c = λ steady.
    must_another c.args.options _ c.in_ok-traces.traces c.in_ok-traces.ensures.answer (c.in_ok-traces.ensures.exact steady)

-- too many node slots
pub returns-in_err-layout-clause-refused : goal.returns-in_err-layout-clause-refused
returns-in_err-layout-clause-refused g c =
    let p = err_from_is_err_and c.from_residual-in_err-layout.result c.from_residual-in_err-layout.ensures.1 in
    rw (p.1, p.2) (refused_layout c.args.options _ c.in_ok-traces.traces c.in_ok-traces.ensures.answer
    (λ is_for. let yes = c.is_for_another_table.ensures.1 is_for in absurd (let no = c.if-is_for_another_table.false in cc)) c.in_err-layout.field-0.0 c.in_err-layout.ensures.much)

pub returns-in_err-layout-clause-must : goal.returns-in_err-layout-clause-must
returns-in_err-layout-clause-must g c = λ steady.
    let p = err_from_is_err_and c.from_residual-in_err-layout.result c.from_residual-in_err-layout.ensures.1 in
    rw (p.1, p.2) (must_layout c.args.options _ c.in_ok-traces.traces c.in_ok-traces.ensures.answer
    (λ is_for. let yes = c.is_for_another_table.ensures.1 is_for in absurd (let no = c.if-is_for_another_table.false in cc)) c.in_err-layout.field-0.0 c.in_err-layout.ensures.much
    (c.in_ok-traces.ensures.exact steady))

pub returns-clause-must : goal.returns-clause-must
returns-clause-must g c = λ steady.
    must_plan c.args.options _ c.in_ok-traces.traces c.in_ok-traces.ensures.answer
    (λ is_for. let yes = c.is_for_another_table.ensures.1 is_for in absurd (let no = c.if-is_for_another_table.false in cc)) _ (c.in_ok-traces.ensures.exact steady)
