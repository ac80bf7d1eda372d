use Rattle.std.proofs.lemmas.Result.{err_from_is_err_and}
use Rattle.flock_tool.proofs.Reporting.{stops_report}
use Rattle.flock_tool.proofs.run.print_on.Goals as goal

pub returns-in_err-unserved-clause-stops : goal.returns-in_err-unserved-clause-stops
returns-in_err-unserved-clause-stops g c =
    let p = err_from_is_err_and c.from_residual-in_err-unserved.result c.from_residual-in_err-unserved.ensures.1 in
    rw (p.1, p.2) (
    stops_report (g.S.Structure.meaning c.args.words.now.structure) c.args.words.now c.args.plan.now.traces.count c.in_err-unserved.field-0.0 _ c.in_err-unserved.ensures.stops
    )
