use Rattle.std.proofs.Common.{arith}
use Rattle.std.proofs.lemmas.Result.{err_from_is_err_and}
use Rattle.flock_tool.proofs.Loading.{load_nodes}
use Rattle.flock_tool.proofs.plan.load_plan.Goals as goal

pub returns-in_err-layout-clause-refused : goal.returns-in_err-layout-clause-refused
returns-in_err-layout-clause-refused c =
    let p = err_from_is_err_and c.from_residual-in_err-layout.result c.from_residual-in_err-layout.ensures.1 in
    rw (p.1, p.2) (
    load_nodes c.args.load c.in_ok-traces.traces.count c.in_ok-traces.traces.requests c.in_err-layout.field-0.0 c.in_ok-traces.ensures.count c.in_ok-traces.ensures.requests
    (omega (arith, c.if-count-gt-MAX_REQUESTS.false)) c.in_err-layout.ensures.much
    )
