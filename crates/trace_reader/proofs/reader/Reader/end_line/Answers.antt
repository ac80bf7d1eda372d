use Rattle.std.proofs.Common.{arith}
use Rattle.std.proofs.lemmas.Result.{err_from_is_err_and}
use Rattle.trace_reader.proofs.Steps.{excess_line, fine_line}
use Rattle.trace_reader.proofs.reader.Reader.end_line.Goals as goal

pub returns-in_err-accept-clause-err : goal.returns-in_err-accept-clause-err
returns-in_err-accept-clause-err c =
    let p = err_from_is_err_and c.from_residual-in_err-accept.result c.from_residual-in_err-accept.ensures.1 in
    rw (p.1, p.2) (λ lines behind. excess_line c.args.self.now lines c.args.self.now.line.items c.in_ok-said.said c.in_err-accept.field-0.0 behind c.in_ok-said.ensures.said c.in_err-accept.ensures.err)

pub returns-clause-ok : goal.returns-clause-ok
returns-clause-ok c = λ lines behind.
    fine_line c.args.self.now _ _ _ lines c.args.self.now.line.items c.in_ok-said.said behind c.in_ok-said.ensures.said c.in_ok-accept.ensures.traces c.in_ok-accept.ensures.header (omega (arith, c.in_ok-accept.ensures.same.2))
