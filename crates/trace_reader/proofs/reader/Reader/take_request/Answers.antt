use Rattle.std.proofs.Common.{◌+◌, arith, refl}
use Rattle.std.proofs.lemmas.Bool.{ltb-true}
use Rattle.std.proofs.lemmas.Result.{err_from_is_err_and}
use Rattle.trace_reader.specs.declared.line.Line.TheVariants.{Ask}
use Rattle.trace_reader.proofs.Steps.{excess_line, fine_line}
use Rattle.trace_reader.proofs.Texts.{line_taken, taken_refused}
use Rattle.trace_reader.proofs.Written.{says_there}
use Rattle.trace_reader.proofs.reader.Reader.take_request.Goals as goal

pub ask-requires-clause-begun : goal.ask-requires-clause-begun
ask-requires-clause-begun c = ltb-true _ _ c.requires.placed.begun

pub returns-in_err-ask-clause-err : goal.returns-in_err-ask-clause-err
returns-in_err-ask-clause-err c =
    let p = err_from_is_err_and c.from_residual.result c.from_residual.ensures.1 in
    let placed = c.requires.placed in
    rw (p.1, p.2) (
    taken_refused c.args.self.now c.args.line.now c.requires.one placed.begins c.requires.room c.in_err-ask.field-0.0
    (λ lines behind.
    excess_line c.args.self.now lines c.args.line.now (Ask c.args.op) c.in_err-ask.field-0.0 behind
    (says_there c.args.op c.args.self.now.format _ c.args.line.now placed.begun c.requires.says) c.in_err-ask.ensures.err))

pub returns-clause-ok : goal.returns-clause-ok
returns-clause-ok c =
    let placed = c.requires.placed in
    line_taken c.args.self.now _ c.args.line.now c.requires.one placed.begins placed.begins
    (λ lines behind.
    fine_line c.args.self.now (c.args.self.now.lines + 1) c.args.self.now.format c.ask.new.self lines c.args.line.now (Ask c.args.op) behind
    (says_there c.args.op c.args.self.now.format _ c.args.line.now placed.begun c.requires.says)
    (c.in_ok-ask.ensures.count, c.in_ok-ask.ensures.requests, c.in_ok-ask.ensures.few)
    refl refl)
    (omega (arith, c.requires.room))
