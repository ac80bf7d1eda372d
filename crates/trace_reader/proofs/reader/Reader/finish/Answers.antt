use Rattle.std.proofs.lemmas.Result.{err_from_is_err_and}
use Rattle.trace_reader.specs.Formats.{IsFormat}
use Rattle.trace_reader.proofs.Results.{IfSome-at}
use Rattle.trace_reader.proofs.Texts.{no_header, accepted, answered, formats_read}
use Rattle.trace_reader.proofs.reader.Reader.finish.Goals as goal

pub returns-in_err-end_last_line-clause-answer : goal.returns-in_err-end_last_line-clause-answer
returns-in_err-end_last_line-clause-answer c =
    let p = err_from_is_err_and c.from_residual.result c.from_residual.ensures.1 in
    rw (p.1, p.2) (λ text at. answered c.in_err-end_last_line.field-0.0 text (c.in_err-end_last_line.ensures.err text at))

pub returns-in_default-clause-answer : goal.returns-in_default-clause-answer
returns-in_default-clause-answer c = rw c.malformed.ensures (λ text at. no_header c.end_last_line.new.self text (c.in_ok-end_last_line.ensures.ok text at) c.in_default.is)

pub returns-clause-answer : goal.returns-clause-answer
returns-clause-answer c = λ text at. accepted c.end_last_line.new.self text c.in-Some.format (c.in_ok-end_last_line.ensures.ok text at) c.in-Some.is

pub returns-clause-ordered : goal.returns-clause-ordered
returns-clause-ordered c = λ text at. (c.in_ok-end_last_line.ensures.ok text at).behind.ordered

pub returns-clause-format : goal.returns-clause-format
returns-clause-format c = λ text at.
    let reader = c.end_last_line.new.self in
    (IfSome-at IsFormat reader.format c.in-Some.format c.in-Some.is reader.known, formats_read reader text c.in-Some.format (c.in_ok-end_last_line.ensures.ok text at) c.in-Some.is)
