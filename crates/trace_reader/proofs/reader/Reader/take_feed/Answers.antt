use Rattle.std.proofs.Common.{refl}
use Rattle.trace_reader.proofs.Results.{OnOk-from, IfErr-from}
use Rattle.trace_reader.proofs.Texts.{line_ended, line_refused, text_too_large}
use Rattle.trace_reader.proofs.reader.Reader.take_feed.Goals as goal

pub returns-then-self-eq-MAX_BYTES-clause-err : goal.returns-then-self-eq-MAX_BYTES-clause-err
returns-then-self-eq-MAX_BYTES-clause-err c = rw c.too_large.ensures (text_too_large c.args.self.now 10 c.if-self-eq-MAX_BYTES.true)

pub returns-clause-ok : goal.returns-clause-ok
returns-clause-ok c =
    OnOk-from _ _ _ _ c.end_line.result c.end_line.ensures.ok c.end_line.ensures.cleared c.end_line.ensures.bytes
    (λ behind cleared bytes. line_ended c.args.self.now c.end_line.new.self 10 refl behind cleared bytes)

pub returns-clause-err : goal.returns-clause-err
returns-clause-err c =
    IfErr-from _ _ c.end_line.result c.end_line.ensures.err
    (λ e refused. line_refused c.args.self.now 10 refl c.if-self-eq-MAX_BYTES.false c.args.self.now.few_bytes e refused)
