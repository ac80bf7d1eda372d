use Rattle.std.proofs.Common.{None}
use Rattle.report_text.specs.Report.Line.{answer_line}
use Rattle.report_check.proofs.Sayings.{none_at_all, none_answer}
use Rattle.report_check.proofs.line.take_answer.Goals as goal

pub returns-in_err-line-clause-none : goal.returns-in_err-line-clause-none
returns-in_err-line-clause-none c = rw c.from_residual.ensures (none_at_all (answer_line None) c.args.bytes.now c.in_err-line.ensures.none)

pub returns-in_err-answer-clause-none : goal.returns-in_err-answer-clause-none
returns-in_err-answer-clause-none c = rw c.from_residual-in_err-answer.ensures (none_answer c.args.bytes.now c.in_ok-line.line.now c.in_ok-line.more.now c.in_ok-line.ensures.some c.in_err-answer.ensures.none)
