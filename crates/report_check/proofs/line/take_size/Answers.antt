use Rattle.report_text.specs.Report.Line.{final_line}
use Rattle.report_check.proofs.Sayings.{none_at_all, none_size, size_number}
use Rattle.report_check.proofs.line.take_size.Goals as goal

pub returns-in_err-line-clause-none : goal.returns-in_err-line-clause-none
returns-in_err-line-clause-none c = rw c.from_residual.ensures (none_at_all (final_line 0) c.args.bytes.now c.in_err-line.ensures.none)

pub returns-in_err-size-clause-none : goal.returns-in_err-size-clause-none
returns-in_err-size-clause-none c = rw c.from_residual-in_err-size.ensures (none_size c.args.bytes.now c.in_ok-line.line.now c.in_ok-line.more.now c.in_ok-line.ensures.some
    (λ any says. c.in_err-size.ensures.none any (size_number any c.in_ok-line.line.now says)))
