use Rattle.std.proofs.Common.{arith}
use Rattle.report_text.specs.Report.Line.{trace_line}
use Rattle.report_check.proofs.Sayings.{none_at_all, none_trace}
use Rattle.report_check.proofs.line.take_trace.Goals as goal

pub returns-in_err-line-clause-none : goal.returns-in_err-line-clause-none
returns-in_err-line-clause-none c = rw c.from_residual.ensures (none_at_all (trace_line c.args.trace) c.args.bytes.now c.in_err-line.ensures.none)

pub returns-else-is_trace-clause-none : goal.returns-else-is_trace-clause-none
returns-else-is_trace-clause-none c = none_trace c.args.trace c.args.bytes.now c.in_ok-line.line.now c.in_ok-line.more.now (omega (arith, c.ranges.trace)) c.in_ok-line.ensures.some (c.is_trace.ensures.no c.if-is_trace.false)
