use Rattle.std.proofs.Common.{◌-◌, length}
use Rattle.report_check.proofs.Splits.{GoneThrough}
use Rattle.report_check.proofs.parts.split_report.Given as goal

abbrev pub invariant-loop-at : goal.invariant-loop-at
invariant-loop-at l = GoneThrough l.bytes l.at

abbrev pub decreases-loop-at : goal.decreases-loop-at
decreases-loop-at l = length l.bytes - l.at
