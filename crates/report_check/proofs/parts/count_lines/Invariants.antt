use Rattle.std.proofs.Common.{◌-◌, length}
use Rattle.report_check.proofs.Wholes.{Counted}
use Rattle.report_check.proofs.parts.count_lines.Given as goal

abbrev pub invariant-loop-at : goal.invariant-loop-at
invariant-loop-at l = Counted l.bytes l.at l.count

abbrev pub decreases-loop-at : goal.decreases-loop-at
decreases-loop-at l = length l.bytes - l.at
