use Rattle.std.proofs.Common.{◌≡◌, ◌-◌, ◌≤◌, length}
use Rattle.trace_reader.specs.Source.{Moves}
use Rattle.report_check.proofs.input.read_all.Given as goal

abbrev pub invariant-loop-bytes : goal.invariant-loop-bytes
invariant-loop-bytes g l = record {
  read : Moves (g.R.Source.left l.fn.source) l.bytes.items (g.R.Source.left l.source);
  within : length l.bytes.items ≤ 8388608;
  steady : g.R.Source.faults l.source ≡ g.R.Source.faults l.fn.source;
}

abbrev pub decreases-loop-bytes : goal.decreases-loop-bytes
decreases-loop-bytes g l = 8388609 - length l.bytes.items
