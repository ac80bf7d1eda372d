use Rattle.std.proofs.Common.{◌≡◌, ◌++◌}
use Rattle.std.specs.Prelude.{flat_map}
use Rattle.trace_reader.specs.Printed.{beginnings, with_feed}
use Rattle.printed_traces.proofs.line.push_beginnings.Given as goal

abbrev pub invariant-loop-left : goal.invariant-loop-left
invariant-loop-left l = l.text.items ++ flat_map with_feed (beginnings l.left) ≡ l.fn.text.items ++ flat_map with_feed (beginnings l.count)

abbrev pub decreases-loop-left : goal.decreases-loop-left
decreases-loop-left l = l.left
