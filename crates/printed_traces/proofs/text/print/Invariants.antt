use Rattle.std.proofs.Common.{◌≡◌, ◌≤◌, ◌<◌, ◌+◌, ◌++◌, ℕ, drop, get_or, length}
use Rattle.std.specs.Prelude.{flat_map}
use Rattle.map_history.specs.declared.op.Request.{Request}
use Rattle.trace_reader.specs.Printed.{lines_behind, printed, with_feed}
use Rattle.printed_traces.proofs.text.print.Given as goal

abbrev pub invariant-loop-request : goal.invariant-loop-request
invariant-loop-request l = record {
  text : l.text.items ++ flat_map with_feed (lines_behind l.begun (drop l.request-index l.requests) l.traces) ≡ printed l.requests l.traces;
  reached : l.begun ≤ l.traces;
  later : (k : ℕ) (d : Request) → l.request-index ≤ k → k < length l.requests → l.begun ≤ (get_or l.requests k d).trace + 1;
}
