use Rattle.std.proofs.Common.{ℕ, ◌≡◌, ◌+◌, ◌<◌, ◌≤◌, length, get_or}
use Rattle.history_orders.specs.map_history.specs.declared.op.Request.{Request}
use Rattle.report_text.specs.Report.{rows_of, report_text}
use Rattle.report_text.proofs.Lines.{left_at}
use Rattle.report_text.proofs.Texts.{Underway}
use Rattle.report_text.proofs.report.write_report.Given as goal

abbrev pub invariant-loop-i : goal.invariant-loop-i
invariant-loop-i g l = record {
  underway : Underway (g.K.Sink.held l.fn.sink) (report_text l.traces (rows_of l.requests l.entries l.ranks) l.size) (g.K.Sink.held l.sink) l.page.bytes (left_at l.begun l.i l.requests l.entries l.ranks l.traces l.size);
  before : (k : ℕ) (d : Request) → l.i ≤ k → k < length l.requests → l.begun ≤ (get_or l.requests k d).trace + 1;
  within : l.begun ≤ l.traces;
  steady : g.K.Sink.faults l.sink ≡ g.K.Sink.faults l.fn.sink;
}
