use Rattle.std.proofs.Common.{◌≡◌}
use Rattle.report_text.specs.Page.{Gathers, traces_text}
use Rattle.report_text.proofs.report.print_traces.Given as goal

abbrev pub invariant-loop-trace : goal.invariant-loop-trace
invariant-loop-trace g l = record {
  gathers : Gathers (g.K.Sink.held l.fn.sink) l.fn.page.bytes (traces_text l.begun l.trace) (g.K.Sink.held l.sink) l.page.bytes;
  steady : g.K.Sink.faults l.sink ≡ g.K.Sink.faults l.fn.sink;
}
