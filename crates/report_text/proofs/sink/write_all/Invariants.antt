use Rattle.std.proofs.Common.{[], ◌≡◌, length}
use Rattle.report_text.proofs.Texts.{Underway}
use Rattle.report_text.proofs.sink.write_all.Given as goal

abbrev pub invariant-loop-rest : goal.invariant-loop-rest
invariant-loop-rest g l = record {
  written : Underway (g.K.Sink.held l.fn.sink) l.bytes (g.K.Sink.held l.sink) [] l.rest;
  steady : g.K.Sink.faults l.sink ≡ g.K.Sink.faults l.fn.sink;
}

abbrev pub decreases-loop-rest : goal.decreases-loop-rest
decreases-loop-rest g l = length l.rest
