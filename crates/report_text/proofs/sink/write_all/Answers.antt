use Rattle.std.proofs.Common.{arith, ◌∙◌}
use Rattle.report_text.proofs.Texts.{Underway-write}
use Rattle.report_text.proofs.sink.write_all.Goals as goal

pub loop-rest-preserved : goal.loop-rest-preserved
loop-rest-preserved g c = record {
  written = Underway-write _ _ _ _ _ c.in_ok-count.count c.loop-rest.invariant.written c.in_ok-count.ensures.appended;
  steady = c.in_ok-count.ensures.steady (omega arith) ∙ c.loop-rest.invariant.steady;
}
