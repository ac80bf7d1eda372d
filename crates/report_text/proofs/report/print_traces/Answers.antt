use Rattle.std.proofs.Common.{◌≡◌, List, ℕ, arith, subst, ap, ◌++◌, ◌∙◌}
use Rattle.std.proofs.lemmas.Result.{err_from_is_err_and}
use Rattle.report_text.specs.Page.{Gathers, traces_text}
use Rattle.report_text.proofs.Texts.{Gathers-append, Underway-from, Underway-fails}
use Rattle.report_text.proofs.Lines.{traces-append, traces-more}
use Rattle.report_text.proofs.report.print_traces.Goals as goal

pub returns-in_err-print_line-clause-err : goal.returns-in_err-print_line-clause-err
returns-in_err-print_line-clause-err g c =
    let p = err_from_is_err_and c.from_residual.result c.from_residual.ensures.1 in
    rw p.1 (Underway-fails
    (Underway-from (traces-append c.args.begun c.loop-trace.trace c.args.end (omega arith) (omega arith)) c.loop-trace.invariant.gathers)
    c.in_err-print_line.ensures.err)

pub loop-trace-preserved : goal.loop-trace-preserved
loop-trace-preserved g c = record {
  gathers =
      subst (λ (text : List ℕ). Gathers (g.K.Sink.held c.args.sink.now) c.args.page.now.bytes text (g.K.Sink.held c.print_line.new.sink) c.print_line.new.page.bytes)
      (ap (λ l. traces_text c.args.begun c.loop-trace.trace ++ l) c.line_of_trace.ensures ∙ traces-more c.args.begun c.loop-trace.trace (omega arith))
      (Gathers-append c.loop-trace.invariant.gathers c.in_ok-print_line.ensures.ok);
  steady = c.in_ok-print_line.ensures.steady ∙ c.loop-trace.invariant.steady;
}

pub returns-clause-ok : goal.returns-clause-ok
returns-clause-ok g c =
    let end : c.loop-trace.trace ≡ c.args.end = omega arith in
    subst (λ (n : ℕ). Gathers (g.K.Sink.held c.args.sink.now) c.args.page.now.bytes (traces_text c.args.begun n) (g.K.Sink.held c.loop-trace.sink) c.loop-trace.page.bytes) end c.loop-trace.invariant.gathers
