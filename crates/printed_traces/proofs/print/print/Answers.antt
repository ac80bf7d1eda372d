use Rattle.std.proofs.Common.{◌∙◌, List, ℕ, refl, sym, subst}
use Rattle.map_history.specs.Requests.{AreOfFormat1}
use Rattle.std.proofs.lemmas.Result.{err_from_is_err_and}
use Rattle.report_text.specs.Sink.{Extends, ExtendsInPart}
use Rattle.trace_reader.specs.Formats.{format_for}
use Rattle.trace_reader.proofs.Formats.{format_for_1}
use Rattle.printed_traces.proofs.Printed.{is_gen_text, is_read}
use Rattle.printed_traces.proofs.print.print.Goals as goal

pub returns-in_err-write_all-clause-stops : goal.returns-in_err-write_all-clause-stops
returns-in_err-write_all-clause-stops g c =
    let p = err_from_is_err_and c.from_residual-in_err-write_all.result c.from_residual-in_err-write_all.ensures.1 in
    let is = is_gen_text c.args.plan.now c.in_ok-traces.traces.count c.as_slice.result.now c.in_ok-text.text.items c.deref.result.now c.in_ok-traces.ensures.count (c.as_slice.ensures ∙ c.in_ok-traces.ensures.requests) c.deref.ensures.value c.in_ok-text.ensures.text in
    rw (p.1, p.2) (c.in_err-write_all.ensures.cause, subst (λ (t : List ℕ). ExtendsInPart (g.K.Sink.held c.args.sink.now) t (g.K.Sink.held c.write_all.new.sink)) is c.in_err-write_all.ensures.appends)

pub returns-clause-done : goal.returns-clause-done
returns-clause-done g c =
    let is = is_gen_text c.args.plan.now c.in_ok-traces.traces.count c.as_slice.result.now c.in_ok-text.text.items c.deref.result.now c.in_ok-traces.ensures.count (c.as_slice.ensures ∙ c.in_ok-traces.ensures.requests) c.deref.ensures.value c.in_ok-text.ensures.text in
    subst (λ (t : List ℕ). Extends (g.K.Sink.held c.args.sink.now) t (g.K.Sink.held c.write_all.new.sink)) is c.in_ok-write_all.ensures.appends

pub returns-clause-read : goal.returns-clause-read
returns-clause-read g c =
    let requests = c.as_slice.ensures ∙ c.in_ok-traces.ensures.requests in
    let is = is_gen_text c.args.plan.now c.in_ok-traces.traces.count c.as_slice.result.now c.in_ok-text.text.items c.in_ok-text.text.items c.in_ok-traces.ensures.count requests refl c.in_ok-text.ensures.text in
    let first : AreOfFormat1 c.as_slice.result.now = subst AreOfFormat1 (sym c.as_slice.ensures) c.in_ok-traces.ensures.format in
    is_read c.args.plan.now (format_for c.as_slice.result.now) c.in_ok-traces.traces.count c.as_slice.result.now c.in_ok-text.text.items (format_for_1 c.as_slice.result.now first) c.in_ok-traces.ensures.count requests is
    c.in_ok-text.ensures.read
