use Rattle.std.proofs.Common.{◌+◌, ◌++◌, ◌∷◌, List, arith, subst, sym}
use Rattle.report_text.specs.Report.{Line}
use Rattle.report_text.specs.Report.Line.{trace_line}
use Rattle.report_check.specs.Lines.{SayAll}
use Rattle.report_check.proofs.Forms.{bad_here, bad_later_trace, bad_moved, say_next, traces_from, traces_more, traces_split}
use Rattle.report_check.proofs.form.take_traces.Goals as goal

pub returns-in_default-clause-bad : goal.returns-in_default-clause-bad
returns-in_default-clause-bad c = λ lines.
    let trace = c.loop-trace.trace in
    let rest = traces_from (trace + 1) c.args.end ++ lines in
    bad_moved _ _ c.args.bytes.now _ _ (sym (traces_split c.args.begun trace c.args.end lines c.loop-trace.auto.trace c.loop-trace-test.true)) (omega (arith, c.loop-trace.auto.trace))
    (c.loop-trace.invariant.later (trace_line trace ∷ rest) 1 (bad_here (trace_line trace) rest c.loop-trace.rest.now c.in_default.ensures.none))

pub loop-trace-preserved : goal.loop-trace-preserved
loop-trace-preserved c =
    let trace = c.loop-trace.trace in
    let rest = c.loop-trace.rest.now in
    let more = c.in-Some.more.now in
    record {
      said = λ lines all. subst (λ (l : List Line). SayAll l c.args.bytes.now) (sym (traces_more c.args.begun trace lines c.loop-trace.auto.trace))
          (c.loop-trace.invariant.said (trace_line trace ∷ lines) (say_next (trace_line trace) lines rest more c.in-Some.ensures.some all));
      later = λ lines number bad. bad_moved _ _ c.args.bytes.now _ _ (sym (traces_more c.args.begun trace lines c.loop-trace.auto.trace)) (omega (arith, c.loop-trace.auto.trace))
          (c.loop-trace.invariant.later (trace_line trace ∷ lines) (number + 1) (bad_later_trace trace lines rest more number c.in-Some.ensures.some bad));
    }
