use Rattle.std.proofs.Common.{◌≡◌, ℕ, ◌<◌, ◌≤◌, length, get_or, List, [], arith, ap, ◌∙◌, sym, refl, subst}
use Rattle.std.proofs.lemmas.List.{append-nil, length-map}
use Rattle.std.proofs.lemmas.Result.{err_from_is_err_and}
use Rattle.history_orders.specs.map_history.specs.declared.op.Op.TheVariants.{Get}
use Rattle.history_orders.specs.map_history.specs.declared.op.Request.{Request}
use Rattle.report_text.specs.Report.{rows_of}
use Rattle.report_text.proofs.Texts.{Underway, Underway-start, Underway-more, Underway-fails, Underway-fails_more, Appends-end}
use Rattle.report_text.proofs.Lines.{left_at, left-start, left_at-traces, left_at-next, left_at-row, left_at-end, later_traces}
use Rattle.report_text.proofs.report.write_report.Goals as goal

abbrev no_request : Request
no_request = record { trace = 0; number = 0; op = Get 0 }

pub loop-i-init : goal.loop-i-init
loop-i-init g c =
    let requests = c.args.requests.now in
    let entries = c.args.entries.now in
    let ranks = c.args.ranks.now in
    let whole = left-start (rows_of requests entries ranks) c.args.traces c.args.size in
    record {
      underway = subst (λ (text : List ℕ). Underway (g.K.Sink.held c.args.sink.now) text (g.K.Sink.held c.args.sink.now) c.new-page.result.bytes (left_at 0 0 requests entries ranks c.args.traces c.args.size)) whole
          (Underway-start _ _ _ c.new-page.ensures);
      before = λ k d low lt. omega arith;
      within = omega arith;
      steady = refl;
    }

pub returns-in_err-print_traces-clause-appends : goal.returns-in_err-print_traces-clause-appends
returns-in_err-print_traces-clause-appends g c =
    let p = err_from_is_err_and c.from_residual.result c.from_residual.ensures.1 in
    let next = left_at-next c.loop-i.begun c.loop-i.i c.args.requests.now c.args.entries.now c.args.ranks.now c.args.traces c.args.size no_request c.requires.in_order c.requires.below c.loop-i.invariant.before c.loop-i-test.true in
    rw p.1 (Underway-fails_more _ _ next c.loop-i.invariant.underway c.in_err-print_traces.ensures.err)

pub returns-in_err-print_answer-clause-appends : goal.returns-in_err-print_answer-clause-appends
returns-in_err-print_answer-clause-appends g c =
    let p = err_from_is_err_and c.from_residual-in_err-print_answer.result c.from_residual-in_err-print_answer.ensures.1 in
    let next = left_at-next c.loop-i.begun c.loop-i.i c.args.requests.now c.args.entries.now c.args.ranks.now c.args.traces c.args.size no_request c.requires.in_order c.requires.below c.loop-i.invariant.before c.loop-i-test.true in
    rw p.1 (Underway-fails (Underway-more next c.loop-i.invariant.underway c.in_ok-print_traces.ensures.ok) c.in_err-print_answer.ensures.err)

pub loop-i-preserved : goal.loop-i-preserved
loop-i-preserved g c =
    let requests = c.args.requests.now in
    let one_rank : length c.args.ranks.now ≡ length requests = sym (length-map c.args.ranks.now _) ∙ ap length c.requires.served ∙ length-map c.args.entries.now _ ∙ c.requires.entries in
    let next = left_at-next c.loop-i.begun c.loop-i.i requests c.args.entries.now c.args.ranks.now c.args.traces c.args.size no_request c.requires.in_order c.requires.below c.loop-i.invariant.before c.loop-i-test.true in
    let row = left_at-row c.loop-i.i requests c.args.entries.now c.args.ranks.now c.args.traces c.args.size no_request _ _ c.loop-i-test.true c.requires.entries one_rank in
    let below : (get_or requests c.loop-i.i no_request).trace < c.args.traces = c.requires.below c.loop-i.i no_request c.loop-i-test.true in
    record {
      underway = Underway-more row
          (Underway-more next c.loop-i.invariant.underway c.in_ok-print_traces.ensures.ok) c.in_ok-print_answer.ensures.ok;
      before = λ k d low lt. later_traces requests c.loop-i.i no_request c.requires.in_order k d (omega arith) lt;
      within = omega arith;
      steady = c.in_ok-print_answer.ensures.steady ∙ c.in_ok-print_traces.ensures.steady ∙ c.loop-i.invariant.steady;
    }

pub returns-in_err-print_traces-2-clause-appends : goal.returns-in_err-print_traces-2-clause-appends
returns-in_err-print_traces-2-clause-appends g c =
    let p = err_from_is_err_and c.from_residual-in_err-print_traces-2.result c.from_residual-in_err-print_traces-2.ensures.1 in
    let past : length c.args.requests.now ≤ c.loop-i.i = omega arith in
    let next = left_at-traces c.loop-i.begun c.args.traces c.loop-i.i c.args.requests.now c.args.entries.now c.args.ranks.now c.args.traces c.args.size c.loop-i.invariant.within (omega arith) (λ k d low lt. absurd (omega arith)) in
    rw p.1 (Underway-fails_more _ _ next c.loop-i.invariant.underway c.in_err-print_traces-2.ensures.err)

pub returns-in_err-print_line-clause-appends : goal.returns-in_err-print_line-clause-appends
returns-in_err-print_line-clause-appends g c =
    let p = err_from_is_err_and c.from_residual-in_err-print_line.result c.from_residual-in_err-print_line.ensures.1 in
    let past : length c.args.requests.now ≤ c.loop-i.i = omega arith in
    let next = left_at-traces c.loop-i.begun c.args.traces c.loop-i.i c.args.requests.now c.args.entries.now c.args.ranks.now c.args.traces c.args.size c.loop-i.invariant.within (omega arith) (λ k d low lt. absurd (omega arith)) in
    rw p.1 (Underway-fails (Underway-more next c.loop-i.invariant.underway c.in_ok-print_traces-2.ensures.ok) c.in_err-print_line.ensures.err)

pub returns-clause-appends : goal.returns-clause-appends
returns-clause-appends g c =
    let past : length c.args.requests.now ≤ c.loop-i.i = omega arith in
    let next = left_at-traces c.loop-i.begun c.args.traces c.loop-i.i c.args.requests.now c.args.entries.now c.args.ranks.now c.args.traces c.args.size c.loop-i.invariant.within (omega arith) (λ k d low lt. absurd (omega arith)) in
    let last = left_at-end c.loop-i.i c.args.requests.now c.args.entries.now c.args.ranks.now c.args.traces c.args.size past in
    Appends-end c.send.result _ _ _ _ _ [] refl
    (Underway-more (append-nil _ ∙ c.line_of_size.ensures ∙ sym last)
    (Underway-more next c.loop-i.invariant.underway c.in_ok-print_traces-2.ensures.ok) c.in_ok-print_line.ensures.ok)
    c.send.ensures.ok c.send.ensures.err
