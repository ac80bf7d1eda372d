use Rattle.std.proofs.Common.{◌≡◌, ◌≤◌, List, Option, ap, arith, is_some, length, subst, sym, ◌∙◌}
use Rattle.std.proofs.lemmas.List.Sums.{count_by-le-length}
use Rattle.history_orders.specs.map_history.specs.declared.op.Entry.{Entry}
use Rattle.history_orders.specs.Turns.{Turn}
use Rattle.report_text.specs.Legal.{IsHistory, served_in}
use Rattle.report_check.specs.Histories.{history_of}
use Rattle.report_check.specs.Rows.{SaysRows}
use Rattle.report_check.specs.Said.{rows_said}
use Rattle.report_check.proofs.Forms.{report_lines_are, requests_said, rows_continue}
use Rattle.report_check.proofs.Legals.{legal_report}
use Rattle.report_check.proofs.Rows.{served_count}
use Rattle.report_check.proofs.check.check_form.Goals as goal

pub returns-then-form-replayed : goal.returns-then-form-replayed
returns-then-form-replayed c =
    let requests = c.args.requests.now in
    let answers = c.as_slice-answers.result.now in
    let same = c.as_slice-answers.ensures.value in
    let rows = rows_said requests answers in
    let history = history_of requests answers c.as_slice.result.now in
    record {
      judged = rw c.fails-then-form-replayed.ensures (record {
        rows = rows;
        size = c.args.form.now.size;
        history = history;
        has = record {
          says = subst (λ (l : List (Option Entry)). SaysRows c.args.traces requests (rows_said requests l) c.args.form.now.size c.args.report.now) (sym same) c.requires.form.says;
          ranks = rw c.in_default.is at c.in_ok-number.ensures.none;
          is = subst (λ (l : List Turn). IsHistory rows (history_of requests answers l)) (sym c.as_slice.ensures.value) c.in_ok-turns.ensures.history;
        };
        replies = rw c.in_default-wrong.is at c.in_ok-replayed.ensures.none;
        other = λ is. c.if-form-replayed.true (is ∙ sym c.in_ok-replayed.ensures.size);
        is = omega (arith, c.from.ensures);
      });
    }

pub returns : goal.returns
returns c =
    let requests = c.args.requests.now in
    let answers = c.as_slice-answers.result.now in
    let same = c.as_slice-answers.ensures.value in
    let long : length answers ≡ length requests = ap length same ∙ c.requires.form.long in
    let rows = rows_said requests answers in
    let history = history_of requests answers c.as_slice.result.now in
    let fewer : length (served_in rows) ≤ length requests = omega (arith, served_count requests answers long, count_by-le-length (λ (o : Option Entry). is_some o) answers, long) in
    let lines = report_lines_are rows c.args.traces c.args.form.now.size (rows_continue requests rows c.args.traces c.requires.rising c.requires.below (requests_said requests answers long)) in
    record {
      judged = legal_report c.args.traces requests rows c.args.form.now.size c.args.report.now history c.requires.few fewer lines
          (subst (λ (l : List (Option Entry)). SaysRows c.args.traces requests (rows_said requests l) c.args.form.now.size c.args.report.now) (sym same) c.requires.form.says)
          (rw c.in_default.is at c.in_ok-number.ensures.none)
          (subst (λ (l : List Turn). IsHistory rows (history_of requests answers l)) (sym c.as_slice.ensures.value) c.in_ok-turns.ensures.history)
          (rw c.in_default-wrong.is at c.in_ok-replayed.ensures.legal)
          (c.if-form-replayed.false ∙ c.in_ok-replayed.ensures.size);
    }
