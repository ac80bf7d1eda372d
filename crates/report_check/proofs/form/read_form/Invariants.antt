use Rattle.std.proofs.Common.{◌≡◌, ◌+◌, ◌++◌, ◌<◌, ◌≤◌, ℕ, List, Option, drop, get_or, length, map}
use Rattle.history_orders.specs.map_history.specs.declared.op.Request.{Request}
use Rattle.history_orders.specs.map_history.specs.declared.op.Entry.{Entry}
use Rattle.report_check.specs.Lines.{IsFirstBad, SayAll}
use Rattle.report_check.specs.Rows.{unserved}
use Rattle.report_check.specs.Said.{rows_said}
use Rattle.report_check.proofs.Forms.{lines_behind}
use Rattle.report_check.proofs.form.read_form.Given as goal

abbrev pub invariant-loop-i : goal.invariant-loop-i
invariant-loop-i l = record {
  said : (more : List (Option Entry)) (size : ℕ) → SayAll (lines_behind l.begun (rows_said (drop l.i l.requests) more) l.traces size) l.rest
      → SayAll (lines_behind 0 (rows_said l.requests (l.answers.items ++ more)) l.traces size) l.report;
  bad : (number : ℕ) → IsFirstBad (lines_behind l.begun (map unserved (drop l.i l.requests)) l.traces 0) l.rest number
      → IsFirstBad (lines_behind 0 (map unserved l.requests) l.traces 0) l.report (number + l.i + l.begun);
  long : length l.answers.items ≡ l.i;
  before : (k : ℕ) (d : Request) → l.i ≤ k → k < length l.requests → l.begun ≤ (get_or l.requests k d).trace + 1;
  within : l.begun ≤ l.traces;
}
