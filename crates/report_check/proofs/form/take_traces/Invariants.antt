use Rattle.std.proofs.Common.{◌+◌, ◌-◌, ◌++◌, ℕ, List, map}
use Rattle.std.specs.List.{range_with_len}
use Rattle.report_text.specs.Report.{Line}
use Rattle.report_text.specs.Report.Line.{trace_line}
use Rattle.report_check.specs.Lines.{IsFirstBad, SayAll}
use Rattle.report_check.proofs.form.take_traces.Given as goal

abbrev pub invariant-loop-trace : goal.invariant-loop-trace
invariant-loop-trace l = record {
  said : (lines : List Line) → SayAll lines l.rest → SayAll (map trace_line (range_with_len l.begun (l.trace - l.begun)) ++ lines) l.bytes;
  later : (lines : List Line) (number : ℕ) → IsFirstBad lines l.rest number → IsFirstBad (map trace_line (range_with_len l.begun (l.trace - l.begun)) ++ lines) l.bytes (number + (l.trace - l.begun));
}
