-- The rows that a report's bytes say, for given requests.
use Rattle.std.specs.Prelude.{◌≡◌, ℕ, ◌+◌, List, None, length, map}
use Rattle.history_orders.specs.map_history.specs.declared.op.Request.{Request}
use Rattle.report_check.specs.Lines.{SayAll}
use Rattle.report_text.specs.Report.{Line, Row, report_lines}

-- a request without an answer
abbrev pub unserved : Request → Row
unserved request = record { request = request; answer = None }

-- the lines of a report in which nothing is served: each stands for those that may take its place
abbrev pub places : ℕ → List Request → List Line
places traces requests = report_lines traces (map unserved requests) 0

-- the bytes are a report on these requests that says these rows and this final number
pub record SaysRows (traces : ℕ) (requests : List Request) (rows : List Row) (size : ℕ) (bytes : List ℕ) : Type 0 where
  pub are : map (λ (row : Row). row.request) rows ≡ requests
  pub lines : SayAll (report_lines traces rows size) bytes

-- the number of a row's line, from 1: before it stand earlier rows, and the lines of its trace and of earlier ones
abbrev pub line_number : ℕ → Row → ℕ
line_number place row = place + row.request.trace + 2

-- the number of the last line
abbrev pub last_number : ℕ → List Request → ℕ
last_number traces requests = traces + length requests + 1
