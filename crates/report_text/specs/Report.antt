-- The text of a report: its lines, and the bytes of each.
use Rattle.std.specs.Prelude.{ℕ, ◌==◌, List, [], ◌∷◌, ◌++◌, Option, None, Some, codes, decimal, filter, map}
use Rattle.std.specs.List.{flat_map, range_with_len}
use Rattle.history_orders.specs.map_history.specs.declared.op.Entry.{Entry}
use Rattle.history_orders.specs.map_history.specs.declared.op.Request.{Request}
use Rattle.history_orders.specs.map_history.specs.declared.reply.Reply.{Reply}
use Rattle.history_orders.specs.map_history.specs.declared.reply.Reply.TheVariants.{New, Dup, Val, Gone, Absent, Was, Moved}

-- what a served request was answered, and its rank among all that were served
pub record Answer : Type 0 where
  pub rank : ℕ
  pub reply : Reply

-- a request with its answer, or with none where it is unserved
pub record Row : Type 0 where
  pub request : Request
  pub answer : Option Answer

-- a line of a report
pub data Line : Type 0 where
  trace_line : ℕ → Line
  answer_line : Option Answer → Line
  final_line : ℕ → Line

-- the line of a trace, and those of its requests in their order
abbrev pub lines_of_trace : List Row → ℕ → List Line
lines_of_trace rows trace =
    trace_line trace ∷ map (λ row. answer_line row.answer) (filter (λ row. row.request.trace == trace) rows)

-- the lines of each trace in turn, and last the number of pairs that are left
abbrev pub report_lines : ℕ → List Row → ℕ → List Line
report_lines traces rows size = flat_map (lines_of_trace rows) (range_with_len 0 traces) ++ final_line size ∷ []

-- how a reply is printed
abbrev pub reply_text : Reply → List ℕ
reply_text New = codes "new"
reply_text Dup = codes "dup"
reply_text (Val value) = codes "val " ++ decimal value
reply_text Gone = codes "gone"
reply_text Absent = codes "none"
reply_text (Was value) = codes "was " ++ decimal value
reply_text Moved = codes "moved"

-- the bytes of a line, with the line feed that ends it
abbrev pub line_text : Line → List ℕ
line_text (trace_line trace) = codes "trace " ++ decimal trace ++ codes "\n"
line_text (answer_line (Some answer)) = decimal answer.rank ++ codes " " ++ reply_text answer.reply ++ codes "\n"
line_text (answer_line None) = codes "- unserved\n"
line_text (final_line size) = codes "final " ++ decimal size ++ codes "\n"

-- the bytes of a report
abbrev pub report_text : ℕ → List Row → ℕ → List ℕ
report_text traces rows size = flat_map line_text (report_lines traces rows size)

-- the answer of a request that has a rank and an entry
abbrev pub answer_of : Option Entry → Option ℕ → Option Answer
answer_of (Some entry) (Some rank) = Some (record { rank = rank; reply = entry.reply })
answer_of _ _ = None

-- the rows of requests with their entries and ranks
abbrev pub rows_of : List Request → List (Option Entry) → List (Option ℕ) → List Row
rows_of (request ∷ requests) (entry ∷ entries) (rank ∷ ranks) =
    record { request = request; answer = answer_of entry rank } ∷ rows_of requests entries ranks
rows_of _ _ _ = []
