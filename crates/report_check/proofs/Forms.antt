-- The lines of a report in their order, when some traces were begun and some rows were read.
use Rattle.std.proofs.Common.{◌≡◌, ℕ, zero, suc, ◌+◌, ◌-◌, ◌<◌, ◌≤◌, List, [], ◌∷◌, ◌++◌, Option, None, length, map, inl, inr, refl, sym, ap, ◌∙◌, subst, append_assoc, arith}
use Rattle.std.specs.Prelude.{All}
use Rattle.std.specs.List.{range_with_len}
use Rattle.std.specs.List.Sorted.{IsNonDecreasingBy}
use Rattle.std.proofs.lemmas.List.{map-append}
use Rattle.std.proofs.lemmas.List.Elements.{All-cons, All-nil, All-weaker}
use Rattle.history_orders.specs.map_history.specs.declared.op.Request.{Request}
use Rattle.report_text.specs.Report.{Line, Row, report_lines}
use Rattle.report_text.specs.Report.Line.{trace_line, answer_line, final_line}
use Rattle.report_text.proofs.Lines.{left_lines, lines-begin, lines-end, lines-row, lines-start, range_with_len-append}
use Rattle.history_orders.specs.map_history.specs.declared.op.Entry.{Entry}
use Rattle.report_check.specs.Lines.{IsFirstBad, NoneStands, SayAll}
use Rattle.report_check.specs.Rows.{SaysRows, places, unserved}
use Rattle.report_check.specs.Said.{IsNext, answer_said, rows_said}

-- the lines that begin the traces from one up to another
abbrev pub traces_from : ℕ → ℕ → List Line
traces_from begun end = map trace_line (range_with_len begun (end - begun))

-- the lines of rows where so many traces have begun
abbrev pub lines_behind : ℕ → List Row → ℕ → ℕ → List Line
lines_behind begun [] traces size = traces_from begun traces ++ final_line size ∷ []
lines_behind begun (row ∷ rows) traces size = traces_from begun (row.request.trace + 1) ++ answer_line row.answer ∷ lines_behind (row.request.trace + 1) rows traces size

-- rows that go on where so many traces have begun
abbrev pub Continues : ℕ → List Row → ℕ → Type 0
Continues begun [] traces = begun ≤ traces
Continues begun (row ∷ rows) traces = (begun ≤ row.request.trace + 1) × (row.request.trace < traces) × Continues (row.request.trace + 1) rows traces

abbrev IsLater : ℕ → Row → Type 0
IsLater begun row = begun ≤ row.request.trace + 1

all_later : (begun : ℕ) (rows : List Row) (traces : ℕ) → Continues begun rows traces → All (IsLater begun) rows
all_later begun [] traces on = All-nil (IsLater begun)
all_later begun (row ∷ rows) traces (low, within, on) =
    All-cons (IsLater begun) row rows low (All-weaker (IsLater (row.request.trace + 1)) (IsLater begun) (λ r later. omega (arith, low, later)) rows (all_later (row.request.trace + 1) rows traces on))

-- more traces are begun
begins : (n begun : ℕ) (rows : List Row) (traces size : ℕ) → begun + n ≤ traces → All (IsLater (begun + n)) rows
    → map trace_line (range_with_len begun n) ++ left_lines (begun + n) rows traces size ≡ left_lines begun rows traces size
begins zero begun rows traces size within later = let none : begun + 0 ≡ begun = omega arith in ap (λ b. left_lines b rows traces size) none
begins (suc n) begun rows traces size within later =
    let next : begun + suc n ≡ begun + 1 + n = omega arith in
    let first : All (λ (row : Row). begun ≤ row.request.trace) rows = All-weaker (IsLater (begun + suc n)) (λ (row : Row). begun ≤ row.request.trace) (λ r low. omega (arith, low)) rows later in
    let rest : All (IsLater (begun + 1 + n)) rows = subst (λ b. All (IsLater b) rows) next later in
    ap (λ b. trace_line begun ∷ (map trace_line (range_with_len (begun + 1) n) ++ left_lines b rows traces size)) next
    ∙ ap (λ l. trace_line begun ∷ l) (begins n (begun + 1) rows traces size (omega (arith, within)) rest)
    ∙ lines-begin begun rows traces size (omega (arith, within)) first

begins_to : (begun end : ℕ) (rows : List Row) (traces size : ℕ) → begun ≤ end → end ≤ traces → All (IsLater end) rows
    → traces_from begun end ++ left_lines end rows traces size ≡ left_lines begun rows traces size
begins_to begun end rows traces size low high later =
    let from : begun + (end - begun) ≡ end = omega (arith, low) in
    ap (λ b. traces_from begun end ++ left_lines b rows traces size) (sym from)
    ∙ begins (end - begun) begun rows traces size (omega (arith, from, high)) (subst (λ b. All (IsLater b) rows) (sym from) later)

lines_left : (begun : ℕ) (rows : List Row) (traces size : ℕ) → Continues begun rows traces → left_lines begun rows traces size ≡ lines_behind begun rows traces size
lines_left begun [] traces size on =
    sym (begins_to begun traces [] traces size on (omega arith) (All-nil (IsLater traces))) ∙ ap (λ l. traces_from begun traces ++ l) (lines-end traces size)
lines_left begun (row ∷ rows) traces size (low, within, on) =
    let next = row.request.trace + 1 in
    let later = All-cons (IsLater next) row rows (omega arith) (all_later next rows traces on) in
    sym (begins_to begun next (row ∷ rows) traces size low (omega (arith, within)) later)
    ∙ ap (λ l. traces_from begun next ++ l) (sym (lines-row row rows traces size))
    ∙ ap (λ l. traces_from begun next ++ answer_line row.answer ∷ l) (lines_left next rows traces size on)

-- the lines of a report
pub report_lines_are : (rows : List Row) (traces size : ℕ) → Continues 0 rows traces → report_lines traces rows size ≡ lines_behind 0 rows traces size
report_lines_are rows traces size on = sym (lines-start rows traces size) ∙ lines_left 0 rows traces size on

abbrev pub request_of : Row → Request
request_of row = row.request

continue_from : (begun : ℕ) (rows : List Row) (traces : ℕ) → begun ≤ traces → All (λ (r : Request). begun ≤ r.trace + 1) (map request_of rows)
    → IsNonDecreasingBy (λ (r : Request). r.trace) (map request_of rows) → All (λ (r : Request). r.trace < traces) (map request_of rows) → Continues begun rows traces
continue_from begun [] traces reached later rising below = reached
continue_from begun (row ∷ rows) traces reached later rising below = (
  later 0 row.request (omega arith),
  below 0 row.request (omega arith),
  continue_from (row.request.trace + 1) rows traces (omega (arith, below 0 row.request (omega arith)))
      (λ k d early. omega (arith, rising 0 (suc k) d (omega arith) (omega (arith, early))))
      (λ i j d le early. rising (suc i) (suc j) d (omega (arith, le)) (omega (arith, early)))
      (λ k d early. below (suc k) d (omega (arith, early))),
)

-- the rows of requests whose traces never fall and are below the count of traces
pub rows_continue : (requests : List Request) (rows : List Row) (traces : ℕ) → IsNonDecreasingBy (λ (r : Request). r.trace) requests → All (λ (r : Request). r.trace < traces) requests
    → map request_of rows ≡ requests → Continues 0 rows traces
rows_continue requests rows traces rising below are =
    continue_from 0 rows traces (omega arith) (λ k d early. omega arith)
    (subst (λ (l : List Request). IsNonDecreasingBy (λ (r : Request). r.trace) l) (sym are) rising) (subst (λ (l : List Request). All (λ (r : Request). r.trace < traces) l) (sym are) below)

pub requests_unserved : (requests : List Request) → map request_of (map unserved requests) ≡ requests
requests_unserved [] = refl
requests_unserved (request ∷ requests) = ap (λ l. request ∷ l) (requests_unserved requests)

pub requests_said : (requests : List Request) (answers : List (Option Entry)) → length answers ≡ length requests → map request_of (rows_said requests answers) ≡ requests
requests_said [] answers long = refl
requests_said (request ∷ requests) [] long = absurd (omega (arith, long))
requests_said (request ∷ requests) (said ∷ answers) long = ap (λ l. request ∷ l) (requests_said requests answers (omega (arith, long)))

-- the traces from one up to another, and on
pub traces_on : (begun mid end : ℕ) → begun ≤ mid → mid ≤ end → traces_from begun mid ++ traces_from mid end ≡ traces_from begun end
traces_on begun mid end low high =
    let from : begun + (mid - begun) ≡ mid = omega (arith, low) in
    sym (map-append trace_line (range_with_len begun (mid - begun)) (range_with_len mid (end - mid)))
    ∙ ap (λ k. map trace_line (range_with_len begun (mid - begun) ++ range_with_len k (end - mid))) (sym from)
    ∙ ap (map trace_line) (sym (range_with_len-append begun (mid - begun) (end - mid)))
    ∙ ap (λ n. map trace_line (range_with_len begun n)) (omega (arith, low, high))

pub traces_one : (trace : ℕ) → traces_from trace (trace + 1) ≡ trace_line trace ∷ []
traces_one trace = let one : (trace + 1) - trace ≡ 1 = omega arith in ap (λ n. map trace_line (range_with_len trace n)) one

pub traces_more : (begun trace : ℕ) (lines : List Line) → begun ≤ trace → traces_from begun (trace + 1) ++ lines ≡ traces_from begun trace ++ trace_line trace ∷ lines
traces_more begun trace lines low =
    ap (λ l. l ++ lines) (sym (traces_on begun trace (trace + 1) low (omega arith)) ∙ ap (λ l. traces_from begun trace ++ l) (traces_one trace))
    ∙ append_assoc (traces_from begun trace) (trace_line trace ∷ []) lines

pub traces_split : (begun trace end : ℕ) (lines : List Line) → begun ≤ trace → trace < end → traces_from begun end ++ lines ≡ traces_from begun trace ++ trace_line trace ∷ (traces_from (trace + 1) end ++ lines)
traces_split begun trace end lines low high =
    ap (λ l. l ++ lines) (sym (traces_on begun (trace + 1) end (omega (arith, low)) (omega (arith, high))))
    ∙ append_assoc (traces_from begun (trace + 1)) (traces_from (trace + 1) end) lines
    ∙ traces_more begun trace (traces_from (trace + 1) end ++ lines) low

-- a line was read
pub say_next : (line : Line) (lines : List Line) (bytes more : List ℕ) → IsNext line bytes more → SayAll lines more → SayAll (line ∷ lines) bytes
say_next line lines bytes more next all = (next.text, more, next.says, next.cut, all)

pub bad_later_trace : (trace : ℕ) (lines : List Line) (bytes more : List ℕ) (number : ℕ) → IsNext (trace_line trace) bytes more → IsFirstBad lines more number → IsFirstBad (trace_line trace ∷ lines) bytes (number + 1)
bad_later_trace trace lines bytes more number next bad = inr (next.text, more, number, next.says, next.cut, refl, bad)

pub bad_later_answer : (said : Option Entry) (lines : List Line) (bytes more : List ℕ) (number : ℕ) → IsNext (answer_line (answer_said said)) bytes more → IsFirstBad lines more number
    → IsFirstBad (answer_line None ∷ lines) bytes (number + 1)
bad_later_answer said lines bytes more number next bad = inr (next.text, more, number, (answer_said said, next.says), next.cut, refl, bad)

pub bad_later_size : (size : ℕ) (bytes more : List ℕ) (number : ℕ) → IsNext (final_line size) bytes more → IsFirstBad [] more number → IsFirstBad (final_line 0 ∷ []) bytes (number + 1)
bad_later_size size bytes more number next bad = inr (next.text, more, number, (size, next.says), next.cut, refl, bad)

pub bad_here : (line : Line) (lines : List Line) (bytes : List ℕ) → NoneStands line bytes → IsFirstBad (line ∷ lines) bytes 1
bad_here line lines bytes none = inl (refl, none)

-- the same lines and the same number, written otherwise
pub bad_moved : (lines others : List Line) (bytes : List ℕ) (number other : ℕ) → lines ≡ others → number ≡ other → IsFirstBad lines bytes number → IsFirstBad others bytes other
bad_moved lines others bytes number other same_lines same_number bad = subst (IsFirstBad others bytes) same_number (subst (λ l. IsFirstBad l bytes number) same_lines bad)

pub none_left : {A : Type 0} (xs : List A) → length xs ≡ 0 → xs ≡ []
none_left [] none = refl
none_left (x ∷ xs) none = absurd (omega (arith, none))

-- the traces up to that of a request were begun, and its line was read
pub said_step : (begun traces size : ℕ) (request : Request) (requests : List Request) (said : Option Entry) (more : List (Option Entry)) (rest middle after : List ℕ)
    → ((lines : List Line) → SayAll lines middle → SayAll (traces_from begun (request.trace + 1) ++ lines) rest) → IsNext (answer_line (answer_said said)) middle after
    → SayAll (lines_behind (request.trace + 1) (rows_said requests more) traces size) after → SayAll (lines_behind begun (rows_said (request ∷ requests) (said ∷ more)) traces size) rest
said_step begun traces size request requests said more rest middle after begin next all =
    let lines = lines_behind (request.trace + 1) (rows_said requests more) traces size in
    begin (answer_line (answer_said said) ∷ lines) (say_next (answer_line (answer_said said)) lines middle after next all)

pub bad_step : (begun traces : ℕ) (request : Request) (requests : List Request) (said : Option Entry) (number : ℕ) (rest middle after : List ℕ)
    → ((lines : List Line) (number : ℕ) → IsFirstBad lines middle number → IsFirstBad (traces_from begun (request.trace + 1) ++ lines) rest (number + (request.trace + 1 - begun)))
    → IsNext (answer_line (answer_said said)) middle after
    → IsFirstBad (lines_behind (request.trace + 1) (map unserved requests) traces 0) after number
    → IsFirstBad (lines_behind begun (map unserved (request ∷ requests)) traces 0) rest (number + 1 + (request.trace + 1 - begun))
bad_step begun traces request requests said number rest middle after begin next bad =
    let lines = lines_behind (request.trace + 1) (map unserved requests) traces 0 in
    begin (answer_line None ∷ lines) (number + 1) (bad_later_answer said lines middle after number next bad)

-- the places of a report on requests whose traces never fall
pub places_are : (requests : List Request) (traces : ℕ) → IsNonDecreasingBy (λ (r : Request). r.trace) requests → All (λ (r : Request). r.trace < traces) requests
    → places traces requests ≡ lines_behind 0 (map unserved requests) traces 0
places_are requests traces rising below = report_lines_are (map unserved requests) traces 0 (rows_continue requests (map unserved requests) traces rising below (requests_unserved requests))

pub says_all : (requests : List Request) (answers : List (Option Entry)) (traces size : ℕ) (bytes : List ℕ) → IsNonDecreasingBy (λ (r : Request). r.trace) requests → All (λ (r : Request). r.trace < traces) requests
    → length answers ≡ length requests → SayAll (lines_behind 0 (rows_said requests answers) traces size) bytes → SaysRows traces requests (rows_said requests answers) size bytes
says_all requests answers traces size bytes rising below long all =
    let are = requests_said requests answers long in
    record { are = are; lines = subst (λ (l : List Line). SayAll l bytes) (sym (report_lines_are (rows_said requests answers) traces size (rows_continue requests (rows_said requests answers) traces rising below are))) all }
