-- The lines of a report that are left, when some traces were begun and some rows were printed.
use Rattle.std.proofs.Common.{◌≡◌, ℕ, suc, zero, ◌+◌, ◌-◌, ◌<◌, ◌≤◌, ◌==◌, Bool, false, cond, List, [], ◌∷◌, ◌++◌, Option, length, drop, get_or, map, refl, sym, ap, ◌∙◌, arith, append_assoc, filter}
use Rattle.std.specs.List.{All, flat_map, range_with_len}
use Rattle.std.specs.List.Sorted.{IsNonDecreasingBy}
use Rattle.std.proofs.lemmas.Bool.{eq-eqb, ne_eqb}
use Rattle.std.proofs.lemmas.Bool.Decides.{nat_tests}
use Rattle.std.proofs.lemmas.List.{append-nil, map-append, drop_more, drop_all, get_or-drop, get_or_default, length-drop}
use Rattle.std.proofs.lemmas.List.Concat.{flat_map-append}
use Rattle.std.proofs.lemmas.List.Elements.{All-head, All-tail, All-cons, All-nil}
use Rattle.history_orders.specs.map_history.specs.declared.op.Entry.{Entry}
use Rattle.history_orders.specs.map_history.specs.declared.op.Request.{Request}
use Rattle.report_text.specs.Report.{Row, Line, answer_of, rows_of, lines_of_trace, line_text, report_lines, report_text}
use Rattle.report_text.specs.Report.Line.{trace_line, answer_line, final_line}
use Rattle.report_text.specs.Page.{traces_text}

-- the lines that are left when the traces below `begun` were begun: those of the last begun trace, of the later ones, and the last
abbrev pub left_lines : ℕ → List Row → ℕ → ℕ → List Line
left_lines begun rows traces size =
    map (λ (row : Row). answer_line row.answer) (filter (λ (row : Row). (row.request.trace + 1) == begun) rows)
    ++ (flat_map (lines_of_trace rows) (range_with_len begun (traces - begun)) ++ final_line size ∷ [])

abbrev pub left_text : ℕ → List Row → ℕ → ℕ → List ℕ
left_text begun rows traces size = flat_map line_text (left_lines begun rows traces size)

-- a filter that no element passes
filter-none : {X : Type 0} (p : X → Bool) (xs : List X) → All (λ x. p x ≡ false) xs → filter p xs ≡ []
filter-none p [] none = refl
filter-none p (x ∷ xs) none =
    ap (λ b. cond b (x ∷ filter p xs) (filter p xs)) (All-head (λ y. p y ≡ false) x xs none) ∙ filter-none p xs (All-tail (λ y. p y ≡ false) x xs none)

-- a filter by two tests that agree
filter-same : {X : Type 0} (p q : X → Bool) (xs : List X) → ((x : X) → p x ≡ q x) → filter p xs ≡ filter q xs
filter-same p q [] same = refl
filter-same p q (x ∷ xs) same = ap (λ b. cond b (x ∷ filter p xs) (filter p xs)) (same x) ∙ ap (λ l. cond (q x) (x ∷ l) l) (filter-same p q xs same)

map-same : {X Y : Type 0} (f g : X → Y) (xs : List X) → ((x : X) → f x ≡ g x) → map f xs ≡ map g xs
map-same f g [] same = refl
map-same f g (x ∷ xs) same = λ i. same x i ∷ map-same f g xs same i

next_test : (trace begun : ℕ) → ((trace + 1) == (begun + 1)) ≡ (trace == begun)
next_test trace begun = grind (arith, nat_tests)

pub range_with_len-append : (a m n : ℕ) → range_with_len a (m + n) ≡ range_with_len a m ++ range_with_len (a + m) n
range_with_len-append a zero n = ap (λ k. range_with_len a k) (omega arith) ∙ ap (λ k. range_with_len k n) (omega arith)
range_with_len-append a (suc m) n =
    let e : suc m + n ≡ suc (m + n) = omega arith in
    let f : a + 1 + m ≡ a + suc m = omega arith in
    ap (λ k. range_with_len a k) e ∙ ap (λ l. a ∷ l) (range_with_len-append (a + 1) m n ∙ ap (λ k. range_with_len (a + 1) m ++ range_with_len k n) f)

-- the traces up to one between
pub traces-append : (begun mid end : ℕ) → begun ≤ mid → mid ≤ end → traces_text begun mid ++ traces_text mid end ≡ traces_text begun end
traces-append begun mid end low high =
    let from : begun + (mid - begun) ≡ mid = omega arith in
    let whole : range_with_len begun (end - begun) ≡ range_with_len begun (mid - begun) ++ range_with_len mid (end - mid) =
    ap (range_with_len begun) (omega arith) ∙ range_with_len-append begun (mid - begun) (end - mid) ∙ ap (λ k. range_with_len begun (mid - begun) ++ range_with_len k (end - mid)) from in
    sym (ap (λ l. flat_map line_text (map trace_line l)) whole
    ∙ ap (flat_map line_text) (map-append trace_line (range_with_len begun (mid - begun)) (range_with_len mid (end - mid)))
    ∙ flat_map-append line_text (map trace_line (range_with_len begun (mid - begun))) (map trace_line (range_with_len mid (end - mid))))

-- one trace
pub traces-one : (trace : ℕ) → traces_text trace (trace + 1) ≡ line_text (trace_line trace)
traces-one trace =
    let one : (trace + 1) - trace ≡ 1 = omega arith in
    ap (λ n. flat_map line_text (map trace_line (range_with_len trace n))) one ∙ append-nil (line_text (trace_line trace))

-- one more trace
pub traces-more : (begun trace : ℕ) → begun ≤ trace → traces_text begun trace ++ line_text (trace_line trace) ≡ traces_text begun (trace + 1)
traces-more begun trace low = ap (λ l. traces_text begun trace ++ l) (sym (traces-one trace)) ∙ traces-append begun trace (trace + 1) low (omega arith)

-- at the start everything is left
pub lines-start : (rows : List Row) (traces size : ℕ) → left_lines 0 rows traces size ≡ report_lines traces rows size
lines-start rows traces size =
    let none : All (λ (row : Row). ((row.request.trace + 1) == 0) ≡ false) rows = λ k d lt. ne_eqb _ 0 (λ e. omega arith) in
    let first = filter-none (λ (row : Row). (row.request.trace + 1) == 0) rows none in
    ap (λ (l : List Row). map (λ (row : Row). answer_line row.answer) l ++ (flat_map (lines_of_trace rows) (range_with_len 0 (traces - 0)) ++ final_line size ∷ [])) first
    ∙ ap (λ n. flat_map (lines_of_trace rows) (range_with_len 0 n) ++ final_line size ∷ []) (omega arith)

pub left-start : (rows : List Row) (traces size : ℕ) → left_text 0 rows traces size ≡ report_text traces rows size
left-start rows traces size = ap (flat_map line_text) (lines-start rows traces size)

-- one more trace is begun
pub lines-begin : (begun : ℕ) (rows : List Row) (traces size : ℕ) → begun < traces → All (λ (row : Row). begun ≤ row.request.trace) rows → ◌≡◌ {A = List Line} (trace_line begun ∷ left_lines (begun + 1) rows traces size) (left_lines begun rows traces size)
lines-begin begun rows traces size more later =
    let line = λ (row : Row). answer_line row.answer in
    let none : All (λ (row : Row). ((row.request.trace + 1) == begun) ≡ false) rows =
    λ k d lt. let low : begun ≤ (get_or rows k d).request.trace = later k d lt in ne_eqb _ begun (λ e. omega arith) in
    let first : filter (λ (row : Row). (row.request.trace + 1) == begun) rows ≡ [] = filter-none (λ (row : Row). (row.request.trace + 1) == begun) rows none in
    let same : filter (λ (row : Row). (row.request.trace + 1) == (begun + 1)) rows ≡ filter (λ (row : Row). row.request.trace == begun) rows = filter-same _ _ rows (λ row. next_test row.request.trace begun) in
    let rest = flat_map (lines_of_trace rows) (range_with_len (begun + 1) (traces - (begun + 1))) in
    let count : traces - begun ≡ suc (traces - (begun + 1)) = omega arith in
    ap (λ (l : List Row). trace_line begun ∷ (map line l ++ (rest ++ final_line size ∷ []))) same
    ∙ ap (λ l. trace_line begun ∷ l) (sym (append_assoc (map line (filter (λ (row : Row). row.request.trace == begun) rows)) rest (final_line size ∷ [])))
    ∙ ap (λ n. flat_map (lines_of_trace rows) (range_with_len begun n) ++ final_line size ∷ []) (sym count)
    ∙ ap (λ (l : List Row). map line l ++ (flat_map (lines_of_trace rows) (range_with_len begun (traces - begun)) ++ final_line size ∷ [])) (sym first)

left-begin : (begun : ℕ) (rows : List Row) (traces size : ℕ) → begun < traces → All (λ (row : Row). begun ≤ row.request.trace) rows → line_text (trace_line begun) ++ left_text (begun + 1) rows traces size ≡ left_text begun rows traces size
left-begin begun rows traces size more later = ap (flat_map line_text) (lines-begin begun rows traces size more later)

-- more traces are begun
begin_more : (n begun : ℕ) (rows : List Row) (traces size : ℕ) → begun + n ≤ traces → All (λ (row : Row). begun + n ≤ row.request.trace + 1) rows
    → flat_map line_text (map trace_line (range_with_len begun n)) ++ left_text (begun + n) rows traces size ≡ left_text begun rows traces size
begin_more zero begun rows traces size within later = let none : begun + 0 ≡ begun = omega arith in ap (λ b. left_text b rows traces size) none
begin_more (suc n) begun rows traces size within later =
    let next : begun + suc n ≡ begun + 1 + n = omega arith in
    let first : All (λ (row : Row). begun ≤ row.request.trace) rows = λ k d lt. let low : begun + suc n ≤ (get_or rows k d).request.trace + 1 = later k d lt in omega arith in
    let rest : All (λ (row : Row). begun + 1 + n ≤ row.request.trace + 1) rows = λ k d lt. let low : begun + suc n ≤ (get_or rows k d).request.trace + 1 = later k d lt in omega arith in
    let lines = flat_map line_text (map trace_line (range_with_len (begun + 1) n)) in
    append_assoc (line_text (trace_line begun)) lines (left_text (begun + suc n) rows traces size)
    ∙ ap (λ b. line_text (trace_line begun) ++ (lines ++ left_text b rows traces size)) next
    ∙ ap (λ l. line_text (trace_line begun) ++ l) (begin_more n (begun + 1) rows traces size (omega arith) rest)
    ∙ left-begin begun rows traces size (omega arith) first

-- the traces up to one are begun, and no row of an earlier trace is left
pub left-traces : (begun end : ℕ) (rows : List Row) (traces size : ℕ) → begun ≤ end → end ≤ traces → All (λ (row : Row). end ≤ row.request.trace + 1) rows
    → traces_text begun end ++ left_text end rows traces size ≡ left_text begun rows traces size
left-traces begun end rows traces size low high later =
    let from : begun + (end - begun) ≡ end = omega arith in
    ap (λ b. traces_text begun end ++ left_text b rows traces size) (sym from)
    ∙ begin_more (end - begun) begun rows traces size (omega arith) (λ k d lt. let least : end ≤ (get_or rows k d).request.trace + 1 = later k d lt in omega arith)

-- a row plays no part in the lines of later traces
skip_row : (n begun : ℕ) (row : Row) (rows : List Row) → row.request.trace < begun → flat_map (lines_of_trace (row ∷ rows)) (range_with_len begun n) ≡ flat_map (lines_of_trace rows) (range_with_len begun n)
skip_row zero begun row rows before = refl
skip_row (suc n) begun row rows before =
    let other = ne_eqb row.request.trace begun (λ e. omega arith) in
    let kept = filter (λ (r : Row). r.request.trace == begun) rows in
    ap (λ b. (trace_line begun ∷ map (λ (r : Row). answer_line r.answer) (cond b (row ∷ kept) kept)) ++ flat_map (lines_of_trace (row ∷ rows)) (range_with_len (begun + 1) n)) other
    ∙ ap (λ l. lines_of_trace rows begun ++ l) (skip_row n (begun + 1) row rows (omega arith))

-- a row of the trace that was begun last is printed
pub lines-row : (row : Row) (rows : List Row) (traces size : ℕ) → ◌≡◌ {A = List Line} (answer_line row.answer ∷ left_lines (row.request.trace + 1) rows traces size) (left_lines (row.request.trace + 1) (row ∷ rows) traces size)
lines-row row rows traces size =
    let begun = row.request.trace + 1 in
    let here = eq-eqb begun begun refl in
    let kept = filter (λ (r : Row). (r.request.trace + 1) == begun) rows in
    let line = λ (r : Row). answer_line r.answer in
    sym (ap (λ b. map line (cond b (row ∷ kept) kept) ++ (flat_map (lines_of_trace (row ∷ rows)) (range_with_len begun (traces - begun)) ++ final_line size ∷ [])) here
    ∙ ap (λ l. map line (row ∷ kept) ++ (l ++ final_line size ∷ [])) (skip_row (traces - begun) begun row rows (omega arith)))

pub left-row : (row : Row) (rows : List Row) (traces size : ℕ) → line_text (answer_line row.answer) ++ left_text (row.request.trace + 1) rows traces size ≡ left_text (row.request.trace + 1) (row ∷ rows) traces size
left-row row rows traces size = ap (flat_map line_text) (lines-row row rows traces size)

-- at the end the last line is left
pub lines-end : (traces size : ℕ) → left_lines traces [] traces size ≡ final_line size ∷ []
lines-end traces size =
    let none : traces - traces ≡ 0 = omega arith in
    ap (λ n. flat_map (lines_of_trace []) (range_with_len traces n) ++ final_line size ∷ []) none

pub left-end : (traces size : ℕ) → left_text traces [] traces size ≡ line_text (final_line size)
left-end traces size = ap (flat_map line_text) (lines-end traces size) ∙ append-nil (line_text (final_line size))

-- what is left of the report before the request with this number
abbrev pub left_at : ℕ → ℕ → List Request → List (Option Entry) → List (Option ℕ) → ℕ → ℕ → List ℕ
left_at begun i requests entries ranks traces size = left_text begun (rows_of (drop i requests) (drop i entries) (drop i ranks)) traces size

-- what holds of the requests holds of their rows
All-rows_of : (P : Request → Type 0) (requests : List Request) (entries : List (Option Entry)) (ranks : List (Option ℕ)) → All P requests → All (λ (row : Row). P row.request) (rows_of requests entries ranks)
All-rows_of P [] entries ranks all = All-nil (λ (row : Row). P row.request)
All-rows_of P (request ∷ requests) [] ranks all = All-nil (λ (row : Row). P row.request)
All-rows_of P (request ∷ requests) (entry ∷ entries) [] all = All-nil (λ (row : Row). P row.request)
All-rows_of P (request ∷ requests) (entry ∷ entries) (rank ∷ ranks) all =
    All-cons (λ (row : Row). P row.request) _ _ (All-head P request requests all) (All-rows_of P requests entries ranks (All-tail P request requests all))

-- the traces of the requests from one on are no lower
pub at_least : (requests : List Request) (i end : ℕ) → ((k : ℕ) (d : Request) → i ≤ k → k < length requests → end ≤ (get_or requests k d).trace + 1) → All (λ (request : Request). end ≤ request.trace + 1) (drop i requests)
at_least requests i end low = λ k d lt. rw get_or-drop (low (i + k) d (omega arith) (omega (arith, length-drop i requests)))

-- the traces up to the next request's are begun
pub left_at-traces : (begun end i : ℕ) (requests : List Request) (entries : List (Option Entry)) (ranks : List (Option ℕ)) (traces size : ℕ) → begun ≤ end → end ≤ traces
    → ((k : ℕ) (d : Request) → i ≤ k → k < length requests → end ≤ (get_or requests k d).trace + 1)
    → traces_text begun end ++ left_at end i requests entries ranks traces size ≡ left_at begun i requests entries ranks traces size
left_at-traces begun end i requests entries ranks traces size low high later =
    left-traces begun end _ traces size low high (All-rows_of (λ (request : Request). end ≤ request.trace + 1) (drop i requests) (drop i entries) (drop i ranks) (at_least requests i end later))

-- no request from one on is of an earlier trace than that one
pub later_traces : (requests : List Request) (i : ℕ) (request : Request) → IsNonDecreasingBy (λ (r : Request). r.trace) requests
    → (k : ℕ) (d : Request) → i ≤ k → k < length requests → (get_or requests i request).trace + 1 ≤ (get_or requests k d).trace + 1
later_traces requests i request in_order k d low lt =
    let same : get_or requests i request ≡ get_or requests i d = get_or_default requests i request d (omega arith) in
    let up : (get_or requests i d).trace ≤ (get_or requests k d).trace = in_order i k d low lt in
    rw same (omega (arith, up))

-- the traces up to that of the next request are begun
pub left_at-next : (begun i : ℕ) (requests : List Request) (entries : List (Option Entry)) (ranks : List (Option ℕ)) (traces size : ℕ) (request : Request)
    → IsNonDecreasingBy (λ (r : Request). r.trace) requests → All (λ (r : Request). r.trace < traces) requests
    → ((k : ℕ) (d : Request) → i ≤ k → k < length requests → begun ≤ (get_or requests k d).trace + 1) → i < length requests
    → traces_text begun ((get_or requests i request).trace + 1) ++ left_at ((get_or requests i request).trace + 1) i requests entries ranks traces size ≡ left_at begun i requests entries ranks traces size
left_at-next begun i requests entries ranks traces size request in_order below before within =
    let high : (get_or requests i request).trace < traces = below i request within in
    left_at-traces begun _ i requests entries ranks traces size (before i request (omega arith) within) (omega arith) (later_traces requests i request in_order)

-- the line of the next request is printed
pub left_at-row : (i : ℕ) (requests : List Request) (entries : List (Option Entry)) (ranks : List (Option ℕ)) (traces size : ℕ) (request : Request) (entry : Option Entry) (rank : Option ℕ)
    → i < length requests → length entries ≡ length requests → length ranks ≡ length requests
    → line_text (answer_line (answer_of (get_or entries i entry) (get_or ranks i rank))) ++ left_at ((get_or requests i request).trace + 1) (i + 1) requests entries ranks traces size
    ≡ left_at ((get_or requests i request).trace + 1) i requests entries ranks traces size
left_at-row i requests entries ranks traces size request entry rank within one_entry one_rank =
    let next = (get_or requests i request).trace + 1 in
    left-row (record { request = get_or requests i request; answer = answer_of (get_or entries i entry) (get_or ranks i rank) }) (rows_of (drop (i + 1) requests) (drop (i + 1) entries) (drop (i + 1) ranks)) traces size
    ∙ sym (λ j. left_text next (rows_of (drop_more requests i request within j) (drop_more entries i entry (omega arith) j) (drop_more ranks i rank (omega arith) j)) traces size)

-- behind the last request the last line is left
pub left_at-end : (i : ℕ) (requests : List Request) (entries : List (Option Entry)) (ranks : List (Option ℕ)) (traces size : ℕ) → length requests ≤ i
    → left_at traces i requests entries ranks traces size ≡ line_text (final_line size)
left_at-end i requests entries ranks traces size past =
    ap (λ (l : List Request). left_text traces (rows_of l (drop i entries) (drop i ranks)) traces size) (drop_all i requests past) ∙ left-end traces size
