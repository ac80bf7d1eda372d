-- A report in which nothing is wrong is legal.
use Rattle.std.proofs.Common.{◌≡◌, ℕ, zero, suc, ◌+◌, ◌-◌, ◌<◌, ◌≤◌, ◌^◌, List, [], ◌∷◌, ◌++◌, Option, None, Some, IsSome, codes, length, map, get_or, inl, inr, refl, sym, ap, ◌∙◌, subst, append_assoc, arith}
use Rattle.std.specs.Prelude.{All, AllPairs, decimal, slice_get}
use Rattle.std.specs.FinMap.{empty, len, len-empty}
use Rattle.std.specs.Ordering.{nat_cmp}
use Rattle.std.specs.List.{AllByRecursion, flat_map, range_with_len}
use Rattle.std.proofs.lemmas.Bool.{cases_lt}
use Rattle.std.proofs.lemmas.List.{length-map}
use Rattle.std.proofs.lemmas.List.Elements.{All-cons, All-from_recursion, All-nil}
use Rattle.std.proofs.lemmas.List.Sorted.{length_permutation}
use Rattle.std.proofs.lemmas.Option.{slice_get-get_or}
use Rattle.history_orders.specs.map_history.specs.declared.op.Op.{Op}
use Rattle.history_orders.specs.map_history.specs.declared.op.Request.{Request}
use Rattle.history_orders.specs.map_history.specs.History.{IsLegalFrom}
use Rattle.history_orders.specs.map_history.specs.Replay.{Pairs, map_after, map_after_all}
use Rattle.history_orders.specs.map_history.proofs.Sizes.{len-map_after}
use Rattle.report_text.specs.Legal.{IsHistory, Served, answered, op_of, served_in}
use Rattle.report_text.specs.Report.{Answer, Line, Row, line_text, report_lines, reply_text}
use Rattle.report_text.specs.Report.Line.{trace_line, answer_line, final_line}
use Rattle.report_text.proofs.Turns.{AllPairs-cons, AllPairs-nil}
use Rattle.report_check.specs.Faults.{EndsTurn, IsAnsweredAt, IsRankFault, NoFault}
use Rattle.report_check.specs.Lines.{SayAll, Says}
use Rattle.report_check.specs.Rows.{SaysRows}
use Rattle.report_check.specs.Verdicts.{HasReply, IsLegalReport}
use Rattle.report_check.proofs.Forms.{lines_behind, traces_from}
use Rattle.report_check.proofs.Numerals.{decimal_numeral}

-- the numbers of a line have 32 bits
abbrev pub IsSmall : Option Answer → Type 0
IsSmall None = Unit {0}
IsSmall (Some answer) = answer.rank < 2 ^ 32

abbrev pub IsSmallLine : Line → Type 0
IsSmallLine (trace_line trace) = Unit {0}
IsSmallLine (answer_line answer) = IsSmall answer
IsSmallLine (final_line size) = size < 2 ^ 32

-- such a line is printed as it is read
answer_text : (rank reply : List ℕ) → (rank ++ 32 ∷ reply) ++ 10 ∷ [] ≡ rank ++ codes " " ++ reply ++ codes "\n"
answer_text rank reply = ap (λ l. l ++ 10 ∷ []) (sym (append_assoc rank (32 ∷ []) reply))

pub text_is : (line : Line) (text : List ℕ) → IsSmallLine line → Says line text → text ++ 10 ∷ [] ≡ line_text line
text_is (trace_line trace) text small says = ap (λ l. l ++ 10 ∷ []) says ∙ append_assoc (codes "trace ") (decimal trace) (10 ∷ [])
text_is (answer_line None) text small says = ap (λ l. l ++ 10 ∷ []) says
text_is (answer_line (Some answer)) text small says =
    ap (λ l. l ++ 10 ∷ []) (says.is ∙ ap (λ d. d ++ 32 ∷ reply_text answer.reply) (decimal_numeral says.digits answer.rank says.rank small))
    ∙ answer_text (decimal answer.rank) (reply_text answer.reply)
text_is (final_line size) text small says =
    ap (λ l. l ++ 10 ∷ []) (says.is ∙ ap (λ d. codes "final " ++ d) (decimal_numeral says.digits size says.numeral small))
    ∙ append_assoc (codes "final ") (decimal size) (10 ∷ [])

pub texts_are : (lines : List Line) (bytes : List ℕ) → AllByRecursion IsSmallLine lines → SayAll lines bytes → bytes ≡ flat_map line_text lines
texts_are [] bytes small all = all
texts_are (line ∷ lines) bytes small (text, more, says, cut, rest) =
    cut ∙ sym (append_assoc text (10 ∷ []) more) ∙ (λ i. text_is line text small.0 says i ++ texts_are lines more small.1 rest i)

pub all_append : (P : Line → Type 0) (xs ys : List Line) → AllByRecursion P xs → AllByRecursion P ys → AllByRecursion P (xs ++ ys)
all_append P [] ys one other = other
all_append P (x ∷ xs) ys one other = (one.0, all_append P xs ys one.1 other)

traces_small : (n begun : ℕ) → AllByRecursion IsSmallLine (map trace_line (range_with_len begun n))
traces_small zero begun = tt
traces_small (suc n) begun = (tt, traces_small n (begun + 1))

lines_small : (begun : ℕ) (rows : List Row) (traces size : ℕ) → AllByRecursion (λ (row : Row). IsSmall row.answer) rows → size < 2 ^ 32 → AllByRecursion IsSmallLine (lines_behind begun rows traces size)
lines_small begun [] traces size small last = all_append IsSmallLine (traces_from begun traces) (final_line size ∷ []) (traces_small (traces - begun) begun) (last, tt)
lines_small begun (row ∷ rows) traces size small last =
    all_append IsSmallLine (traces_from begun (row.request.trace + 1)) (answer_line row.answer ∷ lines_behind (row.request.trace + 1) rows traces size)
    (traces_small (row.request.trace + 1 - begun) begun) (small.0, lines_small (row.request.trace + 1) rows traces size small.1 last)

-- what stands behind the lines of traces
say_behind : (n begun : ℕ) (lines : List Line) (bytes : List ℕ) → SayAll (map trace_line (range_with_len begun n) ++ lines) bytes → (rest : List ℕ) × SayAll lines rest
say_behind zero begun lines bytes all = (bytes, all)
say_behind (suc n) begun lines bytes (text, more, says, cut, rest) = say_behind n (begun + 1) lines more rest

has_reply : (answer : Option Answer) (text : List ℕ) → Says (answer_line answer) text → HasReply answer
has_reply None text says = tt
has_reply (Some answer) text says = says.reply

replies_small : (begun : ℕ) (rows : List Row) (traces size : ℕ) (bytes : List ℕ) → SayAll (lines_behind begun rows traces size) bytes → AllByRecursion (λ (row : Row). HasReply row.answer) rows
replies_small begun [] traces size bytes all = tt
replies_small begun (row ∷ rows) traces size bytes all =
    let (rest, (text, more, says, cut, on)) = say_behind (row.request.trace + 1 - begun) begun (answer_line row.answer ∷ lines_behind (row.request.trace + 1) rows traces size) bytes all in
    (has_reply row.answer text says, replies_small (row.request.trace + 1) rows traces size more on)

-- a fact of each element, by its place
pub all_at : {X : Type 0} (P : X → Type 0) (xs : List X) → ((i : ℕ) (x : X) → slice_get xs i ≡ Some x → P x) → AllByRecursion P xs
all_at P [] each = tt
all_at P (x ∷ xs) each = (each 0 x refl, all_at P xs (λ i y at. each (suc i) y at))

module _ (rows : List Row) (none : NoFault (IsRankFault rows)) where
  rank_low : (i : ℕ) (row : Row) (answer : Answer) → IsAnsweredAt rows i row answer → answer.rank < length (served_in rows)
  rank_low i row answer at = elim (cases_lt answer.rank (length (served_in rows))) [
    | inl low ↦ low
    | inr high ↦ absurd (none i row (record { answer = answer; at = at; why = inl high }))
  ]

  small_answer : length (served_in rows) < 2 ^ 32 → (i : ℕ) (row : Row) (answer : Option Answer) → slice_get rows i ≡ Some row → row.answer ≡ answer → IsSmall answer
  small_answer few i row None at is = tt
  small_answer few i row (Some answer) at is = omega (arith, few, rank_low i row answer (record { at = at; is = is }))

  pub small_rows : length (served_in rows) < 2 ^ 32 → AllByRecursion (λ (row : Row). IsSmall row.answer) rows
  small_rows few = all_at (λ (row : Row). IsSmall row.answer) rows (λ i row at. small_answer few i row row.answer at refl)

  rises : (i j : ℕ) (earlier later : Row) (a b : Answer) → slice_get rows i ≡ Some earlier → IsAnsweredAt rows j later b → earlier.answer ≡ Some a → i < j → earlier.request.trace ≡ later.request.trace → a.rank < b.rank
  rises i j earlier later a b there at is early same = elim (cases_lt a.rank b.rank) [
    | inl low ↦ low
    | inr high ↦ absurd (none j later (record { answer = b; at = at; why = inr (i, earlier, early, there, inr (same, subst (λ (o : Option Answer). EndsTurn o b) (sym is) high)) }))
  ]

  front_at : (i j : ℕ) (earlier later : Row) (a b : Option Answer) → slice_get rows i ≡ Some earlier → slice_get rows j ≡ Some later → earlier.answer ≡ a → later.answer ≡ b → i < j → earlier.request.trace ≡ later.request.trace → IsSome b → IsSome a
  front_at i j earlier later (Some a) b there at is is_b early same some = refl
  front_at i j earlier later None None there at is is_b early same some = some
  front_at i j earlier later None (Some b) there at is is_b early same some =
      absurd (none j later (record { answer = b; at = record { at = at; is = is_b }; why = inr (i, earlier, early, there, inr (same, subst (λ (o : Option Answer). EndsTurn o b) (sym is) tt)) }))

  pub front : AllPairs (λ (earlier : Row) (later : Row). earlier.request.trace ≡ later.request.trace → IsSome later.answer → IsSome earlier.answer) rows
  front i j d early within same some =
      front_at i j (get_or rows i d) (get_or rows j d) (get_or rows i d).answer (get_or rows j d).answer (slice_get-get_or rows i d (omega (arith, early, within))) (slice_get-get_or rows j d within) refl refl early same some

-- facts of the served rows, by the places of the rows
served_all : (P : Served → Type 0) (rows : List Row) → ((i : ℕ) (row : Row) (answer : Answer) → slice_get rows i ≡ Some row → row.answer ≡ Some answer → P (record { request = row.request; answer = answer })) → All P (served_in rows)
served_all P [] each = All-nil P
served_all P (row ∷ rows) each = by (served_all P rows (λ i r a at has. each (suc i) r a at has)) row.answer refl
  where
    by : All P (served_in rows) → (answer : Option Answer) → row.answer ≡ answer → All P (served_in (record { request = row.request; answer = answer } ∷ rows))
    by rest None is = rest
    by rest (Some answer) is = All-cons P (record { request = row.request; answer = answer }) (served_in rows) (each 0 row answer refl is) rest

pub served_pairs : (R : Served → Served → Type 0) (rows : List Row)
    → ((i j : ℕ) (earlier later : Row) (a b : Answer) → slice_get rows i ≡ Some earlier → slice_get rows j ≡ Some later → earlier.answer ≡ Some a → later.answer ≡ Some b → i < j → R (record { request = earlier.request; answer = a }) (record { request = later.request; answer = b }))
    → AllPairs R (served_in rows)
served_pairs R [] each = AllPairs-nil R
served_pairs R (row ∷ rows) each = by (served_pairs R rows (λ i j x y a b at there is has early. each (suc i) (suc j) x y a b at there is has (omega (arith, early)))) row.answer refl
  where
    by : AllPairs R (served_in rows) → (answer : Option Answer) → row.answer ≡ answer → AllPairs R (served_in (record { request = row.request; answer = answer } ∷ rows))
    by rest None is = rest
    by rest (Some answer) is =
        AllPairs-cons R (record { request = row.request; answer = answer }) (served_in rows)
        (served_all (R (record { request = row.request; answer = answer })) rows (λ j y b there has. each 0 (suc j) row y answer b refl there is has (omega arith)))
        rest

pub rise : (rows : List Row) → NoFault (IsRankFault rows) → AllPairs (λ (earlier : Served) (later : Served). earlier.request.trace ≡ later.request.trace → earlier.answer.rank < later.answer.rank) (served_in rows)
rise rows none = served_pairs (λ (earlier : Served) (later : Served). earlier.request.trace ≡ later.request.trace → earlier.answer.rank < later.answer.rank) rows
    (λ i j x y a b at there is has early same. rises rows none i j x y a b at (record { at = there; is = has }) is early same)

pub few_pairs : (pairs : Pairs) (ops : List Op) → len (map_after_all pairs ops) ≤ len pairs + length ops
few_pairs pairs [] = omega arith
few_pairs pairs (op ∷ ops) = omega (arith, few_pairs (map_after pairs op) ops, len-map_after pairs op)

-- the report is legal
pub legal_report : (traces : ℕ) (requests : List Request) (rows : List Row) (size : ℕ) (bytes : List ℕ) (history : List Served) → length requests ≤ 131072 → length (served_in rows) ≤ length requests
    → report_lines traces rows size ≡ lines_behind 0 rows traces size → SaysRows traces requests rows size bytes → NoFault (IsRankFault rows) → IsHistory rows history → IsLegalFrom empty (map answered history)
    → size ≡ len (map_after_all empty (map op_of history)) → IsLegalReport traces requests bytes
legal_report traces requests rows size bytes history few fewer lines says none is legal pairs =
    let none_there : len (empty {K = ℕ} {X = ℕ} {R = nat_cmp}) ≡ 0 = len-empty nat_cmp ℕ in
    let small : size < 2 ^ 32 = omega (arith, pairs, few_pairs empty (map op_of history), none_there, length-map history op_of, length_permutation (served_in rows) history is.all, few, fewer) in
    let all = subst (λ (l : List Line). SayAll l bytes) lines says.lines in
    record {
      rows = rows;
      size = size;
      are = says.are;
      replies = All-from_recursion (λ (row : Row). HasReply row.answer) rows (replies_small 0 rows traces size bytes all);
      text = texts_are (lines_behind 0 rows traces size) bytes (lines_small 0 rows traces size (small_rows rows none (omega (arith, few, fewer))) small) all ∙ ap (flat_map line_text) (sym lines);
      legal = record {
        history = history;
        is_history = is;
        rise = rise rows none;
        front = front rows none;
        replies = legal;
        pairs = pairs;
      };
    }
