-- A legal report has no fault: so it is judged legal, and nothing else.
use Rattle.std.proofs.Common.{◌≡◌, ◌≢◌, ◌⊎◌, ℕ, zero, suc, ◌<◌, ◌≤◌, ◌^◌, List, [], ◌∷◌, Option, None, Some, IsSome, Result, Ok, Err, length, map, get_or, take, inl, inr, refl, sym, ap, ◌∙◌, subst, arith}
use Rattle.std.specs.Prelude.{◌==◌, All, AllPairs, Contains, IfOk, flat_map, slice_get}
use Rattle.std.specs.FinMap.{empty, len, len-empty}
use Rattle.std.specs.Ordering.{nat_cmp}
use Rattle.std.specs.List.{AllByRecursion}
use Rattle.std.specs.List.Sorted.{IsNonDecreasingBy}
use Rattle.std.proofs.lemmas.Bool.{eqb-false, ne_eqb}
use Rattle.std.proofs.lemmas.Bool.Decides.{nat_tests}
use Rattle.std.proofs.lemmas.List.{get_or-map, get_or_default, length-map, same_lists}
use Rattle.std.proofs.lemmas.List.Elements.{Contains-get_or, All-cons, All-head, All-tail, All-nil}
use Rattle.std.proofs.lemmas.List.FromFn.{get_or-range_with_len}
use Rattle.std.proofs.lemmas.List.Sorted.{Contains-permutation, IsPermutation-sym, length_permutation}
use Rattle.std.proofs.lemmas.Map.Keys.{IsDistinct-IsPermutation, IsDistinct-from_apart, apart_from_distinct}
use Rattle.std.proofs.lemmas.Option.{slice_get_within, get_or_from_slice_get}
use Rattle.history_orders.specs.map_history.specs.declared.op.Request.{Request}
use Rattle.history_orders.specs.map_history.specs.History.{IsLegalFrom}
use Rattle.history_orders.specs.map_history.specs.Replay.{Pairs, map_after, map_after_all, reply_of}
use Rattle.report_text.specs.Legal.{IsHistory, IsLegal, Served, answered, op_of, served_in}
use Rattle.report_text.specs.Report.{Answer, Row, line_text, report_lines}
use Rattle.report_check.specs.Faults.{Clashes, EndsTurn, HasRank, IsRankFault, IsReplyFault, NoFault}
use Rattle.report_check.specs.Lines.{IsFirstBad, SayAll}
use Rattle.report_check.specs.Rows.{SaysRows, unserved}
use Rattle.report_check.specs.Verdicts.{FailsAt, HasHistory, HasReply, IsLegalReport, Judges}
use Rattle.report_check.specs.declared.verdict.BadReport.{BadReport}
use Rattle.report_check.specs.declared.verdict.BadReport.TheVariants.{Form, Rank, Reply, Final}
use Rattle.report_check.specs.declared.verdict.Verdict.{Verdict}
use Rattle.report_check.specs.declared.verdict.Verdict.TheVariants.{Legal, Fails}
use Rattle.report_check.proofs.Forms.{lines_behind, report_lines_are, request_of, requests_unserved, rows_continue}
use Rattle.report_check.proofs.Legals.{IsSmall, few_pairs, small_rows}
use Rattle.report_check.proofs.Once.{AreOne, no_bad, rows_once}
use Rattle.report_check.proofs.Printed.{IsSayableRow, lines_sayable, text_says}

-- the served row that has this answer
abbrev served_by : Row → Answer → Served
served_by row answer = record { request = row.request; answer = answer }

contains_later : {X : Type 0} (x y : X) (xs : List X) → Contains xs y → Contains (x ∷ xs) y
contains_later x y xs at = (suc at.0, omega (arith, at.1), at.2)

-- a row that has an answer is served
served_contained : (rows : List Row) (i : ℕ) (row : Row) (answer : Answer) → slice_get rows i ≡ Some row → row.answer ≡ Some answer → Contains (served_in rows) (served_by row answer)
served_contained rows i row answer at is = go rows i at
  where
    front : (x : Row) (rows : List Row) (found : Option Answer) → x.answer ≡ found → found ≡ Some answer → x ≡ row → Contains (served_in (record { request = x.request; answer = found } ∷ rows)) (served_by row answer)
    front x rows None has is same = absurd (cc)
    front x rows (Some other) has is same = let one : other ≡ answer = cc in (0, omega arith, (λ i. record { request = ap (λ (r : Row). r.request) same i; answer = one i }))

    behind : (x : Row) (rows : List Row) (found : Option Answer) → Contains (served_in rows) (served_by row answer) → Contains (served_in (record { request = x.request; answer = found } ∷ rows)) (served_by row answer)
    behind x rows None there = there
    behind x rows (Some other) there = contains_later (served_by x other) (served_by row answer) (served_in rows) there

    go : (rows : List Row) (i : ℕ) → slice_get rows i ≡ Some row → Contains (served_in rows) (served_by row answer)
    go [] i at = absurd (cc)
    go (x ∷ rows) zero at = let same : x ≡ row = cc in front x rows x.answer refl (ap (λ (r : Row). r.answer) same ∙ is) same
    go (x ∷ rows) (suc i) at = behind x rows x.answer (go rows i at)

all_contains : {X : Type 0} (P : X → Type 0) (xs : List X) (x : X) → All P xs → Contains xs x → P x
all_contains P xs x all at = subst P at.2 (all at.0 x at.1)

pairs_head : {X : Type 0} (R : X → X → Type 0) (x : X) (xs : List X) → AllPairs R (x ∷ xs) → All (R x) xs
pairs_head R x xs pairs k d within = pairs 0 (suc k) d (omega arith) (omega (arith, within))

pairs_tail : {X : Type 0} (R : X → X → Type 0) (x : X) (xs : List X) → AllPairs R (x ∷ xs) → AllPairs R xs
pairs_tail R x xs pairs i j d before within = pairs (suc i) (suc j) d (omega (arith, before)) (omega (arith, within))

-- what holds of each pair of served rows, by the places of the rows
served_pair : (R : Served → Served → Type 0) (rows : List Row) (i j : ℕ) (earlier later : Row) (a b : Answer) → AllPairs R (served_in rows) → slice_get rows i ≡ Some earlier → slice_get rows j ≡ Some later
    → earlier.answer ≡ Some a → later.answer ≡ Some b → i < j → R (served_by earlier a) (served_by later b)
served_pair R rows i j earlier later a b pairs at there is has early = go rows i j pairs at there early
  where
    here : (x : Row) (rows : List Row) (j : ℕ) (found : Option Answer) → found ≡ Some a → x ≡ earlier → AllPairs R (served_in (record { request = x.request; answer = found } ∷ rows)) → slice_get rows j ≡ Some later
        → R (served_by earlier a) (served_by later b)
    here x rows j None is same pairs there = absurd (cc)
    here x rows j (Some other) is same pairs there =
        let one : other ≡ a = cc in
        let head = pairs_head R (served_by x other) (served_in rows) pairs in
        subst (λ (s : Served). R s (served_by later b)) (λ i. record { request = ap (λ (r : Row). r.request) same i; answer = one i }) (all_contains (R (served_by x other)) (served_in rows) (served_by later b) head (served_contained rows j later b there has))

    tail : (x : Row) (rows : List Row) (found : Option Answer) → AllPairs R (served_in (record { request = x.request; answer = found } ∷ rows)) → AllPairs R (served_in rows)
    tail x rows None pairs = pairs
    tail x rows (Some other) pairs = pairs_tail R (served_by x other) (served_in rows) pairs

    go : (rows : List Row) (i j : ℕ) → AllPairs R (served_in rows) → slice_get rows i ≡ Some earlier → slice_get rows j ≡ Some later → i < j → R (served_by earlier a) (served_by later b)
    go [] i j pairs at there early = absurd (cc)
    go (x ∷ rows) i zero pairs at there early = absurd (omega (arith, early))
    go (x ∷ rows) zero (suc j) pairs at there early = let same : x ≡ earlier = cc in here x rows j x.answer (ap (λ (r : Row). r.answer) same ∙ is) same pairs there
    go (x ∷ rows) (suc i) (suc j) pairs at there early = go rows i j (tail x rows x.answer pairs) at there (omega (arith, early))

-- the ranks of a history are 0, 1, 2 and so on
rank_at : (rows : List Row) (history : List Served) → IsHistory rows history → (k : ℕ) (d : Served) → k < length history → (get_or history k d).answer.rank ≡ k
rank_at rows history is k d within =
    sym (get_or-map (λ (s : Served). s.answer.rank) history k d 0 within) ∙ ap (λ l. get_or l k 0) is.ranks ∙ get_or-range_with_len 0 (length history) k 0 within ∙ omega arith

contained_rank : (rows : List Row) (history : List Served) → IsHistory rows history → (served : Served) → Contains (served_in rows) served → (served.answer.rank < length history) × (get_or history served.answer.rank served ≡ served)
contained_rank rows history is served there =
    let at = Contains-permutation (served_in rows) history served is.all there in
    let rank : served.answer.rank ≡ at.0 = ap (λ (s : Served). s.answer.rank) (sym at.2) ∙ rank_at rows history is at.0 served at.1 in
    (omega (arith, rank, at.1), ap (λ k. get_or history k served) rank ∙ at.2)

-- there is one history
pub history_once : (rows : List Row) (one other : List Served) → IsHistory rows one → IsHistory rows other → one ≡ other
history_once rows one other is also =
    let long : length one ≡ length other = length_permutation (served_in rows) one is.all ∙ sym (length_permutation (served_in rows) other also.all) in
    same_lists one other long (λ k d within.
    let served = get_or one k d in
    let rank = rank_at rows one is k d within in
    let there = Contains-permutation one (served_in rows) served (IsPermutation-sym (served_in rows) one is.all) (Contains-get_or one k d within) in
    let found = contained_rank rows other also served there in
    sym (ap (λ n. get_or other n d) (sym rank) ∙ get_or_default other served.answer.rank d served found.0 ∙ found.1))

abbrev SameRank : Served → Served → Type 0
SameRank a b = a.answer.rank ≢ b.answer.rank

-- no two served rows have one rank
apart : (rows : List Row) (history : List Served) → IsHistory rows history → AllPairs SameRank (served_in rows)
apart rows history is i j d early within =
    eqb-false _ _ (apart_from_distinct (λ (a b : Served). a.answer.rank == b.answer.rank) (served_in rows) i j d
    (IsDistinct-IsPermutation (λ (a b : Served). a.answer.rank == b.answer.rank) (λ a b. grind (arith, nat_tests)) history (served_in rows) (IsPermutation-sym (served_in rows) history is.all)
    (IsDistinct-from_apart (λ (a b : Served). a.answer.rank == b.answer.rank) history
    (λ i j d before within. ne_eqb _ _ (λ same. omega (arith, before, same, rank_at rows history is i d (omega (arith, before, within)), rank_at rows history is j d within)))))
    early within)

abbrev no_answer : Option Answer
no_answer = None

module _ (rows : List Row) (size : ℕ) (legal : IsLegal rows size) where
  no_clash : (i j : ℕ) (earlier later : Row) (a : Option Answer) (b : Answer) → slice_get rows i ≡ Some earlier → slice_get rows j ≡ Some later → earlier.answer ≡ a → later.answer ≡ Some b → i < j
      → HasRank a b.rank ⊎ ((earlier.request.trace ≡ later.request.trace) × EndsTurn a b) → ⊥
  no_clash i j earlier later None b at there is has early (inl rank) = rank
  no_clash i j earlier later None b at there is has early (inr (trace, ends)) =
      let first = legal.front i j later early (slice_get_within rows j later there) in
      let some = first
      (ap (λ (r : Row). r.request.trace) (get_or_from_slice_get rows i earlier later at) ∙ trace ∙ ap (λ (r : Row). r.request.trace) (sym (get_or_from_slice_get rows j later later there)))
      (subst IsSome (sym (ap (λ (r : Row). r.answer) (get_or_from_slice_get rows j later later there) ∙ has)) refl) in
      no_some (subst IsSome (ap (λ (r : Row). r.answer) (get_or_from_slice_get rows i earlier later at) ∙ is) some)
    where
      no_some : IsSome no_answer → ⊥
      no_some e = cc
  no_clash i j earlier later (Some a) b at there is has early (inl rank) = served_pair SameRank rows i j earlier later a b (apart rows legal.history legal.is_history) at there is has early rank
  no_clash i j earlier later (Some a) b at there is has early (inr (trace, ends)) =
      let rises = served_pair (λ (x : Served) (y : Served). x.request.trace ≡ y.request.trace → x.answer.rank < y.answer.rank) rows i j earlier later a b legal.rise at there is has early in
      omega (arith, rises trace, ends)

  pub no_rank_fault : NoFault (IsRankFault rows)
  no_rank_fault place row fault = by fault.why
    where
      by : (length (served_in rows) ≤ fault.answer.rank) ⊎ ((before : ℕ) × (earlier : Row) × (before < place) × (slice_get rows before ≡ Some earlier) × Clashes earlier row fault.answer) → ⊥
      by (inl high) =
          let found = contained_rank rows legal.history legal.is_history (served_by row fault.answer) (served_contained rows place row fault.answer fault.at.at fault.at.is) in
          omega (arith, high, found.0, length_permutation (served_in rows) legal.history legal.is_history.all)
      by (inr (before, earlier, early, there, clash)) = no_clash before place earlier row earlier.answer fault.answer there fault.at.at refl fault.at.is early clash

  pub no_reply_fault : NoFault (IsReplyFault legal.history rows)
  no_reply_fault place row fault =
      let served = served_by row fault.answer in
      let found = contained_rank rows legal.history legal.is_history served (served_contained rows place row fault.answer fault.at.at fault.at.is) in
      let right = reply_at empty legal.history fault.answer.rank served legal.replies found.0 in
      fault.other (ap (λ (s : Served). s.answer.reply) (sym found.1) ∙ right ∙ ap (λ (s : Served). reply_of (map_after_all empty (map op_of (take fault.answer.rank legal.history))) s.request.op) found.1)
    where
      reply_at : (pairs : Pairs) (history : List Served) (k : ℕ) (d : Served) → IsLegalFrom pairs (map answered history) → k < length history
          → (get_or history k d).answer.reply ≡ reply_of (map_after_all pairs (map op_of (take k history))) (get_or history k d).request.op
      reply_at pairs [] k d replies within = absurd (omega (arith, within))
      reply_at pairs (x ∷ history) zero d replies within = replies.0
      reply_at pairs (x ∷ history) (suc k) d replies within = reply_at (map_after pairs x.request.op) history k d replies.1 (omega (arith, within))

served_few : (rows : List Row) → length (served_in rows) ≤ length rows
served_few [] = omega arith
served_few (row ∷ rows) = by (served_few rows) row.answer
  where
    by : length (served_in rows) ≤ length rows → (answer : Option Answer) → length (served_in (record { request = row.request; answer = answer } ∷ rows)) ≤ suc (length rows)
    by few None = omega (arith, few)
    by few (Some answer) = omega (arith, few)

abbrev IsBelow : ℕ → Row → Type 0
IsBelow traces row = row.request.trace < traces

rows_below : (rows : List Row) (traces : ℕ) → All (λ (r : Request). r.trace < traces) (map request_of rows) → All (IsBelow traces) rows
rows_below [] traces below = All-nil (IsBelow traces)
rows_below (row ∷ rows) traces below =
    All-cons (IsBelow traces) row rows (All-head (λ (r : Request). r.trace < traces) row.request (map request_of rows) below)
    (rows_below rows traces (All-tail (λ (r : Request). r.trace < traces) row.request (map request_of rows) below))

sayable_rows : (rows : List Row) (traces : ℕ) → traces < 2 ^ 32 → All (IsBelow traces) rows → AllByRecursion (λ (row : Row). IsSmall row.answer) rows → All (λ (row : Row). HasReply row.answer) rows → AllByRecursion IsSayableRow rows
sayable_rows [] traces few below small replies = tt
sayable_rows (row ∷ rows) traces few below small replies = (
  (omega (arith, few, All-head (IsBelow traces) row rows below), small.0, All-head (λ (r : Row). HasReply r.answer) row rows replies),
  sayable_rows rows traces few (All-tail (IsBelow traces) row rows below) small.1 (All-tail (λ (r : Row). HasReply r.answer) row rows replies),
)

module _ (traces : ℕ) (requests : List Request) (bytes : List ℕ) (small : traces < 2 ^ 32) (few : length requests ≤ 131072) (rising : IsNonDecreasingBy (λ (r : Request). r.trace) requests)
    (below : All (λ (r : Request). r.trace < traces) requests) (report : IsLegalReport traces requests bytes) where
  low : All (IsBelow traces) report.rows
  low = rows_below report.rows traces (subst (All (λ (r : Request). r.trace < traces)) (sym report.are) below)

  in_lines : (rows : List Row) (size : ℕ) → map request_of rows ≡ requests → report_lines traces rows size ≡ lines_behind 0 rows traces size
  in_lines rows size are = report_lines_are rows traces size (rows_continue requests rows traces rising below are)

  served : length (served_in report.rows) ≤ 131072
  served = omega (arith, served_few report.rows, ap length (sym report.are), length-map report.rows request_of, few)

  small_size : report.size < 2 ^ 32
  small_size =
      let history = report.legal.history in
      omega (arith, report.legal.pairs, few_pairs empty (map op_of history), len-empty nat_cmp ℕ, length-map history op_of, length_permutation (served_in report.rows) history report.legal.is_history.all, served)

  -- its text says its rows
  says : SayAll (lines_behind 0 report.rows traces report.size) bytes
  says =
      let rows = report.rows in
      let ranked = small_rows rows (no_rank_fault rows report.size report.legal) (omega (arith, served)) in
      subst (SayAll (lines_behind 0 rows traces report.size)) (sym (report.text ∙ ap (flat_map line_text) (in_lines rows report.size report.are)))
      (text_says (lines_behind 0 rows traces report.size) (lines_sayable 0 rows traces report.size (omega arith) small (sayable_rows rows traces small low ranked report.replies) small_size))

  only_rows : (rows : List Row) (size : ℕ) → SaysRows traces requests rows size bytes → AreOne report.rows rows report.size size
  only_rows rows size read =
      rows_once 0 report.rows rows traces report.size size bytes (omega arith) small low (report.are ∙ sym read.are) says (subst (λ l. SayAll l bytes) (in_lines rows size read.are) read.lines)

  no_rank : (rows : List Row) (size : ℕ) → SaysRows traces requests rows size bytes → NoFault (IsRankFault rows)
  no_rank rows size read = subst (λ (l : List Row). NoFault (IsRankFault l)) (only_rows rows size read).rows_are (no_rank_fault report.rows report.size report.legal)

  only_history : (rows : List Row) (size : ℕ) (history : List Served) → HasHistory traces requests bytes rows size history → report.legal.history ≡ history
  only_history rows size history has =
      history_once report.rows report.legal.history history report.legal.is_history (subst (λ (l : List Row). IsHistory l history) (sym (only_rows rows size has.says).rows_are) has.is)

  -- it fails in no way
  no_fail : (kind : BadReport) (line : ℕ) → FailsAt kind traces requests bytes line → ⊥
  no_fail Form line fails =
      no_bad 0 report.rows traces report.size fails.number bytes (omega arith) small low says
      (subst (λ (l : List Request). IsFirstBad (lines_behind 0 (map unserved l) traces 0) bytes fails.number) (sym report.are)
      (subst (λ l. IsFirstBad l bytes fails.number) (in_lines (map unserved requests) 0 (requests_unserved requests)) fails.first))
  no_fail Rank line fails = no_rank fails.rows fails.size fails.says fails.first.place fails.first.row fails.first.first.here
  no_fail Reply line fails =
      let rows = (only_rows fails.rows fails.size fails.has.says).rows_are in
      let history = only_history fails.rows fails.size fails.history fails.has in
      subst (λ (l : List Row). NoFault (IsReplyFault fails.history l)) rows (subst (λ (l : List Served). NoFault (IsReplyFault l report.rows)) history (no_reply_fault report.rows report.size report.legal))
      fails.first.place fails.first.row fails.first.first.here
  no_fail Final line fails =
      let size = (only_rows fails.rows fails.size fails.has.says).size_is in
      let history = only_history fails.rows fails.size fails.history fails.has in
      fails.other (sym size ∙ report.legal.pairs ∙ ap (λ (l : List Served). len (map_after_all empty (map op_of l))) history)

  pub only_legal : (verdict : Verdict) → Judges verdict traces requests bytes → verdict ≡ Legal
  only_legal Legal judged = refl
  only_legal (Fails line kind) judged = absurd (no_fail kind line judged)

-- whatever is answered, it is right of legal reports
pub legal_answered : {E : Type 0} (result : Result Verdict E) (traces : ℕ) (requests : List Request) (bytes : List ℕ) → traces < 2 ^ 32 → length requests ≤ 131072 → IsNonDecreasingBy (λ (r : Request). r.trace) requests
    → All (λ (r : Request). r.trace < traces) requests → IfOk result (λ verdict. Judges verdict traces requests bytes) → IfOk result (λ verdict. IsLegalReport traces requests bytes → verdict ≡ Legal)
legal_answered (Ok verdict) traces requests bytes small few rising below judged = λ report. only_legal traces requests bytes small few rising below report verdict judged
legal_answered (Err e) traces requests bytes small few rising below judged = tt
