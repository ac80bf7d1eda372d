-- The served requests in the order of their turns, and their replay.
use Rattle.std.proofs.Common.{◌≡◌, ◌≢◌, ◌⊎◌, ℕ, suc, ◌+◌, ◌-◌, ◌<◌, ◌≤◌, List, [], ◌∷◌, ◌++◌, Option, None, Some, IsSomeAnd, IsPermutation, length, map, get_or, take, inl, inr, refl, sym, ap, ◌∙◌, subst, append_assoc, length-append, arith}
use Rattle.std.specs.Prelude.{IfNone, IfSome}
use Rattle.std.specs.FinMap.{empty}
use Rattle.std.proofs.Math.Seq.{get_or-append_seam}
use Rattle.std.proofs.lemmas.Bool.{cases_eq, cases_lt}
use Rattle.std.proofs.lemmas.List.{get_or-map, get_or_default, length-map, map-append, take_all, take_more}
use Rattle.small_lemmas.proofs.Lists.{none_not_some, same_number, some_not_none}
use Rattle.history_orders.specs.map_history.specs.declared.op.Entry.{Entry}
use Rattle.history_orders.specs.map_history.specs.declared.op.Op.{Op}
use Rattle.history_orders.specs.map_history.specs.declared.op.Request.{Request}
use Rattle.history_orders.specs.map_history.specs.declared.reply.Reply.{Reply}
use Rattle.history_orders.specs.map_history.specs.History.{IsLegalFrom}
use Rattle.history_orders.specs.map_history.specs.Replay.{Pairs, map_after, map_after_all, reply_of}
use Rattle.history_orders.specs.Turns.{Turn}
use Rattle.report_text.specs.Legal.{Served, answered, op_of, served_in}
use Rattle.report_text.specs.Ranks.{turns_of}
use Rattle.report_text.specs.Report.{Answer, Row}
use Rattle.report_text.proofs.Turns.{served-contained, turns-of_served, turns_from}
use Rattle.report_check.specs.Faults.{IsFirstLine, IsReplyFault, NoFault}
use Rattle.report_check.specs.Histories.{AreRanked, IsLineOf, history_of, lower_of, no_request, reply_in, served_at}
use Rattle.report_check.specs.Said.{rows_said, said_answer}
use Rattle.report_check.proofs.Rows.{answer_of_entry, answered_here, no_answer, row_at, row_is}

abbrev no_entry : Option Entry
no_entry = None

served_from : (front : List Request) (said : List (Option Entry)) (requests : List Request) (answers : List (Option Entry)) → length said ≡ length front → length answers ≡ length requests
    → served_in (rows_said requests answers) ≡ map (served_at (front ++ requests) (said ++ answers)) (turns_from (length front) answers)
served_from front said [] [] same long = refl
served_from front said [] (answer ∷ answers) same long = absurd (omega (arith, long))
served_from front said (request ∷ requests) [] same long = absurd (omega (arith, long))
served_from front said (request ∷ requests) (None ∷ answers) same long =
    let first = append_assoc front (request ∷ []) requests in
    let second = append_assoc said (no_entry ∷ []) answers in
    let n = length-append front (request ∷ []) in
    served_from (front ++ request ∷ []) (said ++ no_entry ∷ []) requests answers (omega (arith, same, n, length-append said (no_entry ∷ []))) (omega (arith, long))
    ∙ (λ i. map (served_at (first i) (second i)) (turns_from (n i) answers))
served_from front said (request ∷ requests) (Some entry ∷ answers) same long =
    let first = append_assoc front (request ∷ []) requests in
    let second = append_assoc said (Some entry ∷ []) answers in
    let n = length-append front (request ∷ []) in
    let rest = served_from (front ++ request ∷ []) (said ++ Some entry ∷ []) requests answers (omega (arith, same, n, length-append said (Some entry ∷ []))) (omega (arith, long))
    ∙ (λ i. map (served_at (first i) (second i)) (turns_from (n i) answers)) in
    let asked : get_or (front ++ request ∷ requests) (length front) no_request ≡ request = get_or-append_seam front request requests no_request in
    let is : get_or (said ++ Some entry ∷ answers) (length front) None ≡ Some entry = ap (λ k. get_or (said ++ Some entry ∷ answers) k None) (sym same) ∙ get_or-append_seam said (Some entry) answers None in
    (λ i. record { request = sym asked i; answer = record { rank = entry.stamp; reply = reply_in (sym is i) } } ∷ rest i)

-- the served requests of the rows, by their turns
pub served_are : (requests : List Request) (answers : List (Option Entry)) → length answers ≡ length requests → served_in (rows_said requests answers) ≡ map (served_at requests answers) (turns_of answers)
served_are requests answers long = served_from [] [] requests answers refl long

after_push : (pairs : Pairs) (ops : List Op) (op : Op) → map_after_all pairs (ops ++ op ∷ []) ≡ map_after (map_after_all pairs ops) op
after_push pairs [] op = refl
after_push pairs (x ∷ ops) op = after_push (map_after pairs x) ops op

-- the map before a turn
abbrev pub map_before : List Served → ℕ → Pairs
map_before history k = map_after_all empty (map op_of (take k history))

abbrev pub no_turn : Turn
no_turn = (0, 0)

abbrev pub IsAtMost : Option ℕ → ℕ → Type 0
IsAtMost None place = ⊥
IsAtMost (Some wrong) place = wrong ≤ place

-- the reply of the request at this place is that of the map before it
abbrev pub IsRightAt : List Served → ℕ → Served → Type 0
IsRightAt history k served = served.answer.reply ≡ reply_of (map_before history k) served.request.op

-- the requests of so many turns were served
pub record Replaying (requests : List Request) (answers : List (Option Entry)) (turns : List Turn) (k : ℕ) (book : Pairs) (wrong : Option ℕ) : Type 0 where
  pub book_is : book ≡ map_before (history_of requests answers turns) k
  pub right : (j : ℕ) (row : Row) → j < k → IsReplyFault (history_of requests answers turns) (rows_said requests answers) (get_or turns j no_turn).1 row → IsAtMost wrong (get_or turns j no_turn).1
  pub wrong_is : (place : ℕ) → wrong ≡ Some place → (place < length requests) × IsReplyFault (history_of requests answers turns) (rows_said requests answers) place (row_at requests answers place)
  pub all_right : wrong ≡ None → (j : ℕ) → j < k → IsRightAt (history_of requests answers turns) j (served_at requests answers (get_or turns j no_turn))

pub replaying_none : (requests : List Request) (answers : List (Option Entry)) (turns : List Turn) (book : Pairs) → book ≡ empty → Replaying requests answers turns 0 book None
replaying_none requests answers turns book new = record {
  book_is = new;
  right = λ j row early fault. omega (arith, early);
  wrong_is = λ place is. absurd (none_not_some place is);
  all_right = λ none j early. absurd (omega (arith, early));
}

-- the request of the next turn: what is said of it, and that it was served
pub record IsTurn (requests : List Request) (answers : List (Option Entry)) (turns : List Turn) (k : ℕ) (entry : Entry) : Type 0 where
  pub within : (get_or turns k no_turn).1 < length requests
  pub said : get_or answers (get_or turns k no_turn).1 None ≡ Some entry
  pub rank : entry.stamp ≡ k

pub entry_said : (stamp : ℕ) (said : Option Entry) → IsSomeAnd said (λ entry. entry.stamp ≡ stamp) → (entry : Entry) × (said ≡ Some entry) × (entry.stamp ≡ stamp)
entry_said stamp None is = absurd is
entry_said stamp (Some entry) is = (entry, refl, is)

module _ (requests : List Request) (answers : List (Option Entry)) (turns : List Turn) (long : length answers ≡ length requests) (all : IsPermutation (turns_of answers) turns) (ranked : AreRanked turns) where
  pub turn_is : (k : ℕ) → k < length turns → (entry : Entry) × IsTurn requests answers turns k entry
  turn_is k within =
      let of = turns-of_served answers turns all k no_turn within in
      let found = entry_said (get_or turns k no_turn).0 (get_or answers ((get_or turns k no_turn).1 - 0) None) of.2 in (
        found.0,
        record {
          within = omega (arith, of.1, long);
          said = ap (λ p. get_or answers p None) (omega arith) ∙ found.1;
          rank = found.2 ∙ ranked k no_turn within;
        },
      )

  -- the turn of a request that was served
  pub turn_of_place : (place : ℕ) (entry : Entry) → place < length requests → get_or answers place None ≡ Some entry → (j : ℕ) × (j < length turns) × ((get_or turns j no_turn).1 ≡ place)
  turn_of_place place entry within said =
      let found = served-contained answers turns place entry all (omega (arith, long, within)) said in
      (found.0, found.1, ap (λ (t : Turn). t.1) (get_or_default turns found.0 no_turn (entry.stamp, place) found.1 ∙ found.2))

  history_at : (k : ℕ) (d : Served) → k < length turns → get_or (history_of requests answers turns) k d ≡ served_at requests answers (get_or turns k no_turn)
  history_at k d within = get_or-map (served_at requests answers) turns k no_turn d within

  map_next : (k : ℕ) → k < length turns → map_before (history_of requests answers turns) (k + 1) ≡ map_after (map_before (history_of requests answers turns) k) (get_or requests (get_or turns k no_turn).1 no_request).op
  map_next k within =
      let history = history_of requests answers turns in
      let d = served_at requests answers no_turn in
      let more : take (k + 1) history ≡ take k history ++ get_or history k d ∷ [] = take_more history k d (omega (arith, within, length-map turns (served_at requests answers))) in
      ap (λ l. map_after_all empty (map op_of l)) (more ∙ ap (λ s. take k history ++ s ∷ []) (history_at k d within))
      ∙ ap (map_after_all empty) (map-append op_of (take k history) (served_at requests answers (get_or turns k no_turn) ∷ []))
      ∙ after_push empty (map op_of (take k history)) (get_or requests (get_or turns k no_turn).1 no_request).op

  -- one request more: its reply is wrong, or right
  module _ (k : ℕ) (book : Pairs) (wrong : Option ℕ) (entry : Entry) (reply : Reply) (is : IsTurn requests answers turns k entry) (before : Replaying requests answers turns k book wrong)
      (serves : reply ≡ reply_of book (get_or requests (get_or turns k no_turn).1 no_request).op) where
    replayed : reply ≡ reply_of (map_before (history_of requests answers turns) entry.stamp) (get_or requests (get_or turns k no_turn).1 no_request).op
    replayed = serves ∙ ap (λ b. reply_of b (get_or requests (get_or turns k no_turn).1 no_request).op) (before.book_is ∙ ap (map_before (history_of requests answers turns)) (sym is.rank))

    fault_here : entry.reply ≢ reply → IsReplyFault (history_of requests answers turns) (rows_said requests answers) (get_or turns k no_turn).1 (row_at requests answers (get_or turns k no_turn).1)
    fault_here other = record {
      answer = said_answer entry;
      at = answered_here requests answers (get_or turns k no_turn).1 entry long is.within is.said;
      other = λ same. other (same ∙ sym replayed);
    }

    no_fault_here : entry.reply ≡ reply → (row : Row) → IsReplyFault (history_of requests answers turns) (rows_said requests answers) (get_or turns k no_turn).1 row → ⊥
    no_fault_here same row fault =
        let place = (get_or turns k no_turn).1 in
        let answer = answer_of_entry requests answers place row fault.answer entry long fault.at is.said in
        let here = (row_is requests answers place row long fault.at.at).is in
        fault.other (ap (λ (a : Answer). a.reply) answer ∙ same ∙ replayed
        ∙ (λ i. reply_of (map_before (history_of requests answers turns) (sym answer i).rank) (sym here i).request.op))

    next_book : (after : Pairs) → k < length turns → after ≡ map_after book (get_or requests (get_or turns k no_turn).1 no_request).op → after ≡ map_before (history_of requests answers turns) (k + 1)
    next_book after within is = is ∙ ap (λ b. map_after b (get_or requests (get_or turns k no_turn).1 no_request).op) before.book_is ∙ sym (map_next k within)

    pub replaying_right : (after : Pairs) → k < length turns → after ≡ map_after book (get_or requests (get_or turns k no_turn).1 no_request).op → entry.reply ≡ reply → Replaying requests answers turns (k + 1) after wrong
    replaying_right after within is_after same = record {
      book_is = next_book after within is_after;
      right = λ j row early fault. elim (cases_eq j k) [
        | inl last ↦ absurd (no_fault_here same row (subst (λ n. IsReplyFault (history_of requests answers turns) (rows_said requests answers) (get_or turns n no_turn).1 row) last fault))
        | inr earlier ↦ before.right j row (omega (arith, early, earlier)) fault
      ];
      wrong_is = before.wrong_is;
      all_right = λ none j early. elim (cases_eq j k) [
        | inl last ↦ subst (λ n. IsRightAt (history_of requests answers turns) n (served_at requests answers (get_or turns n no_turn))) (sym last)
            (ap reply_in is.said ∙ same ∙ serves ∙ ap (λ b. reply_of b (get_or requests (get_or turns k no_turn).1 no_request).op) before.book_is)
        | inr earlier ↦ before.all_right none j (omega (arith, early, earlier))
      ];
    }

    lower : (earlier : Option ℕ) (p place : ℕ) → IsAtMost earlier p → IsAtMost (Some (lower_of earlier place)) p
    lower None p place most = absurd most
    lower (Some w) p place most = omega (arith, most)

    lower_here : (earlier : Option ℕ) (place : ℕ) → IsAtMost (Some (lower_of earlier place)) place
    lower_here None place = omega arith
    lower_here (Some w) place = omega arith

    lower_is : (earlier : Option ℕ) (place found : ℕ) → lower_of earlier place ≡ found → (earlier ≡ Some found) ⊎ (found ≡ place)
    lower_is None place found is = inr (sym is)
    lower_is (Some w) place found is = elim (cases_lt w place) [
      | inl low ↦ inl (ap Some (omega (arith, low, is)))
      | inr high ↦ inr (omega (arith, high, is))
    ]

    pub replaying_wrong : (after : Pairs) → k < length turns → after ≡ map_after book (get_or requests (get_or turns k no_turn).1 no_request).op → entry.reply ≢ reply
        → Replaying requests answers turns (k + 1) after (Some (lower_of wrong (get_or turns k no_turn).1))
    replaying_wrong after within is_after other = record {
      book_is = next_book after within is_after;
      right = λ j row early fault. elim (cases_eq j k) [
        | inl last ↦ subst (λ n. IsAtMost (Some (lower_of wrong (get_or turns k no_turn).1)) (get_or turns n no_turn).1) (sym last) (lower_here wrong (get_or turns k no_turn).1)
        | inr earlier ↦ lower wrong (get_or turns j no_turn).1 (get_or turns k no_turn).1 (before.right j row (omega (arith, early, earlier)) fault)
      ];
      wrong_is = λ place found. elim (lower_is wrong (get_or turns k no_turn).1 place (same_number _ _ found)) [
        | inl old ↦ before.wrong_is place old
        | inr here ↦ subst (λ p. (p < length requests) × IsReplyFault (history_of requests answers turns) (rows_said requests answers) p (row_at requests answers p)) (sym here) (is.within, fault_here other)
      ];
      all_right = λ none j early. absurd (some_not_none (lower_of wrong (get_or turns k no_turn).1) none);
    }

  -- all were served
  most : (k : ℕ) (book : Pairs) (wrong : Option ℕ) → length turns ≤ k → Replaying requests answers turns k book wrong → (place : ℕ) (row : Row) (said : Option Entry)
      → IsReplyFault (history_of requests answers turns) (rows_said requests answers) place row → get_or answers place None ≡ said → IsAtMost wrong place
  most k book wrong past done place row None fault said = absurd (no_answer requests answers place row fault.answer long fault.at said)
  most k book wrong past done place row (Some entry) fault said =
      let turn = turn_of_place place entry (row_is requests answers place row long fault.at.at).within said in
      subst (IsAtMost wrong) turn.2
      (done.right turn.0 row (omega (arith, past, turn.1)) (subst (λ p. IsReplyFault (history_of requests answers turns) (rows_said requests answers) p row) (sym turn.2) fault))

  pub none_wrong : (k : ℕ) (book : Pairs) → length turns ≤ k → Replaying requests answers turns k book None → NoFault (IsReplyFault (history_of requests answers turns) (rows_said requests answers))
  none_wrong k book past done place row fault = most k book None past done place row (get_or answers place None) fault refl

  pub first_wrong : (k : ℕ) (book : Pairs) (wrong : ℕ) → length turns ≤ k → Replaying requests answers turns k book (Some wrong)
      → IsFirstLine (IsReplyFault (history_of requests answers turns) (rows_said requests answers)) (wrong + (get_or requests wrong no_request).trace + 2)
  first_wrong k book wrong past done = record {
    place = wrong;
    row = row_at requests answers wrong;
    first = record {
      here = (done.wrong_is wrong refl).1;
      none_before = λ place row early fault. let low = most k book (Some wrong) past done place row (get_or answers place None) fault refl in omega (arith, low, early);
    };
    is = refl;
  }

  pub size_is : (k : ℕ) (book : Pairs) (wrong : Option ℕ) → length turns ≤ k → Replaying requests answers turns k book wrong → book ≡ map_after_all empty (map op_of (history_of requests answers turns))
  size_is k book wrong past done =
      done.book_is ∙ ap (λ l. map_after_all empty (map op_of l)) (take_all k (history_of requests answers turns) (omega (arith, past, length-map turns (served_at requests answers))))

  legal_on : (pairs : Pairs) (history : List Served) → ((k : ℕ) (d : Served) → k < length history → (get_or history k d).answer.reply ≡ reply_of (map_after_all pairs (map op_of (take k history))) (get_or history k d).request.op)
      → IsLegalFrom pairs (map answered history)
  legal_on pairs [] right = tt
  legal_on pairs (served ∷ history) right =
      (right 0 served (omega arith), legal_on (map_after pairs served.request.op) history (λ k d early. right (suc k) d (omega (arith, early))))

  -- the history is legal
  pub legal : (k : ℕ) (book : Pairs) → length turns ≤ k → Replaying requests answers turns k book None → IsLegalFrom empty (map answered (history_of requests answers turns))
  legal k book past done = legal_on empty (history_of requests answers turns) (λ j d early.
      let within : j < length turns = omega (arith, early, length-map turns (served_at requests answers)) in
      subst (IsRightAt (history_of requests answers turns) j) (sym (history_at j d within)) (done.all_right refl j (omega (arith, within, past))))

  -- the line of the first request whose reply is wrong
  pub some_line : (k : ℕ) (book : Pairs) (wrong number : Option ℕ) → length turns ≤ k → Replaying requests answers turns k book wrong → IsLineOf requests wrong number
      → IfSome number (IsFirstLine (IsReplyFault (history_of requests answers turns) (rows_said requests answers)))
  some_line k book None number past done is = rw is tt
  some_line k book (Some wrong) number past done is = rw is (first_wrong k book wrong past done)

  pub none_line : (k : ℕ) (book : Pairs) (wrong number : Option ℕ) → length turns ≤ k → Replaying requests answers turns k book wrong → IsLineOf requests wrong number
      → IfNone number (NoFault (IsReplyFault (history_of requests answers turns) (rows_said requests answers)))
  none_line k book None number past done is = rw is (none_wrong k book past done)
  none_line k book (Some wrong) number past done is = rw is tt

pub legal_line : (requests : List Request) (answers : List (Option Entry)) (turns : List Turn) → length answers ≡ length requests → IsPermutation (turns_of answers) turns → AreRanked turns
    → (k : ℕ) (book : Pairs) (wrong number : Option ℕ) → length turns ≤ k → Replaying requests answers turns k book wrong → IsLineOf requests wrong number → IfNone number (IsLegalFrom empty (map answered (history_of requests answers turns)))
legal_line requests answers turns long all ranked k book None number past done is = rw is (legal requests answers turns long all ranked k book past done)
legal_line requests answers turns long all ranked k book (Some wrong) number past done is = rw is tt

pub wrong_within : (requests : List Request) (answers : List (Option Entry)) (turns : List Turn) (k : ℕ) (book : Pairs) (wrong : Option ℕ) → Replaying requests answers turns k book wrong → IfSome wrong (λ place. place < length requests)
wrong_within requests answers turns k book None done = tt
wrong_within requests answers turns k book (Some wrong) done = (done.wrong_is wrong refl).0
