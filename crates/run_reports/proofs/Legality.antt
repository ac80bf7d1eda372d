-- Entries that the words of requests show make a legal report.
use Rattle.std.proofs.Common.{◌≡◌, ◌≢◌, ℕ, ◌<◌, ◌≤◌, ◌==◌, Bool, true, true≢false, List, Option, None, Some, IsSome, IsTrue, length, map, get_or, sym, ap, ◌∙◌, subst, ⊎_elim, arith, rules}
use Rattle.std.specs.Prelude.{AllPairs, Contains, IsPermutation, reverse, slice_get}
use Rattle.std.specs.List.{IsDistinct, zip}
use Rattle.std.specs.FinMap.{empty, len}
use Rattle.std.proofs.lemmas.Bool.{ne_eqb}
use Rattle.std.proofs.lemmas.Bool.Decides.{nat_tests}
use Rattle.std.proofs.lemmas.List.Elements.{Contains-get_or}
use Rattle.std.proofs.lemmas.List.Sorted.{IsPermutation-reverse, IsPermutation-sym, Contains-permutation}
use Rattle.std.proofs.lemmas.Map.Keys.{IsDistinct-from_apart}
use Rattle.std.proofs.lemmas.Option.{slice_get-get_or}
use Rattle.std.proofs.lemmas.Slice.Zip.{get_or-zip, length-zip}
use Rattle.history_orders.specs.map_history.specs.declared.op.Op.{Op}
use Rattle.history_orders.specs.map_history.specs.declared.op.Entry.{Entry}
use Rattle.history_orders.specs.map_history.specs.declared.op.Request.{Request}
use Rattle.history_orders.specs.map_history.specs.History.{Answered, IsLegalFrom}
use Rattle.history_orders.specs.map_history.specs.Replay.{map_after_all}
use Rattle.history_orders.specs.map_history.specs.Words.{word_of, IsReply}
use Rattle.history_orders.specs.map_history.proofs.Words.{same_reply}
use Rattle.history_orders.specs.Turns.{comes_before, Follows}
use Rattle.history_orders.specs.Stamped.{Stamped, turn_of, is_earlier, answered_of, oldest_first, ops_of, IsHistoryOf}
use Rattle.history_orders.proofs.Turns.{before_itself}
use Rattle.report_text.specs.Entries.{Entered, entered_in, turn_of_entered, answered_by, op_of_entered, AreLegal}
use Rattle.run_reports.specs.Shown.{IsShown, AreShown}
use Rattle.run_reports.proofs.Elements.{map_map, same_elements, contains_map, contains_mapped, map_agree, pairs_turned, pairs_mapped}
use Rattle.run_reports.proofs.Served.{IsEntered, entered_are, entered_has, numbers_rise}

-- the requests, their words, and their history, each reply word as at its place
pub record AreHistory (request : ℕ → Request) (stamp reply : ℕ → ℕ) (requests : List Request) (history : List Stamped) : Type 0 where
  pub at : (n : ℕ) (q : Request) → slice_get requests n ≡ Some q → request n ≡ q
  pub within : (n : ℕ) → stamp n ≢ 0 → n < length requests
  pub entries : IsHistoryOf (λ n. (request n).op) stamp history
  pub legal : IsLegalFrom empty (oldest_first history)
  pub replies : (e : Stamped) → Contains history e → reply e.number ≡ word_of e.reply
  pub fit : (e : Stamped) → Contains history e → IsReply e.reply
  pub rising : (k n : ℕ) → k < n → (request k).trace ≡ (request n).trace → stamp n ≢ 0 → (stamp k ≢ 0) × Follows (stamp k) (stamp n)

-- an entry of the history as a served request
abbrev entered_by : (ℕ → Request) → Stamped → Entered
entered_by request e = record { number = e.number; request = request e.number; entry = record { stamp = e.stamp; reply = e.reply } }

-- oldest first
abbrev pub entered_history : (ℕ → Request) → List Stamped → List Entered
entered_history request history = map (entered_by request) (reverse history)

turned_has : (history : List Stamped) (e : Stamped) → Contains history e → Contains (reverse history) e
turned_has history e at = Contains-permutation history (reverse history) e (IsPermutation-reverse history) at

turned_from : (history : List Stamped) (e : Stamped) → Contains (reverse history) e → Contains history e
turned_from history e at = Contains-permutation (reverse history) history e (IsPermutation-sym _ _ (IsPermutation-reverse history)) at

abbrev same_number : Entered → Entered → Bool
same_number a b = a.number == b.number

number_flips : (a b : Entered) → same_number a b ≡ same_number b a
number_flips a b = grind (arith, nat_tests)

number_itself : (a : Entered) → same_number a a ≡ true
number_itself a = grind (arith, nat_tests)

-- no two entries of a history have one number
pub numbers_apart : (op : ℕ → Op) (stamp : ℕ → ℕ) (history : List Stamped) → IsHistoryOf op stamp history → AllPairs (λ (a b : Stamped). a.number ≢ b.number) history
numbers_apart op stamp history of i j d before within = λ same.
    let a = get_or history i d in
    let b = get_or history j d in
    let stamps : a.stamp ≡ b.stamp = of.stamps a (Contains-get_or history i d (omega arith)) ∙ ap stamp same ∙ sym (of.stamps b (Contains-get_or history j d within)) in
    let turns : turn_of a ≡ turn_of b = λ k. (stamps k, same k) in
    true≢false (sym (of.order i j d before within) ∙ ap (λ turn. comes_before turn (turn_of a)) (sym turns) ∙ before_itself (turn_of a))

module _ (request : ℕ → Request) (stamp reply : ℕ → ℕ) (requests : List Request) (entries : List (Option Entry)) (history : List Stamped)
    (are : AreHistory request stamp reply requests history) (shown : AreShown stamp reply requests entries) where
  -- the entry of a request's place
  shown_at : (n : ℕ) (entry : Entry) → slice_get entries n ≡ Some (Some entry) → IsShown (stamp n) (reply n) (Some entry)
  shown_at n entry is = shown.each n (Some entry) is

  -- each entry of the history is a served request
  history_served : (e : Stamped) → Contains history e → Contains (entered_in requests entries) (entered_by request e)
  history_served e at = by (get_or entries n None) (slice_get-get_or entries n None inside)
    where
      n : ℕ
      n = e.number

      stamped : stamp n ≢ 0
      stamped none = are.entries.stamped e at (are.entries.stamps e at ∙ none)

      inside : n < length entries
      inside = omega (arith, are.within n stamped, shown.one_each)

      q : Request
      q = get_or requests n (request n)

      there : slice_get requests n ≡ Some q
      there = slice_get-get_or requests n (request n) (are.within n stamped)

      by : (entry : Option Entry) → slice_get entries n ≡ Some entry → Contains (entered_in requests entries) (entered_by request e)
      by None is = absurd (stamped (shown.each n None is))
      by (Some entry) is =
          let words = shown_at n entry is in
          let same_stamp : entry.stamp ≡ e.stamp = words.1 ∙ sym (are.entries.stamps e at) in
          let replied : entry.reply ≡ e.reply = same_reply entry.reply e.reply words.3 (are.fit e at) (words.2 ∙ are.replies e at) in
          let same_entry : entry ≡ record { stamp = e.stamp; reply = e.reply } = λ i. record { stamp = same_stamp i; reply = replied i } in
          entered_has 0 n requests entries (entered_by request e) (omega arith) (there ∙ ap Some (sym (are.at n q there))) (is ∙ ap (λ (x : Entry). Some (Some x)) same_entry)

  -- and each served request is an entry of the history
  served_history : (x : Entered) → Contains (entered_in requests entries) x → Contains (entered_history request history) x
  served_history x at = subst (Contains (entered_history request history)) same (contains_map (entered_by request) e (reverse history) (turned_has history e found.1))
    where
      is : IsEntered 0 requests entries x
      is = entered_are 0 requests entries x at

      n : ℕ
      n = is.place

      words : IsShown (stamp n) (reply n) (Some x.entry)
      words = shown_at n x.entry is.entry

      found : (e : Stamped) × Contains history e × (e.number ≡ n)
      found = are.entries.all n words.0

      e : Stamped
      e = found.0

      number : x.number ≡ e.number
      number = omega (arith, is.number, found.2)

      asked : request e.number ≡ x.request
      asked = ap request found.2 ∙ are.at n x.request is.request

      stamps : e.stamp ≡ x.entry.stamp
      stamps = are.entries.stamps e found.1 ∙ ap stamp found.2 ∙ sym words.1

      replies : e.reply ≡ x.entry.reply
      replies = same_reply e.reply x.entry.reply (are.fit e found.1) words.3 (sym (are.replies e found.1) ∙ ap reply found.2 ∙ sym words.2)

      same : entered_by request e ≡ x
      same = λ i. record { number = sym number i; request = asked i; entry = record { stamp = stamps i; reply = replies i } }

  turned_apart : AllPairs (λ (a b : Entered). a.number ≢ b.number) (entered_history request history)
  turned_apart = pairs_mapped (entered_by request) (λ (a b : Entered). a.number ≢ b.number) (reverse history)
      (λ i j d before within same. pairs_turned (λ (a b : Stamped). a.number ≢ b.number) history (numbers_apart (λ n. (request n).op) stamp history are.entries) i j d before within (sym same))

  history_distinct : IsDistinct same_number (entered_history request history)
  history_distinct = IsDistinct-from_apart same_number (entered_history request history)
      (λ i j d before within. ne_eqb _ _ (turned_apart i j d before within))

  served_distinct : IsDistinct same_number (entered_in requests entries)
  served_distinct = IsDistinct-from_apart same_number (entered_in requests entries)
      (λ i j d before within. let rise = numbers_rise 0 requests entries i j d before within in ne_eqb _ _ (λ e. omega arith))

  -- so the served requests are those of the history
  all_served : IsPermutation (entered_in requests entries) (entered_history request history)
  all_served = same_elements same_number number_flips number_itself (entered_in requests entries) (entered_history request history) served_distinct history_distinct
      served_history
      (λ x at.
      let from = contains_mapped (entered_by request) x (reverse history) at in
      subst (Contains (entered_in requests entries)) (sym from.2) (history_served from.0 (turned_from history from.0 from.1)))

  -- in their order
  in_turn : AllPairs (λ earlier later. IsTrue (comes_before (turn_of_entered earlier) (turn_of_entered later))) (entered_history request history)
  in_turn = pairs_mapped (entered_by request) (λ earlier later. IsTrue (comes_before (turn_of_entered earlier) (turn_of_entered later))) (reverse history)
      (pairs_turned (λ later earlier. IsTrue (is_earlier earlier later)) history are.entries.order)

  same_answer : (e : Stamped) → Contains (reverse history) e → answered_by (entered_by request e) ≡ answered_of e
  same_answer e at = λ i. record { op = sym (are.entries.ops e (turned_from history e at)) i; reply = e.reply }

  -- the replies are the map's, and so many pairs are left
  answers_are : map answered_by (entered_history request history) ≡ oldest_first history
  answers_are = map_map (entered_by request) answered_by (reverse history) ∙ map_agree (λ e. answered_by (entered_by request e)) answered_of (reverse history) same_answer

  ops_are : map op_of_entered (entered_history request history) ≡ ops_of history
  ops_are = sym (map_map answered_by (λ (a : Answered). a.op) (entered_history request history)) ∙ ap (map (λ (a : Answered). a.op)) answers_are

  -- the stamps don't fall along a trace
  stamps_rise : AllPairs (λ earlier later. earlier.request.trace ≡ later.request.trace → earlier.entry.stamp ≤ later.entry.stamp) (entered_in requests entries)
  stamps_rise i j d before within same =
      let x = get_or (entered_in requests entries) i d in
      let y = get_or (entered_in requests entries) j d in
      let of_x = entered_are 0 requests entries x (Contains-get_or _ i d (omega arith)) in
      let of_y = entered_are 0 requests entries y (Contains-get_or _ j d within) in
      let rise = numbers_rise 0 requests entries i j d before within in
      let traces : (request of_x.place).trace ≡ (request of_y.place).trace =
      ap (λ (q : Request). q.trace) (are.at of_x.place x.request of_x.request) ∙ same ∙ sym (ap (λ (q : Request). q.trace) (are.at of_y.place y.request of_y.request)) in
      let words_x = shown_at of_x.place x.entry of_x.entry in
      let words_y = shown_at of_y.place y.entry of_y.entry in
      let stamps = (are.rising of_x.place of_y.place (omega (arith, rise, of_x.number, of_y.number)) traces words_y.0).1 in
      ⊎_elim (λ lower. omega (arith, lower, words_x.1, words_y.1)) (λ same. let is = same.0 in omega (arith, is, words_x.1, words_y.1)) stamps

  -- in a trace no served request follows an unserved one
  served_first : (i j : ℕ) (q r : Request) (first second : Option Entry) → i < j → slice_get requests i ≡ Some q → slice_get requests j ≡ Some r
      → slice_get entries i ≡ Some first → slice_get entries j ≡ Some second → q.trace ≡ r.trace → IsSome second → IsSome first
  served_first i j q r (Some first) second before at_i at_j is_i is_j same some = search rules
  served_first i j q r None None before at_i at_j is_i is_j same some = some
  served_first i j q r None (Some second) before at_i at_j is_i is_j same some =
      let traces : (request i).trace ≡ (request j).trace = ap (λ (x : Request). x.trace) (are.at i q at_i) ∙ same ∙ sym (ap (λ (x : Request). x.trace) (are.at j r at_j)) in
      absurd ((are.rising i j before traces (shown_at j second is_j).0).0 (shown.each i None is_i))

  fronts : AllPairs (λ (earlier later : Request × Option Entry). earlier.0.trace ≡ later.0.trace → IsSome later.1 → IsSome earlier.1) (zip requests entries)
  fronts i j d before within =
      let long = length-zip requests entries in
      let inside : j < length requests = omega (arith, long, within, shown.one_each) in
      let inside' : j < length entries = omega (arith, inside, shown.one_each) in
      let first = get_or-zip requests entries i d (omega (arith, inside)) (omega (arith, inside')) in
      let second = get_or-zip requests entries j d inside inside' in
      rw (first, second) (served_first i j (get_or requests i d.0) (get_or requests j d.0) (get_or entries i d.1) (get_or entries j d.1) before
      (slice_get-get_or requests i d.0 (omega (arith, inside))) (slice_get-get_or requests j d.0 inside)
      (slice_get-get_or entries i d.1 (omega (arith, inside'))) (slice_get-get_or entries j d.1 inside'))

  pub shown_legal : AreLegal requests entries (len (map_after_all empty (ops_of history)))
  shown_legal = record {
    one_each = shown.one_each;
    history = entered_history request history;
    all = all_served;
    order = in_turn;
    rise = stamps_rise;
    front = fronts;
    replies = subst (IsLegalFrom empty) (sym answers_are) are.legal;
    pairs = ap (λ (l : List Op). len (map_after_all empty l)) (sym ops_are);
  }
