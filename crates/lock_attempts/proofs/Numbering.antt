-- The tickets of all workers, by their numbers.
use Rattle.std.specs.Prelude.{◌==◌, ◌&&◌, ◌||◌, not, nat_lt, Bool, true, false, slice_get}
use Rattle.std.specs.List.{range_with_len}
use Rattle.std.proofs.Common.{◌≡◌, ℕ, ◌+◌, ◌-◌, ◌*◌, ◌/◌, ◌%◌, ◌<◌, ◌≤◌, List, [], ◌∷◌, length, map, get_or, refl, sym, ap, subst, ◌∙◌, arith, Some, ⊎_elim}
use Rattle.std.proofs.lemmas.Bool.Decides.{nat_tests}
use Rattle.std.proofs.lemmas.List.FromFn.{get_or-map-range_with_len, length-map-range_with_len}
use Rattle.std.proofs.lemmas.Nat.{div_below, div-mul-add, mod-mul-add, le-div, row_fits, div-add-mod'}
use Rattle.std.proofs.lemmas.Option.{slice_get-get_or}
use Rattle.machine_states.specs.epoch_core.specs.small_lemmas.proofs.Numbers.{tested_equal}
use Rattle.machine_states.specs.map_history.specs.declared.op.Request.{Request}
use Rattle.machine_states.specs.map_history.specs.Requests.{AreInOrder}
use Rattle.machine_states.specs.runner_parts.specs.declared.entries.Known.{Known}
use Rattle.machine_states.specs.runner_parts.specs.Tests.{is_answered, are_answered}
use Rattle.machine_states.specs.table_words.specs.declared.layout.Layout.{Layout}
use Rattle.version_words.specs.RunnerState.{RunnerState}
use Rattle.version_words.specs.TableState.{TableState, IsOf}
use Rattle.attempts.specs.epoch_slots.specs.Collects.{IsTidy}
use Rattle.lock_attempts.specs.Tickets.{ticket, tickets_for, HasTickets}
use Rattle.lock_attempts.specs.declared.tickets.Tickets.{Tickets}
use Rattle.lock_attempts.proofs.Repeated.{both_are}

numbers : (each : ℕ) (ks : List ℕ) → map (λ (request : Request). request.number) (map (λ n. ticket (n / each) n) ks) ≡ ks
numbers each [] = refl
numbers each (k ∷ ks) = ap (λ rest. k ∷ rest) (numbers each ks)

-- a row begins at or below each place of it, and rows rise along the places
under : (n k : ℕ) → 0 < k → (n / k) * k ≤ n
under n k some = let whole = div-add-mod' n k in omega (arith, whole)

rises : (k i j : ℕ) → 0 < k → i ≤ j → i / k ≤ j / k
rises k i j some le = le-div (i / k) j k some (let low = under i k some in omega (arith, low, le))

-- the numbers of one worker's tickets are small
pub first_fits : (k runners each : ℕ) → k < runners → runners * each ≤ 131072 → k * each ≤ 131072
first_fits k runners each low few = let fits = row_fits k each runners each low (omega arith) in omega (arith, fits, few)

pub last_fits : (k runners each : ℕ) → k < runners → runners * each ≤ 131072 → k * each + each ≤ 131072
last_fits k runners each low few = let fits = row_fits k each runners each low (omega arith) in omega (arith, fits, few)

module _ (workers each : ℕ) (some : 0 < each) where
  abbrev of : ℕ → Request
  of n = ticket (n / each) n

  size : length (tickets_for workers each) ≡ workers * each
  size = length-map-range_with_len of 0 (workers * each)

  at : (k : ℕ) (d : Request) → k < workers * each → get_or (tickets_for workers each) k d ≡ of k
  at k d early = get_or-map-range_with_len of 0 (workers * each) k k d early (omega arith)

  pub in_order : workers ≤ 16 → workers * each ≤ 131072 → AreInOrder (tickets_for workers each) 64
  in_order few many = record {
    few_traces = omega arith;
    few = omega (arith, size, many);
    numbered = numbers each (range_with_len 0 (workers * each)) ∙ ap (range_with_len 0) (sym size);
    within = λ k d early. let low = div_below k each workers some (omega (arith, early, size)) in
        rw (at k d (omega (arith, early, size))) (omega (arith, low, few));
    rising = λ i j d le early. rw (at i d (omega (arith, early, le, size)), at j d (omega (arith, early, size))) (rises each i j some le);
    keys = λ k d early. rw (at k d (omega (arith, early, size))) (λ key on. ⊎_elim (λ e. omega (arith, e)) (λ e. absurd (let z = e in cc)) on);
  }

  -- the tickets of one worker
  row_of : (k n : ℕ) → k * each ≤ n → n < k * each + each → n / each ≡ k
  row_of k n from to =
      let place : n ≡ k * each + (n - k * each) = omega (arith, from) in
      ap (λ m. m / each) place ∙ div-mul-add k each (n - k * each) (omega (arith, from, to))

  pub there_of : (k n : ℕ) → k < workers → k * each ≤ n → n < k * each + each → slice_get (tickets_for workers each) n ≡ Some (ticket k n)
  there_of k n low from to =
      let fits = row_fits k each workers each low (omega arith) in
      let early : n < workers * each = omega (arith, fits, to) in
      slice_get-get_or (tickets_for workers each) n (ticket k n) (omega (arith, early, size))
      ∙ ap (λ (q : Request). Some q) (at n (ticket k n) early ∙ ap (λ m. ticket m n) (row_of k n from to))

  -- nobody's earlier request of its trace stands before them
  none_before : (k n : ℕ) (known : List Known) → (not (n / each == k && nat_lt n (k * each)) || is_answered known n) ≡ true
  none_before k n known = by (n / each == k) refl
    where
      and_false : (a c : Bool) → (not (a && false) || c) ≡ true
      and_false true c = refl
      and_false false c = refl

      by : (b : Bool) → (n / each == k) ≡ b → (not ((n / each == k) && nat_lt n (k * each)) || is_answered known n) ≡ true
      by false e = ap (λ b. not (b && nat_lt n (k * each)) || is_answered known n) e
      by true e =
          let same = tested_equal (n / each) k e in
          let from : k * each ≤ n = subst (λ m. m * each ≤ n) same (under n each some) in
          let over : nat_lt n (k * each) ≡ false = grind (arith, nat_tests, from) in
          ap (λ b. not ((n / each == k) && b) || is_answered known n) over ∙ and_false (n / each == k) (is_answered known n)

  all_of : (k : ℕ) (known : List Known) (ns : List ℕ) → are_answered known k (k * each) (map of ns) ≡ true
  all_of k known [] = refl
  all_of k known (n ∷ ns) = both_are _ _ (none_before k n known) (all_of k known ns)

  module _ {T : Type 0} (t : TableState T) (r : RunnerState T) (own : IsOf t r) (tidy : IsTidy r) (new : r.part.records.known ≡ [])
      (runners : t.layout.runners ≡ workers) (low : r.number < workers) (tickets : t.requests ≡ tickets_for workers each) where
    pub new_tickets : (tickets : Tickets) → tickets.trace ≡ r.number → tickets.next ≡ r.number * each → tickets.end ≡ r.number * each + each → HasTickets tickets r
    new_tickets given trace next end = record {
      tidy = tidy;
      own = (λ i. trace i % (ap (λ (l : Layout). l.runners) own.layout ∙ runners) i)
          ∙ (let same : r.number ≡ 0 * workers + r.number = omega arith in ap (λ n. n % workers) same ∙ mod-mul-add 0 workers r.number low);
      there = λ n from to. ap (λ rs. slice_get rs n) (own.requests ∙ tickets)
          ∙ (there_of r.number n low (omega (arith, from, next)) (omega (arith, to, end)) ∙ ap (λ k. Some (ticket k n)) (sym trace));
      unused = λ n from to. ap (λ xs. is_answered xs n) new;
      earlier = (λ i. are_answered r.part.records.known (trace i) (next i) ((own.requests ∙ tickets) i)) ∙ all_of r.number r.part.records.known (range_with_len 0 (workers * each));
    }
