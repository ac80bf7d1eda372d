-- With one runner the first requests are served, in their order.
use Rattle.std.specs.Prelude.{◌%◌, slice_get}
use Rattle.std.specs.List.{enumerate_from, filter_map}
use Rattle.std.specs.Option.{option_map}
use Rattle.std.proofs.Common.{◌≡◌, ◌≢◌, ℕ, zero, suc, ◌+◌, ◌<◌, ◌≤◌, ◌==◌, Bool, true, false, cond, List, [], ◌∷◌, Option, None, Some, length, get_or, refl, sym, ap, ◌∙◌, ⊎_elim, subst, arith}
use Rattle.std.proofs.lemmas.Bool.{cases_lt}
use Rattle.std.proofs.lemmas.Bool.Decides.{nat_tests}
use Rattle.std.proofs.lemmas.List.Sums.{sum_by-cons}
use Rattle.std.proofs.lemmas.Option.{slice_get-map, slice_get_within, slice_get-get_or}
use Rattle.machine_states.specs.map_history.specs.declared.op.Entry.{Entry}
use Rattle.machine_states.specs.map_history.specs.declared.op.Op.TheVariants.{Get}
use Rattle.machine_states.specs.map_history.specs.declared.op.Request.{Request}
use Rattle.machine_states.specs.map_history.specs.Requests.{AreInOrder}
use Rattle.load_counts.specs.run_reports.specs.history_orders.specs.Turns.{Turn, comes_before}
use Rattle.machine_states.specs.table_words.specs.declared.spot.Spot.TheVariants.{Stamp}
use Rattle.machine_states.specs.structure_laws.specs.Meaning.{Meaning}
use Rattle.load_counts.specs.run_reports.specs.report_text.specs.Ranks.{rank_among, ranks_of, turn_of, turns_of}
use Rattle.load_counts.specs.run_reports.specs.Reports.{HaveEntries}
use Rattle.version_words.specs.TableState.{WordsState, word_of}
use Rattle.threaded_runs.specs.free_serving.specs.serving.specs.declared.answers.Served.{Served}
use Rattle.threaded_runs.specs.free_serving.specs.serving.specs.declared.answers.Served.TheVariants as answers
use Rattle.threaded_runs.specs.free_serving.specs.Left.{Rises}
use Rattle.threaded_runs.specs.Own.{own_requests}
use Rattle.threaded_runs.specs.Runs.{AreEntered, AreServed, HasServed}
use Rattle.flock_tool.specs.Runs.{AreServedInOrder}
use Rattle.flock_tool.proofs.Whole.{numbered}

-- the turns of these entries, which are numbered from here on
abbrev turns_from : ℕ → List (Option Entry) → List Turn
turns_from k entries = filter_map turn_of (enumerate_from k entries)

-- of two turns whose stamps don't fall the one with the lower number comes before the other one
earlier : (a b : Turn) → a.0 ≤ b.0 → a.1 < b.1 → comes_before a b ≡ true
earlier a b stamps numbers = grind (arith, nat_tests)

later : (a b : Turn) → b.0 ≤ a.0 → b.1 < a.1 → comes_before a b ≡ false
later a b stamps numbers = grind (arith, nat_tests)

itself : (a b : Turn) → a.0 ≡ b.0 → a.1 ≡ b.1 → comes_before a b ≡ false
itself a b same same' = grind (arith, nat_tests)

-- one more turn in front
one_more : (turn first : Turn) (turns : List Turn) (b : Bool) → comes_before first turn ≡ b → rank_among (first ∷ turns) turn ≡ cond b 1 0 + rank_among turns turn
one_more turn first turns b is =
    sum_by-cons (λ (other : Turn). cond (comes_before other turn) 1 0) first turns ∙ ap (λ (c : Bool). cond c 1 0 + rank_among turns turn) is

-- none comes before a turn whose number is below all of theirs, and whose stamp is above none of them
none_before : (entries : List (Option Entry)) (k : ℕ) (turn : Turn) → turn.1 < k → ((j : ℕ) (e : Entry) → slice_get entries j ≡ Some (Some e) → turn.0 ≤ e.stamp)
    → rank_among (turns_from k entries) turn ≡ 0
none_before [] k turn first low = refl
none_before (None ∷ entries) k turn first low = none_before entries (k + 1) turn (omega (arith, first)) (λ j e at. low (suc j) e at)
none_before (Some e ∷ entries) k turn first low =
    let front = one_more turn (e.stamp, k) (turns_from (k + 1) entries) false (later (e.stamp, k) turn (low 0 e refl) first) in
    let rest = none_before entries (k + 1) turn (omega (arith, first)) (λ j x at. low (suc j) x at) in
    omega (arith, front, rest)

-- where the stamps never fall and those in front of a place are all there, so many come before its turn
place_rank : (entries : List (Option Entry)) (k n : ℕ) (e : Entry) → slice_get entries n ≡ Some (Some e)
    → ((j : ℕ) → j < n → (x : Entry) × (slice_get entries j ≡ Some (Some x)))
    → ((i j : ℕ) (a b : Entry) → i < j → slice_get entries i ≡ Some (Some a) → slice_get entries j ≡ Some (Some b) → a.stamp ≤ b.stamp)
    → rank_among (turns_from k entries) (e.stamp, k + n) ≡ n
place_rank [] k n e at there rising = absurd (cc)
place_rank (None ∷ entries) k zero e at there rising = absurd (cc)
place_rank (None ∷ entries) k (suc n) e at there rising = absurd (let first = (there 0 (omega arith)).1 in cc)
place_rank (Some first ∷ entries) k zero e at there rising =
    let same : first ≡ e = cc in
    let front = one_more (e.stamp, k + 0) (first.stamp, k) (turns_from (k + 1) entries) false
    (itself (first.stamp, k) (e.stamp, k + 0) (ap (λ (x : Entry). x.stamp) same) (omega arith)) in
    let rest = none_before entries (k + 1) (e.stamp, k + 0) (omega arith) (λ j x is. rising 0 (suc j) e x (omega arith) (ap (λ (y : Entry). Some (Some y)) same) is) in
    omega (arith, front, rest)
place_rank (Some first ∷ entries) k (suc n) e at there rising =
    let rest : rank_among (turns_from (k + 1) entries) (e.stamp, k + suc n) ≡ n =
    subst (λ (i : ℕ). rank_among (turns_from (k + 1) entries) (e.stamp, i) ≡ n) (omega arith)
    (place_rank entries (k + 1) n e at (λ j low. there (suc j) (omega (arith, low))) (λ i j a b less is is'. rising (suc i) (suc j) a b (omega (arith, less)) is is')) in
    let front = one_more (e.stamp, k + suc n) (first.stamp, k) (turns_from (k + 1) entries) true
    (earlier (first.stamp, k) (e.stamp, k + suc n) (rising 0 (suc n) first e (omega arith) refl at) (omega arith)) in
    omega (arith, front, rest)

-- a place of a numbered list
numbered_at : {X : Type 0} (xs : List X) (k n : ℕ) (x : X) → slice_get xs n ≡ Some x → slice_get (enumerate_from k xs) n ≡ Some (k + n, x)
numbered_at [] k n x at = absurd (cc)
numbered_at (y ∷ xs) k zero x at = let same : y ≡ x = cc in let number : k ≡ k + 0 = omega arith in λ i. Some (number i, same i)
numbered_at (y ∷ xs) k (suc n) x at = numbered_at xs (k + 1) n x at ∙ ap (λ (i : ℕ). Some (i, x)) (omega arith)

-- the rank of a place
abbrev rank_in : List (Option Entry) → ℕ × Option Entry → Option ℕ
rank_in entries numbered = option_map (rank_among (turns_of entries)) (turn_of numbered)

rank_at : (entries : List (Option Entry)) (n : ℕ) (entry : Option Entry) → slice_get entries n ≡ Some entry → slice_get (ranks_of entries) n ≡ Some (rank_in entries (0 + n, entry))
rank_at entries n entry at = slice_get-map (rank_in entries) (enumerate_from 0 entries) n ∙ ap (option_map (rank_in entries)) (numbered_at entries 0 n entry at)

-- stamps along a list never fall
never_fall : (reads : Bool) (one other : ℕ) → Rises reads one other → one ≤ other
never_fall false one other less = omega (arith, less)
never_fall true one other follows = ⊎_elim (λ less. omega (arith, less)) (λ same. let is = same.0 in omega (arith, is)) follows

-- one worker's requests are all of them
all_own : (requests : List Request) → own_requests 1 0 requests ≡ requests
all_own [] = refl
all_own (q ∷ requests) = by (all_own requests) (q.trace % 1 == 0) (grind (arith, nat_tests))
  where
    by : own_requests 1 0 requests ≡ requests → (b : Bool) → b ≡ true → cond b (q ∷ own_requests 1 0 requests) (own_requests 1 0 requests) ≡ q ∷ requests
    by rest true is = ap (λ (rs : List Request). q ∷ rs) rest
    by rest false is = absurd (cc)

module _ {T : Type 0} {reads : Bool} (m : Meaning) (w : WordsState T) (waits : Bool) (list : List Served) (served : AreServed m w waits reads list) (one : w.layout.runners ≡ 1)
    (traces : ℕ) (ordered : AreInOrder w.requests traces) (entries : List (Option Entry)) (shown : HaveEntries m w entries) where
  own : HasServed m w waits reads w.requests (get_or list 0 answers.All)
  own = subst (λ (rs : List Request). HasServed m w waits reads rs (get_or list 0 answers.All))
      (ap (λ (n : ℕ). own_requests n 0 w.requests) one ∙ all_own w.requests)
      (served.served 0 (get_or list 0 answers.All) (slice_get-get_or list 0 answers.All (omega (arith, served.each, one))))

  abbrev count : ℕ
  count = own.count

  entered : AreEntered m w reads w.requests count
  entered = own.entered

  abbrev stamp : ℕ → ℕ
  stamp n = word_of m w (Stamp n)

  request_at : (n : ℕ) → n < length entries → (q : Request) × (slice_get w.requests n ≡ Some q) × (q.number ≡ n)
  request_at n low =
      let q = get_or w.requests n (record { trace = 0; number = 0; op = Get 0 }) in
      let at = slice_get-get_or w.requests n (record { trace = 0; number = 0; op = Get 0 }) (omega (arith, low, shown.one_each)) in
      (q, at, numbered w.requests traces ordered n q at)

  few : count ≤ length entries
  few = omega (arith, entered.few, shown.one_each)

  -- the first ones have an entry, and no other has
  stamped : (n : ℕ) → n < count → stamp n ≢ 0
  stamped n low = let q = request_at n (omega (arith, low, few)) in subst (λ (k : ℕ). stamp k ≢ 0) q.2 (entered.entries n q.0 low q.1)

  unstamped : (n : ℕ) → count ≤ n → n < length entries → stamp n ≡ 0
  unstamped n past low = let q = request_at n low in ap stamp (sym q.2) ∙ entered.none n q.0 past q.1

  there : (n : ℕ) → n < count → (e : Entry) × (slice_get entries n ≡ Some (Some e))
  there n low = by (get_or entries n None) (slice_get-get_or entries n None (omega (arith, low, few)))
    where
      by : (entry : Option Entry) → slice_get entries n ≡ Some entry → (e : Entry) × (slice_get entries n ≡ Some (Some e))
      by None at = absurd (stamped n low (shown.each n None at))
      by (Some e) at = (e, at)

  within : (n : ℕ) (e : Entry) → slice_get entries n ≡ Some (Some e) → n < count
  within n e at = ⊎_elim (λ low. low)
      (λ past. absurd ((shown.each n (Some e) at).0 (unstamped n past (slice_get_within entries n (Some e) at)))) (cases_lt n count)

  rising : (i j : ℕ) (a b : Entry) → i < j → slice_get entries i ≡ Some (Some a) → slice_get entries j ≡ Some (Some b) → a.stamp ≤ b.stamp
  rising i j a b less at at' =
      let q = request_at i (slice_get_within entries i (Some a) at) in
      let q' = request_at j (slice_get_within entries j (Some b) at') in
      let stamps = never_fall reads (stamp q.0.number) (stamp q'.0.number) (entered.rising i j q.0 q'.0 less (within j b at') q.1 q'.1) in
      let low : stamp i ≤ stamp j = subst (λ (k : ℕ). stamp k ≤ stamp j) q.2 (subst (λ (k : ℕ). stamp q.0.number ≤ stamp k) q'.2 stamps) in
      omega (arith, low, (shown.each i (Some a) at).1, (shown.each j (Some b) at').1)

  rank : (n : ℕ) → n < count → slice_get (ranks_of entries) n ≡ Some (Some n)
  rank n low =
      let e = there n low in
      rank_at entries n (Some e.0) e.1
      ∙ ap (λ (k : ℕ). Some (Some k)) (place_rank entries 0 n e.0 e.1 (λ j less. there j (omega (arith, less, low))) rising)

  no_rank : (n : ℕ) → count ≤ n → n < length entries → slice_get (ranks_of entries) n ≡ Some None
  no_rank n past low = by (get_or entries n None) (slice_get-get_or entries n None low)
    where
      by : (entry : Option Entry) → slice_get entries n ≡ Some entry → slice_get (ranks_of entries) n ≡ Some None
      by None at = rank_at entries n None at
      by (Some e) at = absurd (let under = within n e at in omega (arith, under, past))

  pub served_in_order : AreServedInOrder entries
  served_in_order = record { count = count; few = few; ranks = rank; none = no_rank }
