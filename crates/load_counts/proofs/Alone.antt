-- Where each trace has keys of its own, each is answered as by itself.
use Rattle.std.proofs.Common.{◌≡◌, ℕ, ◌+◌, ◌<◌, ◌≤◌, ◌%◌, Bool, true, false, true≢false, cond, List, [], ◌∷◌, Option, None, Some, length, map, refl, sym, ap, ◌∙◌, subst, arith}
use Rattle.std.specs.Prelude.{◌==◌, All, AllPairs, Contains, count_by, filter, get_or, is_some, not}
use Rattle.std.specs.FinMap.{empty, len, len-empty}
use Rattle.std.specs.List.{enumerate_from, filter_map, range_with_len, sum_by, zip}
use Rattle.std.specs.Ordering.{nat_cmp}
use Rattle.std.proofs.lemmas.Bool.Decides.{nat_tests}
use Rattle.std.proofs.lemmas.List.Elements.{All-contains, All-cons, All-get_or, All-map, All-nil, All-weaker, Contains-get_or}
use Rattle.std.proofs.lemmas.List.{get_or-map, length-map}
use Rattle.std.proofs.lemmas.List.Kept.{AllPairs-cons, AllPairs-filter}
use Rattle.std.proofs.lemmas.List.Sorted.{Contains-permutation, IsPermutation-sym, sum_by-IsPermutation}
use Rattle.std.proofs.lemmas.List.Sums.{sum_by-cons}
use Rattle.structure_laws.specs.map_history.specs.declared.op.Entry.{Entry}
use Rattle.structure_laws.specs.map_history.specs.declared.op.Request.{Request}
use Rattle.structure_laws.specs.map_history.specs.History.{Answered, AreOneKeyed, IsLegalFrom}
use Rattle.structure_laws.specs.map_history.specs.Keys.{key_of, IsOneKeyed}
use Rattle.structure_laws.specs.map_history.specs.Replay.{map_after_all, replies_of}
use Rattle.run_reports.specs.history_orders.specs.Turns.{comes_before}
use Rattle.run_reports.specs.history_orders.proofs.Entries.{contains_behind, contains_front}
use Rattle.run_reports.specs.history_orders.proofs.Turns.{before_turns}
use Rattle.run_reports.specs.report_text.specs.Entries.{AreLegal, Entered, answered_by, entered_of, op_of_entered, turn_of_entered}
use Rattle.load_counts.specs.Apart.{AreApart, ops_of_trace, pairs_alone, replies_alone, unserved_in}
use Rattle.load_counts.specs.Counts.{counts_in, counts_of, has, is_of}
use Rattle.load_counts.specs.declared.counts.Kind.{Kind}
use Rattle.load_counts.specs.declared.counts.Kind.TheVariants as kinds
use Rattle.load_counts.proofs.Orders.{contains_part, one_order, part_contains}
use Rattle.load_counts.proofs.Parts.{legal_pairs, legal_replies, on_part, part_legal}
use Rattle.load_counts.proofs.Sums.{at, count_flat, count_map, sum_agree, sum_both, sum_parts}

abbrev entered_from : ℕ → List Request → List (Option Entry) → List Entered
entered_from n requests entries = filter_map entered_of (enumerate_from n (zip requests entries))

abbrev trace_of : Entered → ℕ
trace_of x = x.request.trace

-- where each request has an entry, these are the requests
all_entered : (n : ℕ) (requests : List Request) (entries : List (Option Entry)) → length entries ≡ length requests → unserved_in entries ≡ 0
    → map (λ (x : Entered). x.request) (entered_from n requests entries) ≡ requests
all_entered n [] entries long served = refl
all_entered n (q ∷ requests) [] long served = absurd (omega (arith, long))
all_entered n (q ∷ requests) (None ∷ entries) long served = absurd (omega (arith, served, sum_by-cons (λ (e : Option Entry). cond (not (is_some e)) 1 0) None entries))
all_entered n (q ∷ requests) (Some entry ∷ entries) long served =
    let rest = sum_by-cons (λ (e : Option Entry). cond (not (is_some e)) 1 0) (Some entry) entries in
    ap (λ more. q ∷ more) (all_entered (n + 1) requests entries (omega (arith, long)) (omega (arith, rest, served)))

counted : (n : ℕ) (kind : Kind) (requests : List Request) (entries : List (Option Entry)) → length entries ≡ length requests
    → count_by (has kind) entries ≡ count_by (λ (x : Entered). is_of kind x.entry.reply) (entered_from n requests entries)
counted n kind [] [] long = refl
counted n kind [] (e ∷ entries) long = absurd (omega (arith, long))
counted n kind (q ∷ requests) [] long = absurd (omega (arith, long))
counted n kind (q ∷ requests) (None ∷ entries) long =
    omega (arith, sum_by-cons (λ e. cond (has kind e) 1 0) None entries, counted (n + 1) kind requests entries (omega (arith, long)))
counted n kind (q ∷ requests) (Some entry ∷ entries) long =
    let rest = counted (n + 1) kind requests entries (omega (arith, long)) in
    let first : Entered = record { number = n; request = q; entry = entry } in
    omega (
      arith,
      rest,
      sum_by-cons (λ e. cond (has kind e) 1 0) (Some entry) entries,
      sum_by-cons (λ (x : Entered). cond (is_of kind x.entry.reply) 1 0) first (entered_from (n + 1) requests entries),
    )

-- the numbers rise
low : (n : ℕ) (requests : List Request) (entries : List (Option Entry)) → All (λ (x : Entered). n ≤ x.number) (entered_from n requests entries)
low n [] entries = All-nil (λ (x : Entered). n ≤ x.number)
low n (q ∷ requests) [] = All-nil (λ (x : Entered). n ≤ x.number)
low n (q ∷ requests) (None ∷ entries) = All-weaker (λ (x : Entered). n + 1 ≤ x.number) (λ (x : Entered). n ≤ x.number) (λ x is. omega arith) _ (low (n + 1) requests entries)
low n (q ∷ requests) (Some entry ∷ entries) =
    All-cons (λ (x : Entered). n ≤ x.number) _ _ (omega arith)
    (All-weaker (λ (x : Entered). n + 1 ≤ x.number) (λ (x : Entered). n ≤ x.number) (λ x is. omega arith) _ (low (n + 1) requests entries))

rising : (n : ℕ) (requests : List Request) (entries : List (Option Entry)) → AllPairs (λ (a b : Entered). a.number < b.number) (entered_from n requests entries)
rising n [] entries = λ i j d before within. absurd (omega arith)
rising n (q ∷ requests) [] = λ i j d before within. absurd (omega arith)
rising n (q ∷ requests) (None ∷ entries) = rising (n + 1) requests entries
rising n (q ∷ requests) (Some entry ∷ entries) =
    AllPairs-cons (λ (a b : Entered). a.number < b.number) (record { number = n; request = q; entry = entry }) (entered_from (n + 1) requests entries)
    (All-weaker (λ (x : Entered). n + 1 ≤ x.number) (λ (x : Entered). n < x.number) (λ x is. omega arith) _ (low (n + 1) requests entries))
    (rising (n + 1) requests entries)

-- the requests of one trace, by the code of their operations
ops_same : (t : ℕ) (xs : List Entered) → map op_of_entered (at trace_of t xs) ≡ ops_of_trace (map (λ (x : Entered). x.request) xs) t
ops_same t [] = refl
ops_same t (x ∷ xs) = by (ops_same t xs) (trace_of x == t)
  where
    by : map op_of_entered (at trace_of t xs) ≡ ops_of_trace (map (λ (y : Entered). y.request) xs) t → (b : Bool) → map op_of_entered (cond b (x ∷ at trace_of t xs) (at trace_of t xs))
        ≡ map (λ (q : Request). q.op) (cond b (x.request ∷ filter (λ (q : Request). q.trace == t) (map (λ (y : Entered). y.request) xs)) (filter (λ (q : Request). q.trace == t) (map (λ (y : Entered). y.request) xs)))
    by again true = ap (λ more. op_of_entered x ∷ more) again
    by again false = again

-- the elements of a list that is mapped
mapped_twice : {X Y Z : Type 0} (f : X → Y) (g : Y → Z) (xs : List X) → map g (map f xs) ≡ map (λ x. g (f x)) xs
mapped_twice f g [] = refl
mapped_twice f g (x ∷ xs) = ap (λ more. g (f x) ∷ more) (mapped_twice f g xs)

contains_request : (x : Entered) (xs : List Entered) → Contains xs x → Contains (map (λ (y : Entered). y.request) xs) x.request
contains_request x xs there =
    let f : Entered → Request = λ y. y.request in
    (there.0, omega (arith, there.1, length-map xs f), get_or-map f xs there.0 x x.request there.1 ∙ ap f there.2)

all_at : (t : ℕ) (xs : List Entered) → All (λ (x : Entered). trace_of x ≡ t) (at trace_of t xs)
all_at t [] = All-nil (λ (x : Entered). trace_of x ≡ t)
all_at t (x ∷ xs) = by (all_at t xs) (trace_of x == t) refl
  where
    by : All (λ (x : Entered). trace_of x ≡ t) (at trace_of t xs) → (b : Bool) → (trace_of x == t) ≡ b → All (λ (x : Entered). trace_of x ≡ t) (cond b (x ∷ at trace_of t xs) (at trace_of t xs))
    by again true is = All-cons (λ (x : Entered). trace_of x ≡ t) x (at trace_of t xs) (grind (arith, nat_tests)) again
    by again false is = again

in_turn_of : (a b : Entered) → a.entry.stamp ≤ b.entry.stamp → a.number < b.number → comes_before (turn_of_entered a) (turn_of_entered b) ≡ true
in_turn_of a b stamps numbers = grind (arith, nat_tests)

-- the part of a history on the keys of a trace
on_trace : (traces t : ℕ) (ys : List Entered) → ((x : Entered) → Contains ys x → trace_of x ≡ key_of x.request.op % traces)
    → map answered_by (at trace_of t ys) ≡ on_part (λ key. key % traces) t (map answered_by ys)
on_trace traces t [] keys = refl
on_trace traces t (y ∷ ys) keys =
    by (on_trace traces t ys (λ x there. keys x (contains_behind y x ys there))) (trace_of y == t) ∙ ap (λ n. cond (n == t) (answered_by y ∷ on_part (λ key. key % traces) t (map answered_by ys)) (on_part (λ key. key % traces) t (map answered_by ys))) (keys y (contains_front y y ys refl))
  where
    by : map answered_by (at trace_of t ys) ≡ on_part (λ key. key % traces) t (map answered_by ys) → (b : Bool) → map answered_by (cond b (y ∷ at trace_of t ys) (at trace_of t ys))
        ≡ cond b (answered_by y ∷ on_part (λ key. key % traces) t (map answered_by ys)) (on_part (λ key. key % traces) t (map answered_by ys))
    by rest true = ap (λ more. answered_by y ∷ more) rest
    by rest false = rest

abbrev replied : Kind → Entered → Bool
replied kind x = is_of kind x.entry.reply

module _ (requests : List Request) (traces : ℕ) (entries : List (Option Entry)) (size : ℕ) (legal : AreLegal requests entries size) (served : unserved_in entries ≡ 0)
    (apart : AreApart requests traces) (within : All (λ (q : Request). q.trace < traces) requests) where
  abbrev xs : List Entered
  xs = entered_from 0 requests entries

  here : map (λ (x : Entered). x.request) xs ≡ requests
  here = all_entered 0 requests entries legal.one_each served

  -- what holds of each request holds of each entered one
  each : (P : Request → Type 0) → All P requests → (x : Entered) → Contains xs x → P x.request
  each P all x there = All-contains P requests x.request all (subst (λ (qs : List Request). Contains qs x.request) here (contains_request x xs there))

  abbrev Before : Entered → Entered → Type 0
  Before a b = comes_before (turn_of_entered a) (turn_of_entered b) ≡ true

  never : (x y : Entered) → Before x y → Before y x → ⊥
  never x y before before' = true≢false (sym before' ∙ before_turns (turn_of_entered x) (turn_of_entered y) before)

  -- along a trace the entries come one after the other
  in_turn : (t : ℕ) → AllPairs Before (at trace_of t xs)
  in_turn t i j d before inside =
      let a = get_or (at trace_of t xs) i d in
      let b = get_or (at trace_of t xs) j d in
      let first : trace_of a ≡ t = All-get_or (λ (x : Entered). trace_of x ≡ t) (at trace_of t xs) i d (omega arith) (all_at t xs) in
      let second : trace_of b ≡ t = All-get_or (λ (x : Entered). trace_of x ≡ t) (at trace_of t xs) j d inside (all_at t xs) in
      in_turn_of a b
      (AllPairs-filter (λ (x y : Entered). trace_of x ≡ trace_of y → x.entry.stamp ≤ y.entry.stamp) (λ x. trace_of x == t) xs legal.rise i j d before inside (first ∙ sym second))
      (AllPairs-filter (λ (x y : Entered). x.number < y.number) (λ x. trace_of x == t) xs (rising 0 requests entries) i j d before inside)

  -- so on each trace the history has them in the order of the text
  same_part : (t : ℕ) → at trace_of t xs ≡ at trace_of t legal.history
  same_part t = one_order Before never (at trace_of t xs) (at trace_of t legal.history) (in_turn t)
      (AllPairs-filter Before (λ x. trace_of x == t) legal.history legal.order)
      (λ z there. let p = part_contains (λ x. trace_of x == t) z xs there in contains_part (λ x. trace_of x == t) z legal.history (Contains-permutation xs legal.history z legal.all p.0) p.1)
      (λ z there.
      let p = part_contains (λ x. trace_of x == t) z legal.history there in
      contains_part (λ x. trace_of x == t) z xs (Contains-permutation legal.history xs z (IsPermutation-sym xs legal.history legal.all) p.0) p.1)

  -- the part of the history on a trace is legal by itself
  abbrev alone : ℕ → List Answered
  alone t = map answered_by (at trace_of t legal.history)

  -- each request is apart
  own : (x : Entered) → Contains legal.history x → IsOneKeyed x.request.op × (x.request.trace ≡ key_of x.request.op % traces)
  own x there = each (λ q. IsOneKeyed q.op × (q.trace ≡ key_of q.op % traces)) apart x (Contains-permutation legal.history xs x (IsPermutation-sym xs legal.history legal.all) there)

  one_keyed : (ys : List Entered) → ((x : Entered) → Contains ys x → Contains legal.history x) → AreOneKeyed (map answered_by ys)
  one_keyed ys among = All-map (λ (a : Answered). IsOneKeyed a.op) answered_by ys (λ k d inside. (own (get_or ys k d) (among (get_or ys k d) (Contains-get_or ys k d inside))).0)

  history_one_keyed : AreOneKeyed (map answered_by legal.history)
  history_one_keyed = one_keyed legal.history (λ x there. there)

  alone_one_keyed : (t : ℕ) → AreOneKeyed (alone t)
  alone_one_keyed t = one_keyed (at trace_of t legal.history) (λ x there. (part_contains (λ x. trace_of x == t) x legal.history there).0)

  alone_legal : (t : ℕ) → IsLegalFrom empty (alone t)
  alone_legal t =
      subst (IsLegalFrom empty) (sym same)
      (part_legal (λ key. key % traces) t (map answered_by legal.history) history_one_keyed (subst AreOneKeyed same (alone_one_keyed t)) legal.replies)
    where
      same : alone t ≡ on_part (λ key. key % traces) t (map answered_by legal.history)
      same = on_trace traces t legal.history (λ x there. (own x there).1)

  alone_ops : (t : ℕ) → map (λ (a : Answered). a.op) (alone t) ≡ ops_of_trace requests t
  alone_ops t =
      mapped_twice answered_by (λ (a : Answered). a.op) (at trace_of t legal.history)
      ∙ ap (map op_of_entered) (sym (same_part t))
      ∙ ops_same t xs
      ∙ ap (λ qs. ops_of_trace qs t) here

  alone_count : (kind : Kind) (t : ℕ) → count_by (λ (a : Answered). is_of kind a.reply) (alone t) ≡ count_by (replied kind) (at trace_of t xs)
  alone_count kind t = count_map (λ (a : Answered). is_of kind a.reply) answered_by (at trace_of t legal.history) ∙ ap (count_by (replied kind)) (sym (same_part t))

  part_count : (kind : Kind) (t : ℕ) → count_by (replied kind) (at trace_of t xs) ≡ count_by (is_of kind) (replies_of empty (ops_of_trace requests t))
  part_count kind t =
      sym (alone_count kind t)
      ∙ sym (count_map (is_of kind) (λ (a : Answered). a.reply) (alone t))
      ∙ ap (count_by (is_of kind)) (legal_replies empty (alone t) (alone_legal t))
      ∙ ap (λ ops. count_by (is_of kind) (replies_of empty ops)) (alone_ops t)

  inside : (x : Entered) → Contains xs x → trace_of x < traces
  inside x there = each (λ q. q.trace < traces) within x there

  in_parts : (kind : Kind) → count_by (replied kind) xs ≡ sum_by (λ t. count_by (replied kind) (at trace_of t xs)) (range_with_len 0 traces)
  in_parts kind = sum_parts (λ x. cond (replied kind x) 1 0) trace_of traces xs inside

  total : (kind : Kind) → count_by (has kind) entries ≡ count_by (is_of kind) (replies_alone requests traces)
  total kind =
      counted 0 kind requests entries legal.one_each
      ∙ in_parts kind
      ∙ sum_agree (λ t. count_by (replied kind) (at trace_of t xs)) (λ t. count_by (is_of kind) (replies_of empty (ops_of_trace requests t))) (part_count kind) (range_with_len 0 traces)
      ∙ sym (count_flat (is_of kind) (λ t. replies_of empty (ops_of_trace requests t)) (range_with_len 0 traces))

  -- each kind of reply comes as often
  pub same_counts : counts_in entries ≡ counts_of (replies_alone requests traces)
  same_counts = λ i. record { new = total kinds.New i; dup = total kinds.Dup i; val = total kinds.Val i; gone = total kinds.Gone i; absent = total kinds.Absent i }

  abbrev left : ℕ → ℕ
  left t = len (map_after_all empty (ops_of_trace requests t))

  balance : (t : ℕ) → left t + count_by (replied kinds.Gone) (at trace_of t xs) ≡ count_by (replied kinds.New) (at trace_of t xs)
  balance t =
      let pairs = legal_pairs empty (alone t) (alone_one_keyed t) (alone_legal t) in
      let none = len-empty nat_cmp ℕ in
      let ops = ap (λ ops. len (map_after_all empty ops)) (alone_ops t) in
      omega (arith, pairs, none, ops, alone_count kinds.Gone t, alone_count kinds.New t)

  whole : size + count_by (replied kinds.Gone) xs ≡ count_by (replied kinds.New) xs
  whole =
      let pairs = legal_pairs empty (map answered_by legal.history) history_one_keyed legal.replies in
      let none = len-empty nat_cmp ℕ in
      let ops = ap (λ ops. len (map_after_all empty ops)) (mapped_twice answered_by (λ (a : Answered). a.op) legal.history) in
      let gone = count_map (λ (a : Answered). is_of kinds.Gone a.reply) answered_by legal.history ∙ sum_by-IsPermutation (λ x. cond (replied kinds.Gone x) 1 0) xs legal.history legal.all in
      let new = count_map (λ (a : Answered). is_of kinds.New a.reply) answered_by legal.history ∙ sum_by-IsPermutation (λ x. cond (replied kinds.New x) 1 0) xs legal.history legal.all in
      omega (arith, pairs, none, ops, gone, new, legal.pairs)

  -- and as many pairs are left
  pub same_pairs : size ≡ pairs_alone requests traces
  same_pairs =
      let both = sum_both left (λ t. count_by (replied kinds.Gone) (at trace_of t xs)) (range_with_len 0 traces) in
      let balanced =
      sum_agree (λ t. left t + count_by (replied kinds.Gone) (at trace_of t xs)) (λ t. count_by (replied kinds.New) (at trace_of t xs)) balance (range_with_len 0 traces) in
      omega (arith, whole, both, balanced, in_parts kinds.Gone, in_parts kinds.New)
