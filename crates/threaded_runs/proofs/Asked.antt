-- How often the gates of all workers were asked together, at least.
use Rattle.std.specs.Prelude.{◌-◌, ◌^◌, ◌*◌, ◌==◌, ◌⊎◌, min, Bool, true, false, cond, count_by}
use Rattle.std.specs.List.{filter}
use Rattle.std.proofs.Common.{◌≡◌, ℕ, zero, suc, ◌+◌, ◌<◌, ◌≤◌, List, [], ◌∷◌, ◌++◌, length, take, get_or, refl, sym, ap, ◌∙◌, subst, arith, inl, inr}
use Rattle.std.proofs.Math.Nat.{le-min, min-le_left, min-le_right}
use Rattle.std.proofs.lemmas.List.{take_more, take_all}
use Rattle.std.proofs.lemmas.List.Sums.{sum_by-cons}
use Rattle.std.proofs.lemmas.Bool.{true≢false}
use Rattle.machine_states.specs.epoch_core.specs.small_lemmas.proofs.Numbers.{last_or_before, self_tested}
use Rattle.machine_states.specs.body_terms.specs.Counted.{counted_on}
use Rattle.settled_tables.specs.settling.specs.runner_gate.specs.Asks.{Asks}
use Rattle.free_serving.specs.serving.specs.declared.answers.Served.{Served}
use Rattle.free_serving.specs.serving.specs.declared.answers.Served.TheVariants as stops
use Rattle.free_serving.specs.Left.{least_asks}
use Rattle.threaded_runs.specs.declared.job.Finished.{Finished}
use Rattle.threaded_runs.specs.Asks.{halted_in}
use Rattle.threaded_runs.specs.Counts.{halted}
use Rattle.threaded_runs.specs.Jobs.{asks_counted}
use Rattle.threaded_runs.proofs.Counting.{asks_next}
use Rattle.threaded_runs.proofs.Seats.{some_of}

-- the sum over the numbers below one
abbrev pub sum_below : (ℕ → ℕ) → ℕ → ℕ
sum_below f zero = 0
sum_below f (suc n) = sum_below f n + f n

sum_more : (f g : ℕ → ℕ) (n : ℕ) → ((k : ℕ) → f k ≤ g k) → sum_below f n ≤ sum_below g n
sum_more f g zero each = omega arith
sum_more f g (suc n) each = let rest = sum_more f g n each in let last = each n in omega (arith, rest, last)

-- where one of them is larger by so much
sum_one : (f g : ℕ → ℕ) (n at more : ℕ) → at < n → ((k : ℕ) → f k ≤ g k) → f at + more ≤ g at → sum_below f n + more ≤ sum_below g n
sum_one f g zero at more low each here = absurd (omega (arith, low))
sum_one f g (suc n) at more low each here = by (λ before. sum_one f g n at more before each here) (last_or_before at n low)
  where
    by : (at < n → sum_below f n + more ≤ sum_below g n) → (at < n) ⊎ (at ≡ n) → sum_below f (suc n) + more ≤ sum_below g (suc n)
    by before (inl lower) = let rest = before lower in let last = each n in omega (arith, rest, last)
    by before (inr same) =
        let rest = sum_more f g n each in
        let last : f n + more ≤ g n = subst (λ (k : ℕ). f k + more ≤ g k) same here in
        omega (arith, rest, last)

-- each element of a list is one of those with its own number, so none is lost where the list is parted by numbers
module _ {A : Type 0} (test : A → Bool) (number : A → ℕ) (n : ℕ) (low : (x : A) → number x < n) where
  abbrev with_number : List A → ℕ → ℕ
  with_number xs k = count_by test (filter (λ (x : A). number x == k) xs)

  counted : (x : A) (xs : List A) → count_by test (x ∷ xs) ≡ cond (test x) 1 0 + count_by test xs
  counted x xs = sum_by-cons (λ (y : A). cond (test y) 1 0) x xs

  no_fewer : (x : A) (xs : List A) (b : Bool) → count_by test xs ≤ count_by test (cond b (x ∷ xs) xs)
  no_fewer x xs true = let one = counted x xs in omega (arith, one)
  no_fewer x xs false = omega arith

  one_here : (x : A) (xs : List A) (b : Bool) → b ≡ true → count_by test xs + cond (test x) 1 0 ≤ count_by test (cond b (x ∷ xs) xs)
  one_here x xs true e = let one = counted x xs in omega (arith, one)
  one_here x xs false e = absurd (true≢false (sym e))

  pub all_placed : (xs : List A) → count_by test xs ≤ sum_below (with_number xs) n
  all_placed [] = omega arith
  all_placed (x ∷ xs) =
      let rest = all_placed xs in
      let one = counted x xs in
      let more = sum_one (with_number xs) (with_number (x ∷ xs)) n (number x) (cond (test x) 1 0) (low x)
      (λ k. no_fewer x (filter (λ (y : A). number y == k) xs) (number x == k))
      (one_here x (filter (λ (y : A). number y == number x) xs) (number x == number x) (self_tested (number x))) in
      omega (arith, rest, one, more)

-- a count that goes on so often comes to that number at least, or stands still
pub counted_least : (start n least : ℕ) → least ≤ n → min least (2 ^ 64 - 1) ≤ counted_on start n
counted_least start zero least few = let low : min least (2 ^ 64 - 1) ≤ least = min-le_left least (2 ^ 64 - 1) in omega (arith, few, low)
counted_least start (suc n) zero few = let low : min 0 (2 ^ 64 - 1) ≤ 0 = min-le_left 0 (2 ^ 64 - 1) in omega (arith, low)
counted_least start (suc n) (suc least) few =
    let rest : min least (2 ^ 64 - 1) ≤ counted_on start n = counted_least start n least (omega (arith, few)) in
    le-min (one_on least (counted_on start n) rest) (min-le_right (suc least) (2 ^ 64 - 1))
  where
    one_on : (a c : ℕ) → min a (2 ^ 64 - 1) ≤ c → min (suc a) (2 ^ 64 - 1) ≤ c + 1
    one_on a c low = omega (arith, low)

-- one more gate, by which so many were served
one_gate : (reads_free : Bool) (before served halts asked n of_gate own halt : ℕ) → min (before + least_asks reads_free * (served - halts)) (2 ^ 64 - 1) ≤ asked
    → min (least_asks reads_free * n) (2 ^ 64 - 1) ≤ of_gate → own ≤ n + halt
    → min (before + least_asks reads_free * ((served + own) - (halts + halt))) (2 ^ 64 - 1) ≤ min (asked + of_gate) (2 ^ 64 - 1)
one_gate reads_free before served halts asked n of_gate own halt first second few =
    let less : (served + own) - (halts + halt) ≤ (served - halts) + n = omega (arith, few) in
    sums reads_free before (served - halts) n ((served + own) - (halts + halt)) less first second
  where
    sums : (b : Bool) (before s n k : ℕ) → k ≤ s + n → min (before + least_asks b * s) (2 ^ 64 - 1) ≤ asked → min (least_asks b * n) (2 ^ 64 - 1) ≤ of_gate
        → min (before + least_asks b * k) (2 ^ 64 - 1) ≤ min (asked + of_gate) (2 ^ 64 - 1)
    sums true before s n k less one two =
        let first : min (before + 8 * s) (2 ^ 64 - 1) ≤ asked = one in
        let second : min (8 * n) (2 ^ 64 - 1) ≤ of_gate = two in
        let all : min (before + 8 * k) (2 ^ 64 - 1) ≤ min (asked + of_gate) (2 ^ 64 - 1) = omega (arith, less, first, second) in all
    sums false before s n k less one two =
        let first : min (before + 16 * s) (2 ^ 64 - 1) ≤ asked = one in
        let second : min (16 * n) (2 ^ 64 - 1) ≤ of_gate = two in
        let all : min (before + 16 * k) (2 ^ 64 - 1) ≤ min (asked + of_gate) (2 ^ 64 - 1) = omega (arith, less, first, second) in all

none_yet : (reads_free : Bool) (before : ℕ) → min (before + least_asks reads_free * (0 - 0)) (2 ^ 64 - 1) ≤ before
none_yet true before = let low : min (before + 0) (2 ^ 64 - 1) ≤ before + 0 = min-le_left (before + 0) (2 ^ 64 - 1) in omega (arith, low)
none_yet false before = let low : min (before + 0) (2 ^ 64 - 1) ≤ before + 0 = min-le_left (before + 0) (2 ^ 64 - 1) in omega (arith, low)

-- fewer that are served
fewer : (reads_free : Bool) (before served most halts asked : ℕ) → served ≤ most → min (before + least_asks reads_free * (most - halts)) (2 ^ 64 - 1) ≤ asked
    → min (before + least_asks reads_free * (served - halts)) (2 ^ 64 - 1) ≤ asked
fewer true before served most halts asked few low =
    let first : min (before + 8 * (most - halts)) (2 ^ 64 - 1) ≤ asked = low in
    let all : min (before + 8 * (served - halts)) (2 ^ 64 - 1) ≤ asked = omega (arith, few, first) in all
fewer false before served most halts asked few low =
    let first : min (before + 16 * (most - halts)) (2 ^ 64 - 1) ≤ asked = low in
    let all : min (before + 16 * (served - halts)) (2 ^ 64 - 1) ≤ asked = omega (arith, few, first) in all

halted_more : (given : List Served) (answer : Served) → halted_in (given ++ answer ∷ []) ≡ halted_in given + halted answer
halted_more [] answer = omega arith
halted_more (x ∷ given) answer = let rest = halted_more given answer in omega (arith, rest)

pub same_at : {X : Type 0} (xs : List X) (i : ℕ) (d e : X) → i < length xs → get_or xs i d ≡ get_or xs i e
same_at [] i d e low = absurd (omega (arith, low))
same_at (x ∷ xs) zero d e low = refl
same_at (x ∷ xs) (suc i) d e low = same_at xs i d e (omega (arith, low))

module _ {T H : Type 0} (reads_free : Bool) (asks : H → Asks) (before : ℕ) (finished : List (Finished T H)) (answers : List Served) (own : ℕ → ℕ) (each : length answers ≡ length finished)
    (gate : (i : ℕ) → i < length finished → (d : Finished T H) (a : Served)
    → (n : ℕ) × (min (least_asks reads_free * n) (2 ^ 64 - 1) ≤ (asks (get_or finished i d).gate).count) × (own i ≤ n + halted (get_or answers i a))) where
  first_gates : (k : ℕ) → k ≤ length finished
      → min (before + least_asks reads_free * (sum_below own k - halted_in (take k answers))) (2 ^ 64 - 1) ≤ asks_counted asks before (take k finished)
  first_gates zero few = none_yet reads_free before
  first_gates (suc k) few =
      let longer : suc k ≡ k + 1 = omega arith in
      subst (λ (h : ℕ). min (before + least_asks reads_free * (sum_below own (suc k) - h)) (2 ^ 64 - 1) ≤ asks_counted asks before (take (suc k) finished))
      (sym (ap (λ (n : ℕ). halted_in (take n answers)) longer ∙ (ap halted_in (take_more answers k stops.All here) ∙ halted_more (take k answers) (get_or answers k stops.All))))
      (subst (λ (x : ℕ). min (before + least_asks reads_free * (sum_below own (suc k) - (halted_in (take k answers) + halted (get_or answers k stops.All)))) (2 ^ 64 - 1) ≤ x)
      (sym (ap (λ (n : ℕ). asks_counted asks before (take n finished)) longer ∙ asks_next asks before finished k (get_or finished k d) low (λ e. same_at finished k e d low)))
      (one_gate reads_free before (sum_below own k) (halted_in (take k answers)) (asks_counted asks before (take k finished)) this.0 (asks (get_or finished k d).gate).count (own k)
      (halted (get_or answers k stops.All)) (first_gates k (omega (arith, few))) this.1 this.2))
    where
      low : k < length finished
      low = omega (arith, few)

      here : k < length answers
      here = omega (arith, low, each)

      d : Finished T H
      d = some_of finished k low

      this : (n : ℕ) × (min (least_asks reads_free * n) (2 ^ 64 - 1) ≤ (asks (get_or finished k d).gate).count) × (own k ≤ n + halted (get_or answers k stops.All))
      this = gate k low d stops.All

  pub often_asked : (served : ℕ) → served ≤ sum_below own (length finished)
      → min (before + least_asks reads_free * (served - halted_in answers)) (2 ^ 64 - 1) ≤ asks_counted asks before finished
  often_asked served few = fewer reads_free before served (sum_below own (length finished)) (halted_in answers) (asks_counted asks before finished) few
      (subst (λ (given : List Served). min (before + least_asks reads_free * (sum_below own (length finished) - halted_in given)) (2 ^ 64 - 1) ≤ asks_counted asks before finished)
      (take_all (length finished) answers (omega (arith, each)))
      (subst (λ (fs : List (Finished T H)). min (before + least_asks reads_free * (sum_below own (length finished) - halted_in (take (length finished) answers))) (2 ^ 64 - 1) ≤ asks_counted asks before fs)
      (take_all (length finished) finished (omega arith))
      (first_gates (length finished) (omega arith))))
