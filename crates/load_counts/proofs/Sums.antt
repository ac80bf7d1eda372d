-- Sums over the parts of a list.
use Rattle.std.proofs.Common.{◌≡◌, ℕ, zero, suc, ◌+◌, ◌<◌, ◌≤◌, Bool, true, false, cond, List, [], ◌∷◌, refl, sym, ap, ◌∙◌, arith}
use Rattle.std.specs.Prelude.{◌==◌, Contains, count_by, filter, map}
use Rattle.std.specs.List.{flat_map, range_with_len, sum_by}
use Rattle.std.proofs.lemmas.Bool.Decides.{nat_tests}
use Rattle.std.proofs.lemmas.List.Sums.{sum_by-append, sum_by-cons}
use Rattle.run_reports.specs.history_orders.proofs.Entries.{contains_behind, contains_front}

-- a sum of nothing
pub sum_none : (ts : List ℕ) → sum_by (λ t. 0) ts ≡ 0
sum_none [] = refl
sum_none (t ∷ ts) = omega (arith, sum_by-cons (λ t. 0) t ts, sum_none ts)

-- sums of functions that agree, and of two
pub sum_agree : {X : Type 0} (f g : X → ℕ) → ((x : X) → f x ≡ g x) → (xs : List X) → sum_by f xs ≡ sum_by g xs
sum_agree f g agree [] = refl
sum_agree f g agree (x ∷ xs) = omega (arith, sum_by-cons f x xs, sum_by-cons g x xs, agree x, sum_agree f g agree xs)

pub sum_both : (f g : ℕ → ℕ) (ts : List ℕ) → sum_by (λ t. f t + g t) ts ≡ sum_by f ts + sum_by g ts
sum_both f g [] = refl
sum_both f g (t ∷ ts) = omega (arith, sum_by-cons (λ t. f t + g t) t ts, sum_by-cons f t ts, sum_by-cons g t ts, sum_both f g ts)

-- one number more at one place of a range, and at none
none_more : (c v : ℕ) (g : ℕ → ℕ) (start n : ℕ) → c < start → sum_by (λ t. cond (c == t) (v + g t) (g t)) (range_with_len start n) ≡ sum_by g (range_with_len start n)
none_more c v g start zero below = refl
none_more c v g start (suc n) below =
    let here : cond (c == start) (v + g start) (g start) ≡ g start = grind (arith, nat_tests) in
    omega (
      arith,
      here,
      sum_by-cons (λ t. cond (c == t) (v + g t) (g t)) start (range_with_len (start + 1) n),
      sum_by-cons g start (range_with_len (start + 1) n),
      none_more c v g (start + 1) n (omega arith),
    )

one_more : (c v : ℕ) (g : ℕ → ℕ) (start n : ℕ) → start ≤ c → c < start + n → sum_by (λ t. cond (c == t) (v + g t) (g t)) (range_with_len start n) ≡ v + sum_by g (range_with_len start n)
one_more c v g start zero low high = absurd (omega arith)
one_more c v g start (suc n) low high = by (one_more c v g (start + 1) n) (c == start) refl
  where
    by : (start + 1 ≤ c → c < start + 1 + n → sum_by (λ t. cond (c == t) (v + g t) (g t)) (range_with_len (start + 1) n) ≡ v + sum_by g (range_with_len (start + 1) n))
        → (b : Bool) → (c == start) ≡ b → sum_by (λ t. cond (c == t) (v + g t) (g t)) (range_with_len start (suc n)) ≡ v + sum_by g (range_with_len start (suc n))
    by again true is =
        let here : cond (c == start) (v + g start) (g start) ≡ v + g start = ap (λ b. cond b (v + g start) (g start)) is in
        let same : c ≡ start = grind (arith, nat_tests) in
        omega (
          arith,
          here,
          sum_by-cons (λ t. cond (c == t) (v + g t) (g t)) start (range_with_len (start + 1) n),
          sum_by-cons g start (range_with_len (start + 1) n),
          none_more c v g (start + 1) n (omega (arith, same)),
        )
    by again false is =
        let here : cond (c == start) (v + g start) (g start) ≡ g start = ap (λ b. cond b (v + g start) (g start)) is in
        let other : start < c = grind (arith, nat_tests) in
        omega (
          arith,
          here,
          sum_by-cons (λ t. cond (c == t) (v + g t) (g t)) start (range_with_len (start + 1) n),
          sum_by-cons g start (range_with_len (start + 1) n),
          again (omega (arith, other)) (omega (arith, high)),
        )

-- the part of a list at one number
abbrev pub at : {X : Type 0} → (X → ℕ) → ℕ → List X → List X
at part t xs = filter (λ x. part x == t) xs

-- a sum is that of its parts
pub sum_parts : {X : Type 0} (f : X → ℕ) (part : X → ℕ) (count : ℕ) (xs : List X) → ((x : X) → Contains xs x → part x < count)
    → sum_by f xs ≡ sum_by (λ t. sum_by f (at part t xs)) (range_with_len 0 count)
sum_parts f part count [] within = sym (sum_none (range_with_len 0 count))
sum_parts f part count (x ∷ xs) within =
    let rest = sum_parts f part count xs (λ y here. within y (contains_behind x y xs here)) in
    let one = one_more (part x) (f x) (λ t. sum_by f (at part t xs)) 0 count (omega arith) (omega (arith, within x (contains_front x x xs refl))) in
    let each = sum_agree (λ t. sum_by f (at part t (x ∷ xs))) (λ t. cond (part x == t) (f x + sum_by f (at part t xs)) (sum_by f (at part t xs))) step (range_with_len 0 count) in
    omega (arith, sum_by-cons f x xs, rest, one, each)
  where
    step : (t : ℕ) → sum_by f (at part t (x ∷ xs)) ≡ cond (part x == t) (f x + sum_by f (at part t xs)) (sum_by f (at part t xs))
    step t = by (part x == t)
      where
        by : (b : Bool) → sum_by f (cond b (x ∷ at part t xs) (at part t xs)) ≡ cond b (f x + sum_by f (at part t xs)) (sum_by f (at part t xs))
        by true = sum_by-cons f x (at part t xs)
        by false = refl

-- a count in lists put one behind the other
pub count_flat : {X Y : Type 0} (p : Y → Bool) (g : X → List Y) (xs : List X) → count_by p (flat_map g xs) ≡ sum_by (λ x. count_by p (g x)) xs
count_flat p g [] = refl
count_flat p g (x ∷ xs) =
    sum_by-append (λ y. cond (p y) 1 0) (g x) (flat_map g xs) ∙ ap (λ n. count_by p (g x) + n) (count_flat p g xs) ∙ sym (sum_by-cons (λ x. count_by p (g x)) x xs)

pub count_map : {X Y : Type 0} (p : Y → Bool) (f : X → Y) (xs : List X) → count_by p (map f xs) ≡ count_by (λ x. p (f x)) xs
count_map p f [] = refl
count_map p f (x ∷ xs) =
    omega (arith, sum_by-cons (λ y. cond (p y) 1 0) (f x) (map f xs), sum_by-cons (λ x. cond (p (f x)) 1 0) x xs, count_map p f xs)
