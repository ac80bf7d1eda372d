-- How often the steps of a line may raise the version of one place.
use Rattle.std.specs.Prelude.{◌==◌, cond, count_by, Bool, true, false}
use Rattle.std.proofs.Common.{◌≡◌, ℕ, zero, suc, ◌+◌, ◌<◌, ◌≤◌, List, [], ◌∷◌, ◌++◌, refl, ap, arith}
use Rattle.std.proofs.lemmas.Bool.Decides.{nat_tests}
use Rattle.std.proofs.lemmas.List.Sums.{sum_by-cons}
use Rattle.machine_states.specs.epoch_core.specs.small_lemmas.proofs.Numbers.{one_at_most as flag, tested_equal as same_number}
use Rattle.machine_states.specs.body_terms.specs.declared.step.Step.{Step}
use Rattle.machine_states.specs.body_terms.specs.declared.step.Step.TheVariants.{Load, Want, Fresh, Take, Make, Stamp, Store, Retire, Answer}
use Rattle.machine_states.specs.body_terms.specs.declared.micro.Source.{Source}
use Rattle.machine_states.specs.body_terms.specs.declared.micro.Micro.{Micro}
use Rattle.machine_states.specs.body_terms.specs.declared.micro.Micro.TheVariants as micros_of
use Rattle.machine_states.specs.body_terms.specs.declared.micro.Micro.TheVariants.{NestedHold, ExchangeCell, PrivateStore}
use Rattle.machine_states.specs.body_terms.specs.Line.{Registers, registers_after, micros, line_from, micro_at}
use Rattle.machine_states.specs.body_terms.specs.Shape.{is_make}

-- 1 where the step takes this lock, stores to this cell, or fills this cell of a Make's slot
abbrev pub takes_one : ℕ → Micro → ℕ
takes_one p (NestedHold place word) = cond (place == p) 1 0
takes_one p _ = 0

abbrev pub stores_one : ℕ → Micro → ℕ
stores_one p (ExchangeCell place log value) = cond (place == p) 1 0
stores_one p _ = 0

abbrev pub fills_one : ℕ → Micro → ℕ
fills_one index (PrivateStore cell log value) = cond (cell == index) 1 0
fills_one index _ = 0

-- what the step may raise: a lock that is taken is also released
abbrev pub weight : ℕ → ℕ → Micro → ℕ
weight p index (NestedHold place word) = cond (place == p) 2 0
weight p index (ExchangeCell place log value) = cond (place == p) 1 0
weight p index (PrivateStore cell log value) = cond (cell == index) 1 0
weight p index _ = 0

-- the sum along these steps
abbrev pub total : (Micro → ℕ) → List Micro → ℕ
total f [] = 0
total f (x ∷ xs) = f x + total f xs

-- and along the first ones, so many
abbrev pub spent : (Micro → ℕ) → ℕ → List Micro → ℕ
spent f zero xs = 0
spent f (suc n) [] = 0
spent f (suc n) (x ∷ xs) = f x + spent f n xs

pub nought : (n : ℕ) → n ≤ 1 → (n ≡ 1 → ⊥) → n ≡ 0
nought zero low ne = refl
nought (suc zero) low ne = absurd (ne refl)
nought (suc (suc n)) low ne = absurd (omega (arith, low))

module _ (f : Micro → ℕ) where
  pub spent_more : (n n' : ℕ) (xs : List Micro) → n ≤ n' → spent f n xs ≤ spent f n' xs
  spent_more zero n' xs low = omega arith
  spent_more (suc n) zero xs low = absurd (omega (arith, low))
  spent_more (suc n) (suc n') [] low = omega arith
  spent_more (suc n) (suc n') (x ∷ xs) low = let rest = spent_more n n' xs (omega (arith, low)) in omega (arith, rest)

  -- a step that is passed counts
  pub spent_here : f micros_of.End ≡ 0 → (n n' : ℕ) (xs : List Micro) → n < n' → spent f n xs + f (micro_at xs n) ≤ spent f n' xs
  spent_here none n zero xs low = absurd (omega (arith, low))
  spent_here none zero (suc n') [] low = omega (arith, none)
  spent_here none zero (suc n') (x ∷ xs) low = omega arith
  spent_here none (suc n) (suc n') [] low = omega (arith, none)
  spent_here none (suc n) (suc n') (x ∷ xs) low = let rest = spent_here none n n' xs (omega (arith, low)) in omega (arith, rest)

  pub spent_all : (n : ℕ) (xs : List Micro) → spent f n xs ≤ total f xs
  spent_all zero xs = omega arith
  spent_all (suc n) [] = omega arith
  spent_all (suc n) (x ∷ xs) = let rest = spent_all n xs in omega (arith, rest)

  append_total : (xs ys : List Micro) → total f (xs ++ ys) ≡ total f xs + total f ys
  append_total [] ys = omega arith
  append_total (x ∷ xs) ys = let rest = append_total xs ys in omega (arith, rest)

  -- none counts
  pub never : (xs : List Micro) → ((i : ℕ) → f (micro_at xs i) ≡ 0) → total f xs ≡ 0
  never [] h = refl
  never (x ∷ xs) h = let first = h 0 in let rest = never xs (λ i. h (suc i)) in omega (arith, first, rest)

  -- one at most counts
  pub once : ((x : Micro) → f x ≤ 1) → (xs : List Micro) → ((i j : ℕ) → f (micro_at xs i) ≡ 1 → f (micro_at xs j) ≡ 1 → i ≡ j) → total f xs ≤ 1
  once few [] h = omega arith
  once few (x ∷ xs) h = by (f x) refl (few x) (once few xs)
    where
      by : (n : ℕ) → f x ≡ n → n ≤ 1 → (((i j : ℕ) → f (micro_at xs i) ≡ 1 → f (micro_at xs j) ≡ 1 → i ≡ j) → total f xs ≤ 1) → f x + total f xs ≤ 1
      by zero e low more = let rest = more (λ i j one two. let same = h (suc i) (suc j) one two in omega (arith, same)) in omega (arith, e, rest)
      by (suc zero) e low more =
          let none = never xs (λ i. nought (f (micro_at xs i)) (few (micro_at xs i))
          (λ one. let same = h 0 (suc i) e one in omega (arith, same))) in omega (arith, e, none)
      by (suc (suc n)) e low more = absurd (omega (arith, low))

flag_set : (b : Bool) → ◌≡◌ {A = ℕ} (cond b 1 0) 1 → b ≡ true
flag_set true e = refl
flag_set false e = absurd (omega (arith, e))

pub takes_few : (p : ℕ) (x : Micro) → takes_one p x ≤ 1
takes_few p (NestedHold place word) = flag (place == p)
takes_few p _ = omega arith

pub stores_few : (p : ℕ) (x : Micro) → stores_one p x ≤ 1
stores_few p (ExchangeCell place log value) = flag (place == p)
stores_few p _ = omega arith

pub takes_it : (p : ℕ) (x : Micro) → takes_one p x ≡ 1 → (word : ℕ) × (x ≡ NestedHold p word)
takes_it p (NestedHold place word) e = (word, ap (λ n. NestedHold n word) (same_number place p (flag_set (place == p) e)))
takes_it p _ e = absurd (omega (arith, e))

pub stores_it : (p : ℕ) (x : Micro) → stores_one p x ≡ 1 → (log : ℕ) × (value : Source) × (x ≡ ExchangeCell p log value)
stores_it p (ExchangeCell place log value) e = (log, value, ap (λ n. ExchangeCell n log value) (same_number place p (flag_set (place == p) e)))
stores_it p _ e = absurd (omega (arith, e))

-- the weight by the three
twice : (b : Bool) → cond b 2 0 ≡ cond b 1 0 + cond b 1 0
twice true = refl
twice false = refl

weight_parts : (p index : ℕ) (x : Micro) → weight p index x ≡ (takes_one p x + takes_one p x) + (stores_one p x + fills_one index x)
weight_parts p index (NestedHold place word) = let two = twice (place == p) in omega (arith, two)
weight_parts p index (ExchangeCell place log value) = omega arith
weight_parts p index (PrivateStore cell log value) = omega arith
weight_parts p index _ = omega arith

pub total_parts : (p index : ℕ) (xs : List Micro) → total (weight p index) xs
    ≡ (total (takes_one p) xs + total (takes_one p) xs) + (total (stores_one p) xs + total (fills_one index) xs)
total_parts p index [] = refl
total_parts p index (x ∷ xs) = let one = weight_parts p index x in let rest = total_parts p index xs in omega (arith, one, rest)

-- a Make fills each cell of its slot once
fills_five : (index : ℕ) → cond (0 == index) 1 0 + (cond (1 == index) 1 0 + (cond (2 == index) 1 0 + (cond (3 == index) 1 0 + cond (4 == index) 1 0))) ≤ 1
fills_five index = grind (arith, nat_tests)

module _ (index : ℕ) where
  step_fills : (g : Registers) (step : Step) → total (fills_one index) (micros g step) ≤ cond (is_make step) 1 0
  step_fills g (Load place into) = omega arith
  step_fills g (Want reg word) = omega arith
  step_fills g (Fresh reg) = omega arith
  step_fills g (Take place word) = omega arith
  step_fills g (Make init into) = let one = fills_five index in omega (arith, one)
  step_fills g Stamp = omega arith
  step_fills g (Store reg value) = omega arith
  step_fills g (Retire slot) = omega arith
  step_fills g (Answer reply) = omega arith

  -- so a line fills it as often as it has Makes, at most
  pub few_fills : (g : Registers) (body : List Step) → total (fills_one index) (line_from g body) ≤ count_by is_make body
  few_fills g [] = omega arith
  few_fills g (step ∷ steps) =
      let all = append_total (fills_one index) (micros g step) (line_from (registers_after g step) steps) in
      let one = step_fills g step in
      let rest = few_fills (registers_after g step) steps in
      let sum = sum_by-cons (λ s. cond (is_make s) 1 0) step steps in
      omega (arith, all, one, rest, sum)
