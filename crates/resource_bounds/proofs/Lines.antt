-- How many Makes of a line are agreed on.
use Rattle.std.specs.Prelude.{cond, count_by}
use Rattle.std.proofs.Common.{◌≡◌, ◌≢◌, ℕ, zero, suc, ◌+◌, ◌≤◌, List, [], ◌∷◌, ◌++◌, refl, ap, ◌∙◌, subst, arith}
use Rattle.std.proofs.lemmas.List.Sums.{sum_by-cons}
use Rattle.machine_states.specs.body_terms.specs.declared.step.Step.{Step}
use Rattle.machine_states.specs.body_terms.specs.declared.step.Step.TheVariants.{Load, Want, Fresh, Take, Make, Stamp, Store, Retire, Answer}
use Rattle.machine_states.specs.body_terms.specs.declared.micro.Micro.{Micro}
use Rattle.machine_states.specs.body_terms.specs.declared.micro.Micro.TheVariants.{MakeCommit}
use Rattle.machine_states.specs.body_terms.specs.Line.{Registers, registers_after, micros, line_from, micro_at}
use Rattle.machine_states.specs.body_terms.specs.Shape.{is_make}

-- 1 where the word isn't 0
abbrev some_word : ℕ → ℕ
some_word zero = 0
some_word (suc n) = 1

-- 1 where the step commits a Make on which this log agrees
abbrev pub one_made : (ℕ → ℕ) → Micro → ℕ
one_made log (MakeCommit k) = some_word (log k)
one_made log _ = 0

-- how many of these steps do
abbrev pub makes_in : (ℕ → ℕ) → List Micro → ℕ
makes_in log [] = 0
makes_in log (x ∷ xs) = one_made log x + makes_in log xs

is_one : (n : ℕ) → n ≢ 0 → some_word n ≡ 1
is_one zero e = absurd (e refl)
is_one (suc n) e = refl

most_one : (n : ℕ) → some_word n ≤ 1
most_one zero = omega arith
most_one (suc n) = omega arith

module _ (log : ℕ → ℕ) where
  append_makes : (xs ys : List Micro) → makes_in log (xs ++ ys) ≡ makes_in log xs + makes_in log ys
  append_makes [] ys = omega arith
  append_makes (x ∷ xs) ys = let rest = append_makes xs ys in omega (arith, rest)

  -- a step of a body commits one Make at most
  step_makes : (g : Registers) (step : Step) → makes_in log (micros g step) ≤ cond (is_make step) 1 0
  step_makes g (Load place into) = omega arith
  step_makes g (Want reg word) = omega arith
  step_makes g (Fresh reg) = omega arith
  step_makes g (Take place word) = omega arith
  step_makes g (Make init into) = let one = most_one (log g.count) in omega (arith, one)
  step_makes g Stamp = omega arith
  step_makes g (Store reg value) = omega arith
  step_makes g (Retire slot) = omega arith
  step_makes g (Answer reply) = omega arith

  pub few_makes : (g : Registers) (body : List Step) → makes_in log (line_from g body) ≤ count_by is_make body
  few_makes g [] = omega arith
  few_makes g (step ∷ steps) =
      let all = append_makes (micros g step) (line_from (registers_after g step) steps) in
      let one = step_makes g step in
      let rest = few_makes (registers_after g step) steps in
      let sum = sum_by-cons (λ s. cond (is_make s) 1 0) step steps in
      omega (arith, all, one, rest, sum)

  found : (x : Micro) → 1 ≤ one_made log x → (k : ℕ) × (x ≡ MakeCommit k) × (log k ≢ 0)
  found (MakeCommit k) h = (k, refl, λ z. absurd (let none = subst (λ n. 1 ≤ some_word n) z h in omega (arith, none)))
  found _ h = absurd (omega (arith, h))

  -- one of them
  pub some_make : (xs : List Micro) → 1 ≤ makes_in log xs → (i k : ℕ) × (micro_at xs i ≡ MakeCommit k) × (log k ≢ 0)
  some_make [] h = absurd (omega (arith, h))
  some_make (x ∷ xs) h = by (one_made log x) refl (some_make xs)
    where
      by : (n : ℕ) → one_made log x ≡ n → (1 ≤ makes_in log xs → (i k : ℕ) × (micro_at xs i ≡ MakeCommit k) × (log k ≢ 0))
          → (i k : ℕ) × (micro_at (x ∷ xs) i ≡ MakeCommit k) × (log k ≢ 0)
      by zero e more = let rest = more (omega (arith, e, h)) in (suc rest.0, rest.1, rest.2, rest.3)
      by (suc n) e more = let here = found x (omega (arith, e)) in (zero, here.0, here.1, here.2)

module _ (log log' : ℕ → ℕ) (stands : (k : ℕ) → log k ≢ 0 → log' k ≡ log k) where
  one_stays : (x : Micro) → one_made log x ≤ one_made log' x
  one_stays (MakeCommit k) = by (log k) refl
    where
      by : (n : ℕ) → log k ≡ n → some_word n ≤ some_word (log' k)
      by zero e = omega arith
      by (suc n) e =
          let some : log' k ≢ 0 = λ z. let same = stands k (λ y. let c = e in omega (arith, c, y)) in omega (arith, same, z, e) in
          let one = is_one (log' k) some in omega (arith, one)
  one_stays _ = omega arith

  -- what is agreed on stays so
  pub makes_stay : (xs : List Micro) → makes_in log xs ≤ makes_in log' xs
  makes_stay [] = omega arith
  makes_stay (x ∷ xs) = let here = one_stays x in let rest = makes_stay xs in omega (arith, here, rest)

  -- and one more is agreed on
  pub makes_more : (xs : List Micro) (i k : ℕ) → micro_at xs i ≡ MakeCommit k → log k ≡ 0 → log' k ≢ 0 → suc (makes_in log xs) ≤ makes_in log' xs
  makes_more [] zero k at none some = absurd (cc)
  makes_more [] (suc i) k at none some = absurd (cc)
  makes_more (x ∷ xs) zero k at none some =
      let before : one_made log x ≡ 0 = ap (one_made log) at ∙ ap some_word none in
      let after : one_made log' x ≡ 1 = ap (one_made log') at ∙ is_one (log' k) some in
      let rest = makes_stay xs in omega (arith, before, after, rest)
  makes_more (x ∷ xs) (suc i) k at none some =
      let here = one_stays x in let rest = makes_more xs i k at none some in omega (arith, here, rest)
