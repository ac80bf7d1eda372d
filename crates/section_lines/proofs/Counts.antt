-- How many words are committed below a place of a line.
use Rattle.std.proofs.Common.{◌≡◌, ℕ, zero, suc, ◌+◌, ◌≤◌, List, [], ◌∷◌, ◌++◌, length, take, drop, refl, sym, ap, ◌∙◌, arith}
use Rattle.std.specs.Prelude.{cond, count_by}
use Rattle.std.proofs.Math.Seq.{take-append-add}
use Rattle.std.proofs.lemmas.List.{take-append-le}
use Rattle.std.proofs.lemmas.List.Sums.{sum_by-append, sum_by-cons}
use Rattle.structure_laws.specs.body_terms.specs.declared.step.Step.{Step}
use Rattle.structure_laws.specs.body_terms.specs.declared.step.Step.TheVariants.{Load, Want, Fresh, Take, Make, Stamp, Store, Retire, Answer}
use Rattle.structure_laws.specs.body_terms.specs.declared.micro.Micro.{Micro}
use Rattle.structure_laws.specs.body_terms.specs.Line.{Registers, registers_before, registers_after, micros, micro_count, line, line_from, begins, micro_at, is_commit, committed, log_words}
use Rattle.structure_laws.specs.body_terms.specs.Shape.{IsStep}
use Rattle.structure_laws.specs.body_terms.proofs.LineLemmas.{line_next, line_split, length-micros, count_after, registers_before_next}
use Rattle.structure_laws.specs.body_terms.proofs.RegisterLemmas.{step_at}

count_append : (xs ys : List Micro) → count_by is_commit (xs ++ ys) ≡ count_by is_commit xs + count_by is_commit ys
count_append xs ys = sum_by-append (λ m. cond (is_commit m) 1 0) xs ys

-- one more place of a line
pub one_more : (ms : List Micro) (i : ℕ) → committed ms (suc i) ≡ committed ms i + cond (is_commit (micro_at ms i)) 1 0
one_more [] zero = refl
one_more [] (suc i) = refl
one_more (m ∷ ms) zero = one m
  where
    one : (m : Micro) → count_by is_commit (m ∷ []) ≡ 0 + cond (is_commit m) 1 0
    one m = grind arith
one_more (m ∷ ms) (suc i) =
    let before = one_more ms i in
    let more = sum_by-cons (λ m. cond (is_commit m) 1 0) m (take (suc i) ms) in
    let less = sum_by-cons (λ m. cond (is_commit m) 1 0) m (take i ms) in
    omega arith

-- a step commits as many words as it is said to
count_micros : (g : Registers) (step : Step) → count_by is_commit (micros g step) ≡ log_words step
count_micros g (Load place into) = refl
count_micros g (Want reg word) = refl
count_micros g (Fresh reg) = refl
count_micros g (Take place word) = refl
count_micros g (Make init into) = refl
count_micros g Stamp = refl
count_micros g (Store reg value) = refl
count_micros g (Retire slot) = refl
count_micros g (Answer reply) = refl

module _ (body : List Step) where
  pub counted_to : (n : ℕ) → n ≤ length body → count_by is_commit (line (take n body)) ≡ (registers_before body n).count
  counted_to zero within = refl
  counted_to (suc n) within =
      let step = step_at body n (omega arith) in
      let g = registers_before body n in
      ap (count_by is_commit) (line_next body n step.0 step.1)
      ∙ (count_append (line (take n body)) (micros g step.0)
      ∙ (ap (λ k. k + count_by is_commit (micros g step.0)) (counted_to n (omega arith))
      ∙ (ap (λ k. g.count + k) (count_micros g step.0)
      ∙ (sym (count_after g step.0) ∙ ap (λ (h : Registers). h.count) (sym (registers_before_next body n step.0 step.1))))))

  -- the words committed below part `at` of a step: those before the step, and those of its earlier parts
  pub counted_within : (n at : ℕ) (step : Step) → IsStep body n step → n ≤ length body → at ≤ micro_count step
      → committed (line body) (begins body n + at) ≡ (registers_before body n).count + count_by is_commit (take at (micros (registers_before body n) step))
  counted_within n at step here inside within =
      let g = registers_before body n in
      let rest = line_from (registers_after g step) (drop (suc n) body) in
      ap (λ ms. count_by is_commit (take (begins body n + at) ms)) (line_split body n step here)
      ∙ (ap (count_by is_commit) (take-append-add (line (take n body)) (micros g step ++ rest) at)
      ∙ (count_append (line (take n body)) (take at (micros g step ++ rest))
      ∙ (ap (λ k. k + count_by is_commit (take at (micros g step ++ rest))) (counted_to n inside)
      ∙ ap (λ ms. g.count + count_by is_commit ms) (take-append-le at (micros g step) rest (let long = length-micros g step in omega arith)))))
