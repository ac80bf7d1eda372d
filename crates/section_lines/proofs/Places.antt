-- Which step of a body stands at a place of its line.
use Rattle.std.proofs.Common.{◌≡◌, ℕ, zero, suc, ◌+◌, ◌-◌, ◌<◌, ◌≤◌, List, [], ◌∷◌, length, sym, ap, ◌∙◌, subst, arith, ⊎_elim}
use Rattle.std.specs.Prelude.{◌⊎◌}
use Rattle.structure_laws.specs.body_terms.specs.declared.step.Step.{Step}
use Rattle.structure_laws.specs.body_terms.specs.Line.{registers_before, micro_count, line, begins, micro_at}
use Rattle.structure_laws.specs.body_terms.specs.Shape.{IsStep}
use Rattle.structure_laws.specs.body_terms.proofs.LineLemmas.{begins_next, micro_within, past_line, take_all}
use Rattle.structure_laws.specs.body_terms.proofs.RegisterLemmas.{step_at}
use Rattle.section_lines.proofs.Steps.{part_of, owner, is_part, IsPart}

module _ (body : List Step) where
  -- the step with number n stands at this place, with its part `at`
  pub record Stands (i : ℕ) : Type 0 where
    pub n : ℕ
    pub step : Step
    pub at : ℕ
    pub here : IsStep body n step
    pub within : at < micro_count step
    pub place : i ≡ begins body n + at
    pub micro : micro_at (line body) i ≡ part_of (registers_before body n) step at

  some_step : (n : ℕ) (step : Step) (i : ℕ) → IsStep body n step → begins body n ≤ i → i < begins body n + micro_count step → Stands i
  some_step n step i here low high =
      let whole : i ≡ begins body n + (i - begins body n) = omega arith in
      record {
        n = n;
        step = step;
        at = i - begins body n;
        here = here;
        within = omega arith;
        place = whole;
        micro = ap (micro_at (line body)) whole ∙ micro_within body n (i - begins body n) step here (omega arith);
      }

  find : (n i : ℕ) → n ≤ length body → i < begins body n → Stands i
  find zero i within below = absurd (omega arith)
  find (suc n) i within below =
      let step = step_at body n (omega arith) in
      let next = begins_next body n step.0 step.1 in
      ⊎_elim (λ earlier. find n i (omega arith) earlier) (λ here. some_step n step.0 i step.1 here (omega arith)) (order i (begins body n))
    where
      order : (i b : ℕ) → (i < b) ⊎ (b ≤ i)
      order i b = search arith

  pub whole_line : begins body (length body) ≡ length (line body)
  whole_line = ap (λ steps. length (line steps)) (take_all body (length body) (omega arith))

  -- each place of the line has its step
  pub stands : (i : ℕ) → i < length (line body) → Stands i
  stands i within = find (length body) i (omega arith) (let all = whole_line in omega arith)

  -- the part of a step at its place
  pub stands_there : (n at : ℕ) (step : Step) → IsStep body n step → at < micro_count step → micro_at (line body) (begins body n + at) ≡ part_of (registers_before body n) step at
  stands_there n at step here within = micro_within body n at step here within

  -- a place of the line where no end stands
  pub inside : (i : ℕ) → owner (micro_at (line body) i) < 9 → i < length (line body)
  inside i owned = ⊎_elim (λ low. low) (λ high. absurd (let end = ap owner (past_line (line body) i high) in omega arith)) (order i (length (line body)))
    where
      order : (i n : ℕ) → (i < n) ⊎ (n ≤ i)
      order i n = search arith

  -- what is said of the step at a place
  pub part_at : (i : ℕ) (s : Stands i) → IsPart s.step s.at (micro_at (line body) i)
  part_at i s = subst (IsPart s.step s.at) (sym s.micro) (is_part (registers_before body s.n) s.step s.at s.within)

  -- later steps begin later
  pub begins_rises : (n k : ℕ) → n ≤ k → k ≤ length body → begins body n ≤ begins body k
  begins_rises n zero low high = subst (λ m. begins body m ≤ begins body zero) (let z : zero ≡ n = omega arith in z) (omega arith)
  begins_rises n (suc k) low high =
      let step = step_at body k (omega arith) in
      let next = begins_next body k step.0 step.1 in
      ⊎_elim (λ e. subst (λ m. begins body m ≤ begins body (suc k)) (sym e) (omega arith)) (λ lt. let before = begins_rises n k (omega arith) (omega arith) in omega arith) (order n (suc k) low)
    where
      order : (n k : ℕ) → n ≤ k → (n ≡ k) ⊎ (n < k)
      order n k low = search arith

  pub step_inside : (n : ℕ) (step : Step) → IsStep body n step → n < length body
  step_inside n step here = got body n step here
    where
      got : (steps : List Step) (n : ℕ) (step : Step) → IsStep steps n step → n < length steps
      got [] n step here = cc
      got (first ∷ steps) zero step here = omega arith
      got (first ∷ steps) (suc n) step here = let below = got steps n step here in omega arith

  -- of two places the later one's step isn't earlier
  pub steps_in_order : (i j : ℕ) (s : Stands i) (t : Stands j) → i ≤ j → s.n ≤ t.n
  steps_in_order i j s t low = ⊎_elim (λ le. le) (λ gt. absurd (
      let next = begins_next body t.n t.step t.here in
      let rises = begins_rises (suc t.n) s.n gt (let inside = step_inside s.n s.step s.here in omega arith) in
      let a = s.place in let b = t.place in let w = t.within in omega arith)) (order s.n t.n)
    where
      order : (n k : ℕ) → (n ≤ k) ⊎ (k < n)
      order n k = search arith
