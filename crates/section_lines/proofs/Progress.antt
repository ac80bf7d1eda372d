-- How far a section has come in its body.
use Rattle.std.proofs.Common.{◌≡◌, ℕ, zero, suc, ◌+◌, ◌-◌, ◌<◌, ◌≤◌, List, [], ◌∷◌, ◌++◌, length, take, refl, sym, ap, ◌∙◌, subst, arith, ⊎_elim}
use Rattle.std.specs.Prelude.{◌⊎◌, nat_le, if◌then◌else◌}
use Rattle.std.proofs.lemmas.Bool.Decides.{nat_tests}
use Rattle.structure_laws.specs.body_terms.specs.Update.{upd}
use Rattle.structure_laws.specs.body_terms.specs.declared.step.Step.{Step}
use Rattle.structure_laws.specs.body_terms.specs.declared.step.Step.TheVariants.{Load, Want, Fresh, Take, Make, Stamp, Store, Retire, Answer}
use Rattle.structure_laws.specs.body_terms.specs.Line.{Registers, no_registers, registers_after, registers_through, registers_before, micro_count, log_words, begins}
use Rattle.structure_laws.specs.body_terms.specs.Shape.{IsStep}
use Rattle.structure_laws.specs.body_terms.proofs.LineLemmas.{take_next, begins_next, registers_before_next, count_after}
use Rattle.structure_laws.specs.body_terms.proofs.RegisterLemmas.{step_at}
use Rattle.section_lines.proofs.Places.{step_inside}
use Rattle.section_lines.specs.Progress.{passed_steps, words_after, words_through, words_of}

-- each step has an atomic step
pub some_micros : (step : Step) → 0 < micro_count step
some_micros (Load place into) = omega arith
some_micros (Want reg word) = omega arith
some_micros (Fresh reg) = omega arith
some_micros (Take place word) = omega arith
some_micros (Make init into) = omega arith
some_micros Stamp = omega arith
some_micros (Store reg value) = omega arith
some_micros (Retire slot) = omega arith
some_micros (Answer reply) = omega arith

begins_cons : (first : Step) (steps : List Step) (n : ℕ) → n ≤ length steps → begins (first ∷ steps) (suc n) ≡ micro_count first + begins steps n
begins_cons first steps zero within = begins_next (first ∷ steps) 0 first refl ∙ (omega arith)
begins_cons first steps (suc n) within =
    let step = step_at steps n (omega arith) in
    let before = begins_cons first steps n (omega arith) in
    let next = begins_next (first ∷ steps) (suc n) step.0 step.1 in
    let next' = begins_next steps n step.0 step.1 in omega arith

pub not_yet : (c e x : ℕ) → e < c → (if nat_le c e then suc x else 0) ≡ 0
not_yet c e x low = grind (arith, nat_tests)

one_passed : (c e x : ℕ) → c ≤ e → (if nat_le c e then suc x else 0) ≡ suc x
one_passed c e x low = grind (arith, nat_tests)

-- at a place within step n, n steps are passed
pub passed_at : (body : List Step) (n at : ℕ) (step : Step) → IsStep body n step → at < micro_count step → passed_steps body (begins body n + at) ≡ n
passed_at [] n at step here within = cc
passed_at (first ∷ steps) zero at step here within =
    let same : first ≡ step = cc in let short = ap micro_count same in
    not_yet (micro_count first) (0 + at) (passed_steps steps (0 + at - micro_count first)) (omega arith)
passed_at (first ∷ steps) (suc n) at step here within =
    let inside = step_inside steps n step here in
    let begin = begins_cons first steps n (omega arith) in
    let rest : begins (first ∷ steps) (suc n) + at - micro_count first ≡ begins steps n + at = omega arith in
    one_passed (micro_count first) (begins (first ∷ steps) (suc n) + at) (passed_steps steps (begins (first ∷ steps) (suc n) + at - micro_count first)) (omega arith)
    ∙ ap suc (ap (passed_steps steps) rest ∙ passed_at steps n at step here within)

-- past the line every step is passed
pub passed_all : (body : List Step) (edge : ℕ) → begins body (length body) ≤ edge → passed_steps body edge ≡ length body
passed_all [] edge past = refl
passed_all (first ∷ steps) edge past =
    let whole = begins_cons first steps (length steps) (omega arith) in
    one_passed (micro_count first) edge (passed_steps steps (edge - micro_count first)) (omega arith)
    ∙ ap suc (passed_all steps (edge - micro_count first) (omega arith))

-- past the last atomic step of step n, one more is passed
pub passed_next : (body : List Step) (n : ℕ) (step : Step) → IsStep body n step → passed_steps body (begins body n + micro_count step) ≡ suc n
passed_next body n step here =
    let next = begins_next body n step here in
    ⊎_elim (λ within. let after = step_at body (suc n) within in
    ap (passed_steps body) (let e : begins body n + micro_count step ≡ begins body (suc n) + 0 = omega arith in e) ∙ passed_at body (suc n) 0 after.0 after.1 (some_micros after.0))
    (λ last. let all : suc n ≡ length body = (let inside = step_inside body n step here in omega arith) in
    passed_all body (begins body n + micro_count step) (subst (λ k. begins body k ≤ begins body n + micro_count step) all (omega arith)) ∙ sym all)
    (order (suc n) (length body))
  where
    order : (k n : ℕ) → (k < n) ⊎ (n ≤ k)
    order k n = search arith

-- the words of the registers go through one part after the other
words_through-append : (log : ℕ → ℕ) (count : ℕ) (reg : ℕ → ℕ) (front : List Step) (step : Step) (registers : Registers) → registers.count ≡ count
    → words_through log count reg (front ++ step ∷ []) ≡ words_after log (registers_through registers front).count (words_through log count reg front) step
words_through-append log count reg [] step registers e = ap (λ k. words_after log k reg step) (sym e)
words_through-append log count reg (first ∷ front) step registers e =
    words_through-append log (count + log_words first) (words_after log count reg first) front step (registers_after registers first) (count_after registers first ∙ ap (λ k. k + log_words first) e)

-- the registers' words after one more step
pub words_next : (log : ℕ → ℕ) (body : List Step) (n : ℕ) (step : Step) → IsStep body n step → words_of log body (suc n) ≡ words_after log (registers_before body n).count (words_of log body n) step
words_next log body n step here =
    ap (words_through log 0 (λ r. 0)) (take_next body n step here) ∙ words_through-append log 0 (λ r. 0) (take n body) step no_registers refl

-- a word that is committed later plays no part
pub words_kept : (log : ℕ → ℕ) (body : List Step) (n k word : ℕ) → n ≤ length body → (registers_before body n).count ≤ k → words_of (upd log k word) body n ≡ words_of log body n
words_kept log body zero k word within late = refl
words_kept log body (suc n) k word within late =
    let step = step_at body n (omega arith) in
    let g = registers_before body n in
    let counts = ap (λ (h : Registers). h.count) (registers_before_next body n step.0 step.1) ∙ count_after g step.0 in
    words_next (upd log k word) body n step.0 step.1
    ∙ (ap (λ reg. words_after (upd log k word) g.count reg step.0) (words_kept log body n k word (omega arith) (omega arith))
    ∙ (same_after step.0 g.count (words_of log body n) (omega arith) ∙ sym (words_next log body n step.0 step.1)))
  where
    other : (count : ℕ) → count < k → upd log k word count ≡ log count
    other count low = grind (arith, nat_tests)

    same_after : (step : Step) (count : ℕ) (reg : ℕ → ℕ) → count + log_words step ≤ k → words_after (upd log k word) count reg step ≡ words_after log count reg step
    same_after (Load place into) count reg low = ap (λ w. upd reg into w) (other count (omega arith))
    same_after (Make init into) count reg low = ap (λ w. upd reg into w) (other count (omega arith))
    same_after (Want r w) count reg low = refl
    same_after (Fresh r) count reg low = refl
    same_after (Take place w) count reg low = refl
    same_after Stamp count reg low = refl
    same_after (Store r value) count reg low = refl
    same_after (Retire slot) count reg low = refl
    same_after (Answer reply) count reg low = refl
