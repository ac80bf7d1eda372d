-- A body commits at most sixty words: each of its steps commits at most two, but its Stamp and its Answer none.
use Rattle.std.specs.Prelude.{◌*◌, cond, count_by}
use Rattle.std.proofs.Common.{◌≡◌, ℕ, ◌+◌, ◌≤◌, List, [], ◌∷◌, length, sym, ap, ◌∙◌, arith}
use Rattle.std.proofs.lemmas.List.Sums.{sum_by-cons, sum_by-take-le}
use Rattle.machine_states.specs.body_terms.specs.declared.step.Step.{Step}
use Rattle.machine_states.specs.body_terms.specs.declared.step.Step.TheVariants.{Load, Want, Fresh, Take, Make, Stamp, Store, Retire, Answer}
use Rattle.machine_states.specs.body_terms.specs.declared.micro.Micro.{Micro}
use Rattle.machine_states.specs.body_terms.specs.Line.{Registers, no_registers, registers_after, registers_through, registers_before, line, is_commit, committed, log_words}
use Rattle.machine_states.specs.body_terms.specs.Shape.{IsShaped, is_stamp, is_answer}
use Rattle.machine_states.specs.body_terms.proofs.LineLemmas.{count_after, take_all}
use Rattle.agreement_core.specs.section_lines.proofs.Counts.{counted_to}

step_few : (step : Step) → log_words step + 2 * (cond {A = ℕ} (is_stamp step) 1 0 + cond {A = ℕ} (is_answer step) 1 0) ≤ 2
step_few (Load place into) = omega arith
step_few (Want reg word) = omega arith
step_few (Fresh reg) = omega arith
step_few (Take place word) = omega arith
step_few (Make init into) = omega arith
step_few Stamp = omega arith
step_few (Store reg value) = omega arith
step_few (Retire slot) = omega arith
step_few (Answer reply) = omega arith

through_few : (g : Registers) (steps : List Step) → (registers_through g steps).count + 2 * (count_by is_stamp steps + count_by is_answer steps) ≤ g.count + 2 * length steps
through_few g [] = omega arith
through_few g (step ∷ steps) =
    let rest = through_few (registers_after g step) steps in
    let next = count_after g step in
    let here = step_few step in
    let stamps = sum_by-cons (λ (s : Step). cond {A = ℕ} (is_stamp s) 1 0) step steps in
    let answers = sum_by-cons (λ (s : Step). cond {A = ℕ} (is_answer s) 1 0) step steps in
    omega (arith, rest, next, here, stamps, answers)

pub words_few : (body : List Step) → IsShaped body → (registers_before body (length body)).count ≤ 60
words_few body shaped =
    let most = through_few no_registers body in
    let short = shaped.short in
    let stamps = shaped.stamps in
    let answers = shaped.answers in omega (arith, same, most, short, stamps, answers)
  where
    all : length body ≤ length body
    all = omega arith

    same : (registers_before body (length body)).count ≡ (registers_through no_registers body).count
    same = ap (λ (steps : List Step). (registers_through no_registers steps).count) (take_all body (length body) all)

-- so each of its commits goes to one of the first sixty words
pub body_few : (body : List Step) → IsShaped body → (i : ℕ) → committed (line body) i ≤ 60
body_few body shaped i =
    let few : committed (line body) i ≤ count_by is_commit (line body) = sum_by-take-le (λ (micro : Micro). cond {A = ℕ} (is_commit micro) 1 0) (line body) i in
    let most = words_few body shaped in omega (arith, few, whole, most)
  where
    all : length body ≤ length body
    all = omega arith

    whole : count_by is_commit (line body) ≡ (registers_before body (length body)).count
    whole = ap (λ (steps : List Step). count_by is_commit (line steps)) (sym (take_all body (length body) all)) ∙ counted_to body (length body) all
