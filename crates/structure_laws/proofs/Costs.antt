-- What a run of a body costs at most, by its shape and its length.
use Rattle.std.specs.Prelude.{sum_by, count_by, cond}
use Rattle.std.proofs.Common.{◌+◌, ◌*◌, ◌≤◌, List, [], ◌∷◌, length, arith}
use Rattle.std.proofs.lemmas.List.Sums.{sum_by-cons}
use Rattle.body_terms.specs.Cost.{step_cost, cost_of, body_blocks, run_cost}
use Rattle.body_terms.specs.Shape.{is_take, is_make, is_stamp, is_answer, IsShaped}
use Rattle.body_terms.specs.declared.step.Step.{Step}
use Rattle.body_terms.specs.declared.step.Step.TheVariants.{Load, Want, Fresh, Take, Make, Stamp, Store, Retire, Answer}
use Rattle.body_terms.proofs.RegisterLemmas.{count_le}
use Rattle.structure_laws.specs.Shape.{most_of_run}

-- a step, with the lock that it leaves to be released, makes at most six events but for a Make; a Stamp makes three fewer, an Answer five
step_weighs : (step : Step) → step_cost step + cond (is_take step) 1 0 + 3 * cond (is_stamp step) 1 0 + 5 * cond (is_answer step) 1 0
    ≤ 6 + 5 * cond (is_make step) 1 0
step_weighs (Load place into) = omega arith
step_weighs (Want reg word) = omega arith
step_weighs (Fresh reg) = omega arith
step_weighs (Take place word) = omega arith
step_weighs (Make init into) = omega arith
step_weighs Stamp = omega arith
step_weighs (Store reg value) = omega arith
step_weighs (Retire slot) = omega arith
step_weighs (Answer reply) = omega arith

steps_weigh : (steps : List Step) → sum_by step_cost steps + count_by is_take steps + 3 * count_by is_stamp steps + 5 * count_by is_answer steps
    ≤ 6 * length steps + 5 * count_by is_make steps
steps_weigh [] = omega arith
steps_weigh (step ∷ steps) =
    let costs = sum_by-cons step_cost step steps in
    let takes = sum_by-cons (λ s. cond (is_take s) 1 0) step steps in
    let stamps = sum_by-cons (λ s. cond (is_stamp s) 1 0) step steps in
    let answers = sum_by-cons (λ s. cond (is_answer s) 1 0) step steps in
    let makes = sum_by-cons (λ s. cond (is_make s) 1 0) step steps in
    let here = step_weighs step in
    let rest = steps_weigh steps in omega arith

shaped_cost : (body : List Step) → IsShaped body → cost_of body ≤ 6 * length body + 17
shaped_cost body whole =
    let weigh = steps_weigh body in
    let makes = whole.makes in
    let stamps = whole.stamps in
    let answers = whole.answers in omega (arith, weigh, makes, stamps, answers)

-- each step commits at most two words, so a body of so few steps needs at most six blocks
pub brief_cost : (body : List Step) → IsShaped body → length body ≤ 23 → run_cost body ≤ most_of_run
brief_cost body whole few =
    let line = shaped_cost body whole in
    let words = count_le body (length body) (omega arith) in
    let blocks : body_blocks body ≤ 6 = omega (arith, words, few) in omega (arith, line, blocks, few)
