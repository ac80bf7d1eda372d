-- Bounds on costs, and how many events a run makes.
use Rattle.std.proofs.Common.{◌≡◌, ℕ, ◌+◌, ◌*◌, ◌≤◌, List, [], ◌∷◌, ◌++◌, length, take, drop, refl, ap, arith}
use Rattle.std.specs.Prelude.{sum_by, count_by, cond}
use Rattle.std.proofs.lemmas.List.{take_all, take-append-drop, length-append}
use Rattle.std.proofs.lemmas.List.Sums.{sum_by-cons, sum_by-append, sum_by-take-le}
use Rattle.body_terms.specs.Cost.{step_cost, cost_of, body_words, steps_to}
use Rattle.body_terms.specs.Line.{Registers, no_registers, registers_after, registers_through, log_words, micros, line, line_from, is_event, release_of, releases}
use Rattle.body_terms.specs.Shape.{is_take}
use Rattle.body_terms.specs.declared.micro.Micro.{Micro}
use Rattle.body_terms.specs.declared.micro.Micro.TheVariants as kinds
use Rattle.body_terms.specs.declared.step.Step.{Step}
use Rattle.body_terms.specs.declared.step.Step.TheVariants.{Load, Want, Fresh, Take, Make, Stamp, Store, Retire, Answer}
use Rattle.body_terms.proofs.LineLemmas.{count_after, log_words_le}

-- no step has more than the eleven atomic steps of a Make
pub step_cost_le : (step : Step) → step_cost step ≤ 11
step_cost_le (Load place into) = omega arith
step_cost_le (Want reg word) = omega arith
step_cost_le (Fresh reg) = omega arith
step_cost_le (Take place word) = omega arith
step_cost_le (Make init into) = omega arith
step_cost_le Stamp = omega arith
step_cost_le (Store reg value) = omega arith
step_cost_le (Retire slot) = omega arith
step_cost_le (Answer reply) = omega arith

-- so many steps cost at most eleven times as many atomic ones
pub steps_cost_le : (steps : List Step) → sum_by step_cost steps ≤ 11 * length steps
steps_cost_le [] = omega arith
steps_cost_le (step ∷ steps) = grind (arith, sum_by-cons step_cost step steps, step_cost_le step, steps_cost_le steps)

-- and commit at most twice as many words
pub steps_words_le : (steps : List Step) → sum_by log_words steps ≤ 2 * length steps
steps_words_le [] = omega arith
steps_words_le (step ∷ steps) = grind (arith, sum_by-cons log_words step steps, log_words_le step, steps_words_le steps)

words_through : (g : Registers) (steps : List Step) → (registers_through g steps).count ≡ g.count + sum_by log_words steps
words_through g [] = omega arith
words_through g (step ∷ steps) =
    let rest = words_through (registers_after g step) steps in
    let next = count_after g step in
    let all = sum_by-cons log_words step steps in omega (arith, rest, next, all)

-- the words on which a run agrees are those that its steps commit
pub words_in : (body : List Step) → body_words body ≡ sum_by log_words body
words_in body =
    let whole = ap (λ (steps : List Step). (registers_through no_registers steps).count) (take_all (length body) body (omega arith)) in
    let all = words_through no_registers body in omega (arith, whole, all)

-- the events among the atomic steps of a step are its cost
micros_events : (g : Registers) (step : Step) → count_by is_event (micros g step) ≡ step_cost step
micros_events g (Load place into) = refl
micros_events g (Want reg word) = refl
micros_events g (Fresh reg) = refl
micros_events g (Take place word) = refl
micros_events g (Make init into) = refl
micros_events g Stamp = refl
micros_events g (Store reg value) = refl
micros_events g (Retire slot) = refl
micros_events g (Answer reply) = refl

-- and a Take has one lock to release
micros_releases : (g : Registers) (step : Step) → length (releases (micros g step)) ≡ cond (is_take step) 1 0
micros_releases g (Load place into) = refl
micros_releases g (Want reg word) = refl
micros_releases g (Fresh reg) = refl
micros_releases g (Take place word) = refl
micros_releases g (Make init into) = refl
micros_releases g Stamp = refl
micros_releases g (Store reg value) = refl
micros_releases g (Retire slot) = refl
micros_releases g (Answer reply) = refl

releases-append : (xs ys : List Micro) → length (releases (xs ++ ys)) ≡ length (releases xs) + length (releases ys)
releases-append [] ys = omega arith
releases-append (m ∷ xs) ys =
    let rest = releases-append xs ys in
    let whole = length-append (release_of m) (releases (xs ++ ys)) in
    let part = length-append (release_of m) (releases xs) in omega arith

line_events : (g : Registers) (steps : List Step) → count_by is_event (line_from g steps) ≡ sum_by step_cost steps
line_events g [] = refl
line_events g (step ∷ steps) =
    let both = sum_by-append (λ m. cond (is_event m) 1 0) (micros g step) (line_from (registers_after g step) steps) in
    let first = micros_events g step in
    let rest = line_events (registers_after g step) steps in
    let all = sum_by-cons step_cost step steps in omega arith

line_releases : (g : Registers) (steps : List Step) → length (releases (line_from g steps)) ≡ count_by is_take steps
line_releases g [] = refl
line_releases g (step ∷ steps) =
    let both = releases-append (micros g step) (line_from (registers_after g step) steps) in
    let first = micros_releases g step in
    let rest = line_releases (registers_after g step) steps in
    let all = sum_by-cons (λ s. cond (is_take s) 1 0) step steps in omega arith

-- by its line a run makes as many events as it costs
pub whole_run : (body : List Step) (lock word : ℕ) → steps_to body (length (line body)) lock word ≡ cost_of body
whole_run body lock word =
    let all = ap (count_by is_event) (take_all (length (line body)) (line body) (omega arith)) in
    let locks = ap (λ ms. length (releases ms)) (take_all (length (line body)) (line body) (omega arith)) in
    let events = line_events no_registers body in
    let takes = line_releases no_registers body in
    let ends = length-append (releases (take (length (line body)) (line body))) (kinds.Release lock word ∷ []) in omega arith

-- and one that comes to a place of the line makes no more
pub part_run : (body : List Step) (at lock word : ℕ) → steps_to body at lock word ≤ cost_of body
part_run body at lock word =
    let some = sum_by-take-le (λ m. cond (is_event m) 1 0) (line body) at in
    let parts = releases-append (take at (line body)) (drop at (line body)) in
    let split = ap (λ ms. length (releases ms)) (take-append-drop at (line body)) in
    let events = line_events no_registers body in
    let takes = line_releases no_registers body in
    let ends = length-append (releases (take at (line body))) (kinds.Release lock word ∷ []) in omega arith
