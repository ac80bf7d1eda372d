-- How often a number stands in a list that changes.
use Rattle.std.proofs.Common.{◌≡◌, ℕ, ◌+◌, cond, List, [], ◌∷◌, ◌++◌, refl, arith}
use Rattle.std.specs.Prelude.{◌==◌, Bool}
use Rattle.std.specs.List.{filter}
use mathlib.Core.Logic.{dite}
use native.Mathlib.Decide.{ℕ_discrete}
use Rattle.epoch_core.specs.Moves.{is_old}
use Rattle.epoch_core.specs.Lists.{Entry, times, times_retired, without, old_slots, young}

pub times-append : (s : ℕ) (xs ys : List ℕ) → times s (xs ++ ys) ≡ times s xs + times s ys
times-append s [] ys = grind arith
times-append s (x ∷ xs) ys = let rest = times-append s xs ys in grind arith

pub times_retired-append : (s y : ℕ) (xs ys : List Entry) → times_retired s y (xs ++ ys) ≡ times_retired s y xs + times_retired s y ys
times_retired-append s y [] ys = grind arith
times_retired-append s y (x ∷ xs) ys = let rest = times_retired-append s y xs ys in grind arith

pub times-without : (s x : ℕ) (xs : List ℕ) → times s (without xs x) ≡ cond (s == x) 0 (times s xs)
times-without s x [] = grind arith
times-without s x (z ∷ xs) = let rest = times-without s x xs in grind arith

pub times_retired-young : (s y e : ℕ) (xs : List Entry) → times_retired s y (young e xs) ≡ cond (is_old y e) 0 (times_retired s y xs)
times_retired-young s y e [] = grind arith
times_retired-young s y e (x ∷ xs) = let rest = times_retired-young s y e xs in grind arith

-- a slot that isn't in limbo at all
pub times-old_none : (s e : ℕ) (xs : List Entry) → ((y : ℕ) → times_retired s y xs ≡ 0) → times s (old_slots e xs) ≡ 0
times-old_none s e [] none = refl
times-old_none s e (x ∷ xs) none =
    let here = none x.epoch in
    let rest = times-old_none s e xs (λ y. let h = none y in grind arith) in grind arith

-- a slot that is in limbo once, with this epoch
pub times-old_one : (s y0 e : ℕ) (xs : List Entry) → ((y : ℕ) → times_retired s y xs ≡ cond (y0 == y) 1 0) → times s (old_slots e xs) ≡ cond (is_old y0 e) 1 0
times-old_one s y0 e [] one = let here = one y0 in grind arith
times-old_one s y0 e (x ∷ xs) one =
    dite (ℕ_discrete x.slot s)
    (λ same. let here = one x.epoch in
    let rest = times-old_none s e xs (λ y. let h = one y in grind arith) in grind arith)
    (λ other. let rest = times-old_one s y0 e xs (λ y. let h = one y in grind arith) in grind arith)

-- of a list that is filtered by a test
pub times-filter : (s : ℕ) (test : ℕ → Bool) (xs : List ℕ) → times s (filter test xs) ≡ cond (test s) (times s xs) 0
times-filter s test [] = grind arith
times-filter s test (x ∷ xs) = let rest = times-filter s test xs in grind arith
