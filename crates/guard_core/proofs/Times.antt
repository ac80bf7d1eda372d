-- How often a number stands in a list that changes.
use Rattle.std.proofs.Common.{◌≡◌, ℕ, zero, suc, ◌+◌, ◌<◌, ◌≤◌, Bool, cond, List, [], ◌∷◌, ◌++◌, refl, arith}
use Rattle.std.specs.Prelude.{◌==◌}
use Rattle.std.specs.List.{filter}
use mathlib.Core.Logic.{dite}
use native.Mathlib.Decide.{ℕ_discrete}
use Rattle.guard_core.specs.Update.{times}
use Rattle.guard_core.specs.Lists.{Entry, times_under, without, blocks_under, not_under, all_under, below}

pub times-filter : (x : ℕ) (test : ℕ → Bool) (xs : List ℕ) → times x (filter test xs) ≡ cond (test x) (times x xs) 0
times-filter x test [] = grind arith
times-filter x test (z ∷ xs) = let rest = times-filter x test xs in grind arith

pub times-without : (x y : ℕ) (xs : List ℕ) → times x (without xs y) ≡ cond (x == y) 0 (times x xs)
times-without x y [] = grind arith
times-without x y (z ∷ xs) = let rest = times-without x y xs in grind arith

pub times_under-append : (b d : ℕ) (xs ys : List Entry)
    → times_under b d (xs ++ ys) ≡ times_under b d xs + times_under b d ys
times_under-append b d [] ys = grind arith
times_under-append b d (x ∷ xs) ys = let rest = times_under-append b d xs ys in grind arith

pub times_under-not : (b d : ℕ) (test : ℕ → Bool) (xs : List Entry)
    → times_under b d (not_under test xs) ≡ cond (test d) 0 (times_under b d xs)
times_under-not b d test [] = grind arith
times_under-not b d test (x ∷ xs) = let rest = times_under-not b d test xs in grind arith

pub times_under-all : (b d e : ℕ) (xs : List ℕ) → times_under b e (all_under d xs) ≡ cond (d == e) (times b xs) 0
times_under-all b d e [] = grind arith
times_under-all b d e (x ∷ xs) = let rest = times_under-all b d e xs in grind arith

-- a block that lies under nothing
pub times-under_none : (b : ℕ) (test : ℕ → Bool) (xs : List Entry) → ((d : ℕ) → times_under b d xs ≡ 0)
    → times b (blocks_under test xs) ≡ 0
times-under_none b test [] none = refl
times-under_none b test (x ∷ xs) none =
    let here = none x.descriptor in
    let rest = times-under_none b test xs (λ d. let h = none d in grind arith) in grind arith

-- a block that lies under one descriptor, once
pub times-under_one : (b e : ℕ) (test : ℕ → Bool) (xs : List Entry) → ((d : ℕ) → times_under b d xs ≡ cond (e == d) 1 0)
    → times b (blocks_under test xs) ≡ cond (test e) 1 0
times-under_one b e test [] one = let here = one e in grind arith
times-under_one b e test (x ∷ xs) one =
    dite (ℕ_discrete x.block b)
    (λ same. let here = one x.descriptor in
    let rest = times-under_none b test xs (λ d. let h = one d in grind arith) in grind arith)
    (λ other. let rest = times-under_one b e test xs (λ d. let h = one d in grind arith) in grind arith)

pub times-above : (x n : ℕ) → n ≤ x → times x (below n) ≡ 0
times-above x zero le = grind arith
times-above x (suc n) le = let rest = times-above x n (omega arith) in grind arith

pub times-below : (x n : ℕ) → x < n → times x (below n) ≡ 1
times-below x zero lt = absurd (omega arith)
times-below x (suc n) lt =
    dite (ℕ_discrete n x)
    (λ same. let rest = times-above x n (omega arith) in grind arith)
    (λ other. let rest = times-below x n (omega arith) in grind arith)
