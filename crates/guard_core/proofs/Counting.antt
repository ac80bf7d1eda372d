-- Lists of numbers, and how many numbers pass a test.
use Rattle.std.proofs.Common.{◌≡◌, ℕ, zero, suc, ◌+◌, ◌≤◌, Bool, true, cond, List, [], ◌∷◌, ◌++◌, length, refl, arith}
use Rattle.std.specs.Prelude.{◌⊎◌, ◌||◌, ◌&&◌, ◌==◌, not, nat_lt}
use Rattle.std.proofs.lemmas.Bool.Decides.{nat_tests}
use Rattle.guard_core.specs.Update.{has, count, times}
use Rattle.guard_core.specs.Sound.{named}

pub has-append : (xs ys : List ℕ) (x : ℕ) → has (xs ++ ys) x ≡ (has xs x || has ys x)
has-append [] ys x = grind arith
has-append (z ∷ xs) ys x = let rest = has-append xs ys x in grind arith

pub named-append : (xs ys : List ℕ) → named (xs ++ ys) ≡ named xs + named ys
named-append [] ys = grind arith
named-append (z ∷ xs) ys = let rest = named-append xs ys in grind arith

pub times-append : (x : ℕ) (xs ys : List ℕ) → times x (xs ++ ys) ≡ times x xs + times x ys
times-append x [] ys = grind arith
times-append x (z ∷ xs) ys = let rest = times-append x xs ys in grind arith

-- what isn't in a list
pub times-none : (x : ℕ) (xs : List ℕ) → (has xs x ≡ true → ⊥) → times x xs ≡ 0
times-none x [] none = refl
times-none x (y ∷ xs) none =
    let rest = times-none x xs (λ more. none (grind arith)) in grind (arith, nat_tests)

-- a test that lets more through
pub count_more : (f g : ℕ → Bool) (n : ℕ) → ((i : ℕ) → f i ≡ true → g i ≡ true) → count f n ≤ count g n
count_more f g zero more = grind arith
count_more f g (suc n) more = let rest = count_more f g n more in let here = more n in grind arith

-- what is none of one number is at most one more
count_but : (f : ℕ → Bool) (x n : ℕ) → count f n ≤ count (λ i. f i && not (i == x)) n + cond (nat_lt x n) 1 0
count_but f x zero = grind arith
count_but f x (suc n) = let rest = count_but f x n in grind (arith, nat_tests)

-- numbers that all stand in a list are at most as many as it is long
pub count_listed : (f : ℕ → Bool) (xs : List ℕ) (n : ℕ) → ((i : ℕ) → f i ≡ true → has xs i ≡ true)
    → count f n ≤ length xs
count_listed f [] zero all = grind arith
count_listed f [] (suc n) all = let rest = count_listed f [] n all in let here = all n in grind arith
count_listed f (x ∷ xs) n all =
    let rest = count_listed (λ i. f i && not (i == x)) xs n (λ i both. let here = all i in grind (arith, nat_tests)) in
    let but = count_but f x n in grind arith

-- tests that let the same through
pub count_same : (f g : ℕ → Bool) (n : ℕ) → ((i : ℕ) → f i ≡ g i) → count f n ≡ count g n
count_same f g zero same = refl
count_same f g (suc n) same = let rest = count_same f g n same in let here = same n in grind arith

-- what passes a test passes one of two others
pub count_either : (f g h : ℕ → Bool) (n : ℕ) → ((i : ℕ) → f i ≡ true → (g i ≡ true) ⊎ (h i ≡ true))
    → count f n ≤ count g n + count h n
count_either f g h zero split = grind arith
count_either f g h (suc n) split = let rest = count_either f g h n split in let here = split n in grind arith
