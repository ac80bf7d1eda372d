-- Sums that differ at one number or at two.
use Rattle.std.proofs.Common.{◌≡◌, ◌≢◌, ℕ, zero, suc, ◌+◌, ◌*◌, ◌<◌, refl, ap, arith}
use mathlib.Core.Logic.{dite}
use native.Mathlib.Decide.{ℕ_discrete}
use Rattle.account_laws.specs.Money.{total}

pub total_same : (n : ℕ) (f g : ℕ → ℕ) → ((i : ℕ) → i < n → g i ≡ f i) → total n g ≡ total n f
total_same zero f g same = refl
total_same (suc n) f g same =
    let rest = total_same n f g (λ i low. same i (omega (arith, low))) in
    let here = same n (omega arith) in omega (arith, rest, here)

pub total_constant : (n k : ℕ) → total n (λ i. k) ≡ n * k
total_constant zero k = grind arith
total_constant (suc n) k = let rest = total_constant n k in grind (arith, rest)

-- below n they differ at one number at most
total_one : (n a : ℕ) (f g : ℕ → ℕ) → a < n → ((i : ℕ) → i < n → i ≢ a → g i ≡ f i) → total n g + f a ≡ total n f + g a
total_one zero a f g low same = absurd (omega (arith, low))
total_one (suc n) a f g low same = dite (ℕ_discrete n a) last
    (λ ne. earlier ne (total_one n a f g (omega (arith, low, ne)) (λ i below. same i (omega (arith, below)))))
  where
    last : n ≡ a → total n g + g n + f a ≡ total n f + f n + g a
    last e =
        let rest = total_same n f g (λ i below. same i (omega (arith, below)) (λ is. omega (arith, below, is, e))) in
        let old = ap f e in
        let new = ap g e in omega (arith, rest, old, new)

    earlier : n ≢ a → total n g + f a ≡ total n f + g a → total n g + g n + f a ≡ total n f + f n + g a
    earlier ne rest = let here = same n (omega arith) ne in omega (arith, rest, here)

-- where two numbers give together what they gave, and the others what they gave, the sum stays
pub total_two : (n a b : ℕ) (f g : ℕ → ℕ) → a < b → b < n → ((i : ℕ) → i < n → i ≢ a → i ≢ b → g i ≡ f i) → g a + g b ≡ f a + f b
    → total n g ≡ total n f
total_two zero a b f g order low same both = absurd (omega (arith, low))
total_two (suc n) a b f g order low same both = dite (ℕ_discrete n b) last
    (λ ne. earlier ne (total_two n a b f g order (omega (arith, low, ne)) (λ i below. same i (omega (arith, below))) both))
  where
    last : n ≡ b → total n g + g n ≡ total n f + f n
    last e =
        let rest = total_one n a f g (omega (arith, order, e)) (λ i below ne. same i (omega (arith, below)) ne (λ is. omega (arith, below, is, e))) in
        let old = ap f e in
        let new = ap g e in omega (arith, rest, old, new, both)

    earlier : n ≢ b → total n g ≡ total n f → total n g + g n ≡ total n f + f n
    earlier ne rest = let here = same n (omega arith) (λ is. omega (arith, low, order, is, ne)) ne in omega (arith, rest, here)
