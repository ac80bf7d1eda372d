-- A list of readings of which none is left, and tests that are passed.
use Rattle.std.proofs.Common.{◌≡◌, Bool, true, false, refl, ℕ, zero, suc, ◌≤◌, List, [], ◌∷◌, length, drop, ◌∙◌, arith}
use Rattle.std.specs.Prelude.{◌==◌, ◌&&◌}
use Rattle.std.proofs.lemmas.Bool.Decides.{nat_tests}
use Rattle.runner_steps.specs.Reads.{are_of}

shift : (a b : ℕ) → (suc a == suc b) ≡ (a == b)
shift a b = grind (arith, nat_tests)

pub ends_at : (xs : List (ℕ × ℕ)) (at : ℕ) → at ≤ length xs → (at == length xs) ≡ are_of [] (drop at xs)
ends_at [] zero low = grind (arith, nat_tests)
ends_at [] (suc at) low = absurd (omega (arith, low))
ends_at (x ∷ xs) zero low = grind (arith, nat_tests)
ends_at (x ∷ xs) (suc at) low = shift at (length xs) ∙ ends_at xs at (omega (arith, low))

pub both_hold : (a b c : Bool) → a ≡ true → b ≡ true → (a && (b && c)) ≡ c
both_hold true true c one two = refl
both_hold true false c one two = absurd (let z = two in cc)
both_hold false b c one two = absurd (let z = one in cc)

-- three tests in one, a further one, and what is tested behind them
pub three_hold : (a b c d e : Bool) → (a && (b && c)) ≡ true → d ≡ true → (a && (b && (c && (d && e)))) ≡ e
three_hold true true true true e one two = refl
three_hold true true true false e one two = absurd (let z = two in cc)
three_hold true true false d e one two = absurd (let z = one in cc)
three_hold true false c d e one two = absurd (let z = one in cc)
three_hold false b c d e one two = absurd (let z = one in cc)
