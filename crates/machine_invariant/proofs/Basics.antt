-- Tests on truth values and numbers.
use Rattle.std.specs.Prelude.{◌&&◌, ◌==◌, Bool, true, false, nat_lt}
use Rattle.std.proofs.Common.{◌≡◌, ℕ, ◌<◌, refl, arith}
use Rattle.std.proofs.lemmas.Bool.Decides.{nat_tests}

pub not_both : {A : Type 0} {b : Bool} → b ≡ true → b ≡ false → A
not_both e e' = absurd (cc)

pub by_bool : (b : Bool) → (b ≡ true → ⊥) → b ≡ false
by_bool true never = absurd (never refl)
by_bool false never = refl

-- what a conjunction says, and what says it
pub both : (a b : Bool) → (a && b) ≡ true → (a ≡ true) × (b ≡ true)
both true b e = (refl, e)
both false b e = absurd (let x = e in cc)

pub both_hold : (a b : Bool) → a ≡ true → b ≡ true → (a && b) ≡ true
both_hold true b one two = two
both_hold false b one two = absurd (cc)

-- what the tests on numbers say
pub below_test : (a b : ℕ) → nat_lt a b ≡ true → a < b
below_test a b e = grind (arith, nat_tests)

pub same_test : (a b : ℕ) → (a == b) ≡ true → a ≡ b
same_test a b e = grind (arith, nat_tests)
