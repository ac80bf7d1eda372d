-- What tests of numbers say, and what else is often wanted of numbers.
use Rattle.std.specs.Prelude.{◌==◌, nat_lt, nat_le, cond, Bool, true, false, ◌⊎◌}
use Rattle.std.proofs.Common.{◌≡◌, ◌≢◌, ℕ, zero, suc, ◌+◌, ◌<◌, ◌≤◌, refl, inl, inr, arith}
use Rattle.std.proofs.lemmas.Bool.Decides.{nat_tests}

pub tested_equal : (a b : ℕ) → (a == b) ≡ true → a ≡ b
tested_equal a b e = grind (arith, nat_tests)

pub equal_tested : (a b : ℕ) → a ≡ b → (a == b) ≡ true
equal_tested a b e = grind arith

pub self_tested : (a : ℕ) → (a == a) ≡ true
self_tested a = grind arith

pub other_tested : (a b : ℕ) → a ≢ b → (a == b) ≡ false
other_tested a b ne = grind arith

pub tested_other : (a b : ℕ) → (a == b) ≡ false → a ≢ b
tested_other a b e = grind (arith, nat_tests)

pub tested_less : (a b : ℕ) → nat_lt a b ≡ true → a < b
tested_less a b e = grind arith

pub less_tested : (a b : ℕ) → a < b → nat_lt a b ≡ true
less_tested a b h = grind arith

pub tested_not_less : (a b : ℕ) → nat_lt a b ≡ false → b ≤ a
tested_not_less a b e = grind arith

pub not_less_tested : (a b : ℕ) → b ≤ a → nat_lt a b ≡ false
not_less_tested a b h = grind arith

pub tested_most : (a b : ℕ) → nat_le a b ≡ true → a ≤ b
tested_most a b e = grind (arith, nat_tests)

pub tested_some : (a : ℕ) → (a == 0) ≡ false → 0 < a
tested_some a e = grind arith

pub suc_equal : (a b : ℕ) → suc a ≡ suc b → a ≡ b
suc_equal a b e = omega (arith, e)

pub zero_not_suc : (a : ℕ) → 0 ≡ suc a → ⊥
zero_not_suc a e = omega (arith, e)

pub from_zero : (a : ℕ) → 0 + a ≡ a
from_zero a = omega arith

pub zero_or_some : (a : ℕ) → (a ≡ 0) ⊎ (a ≢ 0)
zero_or_some zero = inl refl
zero_or_some (suc a) = inr (λ e. let z = e in omega arith)

pub last_or_before : (a b : ℕ) → a < suc b → (a < b) ⊎ (a ≡ b)
last_or_before a b h = search arith

pub later_edge : (a b : ℕ) → b < a → cond (nat_lt a (suc b)) (suc b) a ≡ a
later_edge a b h = grind arith

pub one_at_most : (b : Bool) → cond b 1 0 ≤ 1
one_at_most true = omega arith
one_at_most false = omega arith

pub chosen_here : (a b c : ℕ) → cond (a == a) b c ≡ b
chosen_here a b c = grind (arith, nat_tests)
