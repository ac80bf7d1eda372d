-- The accounts of a transfer, and that two balances have together after it what they had before.
use Rattle.std.proofs.Common.{◌≡◌, ◌≢◌, ℕ, ◌+◌, ◌<◌, Bool, true, false, cond, refl, arith}
use Rattle.std.specs.Prelude.{◌-◌, ◌^◌, nat_lt}
use Rattle.agreement_core.specs.body_terms.specs.Word.{value_of}
use Rattle.agreement_core.specs.section_lines.specs.small_lemmas.proofs.Numbers.{tested_not_less, tested_less as lt_of}
use Rattle.agreement_core.specs.section_lines.specs.structure_laws.proofs.Limits.{value-small}
use Rattle.accounts.specs.Moves.{lower_of, upper_of, moved, lower_after, upper_after}
use Rattle.accounts.specs.declared.transfer.Transfer.{Transfer}

sum_by : (b : Bool) (amount x y : ℕ) → x < 2 ^ 32 → y < 2 ^ 32
    → value_of (cond b (x - moved amount x y) (x + moved amount y x)) + value_of (cond b (y + moved amount x y) (y - moved amount y x)) ≡ x + y
sum_by true amount x y small small' =
    let less = value-small (x - moved amount x y) (omega arith) in
    let more = value-small (y + moved amount x y) (omega arith) in omega (arith, less, more)
sum_by false amount x y small small' =
    let more = value-small (x + moved amount y x) (omega arith) in
    let less = value-small (y - moved amount y x) (omega arith) in omega (arith, less, more)

pub sum_after : (t : Transfer) (x y : ℕ) → x < 2 ^ 32 → y < 2 ^ 32 → value_of (lower_after t x y) + value_of (upper_after t x y) ≡ x + y
sum_after t x y small small' = sum_by (nat_lt t.from t.to) t.amount x y small small'

-- of two different accounts the lower one is below the upper one, and both are among those that there are
pub in_order : (t : Transfer) → t.from ≢ t.to → lower_of t < upper_of t
in_order t ne = by (nat_lt t.from t.to) refl
  where
    by : (b : Bool) → nat_lt t.from t.to ≡ b → cond b t.from t.to < cond b t.to t.from
    by true e = lt_of t.from t.to e
    by false e = let over = tested_not_less t.from t.to e in omega (arith, over, ne)

pub below : (accounts : ℕ) (t : Transfer) → t.from < accounts → t.to < accounts → upper_of t < accounts
below accounts t low low' = by (nat_lt t.from t.to)
  where
    by : (b : Bool) → cond b t.to t.from < accounts
    by true = low'
    by false = low
