-- Counts of 64 bits go on.
use Rattle.std.proofs.Common.{◌≡◌, ℕ, zero, suc, ◌+◌, ◌-◌, ◌^◌, ◌≤◌, min, ap, ◌∙◌, arith}
use Rattle.body_terms.specs.Counted.{counted_on}

-- a count of 64 bits after so many more
pub counts : (count n : ℕ) → count ≤ 2 ^ 64 - 1 → counted_on count n ≡ min (count + n) (2 ^ 64 - 1)
counts count zero low = omega (arith, low)
counts count (suc n) low = ap (λ k. min (k + 1) (2 ^ 64 - 1)) (counts count n low) ∙ omega (arith, low)
