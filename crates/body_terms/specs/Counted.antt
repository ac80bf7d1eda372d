-- A count of 64 bits that goes on.
use Rattle.std.specs.Prelude.{ℕ, zero, suc, ◌+◌, ◌-◌, ◌^◌, min}

-- a count after so many more, each of which adds one up to the last number of 64 bits
abbrev pub counted_on : ℕ → ℕ → ℕ
counted_on count zero = count
counted_on count (suc n) = min (counted_on count n + 1) (2 ^ 64 - 1)
