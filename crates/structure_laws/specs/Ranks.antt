-- Slots along which ranks fall.
use Rattle.std.specs.Prelude.{◌≡◌, ◌&&◌, ℕ, zero, suc, ◌+◌, ◌<◌, nat_lt, cond, Bool, true}

-- how many numbers below this one pass a test
abbrev pub passing : (ℕ → Bool) → ℕ → ℕ
passing test zero = 0
passing test (suc n) = passing test n + cond (test n) 1 0

module _ (on : ℕ → Bool) (rank : ℕ → ℕ) (slots : ℕ) where
  -- how many of the slots that count rank below this one
  abbrev pub lower : ℕ → ℕ
  lower t = passing (λ u. on u && nat_lt (rank u) (rank t)) slots

-- fewer slots rank below one that counts than there are slots, and fewer below one that ranks lower: so a walk
-- along which ranks fall comes to its end
pub record FewRankLower (on : ℕ → Bool) (rank : ℕ → ℕ) (slots : ℕ) : Type 0 where
  pub few : (t : ℕ) → on t ≡ true → lower on rank slots t < slots
  pub falls : (s t : ℕ) → on t ≡ true → rank t < rank s → lower on rank slots t < lower on rank slots s

abbrev pub RanksFall : Type 0
RanksFall = (on : ℕ → Bool) (rank : ℕ → ℕ) (slots : ℕ) → ((t : ℕ) → on t ≡ true → t < slots)
    → FewRankLower on rank slots
