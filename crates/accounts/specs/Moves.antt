-- What a transfer does to two balances.
use Rattle.std.specs.Prelude.{ℕ, ◌+◌, ◌-◌, min, cond, nat_lt}
use Rattle.accounts.specs.declared.transfer.Transfer.{Transfer}

-- the lower one of the two accounts, and the upper one
abbrev pub lower_of : Transfer → ℕ
lower_of t = cond (nat_lt t.from t.to) t.from t.to

abbrev pub upper_of : Transfer → ℕ
upper_of t = cond (nat_lt t.from t.to) t.to t.from

-- as much of the amount as the one account has and the other has room for
abbrev pub moved : (amount source target : ℕ) → ℕ
moved amount source target = min (min amount source) (4294967295 - target)

-- the lower and the upper balance afterwards, by those before
abbrev pub lower_after : Transfer → ℕ → ℕ → ℕ
lower_after t lower upper =
    cond (nat_lt t.from t.to) (lower - moved t.amount lower upper) (lower + moved t.amount upper lower)

abbrev pub upper_after : Transfer → ℕ → ℕ → ℕ
upper_after t lower upper =
    cond (nat_lt t.from t.to) (upper + moved t.amount lower upper) (upper - moved t.amount upper lower)
