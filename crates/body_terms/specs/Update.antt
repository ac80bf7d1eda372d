-- A function changed at one argument.
use Rattle.std.specs.Prelude.{ℕ, ◌==◌, cond}

-- f, but for this value at k
abbrev pub upd : {A : Type 0} → (ℕ → A) → ℕ → A → ℕ → A
upd f k value i = cond (i == k) value (f i)
