-- A function of two numbers changed at a pair.
use Rattle.std.specs.Prelude.{ℕ, ◌==◌, cond}

-- changed at a pair
abbrev pub upd2 : {A : Type 0} → (ℕ → ℕ → A) → ℕ → ℕ → A → ℕ → ℕ → A
upd2 f r s v i j = cond (i == r) (cond (j == s) v (f i j)) (f i j)
