-- Functions changed at one number, at a pair of numbers, or in a row.
use Rattle.std.specs.Prelude.{ℕ, ◌==◌, cond}

-- changed at one number
abbrev pub upd : {A : Type 0} → (ℕ → A) → ℕ → A → ℕ → A
upd f k v i = cond (i == k) v (f i)

-- changed at a pair
abbrev pub upd2 : {A : Type 0} → (ℕ → ℕ → A) → ℕ → ℕ → A → ℕ → ℕ → A
upd2 f r s v i j = cond (i == r) (cond (j == s) v (f i j)) (f i j)

-- changed in one row
abbrev pub upd_row : {A : Type 0} → (ℕ → ℕ → A) → ℕ → (ℕ → A) → ℕ → ℕ → A
upd_row f r row i j = cond (i == r) (row j) (f i j)
