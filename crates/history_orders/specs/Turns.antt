-- What orders the requests that have a stamp.
use Rattle.std.specs.Prelude.{ℕ, ◌==◌, ◌<◌, ◌%◌, ◌≡◌, ◌⊎◌, Bool, ◌&&◌, ◌||◌, nat_lt}

-- a request's turn: its stamp, and its number
abbrev pub Turn : Type 0
Turn = ℕ × ℕ

-- by the stamp, and at equal stamps by the number
abbrev pub comes_before : Turn → Turn → Bool
comes_before a b = nat_lt a.0 b.0 || (a.0 == b.0 && nat_lt a.1 b.1)

-- the stamp that comes later along a trace is greater, or equal where both are odd
abbrev pub Follows : ℕ → ℕ → Type 0
Follows s t = (s < t) ⊎ ((s ≡ t) × (s % 2 ≡ 1))
