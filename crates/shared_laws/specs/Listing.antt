-- The pairs of the keys below a bound, in order of key, by what each key has.
use Rattle.std.specs.Prelude.{ℕ, zero, suc, List, [], ◌∷◌, Option, None, Some}

-- a key's pair, where it has one, before these
abbrev pub with_pair : ℕ → Option ℕ → List (ℕ × ℕ) → List (ℕ × ℕ)
with_pair key None pairs = pairs
with_pair key (Some value) pairs = (key, value) ∷ pairs

-- the pairs of n keys from this one on
abbrev pub listed : (ℕ → Option ℕ) → ℕ → ℕ → List (ℕ × ℕ)
listed has key zero = []
listed has key (suc n) = with_pair key (has key) (listed has (suc key) n)
