-- Where a descriptor or a block was, by where it is after it moved.
use Rattle.std.proofs.Common.{◌≡◌, ℕ, suc, true, false, List, inl, inr, arith}
use Rattle.std.specs.Prelude.{◌⊎◌}
use Rattle.std.proofs.lemmas.Bool.Decides.{nat_tests}
use Rattle.guard_core.specs.State.{Location, Free, Live, Limbo}
use Rattle.guard_core.specs.Update.{has}
use Rattle.guard_core.specs.Moves.{retired, given_back, swept}

pub retired_free : (r d q : ℕ) (x : Location) → retired r d x ≡ Free q → x ≡ Free q
retired_free r d q (Free p) at = grind arith
retired_free r d q (Live p) at = grind arith
retired_free r d q (Limbo p e) at = grind arith

pub retired_live : (r d q : ℕ) (x : Location) → retired r d x ≡ Live q → (x ≡ Live q) × (q ≡ r → ⊥)
retired_live r d q (Free p) at = grind arith
retired_live r d q (Live p) at = grind arith
retired_live r d q (Limbo p e) at = grind arith

pub retired_limbo : (r d q e : ℕ) (x : Location) → retired r d x ≡ Limbo q e → (x ≡ Limbo q e)
    ⊎ ((x ≡ Live r) × (q ≡ r) × (e ≡ d))
retired_limbo r d q e (Free p) at = grind arith
retired_limbo r d q e (Live p) at = grind arith
retired_limbo r d q e (Limbo p f) at = inl at

pub given_free : (r d q : ℕ) (x : Location) → given_back r d x ≡ Free q → (x ≡ Free q) ⊎ ((x ≡ Limbo r d) × (q ≡ r))
given_free r d q (Free p) at = inl at
given_free r d q (Live p) at = grind arith
given_free r d q (Limbo p e) at = grind (arith, nat_tests)

pub given_live : (r d q : ℕ) (x : Location) → given_back r d x ≡ Live q → x ≡ Live q
given_live r d q (Free p) at = grind arith
given_live r d q (Live p) at = at
given_live r d q (Limbo p e) at = grind arith

pub given_limbo : (r d q e : ℕ) (x : Location) → given_back r d x ≡ Limbo q e → (x ≡ Limbo q e) × (q ≡ r → e ≡ d → ⊥)
given_limbo r d q e (Free p) at = grind arith
given_limbo r d q e (Live p) at = grind arith
given_limbo r d q e (Limbo p f) at = grind (arith, nat_tests)

pub swept_free : (r q : ℕ) (words : List ℕ) (x : Location) → swept r words x ≡ Free q
    → (x ≡ Free q) ⊎ ((d : ℕ) × (x ≡ Limbo r d) × (has words (suc d) ≡ false))
swept_free r q words (Free p) at = inl at
swept_free r q words (Live p) at = grind arith
swept_free r q words (Limbo p d) at = inr (d, grind (arith, nat_tests), grind (arith, nat_tests))

pub swept_live : (r q : ℕ) (words : List ℕ) (x : Location) → swept r words x ≡ Live q → x ≡ Live q
swept_live r q words (Free p) at = grind arith
swept_live r q words (Live p) at = at
swept_live r q words (Limbo p d) at = grind arith

pub swept_limbo : (r q d : ℕ) (words : List ℕ) (x : Location) → swept r words x ≡ Limbo q d
    → (x ≡ Limbo q d) × (q ≡ r → has words (suc d) ≡ true)
swept_limbo r q d words (Free p) at = grind arith
swept_limbo r q d words (Live p) at = grind arith
swept_limbo r q d words (Limbo p e) at = grind (arith, nat_tests)
