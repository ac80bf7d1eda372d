-- What tests of numbers mean, places by their remainder, and pairs found in readings.
use Rattle.std.proofs.Common.{◌≡◌, ◌≢◌, ℕ, zero, suc, ◌+◌, ◌*◌, ◌<◌, ◌≤◌, Bool, true, false, inl, inr, refl, ap, ◌∙◌, List, [], ◌∷◌, map, arith}
use Rattle.std.specs.Prelude.{◌==◌, ◌&&◌, ◌||◌, ◌⊎◌, ◌++◌, ◌%◌, nat_lt, slice_get, slice_index, Some}
use Rattle.structure_laws.specs.Scene.{Readings}
pub use Rattle.structure_laws.proofs.Pairs.{pair_read}
use Rattle.std.specs.List.{list_any}

pub bool_cases : {A : Type 0} → (b : Bool) → (b ≡ true → A) → (b ≡ false → A) → A
bool_cases true f g = f refl
bool_cases false f g = g refl

pub lt_true : (a b : ℕ) → a < b → nat_lt a b ≡ true
lt_true a b h = grind arith

pub lt_false : (a b : ℕ) → b ≤ a → nat_lt a b ≡ false
lt_false a b h = grind arith

pub lt_of : (a b : ℕ) → nat_lt a b ≡ true → a < b
lt_of a b h = grind arith

pub eq_true : (a b : ℕ) → a ≡ b → (a == b) ≡ true
eq_true a b h = grind arith

pub eq_false : (a b : ℕ) → a ≢ b → (a == b) ≡ false
eq_false a b h = grind arith

pub and_false : (a b : Bool) → b ≡ false → (a && b) ≡ false
and_false true b e = e
and_false false b e = refl

pub third : (i r : ℕ) → r < 3 → (3 * i + r) % 3 ≡ r
third i r h = omega arith

-- an item of a longer list is one of the list, or the last
pub get_more : {A : Type 0} (xs : List A) (y v : A) (i : ℕ) → slice_get (xs ++ y ∷ []) i ≡ Some v
    → (slice_get xs i ≡ Some v) ⊎ (y ≡ v)
get_more [] y v zero h = inr (cc)
get_more [] y v (suc i) h = absurd (cc)
get_more (x ∷ xs) y v zero h = inl h
get_more (x ∷ xs) y v (suc i) h = get_more xs y v i h

-- and an item of the list is one of the longer one
pub get_longer : {A : Type 0} (xs : List A) (y v : A) (i : ℕ) → slice_get xs i ≡ Some v
    → slice_get (xs ++ y ∷ []) i ≡ Some v
get_longer [] y v i h = absurd (cc)
get_longer (x ∷ xs) y v zero h = h
get_longer (x ∷ xs) y v (suc i) h = get_longer xs y v i h

-- where one reading passes a test, one of them does
pub any_of : (test : ℕ × ℕ → Bool) (readings : Readings) (k : ℕ) (reading : ℕ × ℕ)
    → slice_get readings k ≡ Some reading → test reading ≡ true → list_any test readings ≡ true
any_of test [] k reading h passes = absurd (cc)
any_of test (first ∷ readings) zero reading h passes = ap (λ b. b || list_any test readings)
    (ap test (same first reading h) ∙ passes)
  where
    same : (a b : ℕ × ℕ) → Some a ≡ Some b → a ≡ b
    same a b e = cc
any_of test (first ∷ readings) (suc k) reading h passes = ap (λ b. test first || b)
    (any_of test readings k reading h passes) ∙ or_true (test first)
  where
    or_true : (a : Bool) → (a || true) ≡ true
    or_true true = refl
    or_true false = refl

-- a pair that was read is found in readings; the other way is pair_read
pub read_pair : (readings : Readings) (p w k : ℕ) → slice_get readings k ≡ Some (p, w)
    → list_any (λ reading. reading.0 == p && reading.1 == w) readings ≡ true
read_pair readings p w k h = any_of (λ reading. reading.0 == p && reading.1 == w) readings k (p, w) h
    (λ i. self p i && self w i)
  where
    self : (n : ℕ) → (n == n) ≡ true
    self n = grind arith

-- in each place of a list of readings its word was read
pub read_at : (readings : Readings) (places : List ℕ) (k p : ℕ) → map (λ reading. reading.0) readings ≡ places → slice_get places k ≡ Some p
    → list_any (λ reading. reading.0 == p && reading.1 == slice_index (map (λ reading. reading.1) readings) k) readings ≡ true
read_at readings places k p same there = read_pair readings p (slice_index (map (λ reading. reading.1) readings) k) k (by readings k (ap (λ ps. slice_get ps k) same ∙ there))
  where
    by : (readings : Readings) (k : ℕ) → slice_get (map (λ reading. reading.0) readings) k ≡ Some p → slice_get readings k ≡ Some (p, slice_index (map (λ reading. reading.1) readings) k)
    by [] k h = absurd (cc)
    by (reading ∷ readings) zero h = let e : reading.0 ≡ p = cc in ap (λ q. Some (q, reading.1)) e
    by (reading ∷ readings) (suc k) h = by readings k h
