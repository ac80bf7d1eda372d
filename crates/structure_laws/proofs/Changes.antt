-- Functions changed at one argument, words of cells, and readings by their number.
use Rattle.std.proofs.Common.{◌≡◌, ◌≢◌, ℕ, ◌+◌, ◌<◌, Bool, true, false, refl, inl, inr, arith}
use Rattle.std.proofs.lemmas.Grind.{common_steps}
use Rattle.std.specs.Prelude.{◌==◌, ◌&&◌, ◌||◌, ◌^◌, ◌⊎◌, Option, Some, None}
use mathlib.Core.Logic.{dite}
use native.Mathlib.Decide.{ℕ_discrete}
use Rattle.body_terms.specs.Update.{upd}
use Rattle.body_terms.specs.Word.{value_of, version_of, next_word}

pub upd_same : {A : Type 0} (f : ℕ → A) (k i : ℕ) (v : A) → i ≡ k → upd f k v i ≡ v
upd_same f k i v e = grind arith

pub upd_other : {A : Type 0} (f : ℕ → A) (k i : ℕ) (v : A) → i ≢ k → upd f k v i ≡ f i
upd_other f k i v ne = grind arith

-- what stands in a changed function stands there by the change, or stood there before
pub upd_some : {A : Type 0} (f : ℕ → Option A) (k i : ℕ) (v w : A) → upd f k (Some v) i ≡ Some w → ((i ≡ k) × (v ≡ w)) ⊎ ((i ≢ k) × (f i ≡ Some w))
upd_some f k i v w h = dite (ℕ_discrete i k) (λ e. inl (e, grind arith)) (λ ne. inr (ne, grind arith))

-- what stands in a function from which one place was taken stood there before
pub upd_none : {A : Type 0} (f : ℕ → Option A) (k i : ℕ) (w : A) → upd f k None i ≡ Some w → (i ≢ k) × (f i ≡ Some w)
upd_none f k i w h = dite (ℕ_discrete i k) (λ e. absurd (grind arith)) (λ ne. (ne, grind arith))

pub value-next_word : (old v : ℕ) → v < 2 ^ 32 → value_of (next_word old v) ≡ v
value-next_word old v small = grind (arith, common_steps)

pub version-next_word : (old v : ℕ) → v < 2 ^ 32 → version_of (next_word old v) ≡ version_of old + 1
version-next_word old v small = grind (arith, common_steps)

pub value_small : (w : ℕ) → value_of w < 2 ^ 32
value_small w = omega arith

pub equal_of : (a b : ℕ) → (a == b) ≡ true → a ≡ b
equal_of a b h = grind arith

pub both_true : (a b : Bool) → (a && b) ≡ true → (a ≡ true) × (b ≡ true)
both_true a b h = (grind arith, grind arith)

pub or_cases : {A : Type 0} → (a b : Bool) → (a || b) ≡ true → (a ≡ true → A) → (b ≡ true → A) → A
or_cases true b h f g = f refl
or_cases false b h f g = g h
