-- The live slots from a number on, each once.
use Rattle.std.specs.Prelude.{Bool, true, false, slice_get, if◌then◌else◌}
use Rattle.std.proofs.Common.{◌≡◌, ◌⊎◌, ℕ, zero, suc, ◌+◌, ◌<◌, ◌≤◌, List, [], ◌∷◌, refl, sym, ap, ◌∙◌, ⊎_elim, arith, Some}
use Rattle.std.proofs.lemmas.Bool.{cases_eq}
use Rattle.std.proofs.lemmas.Bool.Decides.{nat_tests}
use Rattle.machine_states.specs.epoch_core.specs.declared.location.Location.{Location}
use Rattle.machine_states.specs.epoch_core.specs.declared.location.Location.TheVariants.{Live}
use Rattle.machine_states.specs.epoch_core.specs.Lists.{times}
use Rattle.machine_states.proofs.Steps.{some_same, none_some}

abbrev pub is_live : Location → Bool
is_live Live = true
is_live _ = false

pub live_is : (x : Location) → is_live x ≡ true → x ≡ Live
live_is Live e = refl
live_is x e = absurd (let z = e in cc)

module _ (location : ℕ → Location) (from : ℕ) where
  abbrev pub live_from : ℕ → List ℕ
  live_from zero = []
  live_from (suc k) = if is_live (location (from + k)) then (from + k) ∷ live_from k else live_from k

  one_more : (x t : ℕ) (xs : List ℕ) → x ≡ t → 1 ≤ times t (x ∷ xs)
  one_more x t xs e = grind (arith, nat_tests)

  still : (x t : ℕ) (xs : List ℕ) → 1 ≤ times t xs → 1 ≤ times t (x ∷ xs)
  still x t xs h = grind (arith, nat_tests)

  -- each live one stands there
  pub stands : (t k : ℕ) → from ≤ t → t < from + k → is_live (location t) ≡ true → 1 ≤ times t (live_from k)
  stands t zero low high live = absurd (omega (arith, low, high))
  stands t (suc k) low high live = by (is_live (location (from + k))) refl (cases_eq t (from + k))
      (λ ne. stands t k low (omega (arith, high, ne)) live)
    where
      by : (b : Bool) → is_live (location (from + k)) ≡ b → (t ≡ from + k) ⊎ (t ≡ from + k → ⊥) → ((t ≡ from + k → ⊥) → 1 ≤ times t (live_from k))
          → 1 ≤ times t (if b then (from + k) ∷ live_from k else live_from k)
      by true e same rest = ⊎_elim (λ is. one_more (from + k) t (live_from k) (sym is)) (λ ne. still (from + k) t (live_from k) (rest ne)) same
      by false e same rest = ⊎_elim (λ is. absurd (let z = sym live ∙ (ap (λ i. is_live (location i)) is ∙ e) in cc)) (λ ne. rest ne) same

  pub record IsOne (t k : ℕ) : Type 0 where
    pub low : from ≤ t
    pub high : t < from + k
    pub live : is_live (location t) ≡ true

  -- and no other
  pub each : (k i t : ℕ) → slice_get (live_from k) i ≡ Some t → IsOne t k
  each zero i t e = absurd (none_some t (sym e))
  each (suc k) i t e = by (is_live (location (from + k))) refl i e (each k)
    where
      more : IsOne t k → IsOne t (suc k)
      more h = record { low = h.low; high = let high = h.high in omega (arith, high); live = h.live }

      by : (b : Bool) → is_live (location (from + k)) ≡ b → (i : ℕ) → slice_get (if b then (from + k) ∷ live_from k else live_from k) i ≡ Some t
          → ((i t : ℕ) → slice_get (live_from k) i ≡ Some t → IsOne t k) → IsOne t (suc k)
      by true live zero e rest =
          let same : from + k ≡ t = some_same (from + k) t e in
          record { low = omega (arith, same); high = omega (arith, same); live = ap (λ j. is_live (location j)) (sym same) ∙ live }
      by true live (suc i) e rest = more (rest i t e)
      by false live i e rest = more (rest i t e)

  pub once : (k i j t : ℕ) → slice_get (live_from k) i ≡ Some t → slice_get (live_from k) j ≡ Some t → i ≡ j
  once zero i j t e e' = absurd (none_some t (sym e))
  once (suc k) i j t e e' = by (is_live (location (from + k))) i j e e' (once k)
    where
      late : (i : ℕ) → Some (from + k) ≡ Some t → slice_get (live_from k) i ≡ Some t → ⊥
      late i e e' = let same = some_same (from + k) t e in let high = (each k i t e').high in absurd (omega (arith, same, high))

      by : (b : Bool) (i j : ℕ) → slice_get (if b then (from + k) ∷ live_from k else live_from k) i ≡ Some t
          → slice_get (if b then (from + k) ∷ live_from k else live_from k) j ≡ Some t
          → ((i j t : ℕ) → slice_get (live_from k) i ≡ Some t → slice_get (live_from k) j ≡ Some t → i ≡ j) → i ≡ j
      by true zero zero e e' rest = refl
      by true zero (suc j) e e' rest = absurd (late j e e')
      by true (suc i) zero e e' rest = absurd (late i e' e)
      by true (suc i) (suc j) e e' rest = ap suc (rest i j t e e')
      by false i j e e' rest = rest i j t e e'
