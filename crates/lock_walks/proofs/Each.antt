-- What holds of each reading with those before it.
use Rattle.std.proofs.Common.{◌≡◌, ◌≢◌, ℕ, zero, suc, ◌<◌, List, [], ◌∷◌, ◌++◌, length, length-append, take, refl, sym, ap, subst, ◌∙◌, arith, Some}
use Rattle.std.specs.Prelude.{slice_get}
use Rattle.std.proofs.lemmas.List.{take-append-le}
use Rattle.std.proofs.lemmas.Option.{slice_get_within}
use Rattle.std.proofs.Math.Seq.{take-append_seam}
use mathlib.Core.Logic.{dite}
use native.Mathlib.Decide.{ℕ_discrete}
use Rattle.machine_states.specs.structure_laws.specs.Scene.{Readings}
use Rattle.machine_states.proofs.Steps.{some_same}

pub get_left : {X : Type 0} (xs ys : List X) (i : ℕ) → i < length xs → slice_get (xs ++ ys) i ≡ slice_get xs i
get_left [] ys i low = absurd (omega (arith, low))
get_left (x ∷ xs) ys zero low = refl
get_left (x ∷ xs) ys (suc i) low = get_left xs ys i (omega (arith, low))

pub get_last : {X : Type 0} (xs : List X) (y : X) → slice_get (xs ++ y ∷ []) (length xs) ≡ Some y
get_last [] y = refl
get_last (x ∷ xs) y = get_last xs y

pub within_more : {X : Type 0} (xs : List X) (y z : X) (i : ℕ) → slice_get (xs ++ y ∷ []) i ≡ Some z → i ≢ length xs → i < length xs
within_more xs y z i h ne = let a = slice_get_within (xs ++ y ∷ []) i z h in let b = length-append xs (y ∷ []) in omega (arith, a, b, ne)

module _ (P : Readings → ℕ → ℕ → Type 0) where
  abbrev pub Each : Readings → Type 0
  Each readings = (i place word : ℕ) → slice_get readings i ≡ Some (place, word) → P (take i readings) place word

  pub each_more : (readings : Readings) (place word : ℕ) → Each readings → P readings place word → Each (readings ++ (place, word) ∷ [])
  each_more readings place word each here i p w h = dite (ℕ_discrete i (length readings)) last before
    where
      last : i ≡ length readings → P (take i (readings ++ (place, word) ∷ [])) p w
      last e = subst (λ (x : ℕ × ℕ). P (take i (readings ++ (place, word) ∷ [])) x.0 x.1) (some_same (place, word) (p, w) (sym (get_last readings (place, word)) ∙ (ap (slice_get (readings ++ (place, word) ∷ [])) (sym e) ∙ h)))
          (subst (λ (rs : Readings). P rs place word) (sym (ap (λ n. take n (readings ++ (place, word) ∷ [])) e ∙ take-append_seam readings ((place, word) ∷ []))) here)

      before : i ≢ length readings → P (take i (readings ++ (place, word) ∷ [])) p w
      before ne = let low = within_more readings (place, word) (p, w) i h ne in
          subst (λ (rs : Readings). P rs p w) (sym (take-append-le i readings ((place, word) ∷ []) (omega (arith, low))))
          (each i p w (sym (get_left readings ((place, word) ∷ []) i low) ∙ h))

  pub each_none : Each []
  each_none i place word h = absurd (cc)
