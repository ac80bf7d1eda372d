-- The steps of a transfer, found by their kind, and its shape.
use Rattle.std.proofs.Common.{◌≡◌, ℕ, ◌+◌, false, cond, refl, ap, inl, inr, arith}
use Rattle.std.specs.Prelude.{◌==◌, ◌||◌, ◌⊎◌, Some, None, slice_get}
use mathlib.Core.Logic.{dite}
use native.Mathlib.Decide.{ℕ_discrete}
use Rattle.runner_parts.specs.structure_laws.specs.body_terms.specs.Shape.{IsShaped, is_make, is_retire}
use Rattle.runner_parts.specs.structure_laws.specs.body_terms.specs.Word.{value_of}
use Rattle.runner_parts.specs.structure_laws.specs.body_terms.specs.declared.misshape.Misshape.TheVariants.{StoredTwice}
use Rattle.runner_parts.specs.structure_laws.specs.body_terms.specs.declared.thunk.Thunk.{Thunk}
use Rattle.runner_parts.specs.structure_laws.specs.body_terms.specs.declared.value.Value.{Value}
use Rattle.runner_parts.specs.structure_laws.specs.body_terms.specs.declared.value.Value.TheVariants.{Const}
use Rattle.runner_parts.specs.structure_laws.specs.body_terms.specs.declared.step.Step.{Step}
use Rattle.runner_parts.specs.structure_laws.specs.body_terms.specs.declared.step.Step.TheVariants.{Load, Take, Store, Answer}
use Rattle.shared_laws.proofs.Shaping.{shaped_by}
use Rattle.account_laws.specs.Accounts.{lock_of, balance_of, apart, wanted_lower, new_lower, new_upper, upper_word, transfer_steps}

module _ (lower upper : ℕ) (t : Thunk) where
  abbrev pub TransferIs : ℕ → Step → Type 0
  TransferIs j step = slice_get (transfer_steps lower upper t) j ≡ Some step

  pub makes_none : (j : ℕ) (step : Step) → TransferIs j step → (is_make step ≡ false) × (is_retire step ≡ false)
  makes_none j step h = (grind arith, grind arith)

  pub load_at : (j p r : ℕ) → TransferIs j (Load p r) → ((j ≡ 0) × (p ≡ balance_of lower) × (r ≡ 0)) ⊎ ((j ≡ 4) × (p ≡ balance_of upper) × (r ≡ 1))
  load_at j p r h = dite (ℕ_discrete r 0) (λ e. inl (grind arith, grind arith, e)) (λ ne. inr (grind arith, grind arith, grind arith))

  pub take_at : (j p w : ℕ) → TransferIs j (Take p w) → (j ≡ 3) × (p ≡ lock_of upper) × (w ≡ upper_word t)
  take_at j p w h = (grind arith, grind arith, grind arith)

  pub store_at : (j r : ℕ) (v : Value) → TransferIs j (Store r v) → ((j ≡ 8) × (r ≡ 0) × (v ≡ Const (new_lower t))) ⊎ ((j ≡ 9) × (r ≡ 1) × (v ≡ Const (new_upper t)))
  store_at j r v h = dite (ℕ_discrete r 0) (λ e. inl (grind arith, e, grind arith)) (λ ne. inr (grind arith, grind arith, grind arith))

  pub answer_at : (j n : ℕ) → TransferIs j (Answer n) → n ≡ apart (new_lower t) (value_of (wanted_lower t)) + 1
  answer_at j n h = grind arith

  -- where the two accounts are different, the steps have the shape of a body
  pub shape_at : (balance_of lower == balance_of upper) ≡ false → IsShaped (transfer_steps lower upper t)
  shape_at different = shaped_by (transfer_steps lower upper t) (omega arith)
      (((((((((((refl, refl), refl), refl), refl), refl), refl), refl), refl), refl), ap (λ b. cond ((b || false) || false) (Some (StoredTwice 9)) None) different), refl)
