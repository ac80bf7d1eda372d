-- The steps of the bodies over a key's cells, found by their kind, and their shape.
use Rattle.std.proofs.Common.{◌≡◌, ℕ, zero, suc, ◌+◌, ◌*◌, ◌<◌, ◌≤◌, Bool, true, false, cond, refl, ap, arith}
use Rattle.std.specs.Prelude.{◌==◌, ◌||◌, Some, None, slice_get, length}
use Rattle.runner_parts.specs.structure_laws.specs.body_terms.specs.Word.{value_of}
use Rattle.runner_parts.specs.structure_laws.specs.body_terms.specs.Shape.{IsShaped}
use Rattle.runner_parts.specs.structure_laws.specs.body_terms.specs.declared.misshape.Misshape.TheVariants.{StoredTwice}
use Rattle.runner_parts.specs.structure_laws.specs.body_terms.specs.declared.value.Value.{Value}
use Rattle.runner_parts.specs.structure_laws.specs.body_terms.specs.declared.value.Value.TheVariants.{Const}
use Rattle.runner_parts.specs.structure_laws.specs.body_terms.specs.declared.step.Step.{Step}
use Rattle.runner_parts.specs.structure_laws.specs.body_terms.specs.declared.step.Step.TheVariants.{Load, Want, Store, Answer}
use Rattle.shared_laws.specs.Nodeless.{is_plain}
use Rattle.shared_laws.proofs.Shaping.{shaped_by}
use Rattle.key_cells.specs.Steps.{cell_steps}

module _ (cell want new : ℕ → ℕ) (reply : ℕ) where
  abbrev pub StepIs : Bool → ℕ → ℕ → Step → Type 0
  StepIs w n j step = slice_get (cell_steps cell want new reply w n) j ≡ Some step

  pub plain_in : (w : Bool) (n : ℕ) → n ≤ 3 → (j : ℕ) (step : Step) → StepIs w n j step → is_plain step ≡ true
  plain_in true zero few j step h = grind arith
  plain_in true (suc zero) few j step h = grind arith
  plain_in true (suc (suc zero)) few j step h = grind arith
  plain_in true (suc (suc (suc zero))) few j step h = grind arith
  plain_in false zero few j step h = grind arith
  plain_in false (suc zero) few j step h = grind arith
  plain_in false (suc (suc zero)) few j step h = grind arith
  plain_in false (suc (suc (suc zero))) few j step h = grind arith
  plain_in w (suc (suc (suc (suc n)))) few j step h = absurd (omega (arith, few))

  -- a cell is loaded into the register of its number, and at the step of that number
  pub load_in : (w : Bool) (n : ℕ) → n ≤ 3 → (j p r : ℕ) → StepIs w n j (Load p r) → (r < n) × (p ≡ cell r) × (j ≡ cond w 3 2 * r)
  load_in true zero few j p r h = absurd (grind arith)
  load_in true (suc zero) few j p r h = (grind arith, grind arith, grind arith)
  load_in true (suc (suc zero)) few j p r h = (grind arith, grind arith, grind arith)
  load_in true (suc (suc (suc zero))) few j p r h = (grind arith, grind arith, grind arith)
  load_in false zero few j p r h = absurd (grind arith)
  load_in false (suc zero) few j p r h = (grind arith, grind arith, grind arith)
  load_in false (suc (suc zero)) few j p r h = (grind arith, grind arith, grind arith)
  load_in false (suc (suc (suc zero))) few j p r h = (grind arith, grind arith, grind arith)
  load_in w (suc (suc (suc (suc n)))) few j p r h = absurd (omega (arith, few))

  pub want_in : (w : Bool) (n : ℕ) → n ≤ 3 → (j r word : ℕ) → StepIs w n j (Want r word) → word ≡ want r
  want_in true zero few j r word h = absurd (grind arith)
  want_in true (suc zero) few j r word h = grind arith
  want_in true (suc (suc zero)) few j r word h = grind arith
  want_in true (suc (suc (suc zero))) few j r word h = grind arith
  want_in false zero few j r word h = absurd (grind arith)
  want_in false (suc zero) few j r word h = grind arith
  want_in false (suc (suc zero)) few j r word h = grind arith
  want_in false (suc (suc (suc zero))) few j r word h = grind arith
  want_in w (suc (suc (suc (suc n)))) few j r word h = absurd (omega (arith, few))

  pub store_in : (w : Bool) (n : ℕ) → n ≤ 3 → (j r : ℕ) (v : Value) → StepIs w n j (Store r v)
      → (w ≡ true) × (v ≡ Const (value_of (new r))) × (j ≡ 3 * n + 1 + r)
  store_in true zero few j r v h = absurd (grind arith)
  store_in true (suc zero) few j r v h = (refl, grind arith, grind arith)
  store_in true (suc (suc zero)) few j r v h = (refl, grind arith, grind arith)
  store_in true (suc (suc (suc zero))) few j r v h = (refl, grind arith, grind arith)
  store_in false zero few j r v h = absurd (grind arith)
  store_in false (suc zero) few j r v h = absurd (grind arith)
  store_in false (suc (suc zero)) few j r v h = absurd (grind arith)
  store_in false (suc (suc (suc zero))) few j r v h = absurd (grind arith)
  store_in w (suc (suc (suc (suc n)))) few j r v h = absurd (omega (arith, few))

  pub answer_in : (w : Bool) (n : ℕ) → n ≤ 3 → (j word : ℕ) → StepIs w n j (Answer word) → word ≡ reply
  answer_in true zero few j word h = grind arith
  answer_in true (suc zero) few j word h = grind arith
  answer_in true (suc (suc zero)) few j word h = grind arith
  answer_in true (suc (suc (suc zero))) few j word h = grind arith
  answer_in false zero few j word h = grind arith
  answer_in false (suc zero) few j word h = grind arith
  answer_in false (suc (suc zero)) few j word h = grind arith
  answer_in false (suc (suc (suc zero))) few j word h = grind arith
  answer_in w (suc (suc (suc (suc n)))) few j word h = absurd (omega (arith, few))

  -- and the other way: each cell is loaded and wanted
  abbrev Reads : Bool → ℕ → ℕ → Type 0
  Reads w n i = StepIs w n (cond w 3 2 * i) (Load (cell i) i) × StepIs w n (cond w 3 2 * i + 1) (Want i (want i))

  pub reads : (w : Bool) (n : ℕ) → n ≤ 3 → (i : ℕ) → i < n → Reads w n i
  reads w zero few i low = absurd (omega (arith, low))
  reads true (suc zero) few zero low = (refl, refl)
  reads false (suc zero) few zero low = (refl, refl)
  reads w (suc zero) few (suc i) low = absurd (omega (arith, low))
  reads true (suc (suc zero)) few zero low = (refl, refl)
  reads false (suc (suc zero)) few zero low = (refl, refl)
  reads true (suc (suc zero)) few (suc zero) low = (refl, refl)
  reads false (suc (suc zero)) few (suc zero) low = (refl, refl)
  reads w (suc (suc zero)) few (suc (suc i)) low = absurd (omega (arith, low))
  reads true (suc (suc (suc zero))) few zero low = (refl, refl)
  reads false (suc (suc (suc zero))) few zero low = (refl, refl)
  reads true (suc (suc (suc zero))) few (suc zero) low = (refl, refl)
  reads false (suc (suc (suc zero))) few (suc zero) low = (refl, refl)
  reads true (suc (suc (suc zero))) few (suc (suc zero)) low = (refl, refl)
  reads false (suc (suc (suc zero))) few (suc (suc zero)) low = (refl, refl)
  reads w (suc (suc (suc zero))) few (suc (suc (suc i))) low = absurd (omega (arith, low))
  reads w (suc (suc (suc (suc n)))) few i low = absurd (omega (arith, few))

  -- and stored, where the body writes
  pub stores : (n : ℕ) → n ≤ 3 → (i : ℕ) → i < n → StepIs true n (3 * n + 1 + i) (Store i (Const (value_of (new i))))
  stores zero few i low = absurd (omega (arith, low))
  stores (suc zero) few zero low = refl
  stores (suc zero) few (suc i) low = absurd (omega (arith, low))
  stores (suc (suc zero)) few zero low = refl
  stores (suc (suc zero)) few (suc zero) low = refl
  stores (suc (suc zero)) few (suc (suc i)) low = absurd (omega (arith, low))
  stores (suc (suc (suc zero))) few zero low = refl
  stores (suc (suc (suc zero))) few (suc zero) low = refl
  stores (suc (suc (suc zero))) few (suc (suc zero)) low = refl
  stores (suc (suc (suc zero))) few (suc (suc (suc i))) low = absurd (omega (arith, low))
  stores (suc (suc (suc (suc n)))) few i low = absurd (omega (arith, few))

  -- there are few
  pub few_steps : (w : Bool) (n : ℕ) → n ≤ 3 → length (cell_steps cell want new reply w n) ≤ 23
  few_steps true zero few = omega arith
  few_steps true (suc zero) few = omega arith
  few_steps true (suc (suc zero)) few = omega arith
  few_steps true (suc (suc (suc zero))) few = omega arith
  few_steps false zero few = omega arith
  few_steps false (suc zero) few = omega arith
  few_steps false (suc (suc zero)) few = omega arith
  few_steps false (suc (suc (suc zero))) few = omega arith
  few_steps w (suc (suc (suc (suc n)))) few = absurd (omega (arith, few))

  -- where no two cells have one place, the body has the shape of one
  pub shaped : (w : Bool) (n : ℕ) → n ≤ 3 → ((i j : ℕ) → i < j → j < n → (cell i == cell j) ≡ false) → IsShaped (cell_steps cell want new reply w n)
  shaped true zero few apart = shaped_by (cell_steps cell want new reply true 0) (omega arith) ((refl, refl), refl)
  shaped true (suc zero) few apart = shaped_by (cell_steps cell want new reply true 1) (omega arith) ((((((refl, refl), refl), refl), refl), refl), refl)
  shaped true (suc (suc zero)) few apart = shaped_by (cell_steps cell want new reply true 2) (omega arith)
      (((((((((((refl, refl), refl), refl), refl), refl), refl), refl), refl), ap (λ b. cond ((b || false) || false) (Some (StoredTwice 8)) None) (apart 0 1 (omega arith) (omega arith))), refl))
  shaped true (suc (suc (suc zero))) few apart = shaped_by (cell_steps cell want new reply true 3) (omega arith) (
    (
      ((((((((((((refl, refl), refl), refl), refl), refl), refl), refl), refl), refl), refl), refl), ap (λ b. cond ((b || false) || false) (Some (StoredTwice 11)) None) (apart 0 1 (omega arith) (omega arith))),
      (λ i. cond ((apart 0 2 (omega arith) (omega arith) i || (apart 1 2 (omega arith) (omega arith) i || false)) || false) (Some (StoredTwice 12)) None),
    ),
    refl,
  )
  shaped false zero few apart = shaped_by (cell_steps cell want new reply false 0) (omega arith) ((refl, refl), refl)
  shaped false (suc zero) few apart = shaped_by (cell_steps cell want new reply false 1) (omega arith) ((((refl, refl), refl), refl), refl)
  shaped false (suc (suc zero)) few apart = shaped_by (cell_steps cell want new reply false 2) (omega arith) ((((((refl, refl), refl), refl), refl), refl), refl)
  shaped false (suc (suc (suc zero))) few apart = shaped_by (cell_steps cell want new reply false 3) (omega arith) ((((((((refl, refl), refl), refl), refl), refl), refl), refl), refl)
  shaped w (suc (suc (suc (suc n)))) few apart = absurd (omega (arith, few))
