-- The steps of the test structure's bodies, found by their kind.
use Rattle.std.proofs.Common.{◌≡◌, ℕ, ◌<◌, refl, inl, inr, arith}
use Rattle.std.specs.Prelude.{◌-◌, ◌⊎◌, Some, slice_get}
use Rattle.body_terms.specs.Word.{value_of}
use Rattle.body_terms.specs.declared.value.Value.{Value}
use Rattle.body_terms.specs.declared.value.Value.TheVariants.{Const, Made}
use Rattle.body_terms.specs.declared.value.Init.{Init}
use Rattle.body_terms.specs.declared.step.Step.TheVariants.{Load, Take, Make, Stamp, Store, Retire, Answer}
use Rattle.structure_laws.specs.Tray.{Form, Number, Link, Unlink, Other, body_of, zeros}

pub no_take : (f : Form) (word j l w : ℕ) → slice_get (body_of f word) j ≡ Some (Take l w) → ⊥
no_take Number word j l w h = grind arith
no_take Link word j l w h = grind arith
no_take Unlink word j l w h = grind arith
no_take Other word j l w h = grind arith

pub load_step : (f : Form) (word j p r : ℕ) → slice_get (body_of f word) j ≡ Some (Load p r) → (j ≡ 0) × (r ≡ 0) × (((f ≡ Number) × (p ≡ 1)) ⊎ ((f ≡ Link) × (p ≡ 2)) ⊎ ((f ≡ Unlink) × (p ≡ 2)))
load_step Number word j p r h = (grind arith, grind arith, inl (refl, grind arith))
load_step Link word j p r h = (grind arith, grind arith, inr (inl (refl, grind arith)))
load_step Unlink word j p r h = (grind arith, grind arith, inr (inr (refl, grind arith)))
load_step Other word j p r h = absurd (grind arith)

pub store_step : (f : Form) (word j r : ℕ) (v : Value) → slice_get (body_of f word) j ≡ Some (Store r v)
    → (r ≡ 0) × (((f ≡ Number) × (j ≡ 3) × (v ≡ Const (value_of word))) ⊎ ((f ≡ Link) × (j ≡ 5) × (v ≡ Made 1)) ⊎ ((f ≡ Unlink) × (j ≡ 4) × (v ≡ Const 0)))
store_step Number word j r v h = (grind arith, inl (refl, grind arith, grind arith))
store_step Link word j r v h = (grind arith, inr (inl (refl, grind arith, grind arith)))
store_step Unlink word j r v h = (grind arith, inr (inr (refl, grind arith, grind arith)))
store_step Other word j r v h = absurd (grind arith)

pub make_step : (f : Form) (word j r : ℕ) (init : Init) → slice_get (body_of f word) j ≡ Some (Make init r) → (f ≡ Link) × (j ≡ 3) × (r ≡ 1) × (init ≡ zeros)
make_step Number word j r init h = absurd (grind arith)
make_step Link word j r init h = (refl, grind arith, grind arith, grind arith)
make_step Unlink word j r init h = absurd (grind arith)
make_step Other word j r init h = absurd (grind arith)

pub retire_step : (f : Form) (word j t : ℕ) → slice_get (body_of f word) j ≡ Some (Retire t) → (f ≡ Unlink) × (j ≡ 5) × (t ≡ value_of word - 1)
retire_step Number word j t h = absurd (grind arith)
retire_step Link word j t h = absurd (grind arith)
retire_step Unlink word j t h = (refl, grind arith, grind arith)
retire_step Other word j t h = absurd (grind arith)

pub stamp_step : (f : Form) (word j : ℕ) → slice_get (body_of f word) j ≡ Some Stamp → ((f ≡ Number) × (j ≡ 2)) ⊎ ((f ≡ Link) × (j ≡ 4)) ⊎ ((f ≡ Unlink) × (j ≡ 3)) ⊎ ((f ≡ Other) × (j ≡ 0))
stamp_step Number word j h = inl (refl, grind arith)
stamp_step Link word j h = inr (inl (refl, grind arith))
stamp_step Unlink word j h = inr (inr (inl (refl, grind arith)))
stamp_step Other word j h = inr (inr (inr (refl, grind arith)))

pub answer_step : (f : Form) (word j n : ℕ) → slice_get (body_of f word) j ≡ Some (Answer n) → 0 < n
answer_step Number word j n h = grind arith
answer_step Link word j n h = grind arith
answer_step Unlink word j n h = grind arith
answer_step Other word j n h = grind arith
