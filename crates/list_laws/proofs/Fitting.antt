-- A thunk that fits a walk of the list goes on to fit, and a body without a Store answers what leaves the map as it was.
use Rattle.std.proofs.Common.{◌≡◌, ℕ, true, refl, sym, ap, ◌∙◌, subst, arith}
use Rattle.std.specs.Prelude.{◌++◌, slice_get, slice_index, Some}
use Rattle.structure_laws.specs.map_history.specs.declared.op.Op.{Op}
use Rattle.structure_laws.specs.body_terms.specs.declared.value.Value.{Value}
use Rattle.structure_laws.specs.body_terms.specs.declared.value.Value.TheVariants.{Const, Made}
use Rattle.structure_laws.specs.body_terms.specs.declared.step.Step.TheVariants.{Store, Answer}
use Rattle.structure_laws.specs.body_terms.specs.declared.thunk.Thunk.{Thunk}
use Rattle.structure_laws.specs.table_words.specs.declared.layout.Layout.{Layout}
use Rattle.structure_laws.specs.Scene.{Readings}
use Rattle.structure_laws.specs.Fitting.{Leaves, Fitting}
use Rattle.node_laws.proofs.Forms.{look_leaves}
use Rattle.node_laws.proofs.Walked.{walk_on}
use Rattle.list_bodies.specs.List.{Form, Look, Insert, Remove, Replace, Empty, form_of, body_of}
use Rattle.list_laws.specs.Walk.{Walk, start, wanted_at, fits_walk}
use Rattle.list_laws.specs.Nodes.{walk_of, list}
use Rattle.list_laws.proofs.Fit.{IsFit, fit_of, look_numbers, numbers_of}
use Rattle.list_laws.proofs.Forms.{look_answer}

module _ (layout : Layout) (op : Op) (thunk : Thunk) (readings : Readings)
    (fits : list.fits layout op readings thunk ≡ true) where
  abbrev w : Walk
  w = walk_of layout op readings

  fit : IsFit op w thunk
  fit = fit_of op w thunk fits

  fits_on : (more : Readings) → list.fits layout op (readings ++ more) thunk ≡ true
  fits_on more = ap (λ w. fits_walk op w thunk) (walk_on _ _ _ start readings more (ap (wanted_at w) fit.stage)) ∙ fits

  abbrev Stores : Form → Type 0
  Stores f = (j r : ℕ) (v : Value) → slice_get (body_of f thunk) j ≡ Some (Store r v) → ⊥

  still_in : (f : Form) → form_of thunk ≡ f → Stores f → (j reply : ℕ)
      → slice_get (body_of f thunk) j ≡ Some (Answer reply) → Leaves op reply
  still_in Look e none j reply h =
      let form = sym fit.form ∙ (numbers_of thunk).look e in
      subst (Leaves op) (sym (look_answer thunk j reply h
      ∙ ap (λ numbers. slice_index numbers 3) (fit.operands ∙ look_numbers op w w.found form)))
      (look_leaves 31 op w.value w.found (omega arith) form)
  still_in Insert e none j reply h = absurd (none 7 0 (Made 2) refl)
  still_in Remove e none j reply h = absurd (none 11 3 (Const 1) refl)
  still_in Replace e none j reply h = absurd (none 13 3 (Const 1) refl)
  still_in Empty e none j reply h = absurd (cc)

pub list_fitting : (layout : Layout) → Fitting list layout
list_fitting layout = record {
  fits_on = λ readings more op thunk fits. fits_on layout op thunk readings fits more;
  still = λ map readings op thunk allowed fits none. still_in layout op thunk readings fits (form_of thunk) refl none;
}
