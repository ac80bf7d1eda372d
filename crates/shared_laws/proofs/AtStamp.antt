-- A section that comes to its Stamp has made its Loads and none of its Stores, so what it wanted stands in its cells.
use Rattle.std.proofs.Common.{◌≡◌, ℕ, ◌<◌, ◌≤◌, refl, sym, subst, ◌∙◌, ap, arith, Some, ⊎_elim}
use Rattle.std.proofs.lemmas.Bool.{cases_lt}
use Rattle.structure_laws.specs.body_terms.specs.Shape.{IsShaped, phase}
use Rattle.structure_laws.specs.body_terms.specs.declared.value.Value.{Value}
use Rattle.structure_laws.specs.body_terms.specs.declared.step.Step.{Step}
use Rattle.structure_laws.specs.body_terms.specs.declared.step.Step.TheVariants.{Load, Want, Stamp, Store}
use Rattle.structure_laws.specs.table_words.specs.declared.layout.Layout.{Layout}
use Rattle.structure_laws.specs.Scene.{Section, Scene}
use Rattle.structure_laws.specs.Meaning.{Meaning}
use Rattle.structure_laws.specs.Sections.{IsStep}
use Rattle.structure_laws.specs.Sound.{Sound}
use Rattle.structure_laws.specs.InTurn.{AtStamp}

module _ (m : Meaning) (layout : Layout) (s : Scene) (sound : Sound m layout s) (d : ℕ) (x : Section) (at : AtStamp m s d x) (shape : IsShaped (m.body x.thunk)) where
  -- a step that may still leave is passed
  passed : (j : ℕ) (step : Step) → IsStep m x j step → phase step ≡ 1 → j < x.at
  passed j step h first = ⊎_elim (λ low. low) (λ high. absurd (⊎_elim (later high) (here high) (cases_lt x.at j))) (cases_lt j x.at)
    where
      later : x.at ≤ j → x.at < j → ⊥
      later high low = let order = shape.phases x.at j Stamp step low at.stamp h in omega (arith, order, first)

      here : x.at ≤ j → j ≤ x.at → ⊥
      here high low = let is = ap phase (same (sym h ∙ subst (λ k. IsStep m x k Stamp) (omega (arith, high, low)) at.stamp)) in omega (arith, first, is)
        where
          same : Some step ≡ Some Stamp → step ≡ Stamp
          same e = cc

  -- no Store is made
  pub unstored : (i r : ℕ) (v : Value) → IsStep m x i (Store r v) → x.at ≤ i
  unstored i r v h = ⊎_elim (λ low. absurd (let order = shape.phases i x.at (Store r v) Stamp low h at.stamp in omega (arith, order))) (λ high. high) (cases_lt i x.at)

  -- a cell that it loaded holds the word that it wanted there
  pub wanted_now : (i j p r w : ℕ) → IsStep m x i (Load p r) → IsStep m x j (Want r w) → s.cells p ≡ w
  wanted_now i j p r w load want =
      sound.loaded d x at.here i p r (passed i (Load p r) load refl) load (λ k v store. unstored k r v store)
      ∙ sound.wanted d x at.here j r w (passed j (Want r w) want refl) want
