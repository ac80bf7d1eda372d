-- From the check of a wanted word to the Load and the Want of the body.
use Rattle.std.proofs.Common.{◌≡◌, ℕ, List, [], refl, sym, ◌∙◌, subst, arith}
use Rattle.std.proofs.lemmas.Option.{slice_get_within}
use Rattle.structure_laws.specs.body_terms.specs.declared.micro.Micro.TheVariants.{CheckWord}
use Rattle.structure_laws.specs.body_terms.specs.declared.step.Step.{Step}
use Rattle.structure_laws.specs.body_terms.specs.declared.step.Step.TheVariants.{Load, Want}
use Rattle.structure_laws.specs.body_terms.specs.Line.{registers_before, line, micro_at}
use Rattle.structure_laws.specs.body_terms.specs.Shape.{IsShaped, IsStep}
use Rattle.structure_laws.specs.body_terms.proofs.RegisterLemmas.{loaded_register}
use Rattle.section_lines.proofs.Sources.{of_want}
use Rattle.structure_laws.proofs.Bodies.{loaded_before}

module _ (body : List Step) where
  -- a wanted word is that of a place that the body loads
  pub record Wants (p w : ℕ) : Type 0 where
    pub load : ℕ
    pub want : ℕ
    pub register : ℕ
    pub loads : IsStep body load (Load p register)
    pub wants : IsStep body want (Want register w)

  pub wanted_at : IsShaped body → (i p k w : ℕ) → micro_at (line body) i ≡ CheckWord p k w → Wants p w
  wanted_at shaped i p k w e =
      let o = of_want body i (CheckWord p k w) e refl in
      let f = o.2.from in
      let by = loaded_before body shaped f.n o.0 (Want o.0 o.1) [] f.here refl in
      let is = loaded_register body shaped by.by by.place o.0 f.n by.loads by.earlier
      (let inside = slice_get_within body f.n (Want o.0 o.1) f.here in omega (arith, inside)) in
      let same = o.2.same in
      let place : p ≡ (registers_before body f.n).place o.0 = cc in
      let word : w ≡ o.1 = cc in
      record {
        load = by.by;
        want = f.n;
        register = o.0;
        loads = subst (λ n. IsStep body by.by (Load n o.0)) (sym (place ∙ is.0)) by.loads;
        wants = subst (λ n. IsStep body f.n (Want o.0 n)) (sym word) f.here;
      }
