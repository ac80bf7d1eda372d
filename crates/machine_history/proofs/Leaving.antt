-- Changes of a scene that leave the remaining Stores of its stamped sections.
use Rattle.std.proofs.Common.{◌≡◌, ◌≢◌, ℕ, true, false, sym, ap, ◌∙◌, subst, ⊎_elim}
use Rattle.std.specs.Prelude.{◌⊎◌, Some, None}
use mathlib.Core.Logic.{dite}
use native.Mathlib.Decide.{ℕ_discrete}
use Rattle.agreement_core.specs.body_terms.specs.Update.{upd}
use Rattle.agreement_core.specs.body_terms.specs.declared.value.Value.{Value}
use Rattle.agreement_core.specs.body_terms.specs.declared.step.Step.{Step}
use Rattle.agreement_core.specs.body_terms.specs.declared.step.Step.TheVariants.{Store}
use Rattle.agreement_core.specs.table_words.specs.declared.layout.Layout.{Layout}
use Rattle.agreement_core.specs.section_lines.specs.structure_laws.specs.Scene.{Cells, Section, Scene, passed}
use Rattle.agreement_core.specs.section_lines.specs.structure_laws.specs.Meaning.{Meaning}
use Rattle.agreement_core.specs.section_lines.specs.structure_laws.specs.Sections.{Here, IsStep}
use Rattle.agreement_core.specs.section_lines.specs.structure_laws.proofs.Changes.{upd_same, upd_other}
use Rattle.machine_scenes.proofs.Links.{true_false}
use Rattle.read_answers.specs.completed_memory.specs.Pending.{Marks, StillStores, IsPending, IsCompleted}
use Rattle.read_answers.specs.completed_memory.proofs.Stores.{passed_some, passed_none}

pub some_inj : {A : Type 0} {a b : A} → Some a ≡ Some b → a ≡ b
some_inj e = cc

pub some_none : {A : Type 0} {a : A} → Some a ≡ None → ⊥
some_none e = cc

module _ (m : Meaning) (layout : Layout) where
  -- each remaining Store of the one scene remains in the other
  abbrev pub Keep : Scene → Scene → Marks → Marks → Type 0
  Keep s s' stamped stamped' = (d : ℕ) (x : Section) (p w : ℕ) → Here s d x → stamped d ≡ true → StillStores m x p w
      → (y : Section) × (Here s' d y) × (stamped' d ≡ true) × StillStores m y p w

  kept_pending : (s s' : Scene) (stamped stamped' : Marks) → Keep s s' stamped stamped' → (p w : ℕ) → IsPending m s stamped p w → IsPending m s' stamped' p w
  kept_pending s s' stamped stamped' keep p w a =
      let b = keep a.descriptor a.section p w a.here a.marked a.store in
      record { descriptor = a.descriptor; section = b.0; here = b.1; marked = b.2; store = b.3 }

  -- the same cells and the same remaining Stores
  pub completed_on : (s s' : Scene) (stamped stamped' : Marks) (cells : Cells) → IsCompleted m s stamped cells → ((p : ℕ) → s'.cells p ≡ s.cells p)
      → Keep s s' stamped stamped' → Keep s' s stamped' stamped → IsCompleted m s' stamped' cells
  completed_on s s' stamped stamped' cells completed same keep back = record {
    made = λ p w a. completed.made p w (kept_pending s' s stamped' stamped back p w a);
    kept = λ p none. completed.kept p (λ w a. none w (kept_pending s s' stamped stamped' keep p w a)) ∙ sym (same p);
  }

  -- the same sections
  pub keep_same : (s s' : Scene) (stamped stamped' : Marks) → ((d : ℕ) → s'.section d ≡ s.section d) → ((d : ℕ) (x : Section) → Here s d x → stamped' d ≡ stamped d)
      → Keep s s' stamped stamped'
  keep_same s s' stamped stamped' sections marks d x p w here mark a = (x, sections d ∙ here, marks d x here ∙ mark, a)

  -- one section becomes another one
  pub record Turns (x y : Section) : Type 0 where
    pub on : (p w : ℕ) → StillStores m x p w → StillStores m y p w
    pub back : (p w : ℕ) → StillStores m y p w → StillStores m x p w

  pub turns_same : (x y : Section) → y ≡ x → Turns x y
  turns_same x y same = record { on = λ p w a. subst (λ z. StillStores m z p w) (sym same) a; back = λ p w a. subst (λ z. StillStores m z p w) same a }

  -- it passes a step that is no Store
  pub turns_passed : (x y : Section) (b : Step) → IsStep m x x.at b → ((r : ℕ) (v : Value) → b ≢ Store r v) → y ≡ passed x → Turns x y
  turns_passed x y b here no_store same = record {
    on = λ p w a. subst (λ z. StillStores m z p w) (sym same) (passed_some m layout x b p w here no_store a);
    back = λ p w a. passed_none m layout x p w (subst (λ z. StillStores m z p w) same a);
  }

  -- one section changes: it isn't stamped, or its remaining Stores stay
  pub keep_on : (s s' : Scene) (stamped stamped' : Marks) (d : ℕ) (x y : Section) → Here s d x → ((e : ℕ) → s'.section e ≡ upd s.section d (Some y) e) → ((e : ℕ) → stamped' e ≡ stamped e)
      → (stamped d ≡ false) ⊎ Turns x y → Keep s s' stamped stamped'
  keep_on s s' stamped stamped' d x y here sections marks turns e z p w there mark a = dite (ℕ_discrete e d)
      (λ same. ⊎_elim (λ unmarked. absurd (true_false mark (ap stamped same ∙ unmarked)))
      (λ turn. (
        y,
        sections e ∙ upd_same s.section d e (Some y) same,
        marks e ∙ mark,
        turn.on p w (subst (λ x. StillStores m x p w) (some_inj (sym there ∙ ap s.section same ∙ here)) a),
      )) turns)
      (λ other. (z, sections e ∙ (upd_other s.section d e (Some y) other ∙ there), marks e ∙ mark, a))

  pub keep_back : (s s' : Scene) (stamped stamped' : Marks) (d : ℕ) (x y : Section) → Here s d x → ((e : ℕ) → s'.section e ≡ upd s.section d (Some y) e) → ((e : ℕ) → stamped' e ≡ stamped e)
      → (stamped d ≡ false) ⊎ Turns x y → Keep s' s stamped' stamped
  keep_back s s' stamped stamped' d x y here sections marks turns e z p w there mark a = dite (ℕ_discrete e d)
      (λ same. ⊎_elim (λ unmarked. absurd (true_false mark (marks e ∙ ap stamped same ∙ unmarked)))
      (λ turn. (
        x,
        ap s.section same ∙ here,
        sym (marks e) ∙ mark,
        turn.back p w (subst (λ x. StillStores m x p w) (some_inj (sym there ∙ sections e ∙ upd_same s.section d e (Some y) same)) a),
      )) turns)
      (λ other. (z, sym (upd_other s.section d e (Some y) other) ∙ (sym (sections e) ∙ there), sym (marks e) ∙ mark, a))
