-- A runner enters, reads and leaves: each leads from a lawful scene to a lawful scene.
use Rattle.std.proofs.Common.{◌≡◌, ℕ, Bool, true, false, cond, refl, sym, ap, ◌∙◌, ⊎_elim}
use Rattle.std.specs.Prelude.{Option, Some, None}
use Rattle.std.proofs.lemmas.Bool.{cases_eq}
use mathlib.Core.Path.{fun_ext}
use Rattle.agreement_core.specs.body_terms.specs.Update.{upd}
use Rattle.agreement_core.specs.section_lines.specs.structure_laws.specs.Scene.{Readings}
use Rattle.agreement_core.specs.section_lines.specs.structure_laws.proofs.Changes.{upd_same, upd_other}
use Rattle.epoch_core.specs.declared.stage.Stage.{Stage}
use Rattle.epoch_core.specs.State.{is_entered}
use Rattle.machine_scenes.proofs.Shown.{upd_found}

-- what the entered runners have read
abbrev pub readers : (ℕ → Stage) → (ℕ → Readings) → ℕ → Option Readings
readers stage walk r = cond (is_entered (stage r)) (Some (walk r)) None

pub entered_reads : (stage : Stage) (walk : Readings) → is_entered stage ≡ true → cond (is_entered stage) (Some walk) None ≡ Some walk
entered_reads stage walk e = ap (λ b. cond b (Some walk) None) e

pub left_reads : (stage : Stage) (walk : Readings) → is_entered stage ≡ false → cond (is_entered stage) (Some walk) None ≡ None
left_reads stage walk e = ap (λ b. cond b (Some walk) None) e

-- who reads is entered
pub reader_entered : (stage : Stage) (walk readings : Readings) → cond (is_entered stage) (Some walk) None ≡ Some readings
    → (is_entered stage ≡ true) × (walk ≡ readings)
reader_entered stage walk readings here = by_entry (is_entered stage) walk readings here
  where
    by_entry : (b : Bool) (walk readings : Readings) → cond b (Some walk) None ≡ Some readings → (b ≡ true) × (walk ≡ readings)
    by_entry true walk readings here = (refl, cc)
    by_entry false walk readings here = absurd (cc)

-- one runner's stage and readings change
pub one_reader : (stage : ℕ → Stage) (walk : ℕ → Readings) (r : ℕ) (st : Stage) (readings : Readings)
    → ◌≡◌ {A = ℕ → Option Readings} (λ i. readers (upd stage r st) (upd walk r readings) i)
    (upd (λ i. readers stage walk i) r (cond (is_entered st) (Some readings) None))
one_reader stage walk r st readings = fun_ext at
  where
    at : (i : ℕ) → readers (upd stage r st) (upd walk r readings) i ≡ upd (λ i. readers stage walk i) r
        (cond (is_entered st) (Some readings) None) i
    at i = ⊎_elim
        (λ e. ap (λ x. cond (is_entered x) (Some (upd walk r readings i)) None) (upd_same stage r i st e)
        ∙ (ap (λ x. cond (is_entered st) (Some x) None) (upd_same walk r i readings e)
        ∙ sym (upd_same (λ i. readers stage walk i) r i (cond (is_entered st) (Some readings) None) e)))
        (λ ne. ap (λ x. cond (is_entered x) (Some (upd walk r readings i)) None) (upd_other stage r i st ne)
        ∙ (ap (λ x. cond (is_entered (stage i)) (Some x) None) (upd_other walk r i readings ne)
        ∙ sym (upd_other (λ i. readers stage walk i) r i (cond (is_entered st) (Some readings) None) ne)))
        (cases_eq i r)

-- a runner's stage changes by which it isn't entered, before and after
pub no_reader : (stage : ℕ → Stage) (walk : ℕ → Readings) (r : ℕ) (st : Stage) → is_entered (stage r) ≡ false → is_entered st ≡ false
    → ◌≡◌ {A = ℕ → Option Readings} (λ i. readers (upd stage r st) walk i) (λ i. readers stage walk i)
no_reader stage walk r st before after = fun_ext at
  where
    at : (i : ℕ) → readers (upd stage r st) walk i ≡ readers stage walk i
    at i = ⊎_elim
        (λ e. ap (λ x. cond (is_entered x) (Some (walk i)) None) (upd_same stage r i st e) ∙ (left_reads st (walk i) after
        ∙ sym (left_reads (stage i) (walk i) (ap (λ n. is_entered (stage n)) e ∙ before))))
        (λ ne. ap (λ x. cond (is_entered x) (Some (walk i)) None) (upd_other stage r i st ne)) (cases_eq i r)

-- a runner leaves
pub reader_leaves : (stage : ℕ → Stage) (walk : ℕ → Readings) (r : ℕ) (st : Stage) → is_entered st ≡ false
    → ◌≡◌ {A = ℕ → Option Readings} (λ i. readers (upd stage r st) walk i) (upd (λ i. readers stage walk i) r None)
reader_leaves stage walk r st after =
    ap (λ f i. readers (upd stage r st) f i) (sym (upd_found walk r (walk r) refl))
    ∙ (one_reader stage walk r st (walk r) ∙ ap (upd (λ i. readers stage walk i) r) (left_reads st (walk r) after))

-- an entered runner's readings change
pub reader_reads : (stage : ℕ → Stage) (walk : ℕ → Readings) (r : ℕ) (readings : Readings) → is_entered (stage r) ≡ true
    → ◌≡◌ {A = ℕ → Option Readings} (λ i. readers stage (upd walk r readings) i) (upd (λ i. readers stage walk i) r (Some readings))
reader_reads stage walk r readings entered =
    ap (λ f i. readers f (upd walk r readings) i) (sym (upd_found stage r (stage r) refl))
    ∙ (one_reader stage walk r (stage r) readings ∙ ap (upd (λ i. readers stage walk i) r) (entered_reads (stage r) readings entered))
