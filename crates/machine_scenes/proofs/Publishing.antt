-- A publication leads from a lawful scene to a lawful scene.
use Rattle.std.proofs.Common.{◌≡◌, ◌≢◌, ℕ, suc, Bool, true, sym, ap, ◌∙◌, subst, ⊎_elim, arith}
use Rattle.std.specs.Prelude.{◌&&◌, ◌==◌, cond, Option, Some, None}
use Rattle.std.proofs.lemmas.Bool.{cases_eq}
use mathlib.Core.Path.{fun_ext}
use Rattle.agreement_core.specs.map_history.specs.declared.op.Op.{Op}
use Rattle.agreement_core.specs.body_terms.specs.Update.{upd}
use Rattle.agreement_core.specs.body_terms.specs.Word.{value_of, version_of, held_word, is_free, is_spent}
use Rattle.agreement_core.specs.body_terms.specs.declared.micro.Micro.{Micro}
use Rattle.agreement_core.specs.body_terms.specs.declared.thunk.Thunk.{Thunk}
use Rattle.agreement_core.specs.table_words.specs.declared.layout.Layout.{Layout}
use Rattle.agreement_core.specs.table_words.specs.Limits.{IsWithinLimits}
use Rattle.agreement_core.specs.section_lines.specs.structure_laws.specs.Scene.{Readings, Status, opened}
use Rattle.agreement_core.specs.section_lines.specs.structure_laws.specs.Scene as scenes
use Rattle.agreement_core.specs.section_lines.specs.structure_laws.specs.Meaning.{Meaning}
use Rattle.agreement_core.specs.section_lines.specs.structure_laws.specs.Sections.{IsAllowed, Unheld}
use Rattle.agreement_core.specs.section_lines.specs.structure_laws.specs.Laws.{Laws}
use Rattle.agreement_core.specs.section_lines.specs.structure_laws.proofs.Changes.{upd_same, upd_other}
use Rattle.agreement_core.specs.section_lines.specs.structure_laws.proofs.Moves.{moves}
use Rattle.agreement_core.specs.section_lines.specs.Progress.{section_at}
use Rattle.agreement_core.specs.section_lines.proofs.Moves.{begins_opened}
use Rattle.agreement_core.specs.State.{Section, AgreementState}
use Rattle.agreement_core.specs.Events.{Enabled, after, Publish}
use Rattle.agreement_core.specs.Sound.{IsSound}
use Rattle.agreement_core.proofs.Words.{version_held, free_value}
use Rattle.machine_scenes.specs.Shown.{Publications, AreOfThunks, IsOfThunk, rules_of, publishes}
use Rattle.machine_scenes.proofs.Shown.{shown, shown_open, shown_unused}
use Rattle.machine_scenes.proofs.Takes.{holder_named}
use Rattle.machine_scenes.proofs.RunSteps.{scene, Lawful, with_sections}

module _ (m : Meaning) (laws : Laws m) (layout : Layout) (limits : IsWithinLimits layout) (p : Publications)
    (epoch : ℕ) (status : ℕ → Status) (reader : ℕ → Option Readings) (w : AgreementState) (old : IsSound (rules_of m layout) w)
    (of_thunks : AreOfThunks m p w)
    (lawful : Lawful m laws layout limits p epoch status reader w.shared.cells (λ d. shown m p w.used w.section d))
    (d lock word request : ℕ) (code : ℕ → Micro) (slot : ℕ → ℕ) (ok : Enabled (rules_of m layout) w (Publish d lock word request code slot))
    (op : Op) (thunk : Thunk) (readings : Readings) (r : ℕ) where
  abbrev cells : ℕ → ℕ
  cells = w.shared.cells

  abbrev all : ℕ → Option scenes.Section
  all i = shown m p w.used w.section i

  abbrev pub new : Section
  new = record (w.section d) { lock = lock; word = word; request = request; code = code; slot = slot; log = λ k. 0; edge = 0 }

  abbrev p' : Publications
  p' = publishes p d r op thunk readings

  abbrev pub more : ℕ → Option scenes.Section
  more i = shown m p' (upd w.used d true) (upd w.section d new) i

  -- the new section stands at its beginning
  begun : (i : ℕ) → i ≡ d → more i ≡ Some (opened op thunk readings)
  begun i e =
      shown_open m p' i (upd w.used d true i) (upd w.section d new i) (upd_same w.used d i true e)
      (ap (λ (x : Section). x.done) (upd_same w.section d i new e) ∙ ok.3)
      ∙ ap Some (as_begun (upd p.op d op i) op (upd p.thunk d thunk i) thunk (upd p.readings d readings i) readings (upd w.section d new i)
      (upd_same p.op d i op e) (upd_same p.thunk d i thunk e) (upd_same p.readings d i readings e)
      (ap (λ (x : Section). x.edge) (upd_same w.section d i new e)))
    where
      as_begun : (o o' : Op) (t t' : Thunk) (a a' : Readings) (x : Section) → o ≡ o' → t ≡ t' → a ≡ a' → x.edge ≡ 0
          → section_at o t a (m.body t) x.log x.edge ≡ opened o' t' a'
      as_begun o o' t t' a a' x e f g edge =
          ap (section_at o t a (m.body t) x.log) edge
          ∙ (begins_opened (m.body t) o t a x.log ∙ (ap (λ o. opened o t a) e ∙ (ap (λ t. opened o' t a) f ∙ ap (opened o' t') g)))

  -- what is shown of a section
  abbrev of : Op → Thunk → Readings → Bool → Section → Option scenes.Section
  of o t a used x = cond (used && (x.done == 0)) (Some (section_at o t a (m.body t) x.log x.edge)) None

  -- the others stand
  others : (i : ℕ) → i ≢ d → more i ≡ all i
  others i ne =
      same (upd p.op d op i) (p.op i) (upd p.thunk d thunk i) (p.thunk i) (upd p.readings d readings i) (p.readings i)
      (upd w.used d true i) (w.used i) (upd w.section d new i) (w.section i)
      (upd_other p.op d i op ne) (upd_other p.thunk d i thunk ne) (upd_other p.readings d i readings ne) (upd_other w.used d i true ne)
      (upd_other w.section d i new ne)
    where
      same : (o o' : Op) (t t' : Thunk) (a a' : Readings) (u u' : Bool) (x x' : Section) → o ≡ o' → t ≡ t' → a ≡ a' → u ≡ u' → x ≡ x'
          → of o t a u x ≡ of o' t' a' u' x'
      same o o' t t' a a' u u' x x' e f g h k =
          ap (λ o. of o t a u x) e ∙ (ap (λ t. of o' t a u x) f
          ∙ (ap (λ a. of o' t' a u x) g ∙ (ap (λ u. of o' t' a' u x) h ∙ ap (of o' t' a' u') k)))

  pub sections_publish : ◌≡◌ {A = ℕ → Option scenes.Section} more (upd all d (Some (opened op thunk readings)))
  sections_publish = fun_ext at
    where
      at : (i : ℕ) → more i ≡ upd all d (Some (opened op thunk readings)) i
      at i = ⊎_elim (λ e. begun i e ∙ sym (upd_same all d i (Some (opened op thunk readings)) e))
          (λ ne. others i ne ∙ sym (upd_other all d i (Some (opened op thunk readings)) ne)) (cases_eq i d)

  -- no open section holds a lock that is free
  unheld : (l : ℕ) → l ≡ lock → Unheld m (scene m laws layout limits p epoch status reader cells all) l
  unheld l e d' x here holds =
      let named = holder_named m layout p w old of_thunks d' l x here holds in
      let value : value_of (cells l) ≡ 0 = ap (λ n. value_of (cells n)) e ∙ (ap value_of ok.1 ∙ free_value word ok.2.free) in
      absurd (let f : suc d' ≡ 0 = sym named ∙ value in omega arith)

  -- an entered runner publishes a section of an operation within the limits that fits what it has read
  pub publish_lawful : reader r ≡ Some readings → IsAllowed op → m.fits layout op readings thunk ≡ true → lock ≡ thunk.lock
      → word ≡ thunk.word
      → Lawful m laws layout limits p' epoch status reader (upd cells lock (held_word d word)) more
  publish_lawful reads allowed fits same_lock same_word =
      with_sections m laws layout limits p' epoch status reader (upd cells lock (held_word d word)) more
      (upd all d (Some (opened op thunk readings))) sections_publish
      ((moves m laws layout limits).lock (scene m laws layout limits p epoch status reader cells
      (upd all d (Some (opened op thunk readings)))) lock (held_word d word)
      ok.2.line.placed.outer_lock (let e = version_held d word ok.2.link in let f = ap version_of ok.1 in omega arith)
      ((moves m laws layout limits).holds (scene m laws layout limits p epoch status reader cells all) r d readings op thunk reads
      (record {
        allowed = allowed;
        fits = fits;
        free = ap is_free (sym same_word) ∙ ok.2.free;
        unspent = ap (is_spent layout.version_max) (sym same_word) ∙ ok.2.unspent;
        found = ap cells (sym same_lock) ∙ (ok.1 ∙ same_word);
        unheld = unheld thunk.lock (sym same_lock);
      })
      (shown_unused m p d (w.used d) (w.section d) ok.0) lawful))

  -- each published section stays that of its thunk
  pub publish_of_thunks : IsOfThunk m new thunk → AreOfThunks m p' (after w (Publish d lock word request code slot))
  publish_of_thunks is i used = ⊎_elim
      (λ e. subst (λ (x : Section). IsOfThunk m x (upd p.thunk d thunk i)) (sym (upd_same w.section d i new e))
      (subst (IsOfThunk m new) (sym (upd_same p.thunk d i thunk e)) is))
      (λ ne. subst (λ (x : Section). IsOfThunk m x (upd p.thunk d thunk i)) (sym (upd_other w.section d i new ne))
      (subst (IsOfThunk m (w.section i)) (sym (upd_other p.thunk d i thunk ne)) (of_thunks i (sym (upd_other w.used d i true ne) ∙ used))))
      (cases_eq i d)
