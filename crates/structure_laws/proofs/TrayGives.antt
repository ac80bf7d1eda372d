-- The test structure gives the core what it relies on.
use Rattle.std.proofs.Common.{◌≡◌, ◌≢◌, ℕ, suc, ◌+◌, ◌*◌, ◌≤◌, Bool, true, cond, refl, sym, ap, ◌∙◌, subst, inl, ⊎_elim, arith}
use Rattle.std.specs.Prelude.{◌==◌, ◌&&◌, ◌-◌, Some, [], ◌∷◌, slice_get}
use Rattle.std.proofs.lemmas.Bool.{true≢false}
use mathlib.Core.Logic.{dite}
use native.Mathlib.Decide.{ℕ_discrete}
use Rattle.body_terms.specs.block_words.specs.table_words.specs.small_lemmas.proofs.Numbers.{zero_not_suc as zero_suc}
use Rattle.body_terms.specs.Word.{value_of}
use Rattle.body_terms.specs.declared.value.Value.{Value}
use Rattle.body_terms.specs.declared.step.Step.TheVariants.{Want, Store}
use Rattle.body_terms.specs.declared.thunk.Thunk.{Thunk}
use Rattle.body_terms.specs.block_words.specs.table_words.specs.declared.layout.Layout.{Layout}
use Rattle.structure_laws.specs.Scene.{Readings, Section, Live, Scene}
use Rattle.structure_laws.specs.Sections.{Here, Settled}
use Rattle.structure_laws.specs.Sound.{Sound}
use Rattle.structure_laws.specs.Gives.{GivesLaw}
use Rattle.structure_laws.specs.Tray.{Form, Unlink, Other, form_of, form_of_lock, operand_of, body_of, tray_body, tray_reaches, TrayKept, tray}
use Rattle.structure_laws.proofs.Changes.{equal_of, both_true, or_cases}
use Rattle.structure_laws.proofs.Steps.{load_step, retire_step}

-- the step of a section of this form
pub step_at : (x : Section) (f : Form) (j : ℕ) → form_of x.thunk ≡ f → slice_get (tray_body x.thunk) j ≡ slice_get (body_of f (operand_of x.thunk)) j
step_at x f j e = ap (λ f. slice_get (body_of f (operand_of x.thunk)) j) e

unlink_of : (b : Bool) (number value : ℕ) → cond b (form_of_lock number value) Other ≡ Unlink → value ≢ 0
unlink_of b number value h = λ z. grind arith

-- the form that takes a node out has a link as its operand
pub unlink_value : (thunk : Thunk) → form_of thunk ≡ Unlink → value_of (operand_of thunk) ≢ 0
unlink_value thunk h = unlink_of (thunk.lock == 0) thunk.form (value_of (operand_of thunk)) h

-- every open section has place 0 as its outer lock, so there is one at most
pub outer_zero : (layout : Layout) (s : Scene) → Sound tray layout s → (d : ℕ) (x : Section) → Here s d x → 0 ≡ x.thunk.lock
outer_zero layout s sound d x here = sym (equal_of x.thunk.lock 0 (sound.fits d x here))

pub one_section : (layout : Layout) (s : Scene) → Sound tray layout s → (d e : ℕ) (x y : Section) → Here s d x → Here s e y → d ≡ e
one_section layout s sound d e x y here there = dite (ℕ_discrete d e) (λ same. same)
    (λ ne. absurd (sound.apart d e x y here there ne 0 (inl (outer_zero layout s sound d x here)) (inl (outer_zero layout s sound e y there))))

unlink_store : (word j r : ℕ) (v : Value) → slice_get (body_of Unlink word) j ≡ Some (Store r v) → 4 ≤ j
unlink_store word j r v h = grind arith

-- the node that a section takes out is live as long as the section has to retire it
pub unlink_live : (layout : Layout) (s : Scene) → Sound tray layout s → TrayKept s → (d : ℕ) (x : Section) → Here s d x → form_of x.thunk ≡ Unlink → 2 ≤ x.at → x.at ≤ 5
    → s.status (value_of (operand_of x.thunk) - 1) ≡ Live
unlink_live layout s sound kept d x here form low high = dite (ℕ_discrete x.at 5)
    (λ e. (kept.unlinked d x here form e).0)
    (λ ne.
    let word = operand_of x.thunk in
    let wanted : x.reg 0 ≡ word = sound.wanted d x here 1 0 word (omega arith) (step_at x Unlink 1 form) in
    let loaded : s.cells 2 ≡ x.reg 0 = sound.loaded d x here 0 2 0 (omega arith) (step_at x Unlink 0 form)
    (λ i v h. let four = unlink_store word i 0 v (sym (step_at x Unlink i form) ∙ h) in omega arith) in
    let some = unlink_value x.thunk form in
    kept.linked (value_of word - 1) (ap value_of (loaded ∙ wanted) ∙ omega arith))

-- a section with nothing to leave at has passed its Want
settled_passed : (x : Section) → form_of x.thunk ≡ Unlink → Settled tray x → 2 ≤ x.at
settled_passed x form settled =
    let word = operand_of x.thunk in
    let passed : x.at ≤ 1 → ⊥ = λ low. true≢false (settled 1 (Want 0 word) low (step_at x Unlink 1 form)) in
    omega arith

-- what the readings reach, they reach by a word of place 2
pub reached : (readings : Readings) (t : ℕ) → tray_reaches readings t ≡ true → (i p w : ℕ) × (slice_get readings i ≡ Some (p, w)) × ((p == 2) ≡ true) × (value_of w ≡ suc t)
reached [] t h = absurd (cc)
reached (reading ∷ readings) t h = or_cases ((reading.0 == 2) && (value_of reading.1 == suc t)) (tray_reaches readings t) h
    (λ a. let both = both_true _ _ a in (0, reading.0, reading.1, refl, both.0, equal_of _ _ both.1))
    (λ b. let later = reached readings t b in (suc later.0, later.1, later.2, later.3, later.4, later.5))

no_link : (q i : ℕ) → 3 + 5 * q + i ≡ 2 → ⊥
no_link q i h = omega arith

pub tray_gives : (layout : Layout) → GivesLaw tray layout
tray_gives layout s sound kept = record {
  guarded = λ d j p r x here le h. inl (outer_zero layout s sound d x here);
  walked = λ r readings op here allowed. tt;
  reach = λ readings t reader h. reached readings t h;
  steady_store = λ d j p q r x v here store load. refl;
  steady_lock = λ p q w lock. refl;
  steady_hand = λ t i q w free low other. refl;
  steady_guard_store = λ d j p q r x v here store load. refl;
  steady_guard_lock = λ p q w lock. refl;
  steady_guard_hand = λ t i q w free low other. refl;
  live = λ p t used links. kept.linked t (ap (λ z. value_of (s.cells z)) (sym (equal_of p 2 links.0)) ∙ links.1);
  limbo = λ q y t i retired recent low links. absurd (no_link q i (equal_of _ 2 links.0));
  retire_live = λ d j t x here settled le h.
      let step = retire_step (form_of x.thunk) (operand_of x.thunk) j t h in
      subst (λ t. s.status t ≡ Live) (sym step.2) (unlink_live layout s sound kept d x here step.0 (settled_passed x step.0 settled) (let five = step.1 in omega arith));
  retire_unfixed = λ d j t x here settled le h. omega arith;
  retire_once = λ d e i j t x y here there settled settled' le le' h h'.
      (one_section layout s sound d e x y here there, (retire_step (form_of x.thunk) (operand_of x.thunk) i t h).1 ∙ sym (retire_step (form_of y.thunk) (operand_of y.thunk) j t h').1);
  retire_unlinked = λ d t p x here h used links.
      let step = retire_step (form_of x.thunk) (operand_of x.thunk) x.at t h in
      let none = (kept.unlinked d x here step.0 step.1).1 in
      zero_suc t (sym none ∙ ap (λ z. value_of (s.cells z)) (sym (equal_of p 2 links.0)) ∙ links.1);
  store_used = λ d i j p r x v here settled le store load.
      let step = load_step (form_of x.thunk) (operand_of x.thunk) j p r load in
      inl (⊎_elim (λ one. let e = one.1 in omega arith) (⊎_elim (λ two. let e = two.1 in omega arith) (λ two. let e = two.1 in omega arith)) step.2);
  one_key = λ map. absurd (true≢false (sym map));
}
