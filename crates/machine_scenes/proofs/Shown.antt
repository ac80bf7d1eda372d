-- Which sections a scene shows, and how one section's change shows in it.
use Rattle.std.proofs.Common.{◌≡◌, ◌≢◌, ℕ, Bool, true, false, cond, sym, ap, ◌∙◌, ⊎_elim, arith}
use Rattle.std.specs.Prelude.{◌==◌, ◌&&◌, Option, Some, None}
use Rattle.std.proofs.lemmas.Bool.Decides.{nat_tests}
use Rattle.std.proofs.lemmas.Bool.{cases_eq}
use mathlib.Core.Path.{fun_ext}
use Rattle.agreement_core.specs.body_terms.specs.Update.{upd}
use Rattle.agreement_core.specs.section_lines.specs.structure_laws.specs.Scene as scenes
use Rattle.agreement_core.specs.section_lines.specs.structure_laws.specs.Meaning.{Meaning}
use Rattle.agreement_core.specs.section_lines.specs.structure_laws.proofs.Changes.{upd_same, upd_other}
use Rattle.agreement_core.specs.State.{Section}
use Rattle.machine_scenes.specs.Shown.{Publications, section_with, section_of}

-- a changed function, seen through another one at each number
pub map_upd : {A B : Type 0} → (h : ℕ → A → B) (f : ℕ → A) (k : ℕ) (v : A)
    → ◌≡◌ {A = ℕ → B} (λ i. h i (upd f k v i)) (upd (λ i. h i (f i)) k (h k v))
map_upd {A = A} {B = B} h f k v = fun_ext at
  where
    at : (i : ℕ) → h i (upd f k v i) ≡ upd (λ i. h i (f i)) k (h k v) i
    at i = ⊎_elim
        (λ e. ap (h i) (upd_same f k i v e) ∙ (ap (λ j. h j v) e ∙ sym (upd_same (λ i. h i (f i)) k i (h k v) e)))
        (λ ne. ap (h i) (upd_other f k i v ne) ∙ sym (upd_other (λ i. h i (f i)) k i (h k v) ne))
        (cases_eq i k)

-- a function that is changed to what it is
pub upd_found : {A : Type 0} → (f : ℕ → A) (k : ℕ) (v : A) → v ≡ f k → upd f k v ≡ f
upd_found f k v e = fun_ext at
  where
    at : (i : ℕ) → upd f k v i ≡ f i
    at i = ⊎_elim (λ same. upd_same f k i v same ∙ (e ∙ ap f (sym same))) (λ ne. upd_other f k i v ne) (cases_eq i k)

module _ (m : Meaning) (p : Publications) where
  pub shown_open : (d : ℕ) (used : Bool) (x : Section) → used ≡ true → x.done ≡ 0
      → section_of m p d used x ≡ Some (section_with m p d x.log x.edge)
  shown_open d used x is undone = stands used (x.done) (Some (section_with m p d x.log x.edge)) is undone
    where
      stands : (used : Bool) (done : ℕ) (y : Option scenes.Section) → used ≡ true → done ≡ 0 → cond (used && (done == 0)) y None ≡ y
      stands used done y is undone = grind (arith, nat_tests)

  pub shown_unused : (d : ℕ) (used : Bool) (x : Section) → used ≡ false → section_of m p d used x ≡ None
  shown_unused d used x is = unused used (x.done) (Some (section_with m p d x.log x.edge)) is
    where
      unused : (used : Bool) (done : ℕ) (y : Option scenes.Section) → used ≡ false → cond (used && (done == 0)) y None ≡ None
      unused used done y is = grind (arith, nat_tests)

  pub shown_done : (d : ℕ) (used : Bool) (x : Section) → x.done ≢ 0 → section_of m p d used x ≡ None
  shown_done d used x ne = closed used (x.done) (Some (section_with m p d x.log x.edge)) ne
    where
      closed : (used : Bool) (done : ℕ) (y : Option scenes.Section) → done ≢ 0 → cond (used && (done == 0)) y None ≡ None
      closed used done y ne = grind (arith, nat_tests)

  -- a section that is shown is open
  pub record IsShown (d : ℕ) (published : Bool) (x : Section) (y : scenes.Section) : Type 0 where
    pub used : published ≡ true
    pub undone : x.done ≡ 0
    pub same : y ≡ section_with m p d x.log x.edge

  pub shown_some : (d : ℕ) (used : Bool) (x : Section) (y : scenes.Section) → section_of m p d used x ≡ Some y → IsShown d used x y
  shown_some d used x y here =
      let is = some used (x.done) (section_with m p d x.log x.edge) y here in record { used = is.0; undone = is.1; same = is.2 }
    where
      some : (used : Bool) (done : ℕ) (z y : scenes.Section) → cond (used && (done == 0)) (Some z) None ≡ Some y → (used ≡ true)
          × (done ≡ 0) × (y ≡ z)
      some used done z y here = (grind (arith, nat_tests), grind (arith, nat_tests), grind (arith, nat_tests))

  -- the sections that a state shows
  abbrev pub shown : (ℕ → Bool) → (ℕ → Section) → ℕ → Option scenes.Section
  shown used section d = section_of m p d (used d) (section d)

  pub shown_change : (used : ℕ → Bool) (section : ℕ → Section) (d : ℕ) (x : Section)
      → ◌≡◌ {A = ℕ → Option scenes.Section} (λ i. shown used (upd section d x) i)
      (upd (λ i. shown used section i) d (section_of m p d (used d) x))
  shown_change used section d x = map_upd (λ i x. section_of m p i (used i) x) section d x

  -- a change of a section that doesn't show
  pub shown_same : (used : ℕ → Bool) (section : ℕ → Section) (d : ℕ) (x : Section)
      → section_of m p d (used d) x ≡ section_of m p d (used d) (section d)
      → ◌≡◌ {A = ℕ → Option scenes.Section} (λ i. shown used (upd section d x) i) (λ i. shown used section i)
  shown_same used section d x e = shown_change used section d x ∙ upd_found (λ i. shown used section i) d (section_of m p d (used d) x) e
