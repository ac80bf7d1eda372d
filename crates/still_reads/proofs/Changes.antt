-- A change of cells leaves what was read behind a free lock, where no place changes that a free lock guards.
use Rattle.std.proofs.Common.{◌≡◌, ℕ, suc, ◌<◌, ◌≤◌, true, false, sym, ap, ◌∙◌, ⊎_elim, arith}
use Rattle.std.specs.Prelude.{◌⊎◌}
use Rattle.agreement_core.specs.body_terms.specs.Update.{upd}
use Rattle.agreement_core.specs.body_terms.specs.Word.{version_of, next_word, is_free}
use Rattle.agreement_core.specs.body_terms.specs.declared.value.Value.{Value}
use Rattle.agreement_core.specs.body_terms.specs.declared.step.Step.TheVariants.{Load, Store}
use Rattle.agreement_core.specs.table_words.specs.declared.layout.Layout.{Layout}
use Rattle.agreement_core.specs.table_words.specs.Limits.{IsWithinLimits}
use Rattle.agreement_core.specs.section_lines.specs.structure_laws.specs.Scene.{Readings, Section, Scene, Free}
use Rattle.agreement_core.specs.section_lines.specs.structure_laws.specs.Meaning.{Meaning}
use Rattle.agreement_core.specs.section_lines.specs.structure_laws.specs.Sections.{value_in, Here, IsStep, Holds}
use Rattle.agreement_core.specs.section_lines.specs.structure_laws.specs.Cells.{IsSeen, IsOutside, cell_of}
use Rattle.agreement_core.specs.section_lines.specs.structure_laws.specs.Sound.{IsRead}
use Rattle.agreement_core.specs.section_lines.specs.structure_laws.specs.Lawful.{IsLawful}
use Rattle.agreement_core.specs.section_lines.specs.structure_laws.specs.Laws.{Laws}
use Rattle.agreement_core.specs.section_lines.specs.structure_laws.proofs.Changes.{upd_other}
use Rattle.read_answers.specs.Looks.{ReadsStand}
use Rattle.machine_scenes.proofs.Links.{gives, outside_used, true_false}

module _ (m : Meaning) (s : Scene) where
  -- each place that may be read outside a run keeps its guard, unless it is a lock, and its word where a free lock
  -- guards it
  pub record LeavesReads (cells : ℕ → ℕ) : Type 0 where
    pub steady : (q : ℕ) → IsOutside m s q → m.is_lock q ≡ false → m.guard cells q ≡ m.guard s.cells q
    pub apart : (q : ℕ) → IsOutside m s q → m.is_lock q ≡ false → is_free (s.cells (m.guard s.cells q)) ≡ true
        → cells q ≡ s.cells q

  -- no open section holds a free lock
  abbrev pub FreeAreUnheld : Type 0
  FreeAreUnheld = (d l : ℕ) (x : Section) → Here s d x → Holds m x l → is_free (s.cells l) ≡ false

  -- a word that was read earlier and stands now stood before
  stood : (free old new : ℕ) → IsSeen free old → (new ≡ old) ⊎ (version_of new ≡ suc (version_of old)) → new ≡ free → old ≡ free
  stood free old new seen up is = ⊎_elim (λ same. sym same ∙ is)
      (λ later. absurd (⊎_elim
      (λ below. let e = ap version_of is in omega (arith, below, later, e))
      (λ same. let e = ap version_of is in let f = ap version_of same in omega (arith, later, e, f)) seen)) up

  -- what was read stands behind such a change, if each cell has its word or a later one
  pub still_stands : (cells : ℕ → ℕ) → LeavesReads cells → ((p : ℕ) → (cells p ≡ s.cells p) ⊎ (version_of (cells p) ≡ suc (version_of (s.cells p))))
      → (readings : Readings) → IsRead m s readings → ReadsStand m s.cells readings → ReadsStand m cells readings
  still_stands cells leaves up readings read old i j lock free place word lt at_lock at_place locks frees here plain guards =
      let outside = read.outside j place word at_place in
      let was = stood free (s.cells lock) (cells lock) (read.seen i lock free at_lock) (up lock) here in
      let guard = sym (leaves.steady place outside plain) ∙ guards in
      leaves.apart place outside plain (ap (λ l. is_free (s.cells l)) guard ∙ (ap is_free was ∙ frees))
      ∙ old i j lock free place word lt at_lock at_place locks frees was plain guard

module _ (m : Meaning) (laws : Laws m) (layout : Layout) (limits : IsWithinLimits layout) (s : Scene) (lawful : IsLawful m layout s) where
  pub same_reads : (cells : ℕ → ℕ) → cells ≡ s.cells → LeavesReads m s cells
  same_reads cells e = record {
    steady = λ q outside plain. ap (λ (f : ℕ → ℕ). m.guard f q) e;
    apart = λ q outside plain free. ap (λ (f : ℕ → ℕ). f q) e;
  }

  -- a lock changes
  pub lock_reads : (p w : ℕ) → m.is_lock p ≡ true → LeavesReads m s (upd s.cells p w)
  lock_reads p w lock = record {
    steady = λ q outside plain. (gives m laws layout limits s lawful).steady_guard_lock p q w lock;
    apart = λ q outside plain free. upd_other s.cells p q w (λ same. true_false (ap m.is_lock same ∙ lock) plain);
  }

  -- a cell of a slot in a hand changes
  pub hand_reads : (t i w : ℕ) → s.status t ≡ Free → i < 5 → LeavesReads m s (upd s.cells (cell_of m t i) w)
  hand_reads t i w free low = record {
    steady = λ q outside plain. (gives m laws layout limits s lawful).steady_guard_hand t i q w free low
        (λ cell. outside_used m laws layout limits s lawful q outside plain t cell free);
    apart = λ q outside plain unlocked. upd_other s.cells (cell_of m t i) q w
        (λ same. outside_used m laws layout limits s lawful q outside plain t (i, low, same) free);
  }

  -- an open section stores to a cell, whose guard it holds
  pub store_reads : FreeAreUnheld m s → (d j p r : ℕ) (x : Section) (v : Value) → Here s d x → IsStep m x x.at (Store r v) → j ≤ x.at
      → IsStep m x j (Load p r) → LeavesReads m s (upd s.cells p (next_word (x.reg r) (value_in x.reg v)))
  store_reads unheld d j p r x v here step le load = record {
    steady = λ q outside plain. (gives m laws layout limits s lawful).steady_guard_store d j p q r x v here step load;
    apart = λ q outside plain free. upd_other s.cells p q (next_word (x.reg r) (value_in x.reg v)) (λ same.
        let holds = (gives m laws layout limits s lawful).guarded d j p r x here le load in
        true_false (ap (λ n. is_free (s.cells (m.guard s.cells n))) (sym same) ∙ free) (unheld d (m.guard s.cells p) x here holds));
  }
