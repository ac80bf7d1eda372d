-- What each step that changes a cell leaves of the links.
use Rattle.std.proofs.Common.{◌≡◌, ◌≢◌, ℕ, ◌+◌, ◌*◌, ◌<◌, ◌≤◌, Bool, true, false, refl, sym, ap, ◌∙◌, subst, ⊎_elim, arith}
use Rattle.std.specs.Prelude.{◌⊎◌}
use Rattle.agreement_core.specs.body_terms.specs.Update.{upd}
use Rattle.agreement_core.specs.body_terms.specs.Word.{next_word}
use Rattle.agreement_core.specs.body_terms.specs.declared.step.Step.TheVariants.{Load, Store}
use Rattle.agreement_core.specs.body_terms.specs.declared.value.Value.{Value}
use Rattle.agreement_core.specs.table_words.specs.declared.layout.Layout.{Layout}
use Rattle.agreement_core.specs.table_words.specs.Limits.{IsWithinLimits}
use Rattle.agreement_core.specs.section_lines.specs.structure_laws.specs.Scene.{Section, Status, Free, Live, Retired, Scene}
use Rattle.agreement_core.specs.section_lines.specs.structure_laws.specs.Meaning.{Meaning}
use Rattle.agreement_core.specs.section_lines.specs.structure_laws.specs.Sections.{Here, IsStep, Settled, value_in}
use Rattle.agreement_core.specs.section_lines.specs.structure_laws.specs.Cells.{cell_of, IsCellOf, IsSafe, IsOutside}
use Rattle.agreement_core.specs.section_lines.specs.structure_laws.specs.Laws.{Laws}
use Rattle.agreement_core.specs.section_lines.specs.structure_laws.specs.Gives.{Gives}
use Rattle.agreement_core.specs.section_lines.specs.structure_laws.specs.Lawful.{IsLawful}
use Rattle.agreement_core.specs.section_lines.specs.structure_laws.proofs.Bodies.{no_exit_after}
use Rattle.agreement_core.specs.section_lines.specs.structure_laws.proofs.Changes.{upd_other}
use Rattle.agreement_core.specs.Checks.{exchanged}
use Rattle.machine_scenes.specs.Cells.{LeavesLinks}

pub true_false : {b : Bool} → b ≡ true → b ≡ false → ⊥
true_false e e' = cc

pub one_slot : (first t u i j p : ℕ) → i < 5 → j < 5 → p ≡ first + 5 * t + i → p ≡ first + 5 * u + j → t ≡ u
one_slot first t u i j p low low' e e' = omega arith

pub no_slot : (first t i p : ℕ) → p < first → p ≡ first + 5 * t + i → ⊥
no_slot first t i p low e = omega arith

module _ (m : Meaning) (laws : Laws m) (layout : Layout) (limits : IsWithinLimits layout) (s : Scene) (lawful : IsLawful m layout s) where
  pub gives : Gives m layout s
  gives = (laws.over layout limits).gives s lawful.sound lawful.kept

  pub same_leaves : (cells : ℕ → ℕ) → cells ≡ s.cells → LeavesLinks m s cells
  same_leaves cells e = record {
    steady = λ q free. ap (λ f. m.is_link f q) e;
    retired = λ u z i low retired link. ap
        (λ (f : ℕ → ℕ). f (cell_of m u i)) e;
  }

  lock_leaves : (p w : ℕ) → m.is_lock p ≡ true → LeavesLinks m s (upd s.cells p w)
  lock_leaves p w lock = record {
    steady = λ q free. gives.steady_lock p q w lock;
    retired = λ u z i low retired link. upd_other s.cells p (cell_of m u i) w
        (λ same. true_false link (laws.unlinked_lock (upd s.cells p w) (cell_of m u i) (ap m.is_lock same ∙ lock)));
  }

  pub exchange_leaves : (p found new : ℕ) → m.is_lock p ≡ true → LeavesLinks m s (upd s.cells p (exchanged (s.cells p) found new))
  exchange_leaves p found new lock = lock_leaves p (exchanged (s.cells p) found new) lock

  pub put_leaves : (p w : ℕ) → m.is_lock p ≡ true → LeavesLinks m s (upd s.cells p w)
  put_leaves p w lock = lock_leaves p w lock

  -- a cell of a slot in a hand
  pub hand_leaves : (t i w : ℕ) → s.status t ≡ Free → i < 5 → LeavesLinks m s (upd s.cells (cell_of m t i) w)
  hand_leaves t i w free low = record {
    steady = λ q used. gives.steady_hand t i q w free low (λ cell. used t cell free);
    retired = λ u z k low' retired link. upd_other s.cells (cell_of m t i) (cell_of m u k) w
        (λ same. free_retired (s.status u) z (ap s.status (one_slot m.fixed_cells u t k i (cell_of m u k) low' low refl same) ∙ free)
        retired);
  }
    where
      free_retired : (x : Status) (y : ℕ) → x ≡ Free → x ≡ Retired y → ⊥
      free_retired x y e e' = cc

  -- a section's store
  pub store_leaves : (d j p r : ℕ) (x : Section) (v : Value) → Here s d x → IsStep m x x.at (Store r v) → IsStep m x j (Load p r)
      → LeavesLinks m s (upd s.cells p (next_word (x.reg r) (value_in x.reg v)))
  store_leaves d j p r x v here step load = record {
    steady = λ q used. gives.steady_store d j p q r x v here step load;
    retired = λ u z k low retired link. upd_other s.cells p (cell_of m u k) (next_word (x.reg r) (value_in x.reg v))
        (λ same. ⊎_elim (λ fixed. no_slot m.fixed_cells u k p fixed (sym same))
        (λ live. live_retired (s.status u) z (ap s.status (one_slot m.fixed_cells u live.0 k live.1.0 p low live.1.1 (sym same) live.1.2)
        ∙ live.2) retired)
        (gives.store_used d x.at j p r x v here settled (omega arith) step load));
  }
    where
      settled : Settled m x
      settled i other le there = no_exit_after (m.body x.thunk) (lawful.shaped d x here).shape x.at i (Store r v) other step there
          (omega arith) le

      live_retired : (x : Status) (y : ℕ) → x ≡ Live → x ≡ Retired y → ⊥
      live_retired x y e e' = cc

  -- a place that is read outside a run, and becomes no lock's, is in no free slot
  pub outside_used : (q : ℕ) → IsOutside m s q → m.is_lock q ≡ false → (t : ℕ) → IsCellOf m t q → s.status t ≢ Free
  outside_used q outside unlocked t cell free = ⊎_elim (λ fixed. no_slot m.fixed_cells t cell.0 q fixed cell.2)
      (⊎_elim (λ lock. true_false lock unlocked)
      (λ slot. safe_used (s.status t) s.epoch (subst (λ u. IsSafe s u)
      (one_slot m.fixed_cells slot.0 t slot.1.0 cell.0 q slot.1.1 cell.1 slot.1.2 cell.2) slot.2) free)) outside
    where
      safe_used : (x : Status) (epoch : ℕ) → (x ≡ Live) ⊎ ((y : ℕ) × (x ≡ Retired y) × (epoch ≤ y + 1)) → x ≡ Free → ⊥
      safe_used x epoch safe free = ⊎_elim (λ live. live_free live free) (λ retired. free_retired retired.0 free retired.1) safe
        where
          live_free : x ≡ Live → x ≡ Free → ⊥
          live_free e e' = cc

          free_retired : (y : ℕ) → x ≡ Free → x ≡ Retired y → ⊥
          free_retired y e e' = cc
