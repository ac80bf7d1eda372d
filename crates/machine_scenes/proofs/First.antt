-- The first states meet the invariant, and so do the states after every list of enabled steps.
use Rattle.std.proofs.Common.{◌≡◌, ◌≢◌, ℕ, ◌+◌, ◌*◌, ◌<◌, ◌≤◌, ◌^◌, List, [], ◌∷◌, true, cond, refl, sym, ap, ◌∙◌, subst, ⊎_elim, arith}
use Rattle.std.specs.Prelude.{nat_lt}
use Rattle.std.proofs.lemmas.Bool.{cases_lt, both_ways}
use Rattle.std.proofs.lemmas.Bool.Decides.{nat_tests}
use Rattle.std.proofs.lemmas.Grind.{common_steps}
use Rattle.std.proofs.lemmas.Option.{none-some}
use Rattle.agreement_core.specs.body_terms.specs.Word.{value_of, version_of, pack}
use Rattle.agreement_core.specs.table_words.specs.declared.layout.Layout.{Layout}
use Rattle.agreement_core.specs.table_words.specs.Limits.{IsWithinLimits}
use Rattle.agreement_core.specs.section_lines.specs.structure_laws.specs.Scene.{Status, Free, Live}
use Rattle.agreement_core.specs.section_lines.specs.structure_laws.specs.Meaning.{Meaning}
use Rattle.agreement_core.specs.section_lines.specs.structure_laws.specs.Cells.{first_word, slots}
use Rattle.agreement_core.specs.section_lines.specs.structure_laws.specs.Laws.{Laws}
use Rattle.agreement_core.specs.section_lines.specs.structure_laws.proofs.Moves.{moves}
use Rattle.agreement_core.specs.Schedules as agreement
use Rattle.agreement_core.proofs.Keeping as agreement_keeping
use Rattle.epoch_core.specs.declared.location.Location.{Location}
use Rattle.epoch_core.specs.declared.location.Location.TheVariants as locations
use Rattle.epoch_core.specs.State.{Counts}
use Rattle.epoch_core.specs.Schedules.{is_unused}
use Rattle.epoch_core.specs.Sound.{is_for_nodes}
use Rattle.epoch_core.proofs.Keeping as epochs_keeping
use Rattle.machine_scenes.specs.Shown.{Publications, States, rules_of, status_at, status_of, scene_of}
use Rattle.machine_scenes.specs.Steps.{Step, after}
use Rattle.machine_scenes.specs.Kept.{IsKept}
use Rattle.machine_scenes.specs.Schedules.{IsFirst, first_states, AllEnabled, after_all}
use Rattle.machine_scenes.proofs.Kept.{step_kept}

first_version : (value : ℕ) → value < 2 ^ 32 → version_of (pack value 1) ≡ 1
first_version value small = grind (arith, common_steps)

first_value : (value : ℕ) → value < 2 ^ 32 → value_of (pack value 1) ≡ value
first_value value small = grind (arith, common_steps)

module _ (m : Meaning) (laws : Laws m) (layout : Layout) (limits : IsWithinLimits layout) where
  -- the value of a first word
  abbrev value : ℕ → ℕ
  value p = cond (nat_lt p (m.fixed_cells + 5 * m.fixed_slots)) (m.first_value p) 0

  below : (p n : ℕ) (v : ℕ) → (p < n → v < 2 ^ 32) → cond (nat_lt p n) v 0 < 2 ^ 32
  below p n v small = ⊎_elim (λ lt. subst (λ x. x < 2 ^ 32) (sym (inside p n v lt)) (small lt))
      (λ le. subst (λ x. x < 2 ^ 32) (sym (outside p n v le)) (omega arith)) (cases_lt p n)
    where
      inside : (p n v : ℕ) → p < n → cond (nat_lt p n) v 0 ≡ v
      inside p n v lt = grind (arith, nat_tests)

      outside : (p n v : ℕ) → n ≤ p → cond (nat_lt p n) v 0 ≡ 0
      outside p n v le = grind (arith, nat_tests)

  zero_value : (p n : ℕ) (v : ℕ) → (p < n → v ≡ 0) → cond (nat_lt p n) v 0 ≡ 0
  zero_value p n v zero = ⊎_elim (λ lt. inside p n v (zero lt)) (λ le. outside p n v le) (cases_lt p n)
    where
      inside : (p n v : ℕ) → v ≡ 0 → cond (nat_lt p n) v 0 ≡ 0
      inside p n v e = grind arith

      outside : (p n v : ℕ) → n ≤ p → cond (nat_lt p n) v 0 ≡ 0
      outside p n v le = grind (arith, nat_tests)

  small : (p : ℕ) → value p < 2 ^ 32
  small p = below p (m.fixed_cells + 5 * m.fixed_slots) (m.first_value p) (λ lt. laws.first.small p lt)

  cells_first : agreement.IsFirst (rules_of m layout) (first_word m)
  cells_first = record {
    positive = λ p. let one = first_version (value p) (small p) in omega arith;
    bounded = λ p. let one = first_version (value p) (small p) in let most = limits.some_versions in omega arith;
    free = λ p lock. first_value (value p) (small p)
        ∙ zero_value p (m.fixed_cells + 5 * m.fixed_slots) (m.first_value p) (λ lt. laws.first.locks_free p lt lock);
  }

  module _ (c : Counts) (nodes : c.nodes ≡ slots m layout) (location : ℕ → Location) (first : IsFirst m c location) (p : Publications) where
    unused_free : (l : Location) → is_unused l ≡ true → l ≢ locations.Fixed → status_at l ≡ Free
    unused_free locations.Fixed is ne = absurd (ne refl)
    unused_free locations.Live is ne = cc
    unused_free (locations.Hand r) is ne = cc
    unused_free (locations.Free r) is ne = refl
    unused_free (locations.Worn r) is ne = cc
    unused_free (locations.OnBoard i) is ne = cc
    unused_free (locations.Limbo r y) is ne = cc

    pub status_first : (t : ℕ) → status_of c location t ≡ cond (nat_lt t m.fixed_slots) Live Free
    status_first t = ⊎_elim
        (λ lt. fixed t (first.epochs.for_nodes t (ap is_for_nodes (first.fixed t lt))) lt (status_at (location t))
        (ap status_at (first.fixed t lt)))
        (λ le. free t le (status_at (location t)) (unused_free (location t) (first.epochs.unused t) (first.unfixed t le)))
        (cases_lt t m.fixed_slots)
      where
        fixed : (t : ℕ) → t < c.nodes → t < m.fixed_slots → (x : Status) → x ≡ Live
            → cond (nat_lt t c.nodes) x Free ≡ cond (nat_lt t m.fixed_slots) Live Free
        fixed t low lt x e = grind (arith, nat_tests)

        free : (t : ℕ) → m.fixed_slots ≤ t → (x : Status) → x ≡ Free
            → cond (nat_lt t c.nodes) x Free ≡ cond (nat_lt t m.fixed_slots) Live Free
        free t le x e = grind (arith, nat_tests)

    pub first_kept : IsKept m layout c (first_states m location p)
    first_kept = record {
      agreement = agreement_keeping.first (rules_of m layout) (first_word m) cells_first;
      epochs = epochs_keeping.first c location first.epochs;
      thunks = λ d used. absurd (both_ways _ refl used);
      lawful = (moves m laws layout limits).first (scene_of m c (first_states m location p))
          (record { cells = λ p. refl; status = status_first; reader = λ r. refl; section = λ d. refl });
      met = λ r t entered. absurd (both_ways _ refl entered);
      publishers = λ d x here. absurd (none-some x here);
      retires = record {
        recent = λ r loaded. absurd (both_ways _ refl loaded);
        stands = λ r pending. absurd (both_ways _ refl pending.0);
        linked = λ r pending. absurd (both_ways _ refl pending.0);
      };
      shaped = λ d used. absurd (both_ways _ refl used);
      nodes = λ d i t log used. absurd (both_ways _ refl used);
      fixed = λ t is. ⊎_elim (λ lt. lt) (λ le. absurd (first.unfixed t le is)) (cases_lt t m.fixed_slots);
    }

    all_kept : (states : States) (steps : List Step) → AllEnabled m layout c states steps → IsKept m layout c states
        → IsKept m layout c (after_all m layout c states steps)
    all_kept states [] ok kept = kept
    all_kept states (step ∷ steps) ok kept = all_kept (after m layout c states step) steps ok.1
        (step_kept m laws layout limits c nodes states step ok.0 kept)

    pub schedules_kept : (steps : List Step) → AllEnabled m layout c (first_states m location p) steps
        → IsKept m layout c (after_all m layout c (first_states m location p) steps)
    schedules_kept steps ok = all_kept (first_states m location p) steps ok first_kept
