-- What the whole invariant says of a section that is in its descriptor.
use Rattle.std.specs.Prelude.{◌==◌, ◌||◌, cond, Bool, true, false}
use Rattle.std.proofs.Common.{◌≡◌, ℕ, ◌+◌, ◌<◌, List, [], ◌∷◌, refl, ap, ◌∙◌, ⊎_elim, arith}
use Rattle.std.proofs.lemmas.Bool.Decides.{nat_tests}
use Rattle.machine_states.specs.body_terms.specs.Line.{line, micro_at}
use Rattle.agreement_core.specs.section_lines.specs.Line.{IsLine}
use Rattle.machine_states.specs.table_words.specs.declared.layout.Layout.{Layout}
use Rattle.machine_states.specs.table_words.specs.Places.{descriptor_count}
use Rattle.machine_states.specs.structure_laws.specs.Meaning.{Meaning}
use Rattle.machine_states.specs.runner_parts.specs.Tests.{has}
use Rattle.agreement_core.specs.State.{AgreementState}
use Rattle.agreement_core.proofs.Lines.{outcome_lock}
use Rattle.machine_states.specs.epoch_core.specs.declared.location.Location.{Location}
use Rattle.machine_states.specs.epoch_core.specs.declared.location.Location.TheVariants.{Fixed, Live, Hand, Free, Worn, Limbo, OnBoard}
use Rattle.machine_states.specs.epoch_core.specs.Events.{slot_of}
use Rattle.machine_states.specs.epoch_core.specs.History.{is_out}
use Rattle.machine_states.specs.epoch_core.specs.Lists.{times, in_free}
use Rattle.machine_states.specs.epoch_core.specs.Sound.{is_for_nodes}
use Rattle.machine_states.specs.Sight.{Sight}
use Rattle.machine_epochs.specs.Entries.{counts_of}
use Rattle.machine_epochs.specs.Slots.{thunk_in}
use Rattle.machine_scenes.specs.Shown.{rules_of}
use Rattle.runner_facts.specs.machine_facts.specs.machine_invariant.specs.Whole.{Beside, IsWhole}
use Rattle.lock_words.specs.Taken.{CommitsLock}

-- a number that a list hasn't
no_times : (xs : List ℕ) (d : ℕ) → has xs d ≡ false → times d xs ≡ 0
no_times [] d e = refl
no_times (x ∷ xs) d e = by (x == d) e (no_times xs d)
  where
    by : (b : Bool) → (b || has xs d) ≡ false → (has xs d ≡ false → times d xs ≡ 0) → cond b (1 + times d xs) (times d xs) ≡ 0
    by true e rest = absurd (let z = e in cc)
    by false e rest = rest e

free_once : (r : ℕ) → in_free r (Free r) ≡ 1
free_once r = one r
  where
    one : (r : ℕ) → ◌≡◌ {A = ℕ} (cond (r == r) 1 0) 1
    one r = grind (arith, nat_tests)

module _ (m : Meaning) (l : Layout) (b : Beside) (s : Sight) (whole : IsWhole m l b s) where
  abbrev a : AgreementState
  a = b.agreement

  -- a descriptor that is in nobody's free list has a section, and the other way round
  pub used_of : (d : ℕ) → d < descriptor_count l → ((r : ℕ) → has (s.part r).descriptors.free d ≡ false) → a.used d ≡ true
  used_of d few unfree = whole.tied.used d ∙ by (b.epochs.location (slot_of (counts_of m l) d)) refl
    where
      for_node : (p : Location) → b.epochs.location (slot_of (counts_of m l) d) ≡ p → is_for_nodes p ≡ true → ⊥
      for_node p is nodes = let low = whole.slots.sound.for_nodes (slot_of (counts_of m l) d) (ap is_for_nodes is ∙ nodes) in absurd (omega (arith, low))

      by : (p : Location) → b.epochs.location (slot_of (counts_of m l) d) ≡ p → is_out p ≡ true
      by Fixed is = refl
      by Live is = refl
      by (Limbo r y) is = refl
      by (Hand r) is = absurd (for_node (Hand r) is refl)
      by (Worn r) is = absurd (for_node (Worn r) is refl)
      by (OnBoard i) is = absurd (for_node (OnBoard i) is refl)
      by (Free r) is = absurd (
          let there = whole.slots.listed.free_descriptors r d few ∙ (ap (in_free r) is ∙ free_once r) in
          let none = no_times (s.part r).descriptors.free d (unfree r) in
          omega (arith, there, none))

  module _ (d : ℕ) (used : a.used d ≡ true) where
    pub line_of_section : IsLine m.is_lock l.version_max (a.section d).lock (a.section d).code (a.section d).slot
    line_of_section = (whole.sections.sound.sections d used).published.line

    pub code_is : (i : ℕ) → (a.section d).code i ≡ micro_at (line (m.body (thunk_in s.word d))) i
    code_is = (whole.sections.thunks d used).code

    -- a step that commits a lock's word commits that of a lock
    pub commits_lock : (i place log : ℕ) → CommitsLock ((a.section d).code i) place log → m.is_lock place ≡ true
    commits_lock i place log commits = ⊎_elim
        (λ nested. let before = line_of_section.ordered.nested_before i place log nested in line_of_section.placed.take_lock before.0 place log before.2)
        (λ outcome. outcome_lock (rules_of m l) (a.section d).lock (a.section d).code (a.section d).slot line_of_section i place log outcome)
        commits
