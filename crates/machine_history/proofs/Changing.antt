-- What a change of the cells, or of no cell, makes of the completed memory.
use Rattle.std.proofs.Common.{◌≡◌, ℕ, ◌<◌, true, sym, ap, ◌∙◌, subst, ⊎_elim}
use Rattle.std.proofs.lemmas.Bool.{cases_eq}
use Rattle.agreement_core.specs.map_history.specs.Replay.{Pairs}
use Rattle.agreement_core.specs.body_terms.specs.Update.{upd}
use Rattle.agreement_core.specs.body_terms.specs.Word.{version_of}
use Rattle.agreement_core.specs.table_words.specs.declared.layout.Layout.{Layout}
use Rattle.agreement_core.specs.table_words.specs.Limits.{IsWithinLimits}
use Rattle.agreement_core.specs.section_lines.specs.structure_laws.specs.Scene.{Section, Scene, with_cell}
use Rattle.agreement_core.specs.section_lines.specs.structure_laws.specs.Meaning.{Meaning}
use Rattle.agreement_core.specs.section_lines.specs.structure_laws.specs.Sections.{Here}
use Rattle.agreement_core.specs.section_lines.specs.structure_laws.specs.Laws.{Laws}
use Rattle.agreement_core.specs.section_lines.specs.structure_laws.specs.Lawful.{Moves}
use Rattle.agreement_core.specs.section_lines.specs.structure_laws.proofs.Moves.{moves}
use Rattle.agreement_core.specs.Checks.{exchanged}
use Rattle.agreement_core.proofs.Changing.{exchange_wins, exchange_fails}
use Rattle.epoch_core.specs.State.{Counts}
use Rattle.read_answers.specs.completed_memory.specs.Pending.{Marks}
use Rattle.read_answers.specs.completed_memory.specs.Moves.{StandsCompleted, MemoryMoves}
use Rattle.read_answers.specs.completed_memory.proofs.Moving.{memory_moves}
use Rattle.machine_scenes.specs.Shown.{States, scene_of}
use Rattle.machine_scenes.specs.Kept.{IsKept}
use Rattle.machine_scenes.proofs.Shown.{upd_found}
use Rattle.machine_history.specs.Memory.{marks_of, MemoryStands}
use Rattle.machine_history.proofs.Leaving.{completed_on, keep_same}
use Rattle.machine_history.proofs.Standing.{whole}

module _ (m : Meaning) (laws : Laws m) (layout : Layout) (limits : IsWithinLimits layout) (c : Counts) where
  abbrev pub by_moves : Moves m layout
  by_moves = moves m laws layout limits

  abbrev pub by_memory : MemoryMoves m layout
  by_memory = memory_moves m laws layout limits

  -- from a scene with the same cells and sections
  pub from_scene : (s : Scene) (stamped : Marks) (pairs : Pairs) → StandsCompleted m layout s stamped pairs → (j : States) → ((p : ℕ) → j.agreement.shared.cells p ≡ s.cells p)
      → ((d : ℕ) → (scene_of m c j).section d ≡ s.section d) → ((d : ℕ) (x : Section) → Here s d x → marks_of j.agreement d ≡ stamped d) → MemoryStands m layout c j pairs
  from_scene s stamped pairs st j cells sections marks = record {
    cells = st.cells;
    completed = completed_on m layout s (scene_of m c j) stamped (marks_of j.agreement) st.cells st.completed cells
        (keep_same m layout s (scene_of m c j) stamped (marks_of j.agreement) sections marks)
        (keep_same m layout (scene_of m c j) s (marks_of j.agreement) stamped (λ d. sym (sections d)) (λ d x here. sym (marks d x (sym (sections d) ∙ here))));
    stands = st.stands;
  }

  module _ (j : States) (kept : IsKept m layout c j) (pairs : Pairs) (memory : MemoryStands m layout c j pairs) (j' : States)
      (sections : (d : ℕ) → (scene_of m c j').section d ≡ (scene_of m c j).section d)
      (marks : (d : ℕ) (x : Section) → Here (scene_of m c j) d x → marks_of j'.agreement d ≡ marks_of j.agreement d) where
    -- nothing changes
    pub still : ((p : ℕ) → j'.agreement.shared.cells p ≡ j.agreement.shared.cells p) → MemoryStands m layout c j' pairs
    still cells = from_scene (scene_of m c j) (marks_of j.agreement) pairs (whole m layout c j kept pairs memory) j' cells sections marks

    -- a lock changes
    pub lock_changes : (place word : ℕ) → m.is_lock place ≡ true → version_of (j.agreement.shared.cells place) < version_of word
        → ((p : ℕ) → j'.agreement.shared.cells p ≡ upd j.agreement.shared.cells place word p) → MemoryStands m layout c j' pairs
    lock_changes place word lock rises cells = from_scene (with_cell (scene_of m c j) place word) (marks_of j.agreement) pairs
        (by_memory.lock (scene_of m c j) (marks_of j.agreement) pairs place word (whole m layout c j kept pairs memory) lock (by_moves.lock (scene_of m c j) place word lock rises kept.lawful))
        j' cells sections marks

    -- a lock is exchanged
    pub lock_exchanged : (place found new : ℕ) → m.is_lock place ≡ true → version_of found < version_of new
        → ((p : ℕ) → j'.agreement.shared.cells p ≡ upd j.agreement.shared.cells place (exchanged (j.agreement.shared.cells place) found new) p) → MemoryStands m layout c j' pairs
    lock_exchanged place found new lock rises cells = ⊎_elim
        (λ same. lock_changes place new lock (subst (λ n. version_of n < version_of new) (sym same) rises)
        (λ p. cells p ∙ ap (λ n. upd j.agreement.shared.cells place n p) (exchange_wins (j.agreement.shared.cells place) found new same)))
        (λ ne. still (λ p. cells p ∙ ap (λ f. f p) (upd_found j.agreement.shared.cells place (exchanged (j.agreement.shared.cells place) found new)
        (exchange_fails (j.agreement.shared.cells place) found new ne))))
        (cases_eq (j.agreement.shared.cells place) found)
