-- What the join of sections needs of epochs and slots and of the structure's laws, step by step.
use Rattle.std.specs.Prelude.{◌≡◌, ◌≢◌, ℕ, true, false, [], ◌∷◌, ◌++◌, Some, None}
use Rattle.std.specs.List.{filter}
use Rattle.machine_states.specs.body_terms.specs.declared.micro.Micro.TheVariants.{LoadCell}
use Rattle.machine_states.specs.body_terms.specs.declared.thunk.Thunk.{Thunk}
use Rattle.machine_states.specs.body_terms.specs.Line.{line, micro_at, committed}
use Rattle.machine_states.specs.body_terms.specs.Memory.{cell_of}
use Rattle.machine_states.specs.table_words.specs.declared.layout.Layout.{Layout}
use Rattle.machine_states.specs.table_words.specs.declared.spot.Spot.TheVariants.{DoneWord}
use Rattle.machine_states.specs.structure_laws.specs.Meaning.{Meaning}
use Rattle.machine_states.specs.runner_parts.specs.declared.event.EventKind.{EventKind}
use Rattle.machine_states.specs.runner_parts.specs.declared.event.EventKind.TheVariants as kinds
use Rattle.machine_states.specs.runner_parts.specs.declared.entries.Published.{Published}
use Rattle.machine_states.specs.runner_parts.specs.State.{RunState}
use Rattle.machine_states.specs.runner_parts.specs.Tests.{has}
use Rattle.machine_states.specs.guard_core.specs.Moves.{is_unnamed}
use Rattle.machine_states.specs.runner_steps.specs.Guards.{is_last_guard}
use Rattle.machine_states.specs.runner_steps.specs.Outside.{is_sure_of}
use Rattle.machine_states.specs.runner_steps.specs.Sections.{is_open_run, next_of, commits_to, needs_link}
use Rattle.agreement_core.specs.State.{AgreementState, section_of}
use Rattle.agreement_core.specs.Events.{IsAlone, IsPrivateStore, IsPublishable}
use Rattle.machine_states.specs.Sight.{Sight}
use Rattle.machine_epochs.specs.Slots.{thunk_in}
use Rattle.machine_scenes.specs.Shown.{rules_of}

-- a retired descriptor that nobody runs
pub record IsIdle (w : AgreementState) (d : ℕ) : Type 0 where
  pub retired : w.live d ≡ false
  pub unrun : (r : ℕ) → (w.run r).running ≡ true → (w.run r).descriptor ≢ d

-- a descriptor whose words are those of this thunk, with no done, may be published
pub record MayPublish (m : Meaning) (l : Layout) (w : AgreementState) (s : Sight) (r : ℕ) (t : Thunk)
    (d : ℕ) : Type 0 where
  pub words : thunk_in s.word d ≡ t
  pub undone : s.word (DoneWord d) ≡ 0
  pub publishable : IsPublishable (rules_of m l) d t.lock t.word (micro_at (line (m.body t)))
      (committed (line (m.body t)))

module _ (m : Meaning) (l : Layout) where
  -- what is needed for an event of this runner that found this word
  pub record AgreementIsSupplied (w : AgreementState) (s : Sight) (r : ℕ) (kind : EventKind) (found : ℕ) : Type 0 where
    -- a run that loads a cell at the edge of its open section: no other open section has come to the cell
    pub alone : (q : RunState) (p k : ℕ) → (s.part r).run ≡ Some q → is_open_run q ≡ true
        → next_of m q ≡ LoadCell p k → (w.run r).at ≡ (section_of w r).edge → (section_of w r).done ≡ 0
        → IsAlone w ((w.run r).descriptor) p
    -- a commit of a run finds the word that the section's log has there; before a part is linked it is no commit
    pub logged : (q : RunState) (k : ℕ) → (s.part r).run ≡ Some q → is_open_run q ≡ true
        → commits_to (next_of m q) ≡ Some k → needs_link q (next_of m q) ≡ false
        → (w.section q.descriptor).log k ≡ found
    -- a Make's store into a cell of its slot
    pub private : (q : RunState) (slot cell number : ℕ) → (s.part r).run ≡ Some q → needs_link q (next_of m q) ≡ false
        → kind ≡ kinds.PrivateStore slot cell number
        → IsPrivateStore (rules_of m l) w (cell_of m.fixed_cells slot cell) number
    -- an own free descriptor isn't published; the own published one isn't retired; that of which the runner is sure
    -- is published
    pub unused : (d : ℕ) → has (s.part r).descriptors.free d ≡ true → w.used d ≡ false
    pub live : (x : Published) → (s.part r).published ≡ Some x → w.live x.descriptor ≡ true
    pub used : (d : ℕ) → kind ≡ kinds.LoadThunk (Some d) → is_sure_of (s.part r).guards d ≡ true → w.used d ≡ true
    -- a section that is published now
    pub publishes : (t : Thunk) (d : ℕ) → kind ≡ kinds.Hold t d → (s.part r).run ≡ None → found ≡ t.word
        → MayPublish m l w s r t d
    -- the descriptors that leave limbo
    pub idle : (n d : ℕ) → kind ≡ kinds.LoadGuard n → is_last_guard l (s.part r).guards.looked ≡ true
        → has (filter (is_unnamed ((s.part r).guards.looked ++ found ∷ [])) (s.part r).descriptors.limbo) d ≡ true
        → IsIdle w d
