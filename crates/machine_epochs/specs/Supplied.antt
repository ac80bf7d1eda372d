-- What the join of epochs and slots needs of agreement and of the structure's laws, step by step.
use Rattle.std.specs.Prelude.{ℕ, ◌+◌, ◌-◌, ◌^◌, ◌<◌, ◌≤◌, ◌≡◌, Bool, true, false, not, ◌==◌, ◌&&◌, ◌||◌, nat_lt, nat_le, [], ◌∷◌, ◌++◌, Option, Some, None}
use Rattle.machine_states.specs.body_terms.specs.Word.{value_of, is_free}
use Rattle.machine_states.specs.body_terms.specs.declared.micro.Micro.TheVariants.{EpochForRetire}
use Rattle.machine_states.specs.table_words.specs.declared.layout.Layout.{Layout}
use Rattle.machine_states.specs.table_words.specs.declared.spot.Spot.{Spot}
use Rattle.machine_states.specs.structure_laws.specs.Scene.{Readings}
use Rattle.machine_states.specs.structure_laws.specs.Meaning.{Meaning}
use Rattle.machine_states.specs.runner_parts.specs.declared.event.EventKind.{EventKind}
use Rattle.machine_states.specs.runner_parts.specs.declared.event.EventKind.TheVariants as kinds
use Rattle.machine_states.specs.runner_parts.specs.State.{RunState, GuardsState, PartState}
use Rattle.machine_states.specs.runner_steps.specs.Sections.{is_open_run, next_of, commits_to, needs_link}
use Rattle.machine_states.specs.runner_parts.specs.Tests.{has, is_some_of}
use Rattle.machine_states.specs.runner_steps.specs.Outside.{is_sure_of}
use Rattle.machine_states.specs.runner_steps.specs.Guards.{is_last_guard}
use Rattle.machine_states.specs.guard_core.specs.Moves.{is_unnamed}
use Rattle.machine_states.specs.epoch_core.specs.declared.location.Location.TheVariants.{Live}
use Rattle.machine_states.specs.epoch_core.specs.State.{Counts, EpochState, IsPending, MayHold}
use Rattle.machine_states.specs.Sight.{Sight}
use Rattle.machine_epochs.specs.Entries.{counts_of}

-- the readings reach this node slot
abbrev pub reaches_node : Meaning → Counts → Readings → ℕ → Bool
reaches_node m c walk t = nat_lt t c.nodes && m.reaches walk t

-- a lock's word names the descriptor with this slot number, which the guard word names too
abbrev pub sees_slot : Counts → GuardsState → ℕ → ℕ → Bool
sees_slot c g word t = nat_le c.nodes t && (not (is_free word) && (value_of word == t - c.nodes + 1
    && is_some_of g.named (t - c.nodes)))

-- what a runner comes to hold by a step outside a run that found this word
abbrev pub comes_outside : Meaning → Counts → EventKind → PartState → ℕ → ℕ → Bool
comes_outside m c (kinds.LoadCell (Some place)) p found t =
    reaches_node m c (p.reads.walk ++ (place, found) ∷ []) t || (m.is_lock place && sees_slot c p.guards found t)
comes_outside m c _ p found t = false

-- what a runner comes to hold by a step that found this word
abbrev pub comes_by : Meaning → Counts → EventKind → PartState → Option RunState → ℕ → ℕ → Bool
comes_by m c kind p None found t = comes_outside m c kind p found t
comes_by m c kind p (Some q) found t = false

-- a section may go on to retire this slot at this place of its log: it is a node slot, and as long as
-- nothing is agreed there it is live, and no other Retire for which an epoch is loaded names it
pub record MayRetire (c : Counts) (w : EpochState) (d index slot : ℕ) : Type 0 where
  pub node : slot < c.nodes
  pub live : w.log d index ≡ 0 → w.location slot ≡ Live
  pub once : w.log d index ≡ 0 → (r : ℕ) → IsPending w r → (w.retire r).slot ≡ slot
      → ((w.retire r).descriptor ≡ d) × ((w.retire r).index ≡ index)

module _ (m : Meaning) (l : Layout) where
  -- what is needed for an event of this runner that meets this word
  pub record EpochsAreSupplied (w : EpochState) (s : Sight) (r : ℕ) (kind : EventKind) (spot : Spot) : Type 0 where
    -- without a reading nothing is reached
    pub unread : (t : ℕ) → m.reaches [] t ≡ false
    -- what the runner comes to hold, it may hold
    pub held : (t : ℕ) → comes_by m (counts_of m l) kind (s.part r) (s.part r).run (s.word spot) t ≡ true
        → w.holds r t ≡ false → MayHold w r t
    -- a commit of a run finds the word that the section's log has there; before a part is linked it is no commit
    pub logged : (q : RunState) (k : ℕ) → (s.part r).run ≡ Some q → is_open_run q ≡ true
        → commits_to (next_of m q) ≡ Some k → needs_link q (next_of m q) ≡ false → w.log q.descriptor k ≡ s.word spot
    -- a Retire before which its run stands may be made
    pub retires : (q : RunState) (slot index : ℕ) → (s.part r).run ≡ Some q → is_open_run q ≡ true
        → next_of m q ≡ EpochForRetire slot index
        → MayRetire (counts_of m l) w q.descriptor index slot
    -- at the end of its sweep nobody is sure of a retired descriptor of its own that no guard word which it read names
    pub swept : (n d q : ℕ) → kind ≡ kinds.LoadGuard n → is_last_guard l (s.part r).guards.looked ≡ true
        → has (s.part r).descriptors.limbo d ≡ true
        → is_unnamed ((s.part r).guards.looked ++ s.word spot ∷ []) d ≡ true
        → is_sure_of (s.part q).guards d ≡ false
    -- the number of a node slot has 32 bits
    pub small : (counts_of m l).nodes ≤ 2 ^ 32
