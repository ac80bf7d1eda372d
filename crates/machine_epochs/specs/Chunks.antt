-- Which events of epochs and slots a step of the machine is, by its kind.
use Rattle.std.specs.Prelude.{ℕ, ◌+◌, ◌-◌, ◌≡◌, ◌≢◌, ◌⊎◌, Bool, true, false, ◌==◌, ◌&&◌, nat_lt, List, [], ◌∷◌, ◌++◌, Option, Some, None, if◌then◌else◌}
use Rattle.machine_states.specs.body_terms.specs.declared.micro.Micro.{Micro}
use Rattle.machine_states.specs.body_terms.specs.declared.micro.Micro.TheVariants as micros
use Rattle.machine_states.specs.body_terms.specs.Word.{value_of}
use Rattle.machine_states.specs.table_words.specs.declared.layout.Layout.{Layout}
use Rattle.machine_states.specs.table_words.specs.Places.{part_words, slot_count}
use Rattle.machine_states.specs.structure_laws.specs.Meaning.{Meaning}
use Rattle.machine_states.specs.runner_parts.specs.declared.event.EventKind.{EventKind}
use Rattle.machine_states.specs.runner_parts.specs.declared.event.EventKind.TheVariants as kinds
use Rattle.machine_states.specs.epoch_core.specs.declared.stage.Stage.TheVariants.{Loaded, Scanning}
use Rattle.machine_states.specs.runner_parts.specs.declared.entries.Published.{Published}
use Rattle.machine_states.specs.runner_parts.specs.State.{RunState, PartState, NodesState}
use Rattle.machine_states.specs.runner_steps.specs.Outside.{blocks_from}
use Rattle.machine_states.specs.runner_steps.specs.Sections.{thunk_of, is_open_run, next_of}
use Rattle.machine_states.specs.runner_parts.specs.Tests.{has, thunk_words}
use Rattle.machine_states.specs.runner_parts.specs.Lists.{test_of, one_more}
use Rattle.machine_states.specs.epoch_core.specs.State.{Role}
use Rattle.machine_states.specs.epoch_core.specs.Events as events
use Rattle.machine_states.specs.epoch_core.specs.Events.{Event}
use Rattle.machine_epochs.specs.Entries.{counts_of}
use Rattle.machine_epochs.specs.Roles.{role_at}
use Rattle.machine_epochs.specs.ScanEnds.{collects}
use Rattle.machine_epochs.specs.Supplied.{comes_outside}
use Rattle.machine_states.specs.body_terms.specs.Line.{is_end}
use Rattle.machine_states.specs.guard_core.specs.Moves.{is_unnamed}
use Rattle.machine_states.specs.runner_steps.specs.AfterInRun.{ended_more}
use Rattle.machine_states.specs.runner_steps.specs.Guards.{is_last_guard}

-- this cell is the next one to be looked at of a slot in the hand, and it is the fifth
abbrev pub is_last_look : NodesState → ℕ → ℕ → Bool
is_last_look n slot cell = let x = test_of n.tests slot in (has n.hand slot && (cell == x.cells && nat_lt cell 5)) &&
    x.cells + 1 == 5

-- the slot was looked at whole, of which a cell was found to have this word
abbrev pub looked : Layout → ℕ → NodesState → ℕ → ℕ → ℕ → List Event
looked l r n slot cell found =
    if is_last_look n slot cell then events.Test r slot (one_more l (test_of n.tests slot) found).worn ∷ [] else []

-- a store of this number into this word of a descriptor: the thunk words, the done word and the link are no words of
-- epochs and slots
abbrev pub stored : ℕ → ℕ → ℕ → ℕ → List Event
stored r d word number =
    if nat_lt word 12 then [] else (if word == 12 then [] else (
    if word == 13 + part_words then [] else events.StoreLog r d (word - 13) number ∷ []))

-- the words commit what the body of the thunk does that they hold
abbrev pub roles_of : Meaning → List ℕ → ℕ → Role
roles_of m words index = role_at (m.body (thunk_of words)) index

-- at the end of its sweep the runner's retired descriptors are free that no guard word names which it read
abbrev pub sweeps : Layout → ℕ → PartState → ℕ → List Event
sweeps l r p found =
    if is_last_guard l p.guards.looked then events.Sweep r (is_unnamed (p.guards.looked ++ found ∷ [])) ∷ [] else []

-- the slot that a link on the board names is taken where the exchange won
abbrev pub takes : ℕ → ℕ → ℕ → ℕ → List Event
takes r word link found = if found == link then events.TakeBoard r (value_of (link - 1)) word ∷ [] else []

-- a free slot goes onto the board where it did
abbrev pub gives : ℕ → ℕ → ℕ → ℕ → List Event
gives r word slot found = if found == 0 then events.GiveBoard r slot word ∷ [] else []

-- with the end of its run the own published section is retired
abbrev pub retires_own : ℕ → Option Published → ℕ → List Event
retires_own r None descriptor = []
retires_own r (Some x) descriptor =
    if x.descriptor == descriptor then events.RetireDescriptor r descriptor ∷ [] else []

module _ (m : Meaning) (l : Layout) (r : ℕ) where
  -- the events of a runner's step in no run, which found this word
  abbrev pub IsOutsideChunk : EventKind → PartState → ℕ → List Event → Type 0
  IsOutsideChunk kinds.EnterLoad p found es = es ≡ events.EnterLoad r ∷ []
  IsOutsideChunk kinds.Announce p found es =
      (epoch : ℕ) × (p.stage ≡ Loaded epoch) × (es ≡ events.Announce r epoch ∷ [])
  IsOutsideChunk kinds.EnterAgain p found es = es ≡ events.EnterAgain r ∷ []
  IsOutsideChunk kinds.Idle p found es = es ≡ events.Exit r ∷ []
  IsOutsideChunk kinds.ScanEpoch p found es = es ≡ events.ScanEpoch r ∷ []
  -- the scan goes on, or ends with this announcement
  IsOutsideChunk (kinds.ScanOne n) p found es = (epoch : ℕ) × (clear : Bool) × (p.stage ≡ Scanning epoch n clear)
      × (((collects l (kinds.ScanOne n) p.stage found ≡ None) × (es ≡ events.ScanOne r epoch n clear ∷ []))
      ⊎ ((collects l (kinds.ScanOne n) p.stage found ≡ Some epoch) × (es ≡ events.ScanLast r epoch n clear ∷ [])))
  IsOutsideChunk kinds.Advance p found es = (epoch next : ℕ) × (p.stage ≡ Scanning epoch next true)
      × (collects l kinds.Advance p.stage found ≡ Some (epoch + 1)) × (es ≡ events.Advance r epoch next ∷ [])
  -- what the readings reach now, and the descriptor that a lock's word names
  IsOutsideChunk (kinds.LoadCell (Some place)) p found es =
      es ≡ events.Reach r (comes_outside m (counts_of m l) (kinds.LoadCell (Some place)) p found) ∷ []
  IsOutsideChunk (kinds.PrivateLoad slot cell) p found es = es ≡ looked l r p.nodes slot cell found
  -- a word of an own free descriptor; one of a block is no word of epochs and slots
  IsOutsideChunk (kinds.PrivateStore slot word number) p found es =
      es ≡ (if nat_lt slot (blocks_from m l) then stored r (slot - slot_count l m.fixed_slots) word number else [])
  -- the section is published where the lock stood free with the thunk's word
  IsOutsideChunk (kinds.Hold t d) p found es =
      ((found ≡ t.word) × (es ≡ events.Publish r d (roles_of m (thunk_words t)) ∷ [])) ⊎ ((found ≢ t.word) × (es ≡ []))
  -- the guard word moves: the runner is sure of nothing
  IsOutsideChunk (kinds.Guard d) p found es = es ≡ events.Unguard r ∷ []
  IsOutsideChunk (kinds.LoadGuard n) p found es = es ≡ sweeps l r p found
  IsOutsideChunk (kinds.BoardTake word link) p found es = es ≡ takes r word link found
  IsOutsideChunk (kinds.BoardGive word slot) p found es = es ≡ gives r word slot found
  IsOutsideChunk _ p found es = es ≡ []

  -- the events of a step of a run's line, which found this word, where the run stands before this step of the line
  abbrev pub IsLineChunk : EventKind → PartState → RunState → Micro → ℕ → List Event → Type 0
  IsLineChunk kinds.Commit p q micro found es =
      (place log : ℕ) × ((micro ≡ micros.Commit place log) ⊎ (micro ≡ micros.NestedCommit place log))
      × (es ≡ events.WordCommit r q.descriptor log q.word ∷ [])
  IsLineChunk kinds.OutcomeCommit p q micro found es = (place log : ℕ) × (micro ≡ micros.OutcomeCommit place log)
      × (es ≡ events.WordCommit r q.descriptor log q.word ∷ [])
  -- the last release ends the run
  IsLineChunk kinds.Release p q micro found es =
      es ≡ (if is_end (next_of m (ended_more q)) then retires_own r p.published q.descriptor else [])
  -- a Make takes its slot with its first private load
  IsLineChunk (kinds.PrivateLoad slot cell) p q micro found es =
      ((q.made ≡ None) × (es ≡ events.TakeSlot r slot ∷ [])) ⊎ ((q.made ≡ Some slot) × (es ≡ []))
  IsLineChunk kinds.MakeCommit p q micro found es =
      (log slot : ℕ) × (micro ≡ micros.MakeCommit log) × (q.made ≡ Some slot)
      × (es ≡ events.MakeCommit r q.descriptor log slot q.worn ∷ [])
  IsLineChunk kinds.EpochForRetire p q micro found es = (slot log : ℕ) × (micro ≡ micros.EpochForRetire slot log)
      × (es ≡ events.RetireEpoch r q.descriptor log slot ∷ [])
  IsLineChunk kinds.RetireCommit p q micro found es =
      (slot log : ℕ) × (micro ≡ micros.RetireCommit slot log) × (es ≡ events.RetireCommit r ∷ [])
  IsLineChunk _ p q micro found es = es ≡ []

  -- the events of a step in a run: none where the run has still to load words of its thunk, or its done word
  abbrev pub IsInsideChunk : Bool → EventKind → PartState → RunState → ℕ → List Event → Type 0
  IsInsideChunk true kind p q found es = IsLineChunk kind p q (next_of m q) found es
  IsInsideChunk false kind p q found es = es ≡ []

  -- the events of this runner's step of this kind, which found this word
  abbrev pub IsChunk : EventKind → PartState → Option RunState → ℕ → List Event → Type 0
  IsChunk kind p None found es = IsOutsideChunk kind p found es
  IsChunk kind p (Some q) found es = IsInsideChunk (is_open_run q) kind p q found es
