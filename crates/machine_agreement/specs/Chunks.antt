-- Which events of agreement a step of the machine is, by its kind.
use Rattle.std.specs.Prelude.{◌≡◌, ◌≢◌, ◌⊎◌, ℕ, suc, ◌+◌, ◌-◌, ◌==◌, nat_lt, List, [], ◌∷◌, ◌++◌, map, Bool, true, false, Option, Some, None, if◌then◌else◌}
use Rattle.std.specs.List.{filter}
use Rattle.machine_states.specs.body_terms.specs.declared.micro.Micro.TheVariants as micros
use Rattle.machine_states.specs.body_terms.specs.declared.micro.Source.{Source}
use Rattle.machine_states.specs.body_terms.specs.declared.thunk.Thunk.{Thunk}
use Rattle.machine_states.specs.body_terms.specs.Line.{line, micro_at, committed, is_end}
use Rattle.machine_states.specs.body_terms.specs.Memory.{cell_of}
use Rattle.machine_states.specs.table_words.specs.declared.layout.Layout.{Layout}
use Rattle.machine_states.specs.table_words.specs.Places.{part_words, slot_count}
use Rattle.machine_states.specs.structure_laws.specs.Meaning.{Meaning}
use Rattle.machine_states.specs.runner_parts.specs.declared.event.EventKind.{EventKind}
use Rattle.machine_states.specs.runner_parts.specs.declared.event.EventKind.TheVariants as kinds
use Rattle.machine_states.specs.runner_parts.specs.declared.entries.Look.{Look}
use Rattle.machine_states.specs.runner_parts.specs.declared.entries.Published.{Published}
use Rattle.machine_states.specs.runner_parts.specs.State.{RunState, PartState}
use Rattle.machine_states.specs.guard_core.specs.Moves.{is_unnamed}
use Rattle.machine_states.specs.runner_steps.specs.Guards.{is_last_guard}
use Rattle.machine_states.specs.runner_steps.specs.Outside.{blocks_from}
use Rattle.machine_states.specs.runner_steps.specs.Sections.{is_open_run, next_of, needs_link, reply_in}
use Rattle.machine_states.specs.runner_steps.specs.Reads.{read_stamp_after}
use Rattle.machine_states.specs.runner_steps.specs.AfterInRun.{ended_more}
use Rattle.agreement_core.specs.State.{AgreementState}
use Rattle.agreement_core.specs.Events.{Event}
use Rattle.agreement_core.specs.Events as events

-- the publication of this thunk at this descriptor
abbrev pub publication : Meaning → ℕ → Thunk → Event
publication m d t = events.Publish d t.lock t.word t.request (micro_at (line (m.body t))) (committed (line (m.body t)))

-- a store of this number into this word of a descriptor: the thunk words and the link are no words of agreement
abbrev pub stored : ℕ → ℕ → ℕ → List Event
stored d word number = if nat_lt word 12 then [] else (
    if word == 12 then events.StoreDone d number ∷ [] else (
    if word == 13 + part_words then [] else events.StoreLog d (word - 13) number ∷ []))

-- these descriptors become free, one after the other
abbrev pub frees : List ℕ → List Event
frees ds = map events.Free ds

-- the runner's retired descriptors that none of these guard words names
abbrev pub unnamed : List ℕ → PartState → List ℕ
unnamed words p = filter (is_unnamed words) p.descriptors.limbo

-- at the end of its sweep they are free
abbrev pub swept : Layout → PartState → ℕ → List Event
swept l p found =
    if is_last_guard l p.guards.looked then frees (unnamed (p.guards.looked ++ found ∷ []) p) else []

-- with the end of its run the own published section is retired
abbrev pub retires_own : Option Published → ℕ → List Event
retires_own None descriptor = []
retires_own (Some x) descriptor =
    if x.descriptor == descriptor then events.RetireDescriptor descriptor ∷ [] else []

module _ (m : Meaning) (l : Layout) (w : AgreementState) (r : ℕ) where
  -- the events of a runner's step in no run, which found this word
  abbrev pub IsOutsideChunk : EventKind → PartState → ℕ → List Event → Type 0
  -- a publication is one where the lock stood free with the thunk's word; the lock is read in any case
  IsOutsideChunk (kinds.Hold t d) p found heads =
      ((found ≡ t.word) × (heads ≡ events.Read t.lock ∷ publication m d t ∷ []))
      ⊎ ((found ≢ t.word) × (heads ≡ events.Read t.lock ∷ []))
  IsOutsideChunk (kinds.LoadGuard n) p found heads = heads ≡ swept l p found
  IsOutsideChunk (kinds.LoadCell (Some place)) p found heads = heads ≡ events.Read place ∷ []
  IsOutsideChunk (kinds.LoadThunk (Some d)) p found heads = heads ≡ events.Open r d ∷ []
  -- a word of an own free descriptor; one of a block is no word of agreement
  IsOutsideChunk (kinds.PrivateStore slot word number) p found heads =
      (nat_lt slot (blocks_from m l) ≡ true → w.used (slot - slot_count l m.fixed_slots) ≡ false)
      × (heads ≡ (if nat_lt slot (blocks_from m l) then stored (slot - slot_count l m.fixed_slots) word number else []))
  -- the words that a read without a lock writes
  IsOutsideChunk kinds.ReadReply p found heads = (x : Look) × (p.reads.look ≡ Some x)
      × (heads ≡ events.ReadReply x.thunk.request (reply_in (m.body x.thunk)) ∷ [])
  IsOutsideChunk kinds.ReadStamp p found heads = (x : Look) × (p.reads.look ≡ Some x)
      × (heads ≡ events.ReadStamp x.thunk.request (read_stamp_after x.clock) ∷ [])
  IsOutsideChunk _ p found heads = heads ≡ []

  -- the events of a step of a run's line, which found this word: by the step of the line before which the
  -- run stands; a cell that is exchanged is read too
  abbrev pub IsLineChunk : EventKind → PartState → RunState → ℕ → List Event → Type 0
  IsLineChunk kinds.Commit p q found heads = (place log : ℕ)
      × (((next_of m q ≡ micros.Commit place log) × (heads ≡ events.Commit r place log ∷ []))
      ⊎ ((next_of m q ≡ micros.NestedCommit place log) × (heads ≡ events.NestedCommit r place log ∷ [])))
  IsLineChunk (kinds.LoadCell None) p q found heads = (place log : ℕ) × (next_of m q ≡ micros.LoadCell place log)
      × (heads ≡ events.LoadCell r place log ∷ [])
  IsLineChunk kinds.ExchangeCell p q found heads =
      (place log : ℕ) × (value : Source) × (next_of m q ≡ micros.ExchangeCell place log value)
      × (heads ≡ events.Read place ∷ events.ExchangeCell r place log value ∷ [])
  IsLineChunk (kinds.PrivateLoad slot cell) p q found heads = (log : ℕ) × (next_of m q ≡ micros.PrivateLoad cell log)
      × (heads ≡ events.PrivateLoad r cell log (cell_of m.fixed_cells slot cell) ∷ [])
  -- a word of a block that is to be linked, or a cell of a Make's slot
  IsLineChunk (kinds.PrivateStore slot cell number) p q found heads =
      ((needs_link q (next_of m q) ≡ true) × (heads ≡ []))
      ⊎ ((log : ℕ) × (value : Source) × (next_of m q ≡ micros.PrivateStore cell log value) × (q.made ≡ Some slot)
      × (heads ≡ events.PrivateStore r cell log value (cell_of m.fixed_cells slot cell) number ∷ []))
  IsLineChunk kinds.MakeCommit p q found heads =
      (log slot : ℕ) × (next_of m q ≡ micros.MakeCommit log) × (q.made ≡ Some slot)
      × (heads ≡ events.MakeCommit r log (suc slot) ∷ [])
  IsLineChunk kinds.EpochForRetire p q found heads = (slot log : ℕ) × (next_of m q ≡ micros.EpochForRetire slot log)
      × (heads ≡ events.EpochForRetire r slot log found ∷ [])
  IsLineChunk kinds.RetireCommit p q found heads = (slot log : ℕ) × (next_of m q ≡ micros.RetireCommit slot log)
      × (heads ≡ events.RetireCommit r slot log ∷ [])
  IsLineChunk kinds.ClockLoad p q found heads = (next_of m q ≡ micros.ClockLoad) × (heads ≡ events.ClockLoad r ∷ [])
  IsLineChunk kinds.StampExchange p q found heads =
      (next_of m q ≡ micros.StampExchange) × (heads ≡ events.StampExchange r ∷ [])
  IsLineChunk kinds.ClockRaise p q found heads = (next_of m q ≡ micros.ClockRaise) × (heads ≡ events.ClockRaise r ∷ [])
  IsLineChunk kinds.ReplyExchange p q found heads = (reply : ℕ) × (next_of m q ≡ micros.ReplyExchange reply)
      × (heads ≡ events.ReplyExchange r reply ∷ [])
  IsLineChunk kinds.NestedLoad p q found heads = (place log : ℕ) × (next_of m q ≡ micros.NestedLoad place log)
      × (heads ≡ events.NestedLoad r place log ∷ [])
  IsLineChunk kinds.NestedHold p q found heads = (place word : ℕ) × (next_of m q ≡ micros.NestedHold place word)
      × (heads ≡ events.Read place ∷ events.NestedHold r place word ∷ [])
  IsLineChunk kinds.OutcomeLoad p q found heads = (place log : ℕ) × (next_of m q ≡ micros.OutcomeLoad place log)
      × (heads ≡ events.OutcomeLoad r place log ∷ [])
  IsLineChunk kinds.OutcomeCommit p q found heads = (place log : ℕ) × (next_of m q ≡ micros.OutcomeCommit place log)
      × (heads ≡ events.OutcomeCommit r place log ∷ [])
  IsLineChunk kinds.SetDone p q found heads = (next_of m q ≡ micros.SetDone) × (heads ≡ events.SetDone r ∷ [])
  -- the run is over with the last of its releases, and the own section with it
  IsLineChunk kinds.Release p q found heads = (place word : ℕ) × (next_of m q ≡ micros.Release place word)
      × (((is_end (next_of m (ended_more q)) ≡ false) × (heads ≡ events.Read place ∷ events.Release r place word ∷ []))
      ⊎ ((is_end (next_of m (ended_more q)) ≡ true)
      × (heads ≡ events.Read place ∷ events.Release r place word ∷ events.Finish r
      ∷ retires_own p.published q.descriptor)))
  IsLineChunk _ p q found heads = heads ≡ []

  -- the events of a step in a run: none where the run has still to load words of its thunk, or its done word
  abbrev pub IsInsideChunk : Bool → EventKind → PartState → RunState → ℕ → List Event → Type 0
  IsInsideChunk true kind p q found heads = IsLineChunk kind p q found heads
  IsInsideChunk false kind p q found heads = heads ≡ []

  -- the events of this runner's step of this kind, which found this word, but for the checks that pass behind them
  abbrev pub IsChunk : EventKind → PartState → Option RunState → ℕ → List Event → Type 0
  IsChunk kind p None found heads = IsOutsideChunk kind p found heads
  IsChunk kind p (Some q) found heads = IsInsideChunk (is_open_run q) kind p q found heads
