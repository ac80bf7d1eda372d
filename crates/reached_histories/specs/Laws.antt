-- One legal history stands beside every state that the machine reaches.
use Rattle.std.specs.Prelude.{List, length}
use Rattle.machine_states.specs.map_history.specs.declared.op.Request.{Request}
use Rattle.machine_states.specs.table_words.specs.Limits.{IsWithinLimits}
use Rattle.machine_states.specs.table_words.specs.declared.layout.Layout.{Layout}
use Rattle.machine_states.specs.structure_laws.specs.Meaning.{Meaning}
use Rattle.machine_states.specs.runner_parts.specs.declared.event.Event.{Event}
use Rattle.machine_history.specs.history_core.specs.State.{HistoryState}
use Rattle.machine_states.specs.World.{World}
use Rattle.machine_states.specs.Reached.{Reached}
use Rattle.machine_states.specs.Schedules.{IsAfter}
use Rattle.machine_states.specs.Sight.{Sight, sight}
use Rattle.machine_facts.specs.machine_agreement.specs.machine_epochs.specs.Entries.{counts_of}
use Rattle.machine_history.specs.Laws.{IsJoined}
use Rattle.machine_facts.specs.machine_invariant.specs.After.{AreAllowed}
use Rattle.machine_facts.specs.machine_invariant.specs.Whole.{Beside, states_of, IsWhole}
use Rattle.reached_histories.specs.Requests.{requests_of}
use Rattle.reached_histories.specs.Kept.{AreKept}
use Rattle.reached_histories.specs.History.{IsLegalHistory, ClockStands, RequestsStand, NoLockNames, IsClosed}

module _ (m : Meaning) (l : Layout) (requests : List Request) where
  -- a state of the machine has one legal history
  pub record HasHistory (s : Sight) : Type 0 where
    -- beside it stand states of the components and of the history, which belong to it and are joined
    pub beside : Beside
    pub state : HistoryState
    pub whole : IsWhole m l beside s
    pub joined : IsJoined m l (counts_of m l) (requests_of m l requests)
        (record { joint = states_of beside s; history = state })
    pub kept : AreKept s state
    -- the history is legal, and the clock and what workers know are as they must be
    pub legal : IsLegalHistory m l requests beside s state.history state.pairs
    pub clock : ClockStands m l requests beside s (length state.history)
    pub asked : RequestsStand m l requests beside s state.history
    -- where no lock names a section, nothing is pending
    pub closed : NoLockNames m l requests beside s → IsClosed m l requests beside s state.history state.pairs

  -- so it is in every state that the machine reaches
  abbrev pub ReachedHaveHistories : Type 0
  ReachedHaveHistories = IsWithinLimits l → AreAllowed requests → (w : World) → Reached m l requests w
      → HasHistory (sight m l requests w)

  -- and so after every list of events
  abbrev pub HistoryAfter : List Event → World → Type 0
  HistoryAfter events w = IsWithinLimits l → AreAllowed requests → IsAfter m l requests events w
      → HasHistory (sight m l requests w)
