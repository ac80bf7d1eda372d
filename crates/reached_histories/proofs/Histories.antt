-- Every state that the machine reaches has one legal history.
use Rattle.std.proofs.Common.{List}
use Rattle.machine_states.specs.map_history.specs.declared.op.Request.{Request}
use Rattle.machine_states.specs.table_words.specs.declared.layout.Layout.{Layout}
use Rattle.machine_states.specs.structure_laws.specs.Meaning.{Meaning}
use Rattle.machine_states.specs.structure_laws.specs.Laws.{Laws}
use Rattle.machine_states.specs.runner_parts.specs.declared.event.Event.{Event}
use Rattle.machine_states.specs.World.{World}
use Rattle.machine_states.specs.Sight.{sight}
use Rattle.reached_histories.specs.Laws.{ReachedHaveHistories, HistoryAfter}
use Rattle.reached_histories.proofs.Reached.{reached_stands}
use Rattle.reached_histories.proofs.Words.{legal_history, clock_stands, requests_stand, closed_stands}

pub reached_have : (m : Meaning) → Laws m → (l : Layout) (rs : List Request) → ReachedHaveHistories m l rs
reached_have m laws l rs limits allowed w reached =
    let s = sight m l rs w in
    let at = reached_stands m laws l limits rs allowed w reached in record {
      beside = at.core.beside;
      state = at.core.history;
      whole = at.core.whole;
      joined = at.core.joined;
      kept = at.core.kept;
      legal = legal_history m laws l limits rs allowed s at;
      clock = clock_stands m laws l limits rs allowed s at;
      asked = requests_stand m laws l limits rs allowed s at;
      closed = closed_stands m laws l limits rs allowed s at;
    }

pub history_after : (m : Meaning) → Laws m → (l : Layout) (rs : List Request) (events : List Event) (w : World) → HistoryAfter m l rs events w
history_after m laws l rs events w limits allowed after =
    reached_have m laws l rs limits allowed w (record { events = events; after = after })
