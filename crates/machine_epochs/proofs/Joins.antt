-- A state that supplied events lead to is joined, together with whatever else they keep.
use Rattle.std.proofs.Common.{◌≡◌, List, Some}
use Rattle.machine_states.specs.map_history.specs.declared.op.Request.{Request}
use Rattle.machine_states.specs.table_words.specs.declared.layout.Layout.{Layout}
use Rattle.machine_states.specs.table_words.specs.declared.spot.Spot.{Spot}
use Rattle.machine_states.specs.structure_laws.specs.Meaning.{Meaning}
use Rattle.machine_states.specs.runner_parts.specs.declared.event.Event.{Event}
use Rattle.machine_states.specs.epoch_core.specs.State.{EpochState}
use Rattle.machine_states.specs.epoch_core.specs.Events as events
use Rattle.machine_states.specs.epoch_core.specs.Schedules.{after_all}
use Rattle.machine_states.specs.epoch_core.specs.History.{History, no_history, noted_all, IsExact}
use Rattle.machine_states.specs.epoch_core.proofs.Exactly.{exact_first, exact_all}
use Rattle.machine_epochs.specs.Firsts.{first_place}
use Rattle.machine_states.specs.World.{World, happens, run}
use Rattle.machine_states.specs.First.{IsFirst}
use Rattle.machine_states.specs.Sight.{sight, IsWhole, Steps}
use Rattle.machine_states.proofs.Sights.{happens_steps}
use Rattle.machine_states.proofs.Reached.{run_has}
use Rattle.machine_states.proofs.FirstSights.{first_whole}
use Rattle.machine_epochs.specs.Entries.{counts_of}
use Rattle.machine_epochs.specs.Joined.{IsJoinedToEpochs}
use Rattle.machine_epochs.specs.Chunks.{IsChunk}
use Rattle.machine_epochs.specs.Supplied.{EpochsAreSupplied}
use Rattle.machine_epochs.proofs.Joining.{GoesBy}
use Rattle.machine_epochs.proofs.AllKinds.{joined_step}
use Rattle.machine_epochs.proofs.FirstJoin.{begun, first_is, first_joined}

module _ (m : Meaning) (l : Layout) (rs : List Request) (K : EpochState → World → Type 0) where
  -- the machine's state is joined to one of the component, with the history of what commits won, of which the rest holds too
  pub record Holds (v : World) : Type 0 where
    pub state : EpochState
    pub history : History
    pub exact : IsExact (counts_of m l) state history
    pub whole : IsWhole m l rs v
    pub joined : IsJoinedToEpochs m l state (sight m l rs v)
    pub rest : K state v

  -- the component's events of this event of the machine, which meets this word
  abbrev pub IsEventChunk : World → Event → Spot → List events.Event → Type 0
  IsEventChunk v e spot = let s = sight m l rs v in IsChunk m l e.runner e.kind (s.part e.runner) (s.part e.runner).run (s.word spot)

  -- the rest holds at first, supplies each event, and is kept by it
  pub record Carries : Type 0 where
    pub starts : (v : World) → IsFirst m l rs v → K (begun m l) v
    pub supplies : (w : EpochState) (v v' : World) (e : Event) → IsJoinedToEpochs m l w (sight m l rs v) → K w v → (step : Steps m l rs (sight m l rs v) (sight m l rs v') e.runner e.kind)
        → EpochsAreSupplied m l w (sight m l rs v) e.runner e.kind step.ask.0
    pub keeps : (w : EpochState) (v v' : World) (e : Event) → IsJoinedToEpochs m l w (sight m l rs v) → K w v → happens m l rs v e ≡ Some v'
        → (step : Steps m l rs (sight m l rs v) (sight m l rs v') e.runner e.kind)
        → (g : GoesBy m l (IsEventChunk v e (step.ask.0)) w (sight m l rs v')) → K (after_all (counts_of m l) w g.0) v'

  module _ (carries : Carries) where
    one_more : (v v' : World) (e : Event) → happens m l rs v e ≡ Some v' → Holds v → Holds v'
    one_more v v' e h old =
        let step = happens_steps m l rs v v' e old.whole h in
        let g = joined_step m l rs old.state (sight m l rs v) (sight m l rs v') e.runner e.kind step.0 old.joined (carries.supplies old.state v v' e old.joined old.rest step.0) in
        record {
          state = after_all (counts_of m l) old.state g.0;
          history = noted_all (counts_of m l) old.state old.history g.0;
          exact = exact_all (counts_of m l) old.state old.history g.0 g.2.enabled old.joined.sound old.exact;
          whole = step.1;
          joined = g.2.joined;
          rest = carries.keeps old.state v v' e old.joined old.rest h step.0 g;
        }

    -- every state that these events lead to is joined
    pub joined_after : (es : List Event) (v u : World) → IsFirst m l rs v → run m l rs v es ≡ Some u → Holds u
    joined_after es v u first so_far =
        run_has m l rs Holds (λ y z e old h. one_more y z e h old) es v u
        (record {
          state = begun m l;
          history = no_history;
          exact = exact_first (counts_of m l) (first_place m l) (first_is m l);
          whole = first_whole m l rs v first;
          joined = first_joined m l rs v first;
          rest = carries.starts v first;
        }) so_far
