-- What the first states have and each step keeps between states that meet the whole invariant, every reached state has.
use Rattle.std.proofs.Common.{ℕ, ◌≡◌, List, le_of_eq, sym, Some}
use Rattle.machine_states.specs.map_history.specs.declared.op.Request.{Request}
use Rattle.machine_states.specs.table_words.specs.declared.layout.Layout.{Layout}
use Rattle.machine_states.specs.table_words.specs.Limits.{IsWithinLimits}
use Rattle.machine_states.specs.structure_laws.specs.Meaning.{Meaning}
use Rattle.machine_states.specs.structure_laws.specs.Laws.{Laws}
use Rattle.machine_states.specs.runner_parts.specs.declared.event.Event.{Event}
use Rattle.machine_states.specs.runner_parts.specs.declared.event.EventKind.{EventKind}
use Rattle.machine_states.specs.World.{World, happens}
use Rattle.machine_states.specs.First.{IsFirst}
use Rattle.machine_states.specs.Reached.{Reached}
use Rattle.machine_states.specs.Sight.{Sight, sight, Steps}
use Rattle.machine_states.specs.Sight as states
use Rattle.machine_states.proofs.Reached.{first_reached, more_reached, reached_has, reached_all}
use Rattle.machine_states.proofs.Sights.{happens_steps}
use Rattle.machine_invariant.specs.After.{AreAllowed}
use Rattle.machine_invariant.specs.Whole.{Beside, IsWhole}
use Rattle.machine_invariant.proofs.After.{reached_beside}

-- a step between two states that meet the whole invariant
pub record IsStep (m : Meaning) (l : Layout) (rs : List Request) (s s' : Sight) (r : ℕ) (kind : EventKind) : Type 0 where
  pub step : Steps m l rs s s' r kind
  pub beside : Beside
  pub whole : IsWhole m l beside s
  pub requests : beside.publications.requests ≡ rs
  pub beside' : Beside
  pub whole' : IsWhole m l beside' s'

module _ (m : Meaning) (laws : Laws m) (l : Layout) (limits : IsWithinLimits l) (rs : List Request) (allowed : AreAllowed rs) where
  complete : (w : World) → Reached m l rs w → states.IsWhole m l rs w
  complete w reached = let all = reached_all m l rs w reached in record { words = le_of_eq (sym all.words); parts = all.parts }

  whole_at : (w : World) → Reached m l rs w → (g : Beside) × IsWhole m l g (sight m l rs w) × (g.publications.requests ≡ rs)
  whole_at w reached = reached_beside m laws l rs reached.events w limits allowed reached.after

  module _ (P : Sight → Type 0) (first : (w : World) → IsFirst m l rs w → P (sight m l rs w))
      (each : (s s' : Sight) (r : ℕ) (kind : EventKind) → IsStep m l rs s s' r kind → P s → P s') where
    -- a reached state that has it
    record Has (w : World) : Type 0 where
      reached : Reached m l rs w
      has : P (sight m l rs w)

    step_has : (w v : World) (e : Event) → Has w → happens m l rs w e ≡ Some v → Has v
    step_has w v e old goes =
        let reached = more_reached m l rs w v e old.reached goes in
        let a = whole_at w old.reached in
        let b = whole_at v reached in
        record {
          reached = reached;
          has = each (sight m l rs w) (sight m l rs v) e.runner e.kind (record {
            step = (happens_steps m l rs w v e (complete w old.reached) goes).0;
            beside = a.0;
            whole = a.1;
            requests = a.2;
            beside' = b.0;
            whole' = b.1;
          }) old.has;
        }

    pub reached_keeps : (w : World) → Reached m l rs w → P (sight m l rs w)
    reached_keeps w reached = (reached_has m l rs Has
        (λ v start. record { reached = first_reached m l rs v start; has = first v start }) step_has w reached).has
