-- What the first states have and each step keeps that raises the versions of cells by one at most, every reached state has.
use Rattle.std.proofs.Common.{◌≡◌, ℕ, List, sym, le_of_eq, Some}
use Rattle.machine_states.specs.map_history.specs.declared.op.Request.{Request}
use Rattle.machine_states.specs.table_words.specs.declared.layout.Layout.{Layout}
use Rattle.machine_states.specs.table_words.specs.Limits.{IsWithinLimits}
use Rattle.machine_states.specs.structure_laws.specs.Meaning.{Meaning}
use Rattle.machine_states.specs.structure_laws.specs.Laws.{Laws}
use Rattle.machine_states.specs.runner_parts.specs.declared.event.Event.{Event}
use Rattle.machine_states.specs.runner_parts.specs.declared.event.EventKind.{EventKind}
use Rattle.machine_states.specs.World.{World, happens}
use Rattle.machine_states.specs.First.{IsFirst}
use Rattle.machine_states.specs.Reached.{Reached}
use Rattle.machine_states.specs.Sight.{Sight, sight}
use Rattle.machine_states.proofs.Reached.{first_reached, more_reached, reached_has, reached_all}
use Rattle.machine_states.proofs.Sights.{happens_steps}
use Rattle.machine_facts.specs.machine_invariant.specs.After.{AreAllowed}
use Rattle.machine_facts.specs.machine_invariant.specs.Rising.{CellsRise}
use Rattle.machine_facts.specs.machine_invariant.proofs.Rising.{rises_after}
use Rattle.machine_facts.specs.machine_invariant.proofs.After.{reached_whole, reached_beside}
use Rattle.machine_facts.specs.machine_invariant.proofs.Keeping.{IsStep}

module _ (m : Meaning) (laws : Laws m) (l : Layout) (limits : IsWithinLimits l) (rs : List Request) (allowed : AreAllowed rs)
    (P : Sight → Type 0) (first : (w : World) → IsFirst m l rs w → P (sight m l rs w))
    (each : (s s' : Sight) (r : ℕ) (kind : EventKind) → IsStep m l rs s s' r kind → CellsRise s.word s'.word → P s → P s') where
  -- a reached state that has it
  record Has (w : World) : Type 0 where
    reached : Reached m l rs w
    has : P (sight m l rs w)

  step_has : (w v : World) (e : Event) → Has w → happens m l rs w e ≡ Some v → Has v
  step_has w v e old goes =
      let reached = more_reached m l rs w v e old.reached goes in
      let all = reached_all m l rs w old.reached in
      let a = reached_beside m laws l rs old.reached.events w limits allowed old.reached.after in
      let b = reached_whole m laws l rs reached.events v limits allowed reached.after in
      record {
        reached = reached;
        has = each (sight m l rs w) (sight m l rs v) e.runner e.kind (record {
          step = (happens_steps m l rs w v e (record { words = le_of_eq (sym all.words); parts = all.parts }) goes).0;
          beside = a.0;
          whole = a.1;
          requests = a.2;
          beside' = b.0;
          whole' = b.1;
        }) (rises_after m laws l rs old.reached.events w limits allowed old.reached.after e v goes) old.has;
      }

  pub raising_keeps : (w : World) → Reached m l rs w → P (sight m l rs w)
  raising_keeps w reached = (reached_has m l rs Has
      (λ v start. record { reached = first_reached m l rs v start; has = first v start }) step_has w reached).has
