-- What stands of spent words in every reached state.
use Rattle.std.specs.Prelude.{slice_get}
use Rattle.std.proofs.Common.{◌≡◌, ℕ, List, sym, le_of_eq, subst, Some}
use Rattle.machine_states.specs.map_history.specs.declared.op.Request.{Request}
use Rattle.machine_states.specs.table_words.specs.declared.layout.Layout.{Layout}
use Rattle.machine_states.specs.table_words.specs.Limits.{IsWithinLimits}
use Rattle.machine_states.specs.structure_laws.specs.Meaning.{Meaning}
use Rattle.machine_states.specs.structure_laws.specs.Laws.{Laws}
use Rattle.machine_states.specs.runner_parts.specs.declared.event.Event.{Event}
use Rattle.machine_states.specs.runner_parts.specs.State.{FinishedState, PartState}
use Rattle.machine_states.specs.World.{World, happens}
use Rattle.machine_states.specs.First.{IsFirst}
use Rattle.machine_states.specs.Reached.{Reached}
use Rattle.machine_states.specs.Sight.{sight}
use Rattle.machine_states.proofs.FirstSights.{first_parts}
use Rattle.machine_states.proofs.Reached.{first_reached, more_reached, reached_has, reached_all}
use Rattle.machine_states.proofs.Sights.{happens_steps}
use Rattle.machine_states.proofs.Steps.{none_some}
use Rattle.machine_epochs.proofs.FirstJoin as FirstJoin
use Rattle.runner_facts.specs.machine_facts.specs.machine_invariant.specs.After.{AreAllowed}
use Rattle.runner_facts.specs.machine_facts.specs.machine_invariant.proofs.Rising.{rises_after}
use Rattle.runner_facts.specs.machine_facts.specs.machine_invariant.proofs.After.{reached_whole}
use Rattle.lock_words.specs.Spent.{SpentStand}
use Rattle.lock_words.proofs.Agreed.{seen_past}
use Rattle.lock_words.proofs.Kept.{FinishedStand, finished_kept}

module _ (m : Meaning) (laws : Laws m) (l : Layout) (limits : IsWithinLimits l) (rs : List Request) (allowed : AreAllowed rs) where
  -- a reached state that has it
  record Has (w : World) : Type 0 where
    reached : Reached m l rs w
    has : FinishedStand m l (sight m l rs w)

  -- at first nothing is kept
  abbrev IsEmpty : PartState → Type 0
  IsEmpty p = (i : ℕ) (f : FinishedState) → slice_get p.records.finished i ≡ Some f → ⊥

  first_has : (w : World) → IsFirst m l rs w → FinishedStand m l (sight m l rs w)
  first_has w first r i place spent f at e = absurd (subst IsEmpty (sym (first_parts m l w.parts first.parts r))
      (FirstJoin.each_part m l IsEmpty (λ j y none. none_some y (sym none)) (λ n j y none. none_some y (sym none)) (λ j y none. none_some y (sym none)) r) i f at)

  step_has : (w v : World) (e : Event) → Has w → happens m l rs w e ≡ Some v → Has v
  step_has w v e old goes =
      let reached = more_reached m l rs w v e old.reached goes in
      let all = reached_all m l rs w old.reached in
      let a = reached_whole m laws l rs old.reached.events w limits allowed old.reached.after in
      record {
        reached = reached;
        has = finished_kept m l rs (sight m l rs w) (sight m l rs v) e.runner e.kind
            (happens_steps m l rs w v e (record { words = le_of_eq (sym all.words); parts = all.parts }) goes).0
            a.0.agreement a.1.sections (rises_after m laws l rs old.reached.events w limits allowed old.reached.after e v goes) old.has;
      }

  pub reached_spent : (w : World) → Reached m l rs w → SpentStand m l (sight m l rs w)
  reached_spent w reached = let a = reached_whole m laws l rs reached.events w limits allowed reached.after in record {
    finished = (reached_has m l rs Has (λ v start. record { reached = first_reached m l rs v start; has = first_has v start }) step_has w reached).has;
    read = λ r place found e. seen_past m l a.0.agreement (sight m l rs w) a.1.sections place found ((a.1.sections.tied r).read place found e);
  }
