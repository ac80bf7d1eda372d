-- So it is in every reached state.
use Rattle.std.specs.Prelude.{slice_get, true}
use Rattle.std.proofs.Common.{◌≡◌, ℕ, List, [], refl, sym, ap, ◌∙◌, subst, le_of_eq, Some}
use Rattle.machine_states.specs.map_history.specs.declared.op.Request.{Request}
use Rattle.machine_states.specs.table_words.specs.declared.layout.Layout.{Layout}
use Rattle.machine_states.specs.table_words.specs.Limits.{IsWithinLimits}
use Rattle.machine_states.specs.structure_laws.specs.Meaning.{Meaning}
use Rattle.machine_states.specs.structure_laws.specs.Laws.{Laws}
use Rattle.machine_states.specs.runner_parts.specs.declared.event.Event.{Event}
use Rattle.machine_states.specs.runner_parts.specs.State.{FinishedState, PartState}
use Rattle.machine_states.specs.First.{IsFirst}
use Rattle.machine_states.specs.World.{World, happens}
use Rattle.machine_states.specs.Reached.{Reached}
use Rattle.machine_states.specs.Sight.{sight}
use Rattle.machine_states.proofs.FirstSights.{first_parts}
use Rattle.machine_states.proofs.Reached.{first_reached, more_reached, reached_has, reached_all}
use Rattle.machine_states.proofs.Sights.{happens_steps}
use Rattle.machine_states.proofs.Steps.{none_some}
use Rattle.machine_epochs.proofs.FirstJoin as FirstJoin
use Rattle.runner_facts.specs.machine_facts.specs.machine_invariant.specs.After.{AreAllowed}
use Rattle.runner_facts.specs.machine_facts.specs.machine_invariant.proofs.After.{reached_whole, reached_beside}
use Rattle.machine_states.specs.runner_steps.specs.Outside.{is_sure_of}
use Rattle.lock_words.specs.Taken.{TakenStand}
use Rattle.lock_words.proofs.TakenKept.{AllHeld, all_held}

module _ (m : Meaning) (laws : Laws m) (l : Layout) (limits : IsWithinLimits l) (rs : List Request) (allowed : AreAllowed rs) where
  -- a reached state of which it holds
  record Has (w : World) : Type 0 where
    reached : Reached m l rs w
    held : AllHeld m l rs w

  -- at first nobody is sure of a descriptor, and nothing is kept
  first_has : (w : World) → IsFirst m l rs w → Has w
  first_has w start = record {
    reached = first_reached m l rs w start;
    held = record {
      taken = λ d place word named sure taken names. absurd (unsure sure.0 d sure.1);
      met = λ r place word h. absurd (none_some h.finished (sym h.kept ∙ ap (λ (xs : List FinishedState). slice_get xs h.at) (nothing_kept r)));
    };
  }
    where
      unsure : (i d : ℕ) → is_sure_of ((sight m l rs w).part i).guards d ≡ true → ⊥
      unsure i d = subst (λ (p : PartState). is_sure_of p.guards d ≡ true → ⊥) (sym (first_parts m l w.parts start.parts i))
          (FirstJoin.each_part m l (λ p. is_sure_of p.guards d ≡ true → ⊥) (λ z. let e = z in cc) (λ k z. let e = z in cc) (λ z. let e = z in cc) i)

      nothing_kept : (r : ℕ) → ((sight m l rs w).part r).records.finished ≡ []
      nothing_kept r = subst (λ (p : PartState). p.records.finished ≡ []) (sym (first_parts m l w.parts start.parts r))
          (FirstJoin.each_part m l (λ p. p.records.finished ≡ []) refl (λ k. refl) refl r)

  -- one more enabled event
  next_has : (w v : World) (e : Event) → Has w → happens m l rs w e ≡ Some v → Has v
  next_has w v e old goes =
      let reached = more_reached m l rs w v e old.reached goes in
      let all = reached_all m l rs w old.reached in
      let a = reached_beside m laws l rs old.reached.events w limits allowed old.reached.after in
      let b = reached_whole m laws l rs reached.events v limits allowed reached.after in record {
        reached = reached;
        held = all_held m laws l limits rs allowed w v e old.reached goes (record {
          step = (happens_steps m l rs w v e (record { words = le_of_eq (sym all.words); parts = all.parts }) goes).0;
          beside = a.0;
          whole = a.1;
          requests = a.2;
          beside' = b.0;
          whole' = b.1;
        }) old.held;
      }

  pub reached_taken : (w : World) → Reached m l rs w → TakenStand m l rs w
  reached_taken w reached = record { met = (reached_has m l rs Has first_has next_has w reached).held.met }
