-- So it is in every reached state with one worker.
use Rattle.std.specs.Prelude.{slice_get}
use Rattle.std.proofs.Common.{◌≡◌, ℕ, List, [], length, le_of_eq, refl, sym, ap, ◌∙◌, arith, Some, None}
use Rattle.machine_states.specs.map_history.specs.declared.op.Request.{Request}
use Rattle.machine_states.specs.table_words.specs.declared.layout.Layout.{Layout}
use Rattle.machine_states.specs.table_words.specs.Limits.{IsWithinLimits}
use Rattle.machine_states.specs.structure_laws.specs.Meaning.{Meaning}
use Rattle.machine_states.specs.structure_laws.specs.Laws.{Laws}
use Rattle.machine_states.specs.runner_parts.specs.declared.event.Event.{Event}
use Rattle.machine_states.specs.runner_parts.specs.State.{PartState}
use Rattle.machine_states.specs.World.{World, happens}
use Rattle.machine_states.specs.First.{IsFirst}
use Rattle.machine_states.specs.Reached.{Reached}
use Rattle.machine_states.specs.Sight.{sight}
use Rattle.machine_states.proofs.FirstSights.{first_part_of, first_parts}
use Rattle.machine_states.proofs.Reached.{first_reached, more_reached, reached_has, reached_all}
use Rattle.machine_states.proofs.Sights.{happens_steps}
use Rattle.machine_states.proofs.Steps.{none_some}
use Rattle.resource_bounds.specs.machine_epochs.proofs.FirstJoin as FirstJoin
use Rattle.runner_facts.specs.machine_facts.specs.machine_invariant.specs.After.{AreAllowed}
use Rattle.resource_bounds.specs.reached_histories.proofs.Histories.{reached_have}
use Rattle.one_worker.specs.Alone.{OneWorkerStands}
use Rattle.one_worker.proofs.Open.{none_open}
use Rattle.one_worker.proofs.Kept.{Holds, kept}
use Rattle.one_worker.proofs.Places.{readings_stand}

module _ (m : Meaning) (laws : Laws m) (l : Layout) (limits : IsWithinLimits l) (rs : List Request) (allowed : AreAllowed rs) where
  module _ (one : l.runners ≡ 1) where
    -- a reached state that has it
    record Has (w : World) : Type 0 where
      reached : Reached m l rs w
      has : Holds m (sight m l rs w)

    first_has : (w : World) → IsFirst m l rs w → Holds m (sight m l rs w)
    first_has w first = record {
      few = let none = ap (λ (xs : List (ℕ × ℕ)). length xs) unread in omega (arith, none);
      noted = λ x is. absurd (none_some x (sym is ∙ unpublished));
      read = λ entry i place word entered none at. absurd (none_some (place, word) (sym at ∙ ap (λ xs. slice_get xs i) unread));
    }
      where
        part : (sight m l rs w).part 0 ≡ first_part_of m l 0
        part = first_parts m l w.parts first.parts 0

        unpublished : ((sight m l rs w).part 0).published ≡ None
        unpublished = ap (λ (p : PartState). p.published) part ∙ FirstJoin.each_part m l (λ p. p.published ≡ None) refl (λ k. refl) refl 0

        unread : ((sight m l rs w).part 0).reads.walk ≡ []
        unread = ap (λ (p : PartState). p.reads.walk) part ∙ FirstJoin.each_part m l (λ p. p.reads.walk ≡ []) refl (λ k. refl) refl 0

    step_has : (w v : World) (e : Event) → Has w → happens m l rs w e ≡ Some v → Has v
    step_has w v e old goes =
        let reached = more_reached m l rs w v e old.reached goes in
        let all = reached_all m l rs w old.reached in
        record {
          reached = reached;
          has = kept m l rs (sight m l rs w) (sight m l rs v) e.runner e.kind
              (happens_steps m l rs w v e (record { words = le_of_eq (sym all.words); parts = all.parts }) goes).0
              (reached_have m laws l rs limits allowed w old.reached) (reached_have m laws l rs limits allowed v reached) one old.has;
        }

    pub holds : (w : World) → Reached m l rs w → Holds m (sight m l rs w)
    holds w reached = (reached_has m l rs Has (λ v start. record { reached = first_reached m l rs v start; has = first_has v start }) step_has w reached).has

  pub reached_alone : (w : World) → Reached m l rs w → OneWorkerStands m l (sight m l rs w)
  reached_alone w reached one = record {
    quiet = λ none. none_open m l rs (sight m l rs w) (reached_have m laws l rs limits allowed w reached) one none;
    read = readings_stand m l rs (sight m l rs w) (reached_have m laws l rs limits allowed w reached) (holds one w reached);
  }
