-- So it is in every reached state.
use Rattle.std.specs.Prelude.{slice_get, true}
use Rattle.std.proofs.Common.{◌≡◌, ℕ, List, sym, subst, Some, None}
use Rattle.machine_states.specs.map_history.specs.declared.op.Request.{Request}
use Rattle.machine_states.specs.table_words.specs.declared.layout.Layout.{Layout}
use Rattle.machine_states.specs.table_words.specs.Limits.{IsWithinLimits}
use Rattle.machine_states.specs.structure_laws.specs.Meaning.{Meaning}
use Rattle.machine_states.specs.structure_laws.specs.Laws.{Laws}
use Rattle.machine_states.specs.runner_parts.specs.State.{PartState, RunState, FinishedState}
use Rattle.machine_states.specs.First.{IsFirst}
use Rattle.machine_states.specs.World.{World}
use Rattle.machine_states.specs.Reached.{Reached}
use Rattle.machine_states.specs.Sight.{sight}
use Rattle.machine_states.proofs.FirstSights.{first_parts}
use Rattle.machine_states.proofs.Steps.{none_some}
use Rattle.machine_epochs.proofs.FirstJoin as FirstJoin
use Rattle.runner_facts.specs.machine_facts.specs.machine_invariant.specs.After.{AreAllowed}
use Rattle.runner_facts.specs.machine_facts.specs.machine_invariant.proofs.Keeping.{reached_keeps}
use Rattle.machine_states.specs.runner_steps.specs.Outside.{is_sure_of}
use Rattle.runner_facts.specs.machine_facts.specs.machine_invariant.proofs.LogSteps.{IsSure}
use Rattle.lock_words.specs.Stale.{StaleStand}
use Rattle.lock_words.proofs.StaleKept.{AllDiffer, all_differ}

module _ (m : Meaning) (laws : Laws m) (l : Layout) (limits : IsWithinLimits l) (rs : List Request) (allowed : AreAllowed rs) where
  -- at first nobody is sure of a descriptor
  unsure : (w : World) → IsFirst m l rs w → (d : ℕ) → IsSure (sight m l rs w) d → ⊥
  unsure w first d sure = none sure.0 sure.1
    where
      none : (i : ℕ) → is_sure_of ((sight m l rs w).part i).guards d ≡ true → ⊥
      none i = subst (λ (p : PartState). is_sure_of p.guards d ≡ true → ⊥) (sym (first_parts m l w.parts first.parts i))
          (FirstJoin.each_part m l (λ p. is_sure_of p.guards d ≡ true → ⊥) (λ z. let e = z in cc) (λ k z. let e = z in cc) (λ z. let e = z in cc) i)

  -- nobody is in a run, and nothing is kept
  abbrev IsEmpty : PartState → Type 0
  IsEmpty p = ((q : RunState) → p.run ≡ Some q → ⊥) × ((i : ℕ) (f : FinishedState) → slice_get p.records.finished i ≡ Some f → ⊥)

  empty : (w : World) → IsFirst m l rs w → (r : ℕ) → IsEmpty ((sight m l rs w).part r)
  empty w first r = subst IsEmpty (sym (first_parts m l w.parts first.parts r))
      (FirstJoin.each_part m l IsEmpty none (λ k. none) none r)
    where
      none : ((q : RunState) → None ≡ Some q → ⊥) × ((i : ℕ) (f : FinishedState) → None ≡ Some f → ⊥)
      none = (λ q is. none_some q (sym is), λ i f is. none_some f (sym is))

  first_differ : (w : World) → IsFirst m l rs w → AllDiffer m l (sight m l rs w)
  first_differ w first = record {
    agreed = λ d place free word sure outcome some. absurd (unsure w first d sure);
    found = λ d place free word load. absurd ((empty w first load.runner).0 load.run load.runs);
    stale = record { finished = λ r i place expected read f at e. absurd ((empty w first r).1 i f at) };
  }

  pub reached_stale : (w : World) → Reached m l rs w → StaleStand (sight m l rs w)
  reached_stale w reached = (reached_keeps m laws l limits rs allowed (AllDiffer m l) first_differ
      (λ s s' r kind st old. all_differ m laws l limits rs allowed s s' r kind st old) w reached).stale
