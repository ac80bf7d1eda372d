-- What a run of a structure's section costs at most.
use Rattle.std.proofs.Common.{ℕ, ◌≤◌, Bool, List, length, sym, ap, ◌∙◌, arith, subst, inl, inr, zero, suc}
use Rattle.machine_states.specs.body_terms.specs.Cost.{run_cost}
use Rattle.machine_states.specs.body_terms.specs.Trail.{Agreed}
use Rattle.machine_states.specs.body_terms.specs.declared.outcome.Outcome.{Outcome}
use Rattle.machine_states.specs.body_terms.specs.declared.thunk.Thunk.{Thunk}
use Rattle.machine_states.specs.table_words.specs.Limits.{IsWithinLimits}
use Rattle.machine_states.specs.structure_laws.specs.Meaning.{Meaning}
use Rattle.machine_states.specs.structure_laws.specs.Laws.{Laws}
use Rattle.machine_states.specs.runner_parts.specs.State.{RunState, PartState}
use Rattle.machine_states.specs.runner_steps.specs.Sections.{thunk_of}
use Rattle.machine_states.specs.Sight.{part_or_first}
use Rattle.machine_facts.specs.machine_invariant.specs.After.{AreAllowed}
use Rattle.caller_facts.specs.lock_walks.specs.runner_facts.specs.next_steps.proofs.Enabled.{reached_enabled}
use Rattle.version_words.specs.RunnerState.{RunnerState}
use Rattle.version_words.specs.TableState.{TableState, IsOf}
use Rattle.caller_facts.specs.section_runs.specs.Reached.{run_of, run_or}
use Rattle.caller_facts.specs.section_runs.specs.Opened.{opening, IsOpening, HasOpened}
use Rattle.caller_facts.specs.section_runs.proofs.Going.{brief}
use Rattle.caller_facts.specs.try_lock.specs.Ends.{EndsSo, IsCutShort}
use Rattle.attempts.specs.Attempts.{most_of_run}
use Rattle.attempts.proofs.Along.{ran_back}

module _ {T : Type 0} (m : Meaning) (laws : Laws m) (t : TableState T) (limits : IsWithinLimits t.layout) (allowed : AreAllowed t.requests)
    (old new : RunnerState T) (own : IsOf t new) where
  -- the body of a run that was opened costs few steps
  opened_brief : (d : ℕ) (thunk : Thunk) (late : Bool) (opened : RunnerState T) → IsOf t opened → HasOpened m d thunk late old opened
      → run_cost (m.body thunk) ≤ most_of_run
  opened_brief d thunk late opened own_opened is =
      subst (λ (x : Thunk). run_cost (m.body x) ≤ most_of_run) is.thunk
      (subst (λ (q : RunState). run_cost (m.body (thunk_of q.opened)) ≤ most_of_run) (ap run_or is.run)
      (brief m laws t limits allowed opened own_opened (run_of opened) is.inside))

  pub ended_costs : (d : ℕ) (thunk : Thunk) (outcome : Outcome) (trail : Agreed) (made : ℕ) → EndsSo m d thunk outcome trail made old new
      → made ≤ most_of_run
  ended_costs d thunk outcome trail made ends =
      let few = ends.few in
      let cost = opened_brief d thunk trail.late ends.opened (ran_back m t ends.count ends.opened new ends.ran own) ends.opening in
      omega (arith, few, cost)

  opening_costs : (made d : ℕ) (words : List ℕ) → IsOpening m made d words old new → made ≤ most_of_run
  opening_costs zero d words is = omega arith
  opening_costs (suc n) d words is =
      let most = (reached_enabled m laws new.layout (subst IsWithinLimits (sym own.layout) limits) new.requests (subst AreAllowed (sym own.requests) allowed)
      is.reached.world is.reached.reached).runs new.number (opening d words)
      (ap (λ (p : PartState). p.run) (ap part_or_first is.reached.own) ∙ is.run) in
      let few : length words ≤ 13 = most.most in
      let count = is.count in omega (arith, few, count)

  pub cut_costs : (d made : ℕ) → IsCutShort m d made old new → made ≤ most_of_run
  cut_costs d made (inl opening) = opening_costs made d opening.0 opening.1
  cut_costs d made (inr ran) =
      let few = ran.few in
      let cost = opened_brief d ran.thunk ran.late ran.opened (ran_back m t ran.count ran.opened new ran.ran own) ran.opening in
      omega (arith, few, cost)
