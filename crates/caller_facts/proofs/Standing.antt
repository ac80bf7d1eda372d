-- The worker's own request that it doesn't know: nobody has served it.
use Rattle.std.specs.Prelude.{◌==◌, ◌&&◌, not, Bool, true, false, None}
use Rattle.std.proofs.Common.{◌≡◌, ℕ, ◌%◌, refl, ap, ◌∙◌}
use Rattle.machine_states.specs.epoch_core.specs.small_lemmas.proofs.Numbers.{tested_equal as same_of}
use Rattle.machine_states.specs.map_history.specs.declared.op.Request.{Request}
use Rattle.machine_states.specs.table_words.specs.Limits.{IsWithinLimits}
use Rattle.machine_states.specs.structure_laws.specs.Meaning.{Meaning}
use Rattle.machine_states.specs.structure_laws.specs.Laws.{Laws}
use Rattle.machine_states.specs.runner_parts.specs.declared.event.EventKind.{EventKind}
use Rattle.machine_states.specs.runner_parts.specs.State.{PartState}
use Rattle.machine_states.specs.runner_parts.specs.Tests.{is_between, is_answered, are_answered}
use Rattle.machine_states.specs.Sight.{sight, part_or_first}
use Rattle.lock_walks.specs.version_words.specs.machine_invariant.specs.After.{AreAllowed}
use Rattle.request_facts.specs.reached_histories.specs.Requests.{or_none}
use Rattle.request_facts.specs.reached_histories.specs.Kept.{link_of}
use Rattle.request_facts.proofs.Standing.{callers_stand}
use Rattle.lock_walks.specs.version_words.specs.RunnerState.{RunnerState}
use Rattle.lock_walks.specs.version_words.specs.Events.{Makes}
use Rattle.lock_walks.specs.try_lock.specs.Planning.{Planning}
use Rattle.lock_walks.specs.try_lock.specs.Reached.{IsReached}
use Rattle.caller_facts.specs.Knowing.{IsOwn}
use Rattle.caller_facts.specs.Asking.{MayAttempt, IsUntouched}

next_test : (a b c : Bool) → (a && (not b && c)) ≡ true → (a ≡ true) × (b ≡ false)
next_test true false c e = (refl, refl)
next_test true true c e = absurd (let z = e in cc)
next_test false b c e = absurd (let z = e in cc)

module _ {T : Type 0} (planning : Planning) (request : Request) (old : RunnerState T) (may : MayAttempt planning request old) where
  tests : (request.trace % old.layout.runners == old.number ≡ true) × (is_answered old.part.records.known request.number ≡ false)
  tests = next_test _ _ (are_answered old.part.records.known request.trace request.number old.requests) may.next

  -- the request is the worker's own, and not answered
  pub may_own : IsOwn old request
  may_own = record { there = may.there; own = same_of _ _ tests.0 }

  pub may_unknown : is_answered old.part.records.known request.number ≡ false
  may_unknown = tests.1

-- a runner that has nothing to retire, and doesn't know its own request: nobody has served it
pub untouched : {T : Type 0} (m : Meaning) (laws : Laws m) (r : RunnerState T) (request : Request) → IsWithinLimits r.layout → AreAllowed r.requests
    → IsReached m r → r.part.published ≡ None → is_between r.part.reads.look ≡ false → IsOwn r request
    → is_answered r.part.records.known request.number ≡ false → IsUntouched m request.number r
untouched m laws r request limits allowed reached none settled own unknown = record {
  unknown = unknown;
  reached = reached;
  unserved = (callers_stand m laws r.layout r.requests limits allowed reached.world reached.reached).unserved r.number request.number
      (ap (λ o. (or_none o).trace % r.layout.runners) own.there ∙ own.own)
      (ap (λ (p : PartState). link_of p.published) here ∙ ap link_of none)
      (ap (λ (p : PartState). is_between p.reads.look) here ∙ settled)
      (ap (λ (p : PartState). is_answered p.records.known request.number) here ∙ unknown);
}
  where
    here : (sight m r.layout r.requests reached.world).part r.number ≡ r.part
    here = ap part_or_first reached.own

-- behind a step the machine has reached a state in which the runner has its part
pub made_reached : {T : Type 0} (m : Meaning) (kind : EventKind) (found : ℕ) (old new : RunnerState T) → Makes m kind found old new → IsReached m new
made_reached m kind found old new made = record { world = made.shown.world; reached = made.shown.reached; own = made.shown.own }
