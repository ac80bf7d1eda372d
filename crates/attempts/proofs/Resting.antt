-- A rested runner, and a worker, before and behind a walk over the board.
use Rattle.std.proofs.Common.{◌<◌, ap, ◌∙◌, subst}
use Rattle.std.proofs.Math.Nat.{mod-lt}
use Rattle.machine_states.specs.map_history.specs.declared.op.Request.{Request}
use Rattle.machine_states.specs.table_words.specs.Limits.{IsWithinLimits}
use Rattle.machine_states.specs.runner_parts.specs.State.{NodesState, GuardsState}
use Rattle.version_words.specs.RunnerState.{RunnerState}
use Rattle.caller_facts.specs.epoch_slots.specs.Board.{MayUseBoard, KeepsAside}
use Rattle.caller_facts.specs.epoch_slots.specs.Collects.{IsTidy}
use Rattle.caller_facts.specs.try_lock.specs.Planning.{Planning}
use Rattle.caller_facts.specs.Asking.{MayAttempt}
use Rattle.caller_facts.proofs.Standing.{may_own}
use Rattle.attempts.specs.Reclaims.{IsRested}

module _ {T : Type 0} where
  -- who may attempt a request is a worker
  pub is_worker : (planning : Planning) (request : Request) (r : RunnerState T) → MayAttempt planning request r → IsWithinLimits r.layout
      → r.number < r.layout.runners
  is_worker planning request r may limits = subst (λ n. n < r.layout.runners) (may_own planning request r may).own (mod-lt request.trace limits.some_runners)

  pub rested_then : (a b c : RunnerState T) → IsRested a b → IsRested b c → IsRested a c
  rested_then a b c one two = record {
    tidy = two.tidy;
    number = two.number ∙ one.number;
    known = two.known ∙ one.known;
    finished = two.finished ∙ one.finished;
  }

  -- a walk over the board leaves a rested runner so
  pub rested_by : (r to : RunnerState T) → IsTidy r → KeepsAside r to → MayUseBoard to → IsRested r to
  rested_by r to tidy keeps ready = record {
    tidy = record {
      at = ready.at;
      hand = ap (λ (n : NodesState). n.hand) keeps.nodes ∙ tidy.hand;
      tests = ap (λ (n : NodesState). n.tests) keeps.nodes ∙ tidy.tests;
      looked = ap (λ (g : GuardsState). g.looked) keeps.guards ∙ tidy.looked;
      unguarded = ap (λ (g : GuardsState). g.named) keeps.guards ∙ tidy.unguarded;
    };
    number = keeps.number;
    known = keeps.known;
    finished = keeps.finished;
  }
