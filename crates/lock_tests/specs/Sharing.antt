-- Two workers, each with a trace of its own.
use Rattle.std.specs.Prelude.{◌≡◌, ℕ, ◌<◌, ◌≤◌, true, false}
use Rattle.machine_states.specs.map_history.specs.declared.op.Request.{Request}
use Rattle.machine_states.specs.runner_parts.specs.Tests.{is_answered}
use Rattle.settled_tables.specs.closed_words.specs.version_words.specs.RunnerState.{RunnerState}
use Rattle.hash_table.specs.try_lock.specs.epoch_slots.specs.Collects.{IsTidy}
use Rattle.lock_attempts.specs.attempts.specs.caller_facts.specs.Knowing.{IsOwn}

-- the worker is idle, with nothing in its hand; of its own requests it knows the answers of those below this number, and
-- of no others
pub record HasServedOwn {T : Type 0} (number : ℕ) (r : RunnerState T) : Type 0 where
  pub tidy : IsTidy r
  pub answered : (q : Request) → IsOwn r q → q.number < number → is_answered r.part.records.known q.number ≡ true
  pub others : (q : Request) → IsOwn r q → number ≤ q.number → is_answered r.part.records.known q.number ≡ false
