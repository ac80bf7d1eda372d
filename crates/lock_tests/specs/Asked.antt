-- Requests: which one a worker may plan and publish, and which it has served.
use Rattle.std.specs.Prelude.{◌≡◌, ◌≢◌, ℕ, ◌<◌, ◌≤◌, List, true, false, Some, slice_get}
use Rattle.machine_states.specs.map_history.specs.declared.op.Request.{Request}
use Rattle.machine_states.specs.runner_parts.specs.declared.entries.Known.{Known}
use Rattle.machine_states.specs.runner_parts.specs.Tests.{is_answered, is_next}
use Rattle.settled_tables.specs.closed_words.specs.version_words.specs.RunnerState.{RunnerState}
use Rattle.hash_table.specs.try_lock.specs.epoch_slots.specs.Collects.{IsTidy}
use Rattle.lock_tests.specs.Workers.{HasReserve}

-- of requests but this one the same are known to be answered
abbrev pub KnowsOthers : ℕ → List Known → List Known → Type 0
KnowsOthers number old new = (k : ℕ) → k ≢ number → is_answered new k ≡ is_answered old k

module _ {T : Type 0} where
  -- the request is the worker's next one; the worker is idle, with nothing in its hand, and has slots for one section
  pub record IsDue (request : Request) (r : RunnerState T) : Type 0 where
    pub tidy : IsTidy r
    pub reserve : HasReserve r
    pub there : slice_get r.requests request.number ≡ Some request
    pub next : is_next r.layout r.number r.requests r.part.records.known (Some request) ≡ true

  -- the worker is the table's only one
  pub record IsOnlyWorker (r : RunnerState T) : Type 0 where
    pub number : r.number ≡ 0
    pub alone : r.layout.runners ≡ 1

  -- the worker is idle, with nothing in its hand; it knows the answers of the requests below this number, and of no
  -- others
  pub record HasServed (number : ℕ) (r : RunnerState T) : Type 0 where
    pub tidy : IsTidy r
    pub answered : (k : ℕ) → k < number → is_answered r.part.records.known k ≡ true
    pub others : (k : ℕ) → number ≤ k → is_answered r.part.records.known k ≡ false
