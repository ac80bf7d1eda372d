-- The worker of a table before it has done anything.
use Rattle.std.specs.Prelude.{◌≡◌, []}
use Rattle.table_steps.specs.version_words.specs.RunnerState.{RunnerState}
use Rattle.try_lock.specs.epoch_slots.specs.Collects.{IsTidy}

-- it is the first one, idle with an empty hand, and knows nothing of any request
pub record IsFresh {T : Type 0} (r : RunnerState T) : Type 0 where
  pub tidy : IsTidy r
  pub knows : r.part.records.known ≡ []
  pub number : r.number ≡ 0
