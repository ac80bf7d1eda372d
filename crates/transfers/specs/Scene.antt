-- The table of the program, and a worker of it.
use Rattle.std.specs.Prelude.{◌≡◌, ◌<◌}
use Rattle.settled_tables.specs.closed_words.specs.version_words.specs.RunnerState.{RunnerState}
use Rattle.settled_tables.specs.closed_words.specs.version_words.specs.TableState.{TableState}
use Rattle.accounts.specs.declared.table.Accounts.{Accounts}
use Rattle.lock_attempts.specs.Tickets.{tickets_for}
use Rattle.settled_tables.specs.Seats.{IsNewWorker}

-- eight accounts, four workers, and a hundred tickets for each
pub record IsScene (t : TableState Accounts) : Type 0 where
  pub accounts : t.structure.accounts ≡ 8
  pub runners : t.layout.runners ≡ 4
  pub tickets : t.requests ≡ tickets_for 4 100

-- a new worker of it
pub record MayWork (t : TableState Accounts) (r : RunnerState Accounts) : Type 0 where
  pub scene : IsScene t
  pub new : IsNewWorker t r.number r
  pub low : r.number < 4
