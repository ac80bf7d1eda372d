-- A bank, and its workers.
use Rattle.std.specs.Prelude.{◌≡◌, ℕ, ◌*◌, ◌<◌, ◌≤◌}
use Rattle.settled_tables.specs.closed_words.specs.version_words.specs.RunnerState.{RunnerState}
use Rattle.settled_tables.specs.closed_words.specs.version_words.specs.TableState.{TableState}
use Rattle.accounts.specs.declared.table.Accounts.{Accounts}
use Rattle.lock_attempts.specs.Tickets.{tickets_for}
use Rattle.settled_tables.specs.Seats.{IsNewWorker}

module _ (accounts workers each : ℕ) (t : TableState Accounts) where
  -- so many accounts and workers, and so many tickets for each worker
  pub record IsBank : Type 0 where
    pub accounts_are : t.structure.accounts ≡ accounts
    pub opening : t.structure.opening ≡ 100
    pub workers_are : t.layout.runners ≡ workers
    pub tickets : t.requests ≡ tickets_for workers each

  -- a new worker of it
  pub record MayMove (r : RunnerState Accounts) : Type 0 where
    pub bank : IsBank
    pub two : 2 ≤ accounts
    pub some : 0 < each
    pub few : workers * each ≤ 131072
    pub new : IsNewWorker t r.number r
    pub low : r.number < workers
