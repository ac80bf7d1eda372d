-- A new bank, and its workers.
use Rattle.std.specs.Prelude.{All, slice_index_or}
use Rattle.std.proofs.Common.{◌≡◌, ℕ, ◌*◌, ◌<◌, ◌≤◌, List, length, sym, ap, ◌∙◌, subst, arith}
use Rattle.machine_states.specs.map_history.specs.declared.op.Request.{Request}
use Rattle.machine_states.specs.table_words.specs.declared.layout.Layout.{Layout}
use Rattle.accounts.specs.declared.table.Accounts.{Accounts}
use Rattle.settled_tables.specs.closed_words.specs.version_words.specs.RunnerState.{RunnerState}
use Rattle.settled_tables.specs.closed_words.specs.version_words.specs.TableState.{TableState, IsNew}
use Rattle.lock_attempts.specs.Tickets.{tickets_for}
use Rattle.settled_tables.specs.Seats.{IsNewWorker, AreNewWorkers}
use Rattle.lock_tests.specs.Bank.{IsBank, MayMove}

module _ (accounts workers each : ℕ) (t : TableState Accounts) where
  module _ (bank : Accounts) (l : Layout) (rs : List Request) (new : IsNew bank l rs t)
      (accounts_are : bank.accounts ≡ accounts) (opening : bank.opening ≡ 100) (runners : l.runners ≡ workers) (tickets : rs ≡ tickets_for workers each) where
    pub new_bank : IsBank accounts workers each t
    new_bank = record {
      accounts_are = ap (λ (s : Accounts). s.accounts) new.structure ∙ accounts_are;
      opening = ap (λ (s : Accounts). s.opening) new.structure ∙ opening;
      workers_are = ap (λ (x : Layout). x.runners) new.layout ∙ runners;
      tickets = new.requests ∙ tickets;
    }

    pub all_may_move : 2 ≤ accounts → 0 < each → workers * each ≤ 131072 → (workers_list : List (RunnerState Accounts)) → length workers_list ≡ workers
        → AreNewWorkers t workers_list → All (MayMove accounts workers each t) workers_list
    all_may_move two some few list len all i d low =
        let one = all i d low in
        record {
          bank = new_bank;
          two = two;
          some = some;
          few = few;
          new = subst (λ (n : ℕ). IsNewWorker t n (slice_index_or list i d)) (sym one.number_is) one;
          low = let number = one.number_is in omega (arith, number, low, len);
        }

  -- the same, by the table's own numbers
  pub by_table : IsBank accounts workers each t → (list : List (RunnerState Accounts)) → All (MayMove accounts workers each t) list
      → All (MayMove t.structure.accounts t.layout.runners each t) list
  by_table bank list all = subst (λ (a : ℕ). All (MayMove a t.layout.runners each t) list) (sym bank.accounts_are)
      (subst (λ (w : ℕ). All (MayMove accounts w each t) list) (sym bank.workers_are) all)
