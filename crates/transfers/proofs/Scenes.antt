-- The table of the program, and its workers.
use Rattle.std.specs.Prelude.{All, slice_index_or}
use Rattle.std.proofs.Common.{◌≡◌, ℕ, ◌<◌, List, length, sym, ap, ◌∙◌, subst, arith}
use Rattle.agreement_core.specs.map_history.specs.declared.op.Request.{Request}
use Rattle.agreement_core.specs.table_words.specs.declared.layout.Layout.{Layout}
use Rattle.accounts.specs.declared.table.Accounts.{Accounts}
use Rattle.settled_tables.specs.closed_words.specs.version_words.specs.RunnerState.{RunnerState}
use Rattle.settled_tables.specs.closed_words.specs.version_words.specs.TableState.{TableState, IsNew, first_keeper}
use Rattle.lock_attempts.specs.Tickets.{tickets_for}
use Rattle.settled_tables.specs.Seats.{IsNewWorker, AreNewWorkers, AllCameBack, AreReports}
use Rattle.transfers.specs.Scene.{IsScene, MayWork}
use Rattle.transfers.specs.Made.{meaning, Reports, AllWorked, AreTrue}
use Rattle.transfers.specs.declared.works.Report.{Report}

module _ (t : TableState Accounts) (bank : Accounts) (l : Layout) (rs : List Request) (new : IsNew bank l rs t)
    (accounts : bank.accounts ≡ 8) (runners : l.runners ≡ 4) (tickets : rs ≡ tickets_for 4 100) where
  pub scene : IsScene t
  scene = record {
    accounts = ap (λ (s : Accounts). s.accounts) new.structure ∙ accounts;
    runners = ap (λ (x : Layout). x.runners) new.layout ∙ runners;
    tickets = new.requests ∙ tickets;
  }

  pub all_may_work : (workers : List (RunnerState Accounts)) → length workers ≡ 4 → AreNewWorkers t workers → All (MayWork t) workers
  all_may_work workers len all i d low =
      let one = all i d low in
      record {
        scene = scene;
        new = subst (λ (n : ℕ). IsNewWorker t n (slice_index_or workers i d)) (sym one.number_is) one;
        low = let number = one.number_is in omega (arith, number, low, len);
      }

-- the workers' reports are those with which they came back
pub all_true : (t : TableState Accounts) → IsScene t → (workers : List (RunnerState Accounts)) (backs : List (RunnerState Accounts × Report)) (reports : List Report)
    → length reports ≡ length backs → length backs ≡ length workers → AreNewWorkers t workers → AllWorked t workers backs → AreReports backs reports → AreTrue reports
all_true t scene workers backs reports len len' new worked are = (
  t,
  scene,
  λ i a low.
      let none : RunnerState Accounts = first_keeper (meaning t) t in
      let few : i < length workers = omega (arith, low, len, len') in
      let one = worked i none (none, a) few in (
        slice_index_or workers i none,
        (slice_index_or backs i (none, a)).0,
        new i none few,
        subst (λ (r : Report). Reports t r.made (slice_index_or workers i none) (slice_index_or backs i (none, a)).0) (sym (are i a low (none, a))) one.reports,
      ),
)

pub all_came : (t : TableState Accounts) (workers : List (RunnerState Accounts)) (backs : List (RunnerState Accounts × Report)) → AllWorked t workers backs → AllCameBack t workers backs
all_came t workers backs worked i d e low = (worked i d e low).came
