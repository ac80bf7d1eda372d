-- What a worker made.
use Rattle.std.specs.Prelude.{◌≡◌, ℕ, zero, suc, ◌+◌, ◌*◌, ◌<◌, List, length, slice_index_or}
use Rattle.agreement_core.specs.map_history.specs.declared.op.Op.TheVariants.{Get}
use Rattle.agreement_core.specs.map_history.specs.declared.op.Request.{Request}
use Rattle.agreement_core.specs.section_lines.specs.structure_laws.specs.Meaning.{Meaning}
use Rattle.settled_tables.specs.closed_words.specs.version_words.specs.RunnerState.{RunnerState}
use Rattle.settled_tables.specs.closed_words.specs.version_words.specs.TableState.{TableState}
use Rattle.accounts.specs.account_laws.specs.Accounts.{accounts_of}
use Rattle.lock_attempts.specs.attempts.specs.lock_walks.specs.Own.{own_thunk}
use Rattle.accounts.specs.Walk.{begun, transfer_planning, transfer_way}
use Rattle.accounts.specs.Made.{IsMade}
use Rattle.accounts.specs.declared.table.Accounts.{Accounts}
use Rattle.accounts.specs.declared.transfer.Transfer.{Transfer}
use Rattle.lock_attempts.specs.attempts.specs.caller_facts.specs.Knowing.{KnowsMore}
use Rattle.lock_attempts.specs.Sections.{HasAnswered, changed_by}
use Rattle.lock_attempts.specs.Tickets.{ticket}
use Rattle.settled_tables.specs.Seats.{IsNewWorker, CameBack}
use Rattle.transfers.specs.Scene.{IsScene}
use Rattle.transfers.specs.declared.works.Report.{Report}

module _ (t : TableState Accounts) where
  -- what the table's accounts mean
  abbrev pub meaning : Meaning
  meaning = accounts_of t.structure.accounts t.structure.opening

  -- a ticket's section answered in its last attempt, with the thunk of this transfer's walk by what that read
  abbrev pub Answered : Transfer → Request → ℕ → (old new : RunnerState Accounts) → Type 0
  Answered transfer request answered old new = HasAnswered meaning (transfer_planning transfer) request
      (own_thunk transfer_way (begun transfer t.layout.version_max (Get 0)) request.number) answered old new

  -- with this ticket the transfer was made, once, and so it answered
  pub record HasMade (transfer : Transfer) (request : Request) (answered : ℕ) (old new : RunnerState Accounts)
      : Type 0 where
    pub before : RunnerState Accounts
    pub answers : Answered transfer request answered before new
    pub made : IsMade (changed_by meaning _ request _ answered before new answers) transfer
        answers.run.ended.tries.readings answered
    pub knows : KnowsMore old new

  -- the worker with this number made so many transfers, one behind the other, with its first tickets
  abbrev pub HaveMade : (made worker : ℕ) (old new : RunnerState Accounts) → Type 0
  HaveMade zero worker old new = new ≡ old
  HaveMade (suc n) worker old new = (mid : RunnerState Accounts) × (transfer : Transfer) × (answered : ℕ)
      × HaveMade n worker old mid × HasMade transfer (ticket worker (worker * 100 + n)) answered mid new

  -- a worker made as many as it reports, and knows them as it comes back
  abbrev pub Reports : ℕ → (old new : RunnerState Accounts) → Type 0
  Reports made old new =
      (last : RunnerState Accounts) × HaveMade made old.number old last × KnowsMore last new

  -- a worker came back, having made as many transfers as it reports
  pub record HasWorked (worker : RunnerState Accounts) (back : RunnerState Accounts × Report) : Type 0 where
    pub came : CameBack t worker back
    pub reports : Reports back.1.made worker back.0

  abbrev pub AllWorked : List (RunnerState Accounts) → List (RunnerState Accounts × Report) → Type 0
  AllWorked workers backs = (i : ℕ) (d : RunnerState Accounts) (e : RunnerState Accounts × Report)
      → i < length workers → HasWorked (slice_index_or workers i d) (slice_index_or backs i e)

-- on one table of the program each worker made as many transfers as its report tells, from its beginning on
abbrev pub AreTrue : List Report → Type 0
AreTrue reports = (t : TableState Accounts) × IsScene t × ((i : ℕ) (a : Report) → i < length reports
    → (old new : RunnerState Accounts) × IsNewWorker t i old × Reports t (slice_index_or reports i a).made old new)
