-- A transfer that answered was made.
use Rattle.std.specs.Prelude.{Result, Ok, Err, IfOk}
use Rattle.std.proofs.Common.{◌≡◌, ℕ, List, suc, ◌+◌, ◌*◌, sym, ap, ◌∙◌, subst, arith}
use Rattle.agreement_core.specs.map_history.specs.declared.op.Op.TheVariants.{Get}
use Rattle.agreement_core.specs.map_history.specs.declared.op.Request.{Request}
use Rattle.agreement_core.specs.body_terms.specs.declared.step.Step.{Step}
use Rattle.agreement_core.specs.body_terms.specs.declared.thunk.Thunk.{Thunk}
use Rattle.settled_tables.specs.settling.specs.runner_gate.specs.Asks.{Asks}
use Rattle.agreement_core.specs.section_lines.specs.structure_laws.specs.Scene.{Readings}
use Rattle.agreement_core.specs.section_lines.specs.structure_laws.specs.Meaning.{Meaning}
use Rattle.agreement_core.specs.History.{Change}
use Rattle.runner_steps.specs.Sections.{reply_in}
use Rattle.settled_tables.specs.closed_words.specs.version_words.specs.RunnerState.{RunnerState}
use Rattle.settled_tables.specs.closed_words.specs.version_words.specs.TableState.{TableState}
use Rattle.lock_attempts.specs.attempts.specs.lock_walks.specs.Own.{own_thunk}
use Rattle.accounts.specs.Walk.{begun, transfer_planning, transfer_way}
use Rattle.accounts.specs.Made.{IsMade, HasHappened, Makes}
use Rattle.accounts.specs.declared.table.Accounts.{Accounts}
use Rattle.accounts.specs.declared.transfer.Transfer.{Transfer}
use Rattle.accounts.specs.declared.walk.TransferWalk.{TransferWalk}
use Rattle.lock_attempts.specs.attempts.specs.declared.answers.Attempt.{Attempt}
use Rattle.lock_attempts.specs.Sections.{HasAnswered, changed_by}
use Rattle.lock_attempts.specs.Again.{Persists}
use Rattle.lock_attempts.specs.Tickets.{ticket}
use Rattle.lock_attempts.specs.declared.tickets.Tickets.{Tickets}
use Rattle.transfers.specs.Made.{meaning, HasMade, HaveMade}

-- a section that has happened, with its body by another name
of_body : (changed : ℕ → List Change) (log : ℕ → ℕ) (body body' : List Step) → body ≡ body' → HasHappened changed body log → HasHappened changed body' log
of_body changed log body body' same did = subst (λ b. HasHappened changed b log) same did

module _ {T : Type 0} (m : Meaning) (transfer : Transfer) (walk : TransferWalk) (makes : Makes m transfer walk) (request : Request) (answered : ℕ) (old new : RunnerState T) where
  abbrev own : Readings → Thunk
  own = own_thunk transfer_way walk request.number

  module _ (is : HasAnswered m (transfer_planning transfer) request own answered old new) where
    abbrev readings : Readings
    readings = is.run.ended.tries.readings

    pub is_made : IsMade (changed_by m (transfer_planning transfer) request own answered old new is) transfer readings answered
    is_made =
        let plans = is.run.ended.tries.plans in
        let same = ap m.body (is.run.ended.ends.is_done.thunk ∙ is.is_own) in
        subst (IsMade (changed_by m (transfer_planning transfer) request own answered old new is) transfer readings)
        (sym (is.answer ∙ ap (λ t. reply_in (m.body t)) is.is_own))
        (makes old.layout request.op request.number readings _ (changed_by m (transfer_planning transfer) request own answered old new is)
        plans.walk plans.answers.whole plans.answers.none
        (of_body _ _ _ _ same (record { wanted = is.once.wanted; changes = is.once.changed })))

-- the last attempt made it, if any
pub made_if : (t : TableState Accounts) (transfer : Transfer) (walk : TransferWalk) → walk ≡ begun transfer t.layout.version_max (Get 0) → Makes (meaning t) transfer walk
    → (request : Request) (more : ℕ) (answer : Result ℕ Attempt) (old new : RunnerState Accounts) (Seen : ℕ → Asks → Type 0) (halts halts' : ℕ) (asks asks' : Asks) (steps steps' : ℕ)
    → Persists (meaning t) (transfer_way.planning walk) request (own_thunk transfer_way walk request.number) more answer old new Seen halts halts' asks asks' steps steps'
    → IfOk answer (λ answered. HasMade t transfer request answered old new)
made_if t transfer walk same makes request more (Err refused) old new Seen halts halts' asks asks' steps steps' is = tt
made_if t transfer walk same makes request more (Ok answered) old new Seen halts halts' asks asks' steps steps' is =
    let begun_so : HasAnswered (meaning t) (transfer_planning transfer) request (own_thunk transfer_way (begun transfer t.layout.version_max (Get 0)) request.number) answered is.before new =
    subst (λ w. HasAnswered (meaning t) (transfer_way.planning w) request (own_thunk transfer_way w request.number) answered is.before new) same is.last.answers in
    record {
      before = is.before;
      answers = begun_so;
      made = is_made (meaning t) transfer (begun transfer t.layout.version_max (Get 0)) (subst (Makes (meaning t) transfer) same makes) request answered is.before new begun_so;
      knows = is.knows;
    }

-- one more, with the next ticket
pub one_more : (t : TableState Accounts) (turn worker : ℕ) (tickets : Tickets) (old mid new : RunnerState Accounts) → HaveMade t turn worker old mid
    → tickets.trace ≡ worker → tickets.next ≡ worker * 100 + turn → (transfer : Transfer) (answered : ℕ)
    → HasMade t transfer (ticket tickets.trace tickets.next) answered mid new → HaveMade t (turn + 1) worker old new
one_more t turn worker tickets old mid new made trace next transfer answered one =
    let same : suc turn ≡ turn + 1 = omega arith in
    subst (λ n. HaveMade t n worker old new) same
    (mid, transfer, answered, made, subst (λ q. HasMade t transfer q answered mid new) (λ i. ticket (trace i) (next i)) one)
