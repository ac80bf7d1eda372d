-- What the section of a transfer does to the two balances.
use Rattle.std.specs.Prelude.{◌≡◌, ◌≢◌, ℕ, ◌+◌, ◌-◌, true, List, [], ◌∷◌, None}
use Rattle.agreement_core.specs.map_history.specs.declared.op.Op.{Op}
use Rattle.agreement_core.specs.body_terms.specs.Line.{line, micro_at}
use Rattle.agreement_core.specs.body_terms.specs.Word.{value_of, next_word}
use Rattle.agreement_core.specs.body_terms.specs.declared.micro.Micro.TheVariants.{CheckWord}
use Rattle.agreement_core.specs.body_terms.specs.declared.step.Step.{Step}
use Rattle.agreement_core.specs.table_words.specs.declared.layout.Layout.{Layout}
use Rattle.agreement_core.specs.section_lines.specs.structure_laws.specs.Scene.{Readings}
use Rattle.agreement_core.specs.section_lines.specs.structure_laws.specs.Meaning.{Meaning}
use Rattle.agreement_core.specs.History.{Change, change_of}
use Rattle.runner_steps.specs.runner_parts.specs.Tests.{has_pair}
use Rattle.runner_steps.specs.Sections.{reply_in}
use Rattle.account_laws.specs.Accounts.{balance_of}
use Rattle.lock_walks.specs.try_lock.specs.Plans.{IsWalk, NoneRefuses}
use Rattle.lock_walks.specs.Own.{own_thunk}
use Rattle.accounts.specs.Moves.{moved}
use Rattle.accounts.specs.Walk.{transfer_planning, transfer_way}
use Rattle.accounts.specs.declared.transfer.Transfer.{Transfer}
use Rattle.accounts.specs.declared.walk.TransferWalk.{TransferWalk}

-- what the exchanges of a section changed, by their places in its line
module _ (changed : ℕ → List Change) where
  -- one of them set this account's balance, in one event: from this word to the next one, with this value
  pub record SetsBalance (account word value : ℕ) : Type 0 where
    pub at : ℕ
    pub once : changed at ≡ record { place = balance_of account; old = word; new = next_word word value } ∷ []

  -- the transfer was made: of the two balances, which had been read with these words, the one went down and the other
  -- went up by what is moved, no other cell was changed, and one more than that was answered
  pub record IsMade (t : Transfer) (readings : Readings) (answer : ℕ) : Type 0 where
    pub source : ℕ
    pub target : ℕ
    pub read_source : has_pair readings (balance_of t.from) source ≡ true
    pub read_target : has_pair readings (balance_of t.to) target ≡ true
    pub gives : SetsBalance t.from source (value_of source - moved t.amount (value_of source) (value_of target))
    pub takes : SetsBalance t.to target (value_of target + moved t.amount (value_of source) (value_of target))
    pub only : (i : ℕ) → i ≢ gives.at → i ≢ takes.at → changed i ≡ []
    pub answers : answer ≡ moved t.amount (value_of source) (value_of target) + 1

  -- a section with this body and these agreed words has happened: each word that it wanted is the agreed one, and each
  -- place of its line changed what its step says: a Store its cell once, from the agreed word to the new one
  pub record HasHappened (body : List Step) (log : ℕ → ℕ) : Type 0 where
    pub wanted : (i place k word : ℕ) → micro_at (line body) i ≡ CheckWord place k word → log k ≡ word
    pub changes : (i : ℕ) → changed i ≡ change_of log (micro_at (line body) i)

-- where a section has happened whose thunk is this walk's own, by whole readings of which none refuses, the transfer
-- was made
abbrev pub Makes : Meaning → Transfer → TransferWalk → Type 0
Makes m t walk = (layout : Layout) (op : Op) (number : ℕ) (readings : Readings) (log : ℕ → ℕ)
    (changed : ℕ → List Change) → IsWalk m (transfer_planning t) layout op readings
    → (transfer_planning t).wants layout op readings ≡ None → NoneRefuses m (transfer_planning t) layout op readings
    → HasHappened changed (m.body (own_thunk transfer_way walk number readings)) log
    → IsMade changed t readings (reply_in (m.body (own_thunk transfer_way walk number readings)))
