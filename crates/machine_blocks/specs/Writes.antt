-- What a step writes into the sections' logs.
use Rattle.std.specs.Prelude.{ℕ, ◌≡◌, ◌⊎◌, Bool, true, false, List, Some}
use Rattle.block_words.specs.Blocks.{log_spot}
use Rattle.machine_states.specs.map_history.specs.declared.op.Request.{Request}
use Rattle.machine_states.specs.body_terms.specs.Run.{written_once}
use Rattle.machine_states.specs.body_terms.specs.declared.micro.Micro.{Micro}
use Rattle.machine_states.specs.body_terms.specs.declared.micro.Micro.TheVariants as micros
use Rattle.machine_states.specs.table_words.specs.declared.layout.Layout.{Layout}
use Rattle.machine_states.specs.table_words.specs.declared.spot.Spot.{Spot}
use Rattle.machine_states.specs.table_words.specs.declared.access.Access.{Access}
use Rattle.machine_states.specs.table_words.specs.declared.access.Access.TheVariants.{Exchanges}
use Rattle.machine_states.specs.structure_laws.specs.Meaning.{Meaning}
use Rattle.machine_states.specs.runner_parts.specs.declared.event.EventKind.{EventKind}
use Rattle.machine_states.specs.runner_parts.specs.State.{RunState}
use Rattle.machine_states.specs.runner_parts.specs.Tests.{has}
use Rattle.machine_states.specs.runner_steps.specs.Sections.{is_open_run, next_of, commits_to, is_beyond}
use Rattle.agreement_core.specs.State.{AgreementState}
use Rattle.machine_states.specs.Sight.{Sight, Steps}
use Rattle.agreement_core.specs.Events.{Event}
use Rattle.machine_guards.specs.machine_agreement.specs.Joined.{IsJoinedToAgreement}
use Rattle.machine_guards.specs.machine_agreement.specs.Chunks.{IsChunk}
use Rattle.machine_guards.specs.machine_agreement.specs.Goes.{Leads}

-- these events of agreement are the step's, and lead from the one state to the other
pub record SectionsGo (m : Meaning) (l : Layout) (a a' : AgreementState) (s : Sight) (r : ℕ) (kind : EventKind)
    (found : ℕ) : Type 0 where
  pub heads : List Event
  pub in_sections : IsChunk m l a r kind (s.part r) (s.part r).run found heads
  pub leads : Leads m l r heads a a'

-- a commit of the word by which the run goes
abbrev pub carries_word : Micro → Bool
carries_word (micros.Commit place log) = true
carries_word (micros.NestedCommit place log) = true
carries_word (micros.OutcomeCommit place log) = true
carries_word _ = false

-- the stepping runner's run of this section stands before a commit to this place of its log, whose part it knows, and
-- agrees on the word there: the one that is there, or else its proposal
pub record Agrees (m : Meaning) (a a' : AgreementState) (s : Sight) (r : ℕ) (x : Spot × Access) (d k : ℕ) : Type 0 where
  pub run : RunState
  pub runs : (s.part r).run ≡ Some run
  pub open_run : is_open_run run ≡ true
  pub of_section : run.descriptor ≡ d
  pub commits : commits_to (next_of m run) ≡ Some k
  pub near : is_beyond run (Some k) ≡ false
  pub proposal : ℕ
  pub is : (log_spot run.descriptor run.links k, Exchanges 0 proposal) ≡ x
  pub now : (a'.section d).log k ≡ written_once ((a.section d).log k) proposal
  pub carried : carries_word (next_of m run) ≡ true → proposal ≡ run.word

module _ (m : Meaning) (l : Layout) where
  -- a step leaves a word of the log of a section whose descriptor isn't in the stepping runner's free list, or it is a
  -- commit of a run of that section
  abbrev pub StepsWriteLogs : List Request → Type 0
  StepsWriteLogs requests = (a a' : AgreementState) (s s' : Sight) (r : ℕ) (kind : EventKind)
      → IsJoinedToAgreement m l a s → (step : Steps m l requests s s' r kind)
      → SectionsGo m l a a' s r kind (s.word (step.ask.0))
      → (d k : ℕ) → has (s.part r).descriptors.free d ≡ false
      → ((a'.section d).log k ≡ (a.section d).log k) ⊎ Agrees m a a' s r step.ask d k
