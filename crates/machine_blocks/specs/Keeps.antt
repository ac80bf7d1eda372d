-- Each step keeps where the logs stand, and a run finds its section's log where it looks for it.
use Rattle.std.specs.Prelude.{ℕ, ◌<◌, ◌≤◌, ◌/◌, ◌^◌, ◌≡◌, true, false, List, [], length, Some}
use Rattle.block_words.specs.Blocks.{link_at}
use Rattle.machine_states.specs.map_history.specs.declared.op.Request.{Request}
use Rattle.machine_states.specs.table_words.specs.declared.layout.Layout.{Layout}
use Rattle.machine_states.specs.table_words.specs.declared.spot.Spot.TheVariants.{Cell}
use Rattle.machine_states.specs.table_words.specs.Places.{part_words, block_count}
use Rattle.machine_states.specs.structure_laws.specs.Meaning.{Meaning}
use Rattle.machine_states.specs.runner_parts.specs.declared.event.EventKind.{EventKind}
use Rattle.machine_states.specs.runner_parts.specs.declared.event.EventKind.TheVariants as kinds
use Rattle.machine_states.specs.runner_parts.specs.State.{RunState}
use Rattle.machine_states.specs.runner_steps.specs.Sections.{is_open_run, next_of, commits_to, needs_link}
use Rattle.machine_states.specs.epoch_core.specs.State.{EpochState}
use Rattle.machine_states.specs.epoch_core.specs.Schedules as epoch_schedules
use Rattle.agreement_core.specs.State.{AgreementState}
use Rattle.agreement_core.specs.Schedules as agreement_schedules
use Rattle.machine_states.specs.World.{World}
use Rattle.machine_states.specs.First.{IsFirst}
use Rattle.machine_states.specs.Sight.{Sight, sight, Steps}
use Rattle.machine_guards.specs.machine_agreement.specs.machine_epochs.specs.Firsts.{first_place}
use Rattle.machine_guards.specs.machine_agreement.specs.machine_epochs.specs.Joined.{IsJoinedToEpochs}
use Rattle.machine_guards.specs.machine_agreement.specs.Joined.{IsJoinedToAgreement}
use Rattle.machine_guards.specs.Chunks.{chain_after}
use Rattle.machine_guards.specs.Goes.{OthersGo}
use Rattle.machine_guards.specs.Stands.{GuardsStand}
use Rattle.machine_guards.specs.Supplied.{GuardsAreSupplied}
use Rattle.machine_blocks.specs.Stands.{LogsStand}

module _ (m : Meaning) (l : Layout) where
  -- a step that is these events of the other components, where it is supplied, keeps where the logs stand
  abbrev pub StepsKeepLogs : List Request → Type 0
  StepsKeepLogs requests = (chain : ℕ → List ℕ) (a a' : AgreementState) (e e' : EpochState) (s s' : Sight) (r : ℕ)
      (kind : EventKind) → IsJoinedToAgreement m l a s → IsJoinedToEpochs m l e s → GuardsStand m l chain a e s
      → LogsStand chain a e s → block_count l ≤ 2 ^ 32 → (step : Steps m l requests s s' r kind)
      → GuardsAreSupplied m l chain a e s r kind (s.word (step.ask.0))
      → OthersGo m l a a' e e' s r kind (s.word (step.ask.0))
      → LogsStand (chain_after chain kind (s.part r) (s.word (step.ask.0))) a' e' s'

  -- a commit of a run finds the word that its section's log has there
  abbrev pub CommitsFindTheLog : List Request → Type 0
  CommitsFindTheLog requests = (chain : ℕ → List ℕ) (a : AgreementState) (e : EpochState) (s s' : Sight) (r k : ℕ)
      (kind : EventKind) (q : RunState) → IsJoinedToEpochs m l e s → LogsStand chain a e s
      → (step : Steps m l requests s s' r kind) → (s.part r).run ≡ Some q → is_open_run q ≡ true
      → commits_to (next_of m q) ≡ Some k → needs_link q (next_of m q) ≡ false
      → s.word (step.ask.0) ≡ (a.section q.descriptor).log k

  -- and one of a link finds the next block, or 0 behind the last one
  abbrev pub LinksLeadOn : List Request → Type 0
  LinksLeadOn requests = (chain : ℕ → List ℕ) (a : AgreementState) (e : EpochState) (s s' : Sight) (r b : ℕ)
      (q : RunState) → IsJoinedToEpochs m l e s → LogsStand chain a e s
      → (step : Steps m l requests s s' r (kinds.LinkCommit b)) → (s.part r).run ≡ Some q
      → s.word (step.ask.0) ≡ link_at (chain q.descriptor) (length q.links)

  -- one that wins has fewer blocks before it than the number of the part in which the run's next word stands
  abbrev pub LinkedAreFew : List Request → Type 0
  LinkedAreFew requests = (chain : ℕ → List ℕ) (a : AgreementState) (e : EpochState) (s s' : Sight) (r b k : ℕ)
      (q : RunState) → IsJoinedToEpochs m l e s → LogsStand chain a e s
      → (step : Steps m l requests s s' r (kinds.LinkCommit b)) → (s.part r).run ≡ Some q
      → commits_to (next_of m q) ≡ Some k → s.word (step.ask.0) ≡ 0 → length (chain q.descriptor) < k / part_words

  -- in the first state no log has a word, and no descriptor a block
  abbrev pub LogsStandFirst : List Request → Type 0
  LogsStandFirst requests = (w : World) → IsFirst m l requests w → LogsStand (λ d. [])
      (agreement_schedules.first_state (λ p. (sight m l requests w).word (Cell p)))
      (epoch_schedules.first_state (first_place m l)) (sight m l requests w)
