-- Stores to cells in a run.
use Rattle.std.specs.Prelude.{◌≡◌, ◌≢◌, ℕ, slice_index}
use Rattle.machine_states.specs.body_terms.specs.declared.micro.Source.{Source}
use Rattle.machine_states.specs.body_terms.specs.declared.micro.Micro.TheVariants.{ExchangeCell}
use Rattle.machine_states.specs.body_terms.specs.Word.{next_word}
use Rattle.machine_states.specs.body_terms.specs.Run.{source_value}
use Rattle.machine_states.specs.table_words.specs.Access.{exchanged}
use Rattle.machine_states.specs.table_words.specs.declared.spot.Spot.TheVariants.{Cell}
use Rattle.machine_states.specs.structure_laws.specs.Meaning.{Meaning}
use Rattle.machine_states.specs.runner_parts.specs.State.{RunState}
use Rattle.machine_states.specs.runner_steps.specs.Sections.{next_of}
use Rattle.machine_states.specs.runner_steps.specs.AfterInRun.{goes_on}
use Rattle.commit_log.specs.version_words.specs.RunnerState.{RunnerState}
use Rattle.commit_log.specs.version_words.specs.ReachedWith.{ReachedWith}
use Rattle.commit_log.specs.Runs.{IsRunning, Stepped}

module _ {T : Type 0} (m : Meaning) where
  -- the next step of this run stores this value in this cell, in place of this word
  pub record MayStore (r : RunnerState T) (place old value : ℕ) (q : RunState) : Type 0 where
    pub running : IsRunning m r q
    pub log : ℕ
    pub source : Source
    pub next : next_of m q ≡ ExchangeCell place log source
    pub word : old ≡ slice_index q.trail log
    pub given : value ≡ source_value q.trail source

  -- one exchange was made to the word with this value and the next version. The cell doesn't hold the old word then,
  -- whether this exchange changed it or it had changed before, and the run goes on
  pub record HasStored (place old value : ℕ) (before after : RunnerState T) (q : RunState) : Type 0 where
    pub log : ℕ
    pub source : Source
    pub found : ℕ
    pub step : Stepped m q (ExchangeCell place log source) found before after
    pub stands : ReachedWith m after.layout after.requests after.number after.part (Cell place)
        (exchanged found old (next_word old value))
    pub left : exchanged found old (next_word old value) ≢ old
    pub goes_on : IsRunning m after (goes_on m before.layout q q.word)
