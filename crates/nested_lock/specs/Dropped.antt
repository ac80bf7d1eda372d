-- Releases of locks in a run.
use Rattle.std.specs.Prelude.{◌≡◌, ◌≢◌, ℕ, true}
use Rattle.machine_states.specs.body_terms.specs.declared.micro.Micro.TheVariants.{Release}
use Rattle.machine_states.specs.body_terms.specs.Word.{is_free, held_word, next_word}
use Rattle.machine_states.specs.table_words.specs.Access.{exchanged}
use Rattle.machine_states.specs.table_words.specs.declared.spot.Spot.TheVariants.{Cell}
use Rattle.machine_states.specs.structure_laws.specs.Meaning.{Meaning}
use Rattle.machine_states.specs.runner_parts.specs.State.{RunState}
use Rattle.machine_states.specs.runner_steps.specs.Sections.{next_of}
use Rattle.commit_log.specs.version_words.specs.RunnerState.{RunnerState}
use Rattle.commit_log.specs.version_words.specs.ReachedWith.{ReachedWith}
use Rattle.commit_log.specs.Runs.{IsRunning, Stepped}

module _ {T : Type 0} (m : Meaning) where
  -- the next step of this run releases this lock, which its section holds with this word
  pub record MayDrop (r : RunnerState T) (place held : ℕ) (q : RunState) : Type 0 where
    pub running : IsRunning m r q
    pub word : ℕ
    pub next : next_of m q ≡ Release place word
    pub free : is_free word ≡ true
    pub holds : held ≡ held_word q.descriptor word

  -- one exchange was made to the free word with the next version. The lock doesn't hold the held word then, whether
  -- this exchange changed it or it had changed before
  pub record HasDropped (place held : ℕ) (old new : RunnerState T) (q : RunState) : Type 0 where
    pub word : ℕ
    pub found : ℕ
    pub step : Stepped m q (Release place word) found old new
    pub stands : ReachedWith m new.layout new.requests new.number new.part (Cell place)
        (exchanged found held (next_word held 0))
    pub left : exchanged found held (next_word held 0) ≢ held
