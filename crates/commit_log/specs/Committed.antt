-- Commits of words that were loaded.
use Rattle.std.specs.Prelude.{◌≡◌, ℕ, ◌==◌, Bool, true, false, length}
use Rattle.machine_states.specs.body_terms.specs.Run.{written_once}
use Rattle.machine_states.specs.body_terms.specs.declared.micro.Micro.{Micro}
use Rattle.machine_states.specs.body_terms.specs.declared.micro.Micro.TheVariants.{Commit, NestedCommit}
use Rattle.machine_states.specs.body_terms.specs.block_words.specs.Blocks.{log_spot}
use Rattle.machine_states.specs.structure_laws.specs.Meaning.{Meaning}
use Rattle.machine_states.specs.runner_parts.specs.State.{RunState}
use Rattle.machine_states.specs.runner_steps.specs.Sections.{next_of}
use Rattle.machine_states.specs.runner_steps.specs.AfterInRun.{agrees}
use Rattle.version_words.specs.RunnerState.{RunnerState}
use Rattle.version_words.specs.ReachedWith.{ReachedWith}
use Rattle.commit_log.specs.Runs.{IsRunning, Stepped}
use Rattle.commit_log.specs.Links.{is_due}

-- the step commits a word that was loaded from a cell, or from a lock before it is taken
abbrev pub commits_loaded : Micro → Bool
commits_loaded (Commit place log) = true
commits_loaded (NestedCommit place log) = true
commits_loaded _ = false

module _ {T : Type 0} (m : Meaning) where
  -- the next step of this run commits this word, which the run loaded, into a part of its log that is linked
  pub record MayCommit (r : RunnerState T) (proposal : ℕ) (q : RunState) : Type 0 where
    pub running : IsRunning m r q
    pub micro : Micro
    pub next : next_of m q ≡ micro
    pub loaded : commits_loaded micro ≡ true
    pub linked : is_due q ≡ false
    pub word : proposal ≡ q.word

  -- this run has agreed on this word. It stands in the log, behind those agreed on before, and the run goes on with it;
  -- and whether this exchange put it there
  pub record HasCommitted (agreed : ℕ) (first : Bool) (old new : RunnerState T) (q : RunState) : Type 0 where
    pub micro : Micro
    pub found : ℕ
    pub step : Stepped m q micro found old new
    pub loaded : commits_loaded micro ≡ true
    pub told : agreed ≡ written_once found q.word
    pub won : first ≡ (found == 0)
    pub stands : ReachedWith m new.layout new.requests new.number new.part
        (log_spot q.descriptor q.links (length q.trail)) agreed
    pub goes_on : IsRunning m new (agrees m old.layout q agreed)
