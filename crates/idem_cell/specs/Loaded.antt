-- Loads of cells in a run.
use Rattle.std.specs.Prelude.{◌≡◌, ℕ, Bool}
use Rattle.machine_states.specs.body_terms.specs.declared.micro.Micro.TheVariants.{LoadCell}
use Rattle.machine_states.specs.structure_laws.specs.Meaning.{Meaning}
use Rattle.machine_states.specs.runner_parts.specs.State.{RunState}
use Rattle.machine_states.specs.runner_steps.specs.Sections.{next_of}
use Rattle.machine_states.specs.runner_steps.specs.AfterInRun.{goes_on, agrees}
use Rattle.commit_log.specs.version_words.specs.RunnerState.{RunnerState}
use Rattle.commit_log.specs.Runs.{IsRunning, Stepped}
use Rattle.commit_log.specs.Links.{HasRoom, HasLinked}
use Rattle.commit_log.specs.Committed.{HasCommitted}

module _ {T : Type 0} (m : Meaning) where
  -- the next step of this run loads this cell, and there is a block for its word where one is to be linked
  pub record MayLoad (r : RunnerState T) (place : ℕ) (q : RunState) : Type 0 where
    pub running : IsRunning m r q
    pub log : ℕ
    pub next : next_of m q ≡ LoadCell place log
    pub room : HasRoom 1 r.part q

  -- the cell was loaded, the part for its word linked where that was due, and this word agreed on, with which the run
  -- goes on
  pub record HasLoaded (place agreed : ℕ) (old new : RunnerState T) (q : RunState) : Type 0 where
    pub log : ℕ
    pub found : ℕ
    pub first : Bool
    pub middle : RunnerState T
    pub load : Stepped m q (LoadCell place log) found old middle
    pub between : RunState
    pub linked : RunnerState T
    pub links : HasLinked m middle linked (goes_on m old.layout q found) between
    pub commit : HasCommitted m agreed first linked new between
    pub goes_on : IsRunning m new (agrees m old.layout between agreed)
