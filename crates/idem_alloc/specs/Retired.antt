-- Retirements of node slots in a run.
use Rattle.std.specs.Prelude.{◌≡◌, ℕ, ◌+◌, Bool, if◌then◌else◌}
use Rattle.runner_steps.specs.body_terms.specs.declared.micro.Micro.TheVariants.{EpochForRetire, RetireCommit}
use Rattle.section_lines.specs.structure_laws.specs.Meaning.{Meaning}
use Rattle.runner_steps.specs.runner_parts.specs.State.{RunState, NodesState}
use Rattle.runner_steps.specs.runner_parts.specs.Lists.{slot_retired}
use Rattle.runner_steps.specs.Sections.{next_of}
use Rattle.runner_steps.specs.AfterInRun.{goes_on, agrees}
use Rattle.commit_log.specs.version_words.specs.RunnerState.{RunnerState}
use Rattle.commit_log.specs.Runs.{IsRunning, Stepped}
use Rattle.commit_log.specs.Links.{HasRoom, HasLinked}

-- the own node slots after a retirement, with this epoch, whose commit was the first one or wasn't
abbrev pub nodes_retired : Bool → NodesState → ℕ → ℕ → NodesState
nodes_retired first n slot epoch = if first then slot_retired n slot epoch else n

-- what the commit found in the log word
abbrev pub retired_word : Bool → ℕ → ℕ
retired_word first slot = if first then 0 else slot + 1

module _ {T : Type 0} (m : Meaning) where
  -- the next step of this run retires this slot, and there is a block for its word where one is to be linked
  pub record MayRetire (r : RunnerState T) (slot : ℕ) (q : RunState) : Type 0 where
    pub running : IsRunning m r q
    pub log : ℕ
    pub next : next_of m q ≡ EpochForRetire slot log
    pub room : HasRoom 1 r.part q

  -- the epoch was loaded, the part for the slot's word linked where that was due, and the slot committed. It is in the
  -- own limbo list, with that epoch, exactly where this commit was the first one, and the own lists didn't change
  -- otherwise; the run goes on
  pub record HasRetired (slot : ℕ) (old new : RunnerState T) (q : RunState) : Type 0 where
    pub log : ℕ
    pub epoch : ℕ
    pub first : Bool
    pub middle : RunnerState T
    pub load : Stepped m q (EpochForRetire slot log) epoch old middle
    pub between : RunState
    pub linked : RunnerState T
    pub links : HasLinked m middle linked (goes_on m old.layout q epoch) between
    pub commit : Stepped m between (RetireCommit slot log) (retired_word first slot) linked new
    pub nodes : new.part.nodes ≡ nodes_retired first old.part.nodes slot epoch
    pub goes_on : IsRunning m new (agrees m old.layout between (slot + 1))
