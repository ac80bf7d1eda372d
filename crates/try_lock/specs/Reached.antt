-- A runner outside a run, in a state that the machine reaches, and what it has there.
use Rattle.std.specs.Prelude.{◌≡◌, ℕ, ◌-◌, ◌≤◌, true, false, length, Option, Some}
use Rattle.machine_states.specs.body_terms.specs.Word.{value_of, is_free, held_word}
use Rattle.machine_states.specs.body_terms.specs.declared.thunk.Thunk.{Thunk}
use Rattle.machine_states.specs.structure_laws.specs.Meaning.{Meaning}
use Rattle.machine_states.specs.epoch_core.specs.declared.stage.Stage.TheVariants as stages
use Rattle.machine_states.specs.runner_parts.specs.declared.entries.Published.{Published}
use Rattle.machine_states.specs.runner_steps.specs.Outside.{is_sure_of}
use Rattle.section_runs.specs.commit_log.specs.version_words.specs.RunnerState.{RunnerState}
use Rattle.section_runs.specs.commit_log.specs.version_words.specs.Stages.{IsAt}
pub use Rattle.section_runs.specs.Reached.{IsReached, run_blocks}
use Rattle.try_lock.specs.declared.section.Section.{Section}

module _ {T : Type 0} where
  -- the runner published this section with this thunk, hasn't run it to its end, and is sure of its descriptor
  pub record IsSectionOf (r : RunnerState T) (t : Thunk) (s : Section) : Type 0 where
    pub published : Published
    pub own : r.part.published ≡ Some published
    pub descriptor : published.descriptor ≡ s.descriptor
    pub thunk : published.thunk ≡ t
    pub place : s.place ≡ t.lock
    pub held : s.held ≡ held_word s.descriptor t.word
    pub sure : is_sure_of r.part.guards s.descriptor ≡ true

  -- the runner may run the section that it published: it is entered and in no run, and has a reserve of two node slots,
  -- and of the blocks of the longest log
  pub record MayRunSection (m : Meaning) (r : RunnerState T) (t : Thunk) (s : Section) : Type 0 where
    pub epoch : ℕ
    pub published : Option Published
    pub at : IsAt r (stages.Entered epoch) published
    pub section : IsSectionOf r t s
    pub reserve : 2 ≤ length r.part.nodes.free
    pub blocks : run_blocks ≤ length r.part.blocks.free
    pub reached : IsReached m r

  -- the runner may help the section that this word names: it has watched the lock, and is sure of the descriptor
  pub record MayHelp (m : Meaning) (r : RunnerState T) (held : ℕ) : Type 0 where
    pub epoch : ℕ
    pub published : Option Published
    pub at : IsAt r (stages.Entered epoch) published
    pub names : is_free held ≡ false
    pub sure : is_sure_of r.part.guards (value_of held - 1) ≡ true
    pub reserve : 2 ≤ length r.part.nodes.free
    pub blocks : run_blocks ≤ length r.part.blocks.free
    pub reached : IsReached m r
