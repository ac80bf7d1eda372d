-- Entering and leaving.
use Rattle.std.specs.Prelude.{◌≡◌, ℕ, ◌≤◌, [], length, None}
use Rattle.machine_states.specs.structure_laws.specs.Meaning.{Meaning}
use Rattle.machine_states.specs.runner_parts.specs.declared.event.EventKind.TheVariants as kinds
use Rattle.machine_states.specs.epoch_core.specs.declared.stage.Stage.TheVariants as stages
use Rattle.machine_states.specs.runner_parts.specs.Lists.{no_reads, with_looked}
use Rattle.version_words.specs.RunnerState.{RunnerState}
use Rattle.version_words.specs.Events.{Makes, IsMade}
use Rattle.version_words.specs.Stages.{IsAt}

module _ {T : Type 0} where
  -- the runner has its number and its own slots, and knows what it knew. Of its blocks some may have come out of limbo
  pub record KeepsOwn (old new : RunnerState T) : Type 0 where
    pub number : new.number ≡ old.number
    pub nodes : new.part.nodes ≡ old.part.nodes
    pub descriptors : new.part.descriptors ≡ old.part.descriptors
    pub blocks : length old.part.blocks.free ≤ length new.part.blocks.free
    pub known : new.part.records.known ≡ old.part.records.known
    pub finished : new.part.records.finished ≡ old.part.records.finished

  -- the runner is entered, in no run, has no section left to run to its end, and its guard word names nothing
  pub record HasLeave (r : RunnerState T) : Type 0 where
    pub epoch : ℕ
    pub at : IsAt r (stages.Entered epoch) None
    pub unguarded : r.part.guards.named ≡ None

  module _ (m : Meaning) where
    -- an epoch is loaded and announced; the runner is entered with the one that is loaded then, and a sweep in progress
    -- counts for nothing
    pub record Enters (old new : RunnerState T) : Type 0 where
      pub announced : ℕ
      pub epoch : ℕ
      pub loading : RunnerState T
      pub waiting : RunnerState T
      pub load : Makes m kinds.EnterLoad announced old loading
      pub announce : IsMade m kinds.Announce loading waiting
      pub again : Makes m kinds.EnterAgain epoch waiting new
      pub at : IsAt new (stages.Entered epoch) None
      pub reads : new.part.reads ≡ no_reads
      pub guards : new.part.guards ≡ with_looked old.part.guards []
      pub keeps : KeepsOwn old new

    -- the runner announces that it is idle
    pub record Exits (old new : RunnerState T) : Type 0 where
      pub announce : IsMade m kinds.Idle old new
      pub at : IsAt new stages.Idle None
      pub guards : new.part.guards ≡ old.part.guards
      pub keeps : KeepsOwn old new
