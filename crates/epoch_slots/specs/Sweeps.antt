-- What a sweep of the guard words reads, and which descriptors are free behind it.
use Rattle.std.specs.Prelude.{◌≡◌, ℕ, ◌+◌, ◌*◌, ◌≤◌, List, [], ◌∷◌, length, None}
use Rattle.machine_states.specs.structure_laws.specs.Meaning.{Meaning}
use Rattle.machine_states.specs.runner_parts.specs.declared.event.EventKind.TheVariants as kinds
use Rattle.machine_states.specs.epoch_core.specs.declared.stage.Stage.TheVariants as stages
use Rattle.machine_states.specs.guard_core.specs.State.{most_linked}
use Rattle.machine_states.specs.guard_core.specs.Moves.{is_unnamed}
use Rattle.machine_states.specs.runner_parts.specs.Lists.{descriptors_swept, blocks_freed, with_looked}
use Rattle.version_words.specs.RunnerState.{RunnerState}
use Rattle.version_words.specs.Events.{Makes}
use Rattle.version_words.specs.Stages.{IsAt}

module _ {T : Type 0} where
  -- the runner is idle and has no sweep in progress
  pub record MaySweep (r : RunnerState T) : Type 0 where
    pub at : IsAt r stages.Idle None
    pub looked : r.part.guards.looked ≡ []

  -- what stays in a sweep
  pub record KeepsBeside (old new : RunnerState T) : Type 0 where
    pub number : new.number ≡ old.number
    pub layout : new.layout ≡ old.layout
    pub nodes : new.part.nodes ≡ old.part.nodes
    pub known : new.part.records.known ≡ old.part.records.known
    pub finished : new.part.records.finished ≡ old.part.records.finished

  module _ (m : Meaning) where
    -- the guard words from this one on are loaded, one after the other, and hold this
    abbrev pub Sweeps : ℕ → List ℕ → RunnerState T → RunnerState T → Type 0
    Sweeps next [] r r' = r' ≡ r
    Sweeps next (found ∷ rest) r r' =
        (s : RunnerState T) × Makes m (kinds.LoadGuard next) found r s × Sweeps (next + 1) rest s r'

    -- so many guard words were read, not the last one yet: no descriptor and no block has moved
    pub record HasLooked (count : ℕ) (old new : RunnerState T) : Type 0 where
      pub found : List ℕ
      pub each : length found ≡ count
      pub sweeps : Sweeps 0 found old new
      pub at : IsAt new stages.Idle None
      pub descriptors : new.part.descriptors ≡ old.part.descriptors
      pub blocks : new.part.blocks ≡ old.part.blocks
      pub guards : new.part.guards ≡ with_looked old.part.guards found
      pub keeps : KeepsBeside old new

    -- one sweep: every guard word is loaded once, in the order of the runners, the keeper's last; the retired
    -- descriptors that none of them names go to the free list, and so do the blocks that lie in limbo under them or
    -- under others that none names; those that one names stay in limbo, and nothing else changes
    pub record HasSwept (old new : RunnerState T) : Type 0 where
      pub found : List ℕ
      pub each : length found ≡ old.layout.runners + 1
      pub sweeps : Sweeps 0 found old new
      pub descriptors : new.part.descriptors ≡ descriptors_swept found old.part.descriptors
      pub blocks : new.part.blocks ≡ blocks_freed (is_unnamed found) old.part.blocks
      -- a guard word names one descriptor, and the runner's own names none: so no more stay in limbo than there are
      -- other runners, the keeper among them, and no more than eight blocks for each of these
      pub few : length new.part.descriptors.limbo ≤ new.layout.runners
      pub few_blocks : length new.part.blocks.limbo ≤ most_linked * new.layout.runners
      pub guards : new.part.guards ≡ old.part.guards
      pub ready : MaySweep new
      pub keeps : KeepsBeside old new
