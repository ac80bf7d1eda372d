-- Words of an own free descriptor.
use Rattle.std.specs.Prelude.{◌≡◌, ℕ, ◌+◌, ◌<◌, List, [], ◌∷◌, ◌++◌, replicate, Bool, true, false, ◌==◌, length, slice_index, None, Some}
use Rattle.machine_states.specs.body_terms.specs.declared.thunk.Thunk.{Thunk}
use Rattle.machine_states.specs.table_words.specs.Places.{slot_count, part_words}
use Rattle.machine_states.specs.structure_laws.specs.Meaning.{Meaning}
use Rattle.machine_states.specs.runner_parts.specs.declared.event.EventKind.TheVariants as kinds
use Rattle.machine_states.specs.epoch_core.specs.declared.stage.Stage.TheVariants as stages
use Rattle.machine_states.specs.runner_parts.specs.Tests.{last_stored, thunk_words, is_prepared}
use Rattle.section_runs.specs.commit_log.specs.version_words.specs.RunnerState.{RunnerState}
use Rattle.section_runs.specs.commit_log.specs.version_words.specs.Events.{Makes, IsMade}
use Rattle.section_runs.specs.commit_log.specs.version_words.specs.Stages.{IsAt, HasFree}

module _ {T : Type 0} where
  -- the runner is entered and in no run, has no section left to retire, and this descriptor is free
  pub record MaySet (r : RunnerState T) (descriptor : ℕ) : Type 0 where
    pub epoch : ℕ
    pub at : IsAt r (stages.Entered epoch) None
    pub free : HasFree r descriptor

  -- nothing of the runner changed but what it knows of the words of its descriptors, what its guard word names, and its
  -- counts of steps
  pub record KeepsElse (old new : RunnerState T) : Type 0 where
    pub number : new.number ≡ old.number
    pub layout : new.layout ≡ old.layout
    pub requests : new.requests ≡ old.requests
    pub nodes : new.part.nodes ≡ old.part.nodes
    pub free : new.part.descriptors.free ≡ old.part.descriptors.free
    pub limbo : new.part.descriptors.limbo ≡ old.part.descriptors.limbo
    pub blocks : new.part.blocks ≡ old.part.blocks
    pub looked : new.part.guards.looked ≡ old.part.guards.looked
    pub reads : new.part.reads ≡ old.part.reads
    pub known : new.part.records.known ≡ old.part.records.known
    pub finished : new.part.records.finished ≡ old.part.records.finished

  module _ (m : Meaning) where
    -- a word of an own slot that is this number already isn't stored
    abbrev pub Stores : Bool → ℕ → ℕ → ℕ → RunnerState T → RunnerState T → Type 0
    Stores true slot word number old new = new ≡ old
    Stores false slot word number old new = IsMade m (kinds.PrivateStore slot word number) old new

    -- a word of an own slot is loaded, and this number stored where another one stands
    pub record SetsWord (slot word number : ℕ) (old new : RunnerState T) : Type 0 where
      pub found : ℕ
      pub loaded : RunnerState T
      pub load : Makes m (kinds.PrivateLoad slot word) found old loaded
      pub store : Stores (found == number) slot word number loaded new

    -- so it is with the words from this one on, one after the other
    abbrev pub SetsWords : ℕ → ℕ → List ℕ → RunnerState T → RunnerState T → Type 0
    SetsWords slot word [] old new = new ≡ old
    SetsWords slot word (n ∷ ns) old new =
        (r : RunnerState T) × SetsWord slot word n old r × SetsWords slot (word + 1) ns r new

    -- these numbers stand in the descriptor's words from this one on, as the runner knows
    pub record HasSet (descriptor first : ℕ) (numbers : List ℕ) (old new : RunnerState T) : Type 0 where
      pub sets : SetsWords (slot_count old.layout m.fixed_slots + descriptor) first numbers old new
      pub at : (epoch : ℕ) → IsAt old (stages.Entered epoch) None → IsAt new (stages.Entered epoch) None
      pub keeps : KeepsElse old new
      pub stored : (i : ℕ) → i < length numbers
          → last_stored new.part.descriptors.stored descriptor (first + i) None ≡ Some (slice_index numbers i)
      pub others : (word : ℕ) → word < first
          → last_stored new.part.descriptors.stored descriptor word None
          ≡ last_stored old.part.descriptors.stored descriptor word None

    -- the descriptor's words are those of this thunk, no done, an empty log and no link, as the runner knows; each was
    -- loaded, and stored where it was another
    pub record IsReady (descriptor : ℕ) (t : Thunk) (old new : RunnerState T) : Type 0 where
      pub sets : SetsWords (slot_count old.layout m.fixed_slots + descriptor) 0
          (thunk_words t ++ replicate (part_words + 2) 0) old new
      pub at : (epoch : ℕ) → IsAt old (stages.Entered epoch) None → IsAt new (stages.Entered epoch) None
      pub keeps : KeepsElse old new
      pub prepared : is_prepared new.part.descriptors.stored descriptor t ≡ true
