-- Publications.
use Rattle.std.specs.Prelude.{◌≡◌, ℕ, ◌+◌, ◌<◌, ◌≤◌, ◌++◌, true, false, ◌==◌, length, replicate, Result, IfOk, IfErr, Some, None}
use Rattle.machine_states.specs.body_terms.specs.declared.outcome.Refused.{Refused}
use Rattle.machine_states.specs.body_terms.specs.declared.thunk.Thunk.{Thunk}
use Rattle.machine_states.specs.table_words.specs.declared.spot.Spot.TheVariants.{DoneWord, LogWord, LinkWord}
use Rattle.machine_states.specs.table_words.specs.Places.{slot_count, part_words}
use Rattle.machine_states.specs.structure_laws.specs.Meaning.{Meaning}
use Rattle.machine_states.specs.runner_parts.specs.declared.event.EventKind.TheVariants as kinds
use Rattle.machine_states.specs.epoch_core.specs.declared.stage.Stage.TheVariants as stages
use Rattle.machine_states.specs.runner_parts.specs.Lists.{without, cell_read}
use Rattle.machine_states.specs.runner_parts.specs.Tests.{has, is_open, thunk_words}
use Rattle.machine_states.specs.runner_steps.specs.Outside.{is_due}
use Rattle.machine_states.specs.runner_steps.specs.AfterOutside.{published_by}
use Rattle.machine_states.specs.Sight.{Sight, sight}
use Rattle.machine_epochs.specs.Slots.{thunk_in}
pub use Rattle.section_runs.specs.nested_lock.specs.Answers.{refused_by}
use Rattle.section_runs.specs.commit_log.specs.version_words.specs.RunnerState.{RunnerState}
use Rattle.section_runs.specs.commit_log.specs.version_words.specs.Events.{Makes, IsMade}
use Rattle.section_runs.specs.commit_log.specs.version_words.specs.Stages.{IsAt}
use Rattle.try_lock.specs.declared.section.Section.{Section}
use Rattle.try_lock.specs.Reached.{IsReached, IsSectionOf}
use Rattle.try_lock.specs.Prepares.{SetsWords}

-- the words of this descriptor are those of a section with this thunk that no run has begun
pub record IsUnrun (descriptor : ℕ) (t : Thunk) (s : Sight) : Type 0 where
  pub thunk : thunk_in s.word descriptor ≡ t
  pub undone : s.word (DoneWord descriptor) ≡ 0
  pub empty : (k : ℕ) → k < part_words → s.word (LogWord descriptor k) ≡ 0
  pub unlinked : s.word (LinkWord descriptor) ≡ 0

module _ {T : Type 0} where
  -- the exchange won: the section is published with this descriptor, which isn't free any more, and the runner is
  -- sure of it
  pub record IsPublished (t : Thunk) (descriptor found : ℕ) (old new : RunnerState T) (s : Section) : Type 0 where
    pub won : found ≡ t.word
    pub own : s.descriptor ≡ descriptor
    pub section : IsSectionOf new t s
    pub published : new.part.published ≡ Some (published_by t descriptor old.part)
    pub at : (epoch : ℕ) → IsAt old (stages.Entered epoch) None
        → IsAt new (stages.Entered epoch) (Some (published_by t descriptor old.part))
    pub free : new.part.descriptors.free ≡ without old.part.descriptors.free descriptor
    pub reads : new.part.reads ≡ cell_read old.part.reads t.lock found

  -- the exchange lost: the descriptor is free as before, and the guard word names it
  pub record IsRefused (t : Thunk) (descriptor found : ℕ) (old new : RunnerState T) (e : Refused) : Type 0 where
    pub lost : found == t.word ≡ false
    pub why : e ≡ refused_by old.layout.version_max t.word found
    pub at : (epoch : ℕ) → IsAt old (stages.Entered epoch) None → IsAt new (stages.Entered epoch) None
    pub free : new.part.descriptors.free ≡ old.part.descriptors.free
    pub guarded : new.part.guards.named ≡ Some descriptor
    pub reads : new.part.reads ≡ cell_read old.part.reads t.lock found

module _ {T : Type 0} (m : Meaning) where
  -- the runner is entered and in no run, and has no section left to retire; the thunk's outer lock was read in this
  -- entry, free and not spent; the thunk serves the worker's next request by what the runner has read; and a
  -- descriptor is free
  pub record MayPublish (r : RunnerState T) (t : Thunk) : Type 0 where
    pub epoch : ℕ
    pub at : IsAt r (stages.Entered epoch) None
    pub unlocked : is_open r.layout r.part.reads.cells t ≡ true
    pub due : is_due m r.layout r.requests r.number r.part.records.known r.part.reads.walk t ≡ true
    pub reserve : 1 ≤ length r.part.descriptors.free
    pub reached : IsReached m r

  -- each word of an own free descriptor was loaded, and stored where it wasn't the thunk's, no done, an empty log or
  -- no link; then the guard word was stored to name it; then one exchange of the outer lock was made from the thunk's
  -- word to the one that names the descriptor
  pub record Publishes (t : Thunk) (answer : Result Section Refused) (old new : RunnerState T) : Type 0 where
    pub descriptor : ℕ
    pub found : ℕ
    pub ready : RunnerState T
    pub guarding : RunnerState T
    pub was_free : has old.part.descriptors.free descriptor ≡ true
    pub sets : SetsWords m (slot_count old.layout m.fixed_slots + descriptor) 0
        (thunk_words t ++ replicate (part_words + 2) 0) old ready
    pub guard : IsMade m (kinds.Guard (Some descriptor)) ready guarding
    pub hold : Makes m (kinds.Hold t descriptor) found guarding new
    pub published : IfOk answer (IsPublished t descriptor found old new)
    pub refused : IfErr answer (IsRefused t descriptor found old new)
    pub read : new.part.reads.cells ≡ (cell_read old.part.reads t.lock found).cells
    -- what stays
    pub number : new.number ≡ old.number
    pub nodes : new.part.nodes ≡ old.part.nodes
    pub limbo : new.part.descriptors.limbo ≡ old.part.descriptors.limbo
    -- of its blocks those come out of limbo that lie there under this descriptor, where the exchange won
    pub blocks : length old.part.blocks.free ≤ length new.part.blocks.free
    pub looked : new.part.guards.looked ≡ old.part.guards.looked
    pub known : new.part.records.known ≡ old.part.records.known
    pub finished : new.part.records.finished ≡ old.part.records.finished
    -- the state that the machine reaches then
    pub reached : IsReached m new
    pub stands : IfOk answer (λ s. IsUnrun s.descriptor t (sight m new.layout new.requests reached.world))
