-- Workers on their way to a section and through it.
use Rattle.std.specs.Prelude.{◌≡◌, ℕ, [], true, false, None}
use Rattle.machine_states.specs.body_terms.specs.Word.{is_free}
use Rattle.machine_states.specs.body_terms.specs.declared.thunk.Thunk.{Thunk}
use Rattle.machine_states.specs.structure_laws.specs.Meaning.{Meaning}
use Rattle.machine_states.specs.epoch_core.specs.declared.stage.Stage.TheVariants as stages
use Rattle.machine_states.specs.runner_parts.specs.Tests.{has_pair}
use Rattle.settled_tables.specs.closed_words.specs.version_words.specs.RunnerState.{RunnerState}
use Rattle.settled_tables.specs.closed_words.specs.version_words.specs.Stages.{IsAt}
use Rattle.hash_table.specs.try_lock.specs.epoch_slots.specs.Collects.{IsTidy}
use Rattle.hash_table.specs.try_lock.specs.Reached.{IsReached, MayHelp, MayRunSection}
use Rattle.hash_table.specs.try_lock.specs.Watches.{MayWatch}
use Rattle.hash_table.specs.try_lock.specs.declared.section.Section.{Section}
-- two node slots, one descriptor and the blocks for two logs are free; no slot is in the runner's hand, and no sweep in
-- progress
pub use Rattle.lock_attempts.specs.attempts.specs.Course.{HasReserve, IsEmptyHanded}

module _ {T : Type 0} where
  -- the worker with this number has done nothing yet
  pub record IsNewWorker (n : ℕ) (r : RunnerState T) : Type 0 where
    pub tidy : IsTidy r
    pub number : r.number ≡ n
    pub knows : r.part.records.known ≡ []

  -- and it has slots for one section
  pub record IsReady (n : ℕ) (r : RunnerState T) : Type 0 where
    pub fresh : IsNewWorker n r
    pub reserve : HasReserve r

  module _ (m : Meaning) where
    -- the worker is entered and has read this word of a lock, which it may watch where the word names a section; it
    -- knows no request's words
    pub record HasRead (place word : ℕ) (r : RunnerState T) : Type 0 where
      pub epoch : ℕ
      pub at : IsAt r (stages.Entered epoch) None
      pub read : has_pair r.part.reads.cells place word ≡ true
      pub watch : is_free word ≡ false → MayWatch m place word r
      pub knows : r.part.records.known ≡ []
      pub reserve : HasReserve r
      pub hand : IsEmptyHanded r
      pub reached : IsReached m r

    -- the worker may run this section, which is its own
    pub record MayRun (section : Section) (r : RunnerState T) : Type 0 where
      pub thunk : Thunk
      pub may : MayRunSection m r thunk section
      pub hand : IsEmptyHanded r

    -- and it is this request's
    pub record MayRunFor (number : ℕ) (section : Section) (r : RunnerState T) : Type 0 where
      pub run : MayRun section r
      pub request : run.thunk.request ≡ number

    -- the first worker may run this section, and the second one help the section that this word of a lock names
    pub record MayMeet (section : Section) (held : ℕ) (first second : RunnerState T) : Type 0 where
      pub runs : MayRun section first
      pub helps : MayHelp m second held
