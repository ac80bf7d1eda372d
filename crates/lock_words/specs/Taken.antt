-- The words that are agreed or loaded for Takes, and what is known of those by which sections left.
use Rattle.std.specs.Prelude.{◌≡◌, ℕ, suc, ◌<◌, ◌⊎◌, true, List, length, slice_get, Some}
use Rattle.machine_states.specs.map_history.specs.declared.op.Request.{Request}
use Rattle.machine_states.specs.body_terms.specs.Line.{line, micro_at}
use Rattle.machine_states.specs.body_terms.specs.Word.{value_of}
use Rattle.machine_states.specs.body_terms.specs.declared.micro.Micro.{Micro}
use Rattle.machine_states.specs.body_terms.specs.declared.micro.Micro.TheVariants.{NestedCommit, OutcomeCommit}
use Rattle.machine_states.specs.body_terms.specs.declared.outcome.Outcome.TheVariants.{Busy}
use Rattle.machine_states.specs.table_words.specs.declared.layout.Layout.{Layout}
use Rattle.machine_states.specs.table_words.specs.declared.spot.Spot.TheVariants.{Cell}
use Rattle.machine_states.specs.table_words.specs.Places.{descriptor_count}
use Rattle.machine_states.specs.body_terms.specs.block_words.specs.Blocks.{log_in}
use Rattle.machine_states.specs.structure_laws.specs.Meaning.{Meaning}
use Rattle.machine_states.specs.runner_parts.specs.State.{RunState, FinishedState, PartState}
use Rattle.machine_states.specs.runner_steps.specs.Sections.{line_of}
use Rattle.machine_states.specs.World.{World}
use Rattle.machine_states.specs.Sight.{Sight, sight}
use Rattle.machine_epochs.specs.Slots.{thunk_in}
use Rattle.runner_facts.specs.machine_facts.specs.Watched.{WasDone}

-- a step that commits the word of a Take's lock at this place, to this place of the log
abbrev pub CommitsLock : Micro → ℕ → ℕ → Type 0
CommitsLock micro place log = (micro ≡ NestedCommit place log) ⊎ (micro ≡ OutcomeCommit place log)

module _ (m : Meaning) (s : Sight) (d place word : ℕ) where
  -- the section in this descriptor has agreed on this word for a Take of the lock at this place
  pub record IsAgreed : Type 0 where
    pub at : ℕ
    pub log : ℕ
    pub commits : CommitsLock (micro_at (line (m.body (thunk_in s.word d))) at) place log
    pub agreed : log_in s.word d log ≡ word

  -- a run of it has loaded the word for the Take, and commits it next
  pub record IsLoaded : Type 0 where
    pub runner : ℕ
    pub run : RunState
    pub runs : (s.part runner).run ≡ Some run
    pub of_section : run.descriptor ≡ d
    pub opened : length run.opened ≡ 13
    pub log : ℕ
    pub commits : CommitsLock (micro_at (line_of m run) run.at) place log
    pub loaded : run.word ≡ word

  abbrev pub IsTaken : Type 0
  IsTaken = IsAgreed ⊎ IsLoaded

-- a runner ran a section to its end, and as it keeps it, the section left since this lock was held, with this word
pub record HasLeftBy (p : PartState) (place word : ℕ) : Type 0 where
  pub at : ℕ
  pub finished : FinishedState
  pub kept : slice_get p.records.finished at ≡ Some finished
  pub left : finished.outcome ≡ Busy place word

module _ (m : Meaning) (l : Layout) (requests : List Request) (w : World) where
  -- the lock at this place has had this word, which named this descriptor: it has the word still, or the section that
  -- held it was done
  pub record WasHeld (place word d : ℕ) : Type 0 where
    pub lock : m.is_lock place ≡ true
    pub few : d < descriptor_count l
    pub stands : ((sight m l requests w).word (Cell place) ≡ word) ⊎ WasDone m l requests w place word d

  -- so it is with each word by which a section left since it found a lock held, as a runner keeps it
  pub record TakenStand : Type 0 where
    pub met : (r place word : ℕ) → HasLeftBy ((sight m l requests w).part r) place word
        → (d : ℕ) × (value_of word ≡ suc d) × WasHeld place word d
