-- Plans of requests: the loads of a walk, and what is answered by them.
use Rattle.std.specs.Prelude.{◌≡◌, ℕ, ◌+◌, ◌*◌, ◌-◌, ◌≤◌, [], ◌∷◌, ◌++◌, length, take, slice_get}
use Rattle.std.specs.Prelude.{Bool, true, false, not, ◌==◌, ◌&&◌, if◌then◌else◌, Option, Some, None}
use Rattle.machine_states.specs.map_history.specs.declared.op.Op.{Op}
use Rattle.machine_states.specs.map_history.specs.declared.op.Request.{Request}
use Rattle.machine_states.specs.body_terms.specs.Word.{value_of, version_of, pack, is_free, is_spent}
use Rattle.machine_states.specs.body_terms.specs.declared.thunk.Thunk.{Thunk}
use Rattle.machine_states.specs.table_words.specs.declared.layout.Layout.{Layout}
use Rattle.section_runs.specs.runner_gate.specs.Asks.{Asks}
use Rattle.machine_states.specs.structure_laws.specs.Scene.{Readings}
use Rattle.machine_states.specs.structure_laws.specs.Meaning.{Meaning}
use Rattle.machine_states.specs.structure_laws.specs.Cells.{slots}
use Rattle.machine_states.specs.runner_parts.specs.declared.event.EventKind.TheVariants as kinds
use Rattle.machine_states.specs.runner_parts.specs.declared.entries.Published.{Published}
use Rattle.machine_states.specs.epoch_core.specs.declared.stage.Stage.TheVariants as stages
use Rattle.machine_states.specs.runner_parts.specs.State.{ReadsState}
use Rattle.machine_states.specs.runner_parts.specs.Tests.{has_pair}
use Rattle.section_runs.specs.commit_log.specs.version_words.specs.RunnerState.{RunnerState}
use Rattle.section_runs.specs.commit_log.specs.version_words.specs.Events.{Makes}
use Rattle.section_runs.specs.commit_log.specs.version_words.specs.Stages.{IsAt}
use Rattle.epoch_slots.specs.Entries.{KeepsOwn}
use Rattle.section_runs.specs.commit_log.specs.Asked.{IsAsked}
use Rattle.try_lock.specs.declared.planned.Planned.{Planned}
use Rattle.try_lock.specs.declared.planned.Planned.TheVariants as answers
use Rattle.try_lock.specs.Reached.{IsReached}
use Rattle.try_lock.specs.Planning.{Planning}

-- how a lock's word refuses a plan
abbrev pub refused_by_lock : ℕ → ℕ → ℕ → Option Planned
refused_by_lock version_max place word =
    if is_free word then (if is_spent version_max word then Some (answers.Spent place word) else None)
    else Some (answers.Busy place word)

abbrev pub is_halted : Planned → Bool
is_halted answers.Halted = true
is_halted _ = false

-- what a runner has read, with these readings of a walk
abbrev pub reads_walked : ReadsState → Readings → ReadsState
reads_walked reads readings = record {
  walk = reads.walk ++ readings;
  cells = reads.cells ++ readings;
  look = reads.look;
}

module _ (m : Meaning) (plans : Planning) (layout : Layout) (op : Op) where
  -- how this reading refuses the plan, after those before it; None where it doesn't
  abbrev pub refused_at : Readings → ℕ → ℕ → Option Planned
  refused_at before place word =
      if m.is_lock place then refused_by_lock layout.version_max place word
      else (if plans.is_mark place && (value_of word == 1)
      then Some (answers.Stale place (pack 0 (version_of word - 1)) word)
      else (if plans.is_far layout op (before ++ (place, word) ∷ []) then Some (answers.Far (slots m layout + 8))
      else None))

  -- each reading is of the place that the walk wants after those before it
  abbrev pub IsWalk : Readings → Type 0
  IsWalk readings = (i place word : ℕ) → slice_get readings i ≡ Some (place, word)
      → plans.wants layout op (take i readings) ≡ Some place

  -- none of these readings refuses
  abbrev pub NoneRefuses : Readings → Type 0
  NoneRefuses readings = (i place word : ℕ) → slice_get readings i ≡ Some (place, word)
      → refused_at (take i readings) place word ≡ None

  -- the last reading refuses so, and it is the first that does
  pub record IsRefused (readings : Readings) (answer : Planned) : Type 0 where
    pub before : Readings
    pub place : ℕ
    pub word : ℕ
    pub last : readings ≡ before ++ (place, word) ∷ []
    pub first : NoneRefuses before
    pub cause : refused_at before place word ≡ Some answer

  -- a gate halted behind the last reading, and none before it refuses
  pub record IsCut (readings : Readings) : Type 0 where
    pub before : Readings
    pub place : ℕ
    pub word : ℕ
    pub last : readings ≡ before ++ (place, word) ∷ []
    pub first : NoneRefuses before

  -- none refuses, the walk is at its end, and the thunk fits it. It is for the request with this
  -- number, and its lock was read free and not spent
  pub record IsFit (number : ℕ) (readings : Readings) (thunk : Thunk) : Type 0 where
    pub none : NoneRefuses readings
    pub whole : plans.wants layout op readings ≡ None
    pub fits : m.fits layout op readings thunk ≡ true
    pub request : thunk.request ≡ number
    pub operands : length thunk.operands ≡ 8
    pub free : is_free thunk.word ≡ true
    pub unspent : is_spent layout.version_max thunk.word ≡ false
    pub read : has_pair readings thunk.lock thunk.word ≡ true

  -- what is answered by these readings
  abbrev pub Answers : ℕ → Readings → Planned → Type 0
  Answers number readings (answers.Thunk thunk) = IsFit number readings thunk
  Answers number readings (answers.Busy place word) = IsRefused readings (answers.Busy place word)
  Answers number readings (answers.Spent place word) = IsRefused readings (answers.Spent place word)
  Answers number readings (answers.Stale place expected read) = IsRefused readings (answers.Stale place expected read)
  Answers number readings (answers.Far loads) = IsRefused readings (answers.Far loads)
  Answers number readings answers.Halted = IsCut readings

module _ {T : Type 0} where
  -- the runner is entered, in no run, and has loaded no cell since it entered
  pub record MayPlan (r : RunnerState T) : Type 0 where
    pub epoch : ℕ
    pub section : Option Published
    pub at : IsAt r (stages.Entered epoch) section
    pub fresh : r.part.reads.walk ≡ []

  module _ (m : Meaning) where
    -- cells are loaded outside a run, one after the other, and hold these words
    abbrev pub Loads : Readings → RunnerState T → RunnerState T → Type 0
    Loads [] old new = new ≡ old
    Loads (reading ∷ readings) old new =
        (r : RunnerState T) × Makes m (kinds.LoadCell (Some reading.0)) reading.1 old r × Loads readings r new

    -- the runner made these loads and no other step; it has read what they gave, its guard word names what it named,
    -- and all else of it is as before
    pub record HasWalked (readings : Readings) (old new : RunnerState T) : Type 0 where
      pub loads : Loads readings old new
      pub at : (epoch : ℕ) (section : Option Published) → IsAt old (stages.Entered epoch) section
          → IsAt new (stages.Entered epoch) section
      pub reads : new.part.reads ≡ reads_walked old.part.reads readings
      pub guarded : new.part.guards.named ≡ old.part.guards.named
      pub looked : new.part.guards.looked ≡ old.part.guards.looked
      pub keeps : KeepsOwn old new
      pub same : new ≡ record old { part = new.part }

    -- the plan walked, and answered by what it read. The gate was asked after each load, and the
    -- steps were counted; the numbers are the gate's halts, its asks, and the steps, before and after
    pub record HasPlanned (plans : Planning) (request : Request) (answer : Planned) (old new : RunnerState T)
        (halts halts' : ℕ) (asks asks' : Asks) (steps steps' : ℕ) : Type 0 where
      pub readings : Readings
      pub walk : IsWalk m plans old.layout request.op readings
      pub walked : HasWalked readings old new
      pub answers : Answers m plans old.layout request.op request.number readings answer
      pub asked : IsAsked (length readings) (not (is_halted answer)) halts halts' asks asks' steps steps'
      pub few : length readings ≤ 6 * slots m old.layout + 44
      pub reached : IsReached m new
