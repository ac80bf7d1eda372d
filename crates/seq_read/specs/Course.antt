-- The course of a read: how far it came, and what ended it.
use Rattle.std.specs.Prelude.{◌≡◌, ◌≢◌, ℕ, ◌+◌, ◌*◌, ◌≤◌, [], ◌∷◌, ◌++◌, true, false, length, take, None, Some, if◌then◌else◌}
use Rattle.std.specs.List.{list_all}
use Rattle.machine_states.specs.map_history.specs.declared.op.Request.{Request}
use Rattle.machine_states.specs.body_terms.specs.Shape.{is_look, loaded_places}
use Rattle.machine_states.specs.body_terms.specs.Word.{is_free}
use Rattle.machine_states.specs.body_terms.specs.declared.thunk.Thunk.{Thunk}
use Rattle.machine_states.specs.structure_laws.specs.Scene.{Readings}
use Rattle.machine_states.specs.structure_laws.specs.Meaning.{Meaning}
use Rattle.machine_states.specs.structure_laws.specs.Cells.{slots}
use Rattle.machine_states.specs.epoch_core.specs.declared.stage.Stage.TheVariants as stages
use Rattle.machine_states.specs.runner_parts.specs.declared.event.EventKind.TheVariants as kinds
use Rattle.machine_states.specs.runner_steps.specs.Reads.{are_of, finds, read_stamp_after}
use Rattle.machine_states.specs.runner_steps.specs.Sections.{reply_in}
use Rattle.caller_facts.specs.version_words.specs.RunnerState.{RunnerState}
use Rattle.caller_facts.specs.version_words.specs.Events.{Makes, IsMade}
use Rattle.caller_facts.specs.version_words.specs.Stages.{IsAt}
use Rattle.caller_facts.specs.epoch_slots.specs.Entries.{Enters}
use Rattle.caller_facts.specs.try_lock.specs.declared.planned.Planned.{Planned}
use Rattle.caller_facts.specs.try_lock.specs.declared.planned.Planned.TheVariants as plans
use Rattle.caller_facts.specs.try_lock.specs.Planning.{Planning}
use Rattle.caller_facts.specs.try_lock.specs.Reached.{IsReached}
use Rattle.caller_facts.specs.try_lock.specs.Plans.{Answers, IsWalk, HasWalked}
use Rattle.caller_facts.specs.Knowing.{IsStill}
use Rattle.caller_facts.specs.Asking.{MayAttempt, IsMarked}
use Rattle.seq_read.specs.Wants.{IsFirstChange, IsUnmet}
use Rattle.seq_read.specs.declared.answers.Read.{Read}
use Rattle.seq_read.specs.declared.answers.Read.TheVariants as answers
use Rattle.seq_read.specs.declared.answers.Looked.{Looked}
use Rattle.seq_read.specs.declared.answers.Looked.TheVariants as looks

-- a refused plan as a read's answer; a thunk is none yet
abbrev pub of_plan : Planned → Read
of_plan (plans.Busy place word) = answers.Busy place word
of_plan (plans.Spent place word) = answers.Spent place word
of_plan (plans.Stale place expected read) = answers.Stale place expected read
of_plan (plans.Far loads) = answers.Far loads
of_plan (plans.Thunk thunk) = answers.Halted
of_plan plans.Halted = answers.Halted

-- what a look at a planned body came to, as its read's answer
abbrev pub read_of : Looked → Read
read_of (looks.Done reply stamp) = answers.Done reply stamp
read_of (looks.Locked at) = answers.Locked at
read_of (looks.Busy place word) = answers.Busy place word
read_of (looks.Stale place expected read) = answers.Stale place expected read
read_of looks.Halted = answers.Halted

-- another word of the thunk's lock than the plan's as a read's answer: it names a descriptor, or it is free
abbrev pub of_lock : Thunk → ℕ → Read
of_lock thunk word =
    if is_free word then answers.Stale thunk.lock thunk.word word else answers.Busy thunk.lock word

module _ {T : Type 0} where
  -- the runner has the own slots that it had, and its guard word names what it named
  pub record KeepsSlots (old new : RunnerState T) : Type 0 where
    pub nodes : new.part.nodes ≡ old.part.nodes
    pub descriptors : new.part.descriptors ≡ old.part.descriptors
    pub guarded : new.part.guards.named ≡ old.part.guards.named
    pub looked : new.part.guards.looked ≡ old.part.guards.looked

  -- it is entered and in no run, has the own slots that it had, and knows what it knew and no more
  pub record IsReading (old new : RunnerState T) : Type 0 where
    pub epoch : ℕ
    pub at : IsAt new (stages.Entered epoch) None
    pub slots : KeepsSlots old new
    pub still : IsStill old new

module _ {T : Type 0} (m : Meaning) (planning : Planning) (request : Request) where
  -- the runner entered
  pub record HasEntered (old new : RunnerState T) : Type 0 where
    pub may : MayAttempt planning request old
    pub enters : Enters m old new
    pub reading : IsReading old new

  -- behind that it planned, and was answered this by these readings
  pub record HasPlanned (readings : Readings) (answer : Planned) (old new : RunnerState T) : Type 0 where
    pub entered : RunnerState T
    pub enters : HasEntered old entered
    pub walk : IsWalk m planning old.layout request.op readings
    pub walked : HasWalked m readings entered new
    pub answers : Answers m planning old.layout request.op request.number readings answer
    pub few : length readings ≤ 6 * slots m old.layout + 44
    pub reading : IsReading old new
    pub reached : IsReached m new

  -- behind that it loaded the first of the cells that the body of the plan's thunk loads, so many, in their order; the
  -- body changes nothing
  pub record HasLoaded (thunk : Thunk) (found : Readings) (old new : RunnerState T) : Type 0 where
    pub readings : Readings
    pub planned : RunnerState T
    pub plans : HasPlanned readings (plans.Thunk thunk) old planned
    pub looks : list_all is_look (m.body thunk) ≡ true
    pub cells : are_of (take (length found) (loaded_places (m.body thunk))) found ≡ true
    pub loads : HasWalked m found planned new
    pub reading : IsReading old new
    pub reached : IsReached m new

  -- all of them, and found there what the body wants
  pub record HasFound (thunk : Thunk) (found : Readings) (old new : RunnerState T) : Type 0 where
    pub loads : HasLoaded thunk found old new
    pub finds : finds (m.body thunk) found ≡ true

  -- behind that it announced the read with the thunk
  pub record HasAnnounced (thunk : Thunk) (found : Readings) (old new : RunnerState T) : Type 0 where
    pub loaded : RunnerState T
    pub finds : HasFound thunk found old loaded
    pub announces : IsMade m (kinds.ReadPlan thunk) loaded new
    pub reading : IsReading old new

  -- and loaded the clock
  pub record HasClock (thunk : Thunk) (found : Readings) (clock : ℕ) (old new : RunnerState T) : Type 0 where
    pub announced : RunnerState T
    pub announces : HasAnnounced thunk found old announced
    pub loads : Makes m kinds.ReadClock clock announced new
    pub reading : IsReading old new

  -- and the thunk's lock again, which had this word
  pub record HasLock (thunk : Thunk) (found : Readings) (clock word : ℕ) (old new : RunnerState T) : Type 0 where
    pub clocked : RunnerState T
    pub clocks : HasClock thunk found clock old clocked
    pub loads : Makes m (kinds.LoadCell (Some thunk.lock)) word clocked new
    pub reading : IsReading old new

  -- it had the plan's word still, and the runner wrote the reply of the body's Answer: the word was 0
  pub record HasReplied (thunk : Thunk) (found : Readings) (clock : ℕ) (old new : RunnerState T) : Type 0 where
    pub again : RunnerState T
    pub unmoved : HasLock thunk found clock thunk.word old again
    pub writes : Makes m kinds.ReadReply 0 again new
    pub slots : KeepsSlots old new
    pub known : new.part.records.known ≡ old.part.records.known
        ++ record { request = request.number; reply = true; number = reply_in (m.body thunk) } ∷ []

  -- and then its stamp, which comes behind all that were made by the load of the clock: that word was 0 too
  pub record HasStamped (thunk : Thunk) (found : Readings) (clock : ℕ) (old new : RunnerState T) : Type 0 where
    pub replied : RunnerState T
    pub replies : HasReplied thunk found clock old replied
    pub writes : Makes m kinds.ReadStamp 0 replied new
    pub slots : KeepsSlots old new
    pub known : new.part.records.known ≡ replied.part.records.known
        ++ record { request = request.number; reply = false; number = read_stamp_after clock } ∷ []

  -- by what a read that served nothing was refused: the plan was refused
  pub record PlanIsRefused (answer : Read) (old new : RunnerState T) : Type 0 where
    pub readings : Readings
    pub refusal : Planned
    pub plans : HasPlanned readings refusal old new
    pub same : answer ≡ of_plan refusal
    -- a plan is stale by a mark alone
    pub stale : (place expected read : ℕ) → answer ≡ answers.Stale place expected read
        → IsMarked planning readings place expected read

  -- or the body changes something
  pub record BodyChanges (at : ℕ) (old new : RunnerState T) : Type 0 where
    pub readings : Readings
    pub thunk : Thunk
    pub plans : HasPlanned readings (plans.Thunk thunk) old new
    pub first : IsFirstChange (m.body thunk) at

  -- or another word was found in a cell than the body wants
  pub record CellDiffers (place expected read : ℕ) (old new : RunnerState T) : Type 0 where
    pub thunk : Thunk
    pub found : Readings
    pub loads : HasLoaded thunk found old new
    pub all : length found ≡ length (loaded_places (m.body thunk))
    pub unmet : IsUnmet (m.body thunk) found place expected read

  -- or the lock had another word behind the load of the clock than the plan had read
  pub record LockDiffers (answer : Read) (old new : RunnerState T) : Type 0 where
    pub thunk : Thunk
    pub found : Readings
    pub clock : ℕ
    pub word : ℕ
    pub locks : HasLock thunk found clock word old new
    pub other : word ≢ thunk.word
    pub same : answer ≡ of_lock thunk word

  pub data IsRefused (answer : Read) (old new : RunnerState T) : Type 0 where
    ByPlan : PlanIsRefused answer old new → IsRefused answer old new
    ByBody : (at : ℕ) → answer ≡ answers.Locked at → BodyChanges at old new → IsRefused answer old new
    ByCell : (place expected read : ℕ) → answer ≡ answers.Stale place expected read
        → CellDiffers place expected read old new → IsRefused answer old new
    ByLock : LockDiffers answer old new → IsRefused answer old new

  -- so many steps are counted up to there: the loads of the plan, those of the body's cells, and the read's own
  abbrev pub loaded_steps : (thunk : Thunk) (found : Readings) (old new : RunnerState T)
      → HasLoaded thunk found old new → ℕ
  loaded_steps thunk found old new is = length is.readings + length found

  abbrev pub locked_steps : (thunk : Thunk) (found : Readings) (clock word : ℕ) (old new : RunnerState T)
      → HasLock thunk found clock word old new → ℕ
  locked_steps thunk found clock word old new is =
      loaded_steps thunk found old is.clocks.announces.loaded is.clocks.announces.finds.loads + 3

  abbrev pub refused_steps : (answer : Read) (old new : RunnerState T) → IsRefused answer old new → ℕ
  refused_steps answer old new (ByPlan is) = length is.readings
  refused_steps answer old new (ByBody at same is) = length is.readings
  refused_steps answer old new (ByCell place expected read same is) = loaded_steps is.thunk is.found old new is.loads
  refused_steps answer old new (ByLock is) = locked_steps is.thunk is.found is.clock is.word old new is.locks
