-- What a run of a section told its runner.
use Rattle.std.specs.Prelude.{◌≡◌, ◌≢◌, ℕ, ◌≤◌, ◌⊎◌, List, [], ◌++◌, length, slice_get, Some}
use Rattle.machine_states.specs.body_terms.specs.declared.micro.Micro.TheVariants.{StampExchange}
use Rattle.machine_states.specs.body_terms.specs.declared.thunk.Thunk.{Thunk}
use Rattle.machine_states.specs.structure_laws.specs.Meaning.{Meaning}
use Rattle.machine_states.specs.runner_parts.specs.State.{RunState, PartState, FinishedState}
use Rattle.machine_states.specs.runner_steps.specs.AfterInRun.{kept_unless}
use Rattle.machine_states.specs.runner_steps.specs.Sections.{thunk_of, next_of}
use Rattle.machine_states.specs.World.{World, seat_of}
use Rattle.machine_states.specs.Reached.{Reached}
use Rattle.version_words.specs.RunnerState.{RunnerState}
use Rattle.caller_facts.specs.section_runs.specs.Opened.{Learns}
use Rattle.caller_facts.specs.try_lock.specs.Reached.{IsReached}

module _ {T : Type 0} (m : Meaning) where
  -- the machine reached a state in which the runner, in a run of a section with this thunk, stood before the
  -- exchange of
  -- its stamp, and knew and had published what it did before the run
  pub record StoodAtStamp (d : ℕ) (t : Thunk) (old : RunnerState T) : Type 0 where
    pub world : World
    pub reached : Reached m old.layout old.requests world
    pub part : PartState
    pub own : slice_get world.parts (seat_of old.layout old.number) ≡ Some part
    pub run : RunState
    pub runs : part.run ≡ Some run
    pub of_descriptor : run.descriptor ≡ d
    pub opened : length run.opened ≡ 13
    pub next : next_of m run ≡ StampExchange
    pub thunk : thunk_of run.opened ≡ t
    pub known : part.records.known ≡ old.part.records.known
    pub published : part.published ≡ old.part.published

  -- what a run learned, to its end or to where a gate halted it
  pub record HasLearned (d : ℕ) (t : Thunk) (old new : RunnerState T) : Type 0 where
    pub learns : Learns t.request old.part.records.known new.part.records.known
    pub stood : learns.more ≢ [] → StoodAtStamp d t old

  -- a gate halted the runner in its run, or in its opening: what it has published is what it had published, but for the
  -- section of a run that came to its end
  pub record IsCut (d : ℕ) (old new : RunnerState T) : Type 0 where
    pub number : new.number ≡ old.number
    pub published : (new.part.published ≡ old.part.published) ⊎ (new.part.published ≡ kept_unless old.part.published d)
    pub thunk : Thunk
    pub learned : HasLearned d thunk old new
    pub more : List FinishedState
    pub finished : new.part.records.finished ≡ old.part.records.finished ++ more
    pub few : length more ≤ 1
    pub reached : IsReached m new
