-- A runner in a state that the machine reaches, and the run that it is in.
use Rattle.std.specs.Prelude.{◌≡◌, ℕ, zero, suc, true, false, [], slice_get, Option, Some, None}
use Rattle.idem_cell.specs.machine_states.specs.structure_laws.specs.Meaning.{Meaning}
use Rattle.idem_cell.specs.machine_states.specs.epoch_core.specs.declared.stage.Stage.TheVariants as stages
use Rattle.idem_cell.specs.machine_states.specs.body_terms.specs.block_words.specs.Blocks.{blocks_for}
use Rattle.idem_cell.specs.machine_states.specs.runner_parts.specs.declared.entries.Published.{Published}
use Rattle.idem_cell.specs.machine_states.specs.runner_parts.specs.State.{RunState}
use Rattle.idem_cell.specs.machine_states.specs.runner_steps.specs.Outside.{is_sure_of}
use Rattle.idem_cell.specs.machine_states.specs.runner_steps.specs.After.{counted}
use Rattle.idem_cell.specs.machine_states.specs.World.{World, seat_of}
use Rattle.idem_cell.specs.machine_states.specs.Reached.{Reached}
use Rattle.idem_alloc.specs.commit_log.specs.version_words.specs.RunnerState.{RunnerState}
use Rattle.idem_alloc.specs.commit_log.specs.version_words.specs.Stages.{IsAt}
use Rattle.idem_alloc.specs.commit_log.specs.Runs.{IsRunning}

-- in no run
abbrev pub no_run : RunState
no_run = record {
  descriptor = 0;
  opened = [];
  at = 0;
  word = 0;
  trail = [];
  made = None;
  worn = false;
  ended = 0;
  links = [];
  block = None;
  emptied = 0;
  won = [];
}

abbrev pub run_or : Option RunState → RunState
run_or None = no_run
run_or (Some q) = q

-- a body agrees on at most so many words: of its 32 steps none agrees on more than two, and its Stamp and its Answer on
-- none
abbrev pub most_words : ℕ
most_words = 60

-- so many blocks the longest log needs beside its descriptor
abbrev pub run_blocks : ℕ
run_blocks = blocks_for most_words

-- a number of events after so many more, as a runner's part counts them
abbrev pub events_after : ℕ → ℕ → ℕ
events_after count zero = count
events_after count (suc n) = events_after (counted count) n

module _ {T : Type 0} where
  -- the machine reaches a state in which the runner has this part
  pub record IsReached (m : Meaning) (r : RunnerState T) : Type 0 where
    pub world : World
    pub reached : Reached m r.layout r.requests world
    pub own : slice_get world.parts (seat_of r.layout r.number) ≡ Some r.part

  -- the run that the runner is in
  abbrev pub run_of : RunnerState T → RunState
  run_of r = run_or r.part.run

  -- the runner is in a run, which has loaded its thunk and its done word
  abbrev pub IsInside : Meaning → RunnerState T → Type 0
  IsInside m r = IsRunning m r (run_of r)

  -- the runner may begin a run of the section in this descriptor: it is entered, in no run, and sure of the
  -- descriptor that its guard word names
  pub record MayBegin (m : Meaning) (r : RunnerState T) (d : ℕ) : Type 0 where
    pub epoch : ℕ
    pub published : Option Published
    pub at : IsAt r (stages.Entered epoch) published
    pub sure : is_sure_of r.part.guards d ≡ true
    pub reached : IsReached m r
