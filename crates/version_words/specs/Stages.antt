-- A runner in no run.
use Rattle.std.specs.Prelude.{◌≡◌, ℕ, ◌+◌, ◌<◌, ◌≤◌, Bool, true, false, not, ◌==◌, ◌&&◌, nat_lt, Option, None, if◌then◌else◌}
use Rattle.std.specs.Option.{IsSome}
use Rattle.machine_states.specs.table_words.specs.declared.layout.Layout.{Layout}
use Rattle.machine_states.specs.table_words.specs.Places.{descriptor_count}
use Rattle.machine_states.specs.epoch_core.specs.declared.stage.Stage.{Stage}
use Rattle.machine_states.specs.epoch_core.specs.declared.stage.Stage.TheVariants as stages
use Rattle.machine_states.specs.runner_parts.specs.declared.entries.Published.{Published}
use Rattle.machine_states.specs.runner_parts.specs.Tests.{has, is_between}
use Rattle.machine_states.specs.epoch_core.specs.State.{last_epoch}
use Rattle.machine_states.specs.epoch_core.specs.Moves.{is_clear}
use Rattle.version_words.specs.Shown.{left_part}
use Rattle.version_words.specs.RunnerState.{RunnerState}

-- the runner is in no run, at this stage, and has this section to run to its end, if any
pub record IsAt {T : Type 0} (r : RunnerState T) (stage : Stage) (section : Option Published) : Type 0 where
  pub present : r.part.gone ≡ false
  pub resting : r.part.run ≡ None
  pub at : r.part.stage ≡ stage
  pub published : r.part.published ≡ section
  -- no reply of a read is without its stamp
  pub settled : is_between r.part.reads.look ≡ false
  pub seated : r.number ≤ r.layout.runners

-- a keeper in no run that has split off so many workers
pub record IsKeeper {T : Type 0} (r : RunnerState T) (splits : ℕ) : Type 0 where
  pub present : r.part.gone ≡ false
  pub resting : r.part.run ≡ None
  pub number : r.number ≡ r.layout.runners
  pub as_many : r.part.records.splits ≡ splits

-- the stage after one more announcement was read
abbrev pub stage_scanned : Layout → ℕ → ℕ → Bool → ℕ → Stage
stage_scanned l epoch next clear found = let still = clear && is_clear epoch found in
    if next == l.runners && not (still && nat_lt epoch last_epoch) then stages.Idle
    else stages.Scanning epoch (next + 1) still

-- a keeper that has joined the first workers, so many, and no others
pub record HasJoined {T : Type 0} (r : RunnerState T) (count : ℕ) : Type 0 where
  pub fresh : (worker : ℕ) → count ≤ worker → has r.part.records.joined worker ≡ false
  pub parts : (worker : ℕ) → worker < count → IsSome (left_part r.joined worker)

-- the runner has this free descriptor
pub record HasFree {T : Type 0} (r : RunnerState T) (descriptor : ℕ) : Type 0 where
  pub own : has r.part.descriptors.free descriptor ≡ true
  pub few : descriptor < descriptor_count r.layout
