-- What a runner's code keeps of a run in progress.
use Rattle.std.specs.Prelude.{◌≡◌, ℕ, ◌==◌, false, if◌then◌else◌, ◌%◌, ◌^◌}
use Rattle.runner_block.specs.declared.place.RunPlace.{RunPlace}

-- the place of a run that begins in this descriptor
abbrev pub begun_place : RunPlace → ℕ → RunPlace
begun_place kept descriptor =
    record kept { descriptor = descriptor; agreed = 0; epoch = 0; making = false; worn = false }

-- the place after the load of the thunk word with this index: the first one begins a run, the second one is its
-- request, and the third one its section's lock
abbrev pub opened_place : RunPlace → ℕ → ℕ → ℕ → RunPlace
opened_place kept descriptor index word = if index == 0 then begun_place kept descriptor
    else if index == 1 then record kept { request = word % 2 ^ 32 }
    else if index == 2 then record kept { lock = word % 2 ^ 32 } else kept

-- the place of a runner in no run
pub record IsAtRest (kept : RunPlace) : Type 0 where
  pub outside : kept.inside ≡ false
