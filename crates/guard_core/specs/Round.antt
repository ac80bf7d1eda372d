-- An example: a descriptor and a block are given out, retired, kept by a helper's guard, and free after it.
use Rattle.std.specs.Prelude.{ℕ, ◌≡◌, List, [], ◌∷◌}
use Rattle.guard_core.specs.State.{Counts, Location, Free, Live, Limbo, GuardState}
use Rattle.guard_core.specs.Events.{Event, Enter, Exit, StoreGuard, ClearGuard, Validate, Publish}
use Rattle.guard_core.specs.Events.{Begin, Link, Finish, LoadGuard, LoadLast}
use Rattle.guard_core.specs.Sweeps.{Owns}
use Rattle.guard_core.specs.Schedules.{first_state, AllEnabled, after_all}

-- one worker and the keeper, one descriptor, one block
abbrev pub pair : Counts
pair = record { runners = 1; descriptors = 1; blocks = 1 }

abbrev pub all_free : ℕ → Location
all_free x = Free 0

-- runner 0 guards its descriptor, publishes it and links a block; runner 1 comes to help
abbrev pub publishing : List Event
publishing = Enter 0 ∷ StoreGuard 0 0 ∷ Publish 0 0 ∷ Begin 0 0 ∷ Link 0 0 0
    ∷ Enter 1 ∷ StoreGuard 1 0 ∷ Validate 1 0 ∷ Begin 1 0 ∷ []

-- runner 0 comes to the end and sweeps, beside the helper
abbrev pub sweeping : List Event
sweeping = Finish 0 0 ∷ ClearGuard 0 ∷ Exit 0 ∷ LoadGuard 0 ∷ LoadLast 0 ∷ []

-- the helper comes to the end too, and runner 0 sweeps again
abbrev pub freeing : List Event
freeing = Finish 1 0 ∷ ClearGuard 1 ∷ Exit 1 ∷ LoadGuard 0 ∷ LoadLast 0 ∷ []

-- the states after each part
abbrev pub published_state : GuardState
published_state = after_all (first_state all_free all_free) publishing

abbrev pub swept_state : GuardState
swept_state = after_all published_state sweeping

abbrev pub last_state : GuardState
last_state = after_all swept_state freeing

-- a start of which `sweeps_leave_enough` speaks: the worker has two descriptors and 24 blocks
abbrev pub larger : Counts
larger = record { runners = 1; descriptors = 2; blocks = 24 }

-- every event may come; the helper's guard keeps the descriptor and the block in limbo, and both are free behind it
pub record ComesRound : Type 0 where
  pub publishes : AllEnabled pair (first_state all_free all_free) publishing
  pub live : published_state.descriptor 0 ≡ Live 0
  pub linked : published_state.block 0 ≡ Live 0
  pub sweeps : AllEnabled pair published_state sweeping
  pub limbo : swept_state.descriptor 0 ≡ Limbo 0 0
  pub kept : swept_state.block 0 ≡ Limbo 0 0
  pub frees : AllEnabled pair swept_state freeing
  pub free : last_state.descriptor 0 ≡ Free 0
  pub given_back : last_state.block 0 ≡ Free 0
  pub owns : Owns larger (first_state all_free all_free) 0 2
  pub enough : AllEnabled larger (first_state all_free all_free) (LoadGuard 0 ∷ LoadLast 0 ∷ [])
