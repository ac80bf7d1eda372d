-- A plan answers the thunk of its own walk.
use Rattle.std.specs.Prelude.{◌≡◌, ℕ}
use Rattle.machine_states.specs.body_terms.specs.declared.thunk.Thunk.{Thunk}
use Rattle.machine_states.specs.structure_laws.specs.Scene.{Readings}
use Rattle.try_lock.specs.declared.planned.Planned.{Planned}
use Rattle.try_lock.specs.declared.planned.Planned.TheVariants as answers
use Rattle.lock_walks.specs.Way.{Way, fed_all}

module _ {W : Type 0} (way : Way W) (walk : W) (number : ℕ) where
  -- the walk's own thunk by these readings, for the request with this number
  abbrev pub own_thunk : Readings → Thunk
  own_thunk readings = way.thunk (fed_all way walk readings) number

  -- where a plan with these readings answers a thunk, it is the walk's own
  abbrev pub IsOwn : Readings → Planned → Type 0
  IsOwn readings (answers.Thunk thunk) = thunk ≡ own_thunk readings
  IsOwn readings _ = Unit {0}
