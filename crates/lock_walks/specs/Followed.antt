-- A walk in readings that were made already.
use Rattle.std.specs.Prelude.{ℕ, [], ◌∷◌, ◌==◌, Bool, cond, Option, Some}
use Rattle.std.specs.Option.{option_eq}
use Rattle.machine_states.specs.structure_laws.specs.Scene.{Readings}
use Rattle.lock_walks.specs.Way.{Way}

-- this is the place that is wanted, if one is
abbrev pub is_next : Option ℕ → ℕ → Bool
is_next wanted place = option_eq (λ a b. a == b) wanted (Some place)

module _ {W : Type 0} (way : Way W) where
  -- the walker goes on by each reading that it wants, up to the first that it doesn't want
  abbrev pub followed : W → Readings → W
  followed walk [] = walk
  followed walk (reading ∷ readings) = cond (is_next (way.wants walk) reading.0)
      (followed (way.fed walk reading.1) readings) walk
