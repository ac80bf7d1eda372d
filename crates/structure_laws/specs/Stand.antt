-- Readings of what stands.
use Rattle.std.specs.Prelude.{◌≡◌, ℕ, false, slice_get, Some}
use Rattle.structure_laws.specs.Scene.{Cells, Readings}
use Rattle.structure_laws.specs.Meaning.{Meaning}

module _ (m : Meaning) where
  -- what was read stands in these cells; of locks nothing is said
  abbrev pub StandIn : Cells → Readings → Type 0
  StandIn cells readings = (i place word : ℕ) → slice_get readings i ≡ Some (place, word)
      → m.is_lock place ≡ false → cells place ≡ word
