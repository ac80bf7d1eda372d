-- The front of readings that stand.
use Rattle.std.proofs.Common.{ℕ}
use Rattle.std.specs.Prelude.{take}
use Rattle.body_terms.proofs.ShapeLemmas.{in_take}
use Rattle.structure_laws.specs.Scene.{Cells, Readings}
use Rattle.structure_laws.specs.Meaning.{Meaning}
use Rattle.structure_laws.specs.Stand.{StandIn}

pub front_stands : (m : Meaning) (cells : Cells) (readings : Readings) (n : ℕ) → StandIn m cells readings → StandIn m cells (take n readings)
front_stands m cells readings n stand i place word at = stand i place word (in_take readings n i (place, word) at).1
