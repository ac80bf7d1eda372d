-- What contracts see of a trail.
use Rattle.std.specs.Prelude.{ℕ, List, Bool}

-- the agreed words of a section's log, and whether the run found the section done as it began
pub record Agreed : Type 0 where
  pub words : List ℕ
  pub late : Bool
