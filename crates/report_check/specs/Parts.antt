-- The line that parts a text from the report on it.
use Rattle.std.specs.Prelude.{◌≡◌, ℕ, ◌+◌, ◌≤◌, List, [], ◌∷◌, ◌++◌, All, codes, drop, flat_map, length, min, take}
use Rattle.trace_reader.specs.Fields.{fields_of}
use Rattle.trace_reader.specs.Lines.{lines_of}
use Rattle.trace_reader.specs.Printed.{with_feed}

-- its only field is `report`
abbrev pub IsReportLine : List ℕ → Type 0
IsReportLine line = fields_of line ≡ codes "report" ∷ []

-- no line is such a one
abbrev pub NonePart : List (List ℕ) → Type 0
NonePart lines = All (λ line. IsReportLine line → ⊥) lines

-- the first such line begins at one place, and the bytes behind it begin at the other
pub record AreParted (bytes : List ℕ) (begin end : ℕ) : Type 0 where
  pub before : List (List ℕ)
  pub line : List ℕ
  pub after : List (List ℕ)
  pub lines : lines_of bytes ≡ before ++ line ∷ after
  pub none_before : NonePart before
  pub is : IsReportLine line
  pub begins : begin ≡ length (flat_map with_feed before)
  pub ends : end ≡ min (begin + length line + 1) (length bytes)

-- the first line ends in one place, and what stands behind it begins in the other
pub record IsLineAtFront (bytes : List ℕ) (end next : ℕ) : Type 0 where
  pub within : end ≤ length bytes
  pub ends : next ≡ min (end + 1) (length bytes)
  pub lines : lines_of bytes ≡ take end bytes ∷ lines_of (drop next bytes)
