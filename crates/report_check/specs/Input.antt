-- An input that is read whole.
use Rattle.std.specs.Prelude.{ℕ, ◌<◌, ◌≤◌, List, Option, length}
use Rattle.trace_reader.specs.Source.{Moves}

-- the input has more bytes than are read
abbrev pub IsTooLarge : List ℕ → Type 0
IsTooLarge bytes = 8388608 < length bytes

-- what was taken from the source is within the limit
pub record StopsWithin (before after : Option (List ℕ)) : Type 0 where
  pub taken_bytes : List ℕ
  pub taken : Moves before taken_bytes after
  pub within : length taken_bytes ≤ 8388608
