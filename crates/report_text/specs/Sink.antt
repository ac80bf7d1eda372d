-- What a sink holds after a call, where it told before, in the words of std for its writers.
use Rattle.std.specs.Prelude.{◌≡◌, ℕ, List, ◌++◌, Option, Result, Ok, Err}
use Rattle.std.specs.Io.KnownBytes as known

-- these bytes were added
abbrev pub Extends : Option (List ℕ) → List ℕ → Option (List ℕ) → Type 0
Extends before bytes after = known.Appends before after bytes

-- some bytes from the front of the text were added
pub record ExtendsInPart (before : Option (List ℕ)) (text : List ℕ) (after : Option (List ℕ)) : Type 0 where
  pub front : List ℕ
  pub rest : List ℕ
  pub whole : front ++ rest ≡ text
  pub added : Extends before front after

-- the text was added, or after a failure a part of it from the front
abbrev pub Appends : {T E : Type 0} → Result T E → Option (List ℕ) → List ℕ → Option (List ℕ) → Type 0
Appends (Ok _) before text after = Extends before text after
Appends (Err _) before text after = ExtendsInPart before text after
