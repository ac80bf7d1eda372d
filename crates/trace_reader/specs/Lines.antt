-- A text cut into lines.
use Rattle.std.specs.Prelude.{◌≡◌, ℕ, ◌==◌, false, List, [], ◌∷◌, All}
use Rattle.std.specs.List.{slice_split}

-- the text cut at each line feed; the last piece is what stands behind the last one
abbrev pub pieces_of : List ℕ → List (List ℕ)
pieces_of text = slice_split (λ byte. byte == 10) text

-- the pieces that a line feed ends: all but the last
abbrev pub ended : List (List ℕ) → List (List ℕ)
ended [] = []
ended (piece ∷ []) = []
ended (piece ∷ next ∷ pieces) = piece ∷ ended (next ∷ pieces)

-- a last piece is a line where it isn't empty
abbrev pub last_line : List ℕ → List (List ℕ)
last_line [] = []
last_line (byte ∷ piece) = (byte ∷ piece) ∷ []

abbrev pub lines_in : List (List ℕ) → List (List ℕ)
lines_in [] = []
lines_in (piece ∷ []) = last_line piece
lines_in (piece ∷ next ∷ pieces) = piece ∷ lines_in (next ∷ pieces)

-- the lines of a text
abbrev pub lines_of : List ℕ → List (List ℕ)
lines_of text = lines_in (pieces_of text)

-- no line feed is among these bytes
abbrev pub IsOneLine : List ℕ → Type 0
IsOneLine bytes = All (λ byte. (byte == 10) ≡ false) bytes
