-- The fields of a line, and the numbers that they are.
use Rattle.std.specs.Prelude.{ℕ, ◌+◌, ◌*◌, ◌-◌, ◌==◌, Bool, false, ◌&&◌, ◌||◌, List, [], ◌∷◌, length, take, filter, if◌then◌else◌, nat_lt, fold, slice_index}
use Rattle.std.specs.List.{slice_split, list_all}
use Rattle.std.specs.Char.{is_ascii_digit}

-- the line without a carriage return that ends it
abbrev pub content_of : List ℕ → List ℕ
content_of line =
    if nat_lt 0 (length line) && slice_index line (length line - 1) == 13 then take (length line - 1) line else line

-- a space or a tab
abbrev pub is_blank : ℕ → Bool
is_blank byte = byte == 32 || byte == 9

-- the words that one or more blanks part
abbrev pub fields_in : List ℕ → List (List ℕ)
fields_in bytes = filter (λ word. nat_lt 0 (length word)) (slice_split is_blank bytes)

abbrev pub fields_of : List ℕ → List (List ℕ)
fields_of line = fields_in (content_of line)

-- the first word begins with `#`
abbrev pub is_comment : List (List ℕ) → Bool
is_comment [] = false
is_comment (word ∷ words) = slice_index word 0 == 35

-- one or more decimal digits
abbrev pub is_number : List ℕ → Bool
is_number field = nat_lt 0 (length field) && list_all is_ascii_digit field

-- what digits stand for
abbrev pub value_of : List ℕ → ℕ
value_of digits = fold (λ value digit. value * 10 + (digit - 48)) 0 digits
