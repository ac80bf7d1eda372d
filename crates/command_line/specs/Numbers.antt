-- The numbers of the command line.
use Rattle.std.specs.Prelude.{ℕ, ◌==◌, ◌&&◌, List, [], ◌∷◌, Option, None, Some, if◌then◌else◌, nat_le, option_and_then, position}
use Rattle.trace_reader.specs.Fields.{is_number, value_of}

-- a text of one or more decimal digits, whose number is in the range
abbrev pub number_in : (least greatest : ℕ) → List ℕ → Option ℕ
number_in least greatest text =
    if is_number text && (nat_le least (value_of text) && nat_le (value_of text) greatest) then Some
    (value_of text) else None

-- the powers of two from 2^0 on, each in the place of its exponent
abbrev pub powers : List ℕ
powers = 1 ∷ 2 ∷ 4 ∷ 8 ∷ 16 ∷ 32 ∷ 64 ∷ 128 ∷ 256 ∷ 512 ∷ 1024 ∷ 2048 ∷ 4096 ∷ []

-- a number that is a power of two, from 1 to 4096, by its exponent
abbrev pub exponent_in : List ℕ → Option ℕ
exponent_in text = option_and_then (λ number. position (λ power. power == number) powers) (number_in 1 4096 text)
