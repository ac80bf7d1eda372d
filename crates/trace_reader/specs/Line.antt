-- One line of a text: whether it counts, what is wrong with it, and what it asks.
use Rattle.std.specs.Prelude.{ℕ, ◌==◌, Bool, true, false, ◌&&◌, not, List, [], ◌∷◌, length, Option, None, Some, is_some, unwrap_or, if◌then◌else◌, nat_le, nat_lt, codes}
use Rattle.std.specs.List.{list_all, slice_index_or}
use Rattle.std.specs.Char.{is_ascii}
use Rattle.std.specs.Str.{bytes_eq}
use Rattle.map_history.specs.declared.op.Op.{Op}
use Rattle.map_history.specs.declared.op.Op.TheVariants.{Get, Ins, Del, Put, Mov}
use Rattle.trace_reader.specs.declared.traces.BadLine.{BadLine}
use Rattle.trace_reader.specs.declared.traces.BadLine.TheVariants.{NotAscii, NoHeader, UnknownWord, RequestBeforeTrace, MissingField, ExtraField, BadNumber, KeyTooLarge, ValueTooLarge}
use Rattle.trace_reader.specs.Fields.{content_of, fields_of, is_comment, is_number, value_of}

-- a blank line counts for nothing, and so does one that begins with `#`
abbrev pub words_count : List (List ℕ) → Bool
words_count [] = false
words_count (word ∷ words) = not (is_comment (word ∷ words))

abbrev pub counts : List ℕ → Bool
counts line = words_count (fields_of line)

-- how many numbers stand behind a word, where it is known
abbrev pub wanted_by : List ℕ → Option ℕ
wanted_by word =
    if bytes_eq word (codes "trace") then Some 0
    else if bytes_eq word (codes "get") then Some 1
    else if bytes_eq word (codes "del") then Some 1
    else if bytes_eq word (codes "ins") then Some 2
    else if bytes_eq word (codes "put") then Some 2
    else if bytes_eq word (codes "mov") then Some 2
    else None

-- both numbers behind the word are keys: behind every other the second is a value
abbrev pub has_two_keys : List ℕ → Bool
has_two_keys word = bytes_eq word (codes "mov")

-- the format has the word: `put` came with format 2, and `mov` with format 3
abbrev pub has_word : (format : ℕ) → List ℕ → Bool
has_word format word =
    if bytes_eq word (codes "put") then nat_le 2 format
    else if bytes_eq word (codes "mov") then nat_le 3 format
    else is_some (wanted_by word)

abbrev pub is_trace : List ℕ → Bool
is_trace word = bytes_eq word (codes "trace")

-- the field in a place, or nothing
abbrev pub field : List (List ℕ) → ℕ → List ℕ
field fields place = slice_index_or fields place []

-- the kind of the first test that finds a fault
abbrev pub first_found : List (Bool × BadLine) → Option BadLine
first_found [] = None
first_found (test ∷ tests) = if test.0 then Some test.1 else first_found tests

-- the tests of a request with so many numbers, of which the second is a key too or a value, in their order
abbrev pub request_tests : (begun : Bool) (wanted : ℕ) (two_keys : Bool) → List (List ℕ) → List (Bool × BadLine)
request_tests begun wanted two_keys numbers =
    (not begun, RequestBeforeTrace)
    ∷ (nat_lt (length numbers) wanted, MissingField)
    ∷ (nat_lt wanted (length numbers), ExtraField)
    ∷ (not (list_all is_number numbers), BadNumber)
    ∷ (nat_lt 4294967293 (value_of (field numbers 0)), KeyTooLarge)
    ∷ (two_keys && nat_lt 4294967293 (value_of (field numbers 1)), KeyTooLarge)
    ∷ (nat_lt 4294967295 (value_of (field numbers 1)), ValueTooLarge)
    ∷ []

-- a trace has begun, or begins here
abbrev pub tests_of : (format : ℕ) → Bool → List ℕ → List (List ℕ) → List (Bool × BadLine)
tests_of format begun word numbers =
    (not (has_word format word), UnknownWord)
    ∷ request_tests (if is_trace word then true else begun) (unwrap_or (wanted_by word) 0) (has_two_keys word) numbers

abbrev pub fault_of_words : (format : ℕ) → Bool → List (List ℕ) → Option BadLine
fault_of_words format begun [] = None
fault_of_words format begun (word ∷ numbers) = first_found (tests_of format begun word numbers)

-- the format that a field names
abbrev pub format_named : List ℕ → Option ℕ
format_named number =
    if bytes_eq number (codes "1") then Some 1
    else if bytes_eq number (codes "2") then Some 2
    else if bytes_eq number (codes "3") then Some 3
    else None

-- the format that these fields name as a header: it is `flock 1`, `flock 2` or `flock 3`
abbrev pub header_of : List (List ℕ) → Option ℕ
header_of fields =
    if length fields == 2 && bytes_eq (field fields 0) (codes "flock") then format_named (field fields 1) else None

-- the same of a line
abbrev pub header_in : List ℕ → Option ℕ
header_in line = if counts line then header_of (fields_of line) else None

-- the fault of these fields, where they count, behind a header with this format or before any
abbrev pub fault_of_fields : (format : Option ℕ) (begun : Bool) → List (List ℕ) → Option BadLine
fault_of_fields None begun fields = if is_some (header_of fields) then None else Some NoHeader
fault_of_fields (Some format) begun fields = fault_of_words format begun fields

-- the fault of a line that counts
abbrev pub fault_of_counted : (format : Option ℕ) (begun : Bool) → List ℕ → Option BadLine
fault_of_counted format begun line =
    if not (list_all is_ascii (content_of line)) then Some NotAscii
    else fault_of_fields format begun (fields_of line)

-- the fault of a line, where a header with this format stands before it or none, and a trace or none
abbrev pub fault_of : (format : Option ℕ) (begun : Bool) → List ℕ → Option BadLine
fault_of format begun line = if counts line then fault_of_counted format begun line else None

-- what a request asks
abbrev pub asked_by : List ℕ → List (List ℕ) → Option Op
asked_by word numbers =
    if bytes_eq word (codes "get") then Some (Get (value_of (field numbers 0)))
    else if bytes_eq word (codes "del") then Some (Del (value_of (field numbers 0)))
    else if bytes_eq word (codes "ins") then Some (Ins (value_of (field numbers 0)) (value_of (field numbers 1)))
    else if bytes_eq word (codes "put") then Some (Put (value_of (field numbers 0)) (value_of (field numbers 1)))
    else if bytes_eq word (codes "mov") then Some (Mov (value_of (field numbers 0)) (value_of (field numbers 1)))
    else None

abbrev pub asked_by_words : List (List ℕ) → Option Op
asked_by_words [] = None
asked_by_words (word ∷ numbers) = asked_by word numbers

abbrev pub begun_by_words : List (List ℕ) → Bool
begun_by_words [] = false
begun_by_words (word ∷ numbers) = is_trace word

-- the operation that a line asks, if it is a request
abbrev pub asked : List ℕ → Option Op
asked line = asked_by_words (fields_of line)

-- whether a line begins a trace
abbrev pub begins_trace : List ℕ → Bool
begins_trace line = begun_by_words (fields_of line)
