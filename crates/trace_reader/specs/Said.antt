-- What a line without a fault says.
use Rattle.std.specs.Prelude.{◌≡◌, ℕ, ◌≤◌, Bool, true, false, List, Option, None, Some, is_some}
use Rattle.std.specs.Option.{option_or}
use Rattle.map_history.specs.declared.op.Op.{Op}
use Rattle.map_history.specs.declared.op.Op.TheVariants.{Get, Ins, Del, Put, Mov}
use Rattle.map_history.specs.Keys.{least_format}
use Rattle.trace_reader.specs.declared.line.Line.{Line}
use Rattle.trace_reader.specs.declared.line.Line.TheVariants.{Skipped, Header, Trace, Ask}
use Rattle.trace_reader.specs.Formats.{IsFormat}
use Rattle.trace_reader.specs.Line.{fault_of, first_found, header_in, tests_of, is_trace, asked, asked_by, begins_trace}

abbrev pub is_begin : Line → Bool
is_begin Skipped = false
is_begin (Header number) = false
is_begin Trace = true
is_begin (Ask op) = false

abbrev pub operation_in : Line → Option Op
operation_in Skipped = None
operation_in (Header number) = None
operation_in Trace = None
operation_in (Ask op) = Some op

-- the format that stands behind such a line, where this one or none stood before it
abbrev pub format_after : Option ℕ → Line → Option ℕ
format_after format Skipped = format
format_after format (Header number) = Some number
format_after format Trace = format
format_after format (Ask op) = format

-- a header stands before, and its format has the operation
abbrev pub IsAskedIn : Option ℕ → Op → Type 0
IsAskedIn None op = ⊥
IsAskedIn (Some format) op = least_format op ≤ format

-- the keys on which it depends may be asked
abbrev pub HasLowKeys : Op → Type 0
HasLowKeys (Get key) = key ≤ 4294967293
HasLowKeys (Ins key value) = key ≤ 4294967293
HasLowKeys (Del key) = key ≤ 4294967293
HasLowKeys (Put key value) = key ≤ 4294967293
HasLowKeys (Mov from to) = (from ≤ 4294967293) × (to ≤ 4294967293)

-- where such a line may stand
abbrev pub IsPlaced : Line → (format : Option ℕ) (begun : Bool) → Type 0
IsPlaced Skipped format begun = Unit {0}
IsPlaced (Header number) format begun = (format ≡ None) × IsFormat number
IsPlaced Trace format begun = is_some format ≡ true
IsPlaced (Ask op) format begun = IsAskedIn format op × (begun ≡ true) × HasLowKeys op

-- the line has no fault, and says this
pub record Says (said : Line) (format : Option ℕ) (begun : Bool) (line : List ℕ) : Type 0 where
  pub fault : fault_of format begun line ≡ None
  pub header : option_or format (header_in line) ≡ format_after format said
  pub trace : begins_trace line ≡ is_begin said
  pub operation : asked line ≡ operation_in said
  pub placed : IsPlaced said format begun

-- a line behind a header with this format, by its words
pub record SaysWords (said : Line) (format : ℕ) (begun : Bool) (word : List ℕ) (numbers : List (List ℕ)) : Type 0 where
  pub fault : first_found (tests_of format begun word numbers) ≡ None
  pub header : format_after (Some format) said ≡ Some format
  pub trace : is_trace word ≡ is_begin said
  pub operation : asked_by word numbers ≡ operation_in said
  pub placed : IsPlaced said (Some format) begun
