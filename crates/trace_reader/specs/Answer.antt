-- What the reading of a text answers.
use Rattle.std.specs.Prelude.{◌≡◌, ◌≤◌, ◌<◌, ℕ, Err, List, None, Ok, Option, Result, Some, length, take, ◌⊎◌, IsOk}
use Rattle.trace_reader.specs.declared.traces.Traces.{Traces}
use Rattle.trace_reader.specs.declared.traces.TraceError.{TraceError}
use Rattle.trace_reader.specs.declared.traces.TraceError.TheVariants.{ReadFault, Memory, TooLarge, Malformed, TooManyTraces, TooManyRequests}
use Rattle.trace_reader.specs.Formats.{AreOfFormat}
use Rattle.trace_reader.specs.Lines.{pieces_of, ended}
use Rattle.trace_reader.specs.Source.{Moves}
use Rattle.trace_reader.specs.Text.{traces_in, requests_in, format_of, traces_of, requests_of, refusal_of, line_at, IsAccepted, IsFirstRefusal}

-- the traces are those of these lines
pub record AreTracesIn (traces : Traces) (lines : List (List ℕ)) : Type 0 where
  pub count : traces.count ≡ traces_in lines
  pub requests : traces.requests ≡ requests_in lines

-- the text is in the grammar, and these are its traces
pub record AreTracesOf (traces : Traces) (text : List ℕ) : Type 0 where
  pub accepted : IsAccepted text
  pub format : format_of text ≡ Some traces.format
  pub count : traces.count ≡ traces_of text
  pub requests : traces.requests ≡ requests_of text
  -- each request can be asked in a text of this format
  pub formats : AreOfFormat traces.format traces.requests

-- the error is what the text is refused for, if it is one of the text
abbrev pub IsRefusal : TraceError → List ℕ → Type 0
IsRefusal ReadFault text = Unit {0}
IsRefusal Memory text = Unit {0}
IsRefusal (TooLarge bytes) text = IsFirstRefusal text (TooLarge bytes)
IsRefusal (Malformed line kind) text = IsFirstRefusal text (Malformed line kind)
IsRefusal (TooManyTraces count) text = IsFirstRefusal text (TooManyTraces count)
IsRefusal (TooManyRequests count) text = IsFirstRefusal text (TooManyRequests count)

-- what the reading of a text may answer
abbrev pub Answers : Result Traces TraceError → List ℕ → Type 0
Answers (Ok traces) text = AreTracesOf traces text
Answers (Err error) text = IsRefusal error text

-- a text in the grammar is answered Ok, and every other its first refusal, if memory isn't wanting
pub record IsExact (answer : Result Traces TraceError) (text : List ℕ) : Type 0 where
  pub accepted : IsAccepted text → IsOk answer ⊎ (answer ≡ Err Memory)
  pub refused : (error : TraceError) → IsFirstRefusal text error → (answer ≡ Err error) ⊎ (answer ≡ Err Memory)

-- what the end of a whole text may answer: no read can fail behind it
abbrev pub IsAnswered : Result Traces TraceError → List ℕ → Type 0
IsAnswered (Ok traces) text = AreTracesOf traces text
IsAnswered (Err ReadFault) text = ⊥
IsAnswered (Err Memory) text = Unit {0}
IsAnswered (Err (TooLarge bytes)) text = IsFirstRefusal text (TooLarge bytes)
IsAnswered (Err (Malformed line kind)) text = IsFirstRefusal text (Malformed line kind)
IsAnswered (Err (TooManyTraces count)) text = IsFirstRefusal text (TooManyTraces count)
IsAnswered (Err (TooManyRequests count)) text = IsFirstRefusal text (TooManyRequests count)

-- none of these lines is refused
abbrev pub NoneRefused : List (List ℕ) → Type 0
NoneRefused lines = (place : ℕ) → place < length lines → refusal_of (take place lines) (line_at lines place) ≡ None

-- what was taken from the source is within the limit, and none of the lines that ended in it is refused
pub record StopsBefore (before after : Option (List ℕ)) : Type 0 where
  pub text : List ℕ
  pub taken : Moves before text after
  pub within : length text ≤ 4194304
  pub none_refused : NoneRefused (ended (pieces_of text))
