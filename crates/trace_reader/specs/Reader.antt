-- A reader in the middle of a text.
use Rattle.std.specs.Prelude.{◌≡◌, ◌<◌, ◌≤◌, ◌⊎◌, ℕ, suc, ◌+◌, ◌-◌, List, [], ◌∷◌, ◌++◌, true, Option, None, Some, drop, length, nat_lt, take}
use Rattle.map_history.specs.declared.op.Request.{Request}
use Rattle.map_history.specs.Requests.{AreInOrder, most_requests}
use Rattle.trace_reader.specs.declared.line.Line.{Line}
use Rattle.trace_reader.specs.declared.line.Line.TheVariants.{Skipped, Header, Trace, Ask}
use Rattle.trace_reader.specs.declared.reader.Reader.{Reader}
use Rattle.trace_reader.specs.declared.traces.Traces.{Traces}
use Rattle.trace_reader.specs.declared.traces.TraceError.{TraceError}
use Rattle.trace_reader.specs.declared.traces.TraceError.TheVariants.{ReadFault, Memory, TooLarge, Malformed, TooManyTraces, TooManyRequests}
use Rattle.trace_reader.specs.Answer.{AreTracesIn, NoneRefused}
use Rattle.trace_reader.specs.Formats.{AreOfFormat}
use Rattle.trace_reader.specs.Lines.{pieces_of}
use Rattle.trace_reader.specs.Text.{IsFirstRefusal, format_in, lines_read}

-- each request can be asked behind a header with this format; before any there is none
abbrev pub AreAskedIn : Option ℕ → List Request → Type 0
AreAskedIn None requests = requests ≡ []
AreAskedIn (Some format) requests = AreOfFormat format requests

-- these lines were read whole: how many they are, the format of their header, and their traces
pub record AreRead (finished : ℕ) (format : Option ℕ) (read : Traces) (lines : List (List ℕ)) : Type 0 where
  pub count : finished ≡ length lines
  pub header : format ≡ format_in lines
  pub none_refused : NoneRefused lines
  pub traces : AreTracesIn read lines
  pub ordered : AreInOrder read.requests read.count
  pub formats : AreAskedIn format read.requests

abbrev pub StandsBehind : Reader → List (List ℕ) → Type 0
StandsBehind reader lines = AreRead reader.lines reader.format reader.traces lines

-- the reader has read this text: lines, and of the next line what it keeps
pub record StandsAt (reader : Reader) (text : List ℕ) : Type 0 where
  pub lines : List (List ℕ)
  pub behind : StandsBehind reader lines
  pub cut : pieces_of text ≡ lines ++ reader.line.items ∷ []
  pub bytes : length text ≡ reader.bytes

-- a line begins here, behind a trace
pub record MayAsk (reader : Reader) : Type 0 where
  pub begins : reader.line.items ≡ []
  pub begun : nat_lt 0 reader.traces.count ≡ true

-- the line that ends there was read, with its line feed, of these bytes
pub record HasTakenLine (before after : Reader) (bytes : List ℕ) (end : ℕ) : Type 0 where
  pub within : end < length bytes
  pub cut : take end bytes ++ 10 ∷ drop (end + 1) bytes ≡ bytes
  pub read : (text : List ℕ) → StandsAt before text → StandsAt after (text ++ take end bytes ++ 10 ∷ [])
  pub nearer : after.bytes ≡ before.bytes + end + 1

-- the reader has read this text to its end
pub record StandsAtEnd (reader : Reader) (text : List ℕ) : Type 0 where
  pub lines : List (List ℕ)
  pub behind : StandsBehind reader lines
  pub read : lines_read text ≡ lines
  pub within : length text ≤ 4194304

-- an error of the text, and no other, holds what it says; want of memory says nothing
abbrev pub IfOfText : TraceError → Type 0 → Type 0
IfOfText Memory fact = Unit {0}
IfOfText ReadFault fact = ⊥
IfOfText (TooLarge bytes) fact = fact
IfOfText (Malformed line kind) fact = fact
IfOfText (TooManyTraces count) fact = fact
IfOfText (TooManyRequests count) fact = fact

-- the error is this refusal
abbrev pub IsRefusedFor : TraceError → Option TraceError → Type 0
IsRefusedFor error refusal = IfOfText error (refusal ≡ Some error)

-- the error is what the text is refused for
abbrev pub Refuses : TraceError → List ℕ → Type 0
Refuses error text = IfOfText error (IsFirstRefusal text error)

-- what a line makes of the traces
abbrev pub TracesAfter : Line → Traces → Traces → Type 0
TracesAfter Skipped before after = (after.count ≡ before.count) × (after.requests ≡ before.requests)
TracesAfter (Header number) before after = (after.count ≡ before.count) × (after.requests ≡ before.requests)
TracesAfter Trace before after = (after.count ≡ before.count + 1) × (after.count ≤ 64)
    × (after.requests ≡ before.requests)
TracesAfter (Ask op) before after =
    (after.count ≡ before.count)
    × (after.requests ≡ before.requests ++ record {
      trace = before.count - 1;
      number = length before.requests;
      op = op;
    } ∷ [])
    × (length after.requests ≤ most_requests)

-- the line is one trace or one request too many, or memory is wanting
abbrev pub ExcessOf : Line → Traces → TraceError → Type 0
ExcessOf Skipped traces error = ⊥
ExcessOf (Header number) traces error = ⊥
ExcessOf Trace traces error = (error ≡ TooManyTraces 65) × (traces.count ≡ 64)
ExcessOf (Ask op) traces error = (error ≡ Memory)
    ⊎ ((error ≡ TooManyRequests (suc most_requests)) × (length traces.requests ≡ most_requests))
