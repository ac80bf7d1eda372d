-- A whole text: what it is refused for, and where; or its traces and requests.
use Rattle.std.specs.Prelude.{◌≡◌, ℕ, ◌+◌, ◌-◌, ◌<◌, ◌≤◌, ◌==◌, ◌&&◌, List, [], ◌∷◌, ◌++◌, length, suc, take, Option, None, Some, is_some, if◌then◌else◌, nat_lt, nat_le, count_by}
use Rattle.std.specs.List.{slice_index_or}
use Rattle.std.specs.Option.{option_or}
use Rattle.map_history.specs.Requests.{most_requests}
use Rattle.map_history.specs.declared.op.Op.{Op}
use Rattle.map_history.specs.declared.op.Request.{Request}
use Rattle.trace_reader.specs.declared.traces.BadLine.{BadLine}
use Rattle.trace_reader.specs.declared.traces.BadLine.TheVariants.{NoHeader}
use Rattle.trace_reader.specs.declared.traces.TraceError.{TraceError}
use Rattle.trace_reader.specs.declared.traces.TraceError.TheVariants.{TooLarge, Malformed, TooManyTraces, TooManyRequests}
use Rattle.trace_reader.specs.Line.{fault_of, header_in, asked, begins_trace}
use Rattle.trace_reader.specs.Lines.{pieces_of, ended, lines_of}

-- how many traces the lines begin, and how many requests they make
abbrev pub traces_in : List (List ℕ) → ℕ
traces_in lines = count_by begins_trace lines

abbrev pub asks_in : List (List ℕ) → ℕ
asks_in lines = count_by (λ line. is_some (asked line)) lines

-- the format of the first header among these lines, if one is there
abbrev pub format_in : List (List ℕ) → Option ℕ
format_in [] = None
format_in (line ∷ lines) = option_or (header_in line) (format_in lines)

-- the fault of a line behind these lines
abbrev pub fault_behind : List (List ℕ) → List ℕ → Option BadLine
fault_behind before line = fault_of (format_in before) (nat_lt 0 (traces_in before)) line

-- a line without a fault may still be one trace or one request too many
abbrev pub excess_of : List (List ℕ) → List ℕ → Option TraceError
excess_of before line =
    if begins_trace line && traces_in before == 64 then Some (TooManyTraces 65)
    else if is_some (asked line) && asks_in before == most_requests then Some (TooManyRequests (suc most_requests))
    else None

abbrev pub refusal_by : Option BadLine → List (List ℕ) → List ℕ → Option TraceError
refusal_by (Some kind) before line = Some (Malformed (length before + 1) kind)
refusal_by None before line = excess_of before line

-- what a line behind these lines is refused for
abbrev pub refusal_of : List (List ℕ) → List ℕ → Option TraceError
refusal_of before line = refusal_by (fault_behind before line) before line

-- the lines that are read: all, or in a text that is too large those that end within the limit
abbrev pub lines_read : List ℕ → List (List ℕ)
lines_read text = if nat_le (length text) 4194304 then lines_of text else ended (pieces_of (take 4194304 text))

-- what the text is refused for behind these lines: it goes on past the limit, or it ends before its header
abbrev pub end_refusal : List ℕ → Option TraceError
end_refusal text =
    if nat_lt 4194304 (length text) then Some (TooLarge 4194305)
    else if is_some (format_in (lines_of text)) then None
    else Some (Malformed (length (lines_of text) + 1) NoHeader)

abbrev pub line_at : List (List ℕ) → ℕ → List ℕ
line_at lines place = slice_index_or lines place []

-- the refusals by place: those of the lines that are read, and last that of the end
abbrev pub refusal_at : List ℕ → ℕ → Option TraceError
refusal_at text place =
    if nat_lt place (length (lines_read text)) then refusal_of (take place (lines_read text))
    (line_at (lines_read text) place)
    else end_refusal text

-- the text is in the grammar and within the limits
abbrev pub IsAccepted : List ℕ → Type 0
IsAccepted text = (place : ℕ) → place ≤ length (lines_read text) → refusal_at text place ≡ None

-- the refusal with the first place
pub record IsFirstRefusal (text : List ℕ) (error : TraceError) : Type 0 where
  pub place : ℕ
  pub within : place ≤ length (lines_read text)
  pub refused : refusal_at text place ≡ Some error
  pub none_before : (earlier : ℕ) → earlier < place → refusal_at text earlier ≡ None

-- the request of a line behind these lines
abbrev pub request_by : List (List ℕ) → Option Op → List Request
request_by before None = []
request_by before (Some op) = record { trace = traces_in before - 1; number = asks_in before; op = op } ∷ []

abbrev pub requests_behind : List (List ℕ) → List (List ℕ) → List Request
requests_behind before [] = []
requests_behind before (line ∷ lines) = request_by before (asked line) ++ requests_behind (before ++ line ∷ []) lines

-- the requests of these lines, in order
abbrev pub requests_in : List (List ℕ) → List Request
requests_in lines = requests_behind [] lines

-- the format, the traces and the requests of a text
abbrev pub format_of : List ℕ → Option ℕ
format_of text = format_in (lines_of text)

abbrev pub traces_of : List ℕ → ℕ
traces_of text = traces_in (lines_of text)

abbrev pub requests_of : List ℕ → List Request
requests_of text = requests_in (lines_of text)
