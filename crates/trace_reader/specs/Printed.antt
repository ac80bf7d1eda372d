-- A trace text as it is printed.
use Rattle.std.specs.Prelude.{◌≤◌, ℕ, ◌+◌, ◌-◌, List, [], ◌∷◌, ◌++◌, All, codes, decimal, flat_map, replicate}
use Rattle.map_history.specs.declared.op.Op.{Op}
use Rattle.map_history.specs.declared.op.Op.TheVariants.{Get, Ins, Del, Put, Mov}
use Rattle.map_history.specs.declared.op.Request.{Request}
use Rattle.trace_reader.specs.Formats.{format_for}

-- the line of a request
abbrev pub line_of : Op → List ℕ
line_of (Get key) = codes "get " ++ decimal key
line_of (Ins key value) = codes "ins " ++ decimal key ++ (codes " " ++ decimal value)
line_of (Del key) = codes "del " ++ decimal key
line_of (Put key value) = codes "put " ++ decimal key ++ (codes " " ++ decimal value)
line_of (Mov from to) = codes "mov " ++ decimal from ++ (codes " " ++ decimal to)

-- lines that begin so many traces
abbrev pub beginnings : ℕ → List (List ℕ)
beginnings count = replicate count (codes "trace")

-- the lines of requests where so many traces have begun: each request stands in its trace, and each trace begins
abbrev pub lines_behind : ℕ → List Request → ℕ → List (List ℕ)
lines_behind begun [] traces = beginnings (traces - begun)
lines_behind begun (request ∷ requests) traces = beginnings (request.trace + 1 - begun) ++ line_of request.op ∷
    lines_behind (request.trace + 1) requests traces

-- the header, which names a format
abbrev pub header_line : ℕ → List ℕ
header_line format = codes "flock " ++ decimal format

-- the header with the least format that has the requests, and behind it their lines
abbrev pub printed_lines : List Request → ℕ → List (List ℕ)
printed_lines requests traces = header_line (format_for requests) ∷ lines_behind 0 requests traces

-- each line is ended by a line feed
abbrev pub with_feed : List ℕ → List ℕ
with_feed line = line ++ codes "\n"

abbrev pub printed : List Request → ℕ → List ℕ
printed requests traces = flat_map with_feed (printed_lines requests traces)

-- the value that is given fits 32 bits
abbrev pub HasSmallValue : Op → Type 0
HasSmallValue (Get key) = Unit {0}
HasSmallValue (Ins key value) = value ≤ 4294967295
HasSmallValue (Del key) = Unit {0}
HasSmallValue (Put key value) = value ≤ 4294967295
HasSmallValue (Mov from to) = Unit {0}

abbrev pub HaveSmallValues : List Request → Type 0
HaveSmallValues requests = All (λ (request : Request). HasSmallValue request.op) requests
