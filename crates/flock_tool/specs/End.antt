-- How the program ends without a report: what it says went wrong, and the number of its status.
use Rattle.std.specs.Prelude.{ℕ, ◌⊎◌, List, ◌++◌, Option, codes, decimal}
use Rattle.threaded_runs.specs.runner_gate.specs.fault_count.specs.Rose.{Rose}
use Rattle.load_counts.specs.run_reports.specs.report_text.specs.Sink.{Extends, ExtendsInPart}
use Rattle.printed_traces.specs.declared.print.PrintStop.{PrintStop}
use Rattle.printed_traces.specs.declared.print.PrintStop.TheVariants as print_stops
use Rattle.load_counts.specs.run_reports.specs.declared.printing.PrintError.{PrintError}
use Rattle.load_counts.specs.run_reports.specs.declared.printing.PrintError.TheVariants as printing
use Rattle.command_line.specs.trace_reader.specs.declared.traces.BadLine.{BadLine}
use Rattle.command_line.specs.trace_reader.specs.declared.traces.BadLine.TheVariants.{NotAscii, NoHeader, UnknownWord, RequestBeforeTrace, MissingField, ExtraField, BadNumber, KeyTooLarge, ValueTooLarge}
use Rattle.command_line.specs.trace_reader.specs.declared.traces.TraceError.{TraceError}
use Rattle.command_line.specs.trace_reader.specs.declared.traces.TraceError.TheVariants.{ReadFault, Memory, TooLarge, Malformed, TooManyTraces, TooManyRequests}
use Rattle.flock_tool.specs.declared.status.Stop.{Stop}
use Rattle.flock_tool.specs.declared.status.Stop.TheVariants.{Words, Text, Nodes, WriteFault}

-- the line was added, or a part of it where the sink counted a fault
abbrev pub Tells : List ℕ → (before after : Option (List ℕ)) → (faults_before faults_after : ℕ) → Type 0
Tells line before after faults_before faults_after =
    Extends before line after ⊎ (Rose faults_before faults_after × ExtendsInPart before line after)

-- how a fault of a line is printed
abbrev pub kind_text : BadLine → List ℕ
kind_text NotAscii = codes "not ascii"
kind_text NoHeader = codes "no header"
kind_text UnknownWord = codes "unknown word"
kind_text RequestBeforeTrace = codes "request before trace"
kind_text MissingField = codes "missing field"
kind_text ExtraField = codes "extra field"
kind_text BadNumber = codes "bad number"
kind_text KeyTooLarge = codes "key too large"
kind_text ValueTooLarge = codes "value too large"

-- the line that says why a text was not read
abbrev pub error_line : TraceError → List ℕ
error_line ReadFault = codes "flock: read fault\n"
error_line Memory = codes "flock: memory\n"
error_line (TooLarge bytes) = codes "flock: limit: bytes " ++ decimal bytes ++ codes "\n"
error_line (Malformed line kind) = codes "flock: line " ++ decimal line ++ codes ": " ++ kind_text kind ++ codes "\n"
error_line (TooManyTraces count) = codes "flock: limit: traces " ++ decimal count ++ codes "\n"
error_line (TooManyRequests count) = codes "flock: limit: requests " ++ decimal count ++ codes "\n"

-- the line that says how many node slots the runners would have together
abbrev pub nodes_line : ℕ → List ℕ
nodes_line count = codes "flock: limit: nodes " ++ decimal count ++ codes "\n"

-- and why the program ended early
abbrev pub stop_line : Stop → List ℕ
stop_line Words = codes "flock: words refused\n"
stop_line (Text error) = error_line error
stop_line (Nodes count) = nodes_line count
stop_line WriteFault = codes "flock: write fault\n"

-- the number of the status
abbrev pub error_status : TraceError → ℕ
error_status ReadFault = 8
error_status Memory = 7
error_status (TooLarge bytes) = 4
error_status (Malformed line kind) = 3
error_status (TooManyTraces count) = 4
error_status (TooManyRequests count) = 4

abbrev pub stop_status : Stop → ℕ
stop_status Words = 2
stop_status (Text error) = error_status error
stop_status (Nodes count) = 4
stop_status WriteFault = 9

-- the text is past a limit
abbrev pub IsLimit : TraceError → Type 0
IsLimit ReadFault = ⊥
IsLimit Memory = ⊥
IsLimit (TooLarge bytes) = Unit {0}
IsLimit (Malformed line kind) = ⊥
IsLimit (TooManyTraces count) = Unit {0}
IsLimit (TooManyRequests count) = Unit {0}

-- why a report wasn't printed whole
abbrev pub stop_of : PrintError → Stop
stop_of printing.Memory = Text Memory
stop_of printing.Failed = WriteFault

-- and why generated requests weren't
abbrev pub print_stop : PrintStop → Stop
print_stop (print_stops.TooManyRequests count) = Text (TooManyRequests count)
print_stop print_stops.Memory = Text Memory
print_stop print_stops.WriteFault = WriteFault
