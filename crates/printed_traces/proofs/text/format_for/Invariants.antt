use Rattle.std.proofs.Common.{◌≡◌, take}
use Rattle.trace_reader.specs.Formats.{format_for}
use Rattle.printed_traces.proofs.text.format_for.Given as goal

abbrev pub invariant-loop-request : goal.invariant-loop-request
invariant-loop-request l = l.format ≡ format_for (take l.request-index l.requests)
