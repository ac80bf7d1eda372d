use Rattle.std.proofs.Common.{ℕ, ◌<◌, get_or}
use Rattle.map_history.specs.declared.op.Request.{Request}
use Rattle.trace_reader.specs.Printed.{HasSmallValue}
use Rattle.printed_traces.proofs.text.values_fit.Given as goal

abbrev pub invariant-loop-request : goal.invariant-loop-request
invariant-loop-request l = (k : ℕ) (d : Request) → k < l.request-index → HasSmallValue (get_or l.requests k d).op
