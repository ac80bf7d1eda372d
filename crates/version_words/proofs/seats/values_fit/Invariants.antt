use Rattle.std.proofs.Common.{ℕ, ◌<◌, get_or}
use Rattle.machine_states.specs.map_history.specs.declared.op.Request.{Request}
use Rattle.version_words.specs.TableState.{HasSmallValue}
use Rattle.version_words.proofs.seats.values_fit.Given as goal

abbrev pub invariant-loop-request : goal.invariant-loop-request
invariant-loop-request l = (k : ℕ) (d : Request) → k < l.request-index → HasSmallValue (get_or l.requests k d).op
