-- The requests of a list, as the history has them.
use Rattle.std.specs.Prelude.{ℕ, ◌%◌, List, Option, Some, None, slice_get}
use Rattle.machine_states.specs.map_history.specs.declared.op.Op.TheVariants.{Get}
use Rattle.machine_states.specs.map_history.specs.declared.op.Request.{Request}
use Rattle.machine_states.specs.table_words.specs.declared.layout.Layout.{Layout}
use Rattle.machine_states.specs.structure_laws.specs.Meaning.{Meaning}
use Rattle.machine_history.specs.history_core.specs.State.{Requests}

-- the request; where there is none, one that nobody asks
abbrev pub or_none : Option Request → Request
or_none None = record { trace = 0; number = 0; op = Get 0 }
or_none (Some q) = q

-- the request with this number
abbrev pub request_at : List Request → ℕ → Request
request_at requests n = or_none (slice_get requests n)

-- a trace's requests are those of the worker with the number of the trace modulo the number of
-- workers
abbrev pub requests_of : Meaning → Layout → List Request → Requests
requests_of m l requests = record {
  is_map = m.is_map;
  op = λ n. (request_at requests n).op;
  trace = λ n. (request_at requests n).trace;
  worker = λ n. (request_at requests n).trace % l.runners;
}
