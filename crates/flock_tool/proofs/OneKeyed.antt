-- Which requests have one key.
use Rattle.std.proofs.Common.{◌≡◌, ◌≢◌, ◌≤◌, List, All, true, ap, arith}
use Rattle.std.specs.Prelude.{is_none}
use Rattle.machine_states.specs.map_history.specs.declared.op.Request.{Request}
use Rattle.machine_states.specs.map_history.specs.Requests.{AreOfFormat1}
use Rattle.machine_states.specs.map_history.proofs.Cells.{format_1_one_keyed}
use Rattle.leaf_tree.specs.tree_laws.specs.bucket_laws.specs.Walk.{has_one_key}
use Rattle.command_line.specs.trace_reader.specs.Formats.{AreOfFormat, IsFormat}
use Rattle.command_line.specs.trace_reader.specs.declared.traces.Traces.{Traces}
use Rattle.command_line.specs.trace_reader.proofs.Formats.{one_keyed}

abbrev HaveOneKey : List Request → Type 0
HaveOneKey requests = All (λ (request : Request). has_one_key request.op ≡ true) requests

-- those of a text that moves no keys
pub have_one_key : (traces : Traces) → IsFormat traces.format × AreOfFormat traces.format traces.requests
    → traces.format ≢ 3 → HaveOneKey traces.requests
have_one_key traces (format, are) other = λ k d early. ap is_none (one_keyed _ (omega (arith, are k d early, low)))
  where
    low : traces.format ≤ 2
    low = omega (arith, format.1, other)

-- and generated ones
pub generated_have_one_key : (requests : List Request) → AreOfFormat1 requests → HaveOneKey requests
generated_have_one_key requests are = λ k d early. ap is_none (format_1_one_keyed _ (are k d early))
