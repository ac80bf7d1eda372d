use Rattle.std.proofs.Common.{◌≡◌, ◌≢◌, ◌≤◌, List, All, true, subst, sym, ap, arith, ℕ}
use Rattle.std.specs.Prelude.{is_none}
use Rattle.map_history.specs.declared.op.Request.{Request}
use Rattle.map_history.specs.Requests.{AreInOrder}
use Rattle.map_history.specs.Keys.{other_key_of}
use Rattle.flock_tool.specs.command_line.specs.trace_reader.specs.Formats.{AreOfFormat, IsFormat}
use Rattle.flock_tool.specs.command_line.specs.trace_reader.specs.declared.traces.Traces.{Traces}
use Rattle.flock_tool.specs.command_line.specs.trace_reader.proofs.Formats.{one_keyed}
use Rattle.flock_tests.proofs.stamps.stamps_of.Goals as goal

-- each of them has one key
abbrev HaveOneKey : List Request → Type 0
HaveOneKey requests = All (λ (request : Request). is_none (other_key_of request.op) ≡ true) requests

-- so it is in a text that moves no keys
have_one_key : (traces : Traces) → IsFormat traces.format × AreOfFormat traces.format traces.requests
    → traces.format ≢ 3 → HaveOneKey traces.requests
have_one_key traces (format, are) other = λ k d early. ap is_none (one_keyed _ (omega (arith, are k d early, low)))
  where
    low : traces.format ≤ 2
    low = omega (arith, format.1, other)

-- in order in so many traces, and so in as many as a table serves
in_any_order : (requests : List Request) (traces : ℕ) → AreInOrder requests traces → AreInOrder requests 64
in_any_order requests traces order = record {
  few_traces = omega arith;
  few = order.few;
  numbered = order.numbered;
  within = λ k d early. omega (arith, order.within k d early, order.few_traces);
  rising = order.rising;
  keys = order.keys;
}

pub stamps_on-requires-clause-ordered : goal.stamps_on-requires-clause-ordered
stamps_on-requires-clause-ordered g c κs within =
    subst (λ rs. AreInOrder rs 64) (sym c.as_slice-requests.ensures) (in_any_order c.in-Ok.traces.requests c.in-Ok.traces.count c.in-Ok.ensures.ordered)

pub stamps_on-requires-else-on_tree-clause-ordered : goal.stamps_on-requires-else-on_tree-clause-ordered
stamps_on-requires-else-on_tree-clause-ordered g c κs within =
    subst (λ rs. AreInOrder rs 64) (sym c.as_slice-requests.ensures) (in_any_order c.in-Ok.traces.requests c.in-Ok.traces.count c.in-Ok.ensures.ordered)

pub stamps_on-requires-clause-served : goal.stamps_on-requires-clause-served
stamps_on-requires-clause-served g c κs within =
    subst HaveOneKey (sym c.as_slice-requests.ensures) (have_one_key c.in-Ok.traces c.in-Ok.ensures.format c.if-traces-eq3.false)

pub stamps_on-requires-else-on_tree-clause-served : goal.stamps_on-requires-else-on_tree-clause-served
stamps_on-requires-else-on_tree-clause-served g c κs within =
    subst HaveOneKey (sym c.as_slice-requests.ensures) (have_one_key c.in-Ok.traces c.in-Ok.ensures.format c.if-traces-eq3.false)
