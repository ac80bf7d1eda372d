-- Requests in order, in at most as many traces as a table serves.
use Rattle.std.proofs.Common.{ℕ, List, arith}
use Rattle.machine_states.specs.map_history.specs.declared.op.Request.{Request}
use Rattle.machine_states.specs.map_history.specs.Requests.{AreInOrder}

pub in_any_order : (requests : List Request) (traces : ℕ) → AreInOrder requests traces → AreInOrder requests 64
in_any_order requests traces order = record {
  few_traces = omega arith;
  few = order.few;
  numbered = order.numbered;
  within = λ k d early. omega (arith, order.within k d early, order.few_traces);
  rising = order.rising;
  keys = order.keys;
}
