use Rattle.std.proofs.Common.{length, ◌-◌, ◌≡◌, ◌≤◌, All, take}
use Rattle.machine_states.specs.map_history.specs.declared.op.Request.{Request}
use Rattle.threaded_runs.proofs.owned.run_length.Given as goal

abbrev pub invariant-loop-len : goal.invariant-loop-len
invariant-loop-len l = record {
  within : l.len ≤ length l.requests;
  same : All (λ (request : Request). request.trace ≡ l.trace) (take l.len l.requests);
}

abbrev pub decreases-loop-len : goal.decreases-loop-len
decreases-loop-len l = length l.requests - l.len
