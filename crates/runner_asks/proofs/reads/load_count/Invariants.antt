use Rattle.std.proofs.Common.{◌≡◌, ◌+◌, ◌≤◌, drop, length}
use Rattle.runner_steps.specs.body_terms.specs.Shape.{loaded_places}
use Rattle.runner_asks.proofs.reads.load_count.Given as goal

abbrev pub invariant-loop-step : goal.invariant-loop-step
invariant-loop-step l = record {
  counted : l.count + length (loaded_places (drop l.step-index l.body)) ≡ length (loaded_places l.body);
  few : l.count ≤ l.step-index;
}
