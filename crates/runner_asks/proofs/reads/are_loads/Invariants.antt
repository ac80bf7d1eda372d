use Rattle.std.proofs.Common.{◌≡◌, ◌≤◌, drop, length}
use Rattle.runner_steps.specs.body_terms.specs.Shape.{loaded_places}
use Rattle.runner_steps.specs.Reads.{are_of}
use Rattle.runner_asks.proofs.reads.are_loads.Given as goal

abbrev pub invariant-loop-step : goal.invariant-loop-step
invariant-loop-step l = record {
  rest : are_of (loaded_places (drop l.step-index l.body)) (drop l.at l.found) ≡ are_of (loaded_places l.body) l.found;
  within : l.at ≤ length l.found;
}
