use Rattle.std.proofs.Common.{◌≡◌, ◌<◌, ◌^◌, ◌*◌, map}
use Rattle.std.specs.List.{range_with_len}
use Rattle.trace_reader.specs.Generator.{generated_at, state_after}
use Rattle.trace_reader.proofs.generator.generate.Given as goal

abbrev pub invariant-loop-number : goal.invariant-loop-number
invariant-loop-number l = record {
  requests : l.requests ≡ map (generated_at l.plan) (range_with_len 0 l.number);
  state : l.state ≡ state_after l.plan.seed (2 * l.number);
  bound : l.state < 2 ^ 31;
}
