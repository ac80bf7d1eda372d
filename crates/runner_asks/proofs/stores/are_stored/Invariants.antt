use Rattle.std.proofs.Common.{◌≡◌, ◌+◌, drop}
use Rattle.runner_steps.specs.runner_parts.specs.Tests.{are_stored}
use Rattle.runner_asks.proofs.stores.are_stored.Given as goal

abbrev pub invariant-loop-number : goal.invariant-loop-number
invariant-loop-number l = record {
  word : l.word ≡ l.from + l.number-index;
  rest : are_stored l.stored l.descriptor l.word (drop l.number-index l.numbers) ≡ are_stored l.stored l.descriptor l.from l.numbers;
}
