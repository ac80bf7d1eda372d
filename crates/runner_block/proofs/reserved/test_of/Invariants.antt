use Rattle.std.proofs.Common.{◌≡◌, drop}
use Rattle.machine_states.specs.runner_parts.specs.Lists.{test_of}
use Rattle.runner_block.proofs.reserved.test_of.Given as goal

abbrev pub invariant-loop-test : goal.invariant-loop-test
invariant-loop-test l = test_of (drop l.test-index l.tests) l.slot ≡ test_of l.tests l.slot
