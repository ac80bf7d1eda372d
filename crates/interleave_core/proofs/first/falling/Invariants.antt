use Rattle.std.proofs.Common.{◌≡◌, ◌-◌, ◌++◌}
use Rattle.machine_states.specs.First.{falling}
use Rattle.interleave_core.proofs.first.falling.Given as goal

abbrev pub invariant-loop-below : goal.invariant-loop-below
invariant-loop-below l = l.numbers.items ++ falling l.from (l.count - l.below) ≡ falling l.from l.count
