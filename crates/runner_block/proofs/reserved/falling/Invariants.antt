use Rattle.std.proofs.Common.{◌≡◌, ◌-◌, ◌++◌, vec_len}
use Rattle.std.specs.Vec.{vec_capacity}
use Rattle.machine_states.specs.First.{falling}
use Rattle.runner_block.proofs.reserved.falling.Given as goal

abbrev pub invariant-loop-below : goal.invariant-loop-below
invariant-loop-below l = record {
  items : l.numbers.items ++ falling l.from (l.count - l.below) ≡ falling l.from l.count;
  filled : vec_len l.numbers ≡ l.below;
  room : vec_capacity l.numbers ≡ l.room;
}
