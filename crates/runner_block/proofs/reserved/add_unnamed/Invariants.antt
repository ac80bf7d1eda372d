use Rattle.std.proofs.Common.{◌≡◌, ◌+◌, ◌++◌, ◌≤◌, vec_len, take}
use Rattle.std.specs.List.{filter}
use Rattle.std.specs.Vec.{vec_capacity}
use Rattle.machine_states.specs.guard_core.specs.Moves.{is_unnamed}
use Rattle.runner_block.proofs.reserved.add_unnamed.Given as goal

abbrev pub invariant-loop-descriptor : goal.invariant-loop-descriptor
invariant-loop-descriptor l = record {
  items : l.list.items ≡ l.initial.list.items ++ filter (is_unnamed l.words) (take l.descriptor-index l.limbo);
  filled : vec_len l.list ≤ vec_len l.initial.list + l.descriptor-index;
  room : vec_capacity l.list ≡ vec_capacity l.initial.list;
}
