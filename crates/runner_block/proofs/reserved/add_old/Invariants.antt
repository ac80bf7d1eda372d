use Rattle.std.proofs.Common.{◌≡◌, ◌+◌, ◌++◌, ◌≤◌, vec_len, take}
use Rattle.std.specs.List.{filter}
use Rattle.std.specs.Vec.{vec_capacity}
use Rattle.machine_states.specs.runner_parts.specs.Lists.{is_old, slots_of}
use Rattle.runner_block.proofs.reserved.add_old.Given as goal

abbrev pub invariant-loop-retired : goal.invariant-loop-retired
invariant-loop-retired l = record {
  items : l.list.items ≡ l.initial.list.items ++ slots_of (filter (is_old l.epoch) (take l.retired-index l.limbo));
  filled : vec_len l.list ≤ vec_len l.initial.list + l.retired-index;
  room : vec_capacity l.list ≡ vec_capacity l.initial.list;
}
