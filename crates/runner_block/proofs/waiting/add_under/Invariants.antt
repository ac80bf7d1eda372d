use Rattle.std.proofs.Common.{◌≡◌, ◌+◌, ◌++◌, vec_len, take}
use Rattle.std.specs.Vec.{vec_capacity}
use Rattle.machine_states.specs.runner_parts.specs.Lists.{all_under}
use Rattle.runner_block.proofs.waiting.add_under.Given as goal

abbrev pub invariant-loop-block : goal.invariant-loop-block
invariant-loop-block l = record {
  items : l.list.items ≡ l.initial.list.items ++ all_under l.descriptor (take l.block-index l.blocks);
  filled : vec_len l.list ≡ vec_len l.initial.list + l.block-index;
  room : vec_capacity l.list ≡ vec_capacity l.initial.list;
}
