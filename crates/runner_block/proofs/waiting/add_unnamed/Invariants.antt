use Rattle.std.proofs.Common.{◌≡◌, ◌+◌, ◌++◌, ◌≤◌, vec_len, take, map}
use Rattle.std.specs.List.{filter}
use Rattle.std.specs.Vec.{vec_capacity}
use Rattle.machine_states.specs.guard_core.specs.Moves.{is_unnamed}
use Rattle.runner_block.proofs.waiting.add_unnamed.Given as goal

abbrev pub invariant-loop-waiting : goal.invariant-loop-waiting
invariant-loop-waiting l = record {
  items : l.list.items ≡ l.initial.list.items ++ map (λ x. x.block) (filter (λ x. is_unnamed l.words x.descriptor) (take l.waiting-index l.limbo));
  filled : vec_len l.list ≤ vec_len l.initial.list + l.waiting-index;
  room : vec_capacity l.list ≡ vec_capacity l.initial.list;
}
