-- What a runner's block asks before a private load.
use Rattle.std.specs.Prelude.{◌≡◌, ℕ, ◌≤◌, true, false}
use Rattle.machine_states.specs.runner_parts.specs.Tests.{has}
use Rattle.machine_states.specs.epoch_core.specs.Lists.{times}
use Rattle.runner_block.specs.declared.block.Block.{Block}

-- in a run a Make that has no slot takes a free one, which stands in the free list once, and no
-- descriptor's word is loaded
pub record MayTake (b : Block) (slot : ℕ) : Type 0 where
  pub free : b.place.inside ≡ true → b.place.making ≡ false → has b.lists.part.nodes.free slot ≡ true
  pub once : b.place.inside ≡ true → b.place.making ≡ false → times slot b.lists.part.nodes.free ≤ 1
  pub outside : b.lists.room ≤ slot → b.place.inside ≡ false
