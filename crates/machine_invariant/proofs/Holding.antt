-- The number of a block has 32 bits.
use Rattle.std.specs.Prelude.{◌^◌}
use Rattle.std.proofs.Common.{◌<◌, ◌≤◌, arith}
use Rattle.machine_states.specs.table_words.specs.declared.layout.Layout.{Layout}
use Rattle.machine_states.specs.table_words.specs.Limits.{IsWithinLimits}
use Rattle.machine_states.specs.table_words.specs.Places.{block_count}
use Rattle.machine_states.specs.table_words.proofs.Counts.{few_blocks as blocks_few}

pub few_blocks : (l : Layout) → IsWithinLimits l → block_count l < 2 ^ 32
few_blocks l limits = let few = blocks_few l limits in omega (arith, few)

pub blocks_most : (l : Layout) → IsWithinLimits l → block_count l ≤ 2 ^ 32
blocks_most l limits = let few = blocks_few l limits in omega (arith, few)
