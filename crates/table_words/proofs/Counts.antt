-- The numbers of descriptors and of blocks are small.
use Rattle.std.proofs.Common.{ℕ, ◌+◌, ◌*◌, ◌≤◌, arith}
use Rattle.table_words.specs.declared.layout.Layout.{Layout}
use Rattle.table_words.specs.Limits.{IsWithinLimits}
use Rattle.table_words.specs.Places.{worker_blocks, keeper_blocks, block_count}

pub few_products : (sections runners : ℕ) → sections ≤ 1024 → runners ≤ 16 → sections * runners ≤ 1024 * 16
few_products sections runners a b = grind arith

few_block_products : (blocks runners : ℕ) → blocks ≤ 8200 → runners ≤ 16 → blocks * runners ≤ 8200 * 16
few_block_products blocks runners a b = grind arith

-- a worker has eight blocks for each of its descriptors and eight more, and the keeper eight for each worker
worker_few : (l : Layout) → IsWithinLimits l → worker_blocks l ≤ 8200
worker_few l limits = let few = limits.few_sections in omega (arith, few)

keeper_few : (l : Layout) → IsWithinLimits l → keeper_blocks l ≤ 128
keeper_few l limits = let few = limits.few_runners in omega (arith, few)

both_few : (workers keeper : ℕ) → workers ≤ 8200 * 16 → keeper ≤ 128 → workers + keeper ≤ 131328
both_few workers keeper a b = omega (arith, a, b)

pub few_blocks : (l : Layout) → IsWithinLimits l → block_count l ≤ 131328
few_blocks l limits =
    both_few (worker_blocks l * l.runners) (keeper_blocks l)
    (few_block_products (worker_blocks l) l.runners (worker_few l limits) limits.few_runners)
    (keeper_few l limits)
