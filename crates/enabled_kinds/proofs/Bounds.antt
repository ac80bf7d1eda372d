-- The numbers of slots, descriptors and blocks are small.
use Rattle.std.proofs.Common.{ℕ, ◌+◌, ◌^◌, ◌<◌, ◌≤◌, arith}
use Rattle.machine_states.specs.table_words.specs.declared.layout.Layout.{Layout}
use Rattle.machine_states.specs.table_words.specs.Limits.{IsWithinLimits}
use Rattle.machine_states.specs.table_words.specs.Places.{slot_count, descriptor_count, block_count}
use Rattle.machine_states.specs.table_words.proofs.Counts.{few_products, few_blocks as blocks_few}

pub few_numbers : (l : Layout) (fixed_slots : ℕ) → IsWithinLimits l → fixed_slots ≤ 3 → slot_count l fixed_slots + descriptor_count l < 2 ^ 32
few_numbers l fixed_slots limits few =
    let products = few_products l.sections l.runners limits.few_sections limits.few_runners in
    let nodes = limits.few_nodes in
    let runners = limits.few_runners in
    omega (arith, products, nodes, runners, few)

pub few_blocks : (l : Layout) (fixed_slots : ℕ) → IsWithinLimits l → fixed_slots ≤ 3 → slot_count l fixed_slots + descriptor_count l + block_count l < 2 ^ 32
few_blocks l fixed_slots limits few =
    let products = few_products l.sections l.runners limits.few_sections limits.few_runners in
    let nodes = limits.few_nodes in
    let runners = limits.few_runners in
    let blocks = blocks_few l limits in omega (arith, products, nodes, runners, few, blocks)
