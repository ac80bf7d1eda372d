-- How many node slots a layout within the limits has, and what that means for links.
use Rattle.std.proofs.Common.{◌≡◌, ℕ, suc, ◌<◌, ◌≤◌, arith}
use Rattle.std.proofs.lemmas.Grind.{common_steps}
use Rattle.std.specs.Prelude.{◌^◌}
use Rattle.body_terms.specs.Word.{value_of}
use Rattle.body_terms.specs.block_words.specs.table_words.specs.declared.layout.Layout.{Layout}
use Rattle.body_terms.specs.block_words.specs.table_words.specs.Limits.{IsWithinLimits}
use Rattle.body_terms.specs.block_words.specs.table_words.specs.Places.{slot_count}

-- a link to any node slot has 32 bits
pub links_small : (layout : Layout) (fixed_slots t : ℕ) → IsWithinLimits layout → fixed_slots ≤ 3 → t < slot_count layout fixed_slots → suc t < 2 ^ 32
links_small layout fixed_slots t limits few within =
    let nodes = limits.few_nodes in
    let runners = limits.few_runners in
    omega arith

pub value-small : (n : ℕ) → n < 2 ^ 32 → value_of n ≡ n
value-small n small = grind (arith, common_steps)
