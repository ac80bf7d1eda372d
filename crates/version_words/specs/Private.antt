-- The words of own slots: descriptors are numbered after the node slots, and blocks after the descriptors.
use Rattle.std.specs.Prelude.{ℕ, ◌+◌, ◌-◌, ◌/◌, ◌%◌, ◌<◌, List, nat_lt, if◌then◌else◌}
use Rattle.machine_states.specs.map_history.specs.declared.op.Request.{Request}
use Rattle.machine_states.specs.body_terms.specs.Memory.{cell_of}
use Rattle.machine_states.specs.table_words.specs.declared.layout.Layout.{Layout}
use Rattle.machine_states.specs.table_words.specs.declared.spot.Spot.{Spot}
use Rattle.machine_states.specs.table_words.specs.declared.spot.Spot.TheVariants.{Cell}
use Rattle.machine_states.specs.table_words.specs.Places.{slot_count, cells_at, descriptor_at, descriptor_words, block_at, block_words}
use Rattle.machine_states.specs.structure_laws.specs.Meaning.{Meaning}
use Rattle.machine_states.specs.runner_steps.specs.Outside.{descriptor_spot, block_spot, blocks_from}
use Rattle.machine_states.specs.runner_steps.specs.Asks.{sizes_for}

-- a node slot has five cells
pub record IsWithin (m : Meaning) (l : Layout) (slot word : ℕ) : Type 0 where
  pub cell : slot < slot_count l m.fixed_slots → word < 5

-- a word of a slot: a cell of a node slot, or a word of a descriptor or of a block
abbrev pub private_spot : Meaning → Layout → ℕ → ℕ → Spot
private_spot m l slot word = let slots = slot_count l m.fixed_slots in let blocks = blocks_from m l in
    if nat_lt slot slots then Cell (cell_of m.fixed_cells slot word)
    else (if nat_lt slot blocks then descriptor_spot (slot - slots) word else block_spot (slot - blocks) word)

-- the slot that has the word at this address
abbrev pub slot_at : Meaning → Layout → List Request → ℕ → ℕ
slot_at m l requests at = let s = sizes_for m l requests in
    if nat_lt at (descriptor_at s 0) then (at - (cells_at s + m.fixed_cells)) / 5
    else (if nat_lt at (block_at s 0) then slot_count l m.fixed_slots + (at - descriptor_at s 0) / descriptor_words
    else blocks_from m l + (at - block_at s 0) / block_words)

-- which of the slot's words stands there
abbrev pub word_at : Meaning → Layout → List Request → ℕ → ℕ
word_at m l requests at = let s = sizes_for m l requests in
    if nat_lt at (descriptor_at s 0) then (at - (cells_at s + m.fixed_cells)) % 5
    else (if nat_lt at (block_at s 0) then (at - descriptor_at s 0) % descriptor_words
    else (at - block_at s 0) % block_words)
