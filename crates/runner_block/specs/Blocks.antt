-- How a runner's block changes.
use Rattle.std.specs.Prelude.{ℕ, ◌+◌, ◌-◌, Bool, true, false, ◌==◌, ◌||◌, nat_lt, if◌then◌else◌}
use Rattle.machine_states.specs.body_terms.specs.Word.{value_of, version_of}
use Rattle.machine_states.specs.table_words.specs.declared.layout.Layout.{Layout}
use Rattle.machine_states.specs.runner_parts.specs.Lists.{blocks_given_back, nodes_looked, slot_taken, slot_made, slot_back, slot_retired}
use Rattle.runner_block.specs.declared.block.Block.{Block}
use Rattle.runner_block.specs.Kept.{KeptState, with_nodes, with_blocks, run_ended}
use Rattle.runner_block.specs.Links.{block_emptied, blocks_are}

-- the block after a private load in a run, of which a Make has its slot in the hand, or not yet
abbrev pub block_filling : Block → ℕ → Bool → Block
block_filling b slot true = b
block_filling b slot false =
    record {
      lists = with_nodes b.lists (slot_taken b.lists.part.nodes slot);
      place = record (b.place) { making = true; worn = false };
    }

-- the block after a private load outside a run: of a descriptor nothing is kept
abbrev pub block_found : Layout → Block → ℕ → ℕ → ℕ → Bool → Block
block_found l b slot word found true =
    record b { lists = with_nodes b.lists (nodes_looked l b.lists.part.nodes slot word found) }
block_found l b slot word found false = b

-- the block after a private load
abbrev pub block_looked : Layout → Block → ℕ → ℕ → ℕ → Block
block_looked l b slot word found =
    if b.place.inside then block_filling b slot b.place.making
    else block_found l b slot word found (nat_lt slot b.lists.room)

-- after a private store
abbrev pub block_stored : Layout → Block → ℕ → Block
block_stored l b number =
    record b { place = record (b.place) { worn = b.place.worn || version_of number == l.version_max } }

-- after 0 was stored into a word of this own block of a log: in a run it is the one that is to be linked
abbrev pub block_cleared : Block → ℕ → Block
block_cleared b block = if b.place.inside
    then record b { lists = with_blocks b.lists (block_emptied b.lists.blocks block) }
    else b

-- after the load of a cell, whose word made the runner sure of the descriptor that it names, or didn't
abbrev pub block_saw : Block → Bool → ℕ → Block
block_saw b true word = record b {
  lists = with_blocks b.lists
      (blocks_are b.lists.blocks (blocks_given_back (value_of word - 1) b.lists.blocks.lists));
}
block_saw b false word = b

-- after the commit of a Make
abbrev pub block_made : Block → ℕ → Bool → Block
block_made b slot won = record {
  lists = with_nodes b.lists
      (if won then slot_made b.lists.part.nodes slot else slot_back b.lists.part.nodes slot b.place.worn);
  place = record (b.place) { agreed = b.place.agreed + 1; making = false; worn = false };
}

-- after the load of the epoch for a retirement
abbrev pub block_retired : Block → ℕ → Block
block_retired b epoch = record b { place = record (b.place) { epoch = epoch } }

-- the lists after the release of a lock, which was the section's own, released last, or a nested one
abbrev pub lists_released : KeptState → ℕ → Bool → KeptState
lists_released lists descriptor true = run_ended lists descriptor
lists_released lists descriptor false = lists

-- after the release of this lock
abbrev pub block_released : Block → ℕ → Block
block_released b lock =
    record {
      lists = lists_released b.lists b.place.descriptor (lock == b.place.lock);
      place = record (b.place) { inside = false };
    }

-- after the commit of a retirement
abbrev pub block_slot_retired : Block → ℕ → Bool → Block
block_slot_retired b slot won = record {
  lists = with_nodes b.lists (if won then slot_retired b.lists.part.nodes slot b.place.epoch else b.lists.part.nodes);
  place = record (b.place) { agreed = b.place.agreed + 1 };
}
