-- A runner's own slots, by their kind.
use Rattle.std.specs.Prelude.{ℕ, List, length}
use Rattle.version_words.specs.RunnerState.{RunnerState}
use Rattle.version_words.specs.runner_block.specs.Marks.{lost_links}
use Rattle.epoch_slots.specs.declared.reserves.Kind.{Kind}
use Rattle.epoch_slots.specs.declared.reserves.Kind.TheVariants as kinds
use Rattle.epoch_slots.specs.declared.reserves.Short.{Short}

module _ {T : Type 0} (r : RunnerState T) where
  -- the own free slots of this kind
  abbrev pub free_of : Kind → List ℕ
  free_of kinds.Node = r.part.nodes.free
  free_of kinds.Descriptor = r.part.descriptors.free
  free_of kinds.Block = r.part.blocks.free

  -- how many of this kind are free, in limbo and worn, and how many lay on the board and were lost to others; descriptors
  -- and blocks don't wear, and none lies there
  abbrev pub counts_of : Kind → Short
  counts_of kinds.Node = record {
    kind = kinds.Node;
    free = length r.part.nodes.free;
    limbo = length r.part.nodes.limbo;
    worn = length r.part.nodes.worn;
    board = lost_links r.part.board;
  }
  counts_of kinds.Descriptor = record {
    kind = kinds.Descriptor;
    free = length r.part.descriptors.free;
    limbo = length r.part.descriptors.limbo;
    worn = 0;
    board = 0;
  }
  counts_of kinds.Block = record {
    kind = kinds.Block;
    free = length r.part.blocks.free;
    limbo = length r.part.blocks.limbo;
    worn = 0;
    board = 0;
  }
