-- Walks of the list that read what stands.
use Rattle.std.specs.Prelude.{ℕ, ◌%◌, ◌≤◌, ◌≡◌, slice_get, Some}
use Rattle.structure_laws.specs.map_history.specs.declared.op.Op.{Op}
use Rattle.structure_laws.specs.map_history.specs.Replay.{Pairs}
use Rattle.structure_laws.specs.body_terms.specs.Word.{value_of}
use Rattle.structure_laws.specs.table_words.specs.declared.layout.Layout.{Layout}
use Rattle.structure_laws.specs.table_words.specs.Places.{slot_count}
use Rattle.structure_laws.specs.Scene.{Cells, Readings}
use Rattle.structure_laws.specs.Stand.{StandIn}
use Rattle.std.specs.Prelude.{take}
use Rattle.list_laws.specs.Walk.{wanted_at}
use Rattle.list_laws.specs.Nodes.{list, walk_of}

-- these are the readings of one walk
abbrev pub IsOneWalk : Layout → Op → Readings → Type 0
IsOneWalk layout op readings = (i place word : ℕ) → slice_get readings i ≡ Some (place, word)
    → wanted_at (walk_of layout op (take i readings)) (walk_of layout op (take i readings)).stage ≡ Some place

-- in a memory that stands for a map
pub record ListWalksAreShort : Type 0 where
  -- a walk of what stands there loads no more links than there are node slots
  pub short : (layout : Layout) (cells : Cells) (pairs : Pairs) (op : Op) (readings : Readings)
      → list.stands layout cells pairs → StandIn list cells readings
      → (walk_of layout op readings).links ≤ slot_count layout 2
  -- and each mark that it reads is 0
  pub unmarked : (layout : Layout) (cells : Cells) (pairs : Pairs) (op : Op) (readings : Readings)
      → list.stands layout cells pairs → StandIn list cells readings → IsOneWalk layout op readings
      → (i place word : ℕ) → slice_get readings i ≡ Some (place, word) → place % 5 ≡ 4 → value_of word ≡ 0
