-- What a walk of the tree costs, and what the section of a `get` does.
use Rattle.std.specs.Prelude.{◌≡◌, ℕ, ◌+◌, ◌*◌, ◌≤◌, true, length, take, slice_get, Some}
use Rattle.std.specs.List.{list_all}
use Rattle.runner_parts.specs.structure_laws.specs.map_history.specs.declared.op.Op.{Op}
use Rattle.runner_parts.specs.structure_laws.specs.map_history.specs.declared.op.Op.TheVariants.{Get}
use Rattle.runner_parts.specs.structure_laws.specs.body_terms.specs.Shape.{is_look}
use Rattle.runner_parts.specs.structure_laws.specs.body_terms.specs.declared.thunk.Thunk.{Thunk}
use Rattle.runner_parts.specs.block_words.specs.table_words.specs.declared.layout.Layout.{Layout}
use Rattle.runner_parts.specs.block_words.specs.table_words.specs.Places.{slot_count}
use Rattle.runner_parts.specs.structure_laws.specs.Scene.{Readings}
use Rattle.tree_laws.specs.Leaves.{tree}
use Rattle.tree_walks.specs.Leading.{wanted_in}

-- each reading is of the place that the walk wants after those before it
abbrev pub IsTreeWalk : Layout → Op → Readings → Type 0
IsTreeWalk layout op readings = (i place word : ℕ) → slice_get readings i ≡ Some (place, word)
    → wanted_in layout op (take i readings) ≡ Some place

-- they are few
abbrev pub WalksMakeFewLoads : Type 0
WalksMakeFewLoads = (layout : Layout) (op : Op) (readings : Readings) → IsTreeWalk layout op readings
    → length readings ≤ 3 * slot_count layout 3 + 28

-- a thunk that fits a `get` has a body that changes nothing
abbrev pub GetsOnlyLook : Type 0
GetsOnlyLook = (layout : Layout) (key : ℕ) (readings : Readings) (thunk : Thunk)
    → tree.fits layout (Get key) readings thunk ≡ true → list_all is_look (tree.body thunk) ≡ true
