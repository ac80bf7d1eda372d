-- The plain run of the search tree's body for an operation.
use Rattle.std.specs.Prelude.{◌≡◌, ◌≢◌, ℕ, ◌*◌, ◌^◌, ◌<◌, ◌≤◌, [], ◌∷◌, drop, length, slice_index, true, false, Some}
use Rattle.structure_laws.specs.map_history.specs.declared.op.Op.{Op}
use Rattle.structure_laws.specs.map_history.specs.Replay.{Pairs, reply_of, map_after}
use Rattle.structure_laws.specs.map_history.specs.Words.{word_of}
use Rattle.structure_laws.specs.body_terms.specs.Word.{version_of, is_spent}
use Rattle.structure_laws.specs.body_terms.specs.Memory.{PlainMemory}
use Rattle.tree_laws.specs.section_body.specs.Bucket.{operand}
use Rattle.structure_laws.specs.body_terms.specs.Run.{Run}
use Rattle.structure_laws.specs.body_terms.specs.Plain.{plain_run}
use Rattle.structure_laws.specs.body_terms.specs.declared.outcome.Outcome.TheVariants.{Answered}
use Rattle.structure_laws.specs.body_terms.specs.declared.thunk.Thunk.{Thunk}
use Rattle.structure_laws.specs.Scene.{Readings}
use Rattle.structure_laws.specs.Sections.{IsAllowed}
use Rattle.tree_laws.specs.bucket_laws.specs.Walk.{Bounds}
use Rattle.plain_laws.specs.Runs.{cells_of, AreRead}
use Rattle.tree_laws.specs.tree_bodies.specs.Tree.{mark_of, parent_in, tree_steps}
use Rattle.tree_laws.specs.Walk.{start, walk, fits_walk}
use Rattle.tree_laws.specs.Leaves.{TreeStands}

-- a plain memory with so many node slots, whose contents are this map
pub record HasContents (slots : ℕ) (memory : PlainMemory) (pairs : Pairs) : Type 0 where
  pub fixed : memory.fixed_cells ≡ 0
  -- each cell has a place
  pub places : length memory.cells ≤ 2 ^ 32
  -- the slots' cells are there
  pub room : 5 * slots ≤ length memory.cells
  pub stands : TreeStands slots (cells_of memory) pairs

-- a thunk with the operands of the operation's walk over this memory
pub record IsWalked (memory : PlainMemory) (op : Op) (thunk : Thunk) : Type 0 where
  pub bounds : Bounds
  pub readings : Readings
  pub read : AreRead (cells_of memory) readings
  pub fits : fits_walk op (walk bounds op start readings) thunk ≡ true

-- no Fresh leaves: the cells that the body stores to have a version left; and a removal's further lock isn't spent
pub record IsUnspent (memory : PlainMemory) (thunk : Thunk) : Type 0 where
  pub link : thunk.form ≢ 11 → version_of (cells_of memory (operand thunk 0)) ≢ memory.version_max
  pub mark : thunk.form ≡ 13 → version_of (cells_of memory (mark_of (parent_in thunk))) ≢ memory.version_max
  pub lock : thunk.form ≡ 13 → is_spent memory.version_max (operand thunk 3) ≡ false

-- the slot of the first Make, the first free one, is one of the memory's and not reached from the root
pub record IsOut (slots : ℕ) (memory : PlainMemory) (pairs : Pairs) (contents : HasContents slots memory pairs) : Type
    0 where
  pub within : slice_index memory.free 0 < slots
  pub out : contents.stands.covers.linked (slice_index memory.free 0) ≡ false

-- the slots of both Makes of an insertion, the first two free ones, are so, and different
pub record AreOut (slots : ℕ) (memory : PlainMemory) (pairs : Pairs) (contents : HasContents slots memory pairs) : Type
    0 where
  pub leaf_within : slice_index memory.free 0 < slots
  pub leaf_out : contents.stands.covers.linked (slice_index memory.free 0) ≡ false
  pub inner_within : slice_index (drop 1 memory.free) 0 < slots
  pub inner_out : contents.stands.covers.linked (slice_index (drop 1 memory.free) 0) ≡ false
  pub differ : slice_index (drop 1 memory.free) 0 ≢ slice_index memory.free 0

-- a run answers with the map's reply and leaves the map after the operation
pub record DoesTheOperation (slots : ℕ) (pairs : Pairs) (op : Op) (run : Run) : Type 0 where
  pub answer : run.outcome ≡ Some (Answered (word_of (reply_of pairs op)))
  pub contents : TreeStands slots run.cells (map_after pairs op)

-- the plain run of the body for an operation, with each Take got, does the operation
abbrev pub RunsDoTheOperations : Type 0
RunsDoTheOperations = (slots request : ℕ) (memory : PlainMemory) (pairs : Pairs) (op : Op) (thunk : Thunk)
    → (contents : HasContents slots memory pairs) → IsAllowed op → IsWalked memory op thunk → IsUnspent memory thunk
    → (thunk.form ≡ 12 → AreOut slots memory pairs contents) → (thunk.form ≡ 14 → IsOut slots memory pairs contents)
    → DoesTheOperation slots pairs op (plain_run (tree_steps thunk) request memory (true ∷ []))
