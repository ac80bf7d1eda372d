-- The plain run of the sorted list's body for an operation.
use Rattle.std.specs.Prelude.{◌≡◌, ◌≢◌, ◌⊎◌, ℕ, ◌+◌, ◌*◌, ◌^◌, ◌<◌, ◌≤◌, [], ◌∷◌, length, slice_index, true, false, Some}
use Rattle.structure_laws.specs.map_history.specs.declared.op.Op.{Op}
use Rattle.structure_laws.specs.map_history.specs.Replay.{Pairs, reply_of, map_after}
use Rattle.structure_laws.specs.map_history.specs.Words.{word_of}
use Rattle.structure_laws.specs.body_terms.specs.Word.{version_of, is_spent}
use Rattle.structure_laws.specs.body_terms.specs.Memory.{PlainMemory}
use Rattle.structure_laws.specs.body_terms.specs.Run.{Run}
use Rattle.structure_laws.specs.body_terms.specs.Plain.{plain_run}
use Rattle.structure_laws.specs.body_terms.specs.declared.outcome.Outcome.TheVariants.{Answered}
use Rattle.structure_laws.specs.body_terms.specs.declared.thunk.Thunk.{Thunk}
use Rattle.structure_laws.specs.Scene.{Readings}
use Rattle.structure_laws.specs.Sections.{IsAllowed}
use Rattle.tree_laws.specs.section_body.specs.Bucket.{operand}
use Rattle.tree_laws.specs.bucket_laws.specs.Walk.{Bounds}
use Rattle.list_laws.specs.list_bodies.specs.List.{next_of, mark_of, node_in, list_steps}
use Rattle.list_laws.specs.Walk.{start, walk, fits_walk}
use Rattle.list_laws.specs.Nodes.{ListStands}
use Rattle.plain_laws.specs.Runs.{cells_of, AreRead}

-- a plain memory with so many node slots, of which the first two are the head and the tail, whose contents are this map
pub record HasContents (slots : ℕ) (memory : PlainMemory) (pairs : Pairs) : Type 0 where
  pub fixed : memory.fixed_cells ≡ 0
  -- each cell has a place
  pub places : length memory.cells ≤ 2 ^ 32
  -- the slots' cells are there
  pub room : 5 * slots ≤ length memory.cells
  pub stands : ListStands slots (cells_of memory) pairs

-- a thunk with the operands of the operation's walk over this memory
pub record IsWalked (memory : PlainMemory) (op : Op) (thunk : Thunk) : Type 0 where
  pub bounds : Bounds
  pub readings : Readings
  pub read : AreRead (cells_of memory) readings
  pub fits : fits_walk op (walk bounds op start readings) thunk ≡ true

-- the body takes out the node behind the predecessor, for good or for a new one in its place
abbrev pub TakesOut : Thunk → Type 0
TakesOut thunk = (thunk.form ≡ 33) ⊎ (thunk.form ≡ 34)

-- the body makes a node
abbrev pub Makes : Thunk → Type 0
Makes thunk = (thunk.form ≡ 32) ⊎ (thunk.form ≡ 34)

-- no Fresh leaves: the cells that the body stores to, of the predecessor and of the node that is taken out, have a
-- version left; and that node's lock isn't spent
pub record IsUnspent (memory : PlainMemory) (thunk : Thunk) : Type 0 where
  pub link : thunk.form ≢ 31 → version_of (cells_of memory (thunk.lock + 2)) ≢ memory.version_max
  pub mark : TakesOut thunk → version_of (cells_of memory (mark_of (node_in thunk))) ≢ memory.version_max
  pub next : thunk.form ≡ 34 → version_of (cells_of memory (next_of (node_in thunk))) ≢ memory.version_max
  pub lock : TakesOut thunk → is_spent memory.version_max (operand thunk 3) ≡ false

-- the slot of the Make, the first free one, is one of the memory's and not reached from the head
pub record IsOut (slots : ℕ) (memory : PlainMemory) (pairs : Pairs) (contents : HasContents slots memory pairs) : Type
    0 where
  pub within : slice_index memory.free 0 < slots
  pub out : contents.stands.linked (slice_index memory.free 0) ≡ false

-- a run answers with the map's reply and leaves the map after the operation
pub record DoesTheOperation (slots : ℕ) (pairs : Pairs) (op : Op) (run : Run) : Type 0 where
  pub answer : run.outcome ≡ Some (Answered (word_of (reply_of pairs op)))
  pub contents : ListStands slots run.cells (map_after pairs op)

-- the plain run of the body for an operation, with each Take got, does the operation
abbrev pub RunsDoTheOperations : Type 0
RunsDoTheOperations = (slots request : ℕ) (memory : PlainMemory) (pairs : Pairs) (op : Op) (thunk : Thunk)
    → (contents : HasContents slots memory pairs) → IsAllowed op → IsWalked memory op thunk → IsUnspent memory thunk
    → (Makes thunk → IsOut slots memory pairs contents)
    → DoesTheOperation slots pairs op (plain_run (list_steps thunk) request memory (true ∷ []))
