-- The plain run of the hash table's body for an operation.
use Rattle.std.specs.Prelude.{◌≡◌, ◌≢◌, ℕ, suc, ◌+◌, ◌*◌, ◌^◌, ◌<◌, ◌≤◌, [], length, slice_get, slice_index, true, false, Some}
use Rattle.structure_laws.specs.map_history.specs.declared.op.Op.{Op}
use Rattle.structure_laws.specs.map_history.specs.Keys.{DependsOn, GivesSmall}
use Rattle.structure_laws.specs.map_history.specs.Replay.{Pairs, reply_of, map_after}
use Rattle.structure_laws.specs.map_history.specs.Words.{word_of}
use Rattle.structure_laws.specs.body_terms.specs.Word.{version_of}
use Rattle.structure_laws.specs.body_terms.specs.Memory.{PlainMemory}
use Rattle.tree_laws.specs.section_body.specs.Bucket.{bucket_index, operand}
use Rattle.structure_laws.specs.body_terms.specs.Run.{Run}
use Rattle.structure_laws.specs.body_terms.specs.Plain.{plain_run}
use Rattle.structure_laws.specs.body_terms.specs.declared.outcome.Outcome.TheVariants.{Answered}
use Rattle.structure_laws.specs.body_terms.specs.declared.thunk.Thunk.{Thunk}
use Rattle.structure_laws.specs.Scene.{Readings}
use Rattle.tree_laws.specs.bucket_laws.specs.bucket_bodies.specs.Table.{table_steps}
use Rattle.tree_laws.specs.bucket_laws.specs.Walk.{Bounds, start, walk, fits_walk}
use Rattle.tree_laws.specs.bucket_laws.specs.Buckets.{BucketsStand}

-- the cells of a memory, by place
abbrev pub cells_of : PlainMemory → ℕ → ℕ
cells_of memory = slice_index memory.cells

-- keys and values have 32 bits
pub record HasSmallNumbers (op : Op) : Type 0 where
  pub keys : (key : ℕ) → DependsOn op key → key < 2 ^ 32
  pub value : GivesSmall op

-- each word that was read stands at its place
abbrev pub AreRead : (ℕ → ℕ) → Readings → Type 0
AreRead cells readings = (i place word : ℕ) → slice_get readings i ≡ Some (place, word) → cells place ≡ word

module _ (bits : ℕ) where
  -- the bucket of a key
  abbrev pub bucket : ℕ → ℕ
  bucket key = bucket_index key bits

  -- a plain memory with so many node slots, whose contents, in 2 ^ bits buckets, are this map
  pub record HasContents (slots : ℕ) (memory : PlainMemory) (pairs : Pairs) : Type 0 where
    pub few : bits ≤ 12
    pub fixed : memory.fixed_cells ≡ 3 * 2 ^ bits
    -- each cell has a place
    pub places : length memory.cells ≤ 2 ^ 32
    -- the slots' cells are there
    pub room : 3 * 2 ^ bits + 5 * slots ≤ length memory.cells
    pub stands : BucketsStand (2 ^ bits) bucket slots (cells_of memory) pairs

  -- a thunk with the operands of the operation's walk over this memory
  pub record IsWalked (memory : PlainMemory) (op : Op) (thunk : Thunk) : Type 0 where
    pub bounds : Bounds
    pub readings : Readings
    pub read : AreRead (cells_of memory) readings
    pub fits : fits_walk (2 ^ bits) bucket op (walk (2 ^ bits) bucket bounds op start readings) thunk ≡ true

  -- no Fresh leaves: the cells that the body stores to have a version left; form 1 stores to none
  pub record IsUnspent (memory : PlainMemory) (thunk : Thunk) : Type 0 where
    pub edition : thunk.form ≢ 1 → version_of (cells_of memory (thunk.lock + 1)) ≢ memory.version_max
    pub head : thunk.form ≡ 2 → version_of (cells_of memory (thunk.lock + 2)) ≢ memory.version_max
    pub link : thunk.form ≡ 3 → version_of (cells_of memory (operand thunk 1)) ≢ memory.version_max
    pub value : thunk.form ≡ 4 → version_of (cells_of memory (operand thunk 1)) ≢ memory.version_max

  -- the slot of the Make, the first free one, is one of the memory's, stands in no chain and has a link
  pub record IsOut (slots : ℕ) (memory : PlainMemory) (pairs : Pairs) (contents : HasContents slots memory pairs) : Type
      0 where
    pub within : slice_index memory.free 0 < slots
    pub out : contents.stands.on (slice_index memory.free 0) ≡ false
    pub linked : suc (slice_index memory.free 0) < 2 ^ 32

  -- a run answers with the map's reply and leaves the map after the operation
  pub record DoesTheOperation (slots : ℕ) (pairs : Pairs) (op : Op) (run : Run) : Type 0 where
    pub answer : run.outcome ≡ Some (Answered (word_of (reply_of pairs op)))
    pub contents : BucketsStand (2 ^ bits) bucket slots run.cells (map_after pairs op)

-- the plain run of the body for an operation does the operation
abbrev pub RunsDoTheOperations : Type 0
RunsDoTheOperations = (bits slots request : ℕ) (memory : PlainMemory) (pairs : Pairs) (op : Op) (thunk : Thunk)
    → (contents : HasContents bits slots memory pairs) → HasSmallNumbers op → IsWalked bits memory op thunk
    → IsUnspent bits memory thunk
    → (thunk.form ≡ 2 → IsOut bits slots memory pairs contents)
    → DoesTheOperation bits slots pairs op (plain_run (table_steps thunk) request memory [])
