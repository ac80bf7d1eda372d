-- The plain run of the body for an operation on the table that moves keys.
use Rattle.std.specs.Prelude.{◌≡◌, ◌≢◌, ◌⊎◌, ℕ, ◌+◌, ◌^◌, ◌≤◌, [], ◌∷◌, true, false}
use Rattle.structure_laws.specs.map_history.specs.declared.op.Op.{Op}
use Rattle.structure_laws.specs.map_history.specs.Replay.{Pairs}
use Rattle.structure_laws.specs.body_terms.specs.Word.{version_of, is_spent}
use Rattle.structure_laws.specs.body_terms.specs.Memory.{PlainMemory}
use Rattle.structure_laws.specs.body_terms.specs.Plain.{plain_run}
use Rattle.structure_laws.specs.body_terms.specs.declared.thunk.Thunk.{Thunk}
use Rattle.structure_laws.specs.Scene.{Readings}
use Rattle.tree_laws.specs.section_body.specs.Bucket.{operand}
use Rattle.tree_laws.specs.bucket_laws.specs.bucket_bodies.specs.Two.{low_half, higher_lock, target_lock, two_steps}
use Rattle.tree_laws.specs.bucket_laws.specs.TwoWalk.{fits_by}
use Rattle.tree_laws.specs.bucket_laws.specs.Walk.{Bounds}
use Rattle.plain_laws.specs.Runs.{cells_of, HasSmallNumbers, AreRead, bucket, HasContents, IsOut, DoesTheOperation}
use Rattle.plain_laws.specs.Runs as one_key

-- a thunk with the operands of the operation's walk over this memory, which is one over two keys for a `mov`
pub record IsWalked (bits : ℕ) (memory : PlainMemory) (op : Op) (thunk : Thunk) : Type 0 where
  pub bounds : Bounds
  pub readings : Readings
  pub read : AreRead (cells_of memory) readings
  pub fits : fits_by (2 ^ bits) (bucket bits) bounds true op readings thunk ≡ true

-- the cells that form 22 stores to have a version left: both editions, the link to the node, and the head of the other
-- bucket
pub record MoveIsUnspent (memory : PlainMemory) (thunk : Thunk) : Type 0 where
  pub lower : version_of (cells_of memory (thunk.lock + 1)) ≢ memory.version_max
  pub higher : version_of (cells_of memory (higher_lock thunk + 1)) ≢ memory.version_max
  pub link : version_of (cells_of memory (low_half thunk 4)) ≢ memory.version_max
  pub head : version_of (cells_of memory (target_lock thunk + 2)) ≢ memory.version_max

-- so do those of form 23: the edition, and the link to the node
pub record RenameIsUnspent (memory : PlainMemory) (thunk : Thunk) : Type 0 where
  pub edition : version_of (cells_of memory (thunk.lock + 1)) ≢ memory.version_max
  pub link : version_of (cells_of memory (operand thunk 1)) ≢ memory.version_max

-- no Fresh leaves, and the further lock isn't spent
pub record IsUnspent (bits : ℕ) (memory : PlainMemory) (thunk : Thunk) : Type 0 where
  pub one : thunk.form ≤ 4 → one_key.IsUnspent bits memory thunk
  pub move : thunk.form ≡ 22 → MoveIsUnspent memory thunk
  pub rename : thunk.form ≡ 23 → RenameIsUnspent memory thunk
  pub lock : (thunk.form ≡ 21) ⊎ (thunk.form ≡ 22) → is_spent memory.version_max (operand thunk 1) ≡ false

-- the body makes a node
abbrev pub Makes : Thunk → Type 0
Makes thunk = (thunk.form ≡ 2) ⊎ (thunk.form ≡ 22) ⊎ (thunk.form ≡ 23)

-- the plain run of the body for an operation, with each Take got, does the operation
abbrev pub RunsDoTheOperations : Type 0
RunsDoTheOperations = (bits slots request : ℕ) (memory : PlainMemory) (pairs : Pairs) (op : Op) (thunk : Thunk)
    → (contents : HasContents bits slots memory pairs) → HasSmallNumbers op → IsWalked bits memory op thunk
    → IsUnspent bits memory thunk → (Makes thunk → IsOut bits slots memory pairs contents)
    → DoesTheOperation bits slots pairs op (plain_run (two_steps thunk) request memory (true ∷ []))
