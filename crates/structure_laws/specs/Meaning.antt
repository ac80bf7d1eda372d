-- What a structure means.
use Rattle.std.specs.Prelude.{ℕ, List, Bool}
use Rattle.map_history.specs.declared.op.Op.{Op}
use Rattle.map_history.specs.Replay.{Pairs}
use Rattle.body_terms.specs.declared.step.Step.{Step}
use Rattle.body_terms.specs.declared.thunk.Thunk.{Thunk}
use Rattle.body_terms.specs.block_words.specs.table_words.specs.declared.layout.Layout.{Layout}
use Rattle.structure_laws.specs.Scene.{Cells, Readings, Scene}

pub record Meaning : Type 1 where
  -- whether it serves the map's operations
  pub is_map : Bool
  -- how many fixed cells and fixed node slots it has
  pub fixed_cells : ℕ
  pub fixed_slots : ℕ
  -- the first value of a fixed cell, and of a cell of a fixed slot
  pub first_value : ℕ → ℕ
  -- whether this place is a lock
  pub is_lock : ℕ → Bool
  -- the steps of a thunk's body
  pub body : Thunk → List Step
  -- whether the readings give a link to this slot
  pub reaches : Readings → ℕ → Bool
  -- whether the walk in the readings is whole and met no refusal, and the thunk is the one for it
  pub fits : Layout → Op → Readings → Thunk → Bool
  -- whether this place is a link, in these cells
  pub is_link : Cells → ℕ → Bool
  -- the lock that guards this place, in these cells
  pub guard : Cells → ℕ → ℕ
  -- the memory is well formed, and its contents are the map
  pub stands : Layout → Cells → Pairs → Type 0
  -- what a walk for the operation may take from the readings of an entered runner, whatever the cells hold by now
  pub walked : Layout → Op → Readings → Type 0
  -- what the structure keeps in every scene
  pub kept : Layout → Scene → Type 0
