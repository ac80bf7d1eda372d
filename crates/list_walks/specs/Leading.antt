-- What the walk of the list gives to a plan that it leads.
use Rattle.std.specs.Prelude.{◌≡◌, ◌≢◌, ◌⊎◌, ℕ, ◌+◌, ◌*◌, ◌<◌, ◌≤◌, true, false, not}
use Rattle.std.specs.Prelude.{[], ◌∷◌, ◌++◌, length, Option, Some, None}
use Rattle.runner_parts.specs.structure_laws.specs.map_history.specs.declared.op.Op.{Op}
use Rattle.runner_parts.specs.structure_laws.specs.body_terms.specs.Word.{value_of, is_free, is_spent}
use Rattle.runner_parts.specs.structure_laws.specs.body_terms.specs.declared.thunk.Thunk.{Thunk}
use Rattle.runner_parts.specs.block_words.specs.table_words.specs.declared.layout.Layout.{Layout}
use Rattle.runner_parts.specs.block_words.specs.table_words.specs.Places.{slot_count}
use Rattle.runner_parts.specs.structure_laws.specs.Scene.{Readings}
use Rattle.runner_parts.specs.Tests.{has_pair, is_readable}
pub use Rattle.list_laws.specs.list_bodies.specs.List.{is_mark_place}
use Rattle.list_laws.specs.Walk.{Walk, wanted_at, fed, is_ready}
use Rattle.list_laws.specs.Nodes.{list, bounds, walk_of, is_lock_place, ListWalked}
use Rattle.list_walks.specs.Walking.{Walking, begun, wanted_by, fed_by, left_by, is_refused_in, thunk_by}

-- the walk of an operation in these readings, and what it wants next
abbrev pub wanted_in : Layout → Op → Readings → Option ℕ
wanted_in layout op readings = wanted_at (walk_of layout op readings) (walk_of layout op readings).stage

-- after one more reading
abbrev pub fed_in : Layout → Op → Readings → ℕ → Walk
fed_in layout op readings word =
    fed (bounds layout) op (walk_of layout op readings) (walk_of layout op readings).stage word

-- the walk that a plan begins with
abbrev pub first_walk : Layout → Op → Walking
first_walk layout op = begun op (slot_count layout 2 + 8) layout.version_max

-- this is the thunk of a walk that is whole: it fits, and its lock was read, free and not spent
pub record IsThunkOf (layout : Layout) (op : Op) (readings : Readings) (thunk : Thunk) : Type 0 where
  pub fits : list.fits layout op readings thunk ≡ true
  pub operands : length thunk.operands ≡ 8
  pub free : is_free thunk.word ≡ true
  pub unspent : is_spent layout.version_max thunk.word ≡ false
  pub read : has_pair readings thunk.lock thunk.word ≡ true

-- how the walk of an operation goes, load by load, whatever it reads
pub record WalkLeads (layout : Layout) (op : Op) : Type 0 where
  -- each load brings it nearer to its end, and it makes few
  pub shorter : (w : Walking) (place word : ℕ) → wanted_by w ≡ Some place → left_by (fed_by w word) < left_by w
  pub few : left_by (first_walk layout op) ≤ 2 * slot_count layout 2 + 21
  -- it wants cells that a runner may load, as long as links lead to node slots
  pub readable : (readings : Readings) (place : ℕ) → wanted_in layout op readings ≡ Some place
      → (readings ≡ []) ⊎ ListWalked layout readings
      → (is_readable list readings place ≡ true) × (place < 5 * slot_count layout 2)
  -- a walk that wants something wasn't refused
  pub goes_on : (readings : Readings) (place : ℕ) → wanted_in layout op readings ≡ Some place
      → is_refused_in (walk_of layout op readings) ≡ false
  -- by a lock it is refused where that isn't free, or spent; by a mark of 1 always
  pub by_lock : (readings : Readings) (place word : ℕ) → wanted_in layout op readings ≡ Some place
      → is_lock_place place ≡ true
      → is_refused_in (fed_in layout op readings word) ≡ not (is_ready (bounds layout) word)
  pub by_mark : (readings : Readings) (place word : ℕ) → wanted_in layout op readings ≡ Some place
      → is_mark_place place ≡ true → value_of word ≡ 1
      → is_refused_in (fed_in layout op readings word) ≡ true
  -- a walk that wants nothing more and wasn't refused is whole
  pub whole : (number : ℕ) (readings : Readings) → wanted_in layout op readings ≡ None
      → is_refused_in (walk_of layout op readings) ≡ false
      → IsThunkOf layout op readings
      (thunk_by (record (first_walk layout op) { walk = walk_of layout op readings }) number)

-- any other refusal is of a walk that has loaded as many links as there are node slots, and eight more
abbrev pub FarLaw : Layout → Op → Type 0
FarLaw layout op = (readings : Readings) (place word : ℕ) → wanted_in layout op readings ≡ Some place
    → ListWalked layout (readings ++ (place, word) ∷ []) → is_lock_place place ≡ false
    → (is_mark_place place ≡ true → value_of word ≢ 1)
    → is_refused_in (fed_in layout op readings word) ≡ true
    → slot_count layout 2 + 8 ≤ (fed_in layout op readings word).links
