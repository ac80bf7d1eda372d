-- The search tree: its meaning, and what it keeps in every scene.
use Rattle.std.specs.Prelude.{ℕ, suc, ◌+◌, ◌-◌, ◌%◌, ◌<◌, ◌≤◌, ◌≡◌, ◌≢◌, ◌⊎◌, Bool, true, false, cond, not, ◌&&◌, ◌||◌, ◌==◌, nat_lt, Some, slice_get}
use Rattle.std.specs.List.{list_any}
use Rattle.std.specs.FinMap.{get}
use Rattle.structure_laws.specs.map_history.specs.declared.op.Op.{Op}
use Rattle.structure_laws.specs.map_history.specs.Keys.{key_of}
use Rattle.structure_laws.specs.map_history.specs.Replay.{Pairs}
use Rattle.structure_laws.specs.body_terms.specs.Word.{value_of}
use Rattle.bucket_laws.specs.bucket_bodies.specs.section_body.specs.Bucket.{operand}
use Rattle.structure_laws.specs.table_words.specs.declared.layout.Layout.{Layout}
use Rattle.structure_laws.specs.table_words.specs.Places.{slot_count}
use Rattle.structure_laws.specs.Scene.{Cells, Readings, Section, Free, Live, Retired, Scene}
use Rattle.structure_laws.specs.Meaning.{Meaning}
use Rattle.structure_laws.specs.Cells.{IsSafe}
use Rattle.bucket_laws.specs.Walk.{Bounds}
pub use Rattle.tree_bodies.specs.Tree.{is_lock_place}
use Rattle.tree_bodies.specs.Tree.{key_cell, left_of, right_of, mark_of, child_of, slot_in, lock_of, Insert, Delete}
use Rattle.tree_bodies.specs.Tree.{Replace, form_of, parent_in, leaf_in, sibling_of, old_leaf, tree_steps}
use Rattle.tree_laws.specs.Search.{Nodes, Covers, IsInner, IsLeaf, SearchTree, HasSentinels, Contents}
use Rattle.tree_laws.specs.Walk.{Stage, AtRoot, AtLeft, AtKey, AtRight, AtValue, AtGrandLock, AtGrandMark, AtLock, AtMark, AtEnd, Refused, Step, step_to, Walk, start, node_of, walk, fits_walk}

-- a node's first cells: the root over the two sentinels
abbrev pub first_value : ℕ → ℕ
first_value place =
    cond (place == 1) 4294967295 (cond (place == 2) 2 (cond (place == 3) 3
    (cond (place == 6) 4294967294 (cond (place == 11) 4294967295 0))))

-- a node's left link, and the cell behind that: the right link of an inner node, the value of a leaf
abbrev pub is_left_place : ℕ → Bool
is_left_place place = place % 5 == 2

abbrev pub is_right_place : ℕ → Bool
is_right_place place = place % 5 == 3

-- the cell is a link: a left one, or a right one of an inner node
abbrev pub is_link_in : Cells → ℕ → Bool
is_link_in cells place = is_left_place place || (is_right_place place && nat_lt 0 (value_of (cells (place - 1))))

-- the readings show that this place is the left link of an inner node
abbrev pub shows_inner : Readings → ℕ → Bool
shows_inner readings place = list_any (λ reading. reading.0 == place && nat_lt 0 (value_of reading.1)) readings

-- the readings show that this place is a link
abbrev pub shows_link : Readings → ℕ → Bool
shows_link readings place = is_left_place place || (is_right_place place && shows_inner readings (place - 1))

-- the values of the nodes
abbrev pub nodes : Cells → Nodes
nodes cells = record {
  key = λ t. value_of (cells (key_cell t));
  child = λ b t. value_of (cells (child_of b t));
  mark = λ t. value_of (cells (mark_of t));
}

abbrev pub bounds : Layout → Bounds
bounds layout = record { links = slot_count layout 3 + 8; version_max = layout.version_max }

abbrev pub walk_of : Layout → Op → Readings → Walk
walk_of layout op readings = walk (bounds layout) op start readings

-- the memory is a search tree over the sentinels, no linked inner node is marked, the linked slots are
-- among the memory's, of which there are so many, and the pairs are the map's
pub record TreeStands (slots : ℕ) (cells : Cells) (pairs : Pairs) : Type 0 where
  pub covers : Covers
  pub within : (t : ℕ) → covers.linked t ≡ true → t < slots
  pub tree : SearchTree (nodes cells) covers
  pub sentinels : HasSentinels (nodes cells) covers
  pub unmarked : (t : ℕ) → covers.linked t ≡ true → IsInner (nodes cells) t → (nodes cells).mark t ≡ 0
  pub contents : Contents (nodes cells) covers (get pairs)

-- what a walk may take from the readings of an entered runner alone
pub record TreeWalked (layout : Layout) (readings : Readings) : Type 0 where
  -- every link that was read leads to a node slot, and those of the root and of inner nodes to one
  pub within : (i p w t : ℕ) → slice_get readings i ≡ Some (p, w) → shows_link readings p ≡ true
      → value_of w ≡ suc t → t < slot_count layout 3
  pub root_left : (i w : ℕ) → slice_get readings i ≡ Some (left_of 0, w) → 0 < value_of w
  pub right_some : (i t w : ℕ) → slice_get readings i ≡ Some (right_of t, w)
      → shows_inner readings (left_of t) ≡ true → 0 < value_of w
  -- the root's left link leads to the first sentinel, or to an inner node
  pub under_root : (i j v w : ℕ) → slice_get readings i ≡ Some (left_of 0, v)
      → slice_get readings j ≡ Some (left_of (slot_in v), w)
      → (slot_in v ≡ 1) ⊎ (0 < value_of w)
  pub first_key : (i w : ℕ) → slice_get readings i ≡ Some (key_cell 1, w) → value_of w ≡ 4294967294
  -- an inner node's mark is 0 or 1
  pub marks : (i t w : ℕ) → slice_get readings i ≡ Some (mark_of t, w)
      → shows_inner readings (left_of t) ≡ true → value_of w ≤ 1

-- what was read of a node stands there: whether it is a leaf, its key, and of a leaf its value
pub record IsAsRead (n : Nodes) (readings : Readings) : Type 0 where
  pub inner : (i t w : ℕ) → slice_get readings i ≡ Some (left_of t, w) → 0 < value_of w → IsInner n t
  pub leaf : (i t w : ℕ) → slice_get readings i ≡ Some (left_of t, w) → value_of w ≡ 0 → IsLeaf n t
  pub key : (i t w : ℕ) → slice_get readings i ≡ Some (key_cell t, w) → value_of w ≡ n.key t
  pub value : (i t w : ℕ) → slice_get readings i ≡ Some (right_of t, w) → IsLeaf n t → value_of w ≡ n.child false t
  pub right : (i t w : ℕ) → slice_get readings i ≡ Some (right_of t, w) → IsInner n t → 0 < value_of w
  pub under_root : (i v : ℕ) → slice_get readings i ≡ Some (left_of 0, v)
      → (value_of v ≡ 2) ⊎ ((t : ℕ) × (value_of v ≡ suc t) × IsInner n t)
  pub marks : (i t w : ℕ) → slice_get readings i ≡ Some (mark_of t, w) → IsInner n t → value_of w ≤ 1

module _ (n : Nodes) (c : Covers) (once : ℕ → Bool) (key : ℕ) where
  -- a node on the walk of the key: it was linked once, and if it is an inner node, its place covers the key
  pub record IsPassed (s : ℕ) : Type 0 where
    pub once_linked : once s ≡ true
    pub covers : IsInner n s → (c.lo s ≤ key) × (key < c.hi s)

  -- a link on the walk: it led from an inner node on the walk to a node on the walk; keys of inner nodes
  -- fall to the left and rise to the right
  pub record IsFollowed (step : Step) : Type 0 where
    pub from : IsPassed step.from
    pub inner : IsInner n step.from
    pub some : 0 < value_of step.word
    -- it is the link on the key's side
    pub is_left : step.side ≡ true → key < n.key step.from
    pub is_right : step.side ≡ false → n.key step.from ≤ key
    pub to : IsPassed (step_to step)
    pub left : step.side ≡ true → IsInner n (step_to step) → n.key (step_to step) < n.key step.from
    pub right : step.side ≡ false → IsInner n (step_to step) → n.key step.from < n.key (step_to step)

  -- a left link that was read before the key of its node s: it leads to a node that was linked once, and
  -- which, if it is an inner node, covers all keys from the walk's to that of s
  pub record IsLeft (s word : ℕ) : Type 0 where
    pub inner : IsInner n s
    pub once_linked : (t : ℕ) → value_of word ≡ suc t → once t ≡ true
    pub lo : (t : ℕ) → value_of word ≡ suc t → IsInner n t → c.lo t ≤ key
    pub hi : (t : ℕ) → value_of word ≡ suc t → IsInner n t → n.key s ≤ c.hi t
    pub order : (t : ℕ) → value_of word ≡ suc t → IsInner n t → n.key t < n.key s

  -- what the walk knows at each stage beside its links
  abbrev pub Knows : Walk → Stage → Type 0
  Knows w AtRoot = Unit {0}
  Knows w AtLeft = Unit {0}
  Knows w AtKey = 0 < value_of w.left → IsLeft (node_of w) w.left
  Knows w AtRight = IsInner n (node_of w) × (n.key (node_of w) ≤ key)
  Knows w AtValue = IsLeaf n (node_of w) × (n.key (node_of w) ≡ w.key)
  Knows w AtGrandLock = IsLeaf n (node_of w) × (n.key (node_of w) ≡ w.key)
  Knows w AtGrandMark = IsLeaf n (node_of w) × (n.key (node_of w) ≡ w.key)
  Knows w AtLock = IsLeaf n (node_of w) × (n.key (node_of w) ≡ w.key)
  Knows w AtMark = IsLeaf n (node_of w) × (n.key (node_of w) ≡ w.key)
  Knows w AtEnd = IsLeaf n (node_of w) × (n.key (node_of w) ≡ w.key)
  Knows w Refused = Unit {0}

  -- a walk that met no refusal: both its last links are links on the walk, one behind the other
  pub record IsWalk (w : Walk) : Type 0 where
    pub grand : w.stage ≢ Refused → w.deep ≡ true → IsFollowed w.grand
    pub joined : w.stage ≢ Refused → w.deep ≡ true → w.last.from ≡ step_to w.grand
    pub last : w.stage ≢ Refused → w.stage ≢ AtRoot → IsFollowed w.last
    pub knows : Knows w w.stage

-- a new leaf of a section: live, never linked, with what its Init gave
pub record IsNewLeaf (s : Scene) (once : ℕ → Bool) (x : Section) : Type 0 where
  pub slot : ℕ
  pub link : x.reg 2 ≡ suc slot
  pub live : s.status slot ≡ Live
  pub new : once slot ≡ false
  pub key : (nodes s.cells).key slot ≡ operand x.thunk 3
  pub leaf : IsLeaf (nodes s.cells) slot
  pub value : (nodes s.cells).child false slot ≡ operand x.thunk 4

-- and its new inner node, over the new leaf and the old one, with the greater of both keys
pub record IsNewInner (s : Scene) (once : ℕ → Bool) (x : Section) : Type 0 where
  pub slot : ℕ
  pub link : x.reg 3 ≡ suc slot
  pub live : s.status slot ≡ Live
  pub new : once slot ≡ false
  pub other : x.reg 3 ≢ x.reg 2
  pub key : (nodes s.cells).key slot ≡ cond (nat_lt (operand x.thunk 3) (operand x.thunk 5)) (operand x.thunk 5)
      (operand x.thunk 3)
  pub new_side : (nodes s.cells).child (nat_lt (operand x.thunk 3) (operand x.thunk 5)) slot ≡ x.reg 2
  pub old_side : (nodes s.cells).child (not (nat_lt (operand x.thunk 3) (operand x.thunk 5))) slot
      ≡ value_of (operand x.thunk 1)
  pub unmarked : (nodes s.cells).mark slot ≡ 0

-- what a section has taken out of the tree: a marked parent and its leaf, no longer linked and not fixed.
-- The leaf is live until its own Retire, the parent until its Retire before that. The sibling is linked
pub record IsTaken (s : Scene) (c : Covers) (once : ℕ → Bool) (x : Section) : Type 0 where
  pub parent_once : once (parent_in x.thunk) ≡ true
  pub parent_out : c.linked (parent_in x.thunk) ≡ false
  pub parent_unfixed : 3 ≤ parent_in x.thunk
  pub parent_inner : IsInner (nodes s.cells) (parent_in x.thunk)
  pub parent_live : x.at ≡ 15 → s.status (parent_in x.thunk) ≡ Live
  pub leaf_once : once (leaf_in x.thunk) ≡ true
  pub leaf_out : c.linked (leaf_in x.thunk) ≡ false
  pub leaf_unfixed : 3 ≤ leaf_in x.thunk
  pub leaf_up : c.up (leaf_in x.thunk) ≡ parent_in x.thunk
  pub leaf_live : s.status (leaf_in x.thunk) ≡ Live
  pub sibling : (t : ℕ) → value_of (s.cells (sibling_of x.thunk)) ≡ suc t → c.linked t ≡ true

-- the leaf in whose place a section has put its new one: no longer linked, and live until its Retire. Its parent's
-- lock is the section's
pub record IsReplaced (s : Scene) (c : Covers) (once : ℕ → Bool) (x : Section) : Type 0 where
  pub leaf_once : once (old_leaf x.thunk) ≡ true
  pub leaf_out : c.linked (old_leaf x.thunk) ≡ false
  pub leaf_up : x.thunk.lock ≡ lock_of (c.up (old_leaf x.thunk))
  pub leaf_live : s.status (old_leaf x.thunk) ≡ Live

-- how far a section has come: it has made its leaf, its inner node, and not stored; or has stored and not retired
abbrev pub HasLeaf : Section → Type 0
HasLeaf x = ((form_of x.thunk ≡ Insert) × (6 ≤ x.at) × (x.at ≤ 8))
    ⊎ ((form_of x.thunk ≡ Replace) × (6 ≤ x.at) × (x.at ≤ 7))

abbrev pub HasInner : Section → Type 0
HasInner x = (form_of x.thunk ≡ Insert) × (7 ≤ x.at) × (x.at ≤ 8)

abbrev pub HasTaken : Section → Type 0
HasTaken x = (form_of x.thunk ≡ Delete) × (15 ≤ x.at) × (x.at ≤ 16)

abbrev pub HasOld : Section → Type 0
HasOld x = (form_of x.thunk ≡ Replace) × (x.at ≡ 8)

-- a live slot that isn't linked: new and not yet linked, or taken out and not yet retired
pub data IsBetween (x : Section) (t : ℕ) : Type 0 where
  NewLeaf : HasLeaf x → x.reg 2 ≡ suc t → IsBetween x t
  NewInner : HasInner x → x.reg 3 ≡ suc t → IsBetween x t
  OldParent : HasTaken x → x.at ≡ 15 → parent_in x.thunk ≡ t → IsBetween x t
  OldLeaf : HasTaken x → leaf_in x.thunk ≡ t → IsBetween x t
  ReplacedLeaf : HasOld x → old_leaf x.thunk ≡ t → IsBetween x t

-- what holds of a link to the side b of a node that was linked once and is safe: it leads to a node that
-- was linked once; an inner one covers what the link's side of the node covers, and its key lies on this
-- side
pub record IsTrail (n : Nodes) (c : Covers) (once : ℕ → Bool) (s t : ℕ) (b : Bool) : Type 0 where
  pub once_linked : once t ≡ true
  pub left : b ≡ true → IsInner n t → (c.lo t ≤ c.lo s) × (n.key s ≤ c.hi t) × (n.key t < n.key s)
  pub right : b ≡ false → IsInner n t → (c.lo t ≤ n.key s) × (c.hi s ≤ c.hi t) × (n.key s < n.key t)

pub record TreeKept (layout : Layout) (s : Scene) : Type 0 where
  -- the tree; marks play no part in it
  pub covers : Covers
  pub once : ℕ → Bool
  pub tree : SearchTree (nodes s.cells) covers
  pub sentinels : HasSentinels (nodes s.cells) covers
  -- a linked node is live and was linked once; what was linked once isn't free, and a retired node was linked once
  pub linked_live : (t : ℕ) → covers.linked t ≡ true → s.status t ≡ Live
  pub linked_once : (t : ℕ) → covers.linked t ≡ true → once t ≡ true
  pub retired_once : (t y : ℕ) → s.status t ≡ Retired y → once t ≡ true
  pub once_used : (t : ℕ) → once t ≡ true → s.status t ≢ Free
  -- an inner node's right link leads to a node, and its mark is 0 or 1
  pub right_some : (t : ℕ) → s.status t ≢ Free → IsInner (nodes s.cells) t → 0 < (nodes s.cells).child false t
  pub mark_small : (t : ℕ) → s.status t ≢ Free → IsInner (nodes s.cells) t → (nodes s.cells).mark t ≤ 1
  -- an inner node that was linked once, is safe and isn't marked is linked
  pub unmarked : (t : ℕ) → once t ≡ true → IsSafe s t → IsInner (nodes s.cells) t → (nodes s.cells).mark t ≡ 0
      → covers.linked t ≡ true
  -- where the links of such a node lead, marked or not
  pub trail : (t u : ℕ) (b : Bool) → once t ≡ true → IsSafe s t → IsInner (nodes s.cells) t
      → (nodes s.cells).child b t ≡ suc u
      → IsTrail (nodes s.cells) covers once t u b
  -- a marked linked node is one that a section takes out: it has marked it, and not yet stored the link
  pub marked : (t : ℕ) → covers.linked t ≡ true → IsInner (nodes s.cells) t → (nodes s.cells).mark t ≢ 0
      → (d : ℕ) × (x : Section) × (s.section d ≡ Some x) × (form_of x.thunk ≡ Delete) × (x.at ≡ 14)
      × (parent_in x.thunk ≡ t)
  -- a live slot is linked, or between
  pub live : (t : ℕ) → s.status t ≡ Live
      → (covers.linked t ≡ true) ⊎ ((d : ℕ) × (x : Section) × (s.section d ≡ Some x) × IsBetween x t)
  pub limbo : (t y u : ℕ) (b : Bool) → s.status t ≡ Retired y → s.epoch ≤ y + 1 → IsInner (nodes s.cells) t
      → (nodes s.cells).child b t ≡ suc u
      → (s.status u ≡ Live) ⊎ ((z : ℕ) × (s.status u ≡ Retired z) × (y ≤ z))
  -- the sections' new nodes, and what they have taken out
  pub new_leaf : (d : ℕ) (x : Section) → s.section d ≡ Some x → HasLeaf x → IsNewLeaf s once x
  pub new_inner : (d : ℕ) (x : Section) → s.section d ≡ Some x → HasInner x → IsNewInner s once x
  pub taken : (d : ℕ) (x : Section) → s.section d ≡ Some x → HasTaken x → IsTaken s covers once x
  pub replaced : (d : ℕ) (x : Section) → s.section d ≡ Some x → HasOld x → IsReplaced s covers once x
  -- what the readings of entered runners and of open sections say of the present cells, and their walks
  pub readers : (r : ℕ) (readings : Readings) → s.reader r ≡ Some readings → IsAsRead (nodes s.cells) readings
  pub published : (d : ℕ) (x : Section) → s.section d ≡ Some x → IsAsRead (nodes s.cells) x.readings
  pub walks : (r : ℕ) (readings : Readings) (op : Op) → s.reader r ≡ Some readings → key_of op < 4294967294
      → IsWalk (nodes s.cells) covers once (key_of op) (walk_of layout op readings)
  pub sections : (d : ℕ) (x : Section) → s.section d ≡ Some x
      → IsWalk (nodes s.cells) covers once (key_of x.op) (walk_of layout x.op x.readings)

abbrev pub tree : Meaning
tree = record {
  is_map = true;
  fixed_cells = 0;
  fixed_slots = 3;
  first_value = first_value;
  is_lock = is_lock_place;
  body = tree_steps;
  reaches = λ readings slot. list_any (λ reading. shows_link readings reading.0
      && (value_of reading.1 == suc slot)) readings;
  fits = λ layout op readings thunk. fits_walk op (walk_of layout op readings) thunk;
  is_link = is_link_in;
  guard = λ cells place. place - place % 5;
  stands = λ layout cells pairs. TreeStands (slot_count layout 3) cells pairs;
  walked = λ layout op readings. TreeWalked layout readings;
  kept = λ layout s. TreeKept layout s;
}
