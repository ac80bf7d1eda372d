-- The sorted list: its meaning, and what it keeps in every scene.
use Rattle.std.specs.Prelude.{ℕ, suc, ◌+◌, ◌-◌, ◌%◌, ◌<◌, ◌≤◌, ◌≡◌, ◌≢◌, ◌⊎◌, Bool, true, false, cond, ◌&&◌, ◌==◌, Some, slice_get}
use Rattle.std.specs.List.{list_any}
use Rattle.std.specs.FinMap.{get}
use Rattle.structure_laws.specs.map_history.specs.declared.op.Op.{Op}
use Rattle.structure_laws.specs.map_history.specs.Keys.{key_of}
use Rattle.structure_laws.specs.map_history.specs.Replay.{Pairs}
use Rattle.structure_laws.specs.body_terms.specs.Word.{value_of}
use Rattle.bucket_laws.specs.bucket_bodies.specs.section_body.specs.Bucket.{operand}
use Rattle.structure_laws.specs.table_words.specs.declared.layout.Layout.{Layout}
use Rattle.structure_laws.specs.table_words.specs.Places.{slot_count}
use Rattle.structure_laws.specs.Scene.{Cells, Readings, Section, Free, Live, Retired, Scene}
use Rattle.structure_laws.specs.Meaning.{Meaning}
use Rattle.structure_laws.specs.Cells.{IsSafe}
use Rattle.bucket_laws.specs.Walk.{Bounds}
pub use Rattle.list_bodies.specs.List.{is_lock_place}
use Rattle.list_bodies.specs.List.{key_cell, next_of, value_cell, mark_of, slot_in, Form, Look, Insert, Remove, Replace}
use Rattle.list_bodies.specs.List.{Empty, form_of, node_in, list_steps}
use Rattle.list_laws.specs.Line.{Nodes, Line, Contents, LeadsOn}
use Rattle.list_laws.specs.Walk.{is_past, Walk, start, node_of, walk, fits_walk}

-- a node's first cells: the head, whose link leads to the tail, and the tail with the greatest key
abbrev pub first_value : ℕ → ℕ
first_value place = cond (place == 2) 2 (cond (place == 6) 4294967295 0)

-- a node's link
abbrev pub is_link_place : ℕ → Bool
is_link_place place = place % 5 == 2

-- the values of the nodes
abbrev pub nodes : Cells → Nodes
nodes cells = record {
  key = λ t. value_of (cells (key_cell t));
  next = λ t. value_of (cells (next_of t));
  value = λ t. value_of (cells (value_cell t));
  mark = λ t. value_of (cells (mark_of t));
}

abbrev pub bounds : Layout → Bounds
bounds layout = record { links = slot_count layout 2 + 8; version_max = layout.version_max }

abbrev pub walk_of : Layout → Op → Readings → Walk
walk_of layout op readings = walk (bounds layout) op start readings

-- the links from the head reach the tail over unmarked nodes, in the order of their keys, which so differ; the linked
-- slots are among the memory's, of which there are so many, and the pairs are the map's
pub record ListStands (slots : ℕ) (cells : Cells) (pairs : Pairs) : Type 0 where
  pub linked : ℕ → Bool
  pub within : (t : ℕ) → linked t ≡ true → t < slots
  pub line : Line (nodes cells) linked
  pub unmarked : (t : ℕ) → linked t ≡ true → (nodes cells).mark t ≡ 0
  pub contents : Contents (nodes cells) linked (get pairs)

-- what a walk may take from the readings of an entered runner alone
pub record ListWalked (layout : Layout) (readings : Readings) : Type 0 where
  -- every link that was read leads to a node slot, and those of other slots than the tail to one
  pub within : (i p w t : ℕ) → slice_get readings i ≡ Some (p, w) → is_link_place p ≡ true
      → value_of w ≡ suc t → t < slot_count layout 2
  pub next_some : (i t w : ℕ) → slice_get readings i ≡ Some (next_of t, w) → t ≢ 1 → 0 < value_of w
  -- the tail has the greatest key
  pub tail_key : (i w : ℕ) → slice_get readings i ≡ Some (key_cell 1, w) → value_of w ≡ 4294967295
  -- a mark is 0 or 1
  pub marks : (i t w : ℕ) → slice_get readings i ≡ Some (mark_of t, w) → value_of w ≤ 1

-- what was read of a node stands there: its key and its value. A link that was read leads on, unless it is the tail's
pub record IsAsRead (n : Nodes) (readings : Readings) : Type 0 where
  pub key : (i t w : ℕ) → slice_get readings i ≡ Some (key_cell t, w) → value_of w ≡ n.key t
  pub value : (i t w : ℕ) → slice_get readings i ≡ Some (value_cell t, w) → value_of w ≡ n.value t
  pub next_some : (i t w : ℕ) → slice_get readings i ≡ Some (next_of t, w) → t ≢ 1 → 0 < value_of w
  pub marks : (i t w : ℕ) → slice_get readings i ≡ Some (mark_of t, w) → value_of w ≤ 1

-- a walk of the key: its predecessor was linked once, isn't the tail, and is the head or has a lower key; the node to
-- which its link led was linked once, is neither the head nor the predecessor, and has a key that isn't lower than the
-- predecessor's
pub record IsWalk (n : Nodes) (once : ℕ → Bool) (key : ℕ) (w : Walk) : Type 0 where
  pub from_once : once w.from ≡ true
  pub from_tail : w.from ≢ 1
  pub from_key : w.from ≢ 0 → n.key w.from < key
  pub node_once : is_past w.stage ≡ true → once (node_of w) ≡ true
  pub node_head : is_past w.stage ≡ true → node_of w ≢ 0
  pub node_other : is_past w.stage ≡ true → node_of w ≢ w.from
  pub node_key : is_past w.stage ≡ true → w.from ≢ 0 → n.key w.from ≤ n.key (node_of w)

-- how far a section has come: it has made its node and not linked it; it has marked the old node and not taken it out;
-- it has taken it out and not retired it
abbrev pub HasNew : Section → Type 0
HasNew x = ((form_of x.thunk ≡ Insert) × (6 ≤ x.at) × (x.at ≤ 7))
    ⊎ ((form_of x.thunk ≡ Replace) × (12 ≤ x.at) × (x.at ≤ 14))

abbrev pub HasMarked : Section → Type 0
HasMarked x = ((form_of x.thunk ≡ Remove) × (x.at ≡ 12)) ⊎ ((form_of x.thunk ≡ Replace) × (14 ≤ x.at) × (x.at ≤ 15))

abbrev pub HasTaken : Section → Type 0
HasTaken x = ((form_of x.thunk ≡ Remove) × (x.at ≡ 13)) ⊎ ((form_of x.thunk ≡ Replace) × (x.at ≡ 16))

-- what a form gives a new node: its register, and which operand is its key; its value is the next one
abbrev pub new_reg : Form → ℕ
new_reg Look = 2
new_reg Insert = 2
new_reg Remove = 2
new_reg Replace = 4
new_reg Empty = 2

abbrev pub new_key : Form → ℕ
new_key Look = 3
new_key Insert = 3
new_key Remove = 3
new_key Replace = 5
new_key Empty = 3

-- the link that it gives it: the predecessor's, or the old node's
abbrev pub new_next : Form → Section → ℕ
new_next Look x = value_of (operand x.thunk 1)
new_next Insert x = value_of (operand x.thunk 1)
new_next Remove x = value_of (operand x.thunk 1)
new_next Replace x = value_of (x.reg 2)
new_next Empty x = value_of (operand x.thunk 1)

-- a new node of a section: live, never linked, with what its Init gave
pub record IsNew (s : Scene) (once : ℕ → Bool) (x : Section) : Type 0 where
  pub slot : ℕ
  pub link : x.reg (new_reg (form_of x.thunk)) ≡ suc slot
  pub live : s.status slot ≡ Live
  pub new : once slot ≡ false
  pub key : (nodes s.cells).key slot ≡ operand x.thunk (new_key (form_of x.thunk))
  pub value : (nodes s.cells).value slot ≡ operand x.thunk (suc (new_key (form_of x.thunk)))
  pub next : (nodes s.cells).next slot ≡ new_next (form_of x.thunk) x
  pub mark : (nodes s.cells).mark slot ≡ 0

-- what a section has taken out: it isn't linked, and live until its Retire
pub record IsTaken (s : Scene) (linked : ℕ → Bool) (x : Section) : Type 0 where
  pub out : linked (node_in x.thunk) ≡ false
  pub live : s.status (node_in x.thunk) ≡ Live

-- a live slot that isn't linked: new and not yet linked, or taken out and not yet retired
pub data IsBetween (x : Section) (t : ℕ) : Type 0 where
  NewNode : HasNew x → x.reg (new_reg (form_of x.thunk)) ≡ suc t → IsBetween x t
  OldNode : HasTaken x → node_in x.thunk ≡ t → IsBetween x t

-- what holds of the link of a node that was linked once and is safe: it leads to a node that was linked once and isn't
-- the head, with a higher key, or with the same key where the first node was replaced by the second
pub record IsTrail (n : Nodes) (once : ℕ → Bool) (s t : ℕ) : Type 0 where
  pub once_linked : once t ≡ true
  pub no_head : t ≢ 0
  pub order : s ≢ 0 → (n.key s < n.key t) ⊎ ((n.key s ≡ n.key t) × (n.mark s ≡ 1))

pub record ListKept (layout : Layout) (s : Scene) : Type 0 where
  -- the line, and which slots were linked once since they came into use
  pub linked : ℕ → Bool
  pub once : ℕ → Bool
  pub line : Line (nodes s.cells) linked
  -- a linked node is live and was linked once; what was linked once isn't free, and a retired node was linked once
  pub linked_live : (t : ℕ) → linked t ≡ true → s.status t ≡ Live
  pub linked_once : (t : ℕ) → linked t ≡ true → once t ≡ true
  pub retired_once : (t y : ℕ) → s.status t ≡ Retired y → once t ≡ true
  pub once_used : (t : ℕ) → once t ≡ true → s.status t ≢ Free
  -- each node's link but the tail's leads to a node, and its mark is 0 or 1
  pub next_some : (t : ℕ) → s.status t ≢ Free → t ≢ 1 → 0 < (nodes s.cells).next t
  pub mark_small : (t : ℕ) → s.status t ≢ Free → (nodes s.cells).mark t ≤ 1
  -- a node that was linked once, is safe and isn't marked is linked
  pub unmarked : (t : ℕ) → once t ≡ true → IsSafe s t → (nodes s.cells).mark t ≡ 0 → linked t ≡ true
  -- where the link of such a node leads, marked or not; and that the links from it lead on to a linked node
  pub trail : (t u : ℕ) → once t ≡ true → IsSafe s t → t ≢ 1 → (nodes s.cells).next t ≡ suc u
      → IsTrail (nodes s.cells) once t u
  pub leads : (t : ℕ) → once t ≡ true → IsSafe s t → LeadsOn (nodes s.cells) linked once t
  -- a marked linked node is one that a section takes out: it has marked it, and not yet stored the link
  pub marked : (t : ℕ) → linked t ≡ true → (nodes s.cells).mark t ≢ 0
      → (d : ℕ) × (x : Section) × (s.section d ≡ Some x) × HasMarked x × (node_in x.thunk ≡ t)
  -- a live slot is linked, or between
  pub live : (t : ℕ) → s.status t ≡ Live
      → (linked t ≡ true) ⊎ ((d : ℕ) × (x : Section) × (s.section d ≡ Some x) × IsBetween x t)
  pub limbo : (t y u : ℕ) → s.status t ≡ Retired y → s.epoch ≤ y + 1 → (nodes s.cells).next t ≡ suc u
      → (s.status u ≡ Live) ⊎ ((z : ℕ) × (s.status u ≡ Retired z) × (y ≤ z))
  -- the sections' new nodes, what they have taken out, and of a node that is being replaced, that the one behind it has
  -- a higher key
  pub made : (d : ℕ) (x : Section) → s.section d ≡ Some x → HasNew x → IsNew s once x
  pub taken : (d : ℕ) (x : Section) → s.section d ≡ Some x → HasTaken x → IsTaken s linked x
  pub behind : (d : ℕ) (x : Section) → s.section d ≡ Some x → form_of x.thunk ≡ Replace → x.at ≡ 14
      → (nodes s.cells).key (node_in x.thunk) < (nodes s.cells).key (slot_in (x.reg 2))
  -- what the readings of entered runners and of open sections say of the present cells, and their walks
  pub readers : (r : ℕ) (readings : Readings) → s.reader r ≡ Some readings → IsAsRead (nodes s.cells) readings
  pub published : (d : ℕ) (x : Section) → s.section d ≡ Some x → IsAsRead (nodes s.cells) x.readings
  pub walks : (r : ℕ) (readings : Readings) (op : Op) → s.reader r ≡ Some readings → key_of op < 4294967294
      → IsWalk (nodes s.cells) once (key_of op) (walk_of layout op readings)
  pub sections : (d : ℕ) (x : Section) → s.section d ≡ Some x
      → IsWalk (nodes s.cells) once (key_of x.op) (walk_of layout x.op x.readings)

abbrev pub list : Meaning
list = record {
  is_map = true;
  fixed_cells = 0;
  fixed_slots = 2;
  first_value = first_value;
  is_lock = is_lock_place;
  body = list_steps;
  reaches = λ readings slot. list_any (λ reading. is_link_place reading.0 && (value_of reading.1 == suc slot)) readings;
  fits = λ layout op readings thunk. fits_walk op (walk_of layout op readings) thunk;
  is_link = λ cells place. is_link_place place;
  guard = λ cells place. place - place % 5;
  stands = λ layout cells pairs. ListStands (slot_count layout 2) cells pairs;
  walked = λ layout op readings. ListWalked layout readings;
  kept = λ layout s. ListKept layout s;
}
