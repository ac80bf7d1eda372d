-- What holds of the nodes that a walk holds, and where the walk of an open section has landed.
use Rattle.std.specs.Prelude.{ℕ, suc, ◌<◌, ◌≤◌, ◌≡◌, ◌≢◌, true, Some}
use Rattle.structure_laws.specs.map_history.specs.declared.op.Op.{Op}
use Rattle.structure_laws.specs.map_history.specs.Keys.{key_of}
use Rattle.structure_laws.specs.table_words.specs.declared.layout.Layout.{Layout}
use Rattle.structure_laws.specs.Scene.{Readings, Section, Scene}
use Rattle.structure_laws.specs.Sections.{Here}
use Rattle.structure_laws.specs.Cells.{IsSafe}
use Rattle.structure_laws.specs.Sound.{Sound}
use Rattle.list_bodies.specs.List.{next_of, mark_of}
use Rattle.list_laws.specs.Line.{LeadsOn}
use Rattle.list_laws.specs.Walk.{Walk, node_of, is_past}
use Rattle.list_laws.specs.Nodes.{nodes, walk_of, ListKept, list}

-- both nodes of the walk are linked, one right behind the other, and the key lies above the first
pub record HasLanded (layout : Layout) (s : Scene) (kept : ListKept layout s) (key : ℕ) (w : Walk) : Type 0 where
  pub from : kept.linked w.from ≡ true
  pub from_tail : w.from ≢ 1
  pub link : (nodes s.cells).next w.from ≡ suc (node_of w)
  pub from_key : w.from ≢ 0 → (nodes s.cells).key w.from < key
  pub node : kept.linked (node_of w) ≡ true
  pub node_head : node_of w ≢ 0

-- an open section's walk has landed, as long as the predecessor's link and its mark stand as they were read
abbrev pub LandingLaw : Layout → Type 0
LandingLaw layout = (s : Scene) → Sound list layout s → (kept : ListKept layout s) → (d : ℕ) (x : Section) → Here s d x
    → s.cells (next_of (walk_of layout x.op x.readings).from) ≡ (walk_of layout x.op x.readings).link
    → s.cells (mark_of (walk_of layout x.op x.readings).from) ≡ (walk_of layout x.op x.readings).mark
    → HasLanded layout s kept (key_of x.op) (walk_of layout x.op x.readings)

-- a node that a runner may hold: it was linked once, and is live or was retired a short while ago
pub record IsHeld (layout : Layout) (s : Scene) (kept : ListKept layout s) (t : ℕ) : Type 0 where
  pub once : kept.once t ≡ true
  pub safe : IsSafe s t

-- from such a node the present links lead on to a linked node, over such nodes, with keys that never fall; and unless
-- it is marked it is linked
pub record LeadsFrom (layout : Layout) (s : Scene) (kept : ListKept layout s) (t : ℕ) : Type 0 where
  pub leads : LeadsOn (nodes s.cells) kept.linked kept.once t
  pub next : (u : ℕ) → t ≢ 1 → (nodes s.cells).next t ≡ suc u → IsHeld layout s kept u
  pub rises : (u : ℕ) → t ≢ 0 → t ≢ 1 → (nodes s.cells).next t ≡ suc u → (nodes s.cells).key t ≤ (nodes s.cells).key u
  pub unmarked : (nodes s.cells).mark t ≡ 0 → kept.linked t ≡ true

-- both nodes of a walk are such nodes, and the link that it read last didn't lead to the node in which it stood
pub record HoldsNodes (layout : Layout) (s : Scene) (kept : ListKept layout s) (w : Walk) : Type 0 where
  pub from : IsHeld layout s kept w.from
  pub node : is_past w.stage ≡ true → IsHeld layout s kept (node_of w)
  pub other : is_past w.stage ≡ true → node_of w ≢ w.from

-- in each sound and kept scene
pub record HeldLaw (layout : Layout) : Type 0 where
  pub leads : (s : Scene) → Sound list layout s → (kept : ListKept layout s) → (t : ℕ) → IsHeld layout s kept t
      → LeadsFrom layout s kept t
  pub walks : (s : Scene) → Sound list layout s → (kept : ListKept layout s) → (r : ℕ) (readings : Readings) (op : Op)
      → s.reader r ≡ Some readings → key_of op < 4294967294 → HoldsNodes layout s kept (walk_of layout op readings)
