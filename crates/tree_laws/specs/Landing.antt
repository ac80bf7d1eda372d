-- Where the walk of an open section has landed.
use Rattle.std.specs.Prelude.{ℕ, ◌<◌, ◌≤◌, ◌≡◌, true}
use Rattle.structure_laws.specs.map_history.specs.Keys.{key_of}
use Rattle.structure_laws.specs.table_words.specs.declared.layout.Layout.{Layout}
use Rattle.structure_laws.specs.Scene.{Section, Scene}
use Rattle.structure_laws.specs.Sections.{Here}
use Rattle.structure_laws.specs.Sound.{Sound}
use Rattle.tree_bodies.specs.Tree.{mark_of}
use Rattle.tree_laws.specs.Search.{Covers}
use Rattle.tree_laws.specs.Walk.{Walk, node_of, step_place}
use Rattle.tree_laws.specs.Leaves.{walk_of, TreeKept, tree}

-- this node is linked, and its place covers the key
pub record IsOnPath (c : Covers) (key node : ℕ) : Type 0 where
  pub linked : c.linked node ≡ true
  pub lo : c.lo node ≤ key
  pub hi : key < c.hi node

-- the walk's last node and its parent are on the key's path
pub record HasLanded (c : Covers) (key : ℕ) (w : Walk) : Type 0 where
  pub parent : IsOnPath c key w.last.from
  pub node : IsOnPath c key (node_of w)
  pub up : c.up (node_of w) ≡ w.last.from

-- an open section's walk has landed, as long as the link to its last node and the parent's mark stand as they were read
abbrev pub LandingLaw : Layout → Type 0
LandingLaw layout = (s : Scene) → Sound tree layout s → (kept : TreeKept layout s) → (d : ℕ) (x : Section) → Here s d x
    → s.cells (step_place (walk_of layout x.op x.readings).last) ≡ (walk_of layout x.op x.readings).last.word
    → s.cells (mark_of (walk_of layout x.op x.readings).last.from) ≡ (walk_of layout x.op x.readings).mark
    → HasLanded kept.covers (key_of x.op) (walk_of layout x.op x.readings)
