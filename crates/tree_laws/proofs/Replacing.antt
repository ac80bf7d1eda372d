-- A section that has made a new leaf for the place of another, and not stored the link: the leaf may take that place.
use Rattle.std.specs.Prelude.{◌==◌, Bool, true, false}
use Rattle.std.proofs.Common.{◌≡◌, ℕ, suc, ◌≤◌, refl, sym, ap, ◌∙◌, inl, inr, arith}
use Rattle.std.proofs.lemmas.Bool.{both_ways}
use Rattle.structure_laws.specs.map_history.specs.Keys.{key_of}
use Rattle.structure_laws.specs.body_terms.specs.Word.{value_of}
use Rattle.structure_laws.specs.table_words.specs.declared.layout.Layout.{Layout}
use Rattle.structure_laws.specs.Scene.{Section, Scene}
use Rattle.structure_laws.specs.Sections.{Here}
use Rattle.structure_laws.specs.Sound.{Sound}
use Rattle.structure_laws.proofs.Changes.{equal_of}
use Rattle.tree_bodies.specs.Tree.{Replace, form_of}
use Rattle.tree_laws.specs.Search.{Nodes, Covers, IsReplacement, ReplacementKeeps, replaced}
use Rattle.tree_laws.specs.Walk.{Walk, node_of}
use Rattle.tree_laws.specs.Leaves.{nodes, bounds, walk_of, IsFollowed, IsNewLeaf, TreeKept, tree}
use Rattle.tree_laws.specs.Landing.{HasLanded}
use Rattle.tree_laws.proofs.Found.{walk_keyed}
use Rattle.tree_laws.proofs.Replacement.{replacement_keeps}
use Rattle.tree_laws.proofs.WalkReads.{is_late}
use Rattle.tree_laws.proofs.Open as open_section

module _ (layout : Layout) (s : Scene) (sound : Sound tree layout s) (kept : TreeKept layout s)
    (d : ℕ) (x : Section) (here : Here s d x) (form : form_of x.thunk ≡ Replace) (past : 6 ≤ x.at)
    (few : x.at ≤ 7) where
  abbrev now : Nodes
  now = nodes s.cells

  abbrev w : Walk
  w = walk_of layout x.op x.readings

  pub landed : HasLanded kept.covers (key_of x.op) w
  landed = open_section.replace_landed layout s sound kept d x here form (omega (arith, past)) few

  abbrev pub leaf : IsNewLeaf s kept.once x
  leaf = kept.new_leaf d x here (inr (form, past, few))

  pub is : open_section.IsReplacing layout s sound kept d x here
  is = open_section.replace_is_replacing layout s sound kept d x here form

  pub plain : open_section.IsPlain layout s sound kept d x here
  plain = open_section.replace_is_plain layout s sound kept d x here form

  pub last : IsFollowed now kept.covers kept.once (key_of x.op) w.last
  last = open_section.last_link layout s sound kept d x here

  abbrev pub a : ℕ
  a = w.last.from

  abbrev pub side : Bool
  side = w.last.side

  -- what wasn't linked once isn't linked
  no_once : (t : ℕ) → kept.once t ≡ false → kept.covers.linked t ≡ false
  no_once t none = by (kept.covers.linked t) refl
    where
      by : (b : Bool) → kept.covers.linked t ≡ b → kept.covers.linked t ≡ false
      by true on = absurd (both_ways _ none (kept.linked_once t on))
      by false on = on

  pub new_key : now.key leaf.slot ≡ key_of x.op
  new_key = leaf.key ∙ (is.new_key ∙ sym (ap key_of is.put))

  keyed : w.found ≡ (w.key == key_of x.op)
  keyed = walk_keyed (bounds layout) x.op x.readings (ap is_late (open_section.stage_is layout s sound kept d x here))

  old_key : now.key (node_of w) ≡ key_of x.op
  old_key = open_section.leaf_key_is layout s sound kept d x here ∙ equal_of w.key (key_of x.op) (sym keyed ∙ is.found)

  old_link : now.child side a ≡ suc (node_of w)
  old_link =
      let some = last.some in
      let leads : value_of w.last.word ≡ suc (node_of w) = omega (arith, some) in
      ap value_of (open_section.replace_link layout s sound kept d x here form (omega (arith, past)) few) ∙ leads

  pub replacement : IsReplacement now kept.covers side a (node_of w) leaf.slot
  replacement = record {
    above = landed.parent.linked;
    above_inner = last.inner;
    old = old_link;
    old_leaf = open_section.leaf_is layout s sound kept d x here;
    leaf_out = no_once leaf.slot leaf.new;
    new_leaf = leaf.leaf;
    same_key = new_key ∙ sym old_key;
  }

  pub replacement_kept : ReplacementKeeps now kept.covers side a (node_of w) leaf.slot
  replacement_kept = replacement_keeps now kept.covers side a (node_of w) leaf.slot kept.tree replacement

  abbrev pub then_covers : Covers
  then_covers = replaced kept.covers a (node_of w) leaf.slot

  -- the root's right link stands
  pub not_root : false ≡ side → 0 ≡ a → ⊥
  not_root right zero =
      let at = last.is_right (sym right) in
      let root = ap now.key (sym zero) ∙ kept.sentinels.root_key in
      let low = (sound.allowed d x here).keys (key_of x.op) (inl refl) in omega (arith, at, root, low)
