-- An insertion that has made its nodes and not stored the link: its new inner node may take the place of the leaf.
use Rattle.std.specs.Prelude.{◌==◌, not, nat_lt, cond, Bool, true, false}
use Rattle.std.proofs.Common.{◌≡◌, ◌≢◌, ℕ, suc, ◌<◌, ◌≤◌, refl, sym, ap, ◌∙◌, subst, inl, arith}
use Rattle.structure_laws.specs.table_words.specs.small_lemmas.proofs.Bools.{not_both as true_false}
use Rattle.structure_laws.specs.map_history.specs.Keys.{key_of}
use Rattle.structure_laws.specs.body_terms.specs.Word.{value_of}
use Rattle.bucket_laws.specs.bucket_bodies.specs.section_body.specs.Bucket.{operand}
use Rattle.structure_laws.specs.table_words.specs.declared.layout.Layout.{Layout}
use Rattle.structure_laws.specs.Scene.{Section, Scene}
use Rattle.structure_laws.specs.Sections.{Here}
use Rattle.structure_laws.specs.Sound.{Sound}
use Rattle.tree_bodies.specs.Tree.{Insert, form_of}
use Rattle.tree_laws.specs.Search.{Nodes, Covers, AreOrdered, IsInsertion, InsertionKeeps, inserted}
use Rattle.tree_laws.specs.Walk.{Walk, node_of}
use Rattle.tree_laws.specs.Leaves.{nodes, bounds, walk_of, IsFollowed, IsNewLeaf, IsNewInner, TreeKept, tree}
use Rattle.tree_laws.specs.Landing.{HasLanded}
use Rattle.tree_laws.proofs.Found.{walk_keyed}
use Rattle.tree_laws.proofs.Insertion.{insertion_keeps}
use Rattle.tree_laws.proofs.WalkReads.{is_late}
use Rattle.tree_laws.proofs.Open as open_section

module _ (layout : Layout) (s : Scene) (sound : Sound tree layout s) (kept : TreeKept layout s)
    (d : ℕ) (x : Section) (here : Here s d x) (form : form_of x.thunk ≡ Insert) (past : 7 ≤ x.at) (few : x.at ≤ 8) where
  abbrev now : Nodes
  now = nodes s.cells

  abbrev w : Walk
  w = walk_of layout x.op x.readings

  pub landed : HasLanded kept.covers (key_of x.op) w
  landed = open_section.insert_landed layout s sound kept d x here form (omega (arith, past)) few

  abbrev pub leaf : IsNewLeaf s kept.once x
  leaf = kept.new_leaf d x here (inl (form, omega (arith, past), few))

  abbrev pub inner : IsNewInner s kept.once x
  inner = kept.new_inner d x here (form, past, few)

  pub is : open_section.IsInserting layout s sound kept d x here
  is = open_section.insert_is_inserting layout s sound kept d x here form

  pub plain : open_section.IsPlain layout s sound kept d x here
  plain = open_section.insert_is_plain layout s sound kept d x here form

  pub last : IsFollowed now kept.covers kept.once (key_of x.op) w.last
  last = open_section.last_link layout s sound kept d x here

  abbrev pub a : ℕ
  a = w.last.from

  abbrev pub side : Bool
  side = w.last.side

  -- the side of the new leaf
  abbrev pub h : Bool
  h = nat_lt (operand x.thunk 3) (operand x.thunk 5)

  -- what wasn't linked once isn't linked
  pub no_once : (t : ℕ) → kept.once t ≡ false → kept.covers.linked t ≡ false
  no_once t none = by (kept.covers.linked t) refl
    where
      by : (b : Bool) → kept.covers.linked t ≡ b → kept.covers.linked t ≡ false
      by true on = absurd (true_false (kept.linked_once t on) none)
      by false on = on

  pub new_key : now.key leaf.slot ≡ key_of x.op
  new_key = leaf.key ∙ (is.new_key ∙ sym is.puts.0)

  old_key : now.key (node_of w) ≡ operand x.thunk 5
  old_key = open_section.leaf_key_is layout s sound kept d x here ∙ sym is.old_key

  keyed : w.found ≡ (w.key == key_of x.op)
  keyed = walk_keyed (bounds layout) x.op x.readings (ap is_late (open_section.stage_is layout s sound kept d x here))

  keys_differ : operand x.thunk 3 ≢ operand x.thunk 5
  keys_differ same = true_false
      (eq_true w.key (key_of x.op) (sym is.old_key ∙ (sym same ∙ (is.new_key ∙ sym is.puts.0))))
      (sym keyed ∙ is.missing)
    where
      eq_true : (a b : ℕ) → a ≡ b → (a == b) ≡ true
      eq_true a b e = grind arith

  link_is : value_of w.last.word ≡ suc (node_of w)
  link_is = let some = last.some in omega (arith, some)

  old_link : now.child side a ≡ suc (node_of w)
  old_link = ap value_of (open_section.insert_link layout s sound kept d x here form (omega (arith, past)) few)
      ∙ link_is

  -- the old leaf stands on the inner node's other side
  pub old_side : now.child (not h) inner.slot ≡ suc (node_of w)
  old_side = inner.old_side ∙ (ap value_of plain.word ∙ link_is)

  pub insertion : IsInsertion now kept.covers side h a (node_of w) inner.slot leaf.slot
  insertion = record {
    above = landed.parent.linked;
    above_inner = last.inner;
    old = old_link;
    old_leaf = open_section.leaf_is layout s sound kept d x here;
    inner_out = no_once inner.slot inner.new;
    leaf_out = no_once leaf.slot leaf.new;
    differ = λ same. inner.other (inner.link ∙ (ap suc same ∙ sym leaf.link));
    new_side = inner.new_side ∙ leaf.link;
    old_side = old_side;
    new_leaf = leaf.leaf;
    from = subst (λ k. kept.covers.lo (node_of w) ≤ k) (sym new_key) landed.node.lo;
    before = subst (λ k. k < kept.covers.hi (node_of w)) (sym new_key) landed.node.hi;
    ordered = ordered h refl;
  }
    where
      low_of : (n k : ℕ) → nat_lt n k ≡ true → n < k
      low_of n k e = grind arith

      high_of : (n k : ℕ) → nat_lt n k ≡ false → n ≢ k → k < n
      high_of n k e ne = grind arith

      ordered : (b : Bool) → h ≡ b → AreOrdered b (now.key inner.slot) (now.key (node_of w)) (now.key leaf.slot)
      ordered true e = (
        let less = low_of _ _ e in let new = leaf.key in let old = old_key in omega (arith, less, new, old),
        inner.key ∙ (ap (λ b. cond b (operand x.thunk 5) (operand x.thunk 3)) e ∙ sym old_key),
      )
      ordered false e = (
        let less = high_of _ _ e keys_differ in let new = leaf.key in let old = old_key in
            omega (arith, less, new, old),
        inner.key ∙ (ap (λ b. cond b (operand x.thunk 5) (operand x.thunk 3)) e ∙ sym leaf.key),
      )

  pub insertion_kept : InsertionKeeps now kept.covers side h a (node_of w) inner.slot leaf.slot
  insertion_kept = insertion_keeps now kept.covers side h a (node_of w) inner.slot leaf.slot kept.tree insertion

  abbrev pub then_covers : Covers
  then_covers = inserted now kept.covers h a (node_of w) inner.slot leaf.slot

  -- the root's right link stands
  pub not_root : false ≡ side → 0 ≡ a → ⊥
  not_root right zero =
      let at = last.is_right (sym right) in
      let root = ap now.key (sym zero) ∙ kept.sentinels.root_key in
      let low = (sound.allowed d x here).keys (key_of x.op) (inl refl) in omega (arith, at, root, low)
