-- A removal that has not stored the link: its leaf may be taken out with its parent. Where its sibling stands after it.
use Rattle.std.specs.Prelude.{◌-◌, not, Bool, true, false, Some, slice_get}
use Rattle.std.proofs.Common.{◌≡◌, ℕ, suc, ◌+◌, ◌≤◌, refl, sym, ap, ◌∙◌, inl, ⊎_elim, arith}
use Rattle.structure_laws.specs.map_history.specs.Keys.{key_of}
use Rattle.structure_laws.specs.body_terms.specs.Word.{value_of}
use Rattle.bucket_laws.specs.bucket_bodies.specs.section_body.specs.Bucket.{operand}
use Rattle.structure_laws.specs.body_terms.specs.declared.value.Value.{Value}
use Rattle.structure_laws.specs.body_terms.specs.declared.value.Value.TheVariants.{Of}
use Rattle.structure_laws.specs.body_terms.specs.declared.step.Step.{Step}
use Rattle.structure_laws.specs.body_terms.specs.declared.step.Step.TheVariants.{Load, Want, Store}
use Rattle.structure_laws.specs.table_words.specs.declared.layout.Layout.{Layout}
use Rattle.structure_laws.specs.Scene.{Section, Scene}
use Rattle.structure_laws.specs.Sections.{Here, IsStep}
use Rattle.structure_laws.specs.Sound.{Sound}
use Rattle.structure_laws.proofs.Changes.{value-next_word, value_small}
use Rattle.tree_bodies.specs.Tree.{lock_of, mark_of, Delete, form_of, body_of, sibling_of}
use Rattle.tree_laws.specs.Search.{Nodes, Covers, IsRemoval, RemovalKeeps, removed}
use Rattle.tree_laws.specs.Walk.{Walk, node_of}
use Rattle.tree_laws.specs.Leaves.{nodes, walk_of, IsFollowed, TreeKept, tree}
use Rattle.tree_laws.proofs.Forms.{delete_store}
use Rattle.tree_laws.proofs.Landed.{reads, on_path, from_safe}
use Rattle.tree_laws.proofs.Removal.{removal_keeps}
use Rattle.tree_laws.proofs.WalkReads.{is_marked}
use Rattle.tree_laws.proofs.Open as open_section

module _ (layout : Layout) (s : Scene) (sound : Sound tree layout s) (kept : TreeKept layout s)
    (d : ℕ) (x : Section) (here : Here s d x) (form : form_of x.thunk ≡ Delete) where
  abbrev now : Nodes
  now = nodes s.cells

  abbrev w : Walk
  w = walk_of layout x.op x.readings

  pub removing : open_section.IsRemoving layout s sound kept d x here
  removing = open_section.delete_is_removing layout s sound kept d x here form

  pub last : IsFollowed now kept.covers kept.once (key_of x.op) w.last
  last = open_section.last_link layout s sound kept d x here

  pub grand : IsFollowed now kept.covers kept.once (key_of x.op) w.grand
  grand = open_section.grand_followed layout s sound kept d x here removing

  abbrev pub a : ℕ
  a = w.grand.from

  abbrev pub side : Bool
  side = w.grand.side

  abbrev pub p : ℕ
  p = w.last.from

  -- the sibling
  abbrev pub b : ℕ
  b = now.child (not w.last.side) p - 1

  -- the root's right link stands
  pub not_root : false ≡ side → 0 ≡ a → ⊥
  not_root right zero =
      let at = grand.is_right (sym right) in
      let root = ap now.key (sym zero) ∙ kept.sentinels.root_key in
      let low = (sound.allowed d x here).keys (key_of x.op) (inl refl) in omega (arith, at, root, low)

  step : (i : ℕ) (b : Step) → slice_get (body_of Delete x.thunk) i ≡ Some b → IsStep tree x i b
  step = open_section.step_is layout s sound kept d x here Delete form

  -- it stores to what its registers 4 and 0 were loaded from, and to nothing else
  never : (r : ℕ) → (r ≡ 4 → ⊥) → (r ≡ 0 → ⊥) → (i : ℕ) (u : Value) → IsStep tree x i (Store r u) → x.at ≤ i
  never r mark link i u h = absurd (⊎_elim (λ is. mark is.1) (λ is. link is.1)
      (delete_store x.thunk i r u (open_section.step_as layout s sound kept d x here Delete form i (Store r u) h)))

  -- the other link as it was loaded
  pub sibling_read : 9 ≤ x.at → s.cells (sibling_of x.thunk) ≡ x.reg 3
  sibling_read past = sound.loaded d x here 8 (sibling_of x.thunk) 3 past
      (step 8 (Load (sibling_of x.thunk) 3) refl) (never 3 (λ e. omega (arith, e)) (λ e. omega (arith, e)))

  pub sibling_link : value_of (s.cells (sibling_of x.thunk)) ≡ now.child (not w.last.side) p
  sibling_link = ap (λ q. value_of (s.cells q)) (open_section.sibling_place layout s sound kept d x here removing)

  module _ (past : 8 ≤ x.at) (few : x.at ≤ 14) where
    pub found : open_section.HasFound layout s sound kept d x here
    found = open_section.delete_found layout s sound kept d x here form past few

    leaf_there : now.child w.last.side p ≡ suc (node_of w)
    leaf_there =
        let link = ap value_of (open_section.leaf_link layout s sound kept d x here form past) in
        let some = last.some in
        let z : value_of w.last.word ≡ suc (node_of w) = omega (arith, some) in link ∙ z

    pub sibling_there : now.child (not w.last.side) p ≡ suc b
    sibling_there = let some = kept.tree.child_some (not w.last.side) p found.parent_linked last.inner in
        omega (arith, some)

    pub removal : IsRemoval now kept.covers side (not w.last.side) a p b (node_of w)
    removal = record {
      above = found.grand_linked;
      above_inner = found.grand_inner;
      parent = found.grand_link;
      parent_inner = last.inner;
      stays = sibling_there;
      goes = twice w.last.side leaf_there;
      leaf = open_section.leaf_is layout s sound kept d x here;
    }
      where
        twice : (c : Bool) → now.child c p ≡ suc (node_of w) → now.child (not (not c)) p ≡ suc (node_of w)
        twice true e = e
        twice false e = e

    pub removal_kept : RemovalKeeps now kept.covers side a p b (node_of w)
    removal_kept = removal_keeps now kept.covers side (not w.last.side) a p b (node_of w) kept.tree removal

    abbrev pub then_covers : Covers
    then_covers = removed now kept.covers a p b (node_of w)

  -- after its Stores the sibling is a child of the grandparent, which is linked
  module _ (past : 15 ≤ x.at) where
    grand_mark : s.cells (mark_of a) ≡ w.grand_mark
    grand_mark = ap s.cells (sym (mark_at removing.lock))
        ∙ (sound.loaded d x here 3 (x.thunk.lock + 4) 1 (omega (arith, past)) (step 3 (Load (x.thunk.lock + 4) 1) refl)
        (never 1 (λ e. omega (arith, e)) (λ e. omega (arith, e)))
        ∙ (sound.wanted d x here 4 1 (operand x.thunk 2) (omega (arith, past))
        (step 4 (Want 1 (operand x.thunk 2)) refl) ∙ removing.mark))
      where
        mark_at : x.thunk.lock ≡ lock_of a → x.thunk.lock + 4 ≡ mark_of a
        mark_at e = omega (arith, e)

    grand_linked : kept.covers.linked a ≡ true
    grand_linked =
        let read = reads layout s sound kept d x here in
        let end = ap is_marked (open_section.stage_is layout s sound kept d x here) in
        let unmarked = read.grand_unmarked end removing.del removing.found in
        let safe = from_safe layout s sound kept d x here a read.grand_from in
        (on_path layout s sound kept d x here a grand.from safe grand.inner (ap value_of grand_mark ∙ unmarked)).0

    grand_link : now.child side a ≡ value_of (s.cells (sibling_of x.thunk))
    grand_link = ap (λ q. value_of (s.cells q)) (sym removing.place)
        ∙ (ap value_of (sound.stored d x here 14 0 (operand x.thunk 0) 0 (Of 3) past
        (step 14 (Store 0 (Of 3)) refl) (step 0 (Load (operand x.thunk 0) 0) refl))
        ∙ (value-next_word (x.reg 0) (value_of (x.reg 3)) (value_small (x.reg 3))
        ∙ ap value_of (sym (sibling_read (omega (arith, past))))))

    pub sibling_up : (t : ℕ) → value_of (s.cells (sibling_of x.thunk)) ≡ suc t → kept.covers.up t ≡ a
    sibling_up t leads = kept.tree.child_up side a t grand_linked grand.inner (grand_link ∙ leads)
