-- A removal's Store of the link, which takes out the parent and its leaf, keeps what the tree keeps.
use Rattle.std.specs.Prelude.{not, Bool, true, false, Some}
use Rattle.std.proofs.Common.{◌≡◌, ◌≢◌, ℕ, suc, ◌<◌, ◌≤◌, refl, sym, ap, ◌∙◌, subst, inl, inr, ⊎_elim, arith}
use Rattle.std.proofs.lemmas.Bool.{cases_eq, both_ways}
use Rattle.structure_laws.specs.table_words.specs.small_lemmas.proofs.Numbers.{suc_equal as suc_eq}
use Rattle.structure_laws.specs.body_terms.specs.Update.{upd}
use Rattle.structure_laws.specs.body_terms.specs.Word.{value_of}
use Rattle.structure_laws.specs.body_terms.specs.declared.value.Value.TheVariants.{Const}
use Rattle.structure_laws.specs.body_terms.specs.declared.step.Step.TheVariants.{Load, Store}
use Rattle.structure_laws.specs.table_words.specs.declared.layout.Layout.{Layout}
use Rattle.structure_laws.specs.table_words.specs.Limits.{IsWithinLimits}
use Rattle.structure_laws.specs.Scene.{Cells, Section, Scene, passed}
use Rattle.structure_laws.specs.Sections.{Here, Holds}
use Rattle.structure_laws.specs.Sound.{Sound}
use Rattle.structure_laws.proofs.Changes.{upd_same, upd_other, value-next_word}
use Rattle.tree_bodies.specs.Tree.{lock_of, key_cell, mark_of, child_of, Delete, form_of, parent_in, sibling_of}
use Rattle.tree_laws.specs.Search.{Nodes, Covers, IsInner, IsLeaf, with_child, IsRemoval, grown}
use Rattle.tree_laws.specs.Walk.{Walk, node_of}
use Rattle.tree_laws.specs.Leaves.{nodes, walk_of, IsTaken, HasTaken, OldParent, OldLeaf, TreeKept, tree}
use Rattle.tree_laws.proofs.Alike.{tree_alike}
use Rattle.tree_laws.proofs.Apart.{key_apart, mark_apart}
use Rattle.tree_laws.proofs.Changed.{changed_alike, other_child, changed_some, changed_same, changed_sentinels}
use Rattle.tree_laws.proofs.Gives.{parent_unfixed, leaf_unfixed, taken_lock}
use Rattle.tree_laws.proofs.MarkStore.{no_insert, none_between, has_no_leaf, has_no_old}
use Rattle.tree_laws.proofs.Open as open_section
use Rattle.tree_laws.proofs.Removal.{still, remains, a_not_p, a_not_l, b_not_p, b_not_l, b_linked}
use Rattle.tree_laws.proofs.Removing as removing
use Rattle.tree_laws.proofs.StoreChange.{marked_elsewhere, leaf_out, inner_out, after_scene, IsChange, store_kept}

-- what wasn't linked keeps its bounds, and so does the parent
grown_off : (f : ℕ → Bool) (bound : ℕ → ℕ) (m own p x : ℕ) → f x ≡ false → x ≢ p → grown f bound m own p x ≡ bound x
grown_off f bound m own p x off ne = grind arith

grown_own : (f : ℕ → Bool) (bound : ℕ → ℕ) (m p x : ℕ) → x ≡ p → grown f bound m (bound p) p x ≡ bound x
grown_own f bound m p x same = grind arith

module _ (layout : Layout) (limits : IsWithinLimits layout) (s : Scene) (sound : Sound tree layout s)
    (kept : TreeKept layout s) (d : ℕ) (x : Section) (here : Here s d x)
    (form : form_of x.thunk ≡ Delete) (at : x.at ≡ 14) where
  abbrev past : 8 ≤ x.at
  past = omega (arith, at)

  abbrev few : x.at ≤ 14
  few = omega (arith, at)

  abbrev now : Nodes
  now = nodes s.cells

  abbrev w : Walk
  w = walk_of layout x.op x.readings

  abbrev a : ℕ
  a = w.grand.from

  abbrev side : Bool
  side = w.grand.side

  abbrev p : ℕ
  p = w.last.from

  abbrev l : ℕ
  l = node_of w

  abbrev b : ℕ
  b = removing.b layout s sound kept d x here form

  abbrev c : Covers
  c = removing.then_covers layout s sound kept d x here form past few

  is : open_section.IsRemoving layout s sound kept d x here
  is = removing.removing layout s sound kept d x here form

  found : open_section.HasFound layout s sound kept d x here
  found = removing.found layout s sound kept d x here form past few

  removal : IsRemoval now kept.covers side (not w.last.side) a p b l
  removal = removing.removal layout s sound kept d x here form past few

  leaf_no_inner : (u : ℕ) → IsLeaf now u → IsInner now u → ⊥
  leaf_no_inner u leaf inner = omega (arith, leaf, inner)

  was_on : (u : ℕ) → c.linked u ≡ true → (kept.covers.linked u ≡ true) × (u ≢ p) × (u ≢ l)
  was_on u on = still kept.covers.linked p l u on

  stays_on : (u : ℕ) → kept.covers.linked u ≡ true → u ≢ p → u ≢ l → c.linked u ≡ true
  stays_on u on np nl = remains kept.covers.linked p l u on np nl

  p_not_l : p ≢ l
  p_not_l same = leaf_no_inner l removal.leaf (subst (IsInner now) same removal.parent_inner)

  p_out : c.linked p ≡ false
  p_out = upd_other (upd kept.covers.linked p false) l p false p_not_l ∙ upd_same kept.covers.linked p p false refl

  l_out : c.linked l ≡ false
  l_out = upd_same (upd kept.covers.linked p false) l l false refl

  still_off : (u : ℕ) → kept.covers.linked u ≡ false → c.linked u ≡ false
  still_off u off = by (c.linked u) refl
    where
      by : (on : Bool) → c.linked u ≡ on → c.linked u ≡ false
      by true on = absurd (both_ways _ off (was_on u on).0)
      by false off' = off'

  a_on : c.linked a ≡ true
  a_on = stays_on a found.grand_linked (a_not_p now kept.covers side (not w.last.side) a p b l kept.tree removal)
      (a_not_l now kept.covers side (not w.last.side) a p b l kept.tree removal)

  b_was : kept.covers.linked b ≡ true
  b_was = b_linked now kept.covers side (not w.last.side) a p b l kept.tree removal

  b_on : c.linked b ≡ true
  b_on = stays_on b b_was (b_not_p now kept.covers side (not w.last.side) a p b l kept.tree removal)
      (b_not_l now kept.covers side (not w.last.side) a p b l kept.tree removal)

  -- an inner node that isn't linked then keeps its bounds
  frozen : (bound : ℕ → ℕ) (u : ℕ) → IsInner now u → c.linked u ≡ false
      → grown kept.covers.linked bound (now.key p) (bound p) p u ≡ bound u
  frozen bound u inner off = ⊎_elim (grown_own kept.covers.linked bound (now.key p) p u)
      (λ np. by np (kept.covers.linked u) refl) (cases_eq u p)
    where
      no_l : u ≢ l
      no_l same = leaf_no_inner l removal.leaf (subst (IsInner now) same inner)

      by : u ≢ p → (on : Bool) → kept.covers.linked u ≡ on
          → grown kept.covers.linked bound (now.key p) (bound p) p u ≡ bound u
      by np true on = absurd (both_ways _ off (stays_on u on np no_l))
      by np false off' = grown_off kept.covers.linked bound (now.key p) (bound p) p u off' np

  -- the parent is marked
  p_marked : now.mark p ≡ 1
  p_marked = ap (λ t. value_of (s.cells (mark_of t))) (sym is.parent)
      ∙ (ap value_of (sound.stored d x here 13 9 (mark_of (parent_in x.thunk)) 4 (Const 1) (omega (arith, at))
      (open_section.step_is layout s sound kept d x here Delete form 13 (Store 4 (Const 1)) refl)
      (open_section.step_is layout s sound kept d x here Delete form 9 (Load (mark_of (parent_in x.thunk)) 4) refl))
      ∙ value-next_word (x.reg 4) 1 (omega arith))

  -- where another section's sibling stands: it holds the lock of the sibling's parent
  sibling_stays : (e : ℕ) (z : Section) (u : ℕ) → e ≢ d → s.section e ≡ Some z → HasTaken z
      → value_of (s.cells (sibling_of z.thunk)) ≡ suc u → c.linked u ≡ true
  sibling_stays e z u ne there has leads = stays_on u ((kept.taken e z there has).sibling u leads)
      (λ same. apart a (inl (sym is.lock)) (sym above ∙ (ap kept.covers.up same ∙ found.parent_up)))
      (λ same. apart p (taken_lock layout limits s sound kept d x here form (omega (arith, at)) (lock_of p) refl)
      (sym above ∙ (ap kept.covers.up same ∙ found.leaf_up)))
    where
      above : kept.covers.up u ≡ (walk_of layout z.op z.readings).grand.from
      above = removing.sibling_up layout s sound kept e z there has.0 has.1 u leads

      apart : (k : ℕ) → Holds tree x (lock_of k) → (walk_of layout z.op z.readings).grand.from ≡ k → ⊥
      apart k holds same = sound.apart d e x z here there (λ e. ne (sym e)) (lock_of k) holds
          (inl (ap lock_of (sym same) ∙ sym (removing.removing layout s sound kept e z there has.0).lock))

  module _ (q word : ℕ) (place : q ≡ child_of side a) (stores : value_of word ≡ suc b) where
    abbrev cells : Cells
    cells = upd s.cells q word

    keys : (u : ℕ) → cells (key_cell u) ≡ s.cells (key_cell u)
    keys u = upd_other s.cells q (key_cell u) word (λ e. key_apart side u a (e ∙ place))

    others : (k : Bool) (u : ℕ) → child_of k u ≢ child_of side a → cells (child_of k u) ≡ s.cells (child_of k u)
    others k u ne = upd_other s.cells q (child_of k u) word (λ e. ne (e ∙ place))

    stored : value_of (cells (child_of side a)) ≡ suc b
    stored = ap value_of (upd_same s.cells q (child_of side a) word (sym place)) ∙ stores

    mark_same : (u : ℕ) → (nodes cells).mark u ≡ now.mark u
    mark_same u = ap value_of (upd_other s.cells q (mark_of u) word (λ e. mark_apart side u a (e ∙ place)))

    some : 0 < suc b
    some = omega arith

    link_stays : (k : Bool) (u : ℕ) → c.linked u ≡ false → (nodes cells).child k u ≡ now.child k u
    link_stays k u off = other_child s.cells cells side a (suc b) keys others stored k u
        (λ e same. both_ways _ (ap c.linked (sym same) ∙ off) a_on)

    some_stays : (k : Bool) (u : ℕ) → 0 < now.child k u → 0 < (nodes cells).child k u
    some_stays = changed_some s.cells cells side a (suc b) keys others stored found.grand_inner some

    sibling_is : value_of (cells (sibling_of x.thunk)) ≡ suc b
    sibling_is = ap (λ k. value_of (cells k)) (open_section.sibling_place layout s sound kept d x here is)
        ∙ (link_stays (not w.last.side) p p_out ∙ removing.sibling_there layout s sound kept d x here form past few)

    l_not_b : l ≢ b
    l_not_b same = b_not_l now kept.covers side (not w.last.side) a p b l kept.tree removal (sym same)

    taken : HasTaken (passed x) → IsTaken (after_scene s d x cells) c kept.once (passed x)
    taken has = record {
      parent_once = ap kept.once is.parent ∙ kept.linked_once p found.parent_linked;
      parent_out = ap c.linked is.parent ∙ p_out;
      parent_unfixed = subst (λ t. 3 ≤ t) (sym is.parent)
          (parent_unfixed layout limits s sound kept d x here form past (omega (arith, at)));
      parent_inner = some_stays true (parent_in x.thunk) (subst (IsInner now) (sym is.parent) removal.parent_inner);
      parent_live = λ late. ap s.status is.parent ∙ kept.linked_live p found.parent_linked;
      leaf_once = ap kept.once is.leaf ∙ kept.linked_once l found.leaf_linked;
      leaf_out = ap c.linked is.leaf ∙ l_out;
      leaf_unfixed = subst (λ t. 3 ≤ t) (sym is.leaf) (leaf_unfixed layout limits s sound kept d x here form);
      leaf_up = ap c.up is.leaf ∙ (upd_other kept.covers.up b l a l_not_b ∙ (found.leaf_up ∙ sym is.parent));
      leaf_live = ap s.status is.leaf ∙ kept.linked_live l found.leaf_linked;
      sibling = λ t leads. ap c.linked (suc_eq t b (sym leads ∙ sibling_is)) ∙ b_on;
    }

    link_change : IsChange layout s sound kept d x here cells c kept.once
    link_change = record {
      tree = tree_alike (with_child now side a (suc b)) (nodes cells) c
          (changed_alike s.cells cells side a (suc b) keys others stored c)
          (removing.removal_kept layout s sound kept d x here form past few).tree;
      sentinels = changed_sentinels s.cells cells side a (suc b) keys others stored found.grand_inner some kept.covers c
          kept.sentinels (sentinel_on 1 kept.sentinels.first kept.sentinels.first_leaf (omega arith))
          (sentinel_on 2 kept.sentinels.last kept.sentinels.last_leaf (omega arith))
          (removing.not_root layout s sound kept d x here form);
      same = changed_same s.cells cells side a (suc b) keys others stored found.grand_inner some;
      grown = λ u was. record {
        node = changed_same s.cells cells side a (suc b) keys others stored found.grand_inner some u;
        once_linked = was;
        lo = λ inner. (removing.removal_kept layout s sound kept d x here form past few).lo u;
        hi = λ inner. (removing.removal_kept layout s sound kept d x here form past few).hi u;
      };
      linked_live = λ u on. kept.linked_live u (was_on u on).0;
      linked_once = λ u on. kept.linked_once u (was_on u on).0;
      once_or = λ u was. inl was;
      link = link_stays;
      frozen = λ u was inner off. (frozen kept.covers.lo u inner off, frozen kept.covers.hi u inner off);
      out = λ u was off. still_off u off;
      up = λ u was off. upd_other kept.covers.up b u a
          (λ same. both_ways _ (ap kept.covers.linked (sym same) ∙ off) b_was);
      right_some = λ u used inner. some_stays false u (kept.right_some u used inner);
      mark_small = λ u used inner. subst (λ k. k ≤ 1) (sym (mark_same u)) (kept.mark_small u used inner);
      mark_new = λ u none. mark_same u;
      unmarked = λ u was safe inner mark. stays_on u (kept.unmarked u was safe inner (sym (mark_same u) ∙ mark))
          (λ same. let one = ap now.mark same ∙ p_marked in let none = sym (mark_same u) ∙ mark in
          omega (arith, one, none))
          (λ same. leaf_no_inner l removal.leaf (subst (IsInner now) same inner));
      marked = λ u on inner mark. let was = was_on u on in
          inr (marked_elsewhere s d x here u (λ own. was.1 (sym own.2 ∙ is.parent))
          (kept.marked u was.0 inner (λ none. mark (mark_same u ∙ none))));
      was_linked = λ u on. ⊎_elim
          (λ same. inr (OldParent (form, omega (arith, at), omega (arith, at)) (ap suc at) (is.parent ∙ sym same)))
          (λ np. ⊎_elim (λ same. inr (OldLeaf (form, omega (arith, at), omega (arith, at)) (is.leaf ∙ sym same)))
          (λ nl. inl (stays_on u on np nl)) (cases_eq u l))
          (cases_eq u p);
      was_between = λ u between. absurd (none_between x form few u between);
      no_leaf = has_no_leaf (passed x) form;
      no_inner = λ has. no_insert (form_of x.thunk) form has.0;
      taken = taken;
      replaced = λ has. absurd (has_no_old (passed x) form has);
      leaf_new = λ e z t ne there has reg. leaf_out layout s kept e z t there has reg;
      inner_new = λ e z t ne there has reg. inner_out layout s kept e z t there has reg;
      sibling = sibling_stays;
    }
      where
        sentinel_on : (t : ℕ) → kept.covers.linked t ≡ true → IsLeaf now t → t < 3 → c.linked t ≡ true
        sentinel_on t on leaf low = stays_on t on
            (λ same. leaf_no_inner t leaf (subst (IsInner now) (sym same) removal.parent_inner))
            (λ same. let high = leaf_unfixed layout limits s sound kept d x here form in omega (arith, same, high, low))

    pub link_kept : TreeKept layout (after_scene s d x cells)
    link_kept = store_kept layout s sound kept d x here cells c kept.once link_change
