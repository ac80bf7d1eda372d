-- The Store that puts a new leaf in the place of another keeps what the tree keeps.
use Rattle.std.specs.Prelude.{◌⊎◌, Bool, true, false, Some}
use Rattle.std.proofs.Common.{◌≡◌, ◌≢◌, ℕ, suc, ◌<◌, ◌≤◌, refl, sym, ap, ◌∙◌, subst, inl, inr, ⊎_elim, arith}
use Rattle.std.proofs.lemmas.Bool.{cases_eq, both_ways}
use Rattle.structure_laws.specs.table_words.specs.small_lemmas.proofs.Numbers.{suc_equal as suc_eq}
use Rattle.structure_laws.specs.body_terms.specs.Update.{upd}
use Rattle.structure_laws.specs.body_terms.specs.Word.{value_of}
use Rattle.structure_laws.specs.table_words.specs.declared.layout.Layout.{Layout}
use Rattle.structure_laws.specs.table_words.specs.Limits.{IsWithinLimits}
use Rattle.structure_laws.specs.Scene.{Cells, Section, Live, Scene, passed}
use Rattle.structure_laws.specs.Sections.{Here}
use Rattle.structure_laws.specs.Sound.{Sound}
use Rattle.structure_laws.proofs.Changes.{upd_same, upd_other}
use Rattle.tree_bodies.specs.Tree.{lock_of, key_cell, mark_of, child_of, sibling_of, Form, Insert, Delete, Replace}
use Rattle.tree_bodies.specs.Tree.{form_of}
use Rattle.tree_laws.specs.Search.{Nodes, Covers, IsInner, IsLeaf, with_child, IsReplacement}
use Rattle.tree_laws.specs.Walk.{Walk, node_of}
use Rattle.tree_laws.specs.Leaves.{nodes, walk_of, IsNewLeaf, IsReplaced, HasLeaf, HasInner, HasTaken, HasOld, TreeKept}
use Rattle.tree_laws.specs.Leaves.{tree}
use Rattle.tree_laws.specs.Leaves.{IsBetween, NewLeaf, NewInner, OldParent, OldLeaf, ReplacedLeaf}
use Rattle.tree_laws.proofs.Alike.{tree_alike}
use Rattle.tree_laws.proofs.Apart.{key_apart, mark_apart}
use Rattle.tree_laws.proofs.Changed.{changed_alike, other_child, changed_some, changed_same, changed_sentinels}
use Rattle.tree_laws.proofs.Gives.{found_unfixed}
use Rattle.tree_laws.proofs.InsertStore.{leaves_apart, new_is_inner}
use Rattle.tree_laws.proofs.KeepsFrame.{StaysPassed}
use Rattle.tree_laws.proofs.Replacement as replacement
use Rattle.tree_laws.proofs.Replacing as replacing
use Rattle.tree_laws.proofs.Removing as removing
use Rattle.tree_laws.proofs.StoreChange.{marked_elsewhere, leaf_out, inner_out, after_scene, IsChange, store_kept}

no_insert : (f : Form) → f ≡ Replace → f ≡ Insert → ⊥
no_insert f e e' = cc

no_delete : (f : Form) → f ≡ Replace → f ≡ Delete → ⊥
no_delete f e e' = cc

equal_low : (a b : ℕ) → a ≡ b → a ≤ b
equal_low a b e = omega (arith, e)

module _ (layout : Layout) (limits : IsWithinLimits layout) (s : Scene) (sound : Sound tree layout s)
    (kept : TreeKept layout s) (d : ℕ) (x : Section) (here : Here s d x)
    (form : form_of x.thunk ≡ Replace) (at : x.at ≡ 7) where
  abbrev past : 6 ≤ x.at
  past = omega (arith, at)

  abbrev few : x.at ≤ 7
  few = omega (arith, at)

  abbrev now : Nodes
  now = nodes s.cells

  abbrev w : Walk
  w = walk_of layout x.op x.readings

  abbrev a : ℕ
  a = w.last.from

  abbrev side : Bool
  side = w.last.side

  abbrev l : ℕ
  l = node_of w

  abbrev leaf : IsNewLeaf s kept.once x
  leaf = replacing.leaf layout s sound kept d x here form past few

  abbrev f : ℕ
  f = leaf.slot

  is : IsReplacement now kept.covers side a l f
  is = replacing.replacement layout s sound kept d x here form past few

  abbrev c : Covers
  c = replacing.then_covers layout s sound kept d x here form past few

  -- what was linked once, and the new leaf
  abbrev once : ℕ → Bool
  once = upd kept.once f true

  which_is : (u : ℕ) → c.linked u ≡ true → (u ≡ f) ⊎ ((kept.covers.linked u ≡ true) × (u ≢ f) × (u ≢ l))
  which_is u on = replacement.which now kept.covers side a l f kept.tree is u on

  new_linked : c.linked f ≡ true
  new_linked = replacement.link_new now kept.covers side a l f kept.tree is

  is_linked : (u : ℕ) → kept.covers.linked u ≡ true → u ≢ l → c.linked u ≡ true
  is_linked u on nl = replacement.links now kept.covers side a l f kept.tree is u on nl

  l_linked : kept.covers.linked l ≡ true
  l_linked = (replacing.landed layout s sound kept d x here form past few).node.linked

  l_up : kept.covers.up l ≡ a
  l_up = (replacing.landed layout s sound kept d x here form past few).up

  l_out : c.linked l ≡ false
  l_out = replacement.old_out now kept.covers side a l f kept.tree is

  l_low : 3 ≤ l
  l_low = found_unfixed layout limits s sound kept d x here
      (replacing.is layout s sound kept d x here form past few).found

  leaf_no_inner : (u : ℕ) → IsLeaf now u → IsInner now u → ⊥
  leaf_no_inner u leaf inner = omega (arith, leaf, inner)

  inner_not_l : (u : ℕ) → IsInner now u → u ≢ l
  inner_not_l u inner same = leaf_no_inner l is.old_leaf (subst (IsInner now) same inner)

  -- a node that was linked once isn't the new one
  old_new : (u : ℕ) → kept.once u ≡ true → u ≢ f
  old_new u was e = both_ways _ (ap kept.once e ∙ leaf.new) was

  still : (u : ℕ) → kept.once u ≡ true → once u ≡ true
  still u was = upd_other kept.once f u true (old_new u was) ∙ was

  still_off : (u : ℕ) → kept.once u ≡ true → kept.covers.linked u ≡ false → c.linked u ≡ false
  still_off u was off = by (c.linked u) refl
    where
      by : (b : Bool) → c.linked u ≡ b → c.linked u ≡ false
      by true on = absurd (⊎_elim (old_new u was) (λ old. both_ways _ off old.0) (which_is u on))
      by false off' = off'

  once_new : (u : ℕ) → kept.once u ≡ false → u ≢ f → once u ≡ false
  once_new u none nf = upd_other kept.once f u true nf ∙ none

  -- another section's new nodes are others
  leaf_other : (e : ℕ) (z : Section) (u : ℕ) → e ≢ d → s.section e ≡ Some z → HasLeaf z → z.reg 2 ≡ suc u
      → once u ≡ false
  leaf_other e z u ne there has reg = once_new u (leaf_out layout s kept e z u there has reg)
      (λ same. leaves_apart layout s sound kept e d z x there here ne has (inr (form, past, few))
      (reg ∙ (ap suc same ∙ sym leaf.link)))

  inner_other : (e : ℕ) (z : Section) (u : ℕ) → e ≢ d → s.section e ≡ Some z → HasInner z → z.reg 3 ≡ suc u
      → once u ≡ false
  inner_other e z u ne there has reg =
      let was = kept.new_inner e z there has in
      let same : u ≡ was.slot = suc_eq u was.slot (sym reg ∙ was.link) in
      once_new u (inner_out layout s kept e z u there has reg)
      (λ e'. leaf_no_inner f leaf.leaf (subst (IsInner now) (sym same ∙ e')
      (new_is_inner layout s sound kept e z there has)))

  -- another section's sibling isn't the old leaf, whose parent's lock this section holds
  sibling_stays : (e : ℕ) (z : Section) (u : ℕ) → e ≢ d → s.section e ≡ Some z → HasTaken z
      → value_of (s.cells (sibling_of z.thunk)) ≡ suc u → c.linked u ≡ true
  sibling_stays e z u ne there has leads = is_linked u ((kept.taken e z there has).sibling u leads)
      (λ same. sound.apart e d z x there here ne x.thunk.lock
      (inl (lock_is ∙ (ap lock_of (sym l_up ∙ (ap kept.covers.up (sym same) ∙ above)) ∙ sym its_lock))) (inl refl))
    where
      above : kept.covers.up u ≡ (walk_of layout z.op z.readings).grand.from
      above = removing.sibling_up layout s sound kept e z there has.0 has.1 u leads

      its_lock : z.thunk.lock ≡ lock_of (walk_of layout z.op z.readings).grand.from
      its_lock = (removing.removing layout s sound kept e z there has.0).lock

      lock_is : x.thunk.lock ≡ lock_of a
      lock_is = (replacing.plain layout s sound kept d x here form past few).lock

  module _ (p word : ℕ) (place : p ≡ child_of side a) (stores : value_of word ≡ suc f) where
    abbrev cells : Cells
    cells = upd s.cells p word

    keys : (u : ℕ) → cells (key_cell u) ≡ s.cells (key_cell u)
    keys u = upd_other s.cells p (key_cell u) word (λ e. key_apart side u a (e ∙ place))

    others : (b : Bool) (u : ℕ) → child_of b u ≢ child_of side a → cells (child_of b u) ≡ s.cells (child_of b u)
    others b u ne = upd_other s.cells p (child_of b u) word (λ e. ne (e ∙ place))

    stored : value_of (cells (child_of side a)) ≡ suc f
    stored = ap value_of (upd_same s.cells p (child_of side a) word (sym place)) ∙ stores

    mark_same : (u : ℕ) → (nodes cells).mark u ≡ now.mark u
    mark_same u = ap value_of (upd_other s.cells p (mark_of u) word (λ e. mark_apart side u a (e ∙ place)))

    some : 0 < suc f
    some = omega arith

    a_linked : c.linked a ≡ true
    a_linked = is_linked a is.above (inner_not_l a is.above_inner)

    stays_passed : (u : ℕ) → kept.once u ≡ true → StaysPassed now (nodes cells) kept.covers c once u
    stays_passed u was = record {
      node = changed_same s.cells cells side a (suc f) keys others stored is.above_inner some u;
      once_linked = still u was;
      lo = λ inner. equal_low _ _ (replacement.lo_old now kept.covers side a l f kept.tree is u (old_new u was));
      hi = λ inner. equal_low _ _ (sym (replacement.hi_old now kept.covers side a l f kept.tree is u (old_new u was)));
    }

    -- what holds of the new leaf and of what was linked holds of those that are linked then
    linked_cases : (P : ℕ → Type 0) → P f → ((u : ℕ) → kept.covers.linked u ≡ true → P u) → (u : ℕ)
        → c.linked u ≡ true → P u
    linked_cases P new old u on = ⊎_elim (λ same. subst P (sym same) new) (λ was. old u was.0) (which_is u on)

    own_replaced : HasOld (passed x) → IsReplaced (after_scene s d x cells) c once (passed x)
    own_replaced has =
        let old = (replacing.is layout s sound kept d x here form past few).leaf in
        let l_once = kept.linked_once l l_linked in
        record {
          leaf_once = ap once old ∙ still l l_once;
          leaf_out = ap c.linked old ∙ l_out;
          leaf_up = (replacing.plain layout s sound kept d x here form past few).lock ∙ ap lock_of (sym (ap c.up old
              ∙ (replacement.up_old now kept.covers side a l f kept.tree is l (old_new l l_once) ∙ l_up)));
          leaf_live = ap s.status old ∙ kept.linked_live l l_linked;
        }

    replace_change : IsChange layout s sound kept d x here cells c once
    replace_change = record {
      tree = tree_alike (with_child now side a (suc f)) (nodes cells) c
          (changed_alike s.cells cells side a (suc f) keys others stored c)
          (replacing.replacement_kept layout s sound kept d x here form past few).tree;
      sentinels = changed_sentinels s.cells cells side a (suc f) keys others stored is.above_inner some kept.covers c
          kept.sentinels (sentinel_on 1 kept.sentinels.first (omega arith))
          (sentinel_on 2 kept.sentinels.last (omega arith))
          (replacing.not_root layout s sound kept d x here form past few);
      same = changed_same s.cells cells side a (suc f) keys others stored is.above_inner some;
      grown = stays_passed;
      linked_live = linked_cases (λ u. s.status u ≡ Live) leaf.live kept.linked_live;
      linked_once = linked_cases (λ u. once u ≡ true) (upd_same kept.once f f true refl)
          (λ u on. still u (kept.linked_once u on));
      once_or = λ u was. ⊎_elim (λ same. inr (ap c.linked same ∙ new_linked))
          (λ nf. inl (sym (upd_other kept.once f u true nf) ∙ was)) (cases_eq u f);
      link = λ b u off. other_child s.cells cells side a (suc f) keys others stored b u
          (λ e same. both_ways _ (ap c.linked (sym same) ∙ off) a_linked);
      frozen = λ u was inner off. (
        replacement.lo_old now kept.covers side a l f kept.tree is u (old_new u was),
        replacement.hi_old now kept.covers side a l f kept.tree is u (old_new u was),
      );
      out = still_off;
      up = λ u was off. replacement.up_old now kept.covers side a l f kept.tree is u (old_new u was);
      right_some = λ u used inner. changed_some s.cells cells side a (suc f) keys others stored is.above_inner some
          false u (kept.right_some u used inner);
      mark_small = λ u used inner. subst (λ k. k ≤ 1) (sym (mark_same u)) (kept.mark_small u used inner);
      mark_new = λ u none. mark_same u;
      unmarked = λ u was safe inner mark.
          is_linked u (kept.unmarked u was safe inner (sym (mark_same u) ∙ mark)) (inner_not_l u inner);
      marked = λ u on inner mark. ⊎_elim
          (λ same. absurd (leaf_no_inner u (subst (IsLeaf now) (sym same) leaf.leaf) inner))
          (λ old. inr (marked_elsewhere s d x here u (λ own. no_delete (form_of x.thunk) form own.0)
          (kept.marked u old.0 inner (λ none. mark (mark_same u ∙ none))))) (which_is u on);
      was_linked = λ u on. ⊎_elim
          (λ same. inr (ReplacedLeaf (form, ap suc at)
          ((replacing.is layout s sound kept d x here form past few).leaf ∙ sym same)))
          (λ nl. inl (is_linked u on nl)) (cases_eq u l);
      was_between = λ u between. inl (own_linked u between);
      no_leaf = λ has. ⊎_elim (λ insert. no_insert (form_of x.thunk) form insert.0)
          (λ late. let high = late.2 in omega (arith, at, high)) has;
      no_inner = λ has. no_insert (form_of x.thunk) form has.0;
      taken = λ has. absurd (no_delete (form_of x.thunk) form has.0);
      replaced = own_replaced;
      leaf_new = leaf_other;
      inner_new = inner_other;
      sibling = sibling_stays;
    }
      where
        sentinel_on : (u : ℕ) → kept.covers.linked u ≡ true → u < 3 → c.linked u ≡ true
        sentinel_on u on low = is_linked u on (λ same. let high = l_low in omega (arith, same, high, low))

        own_linked : (u : ℕ) → IsBetween x u → c.linked u ≡ true
        own_linked u (NewLeaf has reg) = ap c.linked (suc_eq u f (sym reg ∙ leaf.link)) ∙ new_linked
        own_linked u (NewInner has reg) = absurd (no_insert (form_of x.thunk) form has.0)
        own_linked u (OldParent has late parent) = absurd (no_delete (form_of x.thunk) form has.0)
        own_linked u (OldLeaf has old) = absurd (no_delete (form_of x.thunk) form has.0)
        own_linked u (ReplacedLeaf has old) = absurd (let late = has.1 in omega (arith, at, late))

    pub replace_kept : TreeKept layout (after_scene s d x cells)
    replace_kept = store_kept layout s sound kept d x here cells c once replace_change
