-- A removal's Store of its parent's mark keeps what the tree keeps.
use Rattle.std.specs.Prelude.{Bool, true, false}
use Rattle.std.proofs.Common.{◌≡◌, ◌≢◌, ℕ, suc, ◌<◌, ◌≤◌, refl, sym, ap, ◌∙◌, subst, inl, inr, ⊎_elim, arith}
use Rattle.std.proofs.lemmas.Bool.{cases_eq, both_ways}
use Rattle.structure_laws.specs.body_terms.specs.Update.{upd}
use Rattle.structure_laws.specs.body_terms.specs.Word.{value_of}
use Rattle.structure_laws.specs.table_words.specs.declared.layout.Layout.{Layout}
use Rattle.structure_laws.specs.Scene.{Cells, Section, Scene, passed}
use Rattle.structure_laws.specs.Sections.{Here}
use Rattle.structure_laws.specs.Sound.{Sound}
use Rattle.structure_laws.proofs.Changes.{upd_same, upd_other}
use Rattle.tree_bodies.specs.Tree.{key_cell, mark_of, child_of, Form, Insert, Delete, Replace, form_of}
use Rattle.tree_laws.specs.Search.{Nodes}
use Rattle.tree_laws.specs.Walk.{Walk}
use Rattle.tree_laws.specs.Leaves.{nodes, walk_of, HasLeaf, HasOld, TreeKept, tree}
use Rattle.tree_laws.specs.Leaves.{IsBetween, NewLeaf, NewInner, OldParent, OldLeaf, ReplacedLeaf}
use Rattle.tree_laws.proofs.Alike.{AreAlike, tree_alike, sentinels_alike}
use Rattle.tree_laws.proofs.Apart.{key_no_mark, child_no_mark, mark_other}
use Rattle.tree_laws.proofs.KeepsFrame.{StaysNode}
use Rattle.tree_laws.proofs.StoreChange.{marked_elsewhere, leaf_out, inner_out, after_scene, IsChange, store_kept}
use Rattle.tree_laws.proofs.Open as open_section

pub no_insert : (f : Form) → f ≡ Delete → f ≡ Insert → ⊥
no_insert f e e' = cc

no_replace : (f : Form) → f ≡ Delete → f ≡ Replace → ⊥
no_replace f e e' = cc

-- a removal has neither a new leaf nor put one in the place of another
pub has_no_leaf : (x : Section) → form_of x.thunk ≡ Delete → HasLeaf x → ⊥
has_no_leaf x form (inl insert) = no_insert (form_of x.thunk) form insert.0
has_no_leaf x form (inr replace) = no_replace (form_of x.thunk) form replace.0

pub has_no_old : (x : Section) → form_of x.thunk ≡ Delete → HasOld x → ⊥
has_no_old x form old = no_replace (form_of x.thunk) form old.0

-- a removal that has not stored the link holds no node that is between
pub none_between : (x : Section) → form_of x.thunk ≡ Delete → x.at ≤ 14 → (t : ℕ) → IsBetween x t → ⊥
none_between x form few t (NewLeaf has reg) = has_no_leaf x form has
none_between x form few t (ReplacedLeaf has leaf) = has_no_old x form has
none_between x form few t (NewInner has reg) = no_insert (form_of x.thunk) form has.0
none_between x form few t (OldParent has at parent) = let late = has.1 in omega (arith, few, late)
none_between x form few t (OldLeaf has leaf) = let late = has.1 in omega (arith, few, late)

module _ (layout : Layout) (s : Scene) (sound : Sound tree layout s) (kept : TreeKept layout s)
    (d : ℕ) (x : Section) (here : Here s d x) (form : form_of x.thunk ≡ Delete) (at : x.at ≡ 13)
    (word : ℕ) (marks : value_of word ≡ 1) where
  abbrev now : Nodes
  now = nodes s.cells

  abbrev w : Walk
  w = walk_of layout x.op x.readings

  abbrev p : ℕ
  p = w.last.from

  abbrev cells : Cells
  cells = upd s.cells (mark_of p) word

  removing : open_section.IsRemoving layout s sound kept d x here
  removing = open_section.delete_is_removing layout s sound kept d x here form

  found : open_section.HasFound layout s sound kept d x here
  found = open_section.delete_found layout s sound kept d x here form (omega (arith, at)) (omega (arith, at))

  p_once : kept.once p ≡ true
  p_once = kept.linked_once p found.parent_linked

  key_same : (t : ℕ) → (nodes cells).key t ≡ now.key t
  key_same t = ap value_of (upd_other s.cells (mark_of p) (key_cell t) word (key_no_mark t p))

  child_same : (b : Bool) (t : ℕ) → (nodes cells).child b t ≡ now.child b t
  child_same b t = ap value_of (upd_other s.cells (mark_of p) (child_of b t) word (child_no_mark b t p))

  mark_there : (t : ℕ) → t ≡ p → (nodes cells).mark t ≡ 1
  mark_there t same = ap value_of (upd_same s.cells (mark_of p) (mark_of t) word (ap mark_of same)) ∙ marks

  mark_same : (t : ℕ) → t ≢ p → (nodes cells).mark t ≡ now.mark t
  mark_same t ne = ap value_of (upd_other s.cells (mark_of p) (mark_of t) word (mark_other t p ne))

  alike : AreAlike now (nodes cells) kept.covers
  alike = record { key = λ t on. key_same t; child = λ b t on. child_same b t }

  same : (t : ℕ) → StaysNode now (nodes cells) t
  same t = record {
    inner = λ inner. subst (λ k. 0 < k) (sym (child_same true t)) inner;
    leaf = λ leaf. child_same true t ∙ leaf;
    key = key_same t;
    value = λ leaf. child_same false t;
  }

  mark_change : IsChange layout s sound kept d x here cells kept.covers kept.once
  mark_change = record {
    tree = tree_alike now (nodes cells) kept.covers alike kept.tree;
    sentinels = sentinels_alike now (nodes cells) kept.covers alike kept.tree kept.sentinels;
    same = same;
    grown = λ t was. record { node = same t; once_linked = was; lo = λ inner. omega arith; hi = λ inner. omega arith };
    linked_live = kept.linked_live;
    linked_once = kept.linked_once;
    once_or = λ t was. inl was;
    link = λ b t off. child_same b t;
    frozen = λ t was inner off. (refl, refl);
    out = λ t was off. off;
    up = λ t was off. refl;
    right_some = λ t used inner. subst (λ k. 0 < k) (sym (child_same false t)) (kept.right_some t used inner);
    mark_small = λ t used inner. ⊎_elim (λ same. subst (λ k. k ≤ 1) (sym (mark_there t same)) (omega arith))
        (λ ne. subst (λ k. k ≤ 1) (sym (mark_same t ne)) (kept.mark_small t used inner)) (cases_eq t p);
    mark_new = λ t none. mark_same t (λ same. both_ways _ (ap kept.once (sym same) ∙ none) p_once);
    unmarked = λ t was safe inner mark. ⊎_elim
        (λ same. let one = mark_there t same in absurd (omega (arith, mark, one)))
        (λ ne. kept.unmarked t was safe inner (sym (mark_same t ne) ∙ mark)) (cases_eq t p);
    marked = λ t on inner mark. ⊎_elim
        (λ same. inl (form, ap suc at, removing.parent ∙ sym same))
        (λ ne. inr (marked_elsewhere s d x here t (λ own. let its = own.1 in omega (arith, at, its))
        (kept.marked t on inner (λ none. mark (mark_same t ne ∙ none)))))
        (cases_eq t p);
    was_linked = λ t on. inl on;
    was_between = λ t between. absurd (none_between x form (omega (arith, at)) t between);
    no_leaf = has_no_leaf (passed x) form;
    no_inner = λ has. no_insert (form_of x.thunk) form has.0;
    taken = λ has. let late = has.1 in absurd (omega (arith, at, late));
    replaced = λ has. absurd (has_no_old (passed x) form has);
    leaf_new = λ e z t ne there has reg. leaf_out layout s kept e z t there has reg;
    inner_new = λ e z t ne there has reg. inner_out layout s kept e z t there has reg;
    sibling = λ e z t ne there has leads. (kept.taken e z there has).sibling t leads;
  }

  pub mark_kept : TreeKept layout (after_scene s d x cells)
  mark_kept = store_kept layout s sound kept d x here cells kept.covers kept.once mark_change
