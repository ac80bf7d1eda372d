-- The memory with one link of an inner node changed, and marks.
use Rattle.std.specs.Prelude.{Bool, true, false}
use Rattle.std.proofs.Common.{◌≡◌, ◌≢◌, ℕ, ◌<◌, sym, ap, ◌∙◌, subst, ⊎_elim, arith}
use Rattle.structure_laws.specs.body_terms.specs.Word.{value_of}
use Rattle.structure_laws.specs.Scene.{Cells}
use Rattle.tree_bodies.specs.Tree.{key_cell, child_of}
use Rattle.tree_laws.specs.Search.{Nodes, Covers, IsInner, IsLeaf, HasSentinels, with_child}
use Rattle.tree_laws.specs.Leaves.{nodes}
use Rattle.tree_laws.proofs.Alike.{AreAlike}
use Rattle.tree_laws.proofs.Apart.{child_apart}
use Rattle.tree_laws.proofs.KeepsFrame.{StaysNode}
use Rattle.tree_laws.proofs.Removal.{split}

module _ (cells after : Cells) (side : Bool) (a link : ℕ) (keys : (t : ℕ) → after (key_cell t) ≡ cells (key_cell t))
    (links : (b : Bool) (t : ℕ) → child_of b t ≢ child_of side a → after (child_of b t) ≡ cells (child_of b t))
    (stored : value_of (after (child_of side a)) ≡ link) where
  abbrev now : Nodes
  now = nodes cells

  changed_child : (b : Bool) (t : ℕ) → (nodes after).child b t ≡ (with_child now side a link).child b t
  changed_child b t = ⊎_elim
      (λ here. (λ i. value_of (after (child_of (here.0 i) (here.1 i)))) ∙ (stored ∙ sym here.2))
      (λ there. ap value_of (links b t (child_apart b side t a there.0)) ∙ sym there.1)
      (split now.child side a link b t)

  pub changed_alike : (c : Covers) → AreAlike (with_child now side a link) (nodes after) c
  changed_alike c = record { key = λ t on. ap value_of (keys t); child = λ b t on. changed_child b t }

  pub other_child : (b : Bool) (t : ℕ) → (b ≡ side → t ≢ a) → (nodes after).child b t ≡ now.child b t
  other_child b t ne = ap value_of (links b t (child_apart b side t a ne))

  module _ (above_inner : IsInner now a) (some : 0 < link) where
    -- a link that leads to a node leads to one still
    pub changed_some : (b : Bool) (t : ℕ) → 0 < now.child b t → 0 < (nodes after).child b t
    changed_some b t was = subst (λ k. 0 < k) (sym (changed_child b t)) (⊎_elim
        (λ here. subst (λ k. 0 < k) (sym here.2) some)
        (λ there. subst (λ k. 0 < k) (sym there.1) was)
        (split now.child side a link b t))

    pub leaf_other : (t : ℕ) → IsLeaf now t → t ≢ a
    leaf_other t leaf same = let none = subst (IsLeaf now) same leaf in omega (arith, none, above_inner)

    pub changed_same : (t : ℕ) → StaysNode now (nodes after) t
    changed_same t = record {
      inner = changed_some true t;
      leaf = λ leaf. other_child true t (λ e. leaf_other t leaf) ∙ leaf;
      key = ap value_of (keys t);
      value = λ leaf. other_child false t (λ e. leaf_other t leaf);
    }

    pub changed_sentinels : (c c' : Covers) → HasSentinels now c → c'.linked 1 ≡ true → c'.linked 2 ≡ true
        → (false ≡ side → 0 ≡ a → ⊥) → HasSentinels (nodes after) c'
    changed_sentinels c c' is first last ne = record {
      root_key = ap value_of (keys 0) ∙ is.root_key;
      root_right = other_child false 0 ne ∙ is.root_right;
      first = first;
      first_leaf = other_child true 1 (λ e. leaf_other 1 is.first_leaf) ∙ is.first_leaf;
      first_key = ap value_of (keys 1) ∙ is.first_key;
      last = last;
      last_leaf = other_child true 2 (λ e. leaf_other 2 is.last_leaf) ∙ is.last_leaf;
      last_key = ap value_of (keys 2) ∙ is.last_key;
    }
