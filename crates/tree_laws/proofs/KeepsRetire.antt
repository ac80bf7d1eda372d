-- The tree keeps what it keeps where a section retires the parent that it has taken out, and then the leaf, or the
-- leaf in whose place it has put another.
use Rattle.std.specs.Prelude.{◌⊎◌, ◌+◌, Bool, true, false, Some, slice_get}
use Rattle.std.proofs.Common.{◌≡◌, ◌≢◌, ℕ, suc, ◌<◌, ◌≤◌, refl, sym, ap, ◌∙◌, subst, inl, inr, ⊎_elim, arith}
use mathlib.Core.Logic.{dite}
use native.Mathlib.Decide.{ℕ_discrete}
use Rattle.structure_laws.specs.table_words.specs.small_lemmas.proofs.Bools.{not_both as true_false}
use Rattle.structure_laws.specs.table_words.specs.small_lemmas.proofs.Numbers.{suc_equal as suc_eq}
use Rattle.structure_laws.specs.body_terms.specs.Update.{upd}
use Rattle.structure_laws.specs.body_terms.specs.declared.step.Step.{Step}
use Rattle.structure_laws.specs.body_terms.specs.declared.step.Step.TheVariants.{Retire}
use Rattle.structure_laws.specs.body_terms.specs.declared.thunk.Thunk.{Thunk}
use Rattle.structure_laws.specs.table_words.specs.declared.layout.Layout.{Layout}
use Rattle.structure_laws.specs.table_words.specs.Limits.{IsWithinLimits}
use Rattle.structure_laws.specs.Scene.{Section, Status, Free, Live, Retired, Scene, with_status, passes}
use Rattle.structure_laws.specs.Sections.{Here, IsStep, Settled, is_exit}
use Rattle.structure_laws.specs.Cells.{Links, cell_of}
use Rattle.structure_laws.specs.Sound.{Sound}
use Rattle.structure_laws.specs.Gives.{Gives}
use Rattle.structure_laws.proofs.Changes.{upd_same, upd_other}
use Rattle.structure_laws.proofs.Progress.{stepped}
use Rattle.tree_bodies.specs.Tree.{child_of, Form, Look, Insert, Delete, Replace, Empty, form_of, body_of}
use Rattle.tree_bodies.specs.Tree.{delete_steps, replace_steps, parent_in, leaf_in, old_leaf}
use Rattle.tree_laws.specs.Search.{Nodes, IsInner, IsLeaf}
use Rattle.tree_laws.specs.Leaves.{nodes, IsTaken, HasLeaf, HasTaken, HasOld, TreeKept, tree}
use Rattle.tree_laws.specs.Leaves.{IsBetween, NewLeaf, NewInner, OldParent, OldLeaf, ReplacedLeaf}
use Rattle.tree_laws.proofs.Forms.{replace_retire}
use Rattle.tree_laws.proofs.Gives.{delete_retire, look_retire, insert_retire, tree_gives}
use Rattle.tree_laws.proofs.KeepsFrame.{between_live}
use Rattle.tree_laws.proofs.KeepsSlots.{node_link, cell_in_use, child_live, step_kept}
use Rattle.tree_laws.proofs.Open as open_section
use Rattle.tree_laws.proofs.Open.{side_cell, child_cell, side_high}

some_eq : (a b : Section) → Some a ≡ Some b → a ≡ b
some_eq a b e = cc

-- a removal can't leave any more once it has stored
delete_late : (t : Thunk) (j : ℕ) (step : Step) → slice_get (delete_steps t) j ≡ Some step → 12 ≤ j
    → is_exit step ≡ false
delete_late t j step h low = grind arith

-- nor can a replacement
replace_late : (t : Thunk) (j : ℕ) (step : Step) → slice_get (replace_steps t) j ≡ Some step → 8 ≤ j
    → is_exit step ≡ false
replace_late t j step h low = grind arith

module _ (layout : Layout) (limits : IsWithinLimits layout) (s : Scene) (sound : Sound tree layout s)
    (kept : TreeKept layout s) where
  gives : Gives tree layout s
  gives = tree_gives layout limits s sound kept

  taken_settled : (d : ℕ) (x : Section) → Here s d x → HasTaken x → Settled tree x
  taken_settled d x here has j step low h = delete_late x.thunk j step
      (open_section.step_as layout s sound kept d x here Delete has.0 j step h) (let late = has.1 in
      omega (arith, late, low))

  old_settled : (d : ℕ) (x : Section) → Here s d x → HasOld x → Settled tree x
  old_settled d x here has j step low h = replace_late x.thunk j step
      (open_section.step_as layout s sound kept d x here Replace has.0 j step h) (let at = has.1 in
      omega (arith, at, low))

  old_step : (d : ℕ) (x : Section) → Here s d x → form_of x.thunk ≡ Replace → IsStep tree x 8
      (Retire (old_leaf x.thunk))
  old_step d x here form = open_section.step_is layout s sound kept d x here Replace form 8
      (Retire (old_leaf x.thunk)) refl

  parent_step : (d : ℕ) (x : Section) → Here s d x → form_of x.thunk ≡ Delete → IsStep tree x 15
      (Retire (parent_in x.thunk))
  parent_step d x here form = open_section.step_is layout s sound kept d x here Delete form 15
      (Retire (parent_in x.thunk)) refl

  leaf_step : (d : ℕ) (x : Section) → Here s d x → form_of x.thunk ≡ Delete → IsStep tree x 16
      (Retire (leaf_in x.thunk))
  leaf_step d x here form = open_section.step_is layout s sound kept d x here Delete form 16
      (Retire (leaf_in x.thunk)) refl

  module _ (d : ℕ) (x : Section) (here : Here s d x) (t y : ℕ) (h : IsStep tree x x.at (Retire t))
      (bound : (q z i : ℕ) → i < 5 → s.status q ≡ Retired z → Links tree s (cell_of tree q i) t → z ≤ y) where
    abbrev now : Nodes
    now = nodes s.cells

    abbrev status : ℕ → Status
    status = upd s.status t (Retired y)

    abbrev after : Section
    after = stepped x x.reg

    abbrev next : Scene
    next = with_status (passes s d x) t (Retired y)

    other : (u : ℕ) → u ≢ t → status u ≡ s.status u
    other u ne = upd_other s.status t u (Retired y) ne

    insert_delete : (z : Section) → form_of z.thunk ≡ Insert → form_of z.thunk ≡ Delete → ⊥
    insert_delete z a b = cc

    insert_replace : (z : Section) → form_of z.thunk ≡ Insert → form_of z.thunk ≡ Replace → ⊥
    insert_replace z a b = cc

    replace_delete : (z : Section) → form_of z.thunk ≡ Replace → form_of z.thunk ≡ Delete → ⊥
    replace_delete z a b = cc

    -- the parent is retired first
    data IsRetiring : Type 0 where
      Parent : HasTaken x → x.at ≡ 15 → t ≡ parent_in x.thunk → IsRetiring
      Leaf : HasTaken x → x.at ≡ 16 → t ≡ leaf_in x.thunk → IsRetiring
      Old : HasOld x → t ≡ old_leaf x.thunk → IsRetiring

    retiring : IsRetiring
    retiring = by (form_of x.thunk) refl
      where
        step : (f : Form) → form_of x.thunk ≡ f → slice_get (body_of f x.thunk) x.at ≡ Some (Retire t)
        step f form = open_section.step_as layout s sound kept d x here f form x.at (Retire t) h

        by : (f : Form) → form_of x.thunk ≡ f → IsRetiring
        by Look form = absurd (look_retire x.thunk x.at t (step Look form))
        by Insert form = absurd (insert_retire x.thunk x.at t (step Insert form))
        by Delete form = ⊎_elim
            (λ a. let at = a.0 in Parent (form, omega (arith, at), omega (arith, at)) at a.1)
            (λ a. let at = a.0 in Leaf (form, omega (arith, at), omega (arith, at)) at a.1)
            (delete_retire x.thunk x.at t (step Delete form))
        by Replace form = let a = replace_retire x.thunk x.at t (step Replace form) in Old (form, a.0) a.1
        by Empty form = absurd (let z = step Empty form in cc)

    was : HasTaken x → IsTaken s kept.covers kept.once x
    was has = kept.taken d x here has

    -- what is retired was linked once, isn't linked, and is live
    record IsGone : Type 0 where
      once : kept.once t ≡ true
      out : kept.covers.linked t ≡ false
      live : s.status t ≡ Live
      -- the section can't leave any more, and has neither new nodes nor a link still to store
      settled : Settled tree x
      inserts_none : form_of x.thunk ≡ Insert → ⊥
      replaces : form_of x.thunk ≡ Replace → x.at ≡ 8
      removes : form_of x.thunk ≡ Delete → 15 ≤ x.at

    gone : IsRetiring → IsGone
    gone (Parent has at is) = record {
      once = ap kept.once is ∙ (was has).parent_once;
      out = ap kept.covers.linked is ∙ (was has).parent_out;
      live = ap s.status is ∙ (was has).parent_live at;
      settled = taken_settled d x here has;
      inserts_none = λ form. insert_delete x form has.0;
      replaces = λ form. absurd (replace_delete x form has.0);
      removes = λ form. has.1;
    }
    gone (Leaf has at is) = record {
      once = ap kept.once is ∙ (was has).leaf_once;
      out = ap kept.covers.linked is ∙ (was has).leaf_out;
      live = ap s.status is ∙ (was has).leaf_live;
      settled = taken_settled d x here has;
      inserts_none = λ form. insert_delete x form has.0;
      replaces = λ form. absurd (replace_delete x form has.0);
      removes = λ form. has.1;
    }
    gone (Old has is) = let old = kept.replaced d x here has in record {
      once = ap kept.once is ∙ old.leaf_once;
      out = ap kept.covers.linked is ∙ old.leaf_out;
      live = ap s.status is ∙ old.leaf_live;
      settled = old_settled d x here has;
      inserts_none = λ form. insert_replace x form has.0;
      replaces = λ form. has.1;
      removes = λ form. absurd (replace_delete x has.0 form);
    }

    is_gone : IsGone
    is_gone = gone retiring

    -- it has no new nodes, now or behind its Retire
    no_leaf : HasLeaf x → ⊥
    no_leaf (inl insert) = is_gone.inserts_none insert.0
    no_leaf (inr replace) = let at = is_gone.replaces replace.0 in let few = replace.2 in omega (arith, at, few)

    no_leaf_after : HasLeaf after → ⊥
    no_leaf_after (inl insert) = is_gone.inserts_none insert.0
    no_leaf_after (inr replace) = let at = is_gone.replaces replace.0 in let few = replace.2 in omega (arith, at, few)

    leaf_no_parent : HasTaken x → leaf_in x.thunk ≢ parent_in x.thunk
    leaf_no_parent has e =
        let leaf = subst (IsLeaf now)
        (sym (open_section.delete_is_removing layout s sound kept d x here has.0).leaf)
        (open_section.leaf_is layout s sound kept d x here) in
        let inner = subst (IsInner now) (sym e) (was has).parent_inner in
        omega (arith, leaf, inner)

    used_before : (u : ℕ) → status u ≢ Free → s.status u ≢ Free
    used_before u some free = dite (ℕ_discrete u t)
        (λ e. live_free (sym is_gone.live ∙ (ap s.status (sym e) ∙ free)))
        (λ ne. some (other u ne ∙ free))
      where
        live_free : Live ≡ Free → ⊥
        live_free e = cc

    -- what the section has between
    carried : IsRetiring → (u : ℕ) → u ≢ t → IsBetween x u → IsBetween after u
    carried is u ne (NewLeaf new reg) = absurd (no_leaf new)
    carried is u ne (NewInner new reg) = absurd (is_gone.inserts_none new.0)
    carried (Parent has at is) u ne (OldParent old at' parent) = absurd (ne (sym parent ∙ sym is))
    carried (Leaf has at is) u ne (OldParent old at' parent) = absurd (omega (arith, at, at'))
    carried (Old has is) u ne (OldParent old at' parent) = absurd (replace_delete x has.0 old.0)
    carried (Parent has at is) u ne (OldLeaf old leaf) = OldLeaf (has.0, omega (arith, at), omega (arith, at)) leaf
    carried (Leaf has at is) u ne (OldLeaf old leaf) = absurd (ne (sym leaf ∙ sym is))
    carried (Old has is) u ne (OldLeaf old leaf) = absurd (replace_delete x has.0 old.0)
    carried (Parent has at is) u ne (ReplacedLeaf old leaf) = absurd (replace_delete x old.0 has.0)
    carried (Leaf has at is) u ne (ReplacedLeaf old leaf) = absurd (replace_delete x old.0 has.0)
    carried (Old has is) u ne (ReplacedLeaf old leaf) = absurd (ne (sym leaf ∙ sym is))

    -- no other section has this slot
    own_alone : (e : ℕ) (z : Section) (u : ℕ) → e ≢ d → Here s e z → IsBetween z u → u ≢ t
    own_alone e z u ne there (NewLeaf new reg) same = let is = kept.new_leaf e z there new in true_false is_gone.once
        (ap kept.once (sym same ∙ suc_eq u is.slot (sym reg ∙ is.link)) ∙ is.new)
    own_alone e z u ne there (NewInner new reg) same = let is = kept.new_inner e z there new in true_false is_gone.once
        (ap kept.once (sym same ∙ suc_eq u is.slot (sym reg ∙ is.link)) ∙ is.new)
    own_alone e z u ne there (OldParent old at parent) same = ne (gives.retire_once e d 15 x.at t z x there here
        (taken_settled e z there old) is_gone.settled (omega (arith, at)) (omega arith)
        (subst (λ k. IsStep tree z 15 (Retire k)) (parent ∙ same) (parent_step e z there old.0)) h).0
    own_alone e z u ne there (OldLeaf old leaf) same = ne (gives.retire_once e d 16 x.at t z x there here
        (taken_settled e z there old) is_gone.settled (let few = old.2 in omega (arith, few)) (omega arith)
        (subst (λ k. IsStep tree z 16 (Retire k)) (leaf ∙ same) (leaf_step e z there old.0)) h).0
    own_alone e z u ne there (ReplacedLeaf old leaf) same = ne (gives.retire_once e d 8 x.at t z x there here
        (old_settled e z there old) is_gone.settled (let at = old.1 in omega (arith, at)) (omega arith)
        (subst (λ k. IsStep tree z 8 (Retire k)) (leaf ∙ same) (old_step e z there old.0)) h).0

    -- the leaf of a removal that retires its parent, or has retired it
    leaf_after : IsRetiring → HasTaken after → status (leaf_in x.thunk) ≡ Live
    leaf_after (Parent has at is) later = other (leaf_in x.thunk) (λ e. leaf_no_parent has (e ∙ is)) ∙
        (was has).leaf_live
    leaf_after (Leaf has at is) later = absurd (let few = later.2 in omega (arith, at, few))
    leaf_after (Old has is) later = absurd (replace_delete x has.0 later.0)

    -- where its links lead
    child_other : (u : ℕ) (b : Bool) → IsInner now t → now.child b t ≡ suc u → status u ≡ Live
    child_other u b inner link =
        other u (λ e. gives.retire_unlinked d t (child_of b t) x here h
        (cell_in_use layout limits s sound kept t b is_gone.live) (node_link s.cells t b inner, link ∙ ap suc e))
        ∙ child_live layout limits s sound kept t u b is_gone.live inner link

    limbo : (q z u : ℕ) (b : Bool) → status q ≡ Retired z → s.epoch ≤ z + 1 → IsInner now q → now.child b q ≡ suc u
        → (status u ≡ Live) ⊎ ((w : ℕ) × (status u ≡ Retired w) × (z ≤ w))
    limbo q z u b is recent inner link = dite (ℕ_discrete q t)
        (λ e. inl (child_other u b (subst (IsInner now) e inner) (ap (now.child b) (sym e) ∙ link)))
        (λ ne. let before = sym (other q ne) ∙ is in dite (ℕ_discrete u t)
        (λ same. inr (y, upd_same s.status t u (Retired y) same, late q z b before inner (link ∙ ap suc same)))
        (λ ne'. ⊎_elim (λ live. inl (other u ne' ∙ live)) (λ old. inr (old.0, other u ne' ∙ old.1, old.2))
        (kept.limbo q z u b before recent inner link)))
      where
        late : (q z : ℕ) (b : Bool) → s.status q ≡ Retired z → IsInner now q → now.child b q ≡ suc t → z ≤ y
        late q z b before inner link = let high = side_high b in
            bound q z (side_cell b) (omega (arith, high)) before (subst (λ p. Links tree s p t) (child_cell b q)
            (node_link s.cells q b inner, link))

    -- before its Retire a removal had taken out the same
    taken_before : HasTaken after → HasTaken x
    taken_before later = let few = later.2 in (later.0, is_gone.removes later.0, omega (arith, few))

    pub retire_kept : TreeKept layout next
    retire_kept = step_kept layout s sound kept d x here status x.reg (record {
      linked = λ u on. other u (λ e. true_false on (ap kept.covers.linked e ∙ is_gone.out)) ∙ kept.linked_live u on;
      retired = λ u z is. dite (ℕ_discrete u t) (λ e. ap kept.once e ∙ is_gone.once)
          (λ ne. kept.retired_once u z (sym (other u ne) ∙ is));
      used = λ u once free. dite (ℕ_discrete u t) (λ e. retired_free (sym (upd_same s.status t u (Retired y) e)
          ∙ free)) (λ ne. kept.once_used u once (sym (other u ne) ∙ free));
      fresh = λ u some. inl (used_before u some);
      safe = λ u once safe. dite (ℕ_discrete u t) (λ e. inl (ap s.status e ∙ is_gone.live))
          (λ ne. ⊎_elim (λ live. inl (sym (other u ne) ∙ live))
          (λ old. inr (old.0, sym (other u ne) ∙ old.1, old.2)) safe);
      marks_none = λ form at. let late = is_gone.removes form in omega (arith, at, late);
      live = λ u live. let ne : u ≢ t = λ e. retired_live (sym (upd_same s.status t u (Retired y) e) ∙ live) in
          ⊎_elim inl (λ between. dite (ℕ_discrete between.0 d)
          (λ same. inr
          (inr (carried retiring u ne (subst (λ z. IsBetween z u) (some_eq between.1 x (sym between.2
          ∙ (ap s.section same ∙ here))) between.3))))
          (λ ne'. inr (inl (between.0, between.1, ne', between.2, between.3)))) (kept.live u (sym (other u ne) ∙ live));
      limbo = limbo;
      others = λ e z u ne there between. other u (own_alone e z u ne there between)
          ∙ between_live layout s kept e z u there between;
      new_leaf = λ new. absurd (no_leaf_after new);
      new_inner = λ new. absurd (is_gone.inserts_none new.0);
      taken = λ later. let old = was (taken_before later) in record {
        parent_once = old.parent_once;
        parent_out = old.parent_out;
        parent_unfixed = old.parent_unfixed;
        parent_inner = old.parent_inner;
        parent_live = λ at. absurd (let late = is_gone.removes later.0 in omega (arith, at, late));
        leaf_once = old.leaf_once;
        leaf_out = old.leaf_out;
        leaf_unfixed = old.leaf_unfixed;
        leaf_up = old.leaf_up;
        leaf_live = leaf_after retiring later;
        sibling = old.sibling;
      };
      replaced = λ later. absurd (let before = is_gone.replaces later.0 in let at = later.1 in omega
          (arith, before, at));
    })
      where
        retired_free : Retired y ≡ Free → ⊥
        retired_free e = cc

        retired_live : Retired y ≡ Live → ⊥
        retired_live e = cc
