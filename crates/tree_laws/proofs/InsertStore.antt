-- An insertion's Store, the link to its new inner node, keeps what the tree keeps.
use Rattle.std.specs.Prelude.{◌⊎◌, not, nat_lt, Bool, true, false, Some}
use Rattle.std.proofs.Common.{◌≡◌, ◌≢◌, ℕ, suc, ◌<◌, ◌≤◌, refl, sym, ap, ◌∙◌, subst, inl, inr, ⊎_elim, arith}
use Rattle.std.proofs.lemmas.Bool.{cases_eq, both_ways}
use Rattle.structure_laws.specs.table_words.specs.small_lemmas.proofs.Numbers.{suc_equal as suc_eq}
use Rattle.structure_laws.specs.map_history.specs.Keys.{key_of}
use Rattle.structure_laws.specs.body_terms.specs.Update.{upd}
use Rattle.structure_laws.specs.body_terms.specs.Word.{value_of}
use Rattle.bucket_laws.specs.bucket_bodies.specs.section_body.specs.Bucket.{operand}
use Rattle.structure_laws.specs.table_words.specs.declared.layout.Layout.{Layout}
use Rattle.structure_laws.specs.Scene.{Cells, Section, Live, Scene}
use Rattle.structure_laws.specs.Sections.{Here}
use Rattle.structure_laws.specs.Sound.{Sound}
use Rattle.structure_laws.proofs.Changes.{upd_same, upd_other}
use Rattle.tree_bodies.specs.Tree.{lock_of, key_cell, mark_of, child_of, Form, Insert, Delete, Replace, form_of}
use Rattle.tree_laws.specs.Search.{Nodes, Covers, IsInner, IsLeaf, with_child, IsInsertion}
use Rattle.tree_laws.specs.Walk.{Walk, node_of}
use Rattle.tree_laws.specs.Leaves.{nodes, walk_of, IsNewLeaf, IsNewInner, HasLeaf, HasInner, TreeKept, tree}
use Rattle.tree_laws.specs.Leaves.{IsBetween, NewLeaf, NewInner, OldParent, OldLeaf, ReplacedLeaf}
use Rattle.tree_laws.specs.Landing.{HasLanded}
use Rattle.tree_laws.proofs.Alike.{tree_alike}
use Rattle.tree_laws.proofs.Apart.{key_apart, mark_apart}
use Rattle.tree_laws.proofs.Changed.{changed_alike, other_child, changed_some, changed_same, changed_sentinels}
use Rattle.tree_laws.proofs.Inserting as inserting
use Rattle.tree_laws.proofs.Insertion.{which, links, t_inner, lo_old, hi_old, up_old}
use Rattle.tree_laws.proofs.KeepsFrame.{StaysPassed}
use Rattle.tree_laws.proofs.Open as open_section
use Rattle.tree_laws.proofs.Removal.{other_side}
use Rattle.tree_laws.proofs.StoreChange.{marked_elsewhere, leaf_out, inner_out, after_scene, IsChange, store_kept}

no_delete : (f : Form) → f ≡ Insert → f ≡ Delete → ⊥
no_delete f e e' = cc

no_replace : (f : Form) → f ≡ Insert → f ≡ Replace → ⊥
no_replace f e e' = cc

equal_low : (a b : ℕ) → a ≡ b → a ≤ b
equal_low a b e = omega (arith, e)

-- one value of a function that is true changes to true
upd_true : (f : ℕ → Bool) (x u : ℕ) → f u ≡ true → upd f x true u ≡ true
upd_true f x u e = ⊎_elim (λ same. upd_same f x u true same) (λ ne. upd_other f x u true ne ∙ e) (cases_eq u x)

module _ (layout : Layout) (s : Scene) (sound : Sound tree layout s) (kept : TreeKept layout s) where
  abbrev now : Nodes
  now = nodes s.cells

  -- two sections that have made their leaves and not stored have different keys
  keys_apart : (d e : ℕ) (x z : Section) → Here s d x → Here s e z → d ≢ e → HasLeaf x → HasLeaf z
      → key_of x.op ≢ key_of z.op
  keys_apart d e x z here there ne has has' same =
      let mine = landed d x here has in
      let its = landed e z there has' in
      ⊎_elim
      (λ one. sound.apart d e x z here there ne x.thunk.lock (inl refl)
      (inl ((plain d x here has).lock ∙ (ap lock_of (sym mine.up ∙ (ap kept.covers.up one ∙ its.up))
      ∙ sym (plain e z there has').lock))))
      (λ differ. ⊎_elim
      (λ below. let lo = its.node.lo in let hi = mine.node.hi in omega (arith, below, lo, hi, same))
      (λ below. let lo = mine.node.lo in let hi = its.node.hi in omega (arith, below, lo, hi, same))
      (kept.tree.leaves (node_of (w x)) (node_of (w z)) mine.node.linked its.node.linked
      (open_section.leaf_is layout s sound kept d x here) (open_section.leaf_is layout s sound kept e z there) differ))
      (cases_eq (node_of (w x)) (node_of (w z)))
    where
      w : Section → Walk
      w x = walk_of layout x.op x.readings

      plain : (d : ℕ) (x : Section) (here : Here s d x) → HasLeaf x → open_section.IsPlain layout s sound kept d x here
      plain d x here has = open_section.leaf_plain layout s sound kept d x here has

      landed : (d : ℕ) (x : Section) → Here s d x → HasLeaf x
          → HasLanded kept.covers (key_of x.op) (walk_of layout x.op x.readings)
      landed d x here has = open_section.leaf_landed layout s sound kept d x here has

  -- a new leaf has its operation's key
  leaf_key : (d : ℕ) (x : Section) (here : Here s d x) (has : HasLeaf x)
      → now.key (kept.new_leaf d x here has).slot ≡ key_of x.op
  leaf_key d x here has = (kept.new_leaf d x here has).key ∙ open_section.leaf_new_key layout s sound kept d x here has

  -- so new nodes of two sections are different nodes
  pub leaves_apart : (d e : ℕ) (x z : Section) (here : Here s d x) (there : Here s e z) → d ≢ e
      → (has : HasLeaf x) (has' : HasLeaf z) → x.reg 2 ≢ z.reg 2
  leaves_apart d e x z here there ne has has' same =
      let leaf = kept.new_leaf d x here has in
      let leaf' = kept.new_leaf e z there has' in
      let one = suc_eq leaf.slot leaf'.slot (sym leaf.link ∙ (same ∙ leaf'.link)) in
      keys_apart d e x z here there ne has has'
      (sym (leaf_key d x here has) ∙ (ap now.key one ∙ leaf_key e z there has'))

  -- a section with a new inner node has a new leaf
  pub inner_leaf : (z : Section) → HasInner z → HasLeaf z
  inner_leaf z has = inl (has.0, (let low = has.1 in omega (arith, low)), has.2)

  -- a node over two others is an inner one
  pub new_is_inner : (e : ℕ) (z : Section) (there : Here s e z) (has : HasInner z)
      → IsInner now (kept.new_inner e z there has).slot
  new_is_inner e z there has =
      let new = kept.new_inner e z there has in
      ⊎_elim
      (λ left. let link = ap (λ b. now.child b new.slot) left
      ∙ (new.new_side ∙ (kept.new_leaf e z there (inner_leaf z has)).link) in omega (arith, link))
      (λ right. let link = ap (λ b. now.child b new.slot) right
      ∙ inserting.old_side layout s sound kept e z there has.0 has.1 has.2 in omega (arith, link))
      (other_side true (nat_lt (operand z.thunk 3) (operand z.thunk 5)))

module _ (layout : Layout) (s : Scene) (sound : Sound tree layout s) (kept : TreeKept layout s)
    (d : ℕ) (x : Section) (here : Here s d x) (form : form_of x.thunk ≡ Insert) (at : x.at ≡ 8) where
  abbrev past : 7 ≤ x.at
  past = omega (arith, at)

  abbrev few : x.at ≤ 8
  few = omega (arith, at)

  abbrev w : Walk
  w = walk_of layout x.op x.readings

  abbrev a : ℕ
  a = w.last.from

  abbrev side : Bool
  side = w.last.side

  abbrev l : ℕ
  l = node_of w

  abbrev leaf : IsNewLeaf s kept.once x
  leaf = inserting.leaf layout s sound kept d x here form past few

  abbrev inner : IsNewInner s kept.once x
  inner = inserting.inner layout s sound kept d x here form past few

  abbrev f : ℕ
  f = leaf.slot

  abbrev t : ℕ
  t = inner.slot

  abbrev h : Bool
  h = inserting.h layout s sound kept d x here form past few

  insertion : IsInsertion (nodes s.cells) kept.covers side h a l t f
  insertion = inserting.insertion layout s sound kept d x here form past few

  abbrev c : Covers
  c = inserting.then_covers layout s sound kept d x here form past few

  -- what was linked once, and the new nodes
  abbrev once : ℕ → Bool
  once = upd (upd kept.once f true) t true

  which_is : (u : ℕ) → c.linked u ≡ true
      → (u ≡ t) ⊎ (u ≡ f) ⊎ (u ≡ l) ⊎ ((kept.covers.linked u ≡ true) × (u ≢ f) × (u ≢ l) × (u ≢ t))
  which_is u on = which (nodes s.cells) kept.covers side h a l t f kept.tree insertion u on

  is_linked : (u : ℕ) → (u ≡ t) ⊎ (u ≡ f) ⊎ (kept.covers.linked u ≡ true) → c.linked u ≡ true
  is_linked u how = links (nodes s.cells) kept.covers side h a l t f kept.tree insertion u how

  l_linked : kept.covers.linked l ≡ true
  l_linked = (inserting.landed layout s sound kept d x here form past few).node.linked

  t_is_inner : IsInner (nodes s.cells) t
  t_is_inner = t_inner (nodes s.cells) kept.covers side h a l t f kept.tree insertion

  leaf_no_inner : (u : ℕ) → IsLeaf (nodes s.cells) u → IsInner (nodes s.cells) u → ⊥
  leaf_no_inner u leaf inner = omega (arith, leaf, inner)

  -- a node that was linked once is none of the new ones
  old_new : (u : ℕ) → kept.once u ≡ true → (u ≢ f) × (u ≢ t)
  old_new u was = (λ e. both_ways _ (ap kept.once e ∙ leaf.new) was, λ e. both_ways _ (ap kept.once e ∙ inner.new) was)

  -- and if it wasn't linked either, not the old leaf
  out_new : (u : ℕ) → kept.once u ≡ true → (kept.covers.linked u ≡ false) ⊎ (c.linked u ≡ false)
      → (u ≢ f) × (u ≢ l) × (u ≢ t)
  out_new u was off = let new = old_new u was in (
    new.0,
    (λ e. ⊎_elim
        (λ out. both_ways _ (ap kept.covers.linked (sym e) ∙ out) l_linked)
        (λ out. both_ways _ (ap c.linked (sym e) ∙ out) (is_linked l (inr (inr l_linked)))) off),
    new.1,
  )

  still_off : (u : ℕ) → kept.once u ≡ true → kept.covers.linked u ≡ false → c.linked u ≡ false
  still_off u was off = by (c.linked u) refl
    where
      new : (u ≢ f) × (u ≢ l) × (u ≢ t)
      new = out_new u was (inl off)

      by : (b : Bool) → c.linked u ≡ b → c.linked u ≡ false
      by true on = absurd (⊎_elim new.2 (⊎_elim new.0 (⊎_elim new.1 (λ old. both_ways _ off old.0))) (which_is u on))
      by false off' = off'

  once_new : (u : ℕ) → kept.once u ≡ false → u ≢ f → u ≢ t → once u ≡ false
  once_new u none nf nt = upd_other (upd kept.once f true) t u true nt ∙ (upd_other kept.once f u true nf ∙ none)

  -- another section's new nodes are others
  leaf_other : (e : ℕ) (z : Section) (u : ℕ) → e ≢ d → s.section e ≡ Some z → HasLeaf z → z.reg 2 ≡ suc u
      → once u ≡ false
  leaf_other e z u ne there has reg =
      let was = kept.new_leaf e z there has in
      let same : u ≡ was.slot = suc_eq u was.slot (sym reg ∙ was.link) in
      once_new u (leaf_out layout s kept e z u there has reg)
      (λ is. leaves_apart layout s sound kept e d z x there here ne has (inl (form, omega (arith, at), few))
      (reg ∙ (ap suc is ∙ sym leaf.link)))
      (λ is. leaf_no_inner t (subst (IsLeaf (nodes s.cells)) (sym same ∙ is) was.leaf) t_is_inner)

  inner_other : (e : ℕ) (z : Section) (u : ℕ) → e ≢ d → s.section e ≡ Some z → HasInner z → z.reg 3 ≡ suc u
      → once u ≡ false
  inner_other e z u ne there has reg =
      let was = kept.new_inner e z there has in
      let same : u ≡ was.slot = suc_eq u was.slot (sym reg ∙ was.link) in
      once_new u (inner_out layout s kept e z u there has reg)
      (λ is. leaf_no_inner f leaf.leaf (subst (IsInner (nodes s.cells)) (sym same ∙ is)
      (new_is_inner layout s sound kept e z there has)))
      (λ is. ⊎_elim
      (λ sides. leaves_apart layout s sound kept e d z x there here ne has_leaf (inl (form, omega (arith, at), few))
      (sym was.new_side ∙ (ap (λ b. (nodes s.cells).child b was.slot) sides
      ∙ (ap ((nodes s.cells).child h) (sym same ∙ is) ∙ inner.new_side))))
      (λ sides. both_ways _ (ap kept.once (suc_eq l its_leaf.slot
      (sym (inserting.old_side layout s sound kept d x here form past few)
      ∙ (ap ((nodes s.cells).child (not h)) (sym is ∙ same)
      ∙ (ap (λ b. (nodes s.cells).child b was.slot) (sym sides) ∙ (was.new_side ∙ its_leaf.link)))))
      ∙ its_leaf.new) (kept.linked_once l l_linked))
      (other_side (its_side) h))
    where
      has_leaf : HasLeaf z
      has_leaf = inner_leaf layout s sound kept z has

      its_leaf : IsNewLeaf s kept.once z
      its_leaf = kept.new_leaf e z there has_leaf

      its_side : Bool
      its_side = nat_lt (operand z.thunk 3) (operand z.thunk 5)

  module _ (p word : ℕ) (place : p ≡ child_of side a) (stores : value_of word ≡ suc t) where
    abbrev cells : Cells
    cells = upd s.cells p word

    keys : (u : ℕ) → cells (key_cell u) ≡ s.cells (key_cell u)
    keys u = upd_other s.cells p (key_cell u) word (λ e. key_apart side u a (e ∙ place))

    others : (b : Bool) (u : ℕ) → child_of b u ≢ child_of side a → cells (child_of b u) ≡ s.cells (child_of b u)
    others b u ne = upd_other s.cells p (child_of b u) word (λ e. ne (e ∙ place))

    stored : value_of (cells (child_of side a)) ≡ suc t
    stored = ap value_of (upd_same s.cells p (child_of side a) word (sym place)) ∙ stores

    mark_same : (u : ℕ) → (nodes cells).mark u ≡ (nodes s.cells).mark u
    mark_same u = ap value_of (upd_other s.cells p (mark_of u) word (λ e. mark_apart side u a (e ∙ place)))

    a_inner : IsInner (nodes s.cells) a
    a_inner = insertion.above_inner

    some : 0 < suc t
    some = omega arith

    a_linked : c.linked a ≡ true
    a_linked = is_linked a (inr (inr insertion.above))

    some_stays : (b : Bool) (u : ℕ) → 0 < (nodes s.cells).child b u → 0 < (nodes cells).child b u
    some_stays = changed_some s.cells cells side a (suc t) keys others stored a_inner some

    still : (u : ℕ) → kept.once u ≡ true → once u ≡ true
    still u was = upd_true (upd kept.once f true) t u (upd_true kept.once f u was)

    no_l : (u : ℕ) → IsInner (nodes s.cells) u → u ≢ l
    no_l u inner_u is = leaf_no_inner l insertion.old_leaf (subst (IsInner (nodes s.cells)) is inner_u)

    lo_same : (u : ℕ) → u ≢ f → u ≢ l → u ≢ t → c.lo u ≡ kept.covers.lo u
    lo_same = lo_old (nodes s.cells) kept.covers side h a l t f kept.tree insertion

    hi_same : (u : ℕ) → u ≢ f → u ≢ l → u ≢ t → c.hi u ≡ kept.covers.hi u
    hi_same = hi_old (nodes s.cells) kept.covers side h a l t f kept.tree insertion

    stays_passed : (u : ℕ) → kept.once u ≡ true → StaysPassed (nodes s.cells) (nodes cells) kept.covers c once u
    stays_passed u was = let new = old_new u was in record {
      node = changed_same s.cells cells side a (suc t) keys others stored a_inner some u;
      once_linked = still u was;
      lo = λ inner_u. equal_low _ _ (lo_same u new.0 (no_l u inner_u) new.1);
      hi = λ inner_u. equal_low _ _ (sym (hi_same u new.0 (no_l u inner_u) new.1));
    }

    -- what holds of the new nodes and of the linked ones holds of those that are linked then
    linked_cases : (P : ℕ → Type 0) → P t → P f → ((u : ℕ) → kept.covers.linked u ≡ true → P u) → (u : ℕ)
        → c.linked u ≡ true → P u
    linked_cases P at_t at_f old u on = ⊎_elim (λ is. subst P (sym is) at_t) (⊎_elim (λ is. subst P (sym is) at_f)
        (⊎_elim (λ is. subst P (sym is) (old l l_linked)) (λ was. old u was.0))) (which_is u on)

    insert_change : IsChange layout s sound kept d x here cells c once
    insert_change = record {
      tree = tree_alike (with_child (nodes s.cells) side a (suc t)) (nodes cells) c
          (changed_alike s.cells cells side a (suc t) keys others stored c)
          (inserting.insertion_kept layout s sound kept d x here form past few).tree;
      sentinels = changed_sentinels s.cells cells side a (suc t) keys others stored a_inner some kept.covers c
          kept.sentinels (is_linked 1 (inr (inr kept.sentinels.first))) (is_linked 2 (inr (inr kept.sentinels.last)))
          (inserting.not_root layout s sound kept d x here form past few);
      same = changed_same s.cells cells side a (suc t) keys others stored a_inner some;
      grown = stays_passed;
      linked_live = linked_cases (λ u. s.status u ≡ Live) inner.live leaf.live kept.linked_live;
      linked_once = linked_cases (λ u. once u ≡ true) (upd_same (upd kept.once f true) t t true refl)
          (upd_true (upd kept.once f true) t f (upd_same kept.once f f true refl))
          (λ u on. still u (kept.linked_once u on));
      once_or = λ u was. ⊎_elim (λ is. inr (is_linked u (inl is)))
          (λ nt. ⊎_elim (λ is. inr (is_linked u (inr (inl is))))
          (λ nf. inl (sym (upd_other (upd kept.once f true) t u true nt ∙ upd_other kept.once f u true nf) ∙ was))
          (cases_eq u f)) (cases_eq u t);
      link = λ b u off. other_child s.cells cells side a (suc t) keys others stored b u
          (λ e is. both_ways _ (ap c.linked (sym is) ∙ off) a_linked);
      frozen = λ u was inner_u off. let new = out_new u was (inr off) in
          (lo_same u new.0 new.1 new.2, hi_same u new.0 new.1 new.2);
      out = still_off;
      up = λ u was off. let new = out_new u was (inl off) in
          up_old (nodes s.cells) kept.covers side h a l t f kept.tree insertion u new.0 new.1 new.2;
      right_some = λ u used inner_u. some_stays false u (kept.right_some u used inner_u);
      mark_small = λ u used inner_u. subst (λ k. k ≤ 1) (sym (mark_same u)) (kept.mark_small u used inner_u);
      mark_new = λ u none. mark_same u;
      unmarked = λ u was safe inner_u mark.
          is_linked u (inr (inr (kept.unmarked u was safe inner_u (sym (mark_same u) ∙ mark))));
      marked = λ u on inner_u mark. ⊎_elim
          (λ is. absurd (mark (mark_same u ∙ (ap (nodes s.cells).mark is ∙ inner.unmarked))))
          (⊎_elim (λ is. absurd (leaf_no_inner u (subst (IsLeaf (nodes s.cells)) (sym is) leaf.leaf) inner_u))
          (⊎_elim (λ is. absurd (no_l u inner_u is))
          (λ old. inr (marked_elsewhere s d x here u (λ own. no_delete (form_of x.thunk) form own.0)
          (kept.marked u old.0 inner_u (λ none. mark (mark_same u ∙ none))))))) (which_is u on);
      was_linked = λ u on. inl (is_linked u (inr (inr on)));
      was_between = λ u between. inl (own_linked u between);
      no_leaf = λ has. ⊎_elim (λ insert. let high = insert.2 in omega (arith, at, high))
          (λ replace. no_replace (form_of x.thunk) form replace.0) has;
      no_inner = λ has. let high = has.2 in omega (arith, at, high);
      taken = λ has. absurd (no_delete (form_of x.thunk) form has.0);
      replaced = λ has. absurd (no_replace (form_of x.thunk) form has.0);
      leaf_new = leaf_other;
      inner_new = inner_other;
      sibling = λ e z u ne there has leads. is_linked u (inr (inr ((kept.taken e z there has).sibling u leads)));
    }
      where
        own_linked : (u : ℕ) → IsBetween x u → c.linked u ≡ true
        own_linked u (NewLeaf has reg) = is_linked u (inr (inl (suc_eq u f (sym reg ∙ leaf.link))))
        own_linked u (NewInner has reg) = is_linked u (inl (suc_eq u t (sym reg ∙ inner.link)))
        own_linked u (OldParent has late parent) = absurd (no_delete (form_of x.thunk) form has.0)
        own_linked u (OldLeaf has old) = absurd (no_delete (form_of x.thunk) form has.0)
        own_linked u (ReplacedLeaf has old) = absurd (no_replace (form_of x.thunk) form has.0)

    pub insert_kept : TreeKept layout (after_scene s d x cells)
    insert_kept = store_kept layout s sound kept d x here cells c once insert_change
