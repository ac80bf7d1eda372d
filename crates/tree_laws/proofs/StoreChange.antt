-- A Store of a section of the tree keeps what the tree keeps, where the changed nodes have what this needs.
use Rattle.std.specs.Prelude.{◌⊎◌, Bool, true, false, cond, Some}
use Rattle.std.proofs.Common.{◌≡◌, ◌≢◌, ℕ, suc, ◌<◌, ◌≤◌, refl, sym, ap, ◌∙◌, subst, inl, inr, ⊎_elim}
use Rattle.std.proofs.lemmas.Bool.{cases_eq, both_ways}
use Rattle.structure_laws.specs.table_words.specs.small_lemmas.proofs.Numbers.{suc_equal as suc_eq}
use Rattle.structure_laws.specs.map_history.specs.Keys.{key_of}
use Rattle.structure_laws.specs.body_terms.specs.Update.{upd}
use Rattle.structure_laws.specs.body_terms.specs.Word.{value_of}
use Rattle.structure_laws.specs.body_terms.specs.declared.thunk.Thunk.{Thunk}
use Rattle.structure_laws.specs.table_words.specs.declared.layout.Layout.{Layout}
use Rattle.structure_laws.specs.Scene.{Cells, Readings, Section, Status, Free, Live, Retired, Scene, passed}
use Rattle.structure_laws.specs.Sections.{Here}
use Rattle.structure_laws.specs.Cells.{IsSafe}
use Rattle.structure_laws.specs.Sound.{IsRead, Sound}
use Rattle.structure_laws.proofs.Changes.{upd_same, upd_other, upd_some}
use Rattle.tree_bodies.specs.Tree.{lock_of, Delete, form_of, parent_in, leaf_in, sibling_of, is_left, left_of, right_of}
use Rattle.tree_bodies.specs.Tree.{old_leaf}
use Rattle.tree_laws.specs.Search.{Nodes, Covers, IsInner, SearchTree, HasSentinels}
use Rattle.tree_laws.specs.Walk.{Walk}
use Rattle.tree_laws.specs.Leaves.{nodes, walk_of, IsAsRead, IsWalk, IsTrail, IsNewLeaf, IsNewInner, IsTaken}
use Rattle.tree_laws.specs.Leaves.{IsReplaced}
use Rattle.tree_laws.specs.Leaves.{HasLeaf, HasInner, HasTaken, HasOld, IsBetween, TreeKept, tree}
use Rattle.tree_laws.proofs.Grown.{still_walk, still_trail}
use Rattle.tree_laws.proofs.KeepsFrame.{StaysNode, stays_inner, StaysPassed, read_stays}

some_eq : (a b : Section) → Some a ≡ Some b → a ≡ b
some_eq a b e = cc

live_free : (x : Status) → x ≡ Live → x ≡ Free → ⊥
live_free x live free = cc

retired_free : (x : Status) (y : ℕ) → x ≡ Retired y → x ≡ Free → ⊥
retired_free x y retired free = cc

live_retired : (x : Status) (y : ℕ) → x ≡ Live → x ≡ Retired y → ⊥
live_retired x y live retired = cc

-- a section that has marked its parent, and not yet stored the link
abbrev pub IsMarking : Section → ℕ → Type 0
IsMarking x t = (form_of x.thunk ≡ Delete) × (x.at ≡ 14) × (parent_in x.thunk ≡ t)

-- the scene after the section's step, with these cells
abbrev pub after_scene : Scene → ℕ → Section → Cells → Scene
after_scene s d x cells = record s { cells = cells; section = upd s.section d (Some (passed x)) }

-- a node that a section has marked, other than this one, which has not
pub marked_elsewhere : (s : Scene) (d : ℕ) (x : Section) → Here s d x → (t : ℕ) → (IsMarking x t → ⊥)
    → (e : ℕ) × (z : Section) × (s.section e ≡ Some z) × (form_of z.thunk ≡ Delete) × (z.at ≡ 14)
    × (parent_in z.thunk ≡ t)
    → (e : ℕ) × (z : Section) × (e ≢ d) × (s.section e ≡ Some z) × IsMarking z t
marked_elsewhere s d x here t none marking =
    let its : IsMarking marking.1 t = (marking.3, marking.4, marking.5) in
    let other : marking.0 ≢ d = λ same. none (subst (λ z. IsMarking z t)
    (some_eq marking.1 x (sym marking.2 ∙ (ap s.section same ∙ here))) its) in
    (marking.0, marking.1, other, marking.2, its)

module _ (layout : Layout) (s : Scene) (kept : TreeKept layout s) where
  -- a new node wasn't linked
  pub leaf_out : (e : ℕ) (z : Section) (t : ℕ) → s.section e ≡ Some z → HasLeaf z → z.reg 2 ≡ suc t
      → kept.once t ≡ false
  leaf_out e z t there has reg = let was = kept.new_leaf e z there has in
      ap kept.once (suc_eq t was.slot (sym reg ∙ was.link)) ∙ was.new

  pub inner_out : (e : ℕ) (z : Section) (t : ℕ) → s.section e ≡ Some z → HasInner z → z.reg 3 ≡ suc t
      → kept.once t ≡ false
  inner_out e z t there has reg = let was = kept.new_inner e z there has in
      ap kept.once (suc_eq t was.slot (sym reg ∙ was.link)) ∙ was.new

module _ (layout : Layout) (s : Scene) (sound : Sound tree layout s) (kept : TreeKept layout s)
    (d : ℕ) (x : Section) (here : Here s d x) where
  abbrev now : Nodes
  now = nodes s.cells

  -- what a change of cells has to show, with the covers after it and what was linked once
  pub record IsChange (cells : Cells) (c : Covers) (once : ℕ → Bool) : Type 0 where
    pub tree : SearchTree (nodes cells) c
    pub sentinels : HasSentinels (nodes cells) c
    -- each node stays what it is, and what an inner node covers grows at most
    pub same : (t : ℕ) → StaysNode now (nodes cells) t
    pub grown : (t : ℕ) → kept.once t ≡ true → StaysPassed now (nodes cells) kept.covers c once t
    -- a linked node is live and was linked once, and what was linked once then was so before or is linked
    pub linked_live : (t : ℕ) → c.linked t ≡ true → s.status t ≡ Live
    pub linked_once : (t : ℕ) → c.linked t ≡ true → once t ≡ true
    pub once_or : (t : ℕ) → once t ≡ true → (kept.once t ≡ true) ⊎ (c.linked t ≡ true)
    -- a node that isn't linked stays as it was
    pub link : (b : Bool) (t : ℕ) → c.linked t ≡ false → (nodes cells).child b t ≡ now.child b t
    pub frozen : (t : ℕ) → kept.once t ≡ true → IsInner now t → c.linked t ≡ false
        → (c.lo t ≡ kept.covers.lo t) × (c.hi t ≡ kept.covers.hi t)
    pub out : (t : ℕ) → kept.once t ≡ true → kept.covers.linked t ≡ false → c.linked t ≡ false
    pub up : (t : ℕ) → kept.once t ≡ true → kept.covers.linked t ≡ false → c.up t ≡ kept.covers.up t
    -- right links and marks
    pub right_some : (t : ℕ) → s.status t ≢ Free → IsInner now t → 0 < (nodes cells).child false t
    pub mark_small : (t : ℕ) → s.status t ≢ Free → IsInner now t → (nodes cells).mark t ≤ 1
    pub mark_new : (t : ℕ) → kept.once t ≡ false → (nodes cells).mark t ≡ now.mark t
    pub unmarked : (t : ℕ) → kept.once t ≡ true → IsSafe s t → IsInner now t → (nodes cells).mark t ≡ 0
        → c.linked t ≡ true
    pub marked : (t : ℕ) → c.linked t ≡ true → IsInner now t → (nodes cells).mark t ≢ 0
        → IsMarking (passed x) t ⊎ ((e : ℕ) × (z : Section) × (e ≢ d) × (s.section e ≡ Some z) × IsMarking z t)
    -- the section's own nodes
    pub was_linked : (t : ℕ) → kept.covers.linked t ≡ true → (c.linked t ≡ true) ⊎ IsBetween (passed x) t
    pub was_between : (t : ℕ) → IsBetween x t → (c.linked t ≡ true) ⊎ IsBetween (passed x) t
    pub no_leaf : HasLeaf (passed x) → ⊥
    pub no_inner : HasInner (passed x) → ⊥
    pub taken : HasTaken (passed x) → IsTaken (after_scene s d x cells) c once (passed x)
    pub replaced : HasOld (passed x) → IsReplaced (after_scene s d x cells) c once (passed x)
    -- and the others'
    pub leaf_new : (e : ℕ) (z : Section) (t : ℕ) → e ≢ d → s.section e ≡ Some z → HasLeaf z → z.reg 2 ≡ suc t
        → once t ≡ false
    pub inner_new : (e : ℕ) (z : Section) (t : ℕ) → e ≢ d → s.section e ≡ Some z → HasInner z → z.reg 3 ≡ suc t
        → once t ≡ false
    pub sibling : (e : ℕ) (z : Section) (t : ℕ) → e ≢ d → s.section e ≡ Some z → HasTaken z
        → value_of (s.cells (sibling_of z.thunk)) ≡ suc t → c.linked t ≡ true

  module _ (cells : Cells) (c : Covers) (once : ℕ → Bool) (change : IsChange cells c once) where
    abbrev then_nodes : Nodes
    then_nodes = nodes cells

    was_inner : (t : ℕ) → IsInner then_nodes t → IsInner now t
    was_inner t inner = stays_inner now then_nodes t (change.same t) inner

    -- what wasn't linked once isn't linked
    no_once : (t : ℕ) → once t ≡ false → c.linked t ≡ false
    no_once t none = by (c.linked t) refl
      where
        by : (b : Bool) → c.linked t ≡ b → c.linked t ≡ false
        by true on = absurd (both_ways _ none (change.linked_once t on))
        by false off = off

    safe_used : (t : ℕ) → IsSafe s t → s.status t ≢ Free
    safe_used t (inl live) = live_free (s.status t) live
    safe_used t (inr retired) = retired_free (s.status t) retired.0 retired.1

    -- the section is the one that stores, or another as it was
    section_is : (P : ℕ → Section → Type 0) → P d (passed x)
        → ((e : ℕ) (z : Section) → e ≢ d → s.section e ≡ Some z → P e z)
        → (e : ℕ) (z : Section) → upd s.section d (Some (passed x)) e ≡ Some z → P e z
    section_is P own other e z h = ⊎_elim
        (λ same. subst (λ e. P e z) (sym same.0) (subst (P d) same.1 own))
        (λ else_. other e z else_.0 else_.1)
        (upd_some s.section d e (passed x) z h)

    leaf_kept : (e : ℕ) (z : Section) → e ≢ d → s.section e ≡ Some z → HasLeaf z
        → IsNewLeaf (after_scene s d x cells) once z
    leaf_kept e z ne there has =
        let was = kept.new_leaf e z there has in
        record {
          slot = was.slot;
          link = was.link;
          live = was.live;
          new = change.leaf_new e z was.slot ne there has was.link;
          key = (change.same was.slot).key ∙ was.key;
          leaf = (change.same was.slot).leaf was.leaf;
          value = (change.same was.slot).value was.leaf ∙ was.value;
        }

    inner_kept : (e : ℕ) (z : Section) → e ≢ d → s.section e ≡ Some z → HasInner z
        → IsNewInner (after_scene s d x cells) once z
    inner_kept e z ne there has =
        let was = kept.new_inner e z there has in
        let new = change.inner_new e z was.slot ne there has was.link in
        let out = no_once was.slot new in
        record {
          slot = was.slot;
          link = was.link;
          live = was.live;
          new = new;
          other = was.other;
          key = (change.same was.slot).key ∙ was.key;
          new_side = change.link _ was.slot out ∙ was.new_side;
          old_side = change.link _ was.slot out ∙ was.old_side;
          unmarked = change.mark_new was.slot was.new ∙ was.unmarked;
        }

    -- the sibling's link of what another section has taken out
    sibling_stays : (z : Thunk) → c.linked (parent_in z) ≡ false
        → value_of (cells (sibling_of z)) ≡ value_of (s.cells (sibling_of z))
    sibling_stays z out = by (is_left z)
      where
        by : (b : Bool) → value_of (cells (cond b (right_of (parent_in z)) (left_of (parent_in z))))
            ≡ value_of (s.cells (cond b (right_of (parent_in z)) (left_of (parent_in z))))
        by true = change.link false (parent_in z) out
        by false = change.link true (parent_in z) out

    taken_kept : (e : ℕ) (z : Section) → e ≢ d → s.section e ≡ Some z → HasTaken z
        → IsTaken (after_scene s d x cells) c once z
    taken_kept e z ne there has =
        let was = kept.taken e z there has in
        let out = change.out (parent_in z.thunk) was.parent_once was.parent_out in
        record {
          parent_once = (change.grown (parent_in z.thunk) was.parent_once).once_linked;
          parent_out = out;
          parent_unfixed = was.parent_unfixed;
          parent_inner = (change.same (parent_in z.thunk)).inner was.parent_inner;
          parent_live = was.parent_live;
          leaf_once = (change.grown (leaf_in z.thunk) was.leaf_once).once_linked;
          leaf_out = change.out (leaf_in z.thunk) was.leaf_once was.leaf_out;
          leaf_unfixed = was.leaf_unfixed;
          leaf_up = change.up (leaf_in z.thunk) was.leaf_once was.leaf_out ∙ was.leaf_up;
          leaf_live = was.leaf_live;
          sibling = λ t leads. change.sibling e z t ne there has (sym (sibling_stays z.thunk out) ∙ leads);
        }

    replaced_kept : (e : ℕ) (z : Section) → e ≢ d → s.section e ≡ Some z → HasOld z
        → IsReplaced (after_scene s d x cells) c once z
    replaced_kept e z ne there has = let was = kept.replaced e z there has in record {
      leaf_once = (change.grown (old_leaf z.thunk) was.leaf_once).once_linked;
      leaf_out = change.out (old_leaf z.thunk) was.leaf_once was.leaf_out;
      leaf_up = was.leaf_up ∙ ap lock_of (sym (change.up (old_leaf z.thunk) was.leaf_once was.leaf_out));
      leaf_live = was.leaf_live;
    }

    abbrev InSection : ℕ → Type 0
    InSection t = (c.linked t ≡ true)
        ⊎ ((e : ℕ) × (z : Section) × (upd s.section d (Some (passed x)) e ≡ Some z) × IsBetween z t)

    mine : (t : ℕ) → (c.linked t ≡ true) ⊎ IsBetween (passed x) t → InSection t
    mine t (inl on) = inl on
    mine t (inr between) = inr (d, passed x, upd_same s.section d d (Some (passed x)) refl, between)

    live_in : (t : ℕ) → s.status t ≡ Live → InSection t
    live_in t live = ⊎_elim
        (λ on. mine t (change.was_linked t on))
        (λ between. ⊎_elim
        (λ same. mine t (change.was_between t (subst (λ z. IsBetween z t)
        (some_eq between.1 x (sym between.2 ∙ (ap s.section same ∙ here))) between.3)))
        (λ ne. inr (between.0, between.1, upd_other s.section d between.0 (Some (passed x)) ne ∙ between.2, between.3))
        (cases_eq between.0 d))
        (kept.live t live)

    marked_in : (t : ℕ) → c.linked t ≡ true → IsInner then_nodes t → then_nodes.mark t ≢ 0
        → (e : ℕ) × (z : Section) × (upd s.section d (Some (passed x)) e ≡ Some z) × (form_of z.thunk ≡ Delete)
        × (z.at ≡ 14) × (parent_in z.thunk ≡ t)
    marked_in t on inner mark = ⊎_elim
        (λ own. (d, passed x, upd_same s.section d d (Some (passed x)) refl, own.0, own.1, own.2))
        (λ other. let is = other.4 in
        (other.0, other.1, upd_other s.section d other.0 (Some (passed x)) other.2 ∙ other.3, is.0, is.1, is.2))
        (change.marked t on (was_inner t inner) mark)

    trail_kept : (t u : ℕ) (b : Bool) → once t ≡ true → IsSafe s t → IsInner then_nodes t → then_nodes.child b t ≡ suc u
        → IsTrail then_nodes c once t u b
    trail_kept t u b was safe inner leads = still_trail now then_nodes kept.covers c kept.once once change.same
        change.grown change.tree change.linked_once t u b
        (λ off. ⊎_elim
        (λ before. let stays = change.frozen t before (was_inner t inner) off in
        (stays.0, stays.1, kept.trail t u b before safe (was_inner t inner) (sym (change.link b t off) ∙ leads)))
        (λ on. absurd (both_ways _ off on))
        (change.once_or t was))
        inner leads

    unmarked_on : (t : ℕ) → once t ≡ true → IsSafe s t → IsInner then_nodes t → then_nodes.mark t ≡ 0
        → c.linked t ≡ true
    unmarked_on t was safe inner mark = ⊎_elim (λ before. change.unmarked t before safe (was_inner t inner) mark)
        (λ on. on) (change.once_or t was)

    retired_off : (t y : ℕ) → s.status t ≡ Retired y → c.linked t ≡ false
    retired_off t y retired = by (c.linked t) refl
      where
        by : (b : Bool) → c.linked t ≡ b → c.linked t ≡ false
        by true on = absurd (live_retired (s.status t) y (change.linked_live t on) retired)
        by false off = off

    used_once : (t : ℕ) → once t ≡ true → s.status t ≢ Free
    used_once t was = ⊎_elim (λ before. kept.once_used t before)
        (λ on. live_free (s.status t) (change.linked_live t on)) (change.once_or t was)

    still_read : (readings : Readings) → IsRead tree s readings → IsAsRead now readings → IsAsRead then_nodes readings
    still_read readings read was = read_stays s then_nodes readings read (λ t used. change.same t) was

    walk_still : (key : ℕ) (w : Walk) → IsWalk now kept.covers kept.once key w → IsWalk then_nodes c once key w
    walk_still = still_walk now then_nodes kept.covers c kept.once once change.same change.grown

    pub store_kept : TreeKept layout (after_scene s d x cells)
    store_kept = record {
      covers = c;
      once = once;
      tree = change.tree;
      sentinels = change.sentinels;
      linked_live = change.linked_live;
      linked_once = change.linked_once;
      retired_once = λ t y retired. (change.grown t (kept.retired_once t y retired)).once_linked;
      once_used = used_once;
      right_some = λ t used inner. change.right_some t used (was_inner t inner);
      mark_small = λ t used inner. change.mark_small t used (was_inner t inner);
      unmarked = unmarked_on;
      trail = trail_kept;
      marked = marked_in;
      live = live_in;
      limbo = λ t y u b retired recent inner leads. kept.limbo t y u b retired recent (was_inner t inner)
          (sym (change.link b t (retired_off t y retired)) ∙ leads);
      new_leaf = section_is (λ e z. HasLeaf z → IsNewLeaf (after_scene s d x cells) once z)
          (λ has. absurd (change.no_leaf has)) leaf_kept;
      new_inner = section_is (λ e z. HasInner z → IsNewInner (after_scene s d x cells) once z)
          (λ has. absurd (change.no_inner has)) inner_kept;
      taken = section_is (λ e z. HasTaken z → IsTaken (after_scene s d x cells) c once z) change.taken taken_kept;
      replaced = section_is (λ e z. HasOld z → IsReplaced (after_scene s d x cells) c once z) change.replaced
          replaced_kept;
      readers = λ r readings reader.
          still_read readings (sound.readers r readings reader) (kept.readers r readings reader);
      published = section_is (λ e z. IsAsRead then_nodes z.readings)
          (still_read x.readings (sound.published d x here) (kept.published d x here))
          (λ e z ne there. still_read z.readings (sound.published e z there) (kept.published e z there));
      walks = λ r readings op reader low.
          walk_still (key_of op) (walk_of layout op readings) (kept.walks r readings op reader low);
      sections = section_is (λ e z. IsWalk then_nodes c once (key_of z.op) (walk_of layout z.op z.readings))
          (walk_still (key_of x.op) (walk_of layout x.op x.readings) (kept.sections d x here))
          (λ e z ne there. walk_still (key_of z.op) (walk_of layout z.op z.readings) (kept.sections e z there));
    }
