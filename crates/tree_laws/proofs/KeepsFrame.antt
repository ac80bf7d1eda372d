-- What the tree keeps, over a change of a scene that leaves the linked nodes and what they cover.
use Rattle.std.specs.Prelude.{◌⊎◌, ◌%◌, cond, Bool, true, false, Some, slice_get}
use Rattle.std.proofs.Common.{◌≡◌, ◌≢◌, ℕ, suc, ◌+◌, ◌*◌, ◌<◌, ◌≤◌, refl, sym, ◌∙◌, subst, inl, inr, ⊎_elim, arith}
use Rattle.structure_laws.specs.table_words.specs.small_lemmas.proofs.Numbers.{suc_equal as suc_eq}
use Rattle.structure_laws.specs.map_history.specs.declared.op.Op.{Op}
use Rattle.structure_laws.specs.map_history.specs.Keys.{key_of}
use Rattle.structure_laws.specs.body_terms.specs.Word.{value_of}
use Rattle.structure_laws.specs.table_words.specs.declared.layout.Layout.{Layout}
use Rattle.structure_laws.specs.Scene.{Readings, Section, Free, Live, Retired, Scene}
use Rattle.structure_laws.specs.Cells.{IsSafe, IsOutside}
use Rattle.structure_laws.specs.Sound.{IsRead, Sound}
use Rattle.structure_laws.proofs.Changes.{equal_of}
use Rattle.tree_bodies.specs.Tree.{left_of, right_of, Delete, form_of, parent_in, leaf_in, sibling_of, is_left}
use Rattle.tree_bodies.specs.Tree.{old_leaf}
use Rattle.tree_laws.specs.Search.{Nodes, Covers, IsInner, IsLeaf}
use Rattle.tree_laws.specs.Walk.{Stage, AtRoot, AtLeft, AtKey, AtRight, AtValue, AtGrandLock, AtGrandMark, AtLock, AtMark, AtEnd, Refused, Step, step_to, Walk, node_of}
use Rattle.tree_laws.specs.Leaves.{nodes, walk_of, IsAsRead, IsPassed, IsFollowed, IsLeft, Knows, IsWalk, IsNewLeaf}
use Rattle.tree_laws.specs.Leaves.{IsNewInner}
use Rattle.tree_laws.specs.Leaves.{IsTaken, IsReplaced, HasLeaf, HasInner, HasTaken, HasOld, IsTrail, TreeKept, tree}
use Rattle.tree_laws.specs.Leaves.{IsBetween, NewLeaf, NewInner, OldParent, OldLeaf, ReplacedLeaf}
use Rattle.tree_laws.proofs.Alike.{AreAlike, tree_alike, sentinels_alike}

live_used : (s : Scene) (t : ℕ) → s.status t ≡ Live → s.status t ≢ Free
live_used s t live free = cc

-- a slot that is safe isn't free
pub safe_used : (s : Scene) (t : ℕ) → IsSafe s t → s.status t ≢ Free
safe_used s t safe = ⊎_elim (live_used s t) (λ retired. retired_free retired.0 retired.1) safe
  where
    retired_free : (y : ℕ) → s.status t ≡ Retired y → s.status t ≢ Free
    retired_free y retired free = cc

-- a node stays what it is: an inner node or a leaf, with its key; a leaf keeps its value
pub record StaysNode (n n' : Nodes) (t : ℕ) : Type 0 where
  pub inner : IsInner n t → IsInner n' t
  pub leaf : IsLeaf n t → IsLeaf n' t
  pub key : n'.key t ≡ n.key t
  pub value : IsLeaf n t → n'.child false t ≡ n.child false t

-- and all its values stay
pub record IsSameNode (n n' : Nodes) (t : ℕ) : Type 0 where
  pub key : n'.key t ≡ n.key t
  pub child : (b : Bool) → n'.child b t ≡ n.child b t
  pub mark : n'.mark t ≡ n.mark t

pub same_stays : (n n' : Nodes) (t : ℕ) → IsSameNode n n' t → StaysNode n n' t
same_stays n n' t same = record {
  inner = λ inner. subst (λ k. 0 < k) (sym (same.child true)) inner;
  leaf = λ leaf. same.child true ∙ leaf;
  key = same.key;
  value = λ leaf. same.child false;
}

inner_back : (n n' : Nodes) (t : ℕ) → IsSameNode n n' t → IsInner n' t → IsInner n t
inner_back n n' t same inner = subst (λ k. 0 < k) (same.child true) inner

-- a node that was an inner one or a leaf is what it was
pub stays_inner : (n n' : Nodes) (t : ℕ) → StaysNode n n' t → IsInner n' t → IsInner n t
stays_inner n n' t stays inner = ⊎_elim
    (λ leaf. absurd (let z = stays.leaf leaf in omega (arith, z, inner)))
    (λ old. old) (zero_or (n.child true t))
  where
    zero_or : (k : ℕ) → (k ≡ 0) ⊎ (0 < k)
    zero_or k = search arith

pub stays_leaf : (n n' : Nodes) (t : ℕ) → StaysNode n n' t → IsLeaf n' t → IsLeaf n t
stays_leaf n n' t stays leaf = ⊎_elim
    (λ old. old)
    (λ inner. absurd (let z = stays.inner inner in omega (arith, z, leaf))) (zero_or (n.child true t))
  where
    zero_or : (k : ℕ) → (k ≡ 0) ⊎ (0 < k)
    zero_or k = search arith

-- a node on a walk stays one: what it is, and an inner node covers no less
pub record StaysPassed (n n' : Nodes) (c c' : Covers) (once' : ℕ → Bool) (t : ℕ) : Type 0 where
  pub node : StaysNode n n' t
  pub once_linked : once' t ≡ true
  pub lo : IsInner n t → c'.lo t ≤ c.lo t
  pub hi : IsInner n t → c.hi t ≤ c'.hi t

-- each slot with P that was linked once stays what it is
module _ (n n' : Nodes) (c c' : Covers) (once once' : ℕ → Bool) (P : ℕ → Type 0)
    (stays : (t : ℕ) → once t ≡ true → P t → StaysPassed n n' c c' once' t) (key : ℕ) where
  passed_stays : (t : ℕ) → P t → IsPassed n c once key t → IsPassed n' c' once' key t
  passed_stays t is passed =
      let after = stays t passed.once_linked is in
      record {
        once_linked = after.once_linked;
        covers = λ inner'.
            let inner = stays_inner n n' t after.node inner' in
            let old = passed.covers inner in
            let lo = after.lo inner in
            let hi = after.hi inner in
            let from = old.0 in
            let to = old.1 in
            (omega (arith, lo, from), omega (arith, hi, to));
      }

  pub followed_stays : (step : Step) → P step.from → P (step_to step) → IsFollowed n c once key step
      → IsFollowed n' c' once' key step
  followed_stays step is is' followed =
      let from = stays step.from followed.from.once_linked is in
      let to = stays (step_to step) followed.to.once_linked is' in
      record {
        from = passed_stays step.from is followed.from;
        inner = from.node.inner followed.inner;
        some = followed.some;
        is_left = λ e. subst (λ k. key < k) (sym from.node.key) (followed.is_left e);
        is_right = λ e. subst (λ k. k ≤ key) (sym from.node.key) (followed.is_right e);
        to = passed_stays (step_to step) is' followed.to;
        left = λ e inner'. let old = followed.left e (stays_inner n n' (step_to step) to.node inner') in
            let a = from.node.key in let b = to.node.key in omega (arith, old, a, b);
        right = λ e inner'. let old = followed.right e (stays_inner n n' (step_to step) to.node inner') in
            let a = from.node.key in let b = to.node.key in omega (arith, old, a, b);
      }

  left_stays : (s word : ℕ) → once s ≡ true → P s → ((t : ℕ) → value_of word ≡ suc t → P t)
      → IsLeft n c once key s word → IsLeft n' c' once' key s word
  left_stays s word once_s is is' left =
      let above = stays s once_s is in
      let below : (t : ℕ) → value_of word ≡ suc t → StaysPassed n n' c c' once' t = λ t leads. stays t
      (left.once_linked t leads) (is' t leads) in
      record {
        inner = above.node.inner left.inner;
        once_linked = λ t leads. (below t leads).once_linked;
        lo = λ t leads inner'. let inner = stays_inner n n' t (below t leads).node inner' in
            let old = left.lo t leads inner in let lo = (below t leads).lo inner in omega (arith, old, lo);
        hi = λ t leads inner'. let inner = stays_inner n n' t (below t leads).node inner' in
            let old = left.hi t leads inner in let hi = (below t leads).hi inner in let a = above.node.key in
            omega (arith, old, hi, a);
        order = λ t leads inner'. let inner = stays_inner n n' t (below t leads).node inner' in
            let old = left.order t leads inner in let a = above.node.key in let b = (below t leads).node.key in
            omega (arith, old, a, b);
      }

  -- the walk's nodes have P
  pub record IsWithin (w : Walk) : Type 0 where
    pub grand_from : w.stage ≢ Refused → w.deep ≡ true → P w.grand.from
    pub grand_to : w.stage ≢ Refused → w.deep ≡ true → P (step_to w.grand)
    pub from : w.stage ≢ Refused → w.stage ≢ AtRoot → P w.last.from
    pub node : w.stage ≢ Refused → w.stage ≢ AtRoot → P (node_of w)
    pub left : (t : ℕ) → w.stage ≡ AtKey → value_of w.left ≡ suc t → P t

  -- so a walk stays one
  pub walk_stays : (w : Walk) → IsWithin w → IsWalk n c once key w → IsWalk n' c' once' key w
  walk_stays w is walk = record {
    grand = λ going deep. followed_stays w.grand (is.grand_from going deep) (is.grand_to going deep)
        (walk.grand going deep);
    joined = walk.joined;
    last = λ going some. followed_stays w.last (is.from going some) (is.node going some) (walk.last going some);
    knows = known w.stage refl walk.knows;
  }
    where
      node_stays : w.stage ≢ Refused → w.stage ≢ AtRoot → StaysNode n n' (node_of w)
      node_stays going some = (stays (node_of w) (walk.last going some).to.once_linked (is.node going some)).node

      leaf_key : w.stage ≢ Refused → w.stage ≢ AtRoot → IsLeaf n (node_of w) × (n.key (node_of w) ≡ w.key) → IsLeaf n'
          (node_of w) × (n'.key (node_of w) ≡ w.key)
      leaf_key going some old = let stay = node_stays going some in (stay.leaf old.0, stay.key ∙ old.1)

      known : (stage : Stage) → w.stage ≡ stage → Knows n c once key w stage → Knows n' c' once' key w stage
      known AtRoot at old = tt
      known AtLeft at old = tt
      known AtKey at old = λ some. left_stays (node_of w) w.left
          (walk.last (λ e. key_refused (sym at ∙ e)) (λ e. key_root (sym at ∙ e))).to.once_linked
          (is.node (λ e. key_refused (sym at ∙ e)) (λ e. key_root (sym at ∙ e)))
          (λ t leads. is.left t at leads) (old some)
        where
          key_refused : AtKey ≡ Refused → ⊥
          key_refused e = cc

          key_root : AtKey ≡ AtRoot → ⊥
          key_root e = cc
      known AtRight at old =
          let stay = node_stays (λ e. right_refused (sym at ∙ e)) (λ e. right_root (sym at ∙ e)) in
          (stay.inner old.0, subst (λ k. k ≤ key) (sym stay.key) old.1)
        where
          right_refused : AtRight ≡ Refused → ⊥
          right_refused e = cc

          right_root : AtRight ≡ AtRoot → ⊥
          right_root e = cc
      known AtValue at old = leaf_key (λ e. going (sym at ∙ e)) (λ e. some (sym at ∙ e)) old
        where
          going : AtValue ≡ Refused → ⊥
          going e = cc

          some : AtValue ≡ AtRoot → ⊥
          some e = cc
      known AtGrandLock at old = leaf_key (λ e. going (sym at ∙ e)) (λ e. some (sym at ∙ e)) old
        where
          going : AtGrandLock ≡ Refused → ⊥
          going e = cc

          some : AtGrandLock ≡ AtRoot → ⊥
          some e = cc
      known AtGrandMark at old = leaf_key (λ e. going (sym at ∙ e)) (λ e. some (sym at ∙ e)) old
        where
          going : AtGrandMark ≡ Refused → ⊥
          going e = cc

          some : AtGrandMark ≡ AtRoot → ⊥
          some e = cc
      known AtLock at old = leaf_key (λ e. going (sym at ∙ e)) (λ e. some (sym at ∙ e)) old
        where
          going : AtLock ≡ Refused → ⊥
          going e = cc

          some : AtLock ≡ AtRoot → ⊥
          some e = cc
      known AtMark at old = leaf_key (λ e. going (sym at ∙ e)) (λ e. some (sym at ∙ e)) old
        where
          going : AtMark ≡ Refused → ⊥
          going e = cc

          some : AtMark ≡ AtRoot → ⊥
          some e = cc
      known AtEnd at old = leaf_key (λ e. going (sym at ∙ e)) (λ e. some (sym at ∙ e)) old
        where
          going : AtEnd ≡ Refused → ⊥
          going e = cc

          some : AtEnd ≡ AtRoot → ⊥
          some e = cc
      known Refused at old = tt

-- a cell of a node that was read is none of a free slot, unless it is a lock
pub outside_used : (s : Scene) (t k : ℕ) → 0 < k → k < 5 → IsOutside tree s (0 + 5 * t + k) → s.status t ≢ Free
outside_used s t k low high outside = ⊎_elim (λ fixed. absurd (omega (arith, fixed)))
    (⊎_elim (λ lock. absurd (let zero = equal_of ((0 + 5 * t + k) % 5) 0 lock in omega (arith, zero, low, high)))
    (λ slot. let in_slot = slot.1 in
    subst (λ u. s.status u ≢ Free) (same slot.0 in_slot.0 in_slot.1 in_slot.2) (safe_used s slot.0 slot.2))) outside
  where
    same : (u i : ℕ) → i < 5 → 0 + 5 * t + k ≡ 0 + 5 * u + i → u ≡ t
    same u i less e = omega (arith, less, high, e)

-- what was read of nodes stands, where the nodes in use stay what they are and marks stay small
pub read_stays : (s : Scene) (n' : Nodes) (readings : Readings) → IsRead tree s readings
    → ((t : ℕ) → s.status t ≢ Free → StaysNode (nodes s.cells) n' t)
    → IsAsRead (nodes s.cells) readings → IsAsRead n' readings
read_stays s n' readings read stays old = record {
  inner = λ i t w h some. (cell i t 2 w (omega arith) (omega arith) h).inner (old.inner i t w h some);
  leaf = λ i t w h none. (cell i t 2 w (omega arith) (omega arith) h).leaf (old.leaf i t w h none);
  key = λ i t w h. old.key i t w h ∙ sym (cell i t 1 w (omega arith) (omega arith) h).key;
  value = λ i t w h leaf'. let stay = cell i t 3 w (omega arith) (omega arith) h in
      let leaf = stays_leaf (nodes s.cells) n' t stay leaf' in old.value i t w h leaf ∙ sym (stay.value leaf);
  right = λ i t w h inner'. old.right i t w h (stays_inner (nodes s.cells) n' t
      (cell i t 3 w (omega arith) (omega arith) h) inner');
  under_root = λ i v h. ⊎_elim inl (λ node. inr (
    node.0,
    node.1,
    (stays node.0 (safe_used s node.0 (read.safe i 2 v node.0 h refl node.1))).inner node.2,
  )) (old.under_root i v h);
  marks = λ i t w h inner'. old.marks i t w h (stays_inner (nodes s.cells) n' t
      (cell i t 4 w (omega arith) (omega arith) h) inner');
}
  where
    cell : (i t k w : ℕ) → 0 < k → k < 5 → slice_get readings i ≡ Some (0 + 5 * t + k, w) → StaysNode
        (nodes s.cells) n' t
    cell i t k w low high h = stays t (outside_used s t k low high (read.outside i (0 + 5 * t + k) w h))

module _ (layout : Layout) (s : Scene) (kept : TreeKept layout s) where
  -- a slot that a section holds between is live
  pub between_live : (d : ℕ) (x : Section) (t : ℕ) → s.section d ≡ Some x → IsBetween x t → s.status t ≡ Live
  between_live d x t here (NewLeaf has link) = let new = kept.new_leaf d x here has in subst (λ u. s.status u ≡ Live)
      (suc_eq new.slot t (sym new.link ∙ link)) new.live
  between_live d x t here (NewInner has link) = let new = kept.new_inner d x here has in
      subst (λ u. s.status u ≡ Live) (suc_eq new.slot t (sym new.link ∙ link)) new.live
  between_live d x t here (OldParent has at is) = subst (λ u. s.status u ≡ Live) is
      ((kept.taken d x here has).parent_live at)
  between_live d x t here (ReplacedLeaf has is) = subst (λ u. s.status u ≡ Live) is
      (kept.replaced d x here has).leaf_live
  between_live d x t here (OldLeaf has is) = subst (λ u. s.status u ≡ Live) is (kept.taken d x here has).leaf_live

-- a scene and one after it, with the same linked nodes
module _ (layout : Layout) (s s' : Scene) (sound : Sound tree layout s) (kept : TreeKept layout s) where
  abbrev now : Nodes
  now = nodes s.cells

  abbrev next : Nodes
  next = nodes s'.cells

  -- what a section has to show that wasn't there, or was and has passed a step
  pub record IsKeptSection (x : Section) : Type 0 where
    pub leaf : HasLeaf x → IsNewLeaf s' kept.once x
    pub inner : HasInner x → IsNewInner s' kept.once x
    pub taken : HasTaken x → IsTaken s' kept.covers kept.once x
    pub replaced : HasOld x → IsReplaced s' kept.covers kept.once x
    pub read : IsAsRead next x.readings
    pub walk : IsWalk next kept.covers kept.once (key_of x.op) (walk_of layout x.op x.readings)

  -- and the readings of a runner that has entered, or has read once more
  pub record IsKeptReader (readings : Readings) : Type 0 where
    pub read : IsAsRead next readings
    pub walks : (op : Op) → key_of op < 4294967294 → IsWalk next kept.covers kept.once (key_of op)
        (walk_of layout op readings)

  -- nodes in use stay as they are; statuses, sections and readers may change
  pub record Frame : Type 0 where
    pub same : (t : ℕ) → s.status t ≢ Free → IsSameNode now next t
    -- a slot that comes into use
    pub fresh : (t : ℕ) → s'.status t ≢ Free → (s.status t ≢ Free)
        ⊎ (IsInner next t → (0 < next.child false t) × (next.mark t ≤ 1))
    pub linked_live : (t : ℕ) → kept.covers.linked t ≡ true → s'.status t ≡ Live
    pub retired_once : (t y : ℕ) → s'.status t ≡ Retired y → kept.once t ≡ true
    pub once_used : (t : ℕ) → kept.once t ≡ true → s'.status t ≢ Free
    pub safe : (t : ℕ) → kept.once t ≡ true → IsSafe s' t → IsSafe s t
    pub live : (t : ℕ) → s'.status t ≡ Live → (kept.covers.linked t ≡ true)
        ⊎ ((d : ℕ) × (x : Section) × (s'.section d ≡ Some x) × IsBetween x t)
    pub limbo : (t y u : ℕ) (b : Bool) → s'.status t ≡ Retired y → s'.epoch ≤ y + 1 → IsInner next t
        → next.child b t ≡ suc u
        → (s'.status u ≡ Live) ⊎ ((z : ℕ) × (s'.status u ≡ Retired z) × (y ≤ z))
    -- a section that stands before its Store of the link stays
    pub marked : (d : ℕ) (x : Section) → s.section d ≡ Some x → form_of x.thunk ≡ Delete → x.at ≡ 14
        → s'.section d ≡ Some x
    -- a section was there, and its slots are live still; or shows what it has to
    pub section : (d : ℕ) (x : Section) → s'.section d ≡ Some x
        → ((s.section d ≡ Some x) × ((t : ℕ) → IsBetween x t → s'.status t ≡ Live)) ⊎ IsKeptSection x
    pub reader : (r : ℕ) (readings : Readings) → s'.reader r ≡ Some readings → (s.reader r ≡ Some readings)
        ⊎ IsKeptReader readings

  module _ (same : (t : ℕ) → s.status t ≢ Free → IsSameNode now next t) where
    once_same : (t : ℕ) → kept.once t ≡ true → IsSameNode now next t
    once_same t once = same t (kept.once_used t once)

    -- readings and walks stay what they were
    pub same_read : (readings : Readings) → IsRead tree s readings → IsAsRead now readings → IsAsRead next readings
    same_read readings read old = read_stays s next readings read (λ t used. same_stays now next t (same t used)) old

    pub same_walk : (key : ℕ) (w : Walk) → IsWalk now kept.covers kept.once key w
        → IsWalk next kept.covers kept.once key w
    same_walk key w walk = walk_stays now next kept.covers kept.covers kept.once kept.once (λ t. t ≡ t)
        (λ t once is. record {
          node = same_stays now next t
              (once_same t once);
          once_linked = once;
          lo = λ inner. le_self (kept.covers.lo t);
          hi = λ inner. le_self (kept.covers.hi t);
        })
        key w (record {
          grand_from = λ a b. refl;
          grand_to = λ a b. refl;
          from = λ a b. refl;
          node = λ a b. refl;
          left = λ t a b. refl;
        }) walk
      where
        le_self : (k : ℕ) → k ≤ k
        le_self k = omega arith

  module _ (frame : Frame) where
    alike : AreAlike now next kept.covers
    alike = record {
      key = λ t on. (frame.same t (live_used s t (kept.linked_live t on))).key;
      child = λ b t on. (frame.same t (live_used s t (kept.linked_live t on))).child b;
    }

    same_once : (t : ℕ) → kept.once t ≡ true → IsSameNode now next t
    same_once t once = frame.same t (kept.once_used t once)

    new_leaf : (d : ℕ) (x : Section) → s'.section d ≡ Some x → HasLeaf x → IsNewLeaf s' kept.once x
    new_leaf d x h has = ⊎_elim
        (λ old. let was = kept.new_leaf d x old.0 has in
        let node = frame.same was.slot (live_used s was.slot was.live) in
        record {
          slot = was.slot;
          link = was.link;
          live = old.1 was.slot (NewLeaf has was.link);
          new = was.new;
          key = node.key ∙ was.key;
          leaf = node.child true ∙ was.leaf;
          value = node.child false ∙ was.value;
        })
        (λ new. new.leaf has) (frame.section d x h)

    new_inner : (d : ℕ) (x : Section) → s'.section d ≡ Some x → HasInner x → IsNewInner s' kept.once x
    new_inner d x h has = ⊎_elim
        (λ old. let was = kept.new_inner d x old.0 has in
        let node = frame.same was.slot (live_used s was.slot was.live) in
        record {
          slot = was.slot;
          link = was.link;
          live = old.1 was.slot (NewInner has was.link);
          new = was.new;
          other = was.other;
          key = node.key ∙ was.key;
          new_side = node.child _ ∙ was.new_side;
          old_side = node.child _ ∙ was.old_side;
          unmarked = node.mark ∙ was.unmarked;
        })
        (λ new. new.inner has) (frame.section d x h)

    taken : (d : ℕ) (x : Section) → s'.section d ≡ Some x → HasTaken x → IsTaken s' kept.covers kept.once x
    taken d x h has = ⊎_elim
        (λ old. let was = kept.taken d x old.0 has in
        let parent = same_once (parent_in x.thunk) was.parent_once in
        record {
          parent_once = was.parent_once;
          parent_out = was.parent_out;
          parent_unfixed = was.parent_unfixed;
          parent_inner = subst (λ k. 0 < k) (sym (parent.child true)) was.parent_inner;
          parent_live = λ at. old.1 (parent_in x.thunk) (OldParent has at refl);
          leaf_once = was.leaf_once;
          leaf_out = was.leaf_out;
          leaf_unfixed = was.leaf_unfixed;
          leaf_up = was.leaf_up;
          leaf_live = old.1 (leaf_in x.thunk) (OldLeaf has refl);
          sibling = λ t leads. was.sibling t (sibling_same x parent ∙ leads);
        })
        (λ new. new.taken has) (frame.section d x h)
      where
        sibling_same : (x : Section) → IsSameNode now next (parent_in x.thunk)
            → value_of (s.cells (sibling_of x.thunk)) ≡ value_of (s'.cells (sibling_of x.thunk))
        sibling_same x node = by (is_left x.thunk)
          where
            by : (left : Bool) → value_of (s.cells (cond left (right_of (parent_in x.thunk))
                (left_of (parent_in x.thunk)))) ≡ value_of (s'.cells
                (cond left (right_of (parent_in x.thunk)) (left_of (parent_in x.thunk))))
            by true = sym (node.child false)
            by false = sym (node.child true)

    replaced : (d : ℕ) (x : Section) → s'.section d ≡ Some x → HasOld x → IsReplaced s' kept.covers kept.once x
    replaced d x h has = ⊎_elim
        (λ old. let was = kept.replaced d x old.0 has in record {
          leaf_once = was.leaf_once;
          leaf_out = was.leaf_out;
          leaf_up = was.leaf_up;
          leaf_live = old.1 (old_leaf x.thunk) (ReplacedLeaf has refl);
        })
        (λ new. new.replaced has) (frame.section d x h)

    trail : (t u : ℕ) (b : Bool) → kept.once t ≡ true → IsSafe s' t → IsInner next t → next.child b t ≡ suc u
        → IsTrail next kept.covers kept.once t u b
    trail t u b once safe inner' link =
        let node = same_once t once in
        let old = kept.trail t u b once (frame.safe t once safe) (inner_back now next t node inner')
        (sym (node.child b) ∙ link) in
        let below = same_once u old.once_linked in
        let key = node.key in
        let key' = below.key in
        record {
          once_linked = old.once_linked;
          left = λ e inner_u. let is = old.left e (inner_back now next u below inner_u) in
              let a = is.1 in let b = is.2 in (is.0, omega (arith, a, key), omega (arith, b, key, key'));
          right = λ e inner_u. let is = old.right e (inner_back now next u below inner_u) in
              let a = is.0 in let b = is.2 in (omega (arith, a, key), is.1, omega (arith, b, key, key'));
        }

    -- the tree keeps what it keeps
    pub frame_kept : TreeKept layout s'
    frame_kept = record {
      covers = kept.covers;
      once = kept.once;
      tree = tree_alike now next kept.covers alike kept.tree;
      sentinels = sentinels_alike now next kept.covers alike kept.tree kept.sentinels;
      linked_live = frame.linked_live;
      linked_once = kept.linked_once;
      retired_once = frame.retired_once;
      once_used = frame.once_used;
      right_some = λ t used inner'. ⊎_elim
          (λ was. let node = frame.same t was in subst (λ k. 0 < k) (sym (node.child false))
          (kept.right_some t was (inner_back now next t node inner')))
          (λ new. (new inner').0) (frame.fresh t used);
      mark_small = λ t used inner'. ⊎_elim
          (λ was. let node = frame.same t was in subst (λ k. k ≤ 1) (sym node.mark)
          (kept.mark_small t was (inner_back now next t node inner')))
          (λ new. (new inner').1) (frame.fresh t used);
      unmarked = λ t once safe inner' mark. let node = same_once t once in
          kept.unmarked t once (frame.safe t once safe) (inner_back now next t node inner') (sym node.mark ∙ mark);
      trail = trail;
      marked = λ t on inner' mark. let node = frame.same t (live_used s t (kept.linked_live t on)) in
          let was = kept.marked t on (inner_back now next t node inner') (λ zero. mark (node.mark ∙ zero)) in
          (was.0, was.1, frame.marked was.0 was.1 was.2 was.3 was.4, was.3, was.4, was.5);
      live = frame.live;
      limbo = frame.limbo;
      new_leaf = new_leaf;
      new_inner = new_inner;
      taken = taken;
      replaced = replaced;
      readers = λ r readings h. ⊎_elim (λ old. same_read frame.same readings (sound.readers r readings old)
          (kept.readers r readings old)) (λ new. new.read) (frame.reader r readings h);
      published = λ d x h. ⊎_elim (λ old. same_read frame.same x.readings (sound.published d x old.0)
          (kept.published d x old.0)) (λ new. new.read) (frame.section d x h);
      walks = λ r readings op h low. ⊎_elim (λ old. same_walk frame.same (key_of op) (walk_of layout op readings)
          (kept.walks r readings op old low)) (λ new. new.walks op low) (frame.reader r readings h);
      sections = λ d x h. ⊎_elim (λ old. same_walk frame.same (key_of x.op) (walk_of layout x.op x.readings)
          (kept.sections d x old.0)) (λ new. new.walk) (frame.section d x h);
    }

  -- only readers, sections, the epoch, and cells of slots that aren't in use change
  pub record Passing : Type 0 where
    pub same : (t : ℕ) → s.status t ≢ Free → IsSameNode now next t
    pub status : (t : ℕ) → s'.status t ≡ s.status t
    pub epoch : s.epoch ≤ s'.epoch
    pub marked : (d : ℕ) (x : Section) → s.section d ≡ Some x → form_of x.thunk ≡ Delete → x.at ≡ 14
        → s'.section d ≡ Some x
    -- what was between is so still
    pub between : (d : ℕ) (x : Section) (t : ℕ) → s.section d ≡ Some x → IsBetween x t → (e : ℕ) × (y : Section)
        × (s'.section e ≡ Some y) × IsBetween y t
    pub section : (d : ℕ) (x : Section) → s'.section d ≡ Some x → (s.section d ≡ Some x) ⊎ IsKeptSection x
    pub reader : (r : ℕ) (readings : Readings) → s'.reader r ≡ Some readings → (s.reader r ≡ Some readings)
        ⊎ IsKeptReader readings

  module _ (passing : Passing) where
    same_limbo : (t y u : ℕ) (b : Bool) → s'.status t ≡ Retired y → s'.epoch ≤ y + 1 → IsInner next t
        → next.child b t ≡ suc u
        → (s'.status u ≡ Live) ⊎ ((z : ℕ) × (s'.status u ≡ Retired z) × (y ≤ z))
    same_limbo t y u b retired recent inner' link =
        let old = sym (passing.status t) ∙ retired in
        let node = passing.same t (retired_used old) in
        let rises = passing.epoch in
        ⊎_elim (λ live. inl (passing.status u ∙ live)) (λ z. inr (z.0, passing.status u ∙ z.1, z.2))
        (kept.limbo t y u b old (omega (arith, recent, rises)) (inner_back now next t node inner')
        (sym (node.child b) ∙ link))
      where
        retired_used : s.status t ≡ Retired y → s.status t ≢ Free
        retired_used e free = cc

    passing_safe : (t : ℕ) → IsSafe s' t → IsSafe s t
    passing_safe t safe = let rises = passing.epoch in ⊎_elim (λ live. inl (sym (passing.status t) ∙ live))
        (λ z. inr (z.0, sym (passing.status t) ∙ z.1, (let recent = z.2 in omega (arith, recent, rises)))) safe

    passing_frame : Frame
    passing_frame = record {
      same = passing.same;
      fresh = λ t used. inl (λ free. used (passing.status t ∙ free));
      linked_live = λ t on. passing.status t ∙ kept.linked_live t on;
      retired_once = λ t y retired. kept.retired_once t y (sym (passing.status t) ∙ retired);
      once_used = λ t once free. kept.once_used t once (sym (passing.status t) ∙ free);
      safe = λ t once safe. passing_safe t safe;
      live = λ t live. ⊎_elim inl (λ old. inr (passing.between old.0 old.1 t old.2 old.3))
          (kept.live t (sym (passing.status t) ∙ live));
      limbo = same_limbo;
      marked = passing.marked;
      section = λ d x h. ⊎_elim (λ old. inl (
        old,
        λ t between. passing.status t
            ∙ between_live layout s kept d x t old between,
      )) inr (passing.section d x h);
      reader = passing.reader;
    }

    pub passing_kept : TreeKept layout s'
    passing_kept = frame_kept passing_frame
