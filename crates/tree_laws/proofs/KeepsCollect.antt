-- The tree keeps what it keeps where a slot leaves limbo: nothing that is linked, safe or open leads to it.
use Rattle.std.specs.Prelude.{◌⊎◌, ◌+◌, Bool, true, false}
use Rattle.std.proofs.Common.{◌≡◌, ◌≢◌, ℕ, suc, ◌≤◌, refl, sym, ap, ◌∙◌, subst, inl, inr, ⊎_elim, arith}
use Rattle.structure_laws.specs.map_history.specs.declared.op.Op.{Op}
use Rattle.structure_laws.specs.map_history.specs.Keys.{key_of}
use Rattle.structure_laws.specs.body_terms.specs.Update.{upd}
use Rattle.structure_laws.specs.table_words.specs.declared.layout.Layout.{Layout}
use Rattle.structure_laws.specs.table_words.specs.Limits.{IsWithinLimits}
use Rattle.structure_laws.specs.Scene.{Readings, Section, Free, Live, Retired, Scene, with_status}
use Rattle.structure_laws.specs.Sections.{Here}
use Rattle.structure_laws.specs.Cells.{IsSafe}
use Rattle.structure_laws.specs.Sound.{IsRead, Sound}
use Rattle.structure_laws.proofs.Changes.{upd_same, upd_other}
use Rattle.bucket_laws.proofs.TableGives.{reached}
use Rattle.tree_bodies.specs.Tree.{left_of, parent_in, leaf_in, old_leaf}
use Rattle.tree_laws.specs.Search.{Nodes, IsInner}
use Rattle.tree_laws.specs.Walk.{Stage, AtRoot, AtLeft, AtKey, AtRight, AtValue, AtGrandLock, AtGrandMark, AtLock, AtMark, AtEnd, Refused, Walk, node_of}
use Rattle.tree_laws.specs.Leaves.{shows_link, nodes, bounds, walk_of, IsAsRead, IsWalk, HasTaken, TreeKept, tree}
use Rattle.tree_laws.proofs.Shown.{shown_now}
use Rattle.tree_laws.proofs.WalkReads.{IsFrom, is_past, Reads, walk_reads}
use Rattle.tree_laws.proofs.KeepsFrame.{StaysPassed, same_stays, IsWithin, walk_stays}
use Rattle.tree_laws.proofs.KeepsSlots.{left_link, no_change, child_live}
use Rattle.tree_laws.proofs.Open as open_section

-- a walk that met no refusal has loaded a link
past_of : (stage : Stage) → stage ≢ Refused → stage ≢ AtRoot → is_past stage ≡ true
past_of AtRoot refused root = absurd (root refl)
past_of AtLeft refused root = refl
past_of AtKey refused root = refl
past_of AtRight refused root = refl
past_of AtValue refused root = refl
past_of AtGrandLock refused root = refl
past_of AtGrandMark refused root = refl
past_of AtLock refused root = refl
past_of AtMark refused root = refl
past_of AtEnd refused root = refl
past_of Refused refused root = absurd (refused refl)

at_root : (stage : Stage) → (stage ≡ AtRoot) ⊎ (stage ≢ AtRoot)
at_root AtRoot = inl refl
at_root AtLeft = inr (λ e. cc)
at_root AtKey = inr (λ e. cc)
at_root AtRight = inr (λ e. cc)
at_root AtValue = inr (λ e. cc)
at_root AtGrandLock = inr (λ e. cc)
at_root AtGrandMark = inr (λ e. cc)
at_root AtLock = inr (λ e. cc)
at_root AtMark = inr (λ e. cc)
at_root AtEnd = inr (λ e. cc)
at_root Refused = inr (λ e. cc)

module _ (layout : Layout) (limits : IsWithinLimits layout) (s : Scene) (sound : Sound tree layout s)
    (kept : TreeKept layout s) (t y : ℕ) (retired : s.status t ≡ Retired y) (old : y + 2 ≤ s.epoch)
    (sound' : Sound tree layout (with_status s t Free)) where
  abbrev now : Nodes
  now = nodes s.cells

  abbrev next : Scene
  next = with_status s t Free

  abbrev once : ℕ → Bool
  once = upd kept.once t false

  other : (u : ℕ) → u ≢ t → next.status u ≡ s.status u
  other u ne = upd_other s.status t u Free ne

  freed : next.status t ≡ Free
  freed = upd_same s.status t t Free refl

  once_still : (u : ℕ) → u ≢ t → kept.once u ≡ true → once u ≡ true
  once_still u ne is = upd_other kept.once t u false ne ∙ is

  once_other : (u : ℕ) → once u ≡ true → u ≢ t
  once_other u is e = false_true (sym (upd_same kept.once t u false e) ∙ is)
    where
      false_true : false ≡ true → ⊥
      false_true e = cc

  once_before : (u : ℕ) → once u ≡ true → kept.once u ≡ true
  once_before u is = sym (upd_other kept.once t u false (once_other u is)) ∙ is

  live_other : (u : ℕ) → s.status u ≡ Live → u ≢ t
  live_other u live e = live_retired (sym live ∙ (ap s.status e ∙ retired))
    where
      live_retired : Live ≡ Retired y → ⊥
      live_retired e = cc

  still : (u : ℕ) → s.status u ≡ Live → next.status u ≡ Live
  still u live = other u (live_other u live) ∙ live

  -- a slot that is safe afterwards is another one, and was safe
  safe_other : (u : ℕ) → IsSafe next u → u ≢ t
  safe_other u safe e = ⊎_elim (λ live. free_live (sym freed ∙ (ap next.status (sym e) ∙ live)))
      (λ late. free_retired late.0 (sym freed ∙ (ap next.status (sym e) ∙ late.1))) safe
    where
      free_live : Free ≡ Live → ⊥
      free_live e = cc

      free_retired : (z : ℕ) → Free ≡ Retired z → ⊥
      free_retired z e = cc

  safe_before : (u : ℕ) → IsSafe next u → IsSafe s u
  safe_before u safe = let back = sym (other u (safe_other u safe)) in
      ⊎_elim (λ live. inl (back ∙ live)) (λ late. inr (late.0, back ∙ late.1, late.2)) safe

  -- what was retired a short while ago, or is live, is another slot
  late_other : (u z : ℕ) → s.epoch ≤ z + 1 → (s.status u ≡ Live) ⊎ ((w : ℕ) × (s.status u ≡ Retired w) × (z ≤ w))
      → u ≢ t
  late_other u z recent (inl live) e = live_other u live e
  late_other u z recent (inr late) e =
      let same = retired_eq late.0 (sym late.1 ∙ (ap s.status e ∙ retired)) in let order = late.2 in
      omega (arith, old, recent, same, order)
    where
      retired_eq : (w : ℕ) → Retired w ≡ Retired y → w ≡ y
      retired_eq w e = cc

  -- no safe node leads to it
  child_other : (q u : ℕ) (b : Bool) → kept.once q ≡ true → IsSafe s q → IsInner now q → now.child b q ≡ suc u → u ≢ t
  child_other q u b is safe inner link = ⊎_elim
      (λ live. live_other u (child_live layout limits s sound kept q u b live inner link))
      (λ late. late_other u late.0 late.2 (kept.limbo q late.0 u b late.1 late.2 inner link)) safe

  once_stays : (u : ℕ) → kept.once u ≡ true → u ≢ t → StaysPassed now now kept.covers kept.covers once u
  once_stays u is ne = record {
    node = same_stays now now u (no_change now u);
    once_linked = once_still u ne is;
    lo = λ inner. same_le (kept.covers.lo u);
    hi = λ inner. same_le (kept.covers.hi u);
  }
    where
      same_le : (k : ℕ) → k ≤ k
      same_le k = omega arith

  -- nor does what is read in a walk
  module _ (readings : Readings) (read : IsRead tree next readings) (stands : IsAsRead now readings) where
    from_other : (u : ℕ) → IsFrom readings u → u ≢ t
    from_other u (inl fixed) = safe_other u (inl (sound'.fixed u fixed))
    from_other u (inr gives) =
        let by = reached (shows_link readings) readings u gives in
        safe_other u (read.safe by.0 by.1 by.2 u by.3 (shown_now s.cells readings stands by.1 by.4) by.5)

    module _ (op : Op) where
      abbrev w : Walk
      w = walk_of layout op readings

      reads : Reads readings (bounds layout) op w
      reads = walk_reads readings (bounds layout) op

      within : IsWithin now now kept.covers kept.covers kept.once once (λ u. u ≢ t) once_stays (key_of op) w
      within = record {
        grand_from = λ going deep. from_other w.grand.from reads.grand_from;
        grand_to = λ going deep. ⊎_elim (λ root. absurd (false_true (sym (reads.shallow root) ∙ deep)))
            (λ some. subst (λ u. u ≢ t) (reads.joined (past_of w.stage going some) deep)
            (from_other w.last.from reads.last_from)) (at_root w.stage);
        from = λ going some. from_other w.last.from reads.last_from;
        node = λ going some. from_other (node_of w) (inr (reads.node (past_of w.stage going some)));
        left = λ u at link. let by = reads.left at in safe_other u (read.safe by.0 (left_of (node_of w)) w.left u by.1
            (left_link s.cells (node_of w)) link);
      }
        where
          false_true : false ≡ true → ⊥
          false_true e = cc

      walk_still : IsWalk now kept.covers kept.once (key_of op) w → IsWalk now kept.covers once (key_of op) w
      walk_still was = walk_stays now now kept.covers kept.covers kept.once once (λ u. u ≢ t) once_stays
          (key_of op) w within was

  -- so the parent and the leaf that a section has taken out are other slots
  parent_other : (d : ℕ) (x : Section) → Here s d x → HasTaken x → parent_in x.thunk ≢ t
  parent_other d x here has = subst (λ u. u ≢ t)
      (sym (open_section.delete_is_removing layout s sound kept d x here has.0).parent)
      (from_other x.readings (sound'.published d x here) (kept.published d x here)
      (walk_of layout x.op x.readings).last.from
      (walk_reads x.readings (bounds layout) x.op).last_from)

  pub collect_kept : TreeKept layout next
  collect_kept = record {
    covers = kept.covers;
    once = once;
    tree = kept.tree;
    sentinels = kept.sentinels;
    linked_live = λ u on. still u (kept.linked_live u on);
    linked_once = λ u on. once_still u (live_other u (kept.linked_live u on)) (kept.linked_once u on);
    retired_once = λ u z late. let ne : u ≢ t = λ e. free_retired z (sym freed ∙ (ap next.status (sym e) ∙ late)) in
        once_still u ne (kept.retired_once u z (sym (other u ne) ∙ late));
    once_used = λ u is free. kept.once_used u (once_before u is) (sym (other u (once_other u is)) ∙ free);
    right_some = λ u some inner. kept.right_some u (used_before u some) inner;
    mark_small = λ u some inner. kept.mark_small u (used_before u some) inner;
    unmarked = λ u is safe inner mark. kept.unmarked u (once_before u is) (safe_before u safe) inner mark;
    trail = λ u v b is safe inner link. let was = kept.trail u v b (once_before u is)
        (safe_before u safe) inner link in record {
          once_linked = once_still v (child_other u v b (once_before u is) (safe_before u safe) inner link) was.once_linked;
          left = was.left;
          right = was.right;
        };
    marked = kept.marked;
    live = λ u live. kept.live u (sym (other u (λ e. free_live (sym freed ∙ (ap next.status (sym e) ∙ live)))) ∙ live);
    limbo = λ q z u b late recent inner link.
        let ne : q ≢ t = λ e. free_retired z (sym freed ∙ (ap next.status (sym e) ∙ late)) in
        let was = kept.limbo q z u b (sym (other q ne) ∙ late) recent inner link in
        let same = other u (late_other u z recent was) in
        ⊎_elim (λ live. inl (same ∙ live)) (λ later. inr (later.0, same ∙ later.1, later.2)) was;
    new_leaf = λ d x here has. let was = kept.new_leaf d x here has in record {
      slot = was.slot;
      link = was.link;
      live = still was.slot was.live;
      new = never was.slot (live_other was.slot was.live) was.new;
      key = was.key;
      leaf = was.leaf;
      value = was.value;
    };
    new_inner = λ d x here has. let was = kept.new_inner d x here has in record {
      slot = was.slot;
      link = was.link;
      live = still was.slot was.live;
      new = never was.slot (live_other was.slot was.live) was.new;
      other = was.other;
      key = was.key;
      new_side = was.new_side;
      old_side = was.old_side;
      unmarked = was.unmarked;
    };
    taken = λ d x here has. let was = kept.taken d x here has in record {
      parent_once = once_still (parent_in x.thunk) (parent_other d x here has) was.parent_once;
      parent_out = was.parent_out;
      parent_unfixed = was.parent_unfixed;
      parent_inner = was.parent_inner;
      parent_live = λ at. still (parent_in x.thunk) (was.parent_live at);
      leaf_once = once_still (leaf_in x.thunk) (live_other (leaf_in x.thunk) was.leaf_live) was.leaf_once;
      leaf_out = was.leaf_out;
      leaf_unfixed = was.leaf_unfixed;
      leaf_up = was.leaf_up;
      leaf_live = still (leaf_in x.thunk) was.leaf_live;
      sibling = was.sibling;
    };
    replaced = λ d x here has. let was = kept.replaced d x here has in record {
      leaf_once = once_still (old_leaf x.thunk) (live_other (old_leaf x.thunk) was.leaf_live) was.leaf_once;
      leaf_out = was.leaf_out;
      leaf_up = was.leaf_up;
      leaf_live = still (old_leaf x.thunk) was.leaf_live;
    };
    readers = kept.readers;
    published = kept.published;
    walks = λ r readings op reader low. walk_still readings (sound'.readers r readings reader)
        (kept.readers r readings reader) op (kept.walks r readings op reader low);
    sections = λ d x here. walk_still x.readings (sound'.published d x here) (kept.published d x here) x.op
        (kept.sections d x here);
  }
    where
      free_live : Free ≡ Live → ⊥
      free_live e = cc

      free_retired : (z : ℕ) → Free ≡ Retired z → ⊥
      free_retired z e = cc

      used_before : (u : ℕ) → next.status u ≢ Free → s.status u ≢ Free
      used_before u some free = some (other u (λ e. free_late (sym free ∙ (ap s.status e ∙ retired))) ∙ free)
        where
          free_late : Free ≡ Retired y → ⊥
          free_late e = cc

      never : (u : ℕ) → u ≢ t → kept.once u ≡ false → once u ≡ false
      never u ne new = upd_other kept.once t u false ne ∙ new
