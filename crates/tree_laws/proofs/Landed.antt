-- Where an open section's walk has ended: its parent is linked and covers the key, and so does its leaf, as long as the mark and the link stand.
use Rattle.std.proofs.Common.{inl, ⊎_elim, ◌≡◌, ℕ, suc, ◌<◌, ◌≤◌, Bool, true, false, refl, sym, ap, ◌∙◌, arith}
use Rattle.structure_laws.specs.map_history.specs.Keys.{key_of}
use Rattle.structure_laws.specs.body_terms.specs.Word.{value_of}
use Rattle.structure_laws.specs.table_words.specs.declared.layout.Layout.{Layout}
use Rattle.structure_laws.specs.Scene.{Section, Scene}
use Rattle.structure_laws.specs.Sections.{Here}
use Rattle.structure_laws.specs.Cells.{IsSafe}
use Rattle.structure_laws.specs.Sound.{Sound}
use Rattle.bucket_laws.proofs.TableGives.{reached}
use Rattle.tree_bodies.specs.Tree.{mark_of, slot_in}
use Rattle.tree_laws.specs.Search.{Nodes, IsInner, low, high}
use Rattle.tree_laws.specs.Walk.{node_of, Walk, AtRoot, AtEnd, Refused, Step, step_to, step_place}
use Rattle.tree_laws.specs.Leaves.{is_link_in, shows_link, nodes, bounds, walk_of, IsPassed, IsFollowed, IsWalk, TreeKept, tree}
use Rattle.tree_laws.specs.Landing.{HasLanded}
use Rattle.tree_laws.proofs.Fit.{IsFit, fit_of}
use Rattle.tree_laws.proofs.Shown.{shown_now}
use Rattle.tree_laws.proofs.WalkReads.{IsFrom, is_past, Reads, walk_reads}

module _ (layout : Layout) (s : Scene) (sound : Sound tree layout s) (kept : TreeKept layout s) (d : ℕ) (x : Section) (here : Here s d x) where
  abbrev w : Walk
  w = walk_of layout x.op x.readings

  abbrev now : Nodes
  now = nodes s.cells

  abbrev key : ℕ
  key = key_of x.op

  pub fit : IsFit x.op w x.thunk
  fit = fit_of x.op w x.thunk (sound.fits d x here)

  pub reads : Reads x.readings (bounds layout) x.op w
  reads = walk_reads x.readings (bounds layout) x.op

  pub past : is_past w.stage ≡ true
  past = ap is_past fit.stage

  pub walk : IsWalk now kept.covers kept.once key w
  walk = kept.sections d x here

  pub last : IsFollowed now kept.covers kept.once key w.last
  last = walk.last (λ e. end_refused (sym fit.stage ∙ e)) (λ e. end_root (sym fit.stage ∙ e))
    where
      end_refused : AtEnd ≡ Refused → ⊥
      end_refused e = cc

      end_root : AtEnd ≡ AtRoot → ⊥
      end_root e = cc

  -- an inner node on the walk that is safe and not marked is linked, and covers the key
  pub on_path : (t : ℕ) → IsPassed now kept.covers kept.once key t → IsSafe s t → IsInner now t → now.mark t ≡ 0
      → (kept.covers.linked t ≡ true) × (kept.covers.lo t ≤ key) × (key < kept.covers.hi t)
  on_path t passed safe inner mark = let covers = passed.covers inner in (kept.unmarked t passed.once_linked safe inner mark, covers.0, covers.1)

  -- a link of a linked node on the key's side leads to a linked node that covers the key
  pub onward : (step : Step) → IsFollowed now kept.covers kept.once key step → kept.covers.linked step.from ≡ true → value_of (s.cells (step_place step)) ≡ value_of step.word
      → (kept.covers.linked (step_to step) ≡ true) × (kept.covers.up (step_to step) ≡ step.from) × (kept.covers.lo (step_to step) ≤ key) × (key < kept.covers.hi (step_to step))
  onward step followed linked stands =
      let covers = followed.from.covers followed.inner in
      let link : now.child step.side step.from ≡ suc (step_to step) = stands ∙ before followed.some in
      let bounds = by step.side (kept.tree.child_lo step.side step.from (step_to step) linked followed.inner link) (kept.tree.child_hi step.side step.from (step_to step) linked followed.inner link)
      (λ e. followed.is_left e) (λ e. followed.is_right e) covers in
      (kept.tree.child_linked step.side step.from (step_to step) linked followed.inner link, kept.tree.child_up step.side step.from (step_to step) linked followed.inner link, bounds.0, bounds.1)
    where
      before : 0 < value_of step.word → value_of step.word ≡ suc (slot_in step.word)
      before some = omega arith

      by : (side : Bool) → kept.covers.lo (step_to step) ≡ low now kept.covers.lo side step.from → kept.covers.hi (step_to step) ≡ high now kept.covers.hi side step.from
          → (side ≡ true → key < now.key step.from) → (side ≡ false → now.key step.from ≤ key) → (kept.covers.lo step.from ≤ key) × (key < kept.covers.hi step.from)
          → (kept.covers.lo (step_to step) ≤ key) × (key < kept.covers.hi (step_to step))
      by true lo hi left right covers = let less = left refl in (omega arith, omega arith)
      by false lo hi left right covers = let less = right refl in (omega arith, omega arith)

  -- a slot that the readings give is safe
  pub from_safe : (t : ℕ) → IsFrom x.readings t → IsSafe s t
  from_safe t from = ⊎_elim (λ fixed. inl (sound.fixed t fixed))
      (λ gives. let by = reached (shows_link x.readings) x.readings t gives in (sound.published d x here).safe by.0 by.1 by.2 t by.3 (link_now by.1 by.4) by.5) from
    where
      link_now : (p : ℕ) → shows_link x.readings p ≡ true → is_link_in s.cells p ≡ true
      link_now p shown = shown_now s.cells x.readings (kept.published d x here) p shown

  -- a section that changes nothing, or puts a leaf in, past its Wants: its link and its mark stand as they were read
  module _ (link : s.cells (step_place w.last) ≡ w.last.word) (mark : s.cells (mark_of w.last.from) ≡ w.mark) where
    parent_linked : (kept.covers.linked w.last.from ≡ true) × (kept.covers.lo w.last.from ≤ key) × (key < kept.covers.hi w.last.from)
    parent_linked = on_path w.last.from last.from (from_safe w.last.from reads.last_from) last.inner (ap value_of mark ∙ reads.unmarked fit.stage)

    leaf_linked : (kept.covers.linked (node_of w) ≡ true) × (kept.covers.up (node_of w) ≡ w.last.from) × (kept.covers.lo (node_of w) ≤ key) × (key < kept.covers.hi (node_of w))
    leaf_linked = onward w.last last parent_linked.0 (ap value_of link)

    pub has_landed : HasLanded kept.covers key w
    has_landed = record {
      parent = record { linked = parent_linked.0; lo = parent_linked.1; hi = parent_linked.2 };
      node = record { linked = leaf_linked.0; lo = leaf_linked.2; hi = leaf_linked.3 };
      up = leaf_linked.1;
    }
