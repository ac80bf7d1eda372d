-- A section at its stamp that puts a new leaf in the place of another: its Store leads to a memory that stands for the
-- map after its operation.
use Rattle.std.specs.Prelude.{◌⊎◌, ◌^◌, Bool, true, false, Some, slice_get}
use Rattle.std.proofs.Common.{◌≡◌, ◌≢◌, ℕ, suc, ◌<◌, ◌≤◌, refl, sym, ap, ◌∙◌, subst, ⊎_elim, arith}
use Rattle.std.proofs.lemmas.Bool.{cases_eq, both_ways}
use Rattle.std.specs.FinMap.{get}
use Rattle.structure_laws.specs.map_history.specs.Keys.{key_of}
use Rattle.structure_laws.specs.map_history.specs.Replay.{Pairs, map_after}
use Rattle.structure_laws.specs.body_terms.specs.Word.{value_of}
use Rattle.structure_laws.specs.body_terms.specs.Update.{upd}
use Rattle.bucket_laws.specs.bucket_bodies.specs.section_body.specs.Bucket.{operand}
use Rattle.structure_laws.specs.body_terms.specs.declared.value.Value.TheVariants.{Made}
use Rattle.structure_laws.specs.body_terms.specs.declared.step.Step.{Step}
use Rattle.structure_laws.specs.body_terms.specs.declared.step.Step.TheVariants.{Load, Stamp, Store}
use Rattle.structure_laws.specs.table_words.specs.declared.layout.Layout.{Layout}
use Rattle.structure_laws.specs.table_words.specs.Limits.{IsWithinLimits}
use Rattle.structure_laws.specs.table_words.specs.Places.{slot_count}
use Rattle.structure_laws.specs.Scene.{Cells, Section, Free, Live, Scene}
use Rattle.structure_laws.specs.Sections.{IsStep}
use Rattle.structure_laws.specs.InTurn.{StandsFor, AtStamp, AfterStores}
use Rattle.structure_laws.proofs.Changes.{value-next_word, value_small}
use Rattle.structure_laws.proofs.Limits.{links_small, value-small}
use Rattle.bucket_laws.proofs.Maps.{set_map}
use Rattle.tree_bodies.specs.Tree.{key_cell, mark_of, child_of, Replace, form_of, body_of}
use Rattle.tree_laws.specs.Search.{Nodes, Covers, IsInner, IsLeaf, with_child, IsReplacement, ReplacementKeeps}
use Rattle.tree_laws.specs.Search.{ViewsAgree}
use Rattle.tree_laws.specs.Walk.{Walk, node_of}
use Rattle.tree_laws.specs.Leaves.{nodes, walk_of, TreeStands, IsNewLeaf, TreeKept, tree}
use Rattle.tree_laws.proofs.Alike.{AreAlike, tree_alike, contents_alike, contents_same}
use Rattle.tree_laws.proofs.Apart.{key_apart, mark_apart}
use Rattle.tree_laws.proofs.Changed.{changed_alike, other_child, changed_sentinels}
use Rattle.tree_laws.proofs.Forms.{replace_load, replace_store}
use Rattle.tree_laws.proofs.Replacement as replacement
use Rattle.tree_laws.proofs.Replacing as replacing
use Rattle.tree_laws.proofs.Turn.{replace_stamp, contents, leaf_unfixed}
use Rattle.tree_laws.proofs.Views.{views_agree}
use Rattle.tree_laws.proofs.Open as open_section

unfixed : (n : ℕ) → (n ≡ 0 → ⊥) → (n ≡ 1 → ⊥) → (n ≡ 2 → ⊥) → 3 ≤ n
unfixed n zero one two = search arith

module _ (layout : Layout) (limits : IsWithinLimits layout) (s : Scene) (pairs : Pairs) (d : ℕ) (x : Section)
    (before : StandsFor tree layout s pairs) (stamp : AtStamp tree s d x) (after : Cells)
    (stores : AfterStores tree x s.cells after) (form : form_of x.thunk ≡ Replace) where
  abbrev kept : TreeKept layout s
  kept = before.kept

  abbrev now : Nodes
  now = nodes s.cells

  abbrev w : Walk
  w = walk_of layout x.op x.readings

  step_as : (j : ℕ) (step : Step) → IsStep tree x j step → slice_get (body_of Replace x.thunk) j ≡ Some step
  step_as = open_section.step_as layout s before.sound kept d x stamp.here Replace form

  step_is : (j : ℕ) (step : Step) → slice_get (body_of Replace x.thunk) j ≡ Some step → IsStep tree x j step
  step_is = open_section.step_is layout s before.sound kept d x stamp.here Replace form

  at : x.at ≡ 6
  at = replace_stamp x.thunk x.at (step_as x.at Stamp stamp.stamp)

  abbrev past : 6 ≤ x.at
  past = let e = at in omega (arith, e)

  abbrev few : x.at ≤ 7
  few = let e = at in omega (arith, e)

  abbrev leaf : IsNewLeaf s kept.once x
  leaf = replacing.leaf layout s before.sound kept d x stamp.here form past few

  is : open_section.IsReplacing layout s before.sound kept d x stamp.here
  is = replacing.is layout s before.sound kept d x stamp.here form past few

  plain : open_section.IsPlain layout s before.sound kept d x stamp.here
  plain = replacing.plain layout s before.sound kept d x stamp.here form past few

  abbrev a : ℕ
  a = w.last.from

  abbrev side : Bool
  side = w.last.side

  abbrev l : ℕ
  l = node_of w

  abbrev f : ℕ
  f = leaf.slot

  replaces : IsReplacement now kept.covers side a l f
  replaces = replacing.replacement layout s before.sound kept d x stamp.here form past few

  keeps : ReplacementKeeps now kept.covers side a l f
  keeps = replacing.replacement_kept layout s before.sound kept d x stamp.here form past few

  abbrev then_covers : Covers
  then_covers = replacing.then_covers layout s before.sound kept d x stamp.here form past few

  live_within : (t : ℕ) → s.status t ≡ Live → t < slot_count layout 3
  live_within t live = before.sound.within t (λ free. live_free live free)
    where
      live_free : s.status t ≡ Live → s.status t ≡ Free → ⊥
      live_free live free = cc

  -- the cells that it leaves
  same_cell : (p : ℕ) → p ≢ child_of side a → after p ≡ s.cells p
  same_cell p ne = stores.same p (λ i j r v store load.
      let zero = (replace_store x.thunk i r v (step_as i (Store r v) store)).1 in
      ⊎_elim (λ link. ne (link.2 ∙ plain.place)) (λ mark. let one = mark.1 in omega (arith, zero, one))
      (replace_load x.thunk j p r (step_as j (Load p r) load)))

  stored : value_of (after (child_of side a)) ≡ suc f
  stored = ap (λ p. value_of (after p)) (sym plain.place)
      ∙ (ap value_of (stores.changed 7 0 (operand x.thunk 0) 0 (Made 2) (step_is 7 (Store 0 (Made 2)) refl)
      (step_is 0 (Load (operand x.thunk 0) 0) refl))
      ∙ (value-next_word (x.reg 0) (value_of (x.reg 2)) (value_small (x.reg 2))
      ∙ (ap value_of leaf.link ∙ value-small (suc f) narrow)))
    where
      narrow : suc f < 2 ^ 32
      narrow = links_small layout 3 f limits (omega arith) (live_within f leaf.live)

  keys : (t : ℕ) → after (key_cell t) ≡ s.cells (key_cell t)
  keys t = same_cell (key_cell t) (key_apart side t a)

  links : (b : Bool) (t : ℕ) → child_of b t ≢ child_of side a → after (child_of b t) ≡ s.cells (child_of b t)
  links b t ne = same_cell (child_of b t) ne

  then_alike : AreAlike (with_child now side a (suc f)) (nodes after) then_covers
  then_alike = changed_alike s.cells after side a (suc f) keys links stored then_covers

  then_child : (b : Bool) (t : ℕ) → (b ≡ side → t ≢ a) → (nodes after).child b t ≡ now.child b t
  then_child = other_child s.cells after side a (suc f) keys links stored

  which_is : (t : ℕ) → then_covers.linked t ≡ true → (t ≡ f) ⊎ ((kept.covers.linked t ≡ true) × (t ≢ f) × (t ≢ l))
  which_is t on = replacement.which now kept.covers side a l f kept.tree replaces t on

  sentinel_on : (t : ℕ) → kept.covers.linked t ≡ true → t < 3 → then_covers.linked t ≡ true
  sentinel_on t on low = replacement.links now kept.covers side a l f kept.tree replaces t on
      (λ same. let high = leaf_unfixed layout limits s pairs d x before stamp is.found in omega
      (arith, same, high, low))

  leaf_low : 3 ≤ f
  leaf_low = unfixed f
      (λ e. both_ways _ (ap kept.once (sym e) ∙ leaf.new) (kept.linked_once 0 kept.tree.root))
      (λ e. both_ways _ (ap kept.once (sym e) ∙ leaf.new) (kept.linked_once 1 kept.sentinels.first))
      (λ e. both_ways _ (ap kept.once (sym e) ∙ leaf.new) (kept.linked_once 2 kept.sentinels.last))

  agree : ViewsAgree kept.covers before.stands.covers
  agree = views_agree now kept.covers before.stands.covers kept.tree before.stands.tree

  was_inner : (t : ℕ) → IsInner (nodes after) t → IsInner now t
  was_inner t inner_then = ⊎_elim (λ e. subst (IsInner now) (sym e) replaces.above_inner)
      (λ ne. subst (λ k. 0 < k) (then_child true t (λ e. ne)) inner_then) (cases_eq t a)

  leaf_no_inner : (t : ℕ) → IsLeaf now t → IsInner now t → ⊥
  leaf_no_inner t leaf inner = omega (arith, leaf, inner)

  pub replace_stands : TreeStands (slot_count layout 3) after (map_after pairs x.op)
  replace_stands = record {
    covers = then_covers;
    within = λ t on. ⊎_elim (λ e. subst (λ k. k < slot_count layout 3) (sym e) (live_within f leaf.live))
        (λ was. live_within t (kept.linked_live t was.0)) (which_is t on);
    tree = tree_alike (with_child now side a (suc f)) (nodes after) then_covers then_alike keeps.tree;
    sentinels = changed_sentinels s.cells after side a (suc f) keys links stored replaces.above_inner (omega arith)
        kept.covers then_covers kept.sentinels (sentinel_on 1 kept.sentinels.first (omega arith))
        (sentinel_on 2 kept.sentinels.last (omega arith))
        (replacing.not_root layout s before.sound kept d x stamp.here form past few);
    unmarked = λ t on inner_then. ap value_of (same_cell (mark_of t) (mark_apart side t a)) ∙ ⊎_elim
        (λ e. absurd (leaf_no_inner t (subst (IsLeaf now) (sym e) leaf.leaf) (was_inner t inner_then)))
        (λ was. before.stands.unmarked t (sym (agree.linked t) ∙ was.0) (was_inner t inner_then))
        (which_is t on);
    contents = contents_same (nodes after) then_covers (upd (get pairs) (now.key f) (Some (now.child false f)))
        (get (map_after pairs x.op))
        (contents_alike (with_child now side a (suc f)) (nodes after) then_covers then_alike _
        (keeps.contents (get pairs) leaf_low (contents layout limits s pairs d x before stamp)))
        (λ q. (λ i. upd (get pairs) (new_key i) (Some (new_value i)) q)
        ∙ set_map pairs x.op is.key is.value is.put q);
  }
    where
      new_key : now.key f ≡ key_of x.op
      new_key = replacing.new_key layout s before.sound kept d x stamp.here form past few

      new_value : now.child false f ≡ is.value
      new_value = leaf.value ∙ is.new_value
