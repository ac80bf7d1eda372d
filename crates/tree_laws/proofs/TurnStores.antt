-- The Stores of a section of the tree at its stamp lead to a memory that stands for the map after its operation.
use Rattle.std.specs.Prelude.{◌⊎◌, ◌%◌, ◌^◌, Bool, true, false, Some, None, if◌then◌else◌, slice_get}
use Rattle.std.proofs.Common.{◌≡◌, ◌≢◌, ℕ, suc, ◌+◌, ◌*◌, ◌<◌, ◌≤◌, refl, sym, ap, ◌∙◌, subst, inl, inr, ⊎_elim, arith}
use Rattle.std.proofs.Math.Path.{fun_ext}
use Rattle.std.proofs.lemmas.Bool.{cases_eq, both_ways}
use Rattle.std.specs.FinMap.{get, insert}
use Rattle.structure_laws.specs.map_history.specs.declared.op.Op.{Op}
use Rattle.structure_laws.specs.map_history.specs.declared.op.Op.TheVariants.{Get, Ins, Del, Put, Mov}
use Rattle.structure_laws.specs.map_history.specs.Keys.{key_of}
use Rattle.structure_laws.specs.map_history.specs.Replay.{Pairs, map_after}
use Rattle.structure_laws.specs.body_terms.specs.Word.{value_of}
use Rattle.structure_laws.specs.body_terms.specs.Update.{upd}
use Rattle.bucket_laws.specs.bucket_bodies.specs.section_body.specs.Bucket.{operand}
use Rattle.structure_laws.specs.body_terms.specs.declared.value.Value.TheVariants.{Of, Made}
use Rattle.structure_laws.specs.body_terms.specs.declared.step.Step.{Step}
use Rattle.structure_laws.specs.body_terms.specs.declared.step.Step.TheVariants.{Load, Stamp, Store}
use Rattle.structure_laws.specs.table_words.specs.declared.layout.Layout.{Layout}
use Rattle.structure_laws.specs.table_words.specs.Limits.{IsWithinLimits}
use Rattle.structure_laws.specs.table_words.specs.Places.{slot_count}
use Rattle.structure_laws.specs.Scene.{Cells, Section, Status, Free, Live, Scene}
use Rattle.structure_laws.specs.Sections.{IsStep}
use Rattle.structure_laws.specs.InTurn.{StandsFor, AtStamp, AfterStores, InTurn}
use Rattle.structure_laws.proofs.Changes.{upd_same, upd_other, equal_of, value-next_word, value_small}
use Rattle.structure_laws.proofs.Limits.{links_small, value-small}
use Rattle.bucket_laws.proofs.Maps.{get_removed, insert_map, remove_map}
use Rattle.node_laws.proofs.Forms.{there}
use Rattle.tree_bodies.specs.Tree.{key_cell, mark_of, child_of, Form, Look, Insert, Delete, Replace, form_of, body_of}
use Rattle.tree_laws.specs.Search.{Nodes, Covers, IsInner, IsLeaf, Contents, with_child, RemovalKeeps, InsertionKeeps, thrice, ViewsAgree}
use Rattle.tree_laws.specs.Walk.{Walk, node_of, form_for}
use Rattle.tree_laws.specs.Leaves.{nodes, walk_of, IsFollowed, TreeStands, IsNewLeaf, IsNewInner, TreeKept, tree}
use Rattle.tree_laws.specs.Landing.{HasLanded}
use Rattle.tree_laws.proofs.Forms.{insert_load, delete_load, look_store, insert_store, delete_store}
use Rattle.tree_laws.proofs.Views.{views_agree}
use Rattle.tree_laws.proofs.Apart.{key_apart, mark_apart, key_no_mark, child_no_mark, mark_other}
use Rattle.tree_laws.proofs.Changed.{changed_alike, other_child, changed_sentinels}
use Rattle.tree_laws.proofs.Inserting as inserting
use Rattle.tree_laws.proofs.Removal.{still, remains}
use Rattle.tree_laws.proofs.Removing as removing
use Rattle.tree_laws.proofs.Alike.{AreAlike, tree_alike, sentinels_alike, contents_alike, contents_same, inner_back}
use Rattle.tree_laws.proofs.Turn.{look_stamp, insert_stamp, delete_stamp, contents, key_there, leaf_unfixed, found_is, missing_is, turn_answers}
use Rattle.tree_laws.proofs.Gives.{first_load, fourth_load}
use Rattle.tree_laws.proofs.ReplaceTurn as replace_turn
use Rattle.tree_laws.proofs.Open as open_section

unfixed : (n : ℕ) → (n ≡ 0 → ⊥) → (n ≡ 1 → ⊥) → (n ≡ 2 → ⊥) → 3 ≤ n
unfixed n zero one two = search arith

-- one value of a function that is true changes to true, or to false
upd_true : (f : ℕ → Bool) (x u : ℕ) → f u ≡ true → upd f x true u ≡ true
upd_true f x u e = ⊎_elim (λ same. upd_same f x u true same) (λ ne. upd_other f x u true ne ∙ e) (cases_eq u x)

thrice_true : (f : ℕ → Bool) (x y z u : ℕ) → f u ≡ true → thrice f x true y true z true u ≡ true
thrice_true f x y z u e = upd_true (upd (upd f x true) y true) z u (upd_true (upd f x true) y u (upd_true f x u e))

thrice_cases : (f : ℕ → Bool) (x y z u : ℕ) → thrice f x true y true z true u ≡ true
    → (u ≡ z) ⊎ ((u ≡ y) ⊎ ((u ≡ x) ⊎ (f u ≡ true)))
thrice_cases f x y z u e = ⊎_elim (λ same. inl same)
    (λ ne. ⊎_elim (λ same. inr (inl same))
    (λ ne'. ⊎_elim (λ same. inr (inr (inl same)))
    (λ ne''. inr (inr (inr (sym (upd_other (upd (upd f x true) y true) z u true ne
    ∙ (upd_other (upd f x true) y u true ne' ∙ upd_other f x u true ne'')) ∙ e))))
    (cases_eq u x)) (cases_eq u y)) (cases_eq u z)

module _ (layout : Layout) (limits : IsWithinLimits layout) (s : Scene) (pairs : Pairs) (d : ℕ) (x : Section)
    (before : StandsFor tree layout s pairs) (stamp : AtStamp tree s d x) (after : Cells)
    (stores : AfterStores tree x s.cells after) where
  abbrev kept : TreeKept layout s
  kept = before.kept

  abbrev now : Nodes
  now = nodes s.cells

  abbrev w : Walk
  w = walk_of layout x.op x.readings

  abbrev map : Contents now kept.covers (get pairs)
  map = contents layout limits s pairs d x before stamp

  abbrev Stands : Type 0
  Stands = TreeStands (slot_count layout 3) after (map_after pairs x.op)

  -- a step of the body by its form, and back
  step_as : (f : Form) → form_of x.thunk ≡ f → (j : ℕ) (step : Step) → IsStep tree x j step
      → slice_get (body_of f x.thunk) j ≡ Some step
  step_as = open_section.step_as layout s before.sound kept d x stamp.here

  step_is : (f : Form) → form_of x.thunk ≡ f → (j : ℕ) (step : Step) → slice_get (body_of f x.thunk) j ≡ Some step
      → IsStep tree x j step
  step_is = open_section.step_is layout s before.sound kept d x stamp.here

  leaf_is : IsLeaf now (node_of w)
  leaf_is = open_section.leaf_is layout s before.sound kept d x stamp.here

  low : key_of x.op ≤ 4294967293
  low = (before.sound.allowed d x stamp.here).keys (key_of x.op) (inl refl)

  live_within : (t : ℕ) → s.status t ≡ Live → t < slot_count layout 3
  live_within t live = before.sound.within t (λ free. live_free live free)
    where
      live_free : s.status t ≡ Live → s.status t ≡ Free → ⊥
      live_free live free = cc

  linked_within : (t : ℕ) → kept.covers.linked t ≡ true → t < slot_count layout 3
  linked_within t on = live_within t (kept.linked_live t on)

  agree : ViewsAgree kept.covers before.stands.covers
  agree = views_agree now kept.covers before.stands.covers kept.tree before.stands.tree

  unmarked : (t : ℕ) → kept.covers.linked t ≡ true → IsInner now t → now.mark t ≡ 0
  unmarked t on inner = before.stands.unmarked t (sym (agree.linked t) ∙ on) inner

  leaf_no_inner : (t : ℕ) → IsLeaf now t → IsInner now t → ⊥
  leaf_no_inner t leaf inner = omega (arith, leaf, inner)

  -- one that changes nothing
  look_stands : form_of x.thunk ≡ Look → Stands
  look_stands form =
      let at = look_stamp x.thunk x.at (step_as Look form x.at Stamp stamp.stamp) in
      let landed = open_section.look_landed layout s before.sound kept d x stamp.here form (omega (arith, at)) in
      let same : s.cells ≡ after = fun_ext (λ p. sym (stores.same p
      (λ i j r v store load. look_store x.thunk i r v (step_as Look form i (Store r v) store)))) in
      subst (λ cells. TreeStands (slot_count layout 3) cells (map_after pairs x.op)) same (record {
        covers = kept.covers;
        within = linked_within;
        tree = kept.tree;
        sentinels = kept.sentinels;
        unmarked = unmarked;
        contents = contents_same now kept.covers (get pairs) (get (map_after pairs x.op)) map
            (unchanged x.op w.found (open_section.look_form_is layout s before.sound kept d x stamp.here form)
            (λ hit. (
              now.child false (node_of w),
              found_is layout limits s pairs d x before stamp landed.node.linked hit,
            ))
            (λ missed. let on = landed.node in
            missing_is layout limits s pairs d x before stamp on.linked on.lo on.hi missed));
      })
    where
      unchanged : (op : Op) (hit : Bool) → form_for op hit ≡ 11
          → (hit ≡ true → (v : ℕ) × (get pairs (key_of op) ≡ Some v)) → (hit ≡ false → get pairs (key_of op) ≡ None)
          → (q : ℕ) → get pairs q ≡ get (map_after pairs op) q
      unchanged (Get key) hit form some none q = refl
      unchanged (Ins key value) true form some none q = let is = some refl in
          ap (λ b. get (if b then pairs else insert pairs key value) q) (sym (there pairs key is.0 is.1))
      unchanged (Ins key value) false form some none q = absurd (omega (arith, form))
      unchanged (Del key) true form some none q = absurd (omega (arith, form))
      unchanged (Del key) false form some none q = sym (get_removed pairs key q ∙ absent q key (none refl))
        where
          absent : (q key : ℕ) → get pairs key ≡ None → upd (get pairs) key None q ≡ get pairs q
          absent q key h = ⊎_elim (λ e. upd_same (get pairs) key q None e ∙ (sym h ∙ ap (get pairs) (sym e)))
              (λ ne. upd_other (get pairs) key q None ne) (cases_eq q key)
      unchanged (Put key value) true form some none q = absurd (omega (arith, form))
      unchanged (Put key value) false form some none q = absurd (omega (arith, form))
      unchanged (Mov from to) there form some none q = absurd (omega (arith, form))

  -- an insertion
  module _ (form : form_of x.thunk ≡ Insert) where
    at : x.at ≡ 7
    at = insert_stamp x.thunk x.at (step_as Insert form x.at Stamp stamp.stamp)

    abbrev past : 7 ≤ x.at
    past = let e = at in omega (arith, e)

    abbrev few : x.at ≤ 8
    few = let e = at in omega (arith, e)

    landed : HasLanded kept.covers (key_of x.op) w
    landed = inserting.landed layout s before.sound kept d x stamp.here form past few

    abbrev leaf : IsNewLeaf s kept.once x
    leaf = inserting.leaf layout s before.sound kept d x stamp.here form past few

    abbrev inner : IsNewInner s kept.once x
    inner = inserting.inner layout s before.sound kept d x stamp.here form past few

    is : open_section.IsInserting layout s before.sound kept d x stamp.here
    is = inserting.is layout s before.sound kept d x stamp.here form past few

    plain : open_section.IsPlain layout s before.sound kept d x stamp.here
    plain = inserting.plain layout s before.sound kept d x stamp.here form past few

    last : IsFollowed now kept.covers kept.once (key_of x.op) w.last
    last = inserting.last layout s before.sound kept d x stamp.here form past few

    abbrev a : ℕ
    a = w.last.from

    abbrev side : Bool
    side = w.last.side

    abbrev h : Bool
    h = inserting.h layout s before.sound kept d x stamp.here form past few

    keeps : InsertionKeeps now kept.covers side h a (node_of w) inner.slot leaf.slot
    keeps = inserting.insertion_kept layout s before.sound kept d x stamp.here form past few

    abbrev then_covers : Covers
    then_covers = inserting.then_covers layout s before.sound kept d x stamp.here form past few

    -- the cells that it leaves
    same_cell : (p : ℕ) → p ≢ child_of side a → after p ≡ s.cells p
    same_cell p ne = stores.same p (λ i j r v store load.
        let zero = (insert_store x.thunk i r v (step_as Insert form i (Store r v) store)).1 in
        ⊎_elim (λ link. ne (link.2 ∙ plain.place)) (λ mark. let one = mark.1 in omega (arith, zero, one))
        (insert_load x.thunk j p r (step_as Insert form j (Load p r) load)))

    stored : value_of (after (child_of side a)) ≡ suc inner.slot
    stored = ap (λ p. value_of (after p)) (sym plain.place)
        ∙ (ap value_of (stores.changed 8 0 (operand x.thunk 0) 0 (Made 3)
        (step_is Insert form 8 (Store 0 (Made 3)) refl) (step_is Insert form 0 (Load (operand x.thunk 0) 0) refl))
        ∙ (value-next_word (x.reg 0) (value_of (x.reg 3)) (value_small (x.reg 3))
        ∙ (ap value_of inner.link ∙ value-small (suc inner.slot) narrow)))
      where
        narrow : suc inner.slot < 2 ^ 32
        narrow = links_small layout 3 inner.slot limits (omega arith) (live_within inner.slot inner.live)

    keys : (t : ℕ) → after (key_cell t) ≡ s.cells (key_cell t)
    keys t = same_cell (key_cell t) (key_apart side t a)

    links : (b : Bool) (t : ℕ) → child_of b t ≢ child_of side a → after (child_of b t) ≡ s.cells (child_of b t)
    links b t ne = same_cell (child_of b t) ne

    then_alike : AreAlike (with_child now side a (suc inner.slot)) (nodes after) then_covers
    then_alike = changed_alike s.cells after side a (suc inner.slot) keys links stored then_covers

    then_child : (b : Bool) (t : ℕ) → (b ≡ side → t ≢ a) → (nodes after).child b t ≡ now.child b t
    then_child = other_child s.cells after side a (suc inner.slot) keys links stored

    no_leaf : (t : ℕ) → IsLeaf now t → t ≢ a
    no_leaf t none same = leaf_no_inner a (subst (IsLeaf now) same none) last.inner

    then_on : (t : ℕ) → kept.covers.linked t ≡ true → then_covers.linked t ≡ true
    then_on t on = thrice_true kept.covers.linked leaf.slot (node_of w) inner.slot t on

    leaf_low : 3 ≤ leaf.slot
    leaf_low = unfixed leaf.slot
        (λ e. both_ways _ (ap kept.once (sym e) ∙ leaf.new) (kept.linked_once 0 kept.tree.root))
        (λ e. both_ways _ (ap kept.once (sym e) ∙ leaf.new) (kept.linked_once 1 kept.sentinels.first))
        (λ e. both_ways _ (ap kept.once (sym e) ∙ leaf.new) (kept.linked_once 2 kept.sentinels.last))

    insert_stands : Stands
    insert_stands = record {
      covers = then_covers;
      within = λ t on. ⊎_elim (λ e. subst (λ k. k < slot_count layout 3) (sym e) (live_within inner.slot inner.live))
          (⊎_elim (λ e. subst (λ k. k < slot_count layout 3) (sym e) (linked_within (node_of w) landed.node.linked))
          (⊎_elim (λ e. subst (λ k. k < slot_count layout 3) (sym e) (live_within leaf.slot leaf.live))
          (λ was. linked_within t was)))
          (thrice_cases kept.covers.linked leaf.slot (node_of w) inner.slot t on);
      tree = tree_alike (with_child now side a (suc inner.slot)) (nodes after) then_covers then_alike keeps.tree;
      sentinels = changed_sentinels s.cells after side a (suc inner.slot) keys links stored last.inner (omega arith)
          kept.covers then_covers kept.sentinels (then_on 1 kept.sentinels.first) (then_on 2 kept.sentinels.last)
          (inserting.not_root layout s before.sound kept d x stamp.here form past few);
      unmarked = λ t on inner_then. ap value_of (same_cell (mark_of t) (mark_apart side t a)) ∙ ⊎_elim
          (λ e. ap now.mark e ∙ inner.unmarked)
          (⊎_elim (λ e. absurd (was_leaf t (subst (IsLeaf now) (sym e) leaf_is) inner_then))
          (⊎_elim (λ e. absurd (was_leaf t (subst (IsLeaf now) (sym e) leaf.leaf) inner_then))
          (λ was. unmarked t was (was_inner t inner_then))))
          (thrice_cases kept.covers.linked leaf.slot (node_of w) inner.slot t on);
      contents = contents_same (nodes after) then_covers
          (upd (get pairs) (now.key leaf.slot) (Some (now.child false leaf.slot))) (get (map_after pairs x.op))
          (contents_alike (with_child now side a (suc inner.slot)) (nodes after) then_covers then_alike _
          (keeps.contents (get pairs) leaf_low map))
          (λ q. (λ i. upd (get pairs) (new_named i) (Some (value_named i)) q)
          ∙ insert_map pairs x.op is.key is.value is.puts (ap (get pairs) (sym is.puts.0) ∙ none) q);
    }
      where
        none : get pairs (key_of x.op) ≡ None
        none = let on = landed.node in
            missing_is layout limits s pairs d x before stamp on.linked on.lo on.hi is.missing

        new_named : now.key leaf.slot ≡ is.key
        new_named = leaf.key ∙ is.new_key

        value_named : now.child false leaf.slot ≡ is.value
        value_named = leaf.value ∙ is.new_value

        was_leaf : (t : ℕ) → IsLeaf now t → IsInner (nodes after) t → ⊥
        was_leaf t none inner_then = leaf_no_inner t none
            (subst (λ k. 0 < k) (then_child true t (λ e. no_leaf t none)) inner_then)

        was_inner : (t : ℕ) → IsInner (nodes after) t → IsInner now t
        was_inner t inner_then = ⊎_elim (λ e. subst (IsInner now) (sym e) last.inner)
            (λ ne. subst (λ k. 0 < k) (then_child true t (λ e. ne)) inner_then) (cases_eq t a)

  -- a removal
  module _ (form : form_of x.thunk ≡ Delete) where
    at_stamp : x.at ≡ 12
    at_stamp = delete_stamp x.thunk x.at (step_as Delete form x.at Stamp stamp.stamp)

    abbrev late : 8 ≤ x.at
    late = let e = at_stamp in omega (arith, e)

    abbrev early : x.at ≤ 14
    early = let e = at_stamp in omega (arith, e)

    stands : open_section.HasFound layout s before.sound kept d x stamp.here
    stands = removing.found layout s before.sound kept d x stamp.here form late early

    is_removing : open_section.IsRemoving layout s before.sound kept d x stamp.here
    is_removing = removing.removing layout s before.sound kept d x stamp.here form

    last_link : IsFollowed now kept.covers kept.once (key_of x.op) w.last
    last_link = removing.last layout s before.sound kept d x stamp.here form

    abbrev g : ℕ
    g = w.grand.from

    abbrev gside : Bool
    gside = w.grand.side

    abbrev p : ℕ
    p = w.last.from

    abbrev b : ℕ
    b = removing.b layout s before.sound kept d x stamp.here form

    gone_keeps : RemovalKeeps now kept.covers gside g p b (node_of w)
    gone_keeps = removing.removal_kept layout s before.sound kept d x stamp.here form late early

    abbrev gone_covers : Covers
    gone_covers = removing.then_covers layout s before.sound kept d x stamp.here form late early

    -- the cells that it leaves
    other_cell : (q : ℕ) → q ≢ child_of gside g → q ≢ mark_of p → after q ≡ s.cells q
    other_cell q ne ne' = stores.same q (λ i j r v store load.
        let loads = delete_load x.thunk j q r (step_as Delete form j (Load q r) load) in
        ⊎_elim
        (λ mark. ne' (fourth_load x.thunk j q r mark.1 loads ∙ ap mark_of is_removing.parent))
        (λ link. ne (first_load x.thunk j q r link.1 loads ∙ is_removing.place))
        (delete_store x.thunk i r v (step_as Delete form i (Store r v) store)))

    gone_stored : value_of (after (child_of gside g)) ≡ suc b
    gone_stored = ap (λ q. value_of (after q)) (sym is_removing.place)
        ∙ (ap value_of (stores.changed 14 0 (operand x.thunk 0) 0 (Of 3)
        (step_is Delete form 14 (Store 0 (Of 3)) refl) (step_is Delete form 0 (Load (operand x.thunk 0) 0) refl))
        ∙ (value-next_word (x.reg 0) (value_of (x.reg 3)) (value_small (x.reg 3))
        ∙ (ap value_of (sym (removing.sibling_read layout s before.sound kept d x stamp.here form read))
        ∙ (removing.sibling_link layout s before.sound kept d x stamp.here form
        ∙ removing.sibling_there layout s before.sound kept d x stamp.here form late early))))
      where
        read : 9 ≤ x.at
        read = let e = at_stamp in omega (arith, e)

    gone_keys : (t : ℕ) → after (key_cell t) ≡ s.cells (key_cell t)
    gone_keys t = other_cell (key_cell t) (key_apart gside t g) (key_no_mark t p)

    gone_links : (c : Bool) (t : ℕ) → child_of c t ≢ child_of gside g → after (child_of c t) ≡ s.cells (child_of c t)
    gone_links c t ne = other_cell (child_of c t) ne (child_no_mark c t p)

    gone_alike : AreAlike (with_child now gside g (suc b)) (nodes after) gone_covers
    gone_alike = changed_alike s.cells after gside g (suc b) gone_keys gone_links gone_stored gone_covers

    gone_child : (c : Bool) (t : ℕ) → (c ≡ gside → t ≢ g) → (nodes after).child c t ≡ now.child c t
    gone_child = other_child s.cells after gside g (suc b) gone_keys gone_links gone_stored

    gone_on : (t : ℕ) → kept.covers.linked t ≡ true → t ≢ p → t ≢ node_of w → gone_covers.linked t ≡ true
    gone_on t on ne ne' = remains kept.covers.linked p (node_of w) t on ne ne'

    was_on : (t : ℕ) → gone_covers.linked t ≡ true → (kept.covers.linked t ≡ true) × (t ≢ p)
    was_on t on = let was = still kept.covers.linked p (node_of w) t on in (was.0, was.1)

    leaf_low_gone : 3 ≤ node_of w
    leaf_low_gone = leaf_unfixed layout limits s pairs d x before stamp is_removing.found

    no_fixed : (t : ℕ) → t < 3 → t ≢ node_of w
    no_fixed t few same = let high = leaf_low_gone in omega (arith, few, same, high)

    no_parent : (t : ℕ) → IsLeaf now t → t ≢ p
    no_parent t none same = leaf_no_inner p (subst (IsLeaf now) same none) last_link.inner

    delete_stands : Stands
    delete_stands = record {
      covers = gone_covers;
      within = λ t on. linked_within t (was_on t on).0;
      tree = tree_alike (with_child now gside g (suc b)) (nodes after) gone_covers gone_alike gone_keeps.tree;
      sentinels = changed_sentinels s.cells after gside g (suc b) gone_keys gone_links gone_stored stands.grand_inner
          (omega arith) kept.covers gone_covers kept.sentinels
          (gone_on 1 kept.sentinels.first (no_parent 1 kept.sentinels.first_leaf) (no_fixed 1 (omega arith)))
          (gone_on 2 kept.sentinels.last (no_parent 2 kept.sentinels.last_leaf) (no_fixed 2 (omega arith)))
          (removing.not_root layout s before.sound kept d x stamp.here form);
      unmarked = λ t on inner_then. let was = was_on t on in
          ap value_of (other_cell (mark_of t) (mark_apart gside t g) (mark_other t p was.1))
          ∙ unmarked t was.0 (was_inner t inner_then);
      contents = contents_same (nodes after) gone_covers (upd (get pairs) (now.key (node_of w)) None)
          (get (map_after pairs x.op))
          (contents_alike (with_child now gside g (suc b)) (nodes after) gone_covers gone_alike _
          (gone_keeps.contents (get pairs) leaf_low_gone map))
          (λ q. ap (λ k. upd (get pairs) k None q) (key_there layout limits s pairs d x before stamp is_removing.found)
          ∙ remove_map pairs x.op is_removing.del q);
    }
      where
        was_inner : (t : ℕ) → IsInner (nodes after) t → IsInner now t
        was_inner t inner_then = ⊎_elim (λ e. subst (IsInner now) (sym e) stands.grand_inner)
            (λ ne. subst (λ k. 0 < k) (gone_child true t (λ e. ne)) inner_then) (cases_eq t g)

  -- a leaf put in the place of another
  replace_stands : form_of x.thunk ≡ Replace → Stands
  replace_stands form = replace_turn.replace_stands layout limits s pairs d x before stamp after stores form

  pub turn_stores : Stands
  turn_stores = by (open_section.kind layout s before.sound kept d x stamp.here limits)
    where
      by : open_section.Kind layout s before.sound kept d x stamp.here limits → Stands
      by (open_section.Looks form) = look_stands form
      by (open_section.Inserts form) = insert_stands form
      by (open_section.Deletes form) = delete_stands form
      by (open_section.Replaces form) = replace_stands form

-- a change of cells of nodes that aren't linked, or of locks, leaves what the memory stands for
module _ (layout : Layout) (s : Scene) (pairs : Pairs) (before : StandsFor tree layout s pairs) (after : Cells)
    (same : (t : ℕ) → before.kept.covers.linked t ≡ true → (k : ℕ) → 1 ≤ k → k < 5
    → after (0 + 5 * t + k) ≡ s.cells (0 + 5 * t + k)) where
  abbrev old : Covers
  old = before.stands.covers

  linked_too : (t : ℕ) → old.linked t ≡ true → before.kept.covers.linked t ≡ true
  linked_too t on =
      (views_agree (nodes s.cells) before.kept.covers old before.kept.tree before.stands.tree).linked t ∙ on

  alike : AreAlike (nodes s.cells) (nodes after) old
  alike = record {
    key = λ t on. ap value_of (same t (linked_too t on) 1 (omega arith) (omega arith));
    child = child;
  }
    where
      child : (b : Bool) (t : ℕ) → old.linked t ≡ true → (nodes after).child b t ≡ (nodes s.cells).child b t
      child true t on = ap value_of (same t (linked_too t on) 2 (omega arith) (omega arith))
      child false t on = ap value_of (same t (linked_too t on) 3 (omega arith) (omega arith))

  still_stands : TreeStands (slot_count layout 3) after pairs
  still_stands = record {
    covers = old;
    within = before.stands.within;
    tree = tree_alike (nodes s.cells) (nodes after) old alike before.stands.tree;
    sentinels = sentinels_alike (nodes s.cells) (nodes after) old alike before.stands.tree before.stands.sentinels;
    unmarked = λ t on inner. ap value_of (same t (linked_too t on) 4 (omega arith) (omega arith))
        ∙ before.stands.unmarked t on (inner_back (nodes s.cells) (nodes after) old alike t on inner);
    contents = contents_alike (nodes s.cells) (nodes after) old alike (get pairs) before.stands.contents;
  }

pub tree_turns : (layout : Layout) → IsWithinLimits layout → InTurn tree layout
tree_turns layout limits = record {
  answers = λ s pairs d x before stamp map j n h. turn_answers layout limits s pairs d x before stamp j n h;
  stores = λ s pairs d x before stamp after stores. turn_stores layout limits s pairs d x before stamp after stores;
  lock = λ s pairs p w before lock. still_stands layout s pairs before (upd s.cells p w)
      (λ t on k low few. upd_other s.cells p (0 + 5 * t + k) w
      (λ e. lock_apart p t k low few (equal_of (p % 5) 0 lock) e));
  hand = λ s pairs t i w before free few. still_stands layout s pairs before (upd s.cells (0 + 5 * t + i) w)
      (λ u on k low few'. upd_other s.cells (0 + 5 * t + i) (0 + 5 * u + k) w (λ e. live_free (s.status u)
      (before.kept.linked_live u on) (ap s.status (slot_same u t k i few' few e) ∙ free)));
}
  where
    lock_apart : (p t k : ℕ) → 1 ≤ k → k < 5 → p % 5 ≡ 0 → 0 + 5 * t + k ≡ p → ⊥
    lock_apart p t k low few lock e = omega (arith, low, few, lock, e)

    slot_same : (u t k i : ℕ) → k < 5 → i < 5 → 0 + 5 * u + k ≡ 0 + 5 * t + i → u ≡ t
    slot_same u t k i few few' e = omega (arith, few, few', e)

    live_free : (x : Status) → x ≡ Live → x ≡ Free → ⊥
    live_free x live free = cc
