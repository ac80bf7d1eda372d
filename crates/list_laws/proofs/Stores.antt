-- The list keeps what it keeps, by each Store of a section.
use Rattle.std.specs.Prelude.{◌⊎◌, ◌+◌, ◌*◌, ◌^◌, Some, slice_get}
use Rattle.std.proofs.Common.{◌≡◌, ◌≢◌, ℕ, suc, ◌<◌, ◌≤◌, refl, sym, ap, ◌∙◌, subst, inl, inr, ⊎_elim, arith}
use Rattle.structure_laws.specs.map_history.specs.Keys.{key_of}
use Rattle.structure_laws.specs.body_terms.specs.Word.{value_of, next_word}
use Rattle.structure_laws.specs.body_terms.specs.declared.value.Value.{Value}
use Rattle.structure_laws.specs.body_terms.specs.declared.value.Value.TheVariants.{Const, Of, Made}
use Rattle.structure_laws.specs.body_terms.specs.declared.step.Step.TheVariants.{Load, Store}
use Rattle.structure_laws.specs.table_words.specs.declared.layout.Layout.{Layout}
use Rattle.structure_laws.specs.table_words.specs.Limits.{IsWithinLimits}
use Rattle.structure_laws.specs.Scene.{Section, Scene, with_cell, passed, passes}
use Rattle.structure_laws.specs.Sections.{Here, IsStep, value_in}
use Rattle.structure_laws.specs.Sound.{Sound}
use Rattle.structure_laws.specs.Keeps.{Onward}
use Rattle.structure_laws.proofs.Changes.{value-next_word, value_small}
use Rattle.structure_laws.proofs.Limits.{links_small, value-small}
use Rattle.list_bodies.specs.List.{next_of, mark_of, slot_in, node_in, Form, Look, Insert, Remove, Replace, Empty, form_of}
use Rattle.list_bodies.specs.List.{body_of}
use Rattle.list_laws.specs.Line.{Nodes, rank, IsInsertion}
use Rattle.list_laws.specs.Walk.{Walk, node_of}
use Rattle.list_laws.specs.Nodes.{nodes, walk_of, HasNew, HasMarked, HasTaken, new_reg, new_next, IsNew, ListKept, list}
use Rattle.list_laws.specs.Landing.{HasLanded}
use Rattle.list_laws.proofs.Changes.{insertion_change, removal_change, marking_change}
use Rattle.list_laws.proofs.Forms.{front_zero, whole_zero, whole_two, whole_three, RemoveStore, ReplaceStore}
use Rattle.list_laws.proofs.Forms.{look_store, insert_load, insert_store, remove_load, remove_store, replace_load}
use Rattle.list_laws.proofs.Forms.{replace_store}
use Rattle.list_laws.proofs.Frame.{live_used}
use Rattle.list_laws.proofs.Line.{rank_marked, rank_low, above_head}
use Rattle.list_laws.proofs.Open as open_section
use Rattle.list_laws.proofs.Open.{slot_of}
use Rattle.list_laws.proofs.Places as places
use Rattle.list_laws.proofs.StoreChange.{change_kept}

-- forms differ
insert_remove : (f : Form) → f ≡ Insert → f ≡ Remove → ⊥
insert_remove f e e' = cc

insert_replace : (f : Form) → f ≡ Insert → f ≡ Replace → ⊥
insert_replace f e e' = cc

remove_replace : (f : Form) → f ≡ Remove → f ≡ Replace → ⊥
remove_replace f e e' = cc

module _ (layout : Layout) (limits : IsWithinLimits layout) (s : Scene) (sound : Sound list layout s)
    (kept : ListKept layout s) (d : ℕ) (x : Section) (here : Here s d x) where
  abbrev w : Walk
  w = walk_of layout x.op x.readings

  abbrev now : Nodes
  now = nodes s.cells

  abbrev After : ℕ → ℕ → Type 0
  After p word = ListKept layout (with_cell (passes s d x) p word)

  fits_node : node_in x.thunk ≡ node_of w
  fits_node = (open_section.fits layout s sound kept d x here).node

  -- the place of the predecessor's link
  from_place : (p : ℕ) → p ≡ x.thunk.lock + 2 → p ≡ next_of w.from
  from_place p e = let lock = (open_section.fits layout s sound kept d x here).lock in
      let z : p ≡ 0 + 5 * w.from + 2 = omega (arith, e, lock) in z

  -- a Made value is the new node's link
  made_value : (r : ℕ) (new : IsNew s kept.once x) (k : ℕ) → new_reg (form_of x.thunk) ≡ k
      → value_of (next_word (x.reg r) (value_of (x.reg k))) ≡ suc new.slot
  made_value r new k e = value-next_word (x.reg r) (value_of (x.reg k)) (value_small (x.reg k))
      ∙ (ap (λ k. value_of (x.reg k)) (sym e) ∙ (ap value_of new.link ∙ value-small (suc new.slot) narrow))
    where
      narrow : suc new.slot < 2 ^ 32
      narrow = links_small layout 2 new.slot limits (omega arith)
          (sound.within new.slot (live_used s new.slot new.live))

  -- form 32: the predecessor links the new node
  module _ (form : form_of x.thunk ≡ Insert) (at : x.at ≡ 7) where
    insert_has : HasNew x
    insert_has = inl (form, omega (arith, at), omega (arith, at))

    insert_new : IsNew s kept.once x
    insert_new = kept.made d x here insert_has

    insert_landed : HasLanded layout s kept (key_of x.op) w
    insert_landed = open_section.insert_landed layout s sound kept d x here form (omega (arith, at)) (omega (arith, at))

    insert_kept : (word : ℕ) → value_of word ≡ suc insert_new.slot → After (next_of w.from) word
    insert_kept word stores = change_kept layout s sound kept d x here _ _ _
        (insertion_change layout s sound kept d x here w.from (node_of w) word insert_has insert_new
        (places.insert_place layout s sound kept d x here form insert_landed insert_has insert_new) stores
        (λ has. ⊎_elim (λ a. let high = a.2 in omega (arith, high, at)) (λ b. insert_replace _ form b.0) has)
        (λ has. ⊎_elim (λ a. insert_remove _ form a.0) (λ b. insert_replace _ form b.0) has)
        (λ has. ⊎_elim (λ a. insert_remove _ form a.0) (λ b. insert_replace _ form b.0) has)
        (λ replace. absurd (insert_replace _ form replace))
        (λ u own. absurd (⊎_elim (λ a. insert_remove _ form a.0) (λ b. insert_replace _ form b.0) own.0)))

  -- forms 33 and 34: the node is marked
  module _ (takes : (form_of x.thunk ≡ Remove) ⊎ (form_of x.thunk ≡ Replace))
      (landed : HasLanded layout s kept (key_of x.op) w) where
    mark_kept : now.mark (node_of w) ≡ 0 → HasMarked (passed x) → (HasMarked x → ⊥) → (HasTaken x → ⊥)
        → (HasTaken (passed x) → ⊥) → (HasNew x → HasNew (passed x)) → (HasNew (passed x) → HasNew x)
        → (form_of x.thunk ≡ Replace → suc x.at ≡ 14 → now.key (node_in x.thunk) < now.key (slot_in (x.reg 2)))
        → (word : ℕ) → value_of word ≡ 1 → After (mark_of (node_of w)) word
    mark_kept unmarked has no_marked no_taken not_taken goes_on goes_back behind word stores =
        change_kept layout s sound kept d x here _ _ _
        (marking_change layout s sound kept d x here w.from (node_of w) word
        (places.marking_place layout s sound kept d x here takes landed unmarked) stores fits_node has no_marked no_taken
        not_taken goes_on goes_back behind)

    -- the predecessor links what the node does
    out_kept : now.mark (node_of w) ≡ 1 → HasTaken (passed x) → (HasNew x → ⊥) → (HasTaken x → ⊥)
        → (HasNew (passed x) → ⊥) → (form_of x.thunk ≡ Replace → suc x.at ≢ 14)
        → (word : ℕ) → value_of word ≡ now.next (node_of w) → After (next_of w.from) word
    out_kept mark has no_new no_taken not_new no_behind word stores =
        change_kept layout s sound kept d x here _ _ _
        (removal_change layout s sound kept d x here w.from (node_of w)
        (places.behind layout s sound kept d x here takes landed) word
        (places.removal_place layout s sound kept d x here takes landed)
        (stores ∙ places.behind_link layout s sound kept d x here takes landed) fits_node mark has no_new no_taken not_new
        no_behind)

  -- form 33
  module _ (form : form_of x.thunk ≡ Remove) where
    no_new : (k : ℕ) → ((form_of x.thunk ≡ Insert) × (6 ≤ k) × (k ≤ 7))
        ⊎ ((form_of x.thunk ≡ Replace) × (12 ≤ k) × (k ≤ 14)) → ⊥
    no_new k has = ⊎_elim (λ a. insert_remove _ a.0 form) (λ b. remove_replace _ form b.0) has

    remove_at : (n k : ℕ) → x.at ≡ n → n ≢ k → ((form_of x.thunk ≡ Remove) × (x.at ≡ k))
        ⊎ ((form_of x.thunk ≡ Replace) × (x.at ≡ 16)) → ⊥
    remove_at n k at ne has = ⊎_elim (λ a. ne (sym at ∙ a.1)) (λ b. remove_replace _ form b.0) has

    remove_mark : x.at ≡ 11 → (word : ℕ) → value_of word ≡ 1 → After (mark_of (node_of w)) word
    remove_mark at = mark_kept (inl form)
        (open_section.remove_landed layout s sound kept d x here form (omega (arith, at)) (omega (arith, at)))
        (open_section.remove_unmarked layout s sound kept d x here form (omega (arith, at)) (omega (arith, at)))
        (inl (form, omega (arith, at)))
        (λ has. ⊎_elim (λ a. let is = a.1 in omega (arith, at, is)) (λ b. remove_replace _ form b.0) has)
        (λ has. ⊎_elim (λ a. let is = a.1 in omega (arith, at, is)) (λ b. remove_replace _ form b.0) has)
        (λ has. ⊎_elim (λ a. let is = a.1 in omega (arith, at, is)) (λ b. remove_replace _ form b.0) has)
        (λ has. absurd (no_new x.at has)) (λ has. absurd (no_new (suc x.at) has))
        (λ replace. absurd (remove_replace _ form replace))

    remove_link : x.at ≡ 12 → (word : ℕ) → value_of word ≡ value_of (x.reg 2) → After (next_of w.from) word
    remove_link at word stores = out_kept (inl form)
        (open_section.remove_landed layout s sound kept d x here form (omega (arith, at)) (omega (arith, at)))
        (ap now.mark (sym fits_node) ∙ open_section.remove_marked layout s sound kept d x here form (omega (arith, at)))
        (inl (form, omega (arith, at)))
        (no_new x.at)
        (λ has. ⊎_elim (λ a. let is = a.1 in omega (arith, at, is)) (λ b. remove_replace _ form b.0) has)
        (no_new (suc x.at)) (λ replace. absurd (remove_replace _ form replace)) word
        (stores ∙ (sym (ap value_of (open_section.remove_next layout s sound kept d x here form (omega (arith, at))))
        ∙ ap now.next fits_node))

  -- form 34
  module _ (form : form_of x.thunk ≡ Replace) where
    replace_landed : 5 ≤ x.at → x.at ≤ 15 → HasLanded layout s kept (key_of x.op) w
    replace_landed = open_section.replace_landed layout s sound kept d x here form

    replace_mark : x.at ≡ 13 → (word : ℕ) → value_of word ≡ 1 → After (mark_of (node_of w)) word
    replace_mark at = mark_kept (inr form) landed unmarked
        (inr (form, omega (arith, at), omega (arith, at)))
        (λ has. ⊎_elim (λ a. remove_replace _ a.0 form) (λ b. let low = b.1 in omega (arith, at, low)) has)
        (λ has. ⊎_elim (λ a. remove_replace _ a.0 form) (λ b. let is = b.1 in omega (arith, at, is)) has)
        (λ has. ⊎_elim (λ a. remove_replace _ a.0 form) (λ b. let is = b.1 in omega (arith, at, is)) has)
        (λ has. inr (form, omega (arith, at), omega (arith, at)))
        (λ has. inr (form, omega (arith, at), omega (arith, at)))
        (λ replace fourteen. subst (λ n. now.key n < now.key (slot_in (x.reg 2))) (sym fits_node)
        (places.behind_key layout s sound kept d x here (inr form) landed unmarked (slot_in (x.reg 2))
        (ap now.next (sym fits_node) ∙ behind.link)))
      where
        landed : HasLanded layout s kept (key_of x.op) w
        landed = replace_landed (omega (arith, at)) (omega (arith, at))

        unmarked : now.mark (node_of w) ≡ 0
        unmarked = open_section.replace_unmarked layout s sound kept d x here form (omega (arith, at)) (omega (arith, at))

        behind : open_section.HasBehind layout s sound kept d x here form
        behind = open_section.has_behind layout s sound kept d x here form (omega (arith, at)) (omega (arith, at))

    -- the old node links the new one
    module _ (at : x.at ≡ 14) where
      replace_has : HasNew x
      replace_has = inr (form, omega (arith, at), omega (arith, at))

      replace_new : IsNew s kept.once x
      replace_new = kept.made d x here replace_has

      landed_there : HasLanded layout s kept (key_of x.op) w
      landed_there = replace_landed (omega (arith, at)) (omega (arith, at))

      has_behind : open_section.HasBehind layout s sound kept d x here form
      has_behind = open_section.has_behind layout s sound kept d x here form (omega (arith, at)) (omega (arith, at))

      old_marked : now.mark (node_in x.thunk) ≢ 0
      old_marked e = let one = open_section.replace_marked layout s sound kept d x here form (omega (arith, at)) in
          omega (arith, e, one)

      replace_place : IsInsertion now kept.linked (node_in x.thunk) (slot_in (x.reg 2)) replace_new.slot
      replace_place = record {
        before = has_behind.old;
        no_tail = λ e. places.inner layout s sound kept d x here (inr form) landed_there (sym fits_node ∙ e);
        next = has_behind.link;
        out = places.new_out layout s sound kept d x here replace_new;
        links = replace_new.next ∙ (ap (λ f. new_next f x) form
            ∙ (ap value_of (sym (open_section.replace_next layout s sound kept d x here form (omega (arith, at))
            (omega (arith, at)))) ∙ has_behind.link));
        from = let old = rank_marked now (node_in x.thunk) (λ e. landed_there.node_head (sym fits_node ∙ e)) old_marked in
            let new = places.new_rank layout s sound kept d x here replace_new replace_has in
            let same = key_same in omega (arith, old, new, same);
        to = let less = kept.behind d x here form at in
            let low = rank_low now (slot_in (x.reg 2)) (above_head now (node_in x.thunk) (slot_in (x.reg 2)) rises) in
            let new = places.new_rank layout s sound kept d x here replace_new replace_has in
            let same = key_same in omega (arith, less, low, new, same);
      }
        where
          key_same : now.key (node_in x.thunk) ≡ key_of x.op
          key_same = ap now.key fits_node ∙ places.found layout s sound kept d x here (inr form) landed_there

          rises : rank now (node_in x.thunk) < rank now (slot_in (x.reg 2))
          rises = (kept.line.next_on (node_in x.thunk) (slot_in (x.reg 2)) has_behind.old
              (λ e. places.inner layout s sound kept d x here (inr form) landed_there (sym fits_node ∙ e))
              has_behind.link).1

      replace_behind : (word : ℕ) → value_of word ≡ suc replace_new.slot → After (next_of (node_in x.thunk)) word
      replace_behind word stores = change_kept layout s sound kept d x here _ _ _
          (insertion_change layout s sound kept d x here (node_in x.thunk) (slot_in (x.reg 2)) word replace_has replace_new
          replace_place stores
          (λ has. ⊎_elim (λ a. insert_replace _ a.0 form) (λ b. let high = b.2 in omega (arith, high, at)) has)
          (λ has. ⊎_elim (λ a. remove_replace _ a.0 form) (λ b. let is = b.1 in omega (arith, at, is)) has)
          (λ has. ⊎_elim (λ a. remove_replace _ a.0 form) (λ b. let is = b.1 in omega (arith, at, is)) has)
          (λ replace e. omega (arith, e, at))
          (λ u own. (inr (form, omega (arith, at), omega (arith, at)), own.1)))

    -- and the predecessor does
    replace_link : x.at ≡ 15 → (word : ℕ) → value_of word ≡ value_of (x.reg 4) → After (next_of w.from) word
    replace_link at word stores = out_kept (inr form) (replace_landed (omega (arith, at)) (omega (arith, at)))
        (ap now.mark (sym fits_node) ∙ open_section.replace_marked layout s sound kept d x here form (omega (arith, at)))
        (inr (form, omega (arith, at)))
        (λ has. ⊎_elim (λ a. insert_replace _ a.0 form) (λ b. let high = b.2 in omega (arith, high, at)) has)
        (λ has. ⊎_elim (λ a. remove_replace _ a.0 form) (λ b. let is = b.1 in omega (arith, at, is)) has)
        (λ has. ⊎_elim (λ a. insert_replace _ a.0 form) (λ b. let high = b.2 in omega (arith, high, at)) has)
        (λ replace e. omega (arith, e, at)) word
        (stores ∙ (sym (open_section.replace_behind layout s sound kept d x here form (omega (arith, at)))
        ∙ ap now.next fits_node))

  module _ (j p r : ℕ) (v : Value) (store : IsStep list x x.at (Store r v)) (load : IsStep list x j (Load p r)) where
    abbrev word : ℕ
    word = next_word (x.reg r) (value_in x.reg v)

    stores_as : (f : Form) → form_of x.thunk ≡ f → slice_get (body_of f x.thunk) x.at ≡ Some (Store r v)
    stores_as f form = open_section.step_as layout s sound kept d x here f form x.at (Store r v) store

    loads_as : (f : Form) → form_of x.thunk ≡ f → slice_get (body_of f x.thunk) j ≡ Some (Load p r)
    loads_as f form = open_section.step_as layout s sound kept d x here f form j (Load p r) load

    -- the place is another one by name, and so is the value
    at_place : (q : ℕ) → p ≡ q → After q word → After p word
    at_place q e = subst (λ q. After q word) (sym e)

    one_stored : v ≡ Const 1 → value_of word ≡ 1
    one_stored e = ap (λ u. value_of (next_word (x.reg r) (value_in x.reg u))) e ∙ value-next_word (x.reg r) 1 (omega arith)

    of_stored : (k : ℕ) → v ≡ Of k → value_of word ≡ value_of (x.reg k)
    of_stored k e = ap (λ u. value_of (next_word (x.reg r) (value_in x.reg u))) e
        ∙ value-next_word (x.reg r) (value_of (x.reg k)) (value_small (x.reg k))

    made_stored : (k : ℕ) → v ≡ Made k → value_of word ≡ value_of (x.reg k)
    made_stored k e = ap (λ u. value_of (next_word (x.reg r) (value_in x.reg u))) e
        ∙ value-next_word (x.reg r) (value_of (x.reg k)) (value_small (x.reg k))

    new_stored : (k : ℕ) → v ≡ Made k → new_reg (form_of x.thunk) ≡ k → (new : IsNew s kept.once x)
        → value_of word ≡ suc new.slot
    new_stored k e reg new = ap (λ u. value_of (next_word (x.reg r) (value_in x.reg u))) e ∙ made_value r new k reg

    inserted : form_of x.thunk ≡ Insert → After p word
    inserted form =
        let at = insert_store x.thunk x.at r v (stores_as Insert form) in
        at_place (next_of w.from) (from_place p (front_zero x.thunk 0 3 j p r
        (insert_load x.thunk j p r (loads_as Insert form)) at.1))
        (insert_kept form at.0 word (new_stored 2 at.2 (ap new_reg form) (insert_new form at.0)))

    removed : (form : form_of x.thunk ≡ Remove) → RemoveStore x.thunk x.at r v → After p word
    removed form (inl a) = at_place (mark_of (node_of w))
        (whole_three x.thunk j p r (remove_load x.thunk j p r (loads_as Remove form)) a.1 ∙ ap mark_of fits_node)
        (remove_mark form a.0 word (one_stored a.2))
    removed form (inr b) = at_place (next_of w.from)
        (from_place p (whole_zero x.thunk j p r (remove_load x.thunk j p r (loads_as Remove form)) b.1))
        (remove_link form b.0 word (of_stored 2 b.2))

    replaced : (form : form_of x.thunk ≡ Replace) → ReplaceStore x.thunk x.at r v → After p word
    replaced form (inl a) = at_place (mark_of (node_of w))
        (whole_three x.thunk j p r (replace_load x.thunk j p r (loads_as Replace form)) a.1 ∙ ap mark_of fits_node)
        (replace_mark form a.0 word (one_stored a.2))
    replaced form (inr (inl b)) = at_place (next_of (node_in x.thunk))
        (whole_two x.thunk j p r (replace_load x.thunk j p r (loads_as Replace form)) b.1)
        (replace_behind form b.0 word (new_stored 4 b.2 (ap new_reg form) (replace_new form b.0)))
    replaced form (inr (inr c)) = at_place (next_of w.from)
        (from_place p (whole_zero x.thunk j p r (replace_load x.thunk j p r (loads_as Replace form)) c.1))
        (replace_link form c.0 word (made_stored 4 c.2))

    stored : After p word
    stored = by (form_of x.thunk) refl
      where
        by : (f : Form) → form_of x.thunk ≡ f → After p word
        by Look form = absurd (look_store x.thunk x.at r v (stores_as Look form))
        by Insert form = inserted form
        by Remove form = removed form (remove_store x.thunk x.at r v (stores_as Remove form))
        by Replace form = replaced form (replace_store x.thunk x.at r v (stores_as Replace form))
        by Empty form = absurd (let z = stores_as Empty form in cc)

pub keeps_store : (layout : Layout) → IsWithinLimits layout → (s : Scene) (d j p r : ℕ) (x : Section) (v : Value)
    → Here s d x → IsStep list x x.at (Store r v) → j < x.at → IsStep list x j (Load p r) → s.cells p ≡ x.reg r
    → Onward list layout s (with_cell (passes s d x) p (next_word (x.reg r) (value_in x.reg v)))
keeps_store layout limits s d j p r x v here store earlier load found sound kept sound' =
    stored layout limits s sound kept d x here j p r v store load
