-- A section of the list at its stamp, with nothing pending: its Stores lead to a memory that stands for the map after
-- its operation.
use Rattle.std.specs.Prelude.{◌⊎◌, ◌*◌, ◌%◌, ◌^◌, if◌then◌else◌, Bool, true, false, Some, None, slice_get}
use Rattle.std.proofs.Common.{◌≡◌, ◌≢◌, ℕ, suc, ◌+◌, ◌<◌, ◌≤◌, refl, sym, ap, ◌∙◌, subst, inl, inr, ⊎_elim, arith}
use Rattle.std.proofs.lemmas.Bool.{cases_eq, both_ways}
use Rattle.std.specs.FinMap.{get, insert}
use Rattle.structure_laws.specs.map_history.specs.declared.op.Op.{Op}
use Rattle.structure_laws.specs.map_history.specs.declared.op.Op.TheVariants.{Get, Ins, Del, Put, Mov}
use Rattle.structure_laws.specs.map_history.specs.Keys.{key_of}
use Rattle.structure_laws.specs.map_history.specs.Replay.{Pairs, map_after}
use Rattle.structure_laws.specs.body_terms.specs.Update.{upd}
use Rattle.structure_laws.specs.body_terms.specs.Word.{value_of}
use Rattle.bucket_laws.specs.bucket_bodies.specs.section_body.specs.Bucket.{operand}
use Rattle.structure_laws.specs.body_terms.specs.declared.value.Value.TheVariants.{Of, Made}
use Rattle.structure_laws.specs.body_terms.specs.declared.step.Step.{Step}
use Rattle.structure_laws.specs.body_terms.specs.declared.step.Step.TheVariants.{Load, Store}
use Rattle.structure_laws.specs.table_words.specs.declared.layout.Layout.{Layout}
use Rattle.structure_laws.specs.table_words.specs.Limits.{IsWithinLimits}
use Rattle.structure_laws.specs.table_words.specs.Places.{slot_count}
use Rattle.structure_laws.specs.Scene.{Cells, Section, Live, Scene}
use Rattle.structure_laws.specs.Sections.{IsStep}
use Rattle.structure_laws.specs.InTurn.{StandsFor, AtStamp, AfterStores, InTurn}
use Rattle.structure_laws.proofs.Changes.{upd_same, upd_other, equal_of, value-next_word, value_small}
use Rattle.structure_laws.proofs.Limits.{links_small, value-small}
use Rattle.bucket_laws.specs.Walk.{is_del}
use Rattle.bucket_laws.proofs.Maps.{get_removed, insert_map, remove_map, set_map}
use Rattle.node_laws.proofs.Forms.{there}
use Rattle.list_bodies.specs.List.{key_cell, next_of, value_cell, mark_of, node_in, Form, Look, Insert, Remove, Replace}
use Rattle.list_bodies.specs.List.{form_of, body_of}
use Rattle.list_laws.specs.Line.{Nodes, rank, Line, Contents, with_next, IsInsertion}
use Rattle.list_laws.specs.Walk.{Walk, node_of, form_for}
use Rattle.list_laws.specs.Nodes.{nodes, walk_of, HasNew, new_key, new_next, new_reg, IsNew, ListStands}
use Rattle.list_laws.specs.Nodes.{ListKept, list}
use Rattle.list_laws.specs.Landing.{HasLanded}
use Rattle.list_laws.proofs.Contents.{contents_as, stands_same, contents_insert, contents_remove}
use Rattle.list_laws.proofs.Fit.{Inserts, Replaces}
use Rattle.list_laws.proofs.Forms.{front_zero, whole_zero, whole_two, whole_three, look_store, insert_load, insert_store}
use Rattle.list_laws.proofs.Forms.{remove_load, remove_store, replace_load, replace_store}
use Rattle.list_laws.proofs.Frame.{live_used, line_same}
use Rattle.list_laws.proofs.Gives.{kind_of}
use Rattle.list_laws.proofs.Kind.{Kind, Looks, Inserts_it, Removes_it, Replaces_it}
use Rattle.list_laws.proofs.Line.{on_or, off_was, off_still, insertion_keeps, removal_keeps, rank_unmarked}
use Rattle.list_laws.proofs.Open as open_section
use Rattle.list_laws.proofs.Pass.{same_cells}
use Rattle.list_laws.proofs.Places as places
use Rattle.list_laws.proofs.Turn as turn

-- a place of one kind is none of another
next_not_key : (t u : ℕ) → key_cell t ≢ next_of u
next_not_key t u e = omega (arith, e)

next_not_value : (t u : ℕ) → value_cell t ≢ next_of u
next_not_value t u e = omega (arith, e)

next_not_mark : (t u : ℕ) → mark_of t ≢ next_of u
next_not_mark t u e = omega (arith, e)

mark_not_key : (t u : ℕ) → key_cell t ≢ mark_of u
mark_not_key t u e = omega (arith, e)

mark_not_value : (t u : ℕ) → value_cell t ≢ mark_of u
mark_not_value t u e = omega (arith, e)

mark_not_next : (t u : ℕ) → next_of t ≢ mark_of u
mark_not_next t u e = omega (arith, e)

same_next : (t u : ℕ) → t ≢ u → next_of t ≢ next_of u
same_next t u ne e = ne (let z : t ≡ u = omega (arith, e) in z)

same_mark : (t u : ℕ) → t ≢ u → mark_of t ≢ mark_of u
same_mark t u ne e = ne (let z : t ≡ u = omega (arith, e) in z)

module _ (layout : Layout) (limits : IsWithinLimits layout) (s : Scene) (pairs : Pairs)
    (before : StandsFor list layout s pairs) (d : ℕ) (x : Section) (stamp : AtStamp list s d x) (after : Cells)
    (stores : AfterStores list x s.cells after) where
  abbrev kept : ListKept layout s
  kept = before.kept

  abbrev now : Nodes
  now = nodes s.cells

  abbrev then_nodes : Nodes
  then_nodes = nodes after

  abbrev w : Walk
  w = walk_of layout x.op x.readings

  abbrev Stands : Type 0
  Stands = ListStands (slot_count layout 2) after (map_after pairs x.op)

  step_as : (f : Form) → form_of x.thunk ≡ f → (j : ℕ) (step : Step) → IsStep list x j step
      → slice_get (body_of f x.thunk) j ≡ Some step
  step_as = open_section.step_as layout s before.sound kept d x stamp.here

  step_is : (f : Form) → form_of x.thunk ≡ f → (j : ℕ) (step : Step) → slice_get (body_of f x.thunk) j ≡ Some step
      → IsStep list x j step
  step_is = open_section.step_is layout s before.sound kept d x stamp.here

  fits_node : node_in x.thunk ≡ node_of w
  fits_node = (open_section.fits layout s before.sound kept d x stamp.here).node

  from_place : x.thunk.lock + 2 ≡ next_of w.from
  from_place = let lock = (open_section.fits layout s before.sound kept d x stamp.here).lock in omega (arith, lock)

  live_within : (t : ℕ) → s.status t ≡ Live → t < slot_count layout 2
  live_within t live = before.sound.within t (live_used s t live)

  linked_within : (t : ℕ) → kept.linked t ≡ true → t < slot_count layout 2
  linked_within t on = live_within t (kept.linked_live t on)

  map : Contents now kept.linked (get pairs)
  map = turn.contents layout s pairs before

  -- one that changes nothing
  look_stands : form_of x.thunk ≡ Look → form_for x.op w.found ≡ 31 → Stands
  look_stands form number =
      let landed = turn.look_at layout s pairs before d x stamp form in
      stands_same (slot_count layout 2) s.cells after pairs (map_after pairs x.op) before.stands
      (λ t on. record {
        key = ap value_of (same (key_cell t));
        next = ap value_of (same (next_of t));
        value = ap value_of (same (value_cell t));
        mark = ap value_of (same (mark_of t));
      })
      (unchanged x.op w.found number
      (λ hit. (now.value (node_of w), turn.found_is layout s pairs before d x stamp landed hit))
      (λ missed. turn.missing_is layout s pairs before d x stamp landed missed))
    where
      same : (p : ℕ) → after p ≡ s.cells p
      same p = stores.same p (λ i j r v store load. look_store x.thunk i r v (step_as Look form i (Store r v) store))

      unchanged : (op : Op) (hit : Bool) → form_for op hit ≡ 31
          → (hit ≡ true → (v : ℕ) × (get pairs (key_of op) ≡ Some v)) → (hit ≡ false → get pairs (key_of op) ≡ None)
          → (q : ℕ) → get pairs q ≡ get (map_after pairs op) q
      unchanged (Get key) hit form some none q = refl
      unchanged (Ins key value) true form some none q = let is = some refl in
          ap (λ b. get (if b then pairs else insert pairs key value) q) (sym (there pairs key is.0 is.1))
      unchanged (Ins key value) false form some none q = absurd (omega (arith, form))
      unchanged (Del key) true form some none q = absurd (omega (arith, form))
      unchanged (Del key) false form some none q = sym (get_removed pairs key q ∙ absent q key (none refl))
        where
          absent : (q key : ℕ) → get pairs key ≡ None → upd (get pairs) key None q ≡ get pairs q
          absent q key h = ⊎_elim (λ e. upd_same (get pairs) key q None e ∙ (sym h ∙ ap (get pairs) (sym e)))
              (λ ne. upd_other (get pairs) key q None ne) (cases_eq q key)
      unchanged (Put key value) true form some none q = absurd (omega (arith, form))
      unchanged (Put key value) false form some none q = absurd (omega (arith, form))
      unchanged (Mov from to) hit form some none q = absurd (omega (arith, form))

  -- a new node's link has 32 bits
  narrow : (new : IsNew s kept.once x) → suc new.slot < 2 ^ 32
  narrow new = links_small layout 2 new.slot limits (omega arith) (live_within new.slot new.live)

  new_low : (new : IsNew s kept.once x) → 2 ≤ new.slot
  new_low new = turn.unfixed new.slot (places.new_some layout s before.sound kept d x stamp.here new)
      (places.new_inner layout s before.sound kept d x stamp.here new)

  -- an insertion
  module _ (form : form_of x.thunk ≡ Insert) where
    insert_has : HasNew x
    insert_has = let at = turn.insert_at layout s pairs before d x stamp form in
        inl (form, omega (arith, at), omega (arith, at))

    insert_new : IsNew s kept.once x
    insert_new = kept.made d x stamp.here insert_has

    abbrev f : ℕ
    f = insert_new.slot

    abbrev with_new : ℕ → Bool
    with_new = upd kept.linked f true

    insert_landed : HasLanded layout s kept (key_of x.op) w
    insert_landed = turn.insert_lands layout s pairs before d x stamp form

    insert_place : IsInsertion now kept.linked w.from (node_of w) f
    insert_place = places.insert_place layout s before.sound kept d x stamp.here form insert_landed insert_has insert_new

    -- the cells that it leaves
    insert_other : (p : ℕ) → p ≢ next_of w.from → after p ≡ s.cells p
    insert_other p ne = stores.same p (λ i j r v store load.
        let is = insert_store x.thunk i r v (step_as Insert form i (Store r v) store) in
        ne (front_zero x.thunk 0 3 j p r (insert_load x.thunk j p r (step_as Insert form j (Load p r) load)) is.1
        ∙ from_place))

    insert_stored : value_of (after (next_of w.from)) ≡ suc f
    insert_stored = ap (λ p. value_of (after p)) (sym from_place)
        ∙ (ap value_of (stores.changed 7 0 (x.thunk.lock + 2) 0 (Made 2) (step_is Insert form 7 (Store 0 (Made 2)) refl)
        (step_is Insert form 0 (Load (x.thunk.lock + 2) 0) refl))
        ∙ (value-next_word (x.reg 0) (value_of (x.reg 2)) (value_small (x.reg 2))
        ∙ (ap (λ k. value_of (x.reg k)) (sym (ap new_reg form)) ∙ (ap value_of insert_new.link
        ∙ value-small (suc f) (narrow insert_new)))))

    insert_key : (t : ℕ) → then_nodes.key t ≡ now.key t
    insert_key t = ap value_of (insert_other (key_cell t) (next_not_key t w.from))

    insert_value : (t : ℕ) → then_nodes.value t ≡ now.value t
    insert_value t = ap value_of (insert_other (value_cell t) (next_not_value t w.from))

    insert_mark : (t : ℕ) → then_nodes.mark t ≡ now.mark t
    insert_mark t = ap value_of (insert_other (mark_of t) (next_not_mark t w.from))

    insert_next : (t : ℕ) → then_nodes.next t ≡ upd now.next w.from (suc f) t
    insert_next t = ⊎_elim
        (λ e. ap then_nodes.next e ∙ (insert_stored ∙ sym (upd_same now.next w.from t (suc f) e)))
        (λ ne. ap value_of (insert_other (next_of t) (same_next t w.from ne))
        ∙ sym (upd_other now.next w.from t (suc f) ne)) (cases_eq t w.from)

    insert_stands : Stands
    insert_stands = record {
      linked = with_new;
      within = λ t on. ⊎_elim (λ e. subst (λ k. k < slot_count layout 2) (sym e) (live_within f insert_new.live))
          (linked_within t) (on_or kept.linked f t on);
      line = line_same (with_next now w.from (suc f)) then_nodes with_new
          (λ t on. (insert_key t, insert_next t, insert_mark t))
          (insertion_keeps now kept.linked kept.line w.from (node_of w) f insert_place);
      unmarked = λ t on. insert_mark t ∙ ⊎_elim (λ e. ap now.mark e ∙ insert_new.mark)
          (turn.unmarked layout s pairs before t) (on_or kept.linked f t on);
      contents = contents_as now then_nodes with_new (upd (get pairs) of.key (Some of.value))
          (get (map_after pairs x.op)) (λ t on. (insert_key t, insert_value t))
          (insert_map pairs x.op of.key of.value of.puts none)
          (contents_insert now kept.linked (get pairs) map f of.key of.value none new_is value_is (new_low insert_new));
    }
      where
        of : Inserts x.op w w.found
        of = open_section.insert_form layout s before.sound kept d x stamp.here form

        none : get pairs of.key ≡ None
        none = ap (get pairs) (sym of.puts.0)
            ∙ turn.missing_is layout s pairs before d x stamp insert_landed of.missing

        new_is : now.key f ≡ of.key
        new_is = insert_new.key ∙ (open_section.new_key_is layout s before.sound kept d x stamp.here insert_has ∙ of.puts.0)

        value_is : now.value f ≡ of.value
        value_is = insert_new.value ∙ (ap (λ f. operand x.thunk (suc (new_key f))) form
            ∙ open_section.operand_is layout s before.sound kept d x stamp.here 4 of.numbers)

  -- a node that is taken out: what its Stores leave
  module _ (takes : (form_of x.thunk ≡ Remove) ⊎ (form_of x.thunk ≡ Replace))
      (landed : HasLanded layout s kept (key_of x.op) w) where
    abbrev n : ℕ
    n = node_of w

    abbrev b : ℕ
    b = places.behind layout s before.sound kept d x stamp.here takes landed

    abbrev stay : ℕ → Bool
    stay = upd kept.linked n false

    hit : w.found ≡ true
    hit = open_section.takes_found layout s before.sound kept d x stamp.here takes

    gone_line : Line (with_next now w.from (suc b)) stay
    gone_line = removal_keeps now kept.linked kept.line w.from n b
        (places.removal_place layout s before.sound kept d x stamp.here takes landed)

    gone_contents : Contents now stay (upd (get pairs) (key_of x.op) None)
    gone_contents = contents_remove now kept.linked (get pairs) map n (key_of x.op)
        (open_section.found_key layout s before.sound kept d x stamp.here hit)
        (turn.only_one layout s pairs before d x stamp landed hit)

    unmarked_there : now.mark n ≡ 0
    unmarked_there = turn.unmarked layout s pairs before n landed.node

  -- a removal
  module _ (form : form_of x.thunk ≡ Remove) where
    remove_landed : HasLanded layout s kept (key_of x.op) w
    remove_landed = turn.remove_lands layout s pairs before d x stamp form

    abbrev gone : ℕ → Bool
    gone = stay (inl form) remove_landed

    remove_other : (p : ℕ) → p ≢ next_of w.from → p ≢ mark_of (node_of w) → after p ≡ s.cells p
    remove_other p ne ne' = stores.same p (λ i j r v store load.
        let loads = remove_load x.thunk j p r (step_as Remove form j (Load p r) load) in
        ⊎_elim
        (λ mark. ne' (whole_three x.thunk j p r loads mark.1 ∙ ap mark_of fits_node))
        (λ link. ne (whole_zero x.thunk j p r loads link.1 ∙ from_place))
        (remove_store x.thunk i r v (step_as Remove form i (Store r v) store)))

    remove_stored : value_of (after (next_of w.from)) ≡ suc (b (inl form) remove_landed)
    remove_stored = ap (λ p. value_of (after p)) (sym from_place)
        ∙ (ap value_of (stores.changed 12 0 (x.thunk.lock + 2) 0 (Of 2) (step_is Remove form 12 (Store 0 (Of 2)) refl)
        (step_is Remove form 0 (Load (x.thunk.lock + 2) 0) refl))
        ∙ (value-next_word (x.reg 0) (value_of (x.reg 2)) (value_small (x.reg 2))
        ∙ (sym (ap value_of (open_section.remove_next layout s before.sound kept d x stamp.here form past))
        ∙ (ap now.next fits_node
        ∙ places.behind_link layout s before.sound kept d x stamp.here (inl form) remove_landed))))
      where
        past : 7 ≤ x.at
        past = let at = turn.remove_at layout s pairs before d x stamp form in omega (arith, at)

    remove_key : (t : ℕ) → then_nodes.key t ≡ now.key t
    remove_key t = ap value_of (remove_other (key_cell t) (next_not_key t w.from) (mark_not_key t (node_of w)))

    remove_value : (t : ℕ) → then_nodes.value t ≡ now.value t
    remove_value t = ap value_of (remove_other (value_cell t) (next_not_value t w.from) (mark_not_value t (node_of w)))

    remove_mark : (t : ℕ) → t ≢ node_of w → then_nodes.mark t ≡ now.mark t
    remove_mark t ne = ap value_of (remove_other (mark_of t) (next_not_mark t w.from) (same_mark t (node_of w) ne))

    remove_next : (t : ℕ) → then_nodes.next t ≡ upd now.next w.from (suc (b (inl form) remove_landed)) t
    remove_next t = ⊎_elim
        (λ e. ap then_nodes.next e ∙ (remove_stored ∙ sym (upd_same now.next w.from t _ e)))
        (λ ne. ap value_of (remove_other (next_of t) (same_next t w.from ne) (mark_not_next t (node_of w)))
        ∙ sym (upd_other now.next w.from t _ ne)) (cases_eq t w.from)

    remove_stands : Stands
    remove_stands = record {
      linked = gone;
      within = λ t on. linked_within t (off_was kept.linked (node_of w) t on).1;
      line = line_same (with_next now w.from (suc (b (inl form) remove_landed))) then_nodes gone
          (λ t on. (remove_key t, remove_next t, remove_mark t (off_was kept.linked (node_of w) t on).0))
          (gone_line (inl form) remove_landed);
      unmarked = λ t on. let was = off_was kept.linked (node_of w) t on in
          remove_mark t was.0 ∙ turn.unmarked layout s pairs before t was.1;
      contents = contents_as now then_nodes gone (upd (get pairs) (key_of x.op) None) (get (map_after pairs x.op))
          (λ t on. (remove_key t, remove_value t)) (remove_map pairs x.op del) (gone_contents (inl form) remove_landed);
    }
      where
        del : is_del x.op ≡ true
        del = ap is_del (open_section.remove_form layout s before.sound kept d x stamp.here form).del

  -- a replacement
  module _ (form : form_of x.thunk ≡ Replace) where
    replace_at : x.at ≡ 12
    replace_at = turn.replace_at layout s pairs before d x stamp form

    replace_landed : HasLanded layout s kept (key_of x.op) w
    replace_landed = turn.replace_lands layout s pairs before d x stamp form

    replace_has : HasNew x
    replace_has = let at = replace_at in inr (form, omega (arith, at), omega (arith, at))

    replace_new : IsNew s kept.once x
    replace_new = kept.made d x stamp.here replace_has

    abbrev g : ℕ
    g = replace_new.slot

    abbrev out : ℕ → Bool
    out = stay (inr form) replace_landed

    abbrev swapped : ℕ → Bool
    swapped = upd out g true

    abbrev c : ℕ
    c = b (inr form) replace_landed

    g_not_n : g ≢ node_of w
    g_not_n e = both_ways _ (places.new_out layout s before.sound kept d x stamp.here replace_new)
        (ap kept.linked e ∙ replace_landed.node)

    g_not_from : g ≢ w.from
    g_not_from e = both_ways _ (places.new_out layout s before.sound kept d x stamp.here replace_new)
        (ap kept.linked e ∙ replace_landed.from)

    -- what stays linked isn't the old node
    swapped_is : (t : ℕ) → swapped t ≡ true → (t ≢ node_of w) × ((t ≡ g) ⊎ (kept.linked t ≡ true))
    swapped_is t on = ⊎_elim (λ e. ((λ z. g_not_n (sym e ∙ z)), inl e))
        (λ was. let is = off_was kept.linked (node_of w) t was in (is.0, inr is.1)) (on_or out g t on)

    replace_other : (p : ℕ) → p ≢ next_of w.from → p ≢ next_of (node_of w) → p ≢ mark_of (node_of w)
        → after p ≡ s.cells p
    replace_other p ne ne' ne'' = stores.same p (λ i j r v store load.
        let loads = replace_load x.thunk j p r (step_as Replace form j (Load p r) load) in
        ⊎_elim
        (λ mark. ne'' (whole_three x.thunk j p r loads mark.1 ∙ ap mark_of fits_node))
        (⊎_elim
        (λ behind. ne' (whole_two x.thunk j p r loads behind.1 ∙ ap next_of fits_node))
        (λ link. ne (whole_zero x.thunk j p r loads link.1 ∙ from_place)))
        (replace_store x.thunk i r v (step_as Replace form i (Store r v) store)))

    replace_stored : value_of (after (next_of w.from)) ≡ suc g
    replace_stored = ap (λ p. value_of (after p)) (sym from_place)
        ∙ (ap value_of (stores.changed 15 0 (x.thunk.lock + 2) 0 (Made 4)
        (step_is Replace form 15 (Store 0 (Made 4)) refl) (step_is Replace form 0 (Load (x.thunk.lock + 2) 0) refl))
        ∙ (value-next_word (x.reg 0) (value_of (x.reg 4)) (value_small (x.reg 4))
        ∙ (ap (λ k. value_of (x.reg k)) (sym (ap new_reg form)) ∙ (ap value_of replace_new.link
        ∙ value-small (suc g) (narrow replace_new)))))

    replace_key : (t : ℕ) → then_nodes.key t ≡ now.key t
    replace_key t = ap value_of (replace_other (key_cell t) (next_not_key t w.from) (next_not_key t (node_of w))
        (mark_not_key t (node_of w)))

    replace_value : (t : ℕ) → then_nodes.value t ≡ now.value t
    replace_value t = ap value_of (replace_other (value_cell t) (next_not_value t w.from) (next_not_value t (node_of w))
        (mark_not_value t (node_of w)))

    replace_mark : (t : ℕ) → t ≢ node_of w → then_nodes.mark t ≡ now.mark t
    replace_mark t ne = ap value_of (replace_other (mark_of t) (next_not_mark t w.from) (next_not_mark t (node_of w))
        (same_mark t (node_of w) ne))

    replace_next : (t : ℕ) → t ≢ node_of w
        → then_nodes.next t ≡ upd (upd now.next w.from (suc c)) w.from (suc g) t
    replace_next t ne = ⊎_elim
        (λ e. ap then_nodes.next e ∙ (replace_stored ∙ sym (upd_same (upd now.next w.from (suc c)) w.from t (suc g) e)))
        (λ other. ap value_of (replace_other (next_of t) (same_next t w.from other) (same_next t (node_of w) ne)
        (mark_not_next t (node_of w)))
        ∙ (sym (upd_other now.next w.from t (suc c) other)
        ∙ sym (upd_other (upd now.next w.from (suc c)) w.from t (suc g) other))) (cases_eq t w.from)

    -- the new node comes where the old one was
    place_is : IsInsertion (with_next now w.from (suc c)) out w.from c g
    place_is = record {
      before = off_still kept.linked (node_of w) w.from from_not_n replace_landed.from;
      no_tail = replace_landed.from_tail;
      next = upd_same now.next w.from w.from (suc c) refl;
      out = upd_other kept.linked (node_of w) g false g_not_n
          ∙ places.new_out layout s before.sound kept d x stamp.here replace_new;
      links = upd_other now.next w.from g (suc c) g_not_from
          ∙ (replace_new.next ∙ (ap (λ f. new_next f x) form
          ∙ (sym (ap value_of (open_section.replace_next layout s before.sound kept d x stamp.here form past few))
          ∙ (ap now.next fits_node
          ∙ places.behind_link layout s before.sound kept d x stamp.here (inr form) replace_landed))));
      from = subst (λ k. rank now w.from < k) (sym same_rank) rises.1;
      to = subst (λ k. k < rank now c) (sym same_rank) above.1;
    }
      where
        past : 7 ≤ x.at
        past = let at = replace_at in omega (arith, at)

        few : x.at ≤ 14
        few = let at = replace_at in omega (arith, at)

        rises : (kept.linked (node_of w) ≡ true) × (rank now w.from < rank now (node_of w))
        rises = kept.line.next_on w.from (node_of w) replace_landed.from replace_landed.from_tail replace_landed.link

        above : (kept.linked c ≡ true) × (rank now (node_of w) < rank now c)
        above = kept.line.next_on (node_of w) c replace_landed.node
            (places.inner layout s before.sound kept d x stamp.here (inr form) replace_landed)
            (places.behind_link layout s before.sound kept d x stamp.here (inr form) replace_landed)

        from_not_n : w.from ≢ node_of w
        from_not_n e = let less = rises.1 in
            let same : rank now w.from ≡ rank now (node_of w) = ap (rank now) e in omega (arith, less, same)

        same_rank : rank now g ≡ rank now (node_of w)
        same_rank = places.new_rank layout s before.sound kept d x stamp.here replace_new replace_has
            ∙ (ap (λ k. suc (suc (2 * k)))
            (sym (places.found layout s before.sound kept d x stamp.here (inr form) replace_landed))
            ∙ sym (rank_unmarked now (node_of w) replace_landed.node_head (unmarked_there (inr form) replace_landed)))

    replace_stands : Stands
    replace_stands = record {
      linked = swapped;
      within = λ t on. ⊎_elim (λ e. subst (λ k. k < slot_count layout 2) (sym e) (live_within g replace_new.live))
          (linked_within t) (swapped_is t on).1;
      line = line_same (with_next (with_next now w.from (suc c)) w.from (suc g)) then_nodes swapped
          (λ t on. let ne = (swapped_is t on).0 in (replace_key t, replace_next t ne, replace_mark t ne))
          (insertion_keeps (with_next now w.from (suc c)) out (gone_line (inr form) replace_landed) w.from c g place_is);
      unmarked = λ t on. let is = swapped_is t on in replace_mark t is.0 ∙ ⊎_elim
          (λ e. ap now.mark e ∙ replace_new.mark) (turn.unmarked layout s pairs before t) is.1;
      contents = contents_as now then_nodes swapped
          (upd (upd (get pairs) (key_of x.op) None) (key_of x.op) (Some of.value)) (get (map_after pairs x.op))
          (λ t on. (replace_key t, replace_value t)) (λ q. twice q ∙ set_map pairs x.op of.key of.value of.put q)
          (contents_insert now out (upd (get pairs) (key_of x.op) None) (gone_contents (inr form) replace_landed) g
          (key_of x.op) of.value (upd_same (get pairs) (key_of x.op) (key_of x.op) None refl) new_is value_is
          (new_low replace_new));
    }
      where
        of : Replaces x.op w w.found
        of = open_section.replace_form layout s before.sound kept d x stamp.here form

        new_is : now.key g ≡ key_of x.op
        new_is = replace_new.key ∙ open_section.new_key_is layout s before.sound kept d x stamp.here replace_has

        value_is : now.value g ≡ of.value
        value_is = replace_new.value ∙ (ap (λ f. operand x.thunk (suc (new_key f))) form
            ∙ open_section.operand_is layout s before.sound kept d x stamp.here 6 of.numbers)

        twice : (q : ℕ) → upd (upd (get pairs) (key_of x.op) None) (key_of x.op) (Some of.value) q
            ≡ upd (get pairs) (key_of x.op) (Some of.value) q
        twice q = ⊎_elim
            (λ e. upd_same (upd (get pairs) (key_of x.op) None) (key_of x.op) q (Some of.value) e
            ∙ sym (upd_same (get pairs) (key_of x.op) q (Some of.value) e))
            (λ ne. upd_other (upd (get pairs) (key_of x.op) None) (key_of x.op) q (Some of.value) ne
            ∙ (upd_other (get pairs) (key_of x.op) q None ne ∙ sym (upd_other (get pairs) (key_of x.op) q (Some of.value) ne)))
            (cases_eq q (key_of x.op))

  stored : Stands
  stored = by (kind_of layout s before.sound kept limits d x stamp.here)
    where
      by : Kind x.op w x.thunk → Stands
      by (Looks form number) = look_stands form number
      by (Inserts_it form number) = insert_stands form
      by (Removes_it form number) = remove_stands form
      by (Replaces_it form number) = replace_stands form

-- a change of a lock, or in a slot of a hand, leaves what the memory stands for
module _ (layout : Layout) (s : Scene) (pairs : Pairs) (before : StandsFor list layout s pairs) where
  cell_stands : (p word : ℕ) → ((t k : ℕ) → before.kept.linked t ≡ true → 0 < k → k < 5 → 0 + 5 * t + k ≢ p)
      → ListStands (slot_count layout 2) (upd s.cells p word) pairs
  cell_stands p word other = stands_same (slot_count layout 2) s.cells (upd s.cells p word) pairs pairs before.stands
      (λ t on. let was = turn.agree layout s pairs before t ∙ on in
      same_cells s (record s { cells = upd s.cells p word }) t (λ k low high.
      upd_other s.cells p (0 + 5 * t + k) word (other t k was low high)))
      (λ key. refl)

pub list_turns : (layout : Layout) → IsWithinLimits layout → InTurn list layout
list_turns layout limits = record {
  answers = λ s pairs d x before stamp map. turn.turn_answers layout s pairs before d x stamp limits;
  stores = λ s pairs d x before stamp after stores. stored layout limits s pairs before d x stamp after stores;
  lock = λ s pairs p word before lock. cell_stands layout s pairs before p word
      (λ t k on low high e. let zero = equal_of (p % 5) 0 lock in omega (arith, zero, low, high, e));
  hand = λ s pairs t i word before free low. cell_stands layout s pairs before (0 + 5 * t + i) word
      (λ u k on some high e. live_used s u (before.kept.linked_live u on)
      (ap s.status (let z : u ≡ t = omega (arith, high, low, e) in z) ∙ free));
}
