-- What holds of an open section of the list: where its walk has landed, and which words stand.
use Rattle.std.specs.Prelude.{◌⊎◌, ◌&&◌, ◌-◌, true, false, List, Some, slice_get, slice_index}
use Rattle.std.proofs.Common.{◌≡◌, ◌≢◌, ℕ, suc, ◌+◌, ◌<◌, ◌≤◌, refl, sym, ap, ◌∙◌, subst, inl, inr, ⊎_elim, arith}
use Rattle.structure_laws.specs.table_words.specs.small_lemmas.proofs.Numbers.{tested_equal, tested_other}
use Rattle.structure_laws.specs.map_history.specs.Keys.{key_of}
use Rattle.structure_laws.specs.body_terms.specs.Word.{value_of}
use Rattle.bucket_laws.specs.bucket_bodies.specs.section_body.specs.Bucket.{operand}
use Rattle.structure_laws.specs.body_terms.specs.declared.value.Value.{Value}
use Rattle.structure_laws.specs.body_terms.specs.declared.value.Value.TheVariants.{Const, Of, Made}
use Rattle.structure_laws.specs.body_terms.specs.declared.step.Step.{Step}
use Rattle.structure_laws.specs.body_terms.specs.declared.step.Step.TheVariants.{Load, Want, Take, Store}
use Rattle.structure_laws.specs.table_words.specs.declared.layout.Layout.{Layout}
use Rattle.structure_laws.specs.Scene.{Section, Scene}
use Rattle.structure_laws.specs.Sections.{Here, IsStep, Holds}
use Rattle.structure_laws.specs.Cells.{IsSafe}
use Rattle.structure_laws.specs.Sound.{Sound}
use Rattle.structure_laws.proofs.Changes.{value-next_word, value_small}
use Rattle.bucket_laws.proofs.TableGives.{reached}
use Rattle.list_bodies.specs.List.{lock_of, next_of, mark_of, slot_in, node_in}
use Rattle.list_bodies.specs.List.{Form, Look, Insert, Remove, Replace, form_of, body_of}
use Rattle.list_laws.specs.Line.{Nodes, last_key}
use Rattle.list_laws.specs.Walk.{Walk, node_of, is_past, takes_out, form_for, operands_for}
use Rattle.list_laws.specs.Nodes.{is_link_place, nodes, bounds, walk_of, IsWalk, HasNew, HasTaken, new_key, new_next}
use Rattle.list_laws.specs.Nodes.{ListKept, list}
use Rattle.list_laws.specs.Landing.{HasLanded}
use Rattle.list_laws.proofs.Line.{le_or}
use Rattle.list_laws.proofs.Fit.{IsFit, fit_of, numbers_of, Inserts, inserts, Removes, removes, Replaces, replaces}
use Rattle.list_laws.proofs.Fit.{takes_both}
use Rattle.list_laws.proofs.Forms.{look_store, insert_store, remove_store, replace_store, RemoveStore, ReplaceStore}
use Rattle.list_laws.proofs.WalkReads.{IsGiven, HasRead, walk_reads, end_reads}

-- a link that isn't 0 leads to a slot
pub leads_to : (v : ℕ) → 0 < v → v ≡ suc (v - 1)
leads_to v some = omega (arith, some)

pub slot_of : (v t : ℕ) → v ≡ suc t → v - 1 ≡ t
slot_of v t e = omega (arith, e)

module _ (layout : Layout) (s : Scene) (sound : Sound list layout s) (kept : ListKept layout s) (d : ℕ) (x : Section)
    (here : Here s d x) where
  abbrev w : Walk
  w = walk_of layout x.op x.readings

  abbrev now : Nodes
  now = nodes s.cells

  abbrev key : ℕ
  key = key_of x.op

  pub fits : IsFit x.op w x.thunk
  fits = fit_of x.op w x.thunk (sound.fits d x here)

  pub has_read : HasRead x.readings (bounds layout) x.op w 7
  has_read = end_reads x.readings (bounds layout) x.op w fits.stage (walk_reads x.readings (bounds layout) x.op)

  pub is_walk : IsWalk now kept.once key w
  is_walk = kept.sections d x here

  past : is_past w.stage ≡ true
  past = ap is_past fits.stage

  -- both slots are safe
  given_safe : (t : ℕ) → IsGiven x.readings t → IsSafe s t
  given_safe t gives = let by = reached is_link_place x.readings t gives in
      (sound.published d x here).safe by.0 by.1 by.2 t by.3 by.4 by.5

  pub from_safe : IsSafe s w.from
  from_safe = ⊎_elim (λ fixed. inl (sound.fixed w.from fixed)) (given_safe w.from) has_read.from

  pub node_safe : IsSafe s (node_of w)
  node_safe = given_safe (node_of w) (has_read.node (omega arith))

  pub node_once : kept.once (node_of w) ≡ true
  node_once = is_walk.node_once past

  -- the node's key isn't below the section's, and is the one that was read
  pub node_key : now.key (node_of w) ≡ w.key
  node_key = let read = has_read.key_read (omega arith) in
      sym ((kept.published d x here).key read.1.0 (node_of w) read.0 read.1.1) ∙ read.2

  pub key_low : key < last_key
  key_low = let low = (sound.allowed d x here).keys key (inl refl) in omega (arith, low)

  pub found_key : w.found ≡ true → now.key (node_of w) ≡ key
  found_key found = node_key ∙ tested_equal w.key key (sym (has_read.found_is (omega arith)) ∙ found)

  pub missing_key : w.found ≡ false → key < now.key (node_of w)
  missing_key missing = let high = has_read.key_high (omega arith) in let is = node_key in
      above key w.key (now.key (node_of w)) high is (tested_other w.key key (sym (has_read.found_is (omega arith)) ∙ missing))
    where
      above : (k a b : ℕ) → k ≤ a → b ≡ a → a ≢ k → k < b
      above k a b high is differ = ⊎_elim (λ e. absurd (differ (sym e))) (λ less. omega (arith, less, is)) (le_or k a high)

  pub found_inner : w.found ≡ true → node_of w ≢ 1
  found_inner found e = let is = found_key found in let low = key_low in
      let tail : now.key (node_of w) ≡ last_key = ap now.key e ∙ kept.line.tail_key in omega (arith, is, low, tail)

  number_at : (k : ℕ) {numbers : List ℕ} → operands_for x.op w w.found ≡ numbers
      → operand x.thunk k ≡ slice_index numbers k
  number_at k e = ap (λ numbers. slice_index numbers k) (fits.operands ∙ e)

  -- a step of the body by its form, and back
  pub step_as : (f : Form) → form_of x.thunk ≡ f → (j : ℕ) (step : Step) → IsStep list x j step
      → slice_get (body_of f x.thunk) j ≡ Some step
  step_as f form j step h = subst (λ g. slice_get (body_of g x.thunk) j ≡ Some step) form h

  pub step_is : (f : Form) → form_of x.thunk ≡ f → (j : ℕ) (step : Step)
      → slice_get (body_of f x.thunk) j ≡ Some step → IsStep list x j step
  step_is f form j step h = subst (λ g. slice_get (body_of g x.thunk) j ≡ Some step) (sym form) h

  -- the numbers of each form
  pub insert_form : form_of x.thunk ≡ Insert → Inserts x.op w w.found
  insert_form form = inserts x.op w w.found (sym fits.form ∙ (numbers_of x.thunk).insert form)

  pub remove_form : form_of x.thunk ≡ Remove → Removes x.op w w.found
  remove_form form = removes x.op w w.found (sym fits.form ∙ (numbers_of x.thunk).remove form)

  pub replace_form : form_of x.thunk ≡ Replace → Replaces x.op w w.found
  replace_form form = replaces x.op w w.found (sym fits.form ∙ (numbers_of x.thunk).replace form)

  pub look_form : form_of x.thunk ≡ Look → form_for x.op w.found ≡ 31
  look_form form = sym fits.form ∙ (numbers_of x.thunk).look form

  pub insert_number : (form : form_of x.thunk ≡ Insert) (k : ℕ) → operand x.thunk k
      ≡ slice_index (operands_for x.op w w.found) k
  insert_number form k = number_at k refl

  pub operand_is : (k : ℕ) {numbers : List ℕ} → operands_for x.op w w.found ≡ numbers
      → operand x.thunk k ≡ slice_index numbers k
  operand_is k e = number_at k e

  -- a section that takes a node out has found it
  abbrev pub TakesOut : Type 0
  TakesOut = (form_of x.thunk ≡ Remove) ⊎ (form_of x.thunk ≡ Replace)

  takes_form : TakesOut → (form_for x.op w.found ≡ 33) ⊎ (form_for x.op w.found ≡ 34)
  takes_form (inl form) = inl (sym fits.form ∙ (numbers_of x.thunk).remove form)
  takes_form (inr form) = inr (sym fits.form ∙ (numbers_of x.thunk).replace form)

  pub takes_found : TakesOut → w.found ≡ true
  takes_found takes = (takes_both x.op w.found (takes_form takes)).0

  pub takes_it : TakesOut → (takes_out x.op && w.found) ≡ true
  takes_it takes = (takes_both x.op w.found (takes_form takes)).1

  -- a word that was loaded and wanted stands as long as the section has not stored to its register's place
  stands : (f : Form) → form_of x.thunk ≡ f → (j k p r word : ℕ) → slice_get (body_of f x.thunk) j ≡ Some (Load p r)
      → slice_get (body_of f x.thunk) k ≡ Some (Want r word) → j < x.at → k < x.at
      → ((i : ℕ) (v : Value) → IsStep list x i (Store r v) → x.at ≤ i) → s.cells p ≡ word
  stands f form j k p r word load want passed passed' none =
      sound.loaded d x here j p r passed (step_is f form j (Load p r) load) none
      ∙ sound.wanted d x here k r word passed' (step_is f form k (Want r word) want)

  next_at : x.thunk.lock + 2 ≡ next_of w.from
  next_at = let lock = fits.lock in omega (arith, lock)

  mark_at : x.thunk.lock + 4 ≡ mark_of w.from
  mark_at = let lock = fits.lock in omega (arith, lock)

  -- where the link and the mark stand as they were read, both nodes are linked, one behind the other
  pub lands : s.cells (next_of w.from) ≡ w.link → s.cells (mark_of w.from) ≡ w.mark → HasLanded layout s kept key w
  lands link mark =
      let on = kept.unmarked w.from is_walk.from_once from_safe
      (ap value_of mark ∙ has_read.mark_zero (omega arith)) in
      let leads : now.next w.from ≡ suc (node_of w) = ap value_of link
      ∙ leads_to (value_of w.link) (has_read.some (omega arith)) in
      record {
        from = on;
        from_tail = is_walk.from_tail;
        link = leads;
        from_key = is_walk.from_key;
        node = (kept.line.next_on w.from (node_of w) on is_walk.from_tail leads).0;
        node_head = is_walk.node_head past;
      }

  land_by : s.cells (x.thunk.lock + 2) ≡ operand x.thunk 1 → s.cells (x.thunk.lock + 4) ≡ operand x.thunk 2
      → HasLanded layout s kept key w
  land_by link mark = lands (ap s.cells (sym next_at) ∙ (link ∙ fits.link))
      (ap s.cells (sym mark_at) ∙ (mark ∙ fits.mark))

  pub look_landed : form_of x.thunk ≡ Look → 4 ≤ x.at → HasLanded layout s kept key w
  look_landed form at = land_by
      (stands Look form 0 1 (x.thunk.lock + 2) 0 (operand x.thunk 1) refl refl (omega (arith, at)) (omega (arith, at))
      (never 0))
      (stands Look form 2 3 (x.thunk.lock + 4) 1 (operand x.thunk 2) refl refl (omega (arith, at)) (omega (arith, at))
      (never 1))
    where
      never : (r i : ℕ) (v : Value) → IsStep list x i (Store r v) → x.at ≤ i
      never r i v h = absurd (look_store x.thunk i r v (step_as Look form i (Store r v) h))

  pub insert_landed : form_of x.thunk ≡ Insert → 5 ≤ x.at → x.at ≤ 7 → HasLanded layout s kept key w
  insert_landed form at few = land_by
      (stands Insert form 0 1 (x.thunk.lock + 2) 0 (operand x.thunk 1) refl refl (omega (arith, at)) (omega (arith, at))
      (later 0))
      (stands Insert form 3 4 (x.thunk.lock + 4) 1 (operand x.thunk 2) refl refl (omega (arith, at)) (omega (arith, at))
      (later 1))
    where
      later : (r i : ℕ) (v : Value) → IsStep list x i (Store r v) → x.at ≤ i
      later r i v h = let seven = (insert_store x.thunk i r v (step_as Insert form i (Store r v) h)).0 in
          omega (arith, few, seven)

  -- the Stores of a removal and of a replacement, by their register
  module _ (form : form_of x.thunk ≡ Remove) where
    remove_spot : (r i : ℕ) (v : Value) → IsStep list x i (Store r v) → RemoveStore x.thunk i r v
    remove_spot r i v h = remove_store x.thunk i r v (step_as Remove form i (Store r v) h)

    remove_zero : (i : ℕ) (v : Value) → IsStep list x i (Store 0 v) → i ≡ 12
    remove_zero i v h = ⊎_elim (λ a. let r = a.1 in absurd (omega (arith, r))) (λ b. b.0) (remove_spot 0 i v h)

    remove_one : (i : ℕ) (v : Value) → IsStep list x i (Store 1 v) → ⊥
    remove_one i v h = ⊎_elim (λ a. let r = a.1 in omega (arith, r)) (λ b. let r = b.1 in omega (arith, r))
        (remove_spot 1 i v h)

    remove_two : (i : ℕ) (v : Value) → IsStep list x i (Store 2 v) → ⊥
    remove_two i v h = ⊎_elim (λ a. let r = a.1 in omega (arith, r)) (λ b. let r = b.1 in omega (arith, r))
        (remove_spot 2 i v h)

    remove_three : (i : ℕ) (v : Value) → IsStep list x i (Store 3 v) → i ≡ 11
    remove_three i v h = ⊎_elim (λ a. a.0) (λ b. let r = b.1 in absurd (omega (arith, r))) (remove_spot 3 i v h)

    pub remove_landed : 5 ≤ x.at → x.at ≤ 12 → HasLanded layout s kept key w
    remove_landed at few = land_by
        (stands Remove form 0 1 (x.thunk.lock + 2) 0 (operand x.thunk 1) refl refl (omega (arith, at))
        (omega (arith, at)) (λ i v h. let is = remove_zero i v h in omega (arith, few, is)))
        (stands Remove form 3 4 (x.thunk.lock + 4) 1 (operand x.thunk 2) refl refl (omega (arith, at))
        (omega (arith, at)) (λ i v h. absurd (remove_one i v h)))

    -- the node's link is the one that was loaded, and its mark 0 until the Store of it
    pub remove_next : 7 ≤ x.at → s.cells (next_of (node_in x.thunk)) ≡ x.reg 2
    remove_next at = sound.loaded d x here 6 (next_of (node_in x.thunk)) 2 (omega (arith, at))
        (step_is Remove form 6 (Load (next_of (node_in x.thunk)) 2) refl) (λ i v h. absurd (remove_two i v h))

    pub remove_unmarked : 9 ≤ x.at → x.at ≤ 11 → now.mark (node_of w) ≡ 0
    remove_unmarked at few = ap now.mark (sym fits.node) ∙ (ap value_of
        (stands Remove form 7 8 (mark_of (node_in x.thunk)) 3 (operand x.thunk 4) refl refl (omega (arith, at))
        (omega (arith, at)) (λ i v h. let is = remove_three i v h in omega (arith, few, is)))
        ∙ (ap value_of (number_at 4 (remove_form form).numbers) ∙ has_read.node_mark_zero (omega arith)
        (takes_it (inl form))))

    pub remove_marked : 12 ≤ x.at → now.mark (node_in x.thunk) ≡ 1
    remove_marked at = ap value_of (sound.stored d x here 11 7 (mark_of (node_in x.thunk)) 3 (Const 1)
        (omega (arith, at)) (step_is Remove form 11 (Store 3 (Const 1)) refl)
        (step_is Remove form 7 (Load (mark_of (node_in x.thunk)) 3) refl))
        ∙ value-next_word (x.reg 3) 1 (omega arith)

  module _ (form : form_of x.thunk ≡ Replace) where
    replace_spot : (r i : ℕ) (v : Value) → IsStep list x i (Store r v) → ReplaceStore x.thunk i r v
    replace_spot r i v h = replace_store x.thunk i r v (step_as Replace form i (Store r v) h)

    replace_zero : (i : ℕ) (v : Value) → IsStep list x i (Store 0 v) → i ≡ 15
    replace_zero i v h = ⊎_elim (λ a. let r = a.1 in absurd (omega (arith, r)))
        (⊎_elim (λ b. let r = b.1 in absurd (omega (arith, r))) (λ c. c.0)) (replace_spot 0 i v h)

    replace_one : (i : ℕ) (v : Value) → IsStep list x i (Store 1 v) → ⊥
    replace_one i v h = ⊎_elim (λ a. let r = a.1 in omega (arith, r))
        (⊎_elim (λ b. let r = b.1 in omega (arith, r)) (λ c. let r = c.1 in omega (arith, r))) (replace_spot 1 i v h)

    replace_two : (i : ℕ) (v : Value) → IsStep list x i (Store 2 v) → i ≡ 14
    replace_two i v h = ⊎_elim (λ a. let r = a.1 in absurd (omega (arith, r)))
        (⊎_elim (λ b. b.0) (λ c. let r = c.1 in absurd (omega (arith, r)))) (replace_spot 2 i v h)

    replace_three : (i : ℕ) (v : Value) → IsStep list x i (Store 3 v) → i ≡ 13
    replace_three i v h = ⊎_elim (λ a. a.0)
        (⊎_elim (λ b. let r = b.1 in absurd (omega (arith, r))) (λ c. let r = c.1 in absurd (omega (arith, r))))
        (replace_spot 3 i v h)

    pub replace_landed : 5 ≤ x.at → x.at ≤ 15 → HasLanded layout s kept key w
    replace_landed at few = land_by
        (stands Replace form 0 1 (x.thunk.lock + 2) 0 (operand x.thunk 1) refl refl (omega (arith, at))
        (omega (arith, at)) (λ i v h. let is = replace_zero i v h in omega (arith, few, is)))
        (stands Replace form 3 4 (x.thunk.lock + 4) 1 (operand x.thunk 2) refl refl (omega (arith, at))
        (omega (arith, at)) (λ i v h. absurd (replace_one i v h)))

    -- the node's link is the one that was loaded until the Store of it, and its mark 0 until its own
    pub replace_next : 7 ≤ x.at → x.at ≤ 14 → s.cells (next_of (node_in x.thunk)) ≡ x.reg 2
    replace_next at few = sound.loaded d x here 6 (next_of (node_in x.thunk)) 2 (omega (arith, at))
        (step_is Replace form 6 (Load (next_of (node_in x.thunk)) 2) refl)
        (λ i v h. let is = replace_two i v h in omega (arith, few, is))

    pub replace_unmarked : 9 ≤ x.at → x.at ≤ 13 → now.mark (node_of w) ≡ 0
    replace_unmarked at few = ap now.mark (sym fits.node) ∙ (ap value_of
        (stands Replace form 7 8 (mark_of (node_in x.thunk)) 3 (operand x.thunk 4) refl refl (omega (arith, at))
        (omega (arith, at)) (λ i v h. let is = replace_three i v h in omega (arith, few, is)))
        ∙ (ap value_of (number_at 4 (replace_form form).numbers) ∙ has_read.node_mark_zero (omega arith)
        (takes_it (inr form))))

    pub replace_marked : 14 ≤ x.at → now.mark (node_in x.thunk) ≡ 1
    replace_marked at = ap value_of (sound.stored d x here 13 7 (mark_of (node_in x.thunk)) 3 (Const 1)
        (omega (arith, at)) (step_is Replace form 13 (Store 3 (Const 1)) refl)
        (step_is Replace form 7 (Load (mark_of (node_in x.thunk)) 3) refl))
        ∙ value-next_word (x.reg 3) 1 (omega arith)

    -- the new node behind the old one, once it is stored
    pub replace_behind : 15 ≤ x.at → now.next (node_in x.thunk) ≡ value_of (x.reg 4)
    replace_behind at = ap value_of (sound.stored d x here 14 6 (next_of (node_in x.thunk)) 2 (Made 4)
        (omega (arith, at)) (step_is Replace form 14 (Store 2 (Made 4)) refl)
        (step_is Replace form 6 (Load (next_of (node_in x.thunk)) 2) refl))
        ∙ value-next_word (x.reg 2) (value_of (x.reg 4)) (value_small (x.reg 4))

    -- the node behind the old one, before the new one comes between
    pub record HasBehind : Type 0 where
      pub old : kept.linked (node_in x.thunk) ≡ true
      pub link : now.next (node_in x.thunk) ≡ suc (slot_in (x.reg 2))
      pub next : kept.linked (slot_in (x.reg 2)) ≡ true

    pub has_behind : 7 ≤ x.at → x.at ≤ 14 → HasBehind
    has_behind at few =
        let landed = replace_landed (omega (arith, at)) (omega (arith, few)) in
        let on = ap kept.linked fits.node ∙ landed.node in
        let inner : node_in x.thunk ≢ 1 = λ e. found_inner (takes_found (inr form)) (sym fits.node ∙ e) in
        let word = ap value_of (replace_next at few) in
        let some = kept.line.next_some (node_in x.thunk) on inner in
        let leads : now.next (node_in x.thunk) ≡ suc (slot_in (x.reg 2)) =
        leads_to (now.next (node_in x.thunk)) some ∙ ap (λ v. suc (v - 1)) word in
        record {
          old = on;
          link = leads;
          next = (kept.line.next_on (node_in x.thunk) (slot_in (x.reg 2)) on inner leads).0;
        }

  -- the predecessor is linked as long as its mark stands as it was read; no section stores to it but where it is the
  -- node that is taken out
  from_on : s.cells (mark_of w.from) ≡ w.mark → kept.linked w.from ≡ true
  from_on mark = kept.unmarked w.from is_walk.from_once from_safe (ap value_of mark ∙ has_read.mark_zero (omega arith))

  from_marked : s.cells (x.thunk.lock + 4) ≡ operand x.thunk 2 → kept.linked w.from ≡ true
  from_marked mark = from_on (ap s.cells (sym mark_at) ∙ (mark ∙ fits.mark))

  pub remove_from : form_of x.thunk ≡ Remove → 5 ≤ x.at → kept.linked w.from ≡ true
  remove_from form at = from_marked (stands Remove form 3 4 (x.thunk.lock + 4) 1 (operand x.thunk 2) refl refl
      (omega (arith, at)) (omega (arith, at)) (λ i v h. absurd (remove_one form i v h)))

  pub replace_from : form_of x.thunk ≡ Replace → 5 ≤ x.at → kept.linked w.from ≡ true
  replace_from form at = from_marked (stands Replace form 3 4 (x.thunk.lock + 4) 1 (operand x.thunk 2) refl refl
      (omega (arith, at)) (omega (arith, at)) (λ i v h. absurd (replace_one form i v h)))

  -- what was taken out leads to where the predecessor leads
  remove_same : (form : form_of x.thunk ≡ Remove) → 13 ≤ x.at → now.next (node_in x.thunk) ≡ now.next w.from
  remove_same form at = ap value_of (remove_next form (omega (arith, at)))
      ∙ (sym (value-next_word (x.reg 0) (value_of (x.reg 2)) (value_small (x.reg 2)))
      ∙ (sym (ap value_of (sound.stored d x here 12 0 (x.thunk.lock + 2) 0 (Of 2) (omega (arith, at))
      (step_is Remove form 12 (Store 0 (Of 2)) refl) (step_is Remove form 0 (Load (x.thunk.lock + 2) 0) refl)))
      ∙ ap (λ p. value_of (s.cells p)) next_at))

  replace_same : (form : form_of x.thunk ≡ Replace) → 16 ≤ x.at → now.next (node_in x.thunk) ≡ now.next w.from
  replace_same form at = replace_behind form (omega (arith, at))
      ∙ (sym (value-next_word (x.reg 0) (value_of (x.reg 4)) (value_small (x.reg 4)))
      ∙ (sym (ap value_of (sound.stored d x here 15 0 (x.thunk.lock + 2) 0 (Made 4) (omega (arith, at))
      (step_is Replace form 15 (Store 0 (Made 4)) refl) (step_is Replace form 0 (Load (x.thunk.lock + 2) 0) refl)))
      ∙ ap (λ p. value_of (s.cells p)) next_at))

  pub taken_leads : HasTaken x → (v : ℕ) → now.next (node_in x.thunk) ≡ suc v → kept.linked v ≡ true
  taken_leads (inl remove) v leads = let at = remove.1 in
      (kept.line.next_on w.from v (remove_from remove.0 (omega (arith, at))) is_walk.from_tail
      (sym (remove_same remove.0 (omega (arith, at))) ∙ leads)).0
  taken_leads (inr replace) v leads = let at = replace.1 in
      (kept.line.next_on w.from v (replace_from replace.0 (omega (arith, at))) is_walk.from_tail
      (sym (replace_same replace.0 (omega (arith, at))) ∙ leads)).0

  -- a section with a new node has landed, and the new node has its key
  pub new_landed : HasNew x → HasLanded layout s kept key w
  new_landed (inl insert) = let low = insert.1 in insert_landed insert.0 (omega (arith, low)) insert.2
  new_landed (inr replace) = let low = replace.1 in let high = replace.2 in
      replace_landed replace.0 (omega (arith, low)) (omega (arith, high))

  pub new_key_is : HasNew x → operand x.thunk (new_key (form_of x.thunk)) ≡ key
  new_key_is (inl insert) = let of = insert_form insert.0 in
      ap (λ f. operand x.thunk (new_key f)) insert.0 ∙ (number_at 3 of.numbers ∙ sym of.puts.0)
  new_key_is (inr replace) = let of = replace_form replace.0 in
      ap (λ f. operand x.thunk (new_key f)) replace.0 ∙ (number_at 5 of.numbers ∙ sym (ap key_of of.put))

  -- and the new node leads to a linked one
  pub new_leads : HasNew x → (v : ℕ) → new_next (form_of x.thunk) x ≡ suc v → kept.linked v ≡ true
  new_leads (inl insert) v leads = let low = insert.1 in
      let landed = insert_landed insert.0 (omega (arith, low)) insert.2 in
      let is : value_of w.link ≡ suc v = ap value_of (sym fits.link) ∙ (sym (ap (λ f. new_next f x) insert.0) ∙ leads) in
      subst (λ t. kept.linked t ≡ true) (slot_of (value_of w.link) v is) landed.node
  new_leads (inr replace) v leads = let low = replace.1 in
      let behind = has_behind replace.0 (omega (arith, low)) replace.2 in
      let is : value_of (x.reg 2) ≡ suc v = sym (ap (λ f. new_next f x) replace.0) ∙ leads in
      subst (λ t. kept.linked t ≡ true) (slot_of (value_of (x.reg 2)) v is) behind.next

  -- which locks it holds
  pub holds_outer : Holds list x (lock_of w.from)
  holds_outer = inl (sym fits.lock)

  pub holds_node : TakesOut → 6 ≤ x.at → Holds list x (lock_of (node_of w))
  holds_node (inl form) at = inr (
    5,
    operand x.thunk 3,
    omega (arith, at),
    subst
        (λ n. IsStep list x 5 (Take (lock_of n) (operand x.thunk 3))) fits.node
        (step_is Remove form 5 (Take (lock_of (node_in x.thunk)) (operand x.thunk 3)) refl),
  )
  holds_node (inr form) at = inr (
    5,
    operand x.thunk 3,
    omega (arith, at),
    subst
        (λ n. IsStep list x 5 (Take (lock_of n) (operand x.thunk 3))) fits.node
        (step_is Replace form 5 (Take (lock_of (node_in x.thunk)) (operand x.thunk 3)) refl),
  )
