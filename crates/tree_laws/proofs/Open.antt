-- What holds of an open section on the tree: its numbers, and the nodes that its walk has found.
use Rattle.std.specs.Prelude.{◌||◌, ◌&&◌, not, ◌^◌, cond, Bool, true, false, Some, List, slice_get, slice_index}
use Rattle.std.proofs.Common.{◌≡◌, ◌≢◌, ℕ, suc, ◌+◌, ◌*◌, ◌<◌, ◌≤◌, refl, sym, ap, ◌∙◌, subst, inl, ⊎_elim, arith}
use Rattle.structure_laws.specs.table_words.specs.small_lemmas.proofs.Numbers.{other_tested as eq_false, equal_tested as eq_true, less_tested as lt_test}
use Rattle.structure_laws.specs.map_history.specs.declared.op.Op.TheVariants.{Del, Put}
use Rattle.structure_laws.specs.map_history.specs.Keys.{key_of}
use Rattle.structure_laws.specs.body_terms.specs.Word.{value_of}
use Rattle.bucket_laws.specs.bucket_bodies.specs.section_body.specs.Bucket.{operand, is_small}
use Rattle.structure_laws.specs.body_terms.specs.declared.value.Value.{Value}
use Rattle.structure_laws.specs.body_terms.specs.declared.step.Step.{Step}
use Rattle.structure_laws.specs.body_terms.specs.declared.step.Step.TheVariants.{Load, Want, Store}
use Rattle.structure_laws.specs.table_words.specs.declared.layout.Layout.{Layout}
use Rattle.structure_laws.specs.table_words.specs.Limits.{IsWithinLimits}
use Rattle.structure_laws.specs.table_words.specs.Places.{slot_count}
use Rattle.structure_laws.specs.Scene.{Section, Free, Live, Retired, Scene}
use Rattle.structure_laws.specs.Sections.{Here, IsStep}
use Rattle.structure_laws.specs.Cells.{IsSafe}
use Rattle.structure_laws.specs.Sound.{Sound}
use Rattle.bucket_laws.specs.Walk.{is_del}
use Rattle.bucket_laws.proofs.Fit.{PutsIn, puts_given}
use Rattle.node_laws.proofs.Forms.{put_puts}
use Rattle.tree_bodies.specs.Tree.{lock_of, mark_of, left_of, right_of, child_of, slot_in, Form, Look, Insert, Delete}
use Rattle.tree_bodies.specs.Tree.{Replace}
use Rattle.tree_bodies.specs.Tree.{form_of, body_of, parent_in, leaf_in, sibling_of, is_left, is_right, old_leaf}
use Rattle.tree_laws.specs.Search.{Nodes, IsInner, IsLeaf}
use Rattle.tree_laws.specs.Walk.{Walk, AtEnd, Refused, step_place, step_to, node_of, form_for, delete_operands}
use Rattle.tree_laws.specs.Walk.{operands_for}
use Rattle.tree_laws.specs.Walk.{lock_for, reply_for}
use Rattle.tree_laws.specs.Leaves.{nodes, bounds, walk_of, Knows, IsFollowed, IsWalk, HasLeaf, TreeKept, tree}
use Rattle.tree_laws.specs.Landing.{HasLanded}
use Rattle.tree_laws.proofs.Fit.{IsFit, cases, look_numbers, numbers_of, inserts, deletes, replaces}
use Rattle.tree_laws.proofs.Fit.{look_outer, insert_outer, replace_outer, is_look, is_insert, is_delete, is_replace}
use Rattle.tree_laws.proofs.Forms.{look_store, insert_store, delete_store, replace_store}
use Rattle.tree_laws.proofs.Landed.{fit, reads, walk, last, on_path, onward, from_safe, has_landed}
use Rattle.tree_laws.proofs.WalkReads.{is_past, is_late, is_marked, both, IsFrom, Reads}

small_is : (n : ℕ) → n < 2 ^ 32 → is_small n ≡ true
small_is n low = grind arith

abbrev pub side_cell : Bool → ℕ
side_cell b = cond b 2 3

pub child_cell : (b : Bool) (t : ℕ) → child_of b t ≡ 0 + 5 * t + side_cell b
child_cell true t = refl
child_cell false t = refl

pub side_low : (b : Bool) → 2 ≤ side_cell b
side_low true = omega arith
side_low false = omega arith

pub side_high : (b : Bool) → side_cell b ≤ 3
side_high true = omega arith
side_high false = omega arith

module _ (layout : Layout) (s : Scene) (sound : Sound tree layout s) (kept : TreeKept layout s) (d : ℕ) (x : Section) (here : Here s d x) where
  abbrev w : Walk
  w = walk_of layout x.op x.readings

  abbrev now : Nodes
  now = nodes s.cells

  abbrev key : ℕ
  key = key_of x.op

  fits : IsFit x.op w x.thunk
  fits = fit layout s sound kept d x here

  pub stage_is : w.stage ≡ AtEnd
  stage_is = fits.stage

  has_read : Reads x.readings (bounds layout) x.op w
  has_read = reads layout s sound kept d x here

  is_walk : IsWalk now kept.covers kept.once key w
  is_walk = walk layout s sound kept d x here

  pub last_link : IsFollowed now kept.covers kept.once key w.last
  last_link = last layout s sound kept d x here

  -- the walk's last node is a leaf, with the key that was read
  pub leaf_is : IsLeaf now (node_of w)
  leaf_is = (subst (Knows now kept.covers kept.once key w) fits.stage is_walk.knows).0

  pub leaf_key_is : now.key (node_of w) ≡ w.key
  leaf_key_is = (subst (Knows now kept.covers kept.once key w) fits.stage is_walk.knows).1

  number_at : (k : ℕ) {numbers : List ℕ} → operands_for x.op w w.found ≡ numbers → operand x.thunk k ≡ slice_index numbers k
  number_at k e = ap (λ numbers. slice_index numbers k) (fits.operands ∙ e)

  mark_at : (slot : ℕ) → x.thunk.lock ≡ lock_of slot → x.thunk.lock + 4 ≡ mark_of slot
  mark_at slot e = omega (arith, e)

  -- a step of the body by its form, and back
  pub step_as : (f : Form) → form_of x.thunk ≡ f → (j : ℕ) (step : Step) → IsStep tree x j step → slice_get (body_of f x.thunk) j ≡ Some step
  step_as f form j step h = subst (λ g. slice_get (body_of g x.thunk) j ≡ Some step) form h

  pub step_is : (f : Form) → form_of x.thunk ≡ f → (j : ℕ) (step : Step) → slice_get (body_of f x.thunk) j ≡ Some step → IsStep tree x j step
  step_is f form j step h = subst (λ g. slice_get (body_of g x.thunk) j ≡ Some step) (sym form) h

  -- the numbers of a section that takes nothing out
  pub record IsPlain : Type 0 where
    pub lock : x.thunk.lock ≡ lock_of w.last.from
    pub place : operand x.thunk 0 ≡ step_place w.last
    pub word : operand x.thunk 1 ≡ w.last.word
    pub mark : operand x.thunk 2 ≡ w.mark

  plain_of : {numbers : List ℕ} → operands_for x.op w w.found ≡ numbers → (is_del x.op && w.found) ≡ false
      → slice_index numbers 0 ≡ step_place w.last → slice_index numbers 1 ≡ w.last.word → slice_index numbers 2 ≡ w.mark
      → IsPlain
  plain_of numbers outer place word mark = record {
    lock = fits.lock ∙ ap (λ c. cond c (lock_of w.grand.from) (lock_of w.last.from)) outer;
    place = number_at 0 numbers ∙ place;
    word = number_at 1 numbers ∙ word;
    mark = number_at 2 numbers ∙ mark;
  }

  look_plain : form_for x.op w.found ≡ 11 → IsPlain
  look_plain form = plain_of (look_numbers x.op w w.found form) (look_outer x.op w.found form) refl refl refl

  insert_plain : form_for x.op w.found ≡ 12 → IsPlain
  insert_plain form =
      plain_of (inserts x.op w w.found form).numbers (insert_outer x.op w.found form) refl refl refl

  replace_plain : form_for x.op w.found ≡ 14 → IsPlain
  replace_plain form =
      plain_of (replaces x.op w w.found form).numbers (replace_outer x.op w.found form) refl refl refl

  -- and of one that does
  pub record IsRemoving : Type 0 where
    pub del : is_del x.op ≡ true
    pub found : w.found ≡ true
    pub deep : w.deep ≡ true
    pub lock : x.thunk.lock ≡ lock_of w.grand.from
    pub place : operand x.thunk 0 ≡ step_place w.grand
    pub word : operand x.thunk 1 ≡ w.grand.word
    pub mark : operand x.thunk 2 ≡ w.grand_mark
    pub leaf_place : operand x.thunk 4 ≡ step_place w.last
    pub leaf_word : operand x.thunk 5 ≡ w.last.word
    pub parent : parent_in x.thunk ≡ w.last.from
    pub leaf : leaf_in x.thunk ≡ node_of w
    pub joined : w.last.from ≡ step_to w.grand

  delete_removing : form_for x.op w.found ≡ 13 → IsRemoving
  delete_removing form =
      let is = deletes x.op w.found form in
      let numbers : operands_for x.op w w.found ≡ delete_operands w = ap (λ op. operands_for op w w.found) is.1 ∙ ap (operands_for (Del is.0) w) is.2 in
      let del = ap is_del is.1 in
      let deep = has_read.deep (ap is_late fits.stage) del is.2 in
      let joined = has_read.joined (ap is_past fits.stage) deep in
      record {
        del = del;
        found = is.2;
        deep = deep;
        lock = fits.lock ∙ ap (λ op. lock_for op w w.found) is.1 ∙ ap (λ found. lock_for (Del is.0) w found) is.2;
        place = number_at 0 numbers;
        word = number_at 1 numbers;
        mark = number_at 2 numbers;
        leaf_place = number_at 4 numbers;
        leaf_word = number_at 5 numbers;
        parent = ap slot_in (number_at 1 numbers) ∙ sym joined;
        leaf = ap slot_in (number_at 5 numbers);
        joined = joined;
      }

  pub look_is_plain : form_of x.thunk ≡ Look → IsPlain
  look_is_plain form = look_plain (sym fits.form ∙ (numbers_of x.thunk).look form)

  pub insert_is_plain : form_of x.thunk ≡ Insert → IsPlain
  insert_is_plain form = insert_plain (sym fits.form ∙ (numbers_of x.thunk).insert form)

  pub replace_is_plain : form_of x.thunk ≡ Replace → IsPlain
  replace_is_plain form = replace_plain (sym fits.form ∙ (numbers_of x.thunk).replace form)

  pub delete_is_removing : form_of x.thunk ≡ Delete → IsRemoving
  delete_is_removing form = delete_removing (sym fits.form ∙ (numbers_of x.thunk).remove form)

  -- a word that was loaded and wanted stands as long as the section has not stored to its register's place
  stands : (f : Form) → form_of x.thunk ≡ f → (j k p r word : ℕ) → slice_get (body_of f x.thunk) j ≡ Some (Load p r)
      → slice_get (body_of f x.thunk) k ≡ Some (Want r word) → j < x.at → k < x.at
      → ((i : ℕ) (v : Value) → IsStep tree x i (Store r v) → x.at ≤ i) → s.cells p ≡ word
  stands f form j k p r word load want passed passed' none =
      sound.loaded d x here j p r passed (step_is f form j (Load p r) load) none
      ∙ sound.wanted d x here k r word passed' (step_is f form k (Want r word) want)

  -- a section that takes no parent out has landed where it has passed its Wants, and has not stored
  plain_lands : IsPlain → s.cells (operand x.thunk 0) ≡ operand x.thunk 1 → s.cells (x.thunk.lock + 4) ≡ operand x.thunk 2
      → HasLanded kept.covers key w
  plain_lands is link mark = has_landed layout s sound kept d x here
      (ap s.cells (sym is.place) ∙ (link ∙ is.word))
      (ap s.cells (sym (mark_at w.last.from is.lock)) ∙ (mark ∙ is.mark))

  pub look_landed : form_of x.thunk ≡ Look → 4 ≤ x.at → HasLanded kept.covers key w
  look_landed form at = plain_lands (look_is_plain form)
      (stands Look form 0 1 (operand x.thunk 0) 0 (operand x.thunk 1) refl refl (omega (arith, at)) (omega (arith, at))
      (none 0))
      (stands Look form 2 3 (x.thunk.lock + 4) 1 (operand x.thunk 2) refl refl (omega (arith, at)) (omega (arith, at))
      (none 1))
    where
      none : (r i : ℕ) (v : Value) → IsStep tree x i (Store r v) → x.at ≤ i
      none r i v h = absurd (look_store x.thunk i r v (step_as Look form i (Store r v) h))

  -- the link stands as it was read
  plain_link : IsPlain → s.cells (operand x.thunk 0) ≡ operand x.thunk 1 → s.cells (step_place w.last) ≡ w.last.word
  plain_link is link = ap s.cells (sym is.place) ∙ (link ∙ is.word)

  module _ (form : form_of x.thunk ≡ Insert) (at : 5 ≤ x.at) (few : x.at ≤ 8) where
    insert_later : (r i : ℕ) (v : Value) → IsStep tree x i (Store r v) → x.at ≤ i
    insert_later r i v h = let eight = (insert_store x.thunk i r v (step_as Insert form i (Store r v) h)).0 in
        omega (arith, few, eight)

    insert_stands : s.cells (operand x.thunk 0) ≡ operand x.thunk 1
    insert_stands = stands Insert form 0 1 (operand x.thunk 0) 0 (operand x.thunk 1) refl refl (omega (arith, at))
        (omega (arith, at)) (insert_later 0)

    pub insert_landed : HasLanded kept.covers key w
    insert_landed = plain_lands (insert_is_plain form) insert_stands
        (stands Insert form 3 4 (x.thunk.lock + 4) 1 (operand x.thunk 2) refl refl (omega (arith, at)) (omega
        (arith, at))
        (insert_later 1))

    pub insert_link : s.cells (step_place w.last) ≡ w.last.word
    insert_link = plain_link (insert_is_plain form) insert_stands

  module _ (form : form_of x.thunk ≡ Replace) (at : 5 ≤ x.at) (few : x.at ≤ 7) where
    replace_later : (r i : ℕ) (v : Value) → IsStep tree x i (Store r v) → x.at ≤ i
    replace_later r i v h = let seven = (replace_store x.thunk i r v (step_as Replace form i (Store r v) h)).0 in
        omega (arith, few, seven)

    replace_stands : s.cells (operand x.thunk 0) ≡ operand x.thunk 1
    replace_stands = stands Replace form 0 1 (operand x.thunk 0) 0 (operand x.thunk 1) refl refl (omega (arith, at))
        (omega (arith, at)) (replace_later 0)

    pub replace_landed : HasLanded kept.covers key w
    replace_landed = plain_lands (replace_is_plain form) replace_stands
        (stands Replace form 3 4 (x.thunk.lock + 4) 1 (operand x.thunk 2) refl refl (omega (arith, at))
        (omega (arith, at)) (replace_later 1))

    pub replace_link : s.cells (step_place w.last) ≡ w.last.word
    replace_link = plain_link (replace_is_plain form) replace_stands

  -- the operation of an insertion, and its numbers
  pub record IsInserting : Type 0 where
    pub key : ℕ
    pub value : ℕ
    pub puts : PutsIn x.op key value
    pub missing : w.found ≡ false
    pub new_key : operand x.thunk 3 ≡ key
    pub new_value : operand x.thunk 4 ≡ value
    pub old_key : operand x.thunk 5 ≡ w.key

  pub insert_is_inserting : form_of x.thunk ≡ Insert → IsInserting
  insert_is_inserting form =
      let of = inserts x.op w w.found (sym fits.form ∙ (numbers_of x.thunk).insert form) in
      record {
        key = of.key;
        value = of.value;
        puts = of.puts;
        missing = of.missing;
        new_key = number_at 3 of.numbers;
        new_value = number_at 4 of.numbers;
        old_key = number_at 5 of.numbers;
      }

  -- and that of a replacement
  pub record IsReplacing : Type 0 where
    pub key : ℕ
    pub value : ℕ
    pub put : x.op ≡ Put key value
    pub found : w.found ≡ true
    pub new_key : operand x.thunk 3 ≡ key
    pub new_value : operand x.thunk 4 ≡ value
    pub reply : operand x.thunk 5 ≡ 6 * 2 ^ 32 + w.value
    -- the leaf that it takes out is the walk's
    pub leaf : old_leaf x.thunk ≡ node_of w

  pub replace_is_replacing : form_of x.thunk ≡ Replace → IsReplacing
  replace_is_replacing form =
      let of = replaces x.op w w.found (sym fits.form ∙ (numbers_of x.thunk).replace form) in
      record {
        key = of.key;
        value = of.value;
        put = of.put;
        found = of.hit;
        new_key = number_at 3 of.numbers;
        new_value = number_at 4 of.numbers;
        reply = number_at 5 of.numbers;
        leaf = ap slot_in (number_at 1 of.numbers);
      }

  -- of a section that has made its new leaf and not stored: its numbers, where it has landed, the leaf's key
  pub leaf_plain : HasLeaf x → IsPlain
  leaf_plain has = ⊎_elim (λ insert. insert_is_plain insert.0) (λ replace. replace_is_plain replace.0) has

  pub leaf_landed : HasLeaf x → HasLanded kept.covers key w
  leaf_landed has = ⊎_elim
      (λ insert. insert_landed insert.0 (let low = insert.1 in omega (arith, low)) insert.2)
      (λ replace. replace_landed replace.0 (let low = replace.1 in omega (arith, low)) replace.2) has

  pub leaf_new_key : HasLeaf x → operand x.thunk 3 ≡ key
  leaf_new_key has = ⊎_elim
      (λ insert. let is = insert_is_inserting insert.0 in is.new_key ∙ sym is.puts.0)
      (λ replace. let is = replace_is_replacing replace.0 in is.new_key ∙ sym (ap key_of is.put)) has

  -- the reply of a section that changes nothing
  pub look_form_is : form_of x.thunk ≡ Look → form_for x.op w.found ≡ 11
  look_form_is form = sym fits.form ∙ (numbers_of x.thunk).look form

  pub look_reply : form_of x.thunk ≡ Look → operand x.thunk 3 ≡ reply_for x.op w w.found
  look_reply form = number_at 3 (look_numbers x.op w w.found (look_form_is form))

  -- a removal that has passed its Wants, and has not stored the link: the link to the leaf stands as it was read, also behind that
  pub leaf_link : form_of x.thunk ≡ Delete → 8 ≤ x.at → s.cells (step_place w.last) ≡ w.last.word
  leaf_link form at =
      let is = delete_is_removing form in
      ap s.cells (sym is.leaf_place)
      ∙ (sound.loaded d x here 6 (operand x.thunk 4) 2 (omega (arith, at)) (step_is Delete form 6 _ refl) never
      ∙ (sound.wanted d x here 7 2 (operand x.thunk 5) (omega (arith, at)) (step_is Delete form 7 _ refl) ∙ is.leaf_word))
    where
      never : (i : ℕ) (v : Value) → IsStep tree x i (Store 2 v) → x.at ≤ i
      never i v h = absurd (⊎_elim (λ mark. let r = mark.1 in omega (arith, r)) (λ link. let r = link.1 in omega (arith, r)) (delete_store x.thunk i 2 v (step_as Delete form i (Store 2 v) h)))

  pub grand_followed : IsRemoving → IsFollowed now kept.covers kept.once key w.grand
  grand_followed is = is_walk.grand (λ e. end_refused (sym fits.stage ∙ e)) is.deep
    where
      end_refused : AtEnd ≡ Refused → ⊥
      end_refused e = cc

  -- where its grandparent, its parent and its leaf stand then
  pub record HasFound : Type 0 where
    pub grand_linked : kept.covers.linked w.grand.from ≡ true
    pub grand_inner : IsInner now w.grand.from
    pub grand_link : now.child w.grand.side w.grand.from ≡ suc w.last.from
    pub parent_linked : kept.covers.linked w.last.from ≡ true
    pub parent_up : kept.covers.up w.last.from ≡ w.grand.from
    pub leaf_linked : kept.covers.linked (node_of w) ≡ true
    pub leaf_up : kept.covers.up (node_of w) ≡ w.last.from
    pub leaf_lo : kept.covers.lo (node_of w) ≤ key
    pub leaf_hi : key < kept.covers.hi (node_of w)

  pub delete_found : form_of x.thunk ≡ Delete → 8 ≤ x.at → x.at ≤ 14 → HasFound
  delete_found form at few = record {
    grand_linked = grand_on.0;
    grand_inner = grand.inner;
    grand_link = ap value_of grand_stands ∙ (before grand.some ∙ ap suc (sym is.joined));
    parent_linked = parent_linked;
    parent_up = ap kept.covers.up is.joined ∙ parent_on.1;
    leaf_linked = leaf_on.0;
    leaf_up = leaf_on.1;
    leaf_lo = leaf_on.2;
    leaf_hi = leaf_on.3;
  }
    where
      is : IsRemoving
      is = delete_is_removing form

      later : (r i : ℕ) (v : Value) → IsStep tree x i (Store r v) → (r ≡ 4 → ⊥) → x.at ≤ i
      later r i v h other = ⊎_elim (λ mark. absurd (other mark.1)) (λ link. let last = link.0 in omega (arith, few, last)) (delete_store x.thunk i r v (step_as Delete form i (Store r v) h))

      zero_four : (n : ℕ) → n ≡ 0 → n ≡ 4 → ⊥
      zero_four n a b = omega (arith, a, b)

      one_four : (n : ℕ) → n ≡ 1 → n ≡ 4 → ⊥
      one_four n a b = omega (arith, a, b)

      grand : IsFollowed now kept.covers kept.once key w.grand
      grand = is_walk.grand (λ e. end_refused (sym fits.stage ∙ e)) is.deep
        where
          end_refused : AtEnd ≡ Refused → ⊥
          end_refused e = cc

      grand_mark : s.cells (mark_of w.grand.from) ≡ w.grand_mark
      grand_mark = ap s.cells (sym (mark_at w.grand.from is.lock))
          ∙ (sound.loaded d x here 3 (x.thunk.lock + 4) 1 (omega (arith, at)) (step_is Delete form 3 _ refl) (λ i v h. later 1 i v h (one_four 1 refl))
          ∙ (sound.wanted d x here 4 1 (operand x.thunk 2) (omega (arith, at)) (step_is Delete form 4 _ refl) ∙ is.mark))

      grand_stands : s.cells (step_place w.grand) ≡ w.grand.word
      grand_stands = ap s.cells (sym is.place)
          ∙ (sound.loaded d x here 0 (operand x.thunk 0) 0 (omega (arith, at)) (step_is Delete form 0 _ refl) (λ i v h. later 0 i v h (zero_four 0 refl))
          ∙ (sound.wanted d x here 1 0 (operand x.thunk 1) (omega (arith, at)) (step_is Delete form 1 _ refl) ∙ is.word))

      before : 0 < value_of w.grand.word → value_of w.grand.word ≡ suc (step_to w.grand)
      before some = omega (arith, some)

      grand_on : (kept.covers.linked w.grand.from ≡ true) × (kept.covers.lo w.grand.from ≤ key) × (key < kept.covers.hi w.grand.from)
      grand_on = on_path layout s sound kept d x here w.grand.from grand.from (from_safe layout s sound kept d x here w.grand.from has_read.grand_from) grand.inner
          (ap value_of grand_mark ∙ has_read.grand_unmarked (ap is_marked fits.stage) is.del is.found)

      parent_on : (kept.covers.linked (step_to w.grand) ≡ true) × (kept.covers.up (step_to w.grand) ≡ w.grand.from) × (kept.covers.lo (step_to w.grand) ≤ key) × (key < kept.covers.hi (step_to w.grand))
      parent_on = onward layout s sound kept d x here w.grand grand grand_on.0 (ap value_of grand_stands)

      parent_linked : kept.covers.linked w.last.from ≡ true
      parent_linked = ap kept.covers.linked is.joined ∙ parent_on.0

      leaf_on : (kept.covers.linked (node_of w) ≡ true) × (kept.covers.up (node_of w) ≡ w.last.from) × (kept.covers.lo (node_of w) ≤ key) × (key < kept.covers.hi (node_of w))
      leaf_on = onward layout s sound kept d x here w.last last_link parent_linked (ap value_of (leaf_link form at))

  -- a slot that was read is a node slot
  pub used : (t : ℕ) → IsSafe s t → s.status t ≢ Free
  used t safe = ⊎_elim live_free (λ retired. retired_free retired.0 retired.1) safe
    where
      live_free : s.status t ≡ Live → s.status t ≢ Free
      live_free live free = cc

      retired_free : (y : ℕ) → s.status t ≡ Retired y → s.status t ≢ Free
      retired_free y retired free = cc

  module _ (limits : IsWithinLimits layout) where
    within : (t : ℕ) → IsFrom x.readings t → t < slot_count layout 3
    within t from = sound.within t (used t (from_safe layout s sound kept d x here t from))

    cell_small : (t k : ℕ) → IsFrom x.readings t → k < 5 → 0 + 5 * t + k < 2 ^ 32
    cell_small t k from low = let high = within t from in let nodes = limits.few_nodes in let runners = limits.few_runners in omega (arith, low, high, nodes, runners)

    -- the section has one of the four forms
    pub data Kind : Type 0 where
      Looks : form_of x.thunk ≡ Look → Kind
      Inserts : form_of x.thunk ≡ Insert → Kind
      Deletes : form_of x.thunk ≡ Delete → Kind
      Replaces : form_of x.thunk ≡ Replace → Kind

    lock_small : IsPlain → is_small (x.thunk.lock + 4) ≡ true
    lock_small is = small_is (x.thunk.lock + 4) (let at = is.lock in let low = cell_small w.last.from 4 has_read.last_from (omega arith) in omega (arith, at, low))

    place_small : IsPlain → is_small (operand x.thunk 0) ≡ true
    place_small is = small_is (operand x.thunk 0) (subst (λ n. n < 2 ^ 32) (sym (is.place ∙ child_cell w.last.side w.last.from))
        (cell_small w.last.from (side_cell w.last.side) has_read.last_from (let high = side_high w.last.side in omega (arith, high))))

    looks : (form : form_for x.op w.found ≡ 11) → form_of x.thunk ≡ Look
    looks form = is_look x.thunk (fits.form ∙ form) (both _ _ (lock_small (look_plain form)) (place_small (look_plain form)))

    -- both numbers of the new leaf are small
    key_small : (key value : ℕ) → PutsIn x.op key value → operand x.thunk 3 ≡ key → is_small (operand x.thunk 3) ≡ true
    key_small key value puts at = small_is (operand x.thunk 3)
        (let low = (sound.allowed d x here).keys (key_of x.op) (inl refl) in let same = puts.0 in
        omega (arith, low, at, same))

    value_small : (key value : ℕ) → PutsIn x.op key value → operand x.thunk 4 ≡ value
        → is_small (operand x.thunk 4) ≡ true
    value_small key value puts at = small_is (operand x.thunk 4)
        (let low = (sound.allowed d x here).value value (puts_given x.op key value puts) in omega (arith, low, at))

    inserts_it : form_for x.op w.found ≡ 12 → form_of x.thunk ≡ Insert
    inserts_it form =
        let of = inserts x.op w w.found form in
        is_insert x.thunk (fits.form ∙ form)
        (both _ _ (lock_small (insert_plain form)) (both _ _ (place_small (insert_plain form))
        (both _ _ (key_small of.key of.value of.puts (number_at 3 of.numbers))
        (both _ _ (value_small of.key of.value of.puts (number_at 4 of.numbers))
        (small_is (operand x.thunk 5) (let low = has_read.key_small in let at = number_at 5 of.numbers in
        omega (arith, low, at)))))))

    replaces_it : form_for x.op w.found ≡ 14 → form_of x.thunk ≡ Replace
    replaces_it form =
        let of = replaces x.op w w.found form in
        let puts : PutsIn x.op of.key of.value = put_puts x.op of.key of.value of.put in
        is_replace x.thunk (fits.form ∙ form)
        (both _ _ (lock_small (replace_plain form)) (both _ _ (place_small (replace_plain form))
        (both _ _ (key_small of.key of.value puts (number_at 3 of.numbers))
        (both _ _ (value_small of.key of.value puts (number_at 4 of.numbers))
        (lt_test 0 (value_of (operand x.thunk 1)) (subst (λ n. 0 < value_of n) (sym (number_at 1 of.numbers))
        (has_read.some (ap is_past fits.stage))))))))

    deletes_it : (form : form_for x.op w.found ≡ 13) → form_of x.thunk ≡ Delete
    deletes_it form =
        let is = delete_removing form in
        is_delete x.thunk (fits.form ∙ form)
        (both _ _ (small_is (x.thunk.lock + 4) (let at = is.lock in let low = cell_small w.grand.from 4 has_read.grand_from (omega arith) in omega (arith, at, low)))
        (both _ _ (small_is (operand x.thunk 0) (subst (λ n. n < 2 ^ 32) (sym (is.place ∙ child_cell w.grand.side w.grand.from))
        (cell_small w.grand.from (side_cell w.grand.side) has_read.grand_from (let high = side_high w.grand.side in omega (arith, high)))))
        (both _ _ (lt_test 0 (value_of (operand x.thunk 1)) (subst (λ n. 0 < value_of n) (sym is.word) (has_read.grand_some (ap is_past fits.stage) is.deep)))
        (both _ _ (lt_test 0 (value_of (operand x.thunk 5)) (subst (λ n. 0 < value_of n) (sym is.leaf_word) (has_read.some (ap is_past fits.stage))))
        (both _ _ (small_is (mark_of (parent_in x.thunk)) (subst (λ t. mark_of t < 2 ^ 32) (sym is.parent) (cell_small w.last.from 4 has_read.last_from (omega arith))))
        (side_link w.last.side refl is))))))
      where
        or_left : (a b : Bool) → a ≡ true → (a || b) ≡ true
        or_left a b h = grind arith

        or_right : (a b : Bool) → b ≡ true → (a || b) ≡ true
        or_right a b h = grind arith

        side_link : (side : Bool) → w.last.side ≡ side → IsRemoving → (is_left x.thunk || is_right x.thunk) ≡ true
        side_link true e is = or_left (is_left x.thunk) (is_right x.thunk) (eq_true (operand x.thunk 4) (left_of (parent_in x.thunk))
            (is.leaf_place ∙ ap (λ b. child_of b w.last.from) e ∙ ap left_of (sym is.parent)))
        side_link false e is = or_right (is_left x.thunk) (is_right x.thunk) (eq_true (operand x.thunk 4) (right_of (parent_in x.thunk))
            (is.leaf_place ∙ ap (λ b. child_of b w.last.from) e ∙ ap right_of (sym is.parent)))

    pub kind : Kind
    kind = ⊎_elim (λ look. Looks (looks look)) (⊎_elim (λ insert. Inserts (inserts_it insert))
        (⊎_elim (λ delete. Deletes (deletes_it delete)) (λ replace. Replaces (replaces_it replace))))
        (cases x.op w.found fits.one)

  -- the parent's other link, by sides
  pub sibling_place : IsRemoving → sibling_of x.thunk ≡ child_of (not w.last.side) w.last.from
  sibling_place is = by w.last.side refl
    where
      at : (side : Bool) → w.last.side ≡ side → is_left x.thunk ≡ side
      at true e = eq_true (operand x.thunk 4) (left_of (parent_in x.thunk)) (is.leaf_place ∙ ap (λ b. child_of b w.last.from) e ∙ ap left_of (sym is.parent))
      at false e = eq_false (operand x.thunk 4) (left_of (parent_in x.thunk)) (λ same. let here = is.leaf_place ∙ ap (λ b. child_of b w.last.from) e in let same' = is.parent in omega (arith, same, here, same'))

      by : (side : Bool) → w.last.side ≡ side → sibling_of x.thunk ≡ child_of (not w.last.side) w.last.from
      by true e = ap (λ b. cond b (right_of (parent_in x.thunk)) (left_of (parent_in x.thunk))) (at true e) ∙ (ap right_of is.parent ∙ ap (λ b. child_of (not b) w.last.from) (sym e))
      by false e = ap (λ b. cond b (right_of (parent_in x.thunk)) (left_of (parent_in x.thunk))) (at false e) ∙ (ap left_of is.parent ∙ ap (λ b. child_of (not b) w.last.from) (sym e))
