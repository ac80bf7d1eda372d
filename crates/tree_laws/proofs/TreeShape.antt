-- A thunk that fits an entered runner's readings has a body of the shape of a body, whose places the readings give.
use Rattle.std.proofs.Common.{◌≡◌, ◌≢◌, ℕ, ◌+◌, ◌*◌, ◌<◌, ◌≤◌, Bool, true, false, cond, refl, sym, ap, ◌∙◌, subst, inl, inr, ⊎_elim, arith}
use Rattle.std.specs.Prelude.{◌&&◌, ◌||◌, not, ◌-◌, ◌^◌, ◌⊎◌, nat_lt, Some, List, slice_get, slice_index, length}
use Rattle.structure_laws.specs.table_words.specs.small_lemmas.proofs.Bools.{or_first as or_left, or_second as or_right, negated as not_true}
use Rattle.structure_laws.specs.table_words.specs.small_lemmas.proofs.Numbers.{other_tested as eq_false}
use Rattle.structure_laws.specs.map_history.specs.declared.op.Op.{Op}
use Rattle.structure_laws.specs.map_history.specs.declared.op.Op.TheVariants.{Del}
use Rattle.structure_laws.specs.map_history.specs.Keys.{key_of}
use Rattle.structure_laws.specs.body_terms.specs.Word.{value_of, is_free, is_spent}
use Rattle.structure_laws.specs.body_terms.specs.Memory.{cell_of}
use Rattle.bucket_laws.specs.bucket_bodies.specs.section_body.specs.Bucket.{operand, is_small}
use Rattle.structure_laws.specs.body_terms.specs.Shape.{IsShaped}
use Rattle.structure_laws.specs.body_terms.specs.declared.value.Value.{Value}
use Rattle.structure_laws.specs.body_terms.specs.declared.value.Value.TheVariants.{Const, Of, Made}
use Rattle.structure_laws.specs.body_terms.specs.declared.value.Init.{Init}
use Rattle.structure_laws.specs.body_terms.specs.declared.step.Step.{Step}
use Rattle.structure_laws.specs.body_terms.specs.declared.step.Step.TheVariants.{Load, Take, Make, Store, Answer}
use Rattle.structure_laws.specs.body_terms.specs.declared.thunk.Thunk.{Thunk}
use Rattle.structure_laws.specs.table_words.specs.declared.layout.Layout.{Layout}
use Rattle.structure_laws.specs.table_words.specs.Limits.{IsWithinLimits}
use Rattle.structure_laws.specs.table_words.specs.Places.{slot_count}
use Rattle.structure_laws.specs.Scene.{Readings, Free, Live, Retired, Scene}
use Rattle.structure_laws.specs.Sections.{IsAllowed, IsSmall}
use Rattle.structure_laws.specs.Cells.{IsKnown, IsSafe}
use Rattle.structure_laws.specs.Sound.{Sound}
use Rattle.structure_laws.specs.Shape.{Shaped}
use Rattle.structure_laws.proofs.Changes.{value_small, both_true}
use Rattle.structure_laws.proofs.Costs.{brief_cost}
use Rattle.bucket_laws.specs.Walk.{is_del}
use Rattle.bucket_laws.proofs.Fit.{PutsIn, puts_given}
use Rattle.bucket_laws.proofs.TableGives.{reached}
use Rattle.node_laws.proofs.Cells.{cell_unlocked, lock_locked, five_small, five_unlocked}
use Rattle.node_laws.proofs.Forms.{put_puts, reply_some}
use Rattle.tree_bodies.specs.Tree.{lock_of, left_of, right_of, mark_of, child_of, slot_in, Look, Insert, Delete}
use Rattle.tree_bodies.specs.Tree.{Replace}
use Rattle.tree_bodies.specs.Tree.{leaf_with, inner_with, parent_in, is_left, is_right, sibling_of, form_of, body_of}
use Rattle.tree_bodies.specs.Tree.{look_steps, insert_steps, delete_steps, replace_steps, tree_steps}
use Rattle.tree_laws.specs.Search.{IsInner}
use Rattle.tree_laws.specs.Walk.{Walk, AtRoot, AtEnd, Refused, step_place, step_to, form_for, delete_operands}
use Rattle.tree_laws.specs.Walk.{operands_for}
use Rattle.tree_laws.specs.Leaves.{is_lock_place, shows_link, nodes, bounds, walk_of, IsFollowed, IsWalk, TreeKept, tree}
use Rattle.tree_laws.proofs.BodyShapes.{look_shaped, insert_shaped, delete_shaped, replace_shaped, few_steps}
use Rattle.tree_laws.proofs.Fit.{IsFit, fit_of, cases, look_numbers, is_look, is_insert, is_delete}
use Rattle.tree_laws.proofs.Fit.{is_replace}
use Rattle.tree_laws.proofs.Fit.{look_outer, insert_outer, replace_outer, Inserts, inserts, deletes, Replaces, replaces}
use Rattle.tree_laws.proofs.Forms.{replace_load, replace_take, replace_make, replace_store, replace_answer}
use Rattle.tree_laws.proofs.Forms.{look_load, insert_load, delete_load, look_take, look_make, look_store, look_answer, insert_take, insert_make, insert_store, insert_answer, delete_take, delete_make, delete_store, delete_answer}
use Rattle.tree_laws.proofs.Shown.{lt_test, shown_now}
use Rattle.tree_laws.proofs.WalkReads.{is_past, is_late, is_locked, both, eq_test, IsFrom, Reads, walk_reads}

small_is : (n : ℕ) → n < 2 ^ 32 → is_small n ≡ true
small_is n low = grind arith

abbrev side_cell : Bool → ℕ
side_cell b = cond b 2 3

child_cell : (b : Bool) (t : ℕ) → child_of b t ≡ 0 + 5 * t + side_cell b
child_cell true t = refl
child_cell false t = refl

side_low : (b : Bool) → 2 ≤ side_cell b
side_low true = omega arith
side_low false = omega arith

side_high : (b : Bool) → side_cell b ≤ 3
side_high true = omega arith
side_high false = omega arith

-- a place of a removal's Loads, by the number of the Load
abbrev LoadSpot : ℕ → ℕ → ℕ → ℕ → ℕ → ℕ → Type 0
LoadSpot g p gk k j P = ((j ≡ 0) × (P ≡ cell_of 0 g gk)) ⊎ ((j ≡ 3) × (P ≡ cell_of 0 g 4)) ⊎ ((j ≡ 6) × (P ≡ cell_of 0 p k)) ⊎ ((j ≡ 8) × (P ≡ cell_of 0 p (5 - k))) ⊎ ((j ≡ 9) × (P ≡ cell_of 0 p 4))

delete_once : (i j P Q g p gk k : ℕ) → g ≢ p → 2 ≤ gk → gk ≤ 3 → 2 ≤ k → k ≤ 3 → P ≡ Q → LoadSpot g p gk k i P → LoadSpot g p gk k j Q → i ≡ j
delete_once i j P Q g p gk k ne a b c d same (inl x) (inl y) = x.0 ∙ sym y.0
delete_once i j P Q g p gk k ne a b c d same (inl x) (inr (inl y)) = absurd (let at = x.1 in let at' = y.1 in omega arith)
delete_once i j P Q g p gk k ne a b c d same (inl x) (inr (inr (inl y))) = absurd (let at = x.1 in let at' = y.1 in omega arith)
delete_once i j P Q g p gk k ne a b c d same (inl x) (inr (inr (inr (inl y)))) = absurd (let at = x.1 in let at' = y.1 in omega arith)
delete_once i j P Q g p gk k ne a b c d same (inl x) (inr (inr (inr (inr y)))) = absurd (let at = x.1 in let at' = y.1 in omega arith)
delete_once i j P Q g p gk k ne a b c d same (inr (inl x)) (inl y) = absurd (let at = x.1 in let at' = y.1 in omega arith)
delete_once i j P Q g p gk k ne a b c d same (inr (inl x)) (inr (inl y)) = x.0 ∙ sym y.0
delete_once i j P Q g p gk k ne a b c d same (inr (inl x)) (inr (inr (inl y))) = absurd (let at = x.1 in let at' = y.1 in omega arith)
delete_once i j P Q g p gk k ne a b c d same (inr (inl x)) (inr (inr (inr (inl y)))) = absurd (let at = x.1 in let at' = y.1 in omega arith)
delete_once i j P Q g p gk k ne a b c d same (inr (inl x)) (inr (inr (inr (inr y)))) = absurd (let at = x.1 in let at' = y.1 in omega arith)
delete_once i j P Q g p gk k ne a b c d same (inr (inr (inl x))) (inl y) = absurd (let at = x.1 in let at' = y.1 in omega arith)
delete_once i j P Q g p gk k ne a b c d same (inr (inr (inl x))) (inr (inl y)) = absurd (let at = x.1 in let at' = y.1 in omega arith)
delete_once i j P Q g p gk k ne a b c d same (inr (inr (inl x))) (inr (inr (inl y))) = x.0 ∙ sym y.0
delete_once i j P Q g p gk k ne a b c d same (inr (inr (inl x))) (inr (inr (inr (inl y)))) = absurd (let at = x.1 in let at' = y.1 in omega arith)
delete_once i j P Q g p gk k ne a b c d same (inr (inr (inl x))) (inr (inr (inr (inr y)))) = absurd (let at = x.1 in let at' = y.1 in omega arith)
delete_once i j P Q g p gk k ne a b c d same (inr (inr (inr (inl x)))) (inl y) = absurd (let at = x.1 in let at' = y.1 in omega arith)
delete_once i j P Q g p gk k ne a b c d same (inr (inr (inr (inl x)))) (inr (inl y)) = absurd (let at = x.1 in let at' = y.1 in omega arith)
delete_once i j P Q g p gk k ne a b c d same (inr (inr (inr (inl x)))) (inr (inr (inl y))) = absurd (let at = x.1 in let at' = y.1 in omega arith)
delete_once i j P Q g p gk k ne a b c d same (inr (inr (inr (inl x)))) (inr (inr (inr (inl y)))) = x.0 ∙ sym y.0
delete_once i j P Q g p gk k ne a b c d same (inr (inr (inr (inl x)))) (inr (inr (inr (inr y)))) = absurd (let at = x.1 in let at' = y.1 in omega arith)
delete_once i j P Q g p gk k ne a b c d same (inr (inr (inr (inr x)))) (inl y) = absurd (let at = x.1 in let at' = y.1 in omega arith)
delete_once i j P Q g p gk k ne a b c d same (inr (inr (inr (inr x)))) (inr (inl y)) = absurd (let at = x.1 in let at' = y.1 in omega arith)
delete_once i j P Q g p gk k ne a b c d same (inr (inr (inr (inr x)))) (inr (inr (inl y))) = absurd (let at = x.1 in let at' = y.1 in omega arith)
delete_once i j P Q g p gk k ne a b c d same (inr (inr (inr (inr x)))) (inr (inr (inr (inl y)))) = absurd (let at = x.1 in let at' = y.1 in omega arith)
delete_once i j P Q g p gk k ne a b c d same (inr (inr (inr (inr x)))) (inr (inr (inr (inr y)))) = x.0 ∙ sym y.0

module _ (layout : Layout) (limits : IsWithinLimits layout) (s : Scene) (sound : Sound tree layout s) (kept : TreeKept layout s) (r : ℕ) (readings : Readings) (op : Op) (thunk : Thunk)
    (reader : s.reader r ≡ Some readings) (allowed : IsAllowed op) (fits : tree.fits layout op readings thunk ≡ true) where
  abbrev w : Walk
  w = walk_of layout op readings

  fit : IsFit op w thunk
  fit = fit_of op w thunk fits

  reads : Reads readings (bounds layout) op w
  reads = walk_reads readings (bounds layout) op

  past : is_past w.stage ≡ true
  past = ap is_past fit.stage

  late : is_late w.stage ≡ true
  late = ap is_late fit.stage

  locked : is_locked w.stage ≡ true
  locked = ap is_locked fit.stage

  -- the parent of the walk's leaf
  abbrev parent : ℕ
  parent = w.last.from

  -- a slot that the readings give is a node slot
  within : (t : ℕ) → IsFrom readings t → t < slot_count layout 3
  within t from = ⊎_elim (λ fixed. omega arith)
      (λ gives. let by = reached (shows_link readings) readings t gives in
      sound.within t (used ((sound.readers r readings reader).safe by.0 by.1 by.2 t by.3 (shown_now s.cells readings (kept.readers r readings reader) by.1 by.4) by.5))) from
    where
      live_free : s.status t ≡ Live → s.status t ≢ Free
      live_free live free = cc

      retired_free : (y : ℕ) → s.status t ≡ Retired y → s.status t ≢ Free
      retired_free y retired free = cc

      used : IsSafe s t → s.status t ≢ Free
      used safe = ⊎_elim live_free (λ retired. retired_free retired.0 retired.1) safe

  cell_small : (t k : ℕ) → IsFrom readings t → k < 5 → cell_of 0 t k < 2 ^ 32
  cell_small t k from low = let high = within t from in let nodes = limits.few_nodes in let runners = limits.few_runners in omega arith

  abbrev known : ℕ → Type 0
  known = IsKnown tree readings

  cell_known : (t k : ℕ) → IsFrom readings t → k < 5 → known (cell_of 0 t k)
  cell_known t k from low = inr (t, (k, low, refl), from)

  -- what a Load's place is
  abbrev IsCell : ℕ → Type 0
  IsCell p = (t k : ℕ) × IsFrom readings t × (1 ≤ k) × (k < 5) × (p ≡ cell_of 0 t k)

  loaded_unlocked : (p : ℕ) → IsCell p → is_lock_place p ≡ false
  loaded_unlocked p cell = ap is_lock_place cell.5 ∙ cell_unlocked cell.0 cell.1 cell.3 cell.4

  loaded_known : (p : ℕ) → IsCell p → known p
  loaded_known p cell = subst known (sym cell.5) (cell_known cell.0 cell.1 cell.2 cell.4)

  child_is : (b : Bool) (t p : ℕ) → IsFrom readings t → p ≡ child_of b t → IsCell p
  child_is b t p from e = (t, side_cell b, from, (let low = side_low b in omega arith), (let high = side_high b in omega arith), e ∙ child_cell b t)

  mark_is : (t p lock : ℕ) → IsFrom readings t → lock ≡ lock_of t → p ≡ lock + 4 → IsCell p
  mark_is t p lock from at e = (t, 4, from, omega arith, omega arith, (let at' = at in omega arith))

  number_at : (k : ℕ) {numbers : List ℕ} → operands_for op w w.found ≡ numbers → operand thunk k ≡ slice_index numbers k
  number_at k e = ap (λ numbers. slice_index numbers k) (fit.operands ∙ e)

  lock_at : {c : Bool} → (is_del op && w.found) ≡ c → thunk.lock ≡ cond c (lock_of w.grand.from) (lock_of parent)
  lock_at e = fit.lock ∙ ap (λ c. cond c (lock_of w.grand.from) (lock_of parent)) e

  abbrev HasStep : ℕ → Step → Type 0
  HasStep j step = slice_get (tree_steps thunk) j ≡ Some step

  step_at : {steps : List Step} → tree_steps thunk ≡ steps → (j : ℕ) (step : Step) → HasStep j step → slice_get steps j ≡ Some step
  step_at is j step h = sym (ap (λ steps. slice_get steps j) is) ∙ h

  -- form 11
  module _ (form : form_for op w.found ≡ 11) (outer : (is_del op && w.found) ≡ false) where
    look_lock : thunk.lock ≡ lock_of parent
    look_lock = lock_at outer

    look_place : operand thunk 0 ≡ step_place w.last
    look_place = number_at 0 (look_numbers op w w.found form)

    look_form : form_of thunk ≡ Look
    look_form = is_look thunk (fit.form ∙ form) (both _ _ (small_is (thunk.lock + 4) (let at = look_lock in let low = cell_small parent 4 reads.last_from (omega arith) in omega arith))
        (small_is (operand thunk 0) (subst (λ n. n < 2 ^ 32) (sym (look_place ∙ child_cell w.last.side parent)) (cell_small parent (side_cell w.last.side) reads.last_from (let high = side_high w.last.side in omega arith)))))

    look_body : tree_steps thunk ≡ look_steps thunk
    look_body = ap (λ f. body_of f thunk) look_form

    look_cell : (j p r : ℕ) → HasStep j (Load p r) → IsCell p
    look_cell j p r h = ⊎_elim (λ link. child_is w.last.side parent p reads.last_from (link.2 ∙ look_place)) (λ mark. mark_is parent p thunk.lock reads.last_from look_lock mark.2) (look_load thunk j p r (step_at look_body j (Load p r) h))

    two_places : {p : ℕ} → p ≡ operand thunk 0 → p ≡ thunk.lock + 4 → ⊥
    two_places e e' = let at = look_lock in let place = look_place ∙ child_cell w.last.side parent in let high = side_high w.last.side in omega arith

    look_once : {i j p q r : ℕ} → ((i ≡ 0) × (q ≡ 0) × (p ≡ operand thunk 0)) ⊎ ((i ≡ 2) × (q ≡ 1) × (p ≡ thunk.lock + 4)) → ((j ≡ 0) × (r ≡ 0) × (p ≡ operand thunk 0)) ⊎ ((j ≡ 2) × (r ≡ 1) × (p ≡ thunk.lock + 4)) → i ≡ j
    look_once (inl a) (inl b) = a.0 ∙ sym b.0
    look_once (inl a) (inr b) = absurd (two_places a.2 b.2)
    look_once (inr a) (inl b) = absurd (two_places b.2 a.2)
    look_once (inr a) (inr b) = a.0 ∙ sym b.0

    no_take : (j l n : ℕ) → HasStep j (Take l n) → ⊥
    no_take j l n h = look_take thunk j l n (step_at look_body j (Take l n) h)

    no_make : (j r : ℕ) (init : Init) → HasStep j (Make init r) → ⊥
    no_make j r init h = look_make thunk j r init (step_at look_body j (Make init r) h)

    no_store : (j r : ℕ) (v : Value) → HasStep j (Store r v) → ⊥
    no_store j r v h = look_store thunk j r v (step_at look_body j (Store r v) h)

    look_is_shaped : Shaped tree layout readings thunk
    look_is_shaped = record {
      shape = subst IsShaped (sym look_body) (look_shaped thunk);
      brief = brief_cost (tree_steps thunk) (subst IsShaped (sym look_body) (look_shaped thunk)) (few_steps thunk (form_of thunk));
      outer_lock = ap is_lock_place look_lock ∙ lock_locked parent;
      outer_known = subst known (sym look_lock) (cell_known parent 0 reads.last_from (omega arith));
      take_lock = λ j l n h. absurd (no_take j l n h);
      take_known = λ j l n h. absurd (no_take j l n h);
      take_inner = λ j l n h. absurd (no_take j l n h);
      take_once = λ i j l v n h h'. absurd (no_take i l v h);
      take_read = λ j l n h. absurd (no_take j l n h);
      take_free = λ j l n h. absurd (no_take j l n h);
      take_unspent = λ j l n h. absurd (no_take j l n h);
      load_unlocked = λ j p r h. loaded_unlocked p (look_cell j p r h);
      load_known = λ j p r h. loaded_known p (look_cell j p r h);
      load_once = λ i j p q r h h'. look_once (look_load thunk i p q (step_at look_body i (Load p q) h)) (look_load thunk j p r (step_at look_body j (Load p r) h'));
      store_once = λ i j r v n h h'. absurd (no_store i r v h);
      store_small = λ j r v h. absurd (no_store j r v h);
      make_whole = λ j r init h. absurd (no_make j r init h);
      make_small = λ j r i init v h. absurd (no_make j r init h);
      make_unlocked = λ j r i t init v h. absurd (no_make j r init h);
      answers = λ j n h. let at = look_answer thunk j n (step_at look_body j (Answer n) h)
          ∙ number_at 3 (look_numbers op w w.found form) in let some = reply_some op w.value w.found in omega arith;
    }

  -- the numbers of a new leaf
  new_key_low : (key value : ℕ) → PutsIn op key value → operand thunk 3 ≡ key → operand thunk 3 < 2 ^ 32
  new_key_low key value puts at = let low = allowed.keys (key_of op) (inl refl) in let same = puts.0 in
      omega (arith, low, at, same)

  new_value_low : (key value : ℕ) → PutsIn op key value → operand thunk 4 ≡ value → operand thunk 4 < 2 ^ 32
  new_value_low key value puts at = let low = allowed.value value (puts_given op key value puts) in
      omega (arith, low, at)

  -- form 12
  module _ (form : form_for op w.found ≡ 12) where
    inserted : Inserts op w w.found
    inserted = inserts op w w.found form

    insert_lock : thunk.lock ≡ lock_of parent
    insert_lock = lock_at (insert_outer op w.found form)

    insert_place : operand thunk 0 ≡ step_place w.last
    insert_place = number_at 0 inserted.numbers

    key_low : operand thunk 3 < 2 ^ 32
    key_low = new_key_low inserted.key inserted.value inserted.puts (number_at 3 inserted.numbers)

    value_low : operand thunk 4 < 2 ^ 32
    value_low = new_value_low inserted.key inserted.value inserted.puts (number_at 4 inserted.numbers)

    other_low : operand thunk 5 < 2 ^ 32
    other_low = let low = reads.key_small in let at = number_at 5 inserted.numbers in omega (arith, low, at)

    insert_form : form_of thunk ≡ Insert
    insert_form = is_insert thunk (fit.form ∙ form)
        (both _ _ (small_is (thunk.lock + 4) (let at = insert_lock in let low = cell_small parent 4 reads.last_from (omega arith) in omega arith))
        (both _ _ (small_is (operand thunk 0) (subst (λ n. n < 2 ^ 32) (sym (insert_place ∙ child_cell w.last.side parent)) (cell_small parent (side_cell w.last.side) reads.last_from (let high = side_high w.last.side in omega arith))))
        (both _ _ (small_is (operand thunk 3) key_low) (both _ _ (small_is (operand thunk 4) value_low) (small_is (operand thunk 5) other_low)))))

    insert_body : tree_steps thunk ≡ insert_steps thunk
    insert_body = ap (λ f. body_of f thunk) insert_form

    insert_cell : (j p r : ℕ) → HasStep j (Load p r) → IsCell p
    insert_cell j p r h = ⊎_elim (λ link. child_is w.last.side parent p reads.last_from (link.2 ∙ insert_place)) (λ mark. mark_is parent p thunk.lock reads.last_from insert_lock mark.2) (insert_load thunk j p r (step_at insert_body j (Load p r) h))

    places_apart : {p : ℕ} → p ≡ operand thunk 0 → p ≡ thunk.lock + 4 → ⊥
    places_apart e e' = let at = insert_lock in let place = insert_place ∙ child_cell w.last.side parent in let high = side_high w.last.side in omega arith

    insert_once : {i j p q r : ℕ} → ((i ≡ 0) × (q ≡ 0) × (p ≡ operand thunk 0)) ⊎ ((i ≡ 3) × (q ≡ 1) × (p ≡ thunk.lock + 4)) → ((j ≡ 0) × (r ≡ 0) × (p ≡ operand thunk 0)) ⊎ ((j ≡ 3) × (r ≡ 1) × (p ≡ thunk.lock + 4)) → i ≡ j
    insert_once (inl a) (inl b) = a.0 ∙ sym b.0
    insert_once (inl a) (inr b) = absurd (places_apart a.2 b.2)
    insert_once (inr a) (inl b) = absurd (places_apart b.2 a.2)
    insert_once (inr a) (inr b) = a.0 ∙ sym b.0

    -- what holds of both new nodes
    for_init : (P : Init → Type 0) → ((k v : ℕ) → k < 2 ^ 32 → v < 2 ^ 32 → P (leaf_with k v)) → ((k : ℕ) (l r : Value) → k < 2 ^ 32 → IsSmall l → IsSmall r → P (inner_with k l r)) → (j r : ℕ) (init : Init) → HasStep j (Make init r) → P init
    for_init P leaf inner j r init h = ⊎_elim (λ a. subst P (sym a.2) (leaf (operand thunk 3) (operand thunk 4) key_low value_low)) (λ b. subst P (sym b.2) (either (nat_lt (operand thunk 3) (operand thunk 5))))
        (insert_make thunk j r init (step_at insert_body j (Make init r) h))
      where
        either : (b : Bool) → P (cond b (inner_with (operand thunk 5) (Made 2) (Const (value_of (operand thunk 1)))) (inner_with (operand thunk 3) (Const (value_of (operand thunk 1))) (Made 2)))
        either true = inner (operand thunk 5) (Made 2) (Const (value_of (operand thunk 1))) other_low tt (value_small (operand thunk 1))
        either false = inner (operand thunk 3) (Const (value_of (operand thunk 1))) (Made 2) key_low (value_small (operand thunk 1)) tt

    insert_no_take : (j l n : ℕ) → HasStep j (Take l n) → ⊥
    insert_no_take j l n h = insert_take thunk j l n (step_at insert_body j (Take l n) h)

    insert_is_shaped : Shaped tree layout readings thunk
    insert_is_shaped = record {
      shape = subst IsShaped (sym insert_body) (insert_shaped thunk);
      brief = brief_cost (tree_steps thunk) (subst IsShaped (sym insert_body) (insert_shaped thunk)) (few_steps thunk (form_of thunk));
      outer_lock = ap is_lock_place insert_lock ∙ lock_locked parent;
      outer_known = subst known (sym insert_lock) (cell_known parent 0 reads.last_from (omega arith));
      take_lock = λ j l n h. absurd (insert_no_take j l n h);
      take_known = λ j l n h. absurd (insert_no_take j l n h);
      take_inner = λ j l n h. absurd (insert_no_take j l n h);
      take_once = λ i j l v n h h'. absurd (insert_no_take i l v h);
      take_read = λ j l n h. absurd (insert_no_take j l n h);
      take_free = λ j l n h. absurd (insert_no_take j l n h);
      take_unspent = λ j l n h. absurd (insert_no_take j l n h);
      load_unlocked = λ j p r h. loaded_unlocked p (insert_cell j p r h);
      load_known = λ j p r h. loaded_known p (insert_cell j p r h);
      load_once = λ i j p q r h h'. insert_once (insert_load thunk i p q (step_at insert_body i (Load p q) h)) (insert_load thunk j p r (step_at insert_body j (Load p r) h'));
      store_once = λ i j r v n h h'. (insert_store thunk i r v (step_at insert_body i (Store r v) h)).0 ∙ sym (insert_store thunk j r n (step_at insert_body j (Store r n) h')).0;
      store_small = λ j r v h. subst IsSmall (sym (insert_store thunk j r v (step_at insert_body j (Store r v) h)).2) tt;
      make_whole = λ j r init h. for_init (λ init. length init.cells ≡ 5) (λ k v a b. refl) (λ k l r a b c. refl) j r init h;
      make_small = λ j r i init v h. for_init (λ init. slice_get init.cells i ≡ Some v → IsSmall v) (λ k n a b. five_small (Const k) (Const 0) (Const n) a (omega arith) b i v) (λ k l r a b c. five_small (Const k) l r a b c i v) j r init h;
      make_unlocked = λ j r i t init v h. for_init (λ init. slice_get init.cells i ≡ Some v → is_lock_place (cell_of 0 t i) ≡ true → v ≡ Const 0) (λ k n a b. five_unlocked (Const k) (Const 0) (Const n) i t v) (λ k l r a b c. five_unlocked (Const k) l r i t v) j r init h;
      answers = λ j n h. let at = insert_answer thunk j n (step_at insert_body j (Answer n) h) in omega arith;
    }

  -- form 14
  module _ (form : form_for op w.found ≡ 14) where
    replaced : Replaces op w w.found
    replaced = replaces op w w.found form

    replaced_puts : PutsIn op replaced.key replaced.value
    replaced_puts = put_puts op replaced.key replaced.value replaced.put

    replace_lock : thunk.lock ≡ lock_of parent
    replace_lock = lock_at (replace_outer op w.found form)

    replace_place : operand thunk 0 ≡ step_place w.last
    replace_place = number_at 0 replaced.numbers

    leaf_key_low : operand thunk 3 < 2 ^ 32
    leaf_key_low = new_key_low replaced.key replaced.value replaced_puts (number_at 3 replaced.numbers)

    leaf_value_low : operand thunk 4 < 2 ^ 32
    leaf_value_low = new_value_low replaced.key replaced.value replaced_puts (number_at 4 replaced.numbers)

    replace_form : form_of thunk ≡ Replace
    replace_form = is_replace thunk (fit.form ∙ form)
        (both _ _ (small_is (thunk.lock + 4) (let at = replace_lock in
        let low = cell_small parent 4 reads.last_from (omega arith) in omega (arith, at, low)))
        (both _ _ (small_is (operand thunk 0) (subst (λ n. n < 2 ^ 32)
        (sym (replace_place ∙ child_cell w.last.side parent)) (cell_small parent (side_cell w.last.side) reads.last_from
        (let high = side_high w.last.side in omega (arith, high)))))
        (both _ _ (small_is (operand thunk 3) leaf_key_low) (both _ _ (small_is (operand thunk 4) leaf_value_low)
        (lt_test 0 (value_of (operand thunk 1)) (subst (λ n. 0 < value_of n) (sym (number_at 1 replaced.numbers))
        (reads.some past)))))))

    replace_body : tree_steps thunk ≡ replace_steps thunk
    replace_body = ap (λ f. body_of f thunk) replace_form

    abbrev IsLoad : ℕ → ℕ → ℕ → Type 0
    IsLoad j p r = ((j ≡ 0) × (r ≡ 0) × (p ≡ operand thunk 0)) ⊎ ((j ≡ 3) × (r ≡ 1) × (p ≡ thunk.lock + 4))

    load_at : (j p r : ℕ) → HasStep j (Load p r) → IsLoad j p r
    load_at j p r h = replace_load thunk j p r (step_at replace_body j (Load p r) h)

    replace_cell : (j p r : ℕ) → HasStep j (Load p r) → IsCell p
    replace_cell j p r h = ⊎_elim
        (λ link. child_is w.last.side parent p reads.last_from (link.2 ∙ replace_place))
        (λ mark. mark_is parent p thunk.lock reads.last_from replace_lock mark.2) (load_at j p r h)

    apart_places : {p : ℕ} → p ≡ operand thunk 0 → p ≡ thunk.lock + 4 → ⊥
    apart_places e e' = let at = replace_lock in let place = replace_place ∙ child_cell w.last.side parent in
        let high = side_high w.last.side in omega (arith, e, e', at, place, high)

    replace_once : {i j p q r : ℕ} → IsLoad i p q → IsLoad j p r → i ≡ j
    replace_once (inl a) (inl b) = a.0 ∙ sym b.0
    replace_once (inl a) (inr b) = absurd (apart_places a.2 b.2)
    replace_once (inr a) (inl b) = absurd (apart_places b.2 a.2)
    replace_once (inr a) (inr b) = a.0 ∙ sym b.0

    replace_no_take : (j l n : ℕ) → HasStep j (Take l n) → ⊥
    replace_no_take j l n h = replace_take thunk j l n (step_at replace_body j (Take l n) h)

    -- what holds of the new leaf
    for_leaf : (P : Init → Type 0) → P (leaf_with (operand thunk 3) (operand thunk 4)) → (j r : ℕ) (init : Init)
        → HasStep j (Make init r) → P init
    for_leaf P leaf j r init h =
        subst P (sym (replace_make thunk j r init (step_at replace_body j (Make init r) h)).2) leaf

    replace_stores : (j r : ℕ) (v : Value) → HasStep j (Store r v) → (j ≡ 7) × (r ≡ 0) × (v ≡ Made 2)
    replace_stores j r v h = replace_store thunk j r v (step_at replace_body j (Store r v) h)

    replace_is_shaped : Shaped tree layout readings thunk
    replace_is_shaped = record {
      shape = subst IsShaped (sym replace_body) (replace_shaped thunk);
      brief = brief_cost (tree_steps thunk) (subst IsShaped (sym replace_body) (replace_shaped thunk)) (few_steps thunk (form_of thunk));
      outer_lock = ap is_lock_place replace_lock ∙ lock_locked parent;
      outer_known = subst known (sym replace_lock) (cell_known parent 0 reads.last_from (omega arith));
      take_lock = λ j l n h. absurd (replace_no_take j l n h);
      take_known = λ j l n h. absurd (replace_no_take j l n h);
      take_inner = λ j l n h. absurd (replace_no_take j l n h);
      take_once = λ i j l v n h h'. absurd (replace_no_take i l v h);
      take_read = λ j l n h. absurd (replace_no_take j l n h);
      take_free = λ j l n h. absurd (replace_no_take j l n h);
      take_unspent = λ j l n h. absurd (replace_no_take j l n h);
      load_unlocked = λ j p r h. loaded_unlocked p (replace_cell j p r h);
      load_known = λ j p r h. loaded_known p (replace_cell j p r h);
      load_once = λ i j p q r h h'. replace_once (load_at i p q h) (load_at j p r h');
      store_once = λ i j r v n h h'. (replace_stores i r v h).0 ∙ sym (replace_stores j r n h').0;
      store_small = λ j r v h. subst IsSmall (sym (replace_stores j r v h).2) tt;
      make_whole = λ j r init h. for_leaf (λ init. length init.cells ≡ 5) refl j r init h;
      make_small = λ j r i init v h. for_leaf (λ init. slice_get init.cells i ≡ Some v → IsSmall v)
          (five_small (Const (operand thunk 3)) (Const 0) (Const (operand thunk 4)) leaf_key_low (omega arith)
          leaf_value_low i v) j r init h;
      make_unlocked = λ j r i t init v h. for_leaf
          (λ init. slice_get init.cells i ≡ Some v → is_lock_place (cell_of 0 t i) ≡ true → v ≡ Const 0)
          (five_unlocked (Const (operand thunk 3)) (Const 0) (Const (operand thunk 4)) i t v) j r init h;
      answers = λ j n h. let at = replace_answer thunk j n (step_at replace_body j (Answer n) h)
          ∙ number_at 5 replaced.numbers in omega (arith, at);
    }

  -- form 13
  module _ (key : ℕ) (is : op ≡ Del key) (found : w.found ≡ true) where
    abbrev grand : ℕ
    grand = w.grand.from

    deep : w.deep ≡ true
    deep = reads.deep late (ap is_del is) found

    delete_numbers : operands_for op w w.found ≡ delete_operands w
    delete_numbers = ap (λ op. operands_for op w w.found) is ∙ ap (operands_for (Del key) w) found

    delete_lock : thunk.lock ≡ lock_of grand
    delete_lock = lock_at (ap (λ op. is_del op && w.found) is ∙ found)

    delete_place : operand thunk 0 ≡ step_place w.grand
    delete_place = number_at 0 delete_numbers

    leaf_place : operand thunk 4 ≡ step_place w.last
    leaf_place = number_at 4 delete_numbers

    -- the parent that the body takes out is that of the walk
    parent_is : parent_in thunk ≡ parent
    parent_is = ap slot_in (number_at 1 delete_numbers) ∙ sym (reads.joined past deep)

    -- keys fall to the left and rise to the right, so parent and grandparent differ
    apart : grand ≢ parent
    apart same = ordered w.grand.side refl
      where
        end_refused : AtEnd ≡ Refused → ⊥
        end_refused e = cc

        end_root : AtEnd ≡ AtRoot → ⊥
        end_root e = cc

        walk : IsWalk (nodes s.cells) kept.covers kept.once (key_of op) w
        walk = kept.walks r readings op reader (let low = allowed.keys (key_of op) (inl refl) in omega arith)

        followed : IsFollowed (nodes s.cells) kept.covers kept.once (key_of op) w.grand
        followed = walk.grand (λ e. end_refused (sym fit.stage ∙ e)) deep

        to : step_to w.grand ≡ grand
        to = sym (reads.joined past deep) ∙ sym same

        inner : IsInner (nodes s.cells) (step_to w.grand)
        inner = subst (IsInner (nodes s.cells)) (sym to) followed.inner

        ordered : (side : Bool) → w.grand.side ≡ side → ⊥
        ordered true e = let less = followed.left e inner in let at = ap (nodes s.cells).key to in omega arith
        ordered false e = let less = followed.right e inner in let at = ap (nodes s.cells).key to in omega arith

    is_left_at : (side : Bool) → w.last.side ≡ side → is_left thunk ≡ side
    is_left_at true e = eq_test (operand thunk 4) (left_of (parent_in thunk)) (leaf_place ∙ ap (λ b. child_of b parent) e ∙ ap left_of (sym parent_is))
    is_left_at false e = eq_false (operand thunk 4) (left_of (parent_in thunk)) (λ same. let at = leaf_place ∙ ap (λ b. child_of b parent) e in let same' = parent_is in omega arith)

    is_link : (side : Bool) → w.last.side ≡ side → (is_left thunk || is_right thunk) ≡ true
    is_link true e = or_left (is_left thunk) (is_right thunk) (is_left_at true e)
    is_link false e = or_right (is_left thunk) (is_right thunk) (eq_test (operand thunk 4) (right_of (parent_in thunk)) (leaf_place ∙ ap (λ b. child_of b parent) e ∙ ap right_of (sym parent_is)))

    sibling_is : sibling_of thunk ≡ 0 + 5 * parent + (5 - side_cell w.last.side)
    sibling_is = go w.last.side refl
      where
        go : (side : Bool) → w.last.side ≡ side → sibling_of thunk ≡ 0 + 5 * parent + (5 - side_cell w.last.side)
        go true e = ap (λ b. cond b (right_of (parent_in thunk)) (left_of (parent_in thunk))) (is_left_at true e) ∙ ap right_of parent_is ∙ ap (λ b. 0 + 5 * parent + (5 - side_cell b)) (sym e)
        go false e = ap (λ b. cond b (right_of (parent_in thunk)) (left_of (parent_in thunk))) (is_left_at false e) ∙ ap left_of parent_is ∙ ap (λ b. 0 + 5 * parent + (5 - side_cell b)) (sym e)

    delete_form : form_of thunk ≡ Delete
    delete_form = is_delete thunk (fit.form ∙ ap (λ op. form_for op w.found) is ∙ ap (form_for (Del key)) found)
        (both _ _ (small_is (thunk.lock + 4) (let at = delete_lock in let low = cell_small grand 4 reads.grand_from (omega arith) in omega arith))
        (both _ _ (small_is (operand thunk 0) (subst (λ n. n < 2 ^ 32) (sym (delete_place ∙ child_cell w.grand.side grand)) (cell_small grand (side_cell w.grand.side) reads.grand_from (let high = side_high w.grand.side in omega arith))))
        (both _ _ (lt_test 0 (value_of (operand thunk 1)) (subst (λ n. 0 < value_of n) (sym (number_at 1 delete_numbers)) (reads.grand_some past deep)))
        (both _ _ (lt_test 0 (value_of (operand thunk 5)) (subst (λ n. 0 < value_of n) (sym (number_at 5 delete_numbers)) (reads.some past)))
        (both _ _ (small_is (mark_of (parent_in thunk)) (subst (λ t. mark_of t < 2 ^ 32) (sym parent_is) (cell_small parent 4 reads.last_from (omega arith)))) (is_link w.last.side refl))))))

    delete_body : tree_steps thunk ≡ delete_steps thunk
    delete_body = ap (λ f. body_of f thunk) delete_form

    abbrev Spot : ℕ → ℕ → Type 0
    Spot = LoadSpot grand parent (side_cell w.grand.side) (side_cell w.last.side)

    delete_spot : (j p r : ℕ) → HasStep j (Load p r) → Spot j p
    delete_spot j p r h = ⊎_elim (λ a. inl (a.0, a.2 ∙ delete_place ∙ child_cell w.grand.side grand))
        (⊎_elim (λ a. inr (inl (a.0, (let at = a.2 in let lock = delete_lock in omega arith))))
        (⊎_elim (λ a. inr (inr (inl (a.0, a.2 ∙ leaf_place ∙ child_cell w.last.side parent))))
        (⊎_elim (λ a. inr (inr (inr (inl (a.0, a.2 ∙ sibling_is)))))
        (λ a. inr (inr (inr (inr (a.0, a.2 ∙ ap mark_of parent_is))))))))
        (delete_load thunk j p r (step_at delete_body j (Load p r) h))

    delete_cell : (j p r : ℕ) → HasStep j (Load p r) → IsCell p
    delete_cell j p r h = let gl = side_low w.grand.side in let gh = side_high w.grand.side in let ll = side_low w.last.side in let lh = side_high w.last.side in
        ⊎_elim (λ a. (grand, side_cell w.grand.side, reads.grand_from, omega arith, omega arith, a.1))
        (⊎_elim (λ a. (grand, 4, reads.grand_from, omega arith, omega arith, a.1))
        (⊎_elim (λ a. (parent, side_cell w.last.side, reads.last_from, omega arith, omega arith, a.1))
        (⊎_elim (λ a. (parent, 5 - side_cell w.last.side, reads.last_from, omega arith, omega arith, a.1))
        (λ a. (parent, 4, reads.last_from, omega arith, omega arith, a.1)))))
        (delete_spot j p r h)

    delete_take_at : (j l n : ℕ) → HasStep j (Take l n) → (j ≡ 5) × (l ≡ lock_of parent) × (n ≡ w.lock)
    delete_take_at j l n h = let a = delete_take thunk j l n (step_at delete_body j (Take l n) h) in (a.0, a.1 ∙ ap lock_of parent_is, a.2 ∙ number_at 3 delete_numbers)

    no_new : (j r : ℕ) (init : Init) → HasStep j (Make init r) → ⊥
    no_new j r init h = delete_make thunk j r init (step_at delete_body j (Make init r) h)

    stores : {i j r : ℕ} {v n : Value} → ((i ≡ 13) × (r ≡ 4) × (v ≡ Const 1)) ⊎ ((i ≡ 14) × (r ≡ 0) × (v ≡ Of 3)) → ((j ≡ 13) × (r ≡ 4) × (n ≡ Const 1)) ⊎ ((j ≡ 14) × (r ≡ 0) × (n ≡ Of 3)) → i ≡ j
    stores (inl a) (inl b) = a.0 ∙ sym b.0
    stores (inl a) (inr b) = absurd (let at = a.1 in let at' = b.1 in omega arith)
    stores (inr a) (inl b) = absurd (let at = a.1 in let at' = b.1 in omega arith)
    stores (inr a) (inr b) = a.0 ∙ sym b.0

    ready : (is_free w.lock ≡ true) × (not (is_spent layout.version_max w.lock) ≡ true)
    ready = both_true _ _ (reads.lock_ready locked)

    mark_apart : mark_of (parent_in thunk) ≢ operand thunk 0
    mark_apart same = let at = delete_place ∙ child_cell w.grand.side grand in let parent' = parent_is in let high = side_high w.grand.side in let low = side_low w.grand.side in omega arith

    delete_is_shaped : Shaped tree layout readings thunk
    delete_is_shaped = record {
      shape = subst IsShaped (sym delete_body) (delete_shaped thunk mark_apart);
      brief = brief_cost (tree_steps thunk) (subst IsShaped (sym delete_body) (delete_shaped thunk mark_apart)) (few_steps thunk (form_of thunk));
      outer_lock = ap is_lock_place delete_lock ∙ lock_locked grand;
      outer_known = subst known (sym delete_lock) (cell_known grand 0 reads.grand_from (omega arith));
      take_lock = λ j l n h. ap is_lock_place (delete_take_at j l n h).1 ∙ lock_locked parent;
      take_known = λ j l n h. subst known (sym (delete_take_at j l n h).1) (cell_known parent 0 reads.last_from (omega arith));
      take_inner = λ j l n h e. apart (let at = (delete_take_at j l n h).1 in let lock = delete_lock in omega arith);
      take_once = λ i j l v n h h'. (delete_take_at i l v h).0 ∙ sym (delete_take_at j l n h').0;
      take_read = λ j l n h. let read = reads.lock_read locked in let at = delete_take_at j l n h in
          (read.0, subst (λ n. slice_get readings read.0 ≡ Some (l, n)) (sym at.2) (subst (λ l. slice_get readings read.0 ≡ Some (l, w.lock)) (sym at.1) read.1));
      take_free = λ j l n h. subst (λ n. is_free n ≡ true) (sym (delete_take_at j l n h).2) ready.0;
      take_unspent = λ j l n h. subst (λ n. is_spent layout.version_max n ≡ false) (sym (delete_take_at j l n h).2) (not_true (is_spent layout.version_max w.lock) ready.1);
      load_unlocked = λ j p r h. loaded_unlocked p (delete_cell j p r h);
      load_known = λ j p r h. loaded_known p (delete_cell j p r h);
      load_once = λ i j p q r h h'. delete_once i j p p grand parent (side_cell w.grand.side) (side_cell w.last.side) apart (side_low w.grand.side) (side_high w.grand.side) (side_low w.last.side) (side_high w.last.side) refl (delete_spot i p q h) (delete_spot j p r h');
      store_once = λ i j r v n h h'. stores (delete_store thunk i r v (step_at delete_body i (Store r v) h)) (delete_store thunk j r n (step_at delete_body j (Store r n) h'));
      store_small = λ j r v h. ⊎_elim (λ a. subst IsSmall (sym a.2) (omega arith)) (λ b. subst IsSmall (sym b.2) tt) (delete_store thunk j r v (step_at delete_body j (Store r v) h));
      make_whole = λ j r init h. absurd (no_new j r init h);
      make_small = λ j r i init v h. absurd (no_new j r init h);
      make_unlocked = λ j r i t init v h. absurd (no_new j r init h);
      answers = λ j n h. let at = delete_answer thunk j n (step_at delete_body j (Answer n) h) in omega arith;
    }

  pub tree_shaped : Shaped tree layout readings thunk
  tree_shaped = ⊎_elim (λ look. look_is_shaped look (look_outer op w.found look)) (⊎_elim insert_is_shaped
      (⊎_elim (λ delete. let is = deletes op w.found delete in delete_is_shaped is.0 is.1 is.2) replace_is_shaped))
      (cases op w.found fit.one)
