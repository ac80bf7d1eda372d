-- A thunk that fits an entered runner's readings has a body of the shape of a body, whose places the readings give.
use Rattle.std.proofs.Common.{◌≡◌, ◌≢◌, ℕ, ◌+◌, ◌*◌, ◌<◌, ◌≤◌, true, false, refl, sym, ap, ◌∙◌, subst, inl, inr, ⊎_elim, arith}
use Rattle.std.specs.Prelude.{◌&&◌, not, ◌^◌, Some, List, slice_get, slice_index, length}
use Rattle.std.proofs.lemmas.Bool.{cases_eq}
use Rattle.structure_laws.specs.table_words.specs.small_lemmas.proofs.Bools.{negated}
use Rattle.structure_laws.specs.map_history.specs.declared.op.Op.{Op}
use Rattle.structure_laws.specs.map_history.specs.Keys.{key_of}
use Rattle.structure_laws.specs.body_terms.specs.Word.{value_of, is_free, is_spent}
use Rattle.structure_laws.specs.body_terms.specs.Memory.{cell_of}
use Rattle.bucket_laws.specs.bucket_bodies.specs.section_body.specs.Bucket.{operand}
use Rattle.structure_laws.specs.body_terms.specs.Shape.{IsShaped}
use Rattle.structure_laws.specs.body_terms.specs.declared.value.Value.{Value}
use Rattle.structure_laws.specs.body_terms.specs.declared.value.Value.TheVariants.{Const, Of}
use Rattle.structure_laws.specs.body_terms.specs.declared.value.Init.{Init}
use Rattle.structure_laws.specs.body_terms.specs.declared.step.Step.{Step}
use Rattle.structure_laws.specs.body_terms.specs.declared.thunk.Thunk.{Thunk}
use Rattle.structure_laws.specs.table_words.specs.declared.layout.Layout.{Layout}
use Rattle.structure_laws.specs.table_words.specs.Limits.{IsWithinLimits}
use Rattle.structure_laws.specs.table_words.specs.Places.{slot_count}
use Rattle.structure_laws.specs.Scene.{Readings, Scene}
use Rattle.structure_laws.specs.Sections.{IsAllowed, IsSmall}
use Rattle.structure_laws.specs.Cells.{IsKnown}
use Rattle.structure_laws.specs.Sound.{Sound}
use Rattle.structure_laws.specs.Shape.{Shaped}
use Rattle.structure_laws.proofs.Changes.{value_small, both_true}
use Rattle.structure_laws.proofs.Costs.{brief_cost}
use Rattle.bucket_laws.proofs.TableGives.{reached}
use Rattle.node_laws.proofs.Cells.{cell_unlocked, lock_locked, five_small, five_unlocked}
use Rattle.node_laws.proofs.Forms.{put_puts, reply_some}
use Rattle.list_bodies.specs.List.{lock_of, node_in, Form, Look, Insert, Remove, Replace}
use Rattle.list_bodies.specs.List.{form_of, body_of, list_steps}
use Rattle.list_laws.specs.Walk.{Walk, node_of, is_past, takes_out, form_for, operands_for}
use Rattle.list_laws.specs.Nodes.{is_lock_place, is_link_place, nodes, bounds, walk_of, IsWalk, ListKept, list}
use Rattle.list_laws.proofs.BodyShapes.{look_shaped, insert_shaped, remove_shaped, replace_shaped, few_steps}
use Rattle.list_laws.proofs.Fit.{IsFit, fit_of, look_numbers, inserts, removes, replaces, takes_both}
use Rattle.list_laws.proofs.Forms.{FrontLoad, WholeLoad, RemoveStore, ReplaceStore}
use Rattle.list_laws.proofs.Forms.{look_load, look_take, look_make, look_store, look_answer}
use Rattle.list_laws.proofs.Forms.{insert_load, insert_take, insert_make, insert_store, insert_answer}
use Rattle.list_laws.proofs.Forms.{remove_load, remove_take, remove_make, remove_store, remove_answer}
use Rattle.list_laws.proofs.Forms.{replace_load, replace_take, replace_make, replace_store, replace_answer}
use Rattle.list_laws.proofs.Frame.{safe_used}
use Rattle.list_laws.proofs.Kind.{Kind, Looks, Inserts_it, Removes_it, Replaces_it, kind, key_low, value_low}
use Rattle.list_laws.proofs.WalkReads.{IsFrom, HasRead, walk_reads, end_reads}

module _ (layout : Layout) (limits : IsWithinLimits layout) (s : Scene) (sound : Sound list layout s)
    (kept : ListKept layout s) (r : ℕ) (readings : Readings) (op : Op) (thunk : Thunk)
    (reader : s.reader r ≡ Some readings) (allowed : IsAllowed op)
    (fits : list.fits layout op readings thunk ≡ true) where
  abbrev w : Walk
  w = walk_of layout op readings

  fit : IsFit op w thunk
  fit = fit_of op w thunk fits

  reads : HasRead readings (bounds layout) op w 7
  reads = end_reads readings (bounds layout) op w fit.stage (walk_reads readings (bounds layout) op)

  is_walk : IsWalk (nodes s.cells) kept.once (key_of op) w
  is_walk = kept.walks r readings op reader (let low = allowed.keys (key_of op) (inl refl) in omega (arith, low))

  node_from : IsFrom readings (node_of w)
  node_from = inr (reads.node (omega arith))

  -- a slot that the readings give is a node slot
  within : (t : ℕ) → IsFrom readings t → t < slot_count layout 2
  within t from = ⊎_elim (λ fixed. omega (arith, fixed))
      (λ gives. let by = reached is_link_place readings t gives in
      sound.within t (safe_used s t ((sound.readers r readings reader).safe by.0 by.1 by.2 t by.3 by.4 by.5))) from

  cell_low : (t k : ℕ) → IsFrom readings t → k < 5 → cell_of 0 t k < 2 ^ 32
  cell_low t k from low = let high = within t from in let nodes = limits.few_nodes in
      let runners = limits.few_runners in omega (arith, low, high, nodes, runners)

  abbrev known : ℕ → Type 0
  known = IsKnown list readings

  cell_known : (t k : ℕ) → IsFrom readings t → k < 5 → known (cell_of 0 t k)
  cell_known t k from low = inr (t, (k, low, refl), from)

  -- what a Load's place is
  abbrev IsCell : ℕ → Type 0
  IsCell p = (t k : ℕ) × IsFrom readings t × (1 ≤ k) × (k < 5) × (p ≡ cell_of 0 t k)

  loaded_unlocked : (p : ℕ) → IsCell p → is_lock_place p ≡ false
  loaded_unlocked p cell = ap is_lock_place cell.5 ∙ cell_unlocked cell.0 cell.1 cell.3 cell.4

  loaded_known : (p : ℕ) → IsCell p → known p
  loaded_known p cell = subst known (sym cell.5) (cell_known cell.0 cell.1 cell.2 cell.4)

  -- keys rise along the list, so both nodes differ
  apart : node_of w ≢ w.from
  apart same = ⊎_elim
      (λ head. is_walk.node_head (ap is_past fit.stage) (same ∙ head))
      (λ some. let less = is_walk.from_key some in let read = reads.key_read (omega arith) in
      let high = reads.key_high (omega arith) in
      let stands : value_of read.0 ≡ (nodes s.cells).key (node_of w) =
      (kept.readers r readings reader).key read.1.0 (node_of w) read.0 read.1.1 in
      let is = read.2 in
      let at : (nodes s.cells).key (node_of w) ≡ (nodes s.cells).key w.from = ap (nodes s.cells).key same in
      omega (arith, less, high, stands, is, at))
      (cases_eq w.from 0)

  number_at : (k : ℕ) {numbers : List ℕ} → operands_for op w w.found ≡ numbers → operand thunk k ≡ slice_index numbers k
  number_at k e = ap (λ numbers. slice_index numbers k) (fit.operands ∙ e)

  abbrev HasStep : ℕ → Step → Type 0
  HasStep j step = slice_get (list_steps thunk) j ≡ Some step

  step_at : (f : Form) → form_of thunk ≡ f → (j : ℕ) (step : Step) → HasStep j step
      → slice_get (body_of f thunk) j ≡ Some step
  step_at f form j step h = subst (λ g. slice_get (body_of g thunk) j ≡ Some step) form h

  -- both places of the predecessor
  front_cell : (a b j p r : ℕ) → FrontLoad thunk a b j p r → IsCell p
  front_cell a b j p r (inl l) = (
    w.from,
    2,
    reads.from,
    omega arith,
    omega arith,
    (let at = l.2 in let lock = fit.lock in
        let z : p ≡ cell_of 0 w.from 2 = omega (arith, at, lock) in z),
  )
  front_cell a b j p r (inr l) = (
    w.from,
    4,
    reads.from,
    omega arith,
    omega arith,
    (let at = l.2 in let lock = fit.lock in
        let z : p ≡ cell_of 0 w.from 4 = omega (arith, at, lock) in z),
  )

  front_once : (a b i j p q r : ℕ) → FrontLoad thunk a b i p q → FrontLoad thunk a b j p r → i ≡ j
  front_once a b i j p q r (inl x) (inl y) = x.0 ∙ sym y.0
  front_once a b i j p q r (inl x) (inr y) = absurd (let at = x.2 in let at' = y.2 in omega (arith, at, at'))
  front_once a b i j p q r (inr x) (inl y) = absurd (let at = x.2 in let at' = y.2 in omega (arith, at, at'))
  front_once a b i j p q r (inr x) (inr y) = x.0 ∙ sym y.0

  -- and those of the node
  node_cell : (k p : ℕ) → 1 ≤ k → k < 5 → p ≡ cell_of 0 (node_in thunk) k → IsCell p
  node_cell k p low high e = (node_of w, k, node_from, low, high, e ∙ ap (λ t. cell_of 0 t k) fit.node)

  whole_cell : (j p r : ℕ) → WholeLoad thunk j p r → IsCell p
  whole_cell j p r (inl front) = front_cell 0 3 j p r front
  whole_cell j p r (inr (inl l)) = node_cell 2 p (omega arith) (omega arith) l.2
  whole_cell j p r (inr (inr l)) = node_cell 4 p (omega arith) (omega arith) l.2

  not_both : (k p : ℕ) → k < 5 → (j r : ℕ) → FrontLoad thunk 0 3 j p r → p ≡ cell_of 0 (node_in thunk) k → ⊥
  not_both k p high j r front e = apart (sym fit.node ∙ from_front j r front)
    where
      same : (lock a b n : ℕ) → lock ≡ lock_of n → a < 5 → p ≡ lock + a → p ≡ cell_of 0 b k → b ≡ n
      same lock a b n at low e e' = omega (arith, at, low, high, e, e')

      from_front : (j r : ℕ) → FrontLoad thunk 0 3 j p r → node_in thunk ≡ w.from
      from_front j r (inl l) = same thunk.lock 2 (node_in thunk) w.from fit.lock (omega arith) l.2 e
      from_front j r (inr l) = same thunk.lock 4 (node_in thunk) w.from fit.lock (omega arith) l.2 e

  whole_once : (i j p q r : ℕ) → WholeLoad thunk i p q → WholeLoad thunk j p r → i ≡ j
  whole_once i j p q r (inl x) (inl y) = front_once 0 3 i j p q r x y
  whole_once i j p q r (inl x) (inr (inl y)) = absurd (not_both 2 p (omega arith) i q x y.2)
  whole_once i j p q r (inl x) (inr (inr y)) = absurd (not_both 4 p (omega arith) i q x y.2)
  whole_once i j p q r (inr (inl x)) (inl y) = absurd (not_both 2 p (omega arith) j r y x.2)
  whole_once i j p q r (inr (inl x)) (inr (inl y)) = x.0 ∙ sym y.0
  whole_once i j p q r (inr (inl x)) (inr (inr y)) = absurd (let at = x.2 in let at' = y.2 in omega (arith, at, at'))
  whole_once i j p q r (inr (inr x)) (inl y) = absurd (not_both 4 p (omega arith) j r y x.2)
  whole_once i j p q r (inr (inr x)) (inr (inl y)) = absurd (let at = x.2 in let at' = y.2 in omega (arith, at, at'))
  whole_once i j p q r (inr (inr x)) (inr (inr y)) = x.0 ∙ sym y.0

  cell_not_front : (k : ℕ) → k < 5 → cell_of 0 (node_in thunk) k ≢ thunk.lock + 2
  cell_not_front k high e = not_both k (thunk.lock + 2) high 0 0 (inl (refl, refl, refl)) (sym e)

  outer_lock : is_lock_place thunk.lock ≡ true
  outer_lock = ap is_lock_place fit.lock ∙ lock_locked w.from

  outer_known : known thunk.lock
  outer_known = subst known (sym fit.lock) (cell_known w.from 0 reads.from (omega arith))

  look_is_shaped : form_of thunk ≡ Look → form_for op w.found ≡ 31 → Shaped list layout readings thunk
  look_is_shaped form number =
      let at = step_at Look form in
      let shape : IsShaped (list_steps thunk) = subst (λ f. IsShaped (body_of f thunk)) (sym form) (look_shaped thunk) in
      record {
        shape = shape;
        brief = brief_cost (list_steps thunk) shape (few_steps thunk (form_of thunk));
        outer_lock = outer_lock;
        outer_known = outer_known;
        take_lock = λ j l n h. absurd (look_take thunk j l n (at j _ h));
        take_known = λ j l n h. absurd (look_take thunk j l n (at j _ h));
        take_inner = λ j l n h. absurd (look_take thunk j l n (at j _ h));
        take_once = λ i j l v n h h'. absurd (look_take thunk i l v (at i _ h));
        take_read = λ j l n h. absurd (look_take thunk j l n (at j _ h));
        take_free = λ j l n h. absurd (look_take thunk j l n (at j _ h));
        take_unspent = λ j l n h. absurd (look_take thunk j l n (at j _ h));
        load_unlocked = λ j p r h. loaded_unlocked p (front_cell 0 2 j p r (look_load thunk j p r (at j _ h)));
        load_known = λ j p r h. loaded_known p (front_cell 0 2 j p r (look_load thunk j p r (at j _ h)));
        load_once = λ i j p q r h h'. front_once 0 2 i j p q r (look_load thunk i p q (at i _ h))
            (look_load thunk j p r (at j _ h'));
        store_once = λ i j r v n h h'. absurd (look_store thunk i r v (at i _ h));
        store_small = λ j r v h. absurd (look_store thunk j r v (at j _ h));
        make_whole = λ j r init h. absurd (look_make thunk j r init (at j _ h));
        make_small = λ j r i init v h. absurd (look_make thunk j r init (at j _ h));
        make_unlocked = λ j r i t init v h. absurd (look_make thunk j r init (at j _ h));
        answers = λ j n h. let is = look_answer thunk j n (at j _ h) ∙ number_at 3 (look_numbers op w w.found number) in
            let some = reply_some op w.value w.found in omega (arith, is, some);
      }

  insert_is_shaped : form_of thunk ≡ Insert → form_for op w.found ≡ 32 → Shaped list layout readings thunk
  insert_is_shaped form number =
      let at = step_at Insert form in
      let shape : IsShaped (list_steps thunk) = subst (λ f. IsShaped (body_of f thunk)) (sym form) (insert_shaped thunk) in
      let of = inserts op w w.found number in
      let key = key_low op w thunk fit allowed (reads.some (omega arith)) (cell_low w.from 4 reads.from (omega arith))
      (cell_low (node_of w) 4 node_from (omega arith)) of.key of.value 3 of.puts (number_at 3 of.numbers) in
      let value = value_low op w thunk fit allowed (reads.some (omega arith)) (cell_low w.from 4 reads.from (omega arith))
      (cell_low (node_of w) 4 node_from (omega arith)) of.key of.value 4 of.puts (number_at 4 of.numbers) in
      record {
        shape = shape;
        brief = brief_cost (list_steps thunk) shape (few_steps thunk (form_of thunk));
        outer_lock = outer_lock;
        outer_known = outer_known;
        take_lock = λ j l n h. absurd (insert_take thunk j l n (at j _ h));
        take_known = λ j l n h. absurd (insert_take thunk j l n (at j _ h));
        take_inner = λ j l n h. absurd (insert_take thunk j l n (at j _ h));
        take_once = λ i j l v n h h'. absurd (insert_take thunk i l v (at i _ h));
        take_read = λ j l n h. absurd (insert_take thunk j l n (at j _ h));
        take_free = λ j l n h. absurd (insert_take thunk j l n (at j _ h));
        take_unspent = λ j l n h. absurd (insert_take thunk j l n (at j _ h));
        load_unlocked = λ j p r h. loaded_unlocked p (front_cell 0 3 j p r (insert_load thunk j p r (at j _ h)));
        load_known = λ j p r h. loaded_known p (front_cell 0 3 j p r (insert_load thunk j p r (at j _ h)));
        load_once = λ i j p q r h h'. front_once 0 3 i j p q r (insert_load thunk i p q (at i _ h))
            (insert_load thunk j p r (at j _ h'));
        store_once = λ i j r v n h h'. (insert_store thunk i r v (at i _ h)).0 ∙ sym (insert_store thunk j r n (at j _ h')).0;
        store_small = λ j r v h. subst IsSmall (sym (insert_store thunk j r v (at j _ h)).2) tt;
        make_whole = λ j r init h. ap (λ (init : Init). length init.cells) (insert_make thunk j r init (at j _ h)).2;
        make_small = λ j r i init v h cell. five_small (Const (operand thunk 3))
            (Const (value_of (operand thunk 1))) (Const (operand thunk 4)) key (value_small (operand thunk 1)) value i v
            (subst (λ (init : Init). slice_get init.cells i ≡ Some v) (insert_make thunk j r init (at j _ h)).2 cell);
        make_unlocked = λ j r i t init v h cell. five_unlocked (Const (operand thunk 3))
            (Const (value_of (operand thunk 1))) (Const (operand thunk 4)) i t v
            (subst (λ (init : Init). slice_get init.cells i ≡ Some v) (insert_make thunk j r init (at j _ h)).2 cell);
        answers = λ j n h. let is = insert_answer thunk j n (at j _ h) in omega (arith, is);
      }

  -- a form that takes the node out: its Take
  module _ (takes : (takes_out op && w.found) ≡ true) (lock : operand thunk 3 ≡ w.node_lock) where
    abbrev IsTake : ℕ → ℕ → ℕ → Type 0
    IsTake j l n = (j ≡ 5) × (l ≡ lock_of (node_in thunk)) × (n ≡ operand thunk 3)

    ready : (is_free w.node_lock ≡ true) × (not (is_spent layout.version_max w.node_lock) ≡ true)
    ready = both_true _ _ (reads.node_lock_ready (omega arith) takes)

    took_lock : (j l n : ℕ) → IsTake j l n → is_lock_place l ≡ true
    took_lock j l n is = ap is_lock_place is.1 ∙ lock_locked (node_in thunk)

    took_known : (j l n : ℕ) → IsTake j l n → known l
    took_known j l n is = subst known (sym (is.1 ∙ ap lock_of fit.node)) (cell_known (node_of w) 0 node_from (omega arith))

    took_inner : (j l n : ℕ) → IsTake j l n → l ≢ thunk.lock
    took_inner j l n is e = apart (let at = is.1 ∙ ap lock_of fit.node in let outer = fit.lock in
        let z : node_of w ≡ w.from = omega (arith, at, outer, e) in z)

    took_read : (j l n : ℕ) → IsTake j l n → (i : ℕ) × (slice_get readings i ≡ Some (l, n))
    took_read j l n is = let read = reads.node_lock_read (omega arith) takes in (
      read.0,
      subst (λ n. slice_get readings read.0 ≡ Some (l, n)) (sym (is.2 ∙ lock))
          (subst (λ l. slice_get readings read.0 ≡ Some (l, w.node_lock)) (sym (is.1 ∙ ap lock_of fit.node)) read.1),
    )

    took_free : (j l n : ℕ) → IsTake j l n → is_free n ≡ true
    took_free j l n is = ap is_free (is.2 ∙ lock) ∙ ready.0

    took_unspent : (j l n : ℕ) → IsTake j l n → is_spent layout.version_max n ≡ false
    took_unspent j l n is = ap (is_spent layout.version_max) (is.2 ∙ lock)
        ∙ negated (is_spent layout.version_max w.node_lock) ready.1

  remove_is_shaped : form_of thunk ≡ Remove → form_for op w.found ≡ 33 → Shaped list layout readings thunk
  remove_is_shaped form number =
      let at = step_at Remove form in
      let shape : IsShaped (list_steps thunk) = subst (λ f. IsShaped (body_of f thunk)) (sym form)
      (remove_shaped thunk (cell_not_front 4 (omega arith))) in
      let takes = (takes_both op w.found (inl number)).1 in
      let lock = number_at 3 (removes op w w.found number).numbers in
      record {
        shape = shape;
        brief = brief_cost (list_steps thunk) shape (few_steps thunk (form_of thunk));
        outer_lock = outer_lock;
        outer_known = outer_known;
        take_lock = λ j l n h. took_lock takes lock j l n (remove_take thunk j l n (at j _ h));
        take_known = λ j l n h. took_known takes lock j l n (remove_take thunk j l n (at j _ h));
        take_inner = λ j l n h. took_inner takes lock j l n (remove_take thunk j l n (at j _ h));
        take_once = λ i j l v n h h'. (remove_take thunk i l v (at i _ h)).0 ∙ sym (remove_take thunk j l n (at j _ h')).0;
        take_read = λ j l n h. took_read takes lock j l n (remove_take thunk j l n (at j _ h));
        take_free = λ j l n h. took_free takes lock j l n (remove_take thunk j l n (at j _ h));
        take_unspent = λ j l n h. took_unspent takes lock j l n (remove_take thunk j l n (at j _ h));
        load_unlocked = λ j p r h. loaded_unlocked p (whole_cell j p r (remove_load thunk j p r (at j _ h)));
        load_known = λ j p r h. loaded_known p (whole_cell j p r (remove_load thunk j p r (at j _ h)));
        load_once = λ i j p q r h h'. whole_once i j p q r (remove_load thunk i p q (at i _ h))
            (remove_load thunk j p r (at j _ h'));
        store_once = λ i j r v n h h'. stores i j r v n (remove_store thunk i r v (at i _ h))
            (remove_store thunk j r n (at j _ h'));
        store_small = λ j r v h. small j r v (remove_store thunk j r v (at j _ h));
        make_whole = λ j r init h. absurd (remove_make thunk j r init (at j _ h));
        make_small = λ j r i init v h. absurd (remove_make thunk j r init (at j _ h));
        make_unlocked = λ j r i t init v h. absurd (remove_make thunk j r init (at j _ h));
        answers = λ j n h. let is = remove_answer thunk j n (at j _ h) in omega (arith, is);
      }
    where
      stores : (i j r : ℕ) (v n : Value) → RemoveStore thunk i r v → RemoveStore thunk j r n → i ≡ j
      stores i j r v n (inl a) (inl b) = a.0 ∙ sym b.0
      stores i j r v n (inl a) (inr b) = absurd (let x = a.1 in let y = b.1 in omega (arith, x, y))
      stores i j r v n (inr a) (inl b) = absurd (let x = a.1 in let y = b.1 in omega (arith, x, y))
      stores i j r v n (inr a) (inr b) = a.0 ∙ sym b.0

      small : (j r : ℕ) (v : Value) → RemoveStore thunk j r v → IsSmall v
      small j r v (inl a) = subst IsSmall (sym a.2) (omega arith)
      small j r v (inr b) = subst IsSmall (sym b.2) tt

  replace_is_shaped : form_of thunk ≡ Replace → form_for op w.found ≡ 34 → Shaped list layout readings thunk
  replace_is_shaped form number =
      let at = step_at Replace form in
      let shape : IsShaped (list_steps thunk) = subst (λ f. IsShaped (body_of f thunk)) (sym form)
      (replace_shaped thunk (cell_not_front 4 (omega arith)) (cell_not_front 2 (omega arith))) in
      let takes = (takes_both op w.found (inr number)).1 in
      let of = replaces op w w.found number in
      let lock = number_at 3 of.numbers in
      let puts = put_puts op of.key of.value of.put in
      let key = key_low op w thunk fit allowed (reads.some (omega arith)) (cell_low w.from 4 reads.from (omega arith))
      (cell_low (node_of w) 4 node_from (omega arith)) of.key of.value 5 puts (number_at 5 of.numbers) in
      let value = value_low op w thunk fit allowed (reads.some (omega arith)) (cell_low w.from 4 reads.from (omega arith))
      (cell_low (node_of w) 4 node_from (omega arith)) of.key of.value 6 puts (number_at 6 of.numbers) in
      record {
        shape = shape;
        brief = brief_cost (list_steps thunk) shape (few_steps thunk (form_of thunk));
        outer_lock = outer_lock;
        outer_known = outer_known;
        take_lock = λ j l n h. took_lock takes lock j l n (replace_take thunk j l n (at j _ h));
        take_known = λ j l n h. took_known takes lock j l n (replace_take thunk j l n (at j _ h));
        take_inner = λ j l n h. took_inner takes lock j l n (replace_take thunk j l n (at j _ h));
        take_once = λ i j l v n h h'. (replace_take thunk i l v (at i _ h)).0
            ∙ sym (replace_take thunk j l n (at j _ h')).0;
        take_read = λ j l n h. took_read takes lock j l n (replace_take thunk j l n (at j _ h));
        take_free = λ j l n h. took_free takes lock j l n (replace_take thunk j l n (at j _ h));
        take_unspent = λ j l n h. took_unspent takes lock j l n (replace_take thunk j l n (at j _ h));
        load_unlocked = λ j p r h. loaded_unlocked p (whole_cell j p r (replace_load thunk j p r (at j _ h)));
        load_known = λ j p r h. loaded_known p (whole_cell j p r (replace_load thunk j p r (at j _ h)));
        load_once = λ i j p q r h h'. whole_once i j p q r (replace_load thunk i p q (at i _ h))
            (replace_load thunk j p r (at j _ h'));
        store_once = λ i j r v n h h'. stores i j r v n (replace_store thunk i r v (at i _ h))
            (replace_store thunk j r n (at j _ h'));
        store_small = λ j r v h. small j r v (replace_store thunk j r v (at j _ h));
        make_whole = λ j r init h. ap (λ (init : Init). length init.cells) (replace_make thunk j r init (at j _ h)).2;
        make_small = λ j r i init v h cell. five_small (Const (operand thunk 5)) (Of 2)
            (Const (operand thunk 6)) key tt value i v
            (subst (λ (init : Init). slice_get init.cells i ≡ Some v) (replace_make thunk j r init (at j _ h)).2 cell);
        make_unlocked = λ j r i t init v h cell. five_unlocked (Const (operand thunk 5)) (Of 2)
            (Const (operand thunk 6)) i t v
            (subst (λ (init : Init). slice_get init.cells i ≡ Some v) (replace_make thunk j r init (at j _ h)).2 cell);
        answers = λ j n h. let is = replace_answer thunk j n (at j _ h) ∙ number_at 7 of.numbers in
            positive n w.value is;
      }
    where
      positive : (n v : ℕ) → n ≡ 6 * 2 ^ 32 + v → 0 < n
      positive n v e = omega (arith, e)

      stores : (i j r : ℕ) (v n : Value) → ReplaceStore thunk i r v → ReplaceStore thunk j r n → i ≡ j
      stores i j r v n (inl a) (inl b) = a.0 ∙ sym b.0
      stores i j r v n (inl a) (inr (inl b)) = absurd (let x = a.1 in let y = b.1 in omega (arith, x, y))
      stores i j r v n (inl a) (inr (inr b)) = absurd (let x = a.1 in let y = b.1 in omega (arith, x, y))
      stores i j r v n (inr (inl a)) (inl b) = absurd (let x = a.1 in let y = b.1 in omega (arith, x, y))
      stores i j r v n (inr (inl a)) (inr (inl b)) = a.0 ∙ sym b.0
      stores i j r v n (inr (inl a)) (inr (inr b)) = absurd (let x = a.1 in let y = b.1 in omega (arith, x, y))
      stores i j r v n (inr (inr a)) (inl b) = absurd (let x = a.1 in let y = b.1 in omega (arith, x, y))
      stores i j r v n (inr (inr a)) (inr (inl b)) = absurd (let x = a.1 in let y = b.1 in omega (arith, x, y))
      stores i j r v n (inr (inr a)) (inr (inr b)) = a.0 ∙ sym b.0

      small : (j r : ℕ) (v : Value) → ReplaceStore thunk j r v → IsSmall v
      small j r v (inl a) = subst IsSmall (sym a.2) (omega arith)
      small j r v (inr (inl b)) = subst IsSmall (sym b.2) tt
      small j r v (inr (inr c)) = subst IsSmall (sym c.2) tt

  pub list_shaped : Shaped list layout readings thunk
  list_shaped = by (kind op w thunk fit allowed (reads.some (omega arith)) (cell_low w.from 4 reads.from (omega arith))
      (cell_low (node_of w) 4 node_from (omega arith)))
    where
      by : Kind op w thunk → Shaped list layout readings thunk
      by (Looks form number) = look_is_shaped form number
      by (Inserts_it form number) = insert_is_shaped form number
      by (Removes_it form number) = remove_is_shaped form number
      by (Replaces_it form number) = replace_is_shaped form number
