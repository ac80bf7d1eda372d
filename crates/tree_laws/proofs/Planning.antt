-- What a body wants was read, and only operations that add a pair, or put one in the place of another, make nodes.
use Rattle.std.proofs.Common.{◌≡◌, ℕ, ◌+◌, true, false, cond, inl, inr, refl, sym, ap, ◌∙◌, subst, arith}
use Rattle.std.specs.Prelude.{◌⊎◌, ◌&&◌, Some, List, slice_get, slice_index}
use Rattle.structure_laws.specs.map_history.specs.declared.op.Op.{Op}
use Rattle.structure_laws.specs.map_history.specs.declared.op.Op.TheVariants.{Del}
use Rattle.bucket_laws.specs.bucket_bodies.specs.section_body.specs.Bucket.{operand}
use Rattle.structure_laws.specs.body_terms.specs.declared.value.Init.{Init}
use Rattle.structure_laws.specs.body_terms.specs.declared.step.Step.TheVariants.{Load, Want, Make, Answer}
use Rattle.structure_laws.specs.body_terms.specs.declared.thunk.Thunk.{Thunk}
use Rattle.structure_laws.specs.Scene.{Readings}
use Rattle.structure_laws.specs.Planner.{Adds}
use Rattle.bucket_laws.specs.Walk.{Bounds, is_del}
use Rattle.node_laws.proofs.Forms.{new_adds}
use Rattle.tree_bodies.specs.Tree.{lock_of, mark_of, slot_in, Form, Look, Insert, Delete, Replace, Empty, form_of}
use Rattle.tree_bodies.specs.Tree.{body_of}
use Rattle.tree_bodies.specs.Tree.{tree_steps, parent_in, sibling_of}
use Rattle.tree_laws.specs.Walk.{Walk, start, step_place, operands_for, delete_operands, form_for, lock_for, fits_walk}
use Rattle.tree_laws.specs.Walk.{walk}
use Rattle.tree_laws.proofs.Fit.{IsFit, fit_of, look_numbers, numbers_of, inserts, deletes, replaces}
use Rattle.tree_laws.proofs.Fit.{look_outer, insert_outer, replace_outer}
use Rattle.tree_laws.proofs.Forms.{look_load, insert_load, delete_load, replace_load}
use Rattle.tree_laws.proofs.Forms.{look_want, insert_want, delete_want, replace_want}
use Rattle.tree_laws.proofs.Forms.{look_make, delete_make, insert_answer, replace_answer}
use Rattle.tree_laws.proofs.WalkReads.{is_past, is_late, is_marked, IsAmong, Reads, walk_reads}

module _ (b : Bounds) (op : Op) (readings : Readings) (thunk : Thunk) (fits : fits_walk op (walk b op start readings) thunk ≡ true) where
  abbrev w : Walk
  w = walk b op start readings

  fit : IsFit op w thunk
  fit = fit_of op w thunk fits

  reads : Reads readings b op w
  reads = walk_reads readings b op

  past : is_past w.stage ≡ true
  past = ap is_past fit.stage

  abbrev Among : ℕ → ℕ → Type 0
  Among = IsAmong readings

  moved : (p n q m : ℕ) → p ≡ q → n ≡ m → Among q m → Among p n
  moved p n q m e e' among = subst (λ p. Among p n) (sym e) (subst (Among q) (sym e') among)

  number_at : (k : ℕ) {numbers : List ℕ} → operands_for op w w.found ≡ numbers → operand thunk k ≡ slice_index numbers k
  number_at k e = ap (λ numbers. slice_index numbers k) (fit.operands ∙ e)

  mark_at : (slot : ℕ) → thunk.lock ≡ lock_of slot → thunk.lock + 4 ≡ mark_of slot
  mark_at slot e = omega arith

  outer_lock : (is_del op && w.found) ≡ false → thunk.lock ≡ lock_of w.last.from
  outer_lock stays = fit.lock ∙ ap (λ c. cond c (lock_of w.grand.from) (lock_of w.last.from)) stays

  -- both words that the forms 11, 12 and 14 want
  module _ (link : operand thunk 0 ≡ step_place w.last) (word : operand thunk 1 ≡ w.last.word) (mark : operand thunk 2 ≡ w.mark) (lock : thunk.lock ≡ lock_of w.last.from) where
    link_read : (p n : ℕ) → p ≡ operand thunk 0 → n ≡ operand thunk 1 → Among p n
    link_read p n e e' = moved p n (step_place w.last) w.last.word (e ∙ link) (e' ∙ word) (reads.last_read past)

    mark_read : (p n : ℕ) → p ≡ thunk.lock + 4 → n ≡ operand thunk 2 → Among p n
    mark_read p n e e' = moved p n (mark_of w.last.from) w.mark (e ∙ mark_at w.last.from lock) (e' ∙ mark) (reads.mark_read fit.stage)

    -- of a Load and a Want of one register, whose places in the body are these
    plain_pair : (i j p r n a b c d : ℕ)
        → ((i ≡ a) × (r ≡ 0) × (p ≡ operand thunk 0)) ⊎ ((i ≡ b) × (r ≡ 1) × (p ≡ thunk.lock + 4))
        → ((j ≡ c) × (r ≡ 0) × (n ≡ operand thunk 1)) ⊎ ((j ≡ d) × (r ≡ 1) × (n ≡ operand thunk 2)) → Among p n
    plain_pair i j p r n a b c d (inl l) (inl h) = link_read p n l.2 h.2
    plain_pair i j p r n a b c d (inl l) (inr h) = absurd (let x = l.1 in let y = h.1 in omega (arith, x, y))
    plain_pair i j p r n a b c d (inr l) (inl h) = absurd (let x = l.1 in let y = h.1 in omega (arith, x, y))
    plain_pair i j p r n a b c d (inr l) (inr h) = mark_read p n l.2 h.2

  abbrev Pairs : Form → Type 0
  Pairs f = (i j p r n : ℕ) → slice_get (body_of f thunk) i ≡ Some (Load p r)
      → slice_get (body_of f thunk) j ≡ Some (Want r n) → Among p n

  look_reads : form_for op w.found ≡ 11 → Pairs Look
  look_reads form i j p r n load want =
      let numbers = look_numbers op w w.found form in
      plain_pair (number_at 0 numbers) (number_at 1 numbers) (number_at 2 numbers) (outer_lock
      (look_outer op w.found form))
      i j p r n 0 2 1 3 (look_load thunk i p r load) (look_want thunk j r n want)

  insert_reads : form_for op w.found ≡ 12 → Pairs Insert
  insert_reads form i j p r n load want =
      let numbers = (inserts op w w.found form).numbers in
      plain_pair (number_at 0 numbers) (number_at 1 numbers) (number_at 2 numbers) (outer_lock
      (insert_outer op w.found form))
      i j p r n 0 3 1 4 (insert_load thunk i p r load) (insert_want thunk j r n want)

  replace_reads : form_for op w.found ≡ 14 → Pairs Replace
  replace_reads form i j p r n load want =
      let numbers = (replaces op w w.found form).numbers in
      plain_pair (number_at 0 numbers) (number_at 1 numbers) (number_at 2 numbers) (outer_lock
      (replace_outer op w.found form))
      i j p r n 0 3 1 4 (replace_load thunk i p r load) (replace_want thunk j r n want)

  module _ (form : form_for op w.found ≡ 13) where
    removes : (key : ℕ) × (op ≡ Del key) × (w.found ≡ true)
    removes = deletes op w.found form

    numbers : operands_for op w w.found ≡ delete_operands w
    numbers = ap (λ op. operands_for op w w.found) removes.1 ∙ ap (operands_for (Del removes.0) w) removes.2

    is_removal : is_del op ≡ true
    is_removal = ap is_del removes.1

    deep : w.deep ≡ true
    deep = reads.deep (ap is_late fit.stage) is_removal removes.2

    lock : thunk.lock ≡ lock_of w.grand.from
    lock = fit.lock ∙ ap (λ op. lock_for op w w.found) removes.1 ∙ ap (λ found. lock_for (Del removes.0) w found) removes.2

    parent_is : parent_in thunk ≡ w.last.from
    parent_is = ap slot_in (number_at 1 numbers) ∙ sym (reads.joined past deep)

    -- of a Load and a Want of one register
    delete_pair : (i j p r n : ℕ) → ((i ≡ 0) × (r ≡ 0) × (p ≡ operand thunk 0)) ⊎ ((i ≡ 3) × (r ≡ 1) × (p ≡ thunk.lock + 4)) ⊎ ((i ≡ 6) × (r ≡ 2) × (p ≡ operand thunk 4)) ⊎ ((i ≡ 8) × (r ≡ 3) × (p ≡ sibling_of thunk)) ⊎ ((i ≡ 9) × (r ≡ 4) × (p ≡ mark_of (parent_in thunk)))
        → ((j ≡ 1) × (r ≡ 0) × (n ≡ operand thunk 1)) ⊎ ((j ≡ 4) × (r ≡ 1) × (n ≡ operand thunk 2)) ⊎ ((j ≡ 7) × (r ≡ 2) × (n ≡ operand thunk 5)) ⊎ ((j ≡ 10) × (r ≡ 4) × (n ≡ operand thunk 6)) → Among p n
    delete_pair i j p r n (inl l) (inl a) = moved p n (step_place w.grand) w.grand.word (l.2 ∙ number_at 0 numbers) (a.2 ∙ number_at 1 numbers) (reads.grand_read past deep)
    delete_pair i j p r n (inl l) (inr (inl a)) = absurd (let x = l.1 in let y = a.1 in omega arith)
    delete_pair i j p r n (inl l) (inr (inr (inl a))) = absurd (let x = l.1 in let y = a.1 in omega arith)
    delete_pair i j p r n (inl l) (inr (inr (inr a))) = absurd (let x = l.1 in let y = a.1 in omega arith)
    delete_pair i j p r n (inr (inl l)) (inl a) = absurd (let x = l.1 in let y = a.1 in omega arith)
    delete_pair i j p r n (inr (inl l)) (inr (inl a)) = moved p n (mark_of w.grand.from) w.grand_mark (l.2 ∙ mark_at w.grand.from lock) (a.2 ∙ number_at 2 numbers) (reads.grand_mark_read (ap is_marked fit.stage) is_removal removes.2)
    delete_pair i j p r n (inr (inl l)) (inr (inr (inl a))) = absurd (let x = l.1 in let y = a.1 in omega arith)
    delete_pair i j p r n (inr (inl l)) (inr (inr (inr a))) = absurd (let x = l.1 in let y = a.1 in omega arith)
    delete_pair i j p r n (inr (inr (inl l))) (inl a) = absurd (let x = l.1 in let y = a.1 in omega arith)
    delete_pair i j p r n (inr (inr (inl l))) (inr (inl a)) = absurd (let x = l.1 in let y = a.1 in omega arith)
    delete_pair i j p r n (inr (inr (inl l))) (inr (inr (inl a))) = moved p n (step_place w.last) w.last.word (l.2 ∙ number_at 4 numbers) (a.2 ∙ number_at 5 numbers) (reads.last_read past)
    delete_pair i j p r n (inr (inr (inl l))) (inr (inr (inr a))) = absurd (let x = l.1 in let y = a.1 in omega arith)
    delete_pair i j p r n (inr (inr (inr (inl l)))) (inl a) = absurd (let x = l.1 in let y = a.1 in omega arith)
    delete_pair i j p r n (inr (inr (inr (inl l)))) (inr (inl a)) = absurd (let x = l.1 in let y = a.1 in omega arith)
    delete_pair i j p r n (inr (inr (inr (inl l)))) (inr (inr (inl a))) = absurd (let x = l.1 in let y = a.1 in omega arith)
    delete_pair i j p r n (inr (inr (inr (inl l)))) (inr (inr (inr a))) = absurd (let x = l.1 in let y = a.1 in omega arith)
    delete_pair i j p r n (inr (inr (inr (inr l)))) (inl a) = absurd (let x = l.1 in let y = a.1 in omega arith)
    delete_pair i j p r n (inr (inr (inr (inr l)))) (inr (inl a)) = absurd (let x = l.1 in let y = a.1 in omega arith)
    delete_pair i j p r n (inr (inr (inr (inr l)))) (inr (inr (inl a))) = absurd (let x = l.1 in let y = a.1 in omega arith)
    delete_pair i j p r n (inr (inr (inr (inr l)))) (inr (inr (inr a))) = moved p n (mark_of w.last.from) w.mark (l.2 ∙ ap mark_of parent_is) (a.2 ∙ number_at 6 numbers) (reads.mark_read fit.stage)

    delete_reads : (i j p r n : ℕ) → slice_get (body_of Delete thunk) i ≡ Some (Load p r) → slice_get (body_of Delete thunk) j ≡ Some (Want r n) → Among p n
    delete_reads i j p r n load want = delete_pair i j p r n (delete_load thunk i p r load) (delete_want thunk j r n want)

  reads_in : (f : Form) → form_of thunk ≡ f → Pairs f
  reads_in Look e = look_reads (sym fit.form ∙ (numbers_of thunk).look e)
  reads_in Insert e = insert_reads (sym fit.form ∙ (numbers_of thunk).insert e)
  reads_in Delete e = delete_reads (sym fit.form ∙ (numbers_of thunk).remove e)
  reads_in Replace e = replace_reads (sym fit.form ∙ (numbers_of thunk).replace e)
  reads_in Empty e = λ i j p r n load want. absurd (let z = load in cc)

  pub wants_read : (i j p r n : ℕ) → slice_get (tree_steps thunk) i ≡ Some (Load p r) → slice_get (tree_steps thunk) j ≡ Some (Want r n) → Among p n
  wants_read = reads_in (form_of thunk) refl

  adds_in : (f : Form) → form_of thunk ≡ f → (i j r reply : ℕ) (init : Init) → slice_get (body_of f thunk) i ≡ Some (Make init r) → slice_get (body_of f thunk) j ≡ Some (Answer reply) → Adds op reply
  adds_in Look e i j r reply init make answer = absurd (look_make thunk i r init make)
  adds_in Insert e i j r reply init make answer =
      let is = inserts op w w.found (sym fit.form ∙ (numbers_of thunk).insert e) in
      new_adds op is.value reply is.puts.1 (insert_answer thunk j reply answer)
  adds_in Delete e i j r reply init make answer = absurd (delete_make thunk i r init make)
  adds_in Replace e i j r reply init make answer =
      let is = replaces op w w.found (sym fit.form ∙ (numbers_of thunk).replace e) in
      subst (λ op. Adds op reply) (sym is.put)
      (inr (w.value, reads.value_low, replace_answer thunk j reply answer ∙ number_at 5 is.numbers))
  adds_in Empty e i j r reply init make answer = absurd (cc)

  pub makes_add : (i j r reply : ℕ) (init : Init) → slice_get (tree_steps thunk) i ≡ Some (Make init r) → slice_get (tree_steps thunk) j ≡ Some (Answer reply) → Adds op reply
  makes_add i j r reply init make answer = adds_in (form_of thunk) refl i j r reply init make answer
