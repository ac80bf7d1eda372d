-- What a body wants was read, and only operations that add a pair, or put one in the place of another, make nodes.
use Rattle.std.proofs.Common.{◌≡◌, ℕ, suc, ◌+◌, true, inl, inr, refl, sym, ap, ◌∙◌, subst, arith}
use Rattle.std.specs.Prelude.{◌&&◌, Some, List, slice_get, slice_index}
use Rattle.structure_laws.specs.map_history.specs.declared.op.Op.{Op}
use Rattle.bucket_laws.specs.bucket_bodies.specs.section_body.specs.Bucket.{operand}
use Rattle.structure_laws.specs.body_terms.specs.declared.value.Init.{Init}
use Rattle.structure_laws.specs.body_terms.specs.declared.step.Step.TheVariants.{Load, Want, Make, Answer}
use Rattle.structure_laws.specs.body_terms.specs.declared.thunk.Thunk.{Thunk}
use Rattle.structure_laws.specs.Scene.{Readings}
use Rattle.structure_laws.specs.Planner.{Adds}
use Rattle.bucket_laws.specs.Walk.{Bounds}
use Rattle.node_laws.proofs.Forms.{new_adds}
use Rattle.list_bodies.specs.List.{lock_of, next_of, mark_of, Form, Look, Insert, Remove, Replace, Empty}
use Rattle.list_bodies.specs.List.{form_of, body_of, list_steps}
use Rattle.list_laws.specs.Walk.{Walk, start, node_of, takes_out, operands_for, fits_walk, walk}
use Rattle.list_laws.proofs.Fit.{IsFit, fit_of, numbers_of, inserts, removes, replaces, takes_both}
use Rattle.list_laws.proofs.Forms.{look_load, insert_load, remove_load, replace_load}
use Rattle.list_laws.proofs.Forms.{look_want, insert_want, remove_want, replace_want}
use Rattle.list_laws.proofs.Forms.{FrontLoad, FrontWant, WholeLoad, WholeWant}
use Rattle.list_laws.proofs.Forms.{look_make, remove_make, insert_answer, replace_answer}
use Rattle.list_laws.proofs.WalkReads.{IsAmong, HasRead, walk_reads, end_reads}

module _ (b : Bounds) (op : Op) (readings : Readings) (thunk : Thunk)
    (fits : fits_walk op (walk b op start readings) thunk ≡ true) where
  abbrev w : Walk
  w = walk b op start readings

  fit : IsFit op w thunk
  fit = fit_of op w thunk fits

  reads : HasRead readings b op w 7
  reads = end_reads readings b op w fit.stage (walk_reads readings b op)

  abbrev Among : ℕ → ℕ → Type 0
  Among = IsAmong readings

  moved : (p n q m : ℕ) → p ≡ q → n ≡ m → Among q m → Among p n
  moved p n q m e e' among = subst (λ p. Among p n) (sym e) (subst (Among q) (sym e') among)

  number_at : (k : ℕ) {numbers : List ℕ} → operands_for op w w.found ≡ numbers → operand thunk k ≡ slice_index numbers k
  number_at k e = ap (λ numbers. slice_index numbers k) (fit.operands ∙ e)

  next_at : (lock t : ℕ) → lock ≡ lock_of t → lock + 2 ≡ next_of t
  next_at lock t e = omega (arith, e)

  mark_at : (lock t : ℕ) → lock ≡ lock_of t → lock + 4 ≡ mark_of t
  mark_at lock t e = omega (arith, e)

  link_read : (p n : ℕ) → p ≡ thunk.lock + 2 → n ≡ operand thunk 1 → Among p n
  link_read p n e e' = moved p n (next_of w.from) w.link (e ∙ next_at thunk.lock w.from fit.lock) (e' ∙ fit.link)
      (reads.link_read (omega arith))

  mark_read : (p n : ℕ) → p ≡ thunk.lock + 4 → n ≡ operand thunk 2 → Among p n
  mark_read p n e e' = moved p n (mark_of w.from) w.mark (e ∙ mark_at thunk.lock w.from fit.lock) (e' ∙ fit.mark)
      (reads.mark_read (omega arith))

  -- of a Load and a Want of one register, whose places in the body are these
  front_pair : (i j p r n a b c d : ℕ) → FrontLoad thunk a b i p r → FrontWant thunk c d j r n → Among p n
  front_pair i j p r n a b c d (inl l) (inl h) = link_read p n l.2 h.2
  front_pair i j p r n a b c d (inl l) (inr h) = absurd (let x = l.1 in let y = h.1 in omega (arith, x, y))
  front_pair i j p r n a b c d (inr l) (inl h) = absurd (let x = l.1 in let y = h.1 in omega (arith, x, y))
  front_pair i j p r n a b c d (inr l) (inr h) = mark_read p n l.2 h.2

  front_node : (i p r a b : ℕ) → FrontLoad thunk a b i p r → r ≡ 3 → ⊥
  front_node i p r a b (inl l) h = let x = l.1 in omega (arith, x, h)
  front_node i p r a b (inr l) h = let x = l.1 in omega (arith, x, h)

  front_wanted : (j r n a b k : ℕ) → FrontWant thunk a b j r n → r ≡ suc (suc k) → ⊥
  front_wanted j r n a b k (inl l) h = let x = l.1 in omega (arith, x, h)
  front_wanted j r n a b k (inr l) h = let x = l.1 in omega (arith, x, h)

  whole_pair : operand thunk 4 ≡ w.node_mark → (takes_out op && w.found) ≡ true → (i j p r n : ℕ)
      → WholeLoad thunk i p r → WholeWant thunk j r n → Among p n
  whole_pair mark takes i j p r n (inl l) (inl h) = front_pair i j p r n 0 3 1 4 l h
  whole_pair mark takes i j p r n (inl l) (inr h) = absurd (front_node i p r 0 3 l h.1)
  whole_pair mark takes i j p r n (inr (inl l)) (inl h) = absurd (front_wanted j r n 1 4 0 h l.1)
  whole_pair mark takes i j p r n (inr (inl l)) (inr h) = absurd (let x = l.1 in let y = h.1 in omega (arith, x, y))
  whole_pair mark takes i j p r n (inr (inr l)) (inl h) = absurd (front_wanted j r n 1 4 1 h l.1)
  whole_pair mark takes i j p r n (inr (inr l)) (inr h) = moved p n (mark_of (node_of w)) w.node_mark
      (l.2 ∙ ap mark_of fit.node) (h.2 ∙ mark) (reads.node_mark_read (omega arith) takes)

  abbrev Pairs : Form → Type 0
  Pairs f = (i j p r n : ℕ) → slice_get (body_of f thunk) i ≡ Some (Load p r)
      → slice_get (body_of f thunk) j ≡ Some (Want r n) → Among p n

  reads_in : (f : Form) → form_of thunk ≡ f → Pairs f
  reads_in Look e i j p r n load want = front_pair i j p r n 0 2 1 3 (look_load thunk i p r load)
      (look_want thunk j r n want)
  reads_in Insert e i j p r n load want = front_pair i j p r n 0 3 1 4 (insert_load thunk i p r load)
      (insert_want thunk j r n want)
  reads_in Remove e i j p r n load want =
      let form = sym fit.form ∙ (numbers_of thunk).remove e in
      whole_pair (number_at 4 (removes op w w.found form).numbers) (takes_both op w.found (inl form)).1 i j p r n
      (remove_load thunk i p r load) (remove_want thunk j r n want)
  reads_in Replace e i j p r n load want =
      let form = sym fit.form ∙ (numbers_of thunk).replace e in
      whole_pair (number_at 4 (replaces op w w.found form).numbers) (takes_both op w.found (inr form)).1 i j p r n
      (replace_load thunk i p r load) (replace_want thunk j r n want)
  reads_in Empty e i j p r n load want = absurd (let z = load in cc)

  pub wants_read : (i j p r n : ℕ) → slice_get (list_steps thunk) i ≡ Some (Load p r)
      → slice_get (list_steps thunk) j ≡ Some (Want r n) → Among p n
  wants_read = reads_in (form_of thunk) refl

  adds_in : (f : Form) → form_of thunk ≡ f → (i j r reply : ℕ) (init : Init)
      → slice_get (body_of f thunk) i ≡ Some (Make init r) → slice_get (body_of f thunk) j ≡ Some (Answer reply)
      → Adds op reply
  adds_in Look e i j r reply init make answer = absurd (look_make thunk i r init make)
  adds_in Insert e i j r reply init make answer =
      let is = inserts op w w.found (sym fit.form ∙ (numbers_of thunk).insert e) in
      new_adds op is.value reply is.puts.1 (insert_answer thunk j reply answer)
  adds_in Remove e i j r reply init make answer = absurd (remove_make thunk i r init make)
  adds_in Replace e i j r reply init make answer =
      let is = replaces op w w.found (sym fit.form ∙ (numbers_of thunk).replace e) in
      subst (λ op. Adds op reply) (sym is.put)
      (inr (w.value, reads.value_low, replace_answer thunk j reply answer ∙ number_at 7 is.numbers))
  adds_in Empty e i j r reply init make answer = absurd (cc)

  pub makes_add : (i j r reply : ℕ) (init : Init) → slice_get (list_steps thunk) i ≡ Some (Make init r)
      → slice_get (list_steps thunk) j ≡ Some (Answer reply) → Adds op reply
  makes_add i j r reply init make answer = adds_in (form_of thunk) refl i j r reply init make answer
