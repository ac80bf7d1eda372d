-- A thunk that fits a walk has one of the four forms, where the cells of the walk's nodes have places.
use Rattle.std.specs.Prelude.{◌^◌, true, List, slice_index}
use Rattle.std.proofs.Common.{◌≡◌, ℕ, ◌+◌, ◌<◌, refl, sym, ap, ◌∙◌, subst, inl, ⊎_elim, arith}
use Rattle.structure_laws.specs.table_words.specs.small_lemmas.proofs.Bools.{both_hold}
use Rattle.structure_laws.specs.table_words.specs.small_lemmas.proofs.Numbers.{less_tested}
use Rattle.structure_laws.specs.map_history.specs.declared.op.Op.{Op}
use Rattle.structure_laws.specs.map_history.specs.Keys.{key_of}
use Rattle.structure_laws.specs.body_terms.specs.Word.{value_of}
use Rattle.bucket_laws.specs.bucket_bodies.specs.section_body.specs.Bucket.{operand, is_small}
use Rattle.structure_laws.specs.body_terms.specs.declared.thunk.Thunk.{Thunk}
use Rattle.structure_laws.specs.Sections.{IsAllowed}
use Rattle.bucket_laws.proofs.Fit.{PutsIn, puts_given}
use Rattle.node_laws.proofs.Forms.{put_puts}
use Rattle.list_bodies.specs.List.{mark_of, node_in, names_node, Look, Insert, Remove, Replace, form_of}
use Rattle.list_laws.specs.Walk.{Walk, node_of, form_for, operands_for}
use Rattle.list_laws.proofs.Fit.{IsFit, cases, is_look, is_insert, is_remove, is_replace, inserts}
use Rattle.list_laws.proofs.Fit.{replaces}

small_is : (n : ℕ) → n < 2 ^ 32 → is_small n ≡ true
small_is n low = less_tested n (2 ^ 32) low

-- each form with its number
pub data Kind (op : Op) (w : Walk) (t : Thunk) : Type 0 where
  Looks : form_of t ≡ Look → form_for op w.found ≡ 31 → Kind op w t
  Inserts_it : form_of t ≡ Insert → form_for op w.found ≡ 32 → Kind op w t
  Removes_it : form_of t ≡ Remove → form_for op w.found ≡ 33 → Kind op w t
  Replaces_it : form_of t ≡ Replace → form_for op w.found ≡ 34 → Kind op w t

module _ (op : Op) (w : Walk) (thunk : Thunk) (fit : IsFit op w thunk) (allowed : IsAllowed op)
    (some : 0 < value_of w.link) (from_low : mark_of w.from < 2 ^ 32) (node_low : mark_of (node_of w) < 2 ^ 32) where
  number_at : (k : ℕ) {numbers : List ℕ} → operands_for op w w.found ≡ numbers → operand thunk k ≡ slice_index numbers k
  number_at k e = ap (λ numbers. slice_index numbers k) (fit.operands ∙ e)

  lock_small : is_small (thunk.lock + 4) ≡ true
  lock_small = small_is (thunk.lock + 4) (let at = fit.lock in omega (arith, at, from_low))

  node_small : names_node thunk ≡ true
  node_small = both_hold _ _ (less_tested 0 (value_of (operand thunk 1)) (subst (λ k. 0 < value_of k) (sym fit.link) some))
      (small_is (mark_of (node_in thunk)) (subst (λ n. mark_of n < 2 ^ 32) (sym fit.node) node_low))

  -- the key and the value of a new node
  pub key_low : (key value k : ℕ) → PutsIn op key value → operand thunk k ≡ key → operand thunk k < 2 ^ 32
  key_low key value k puts at = let low = allowed.keys (key_of op) (inl refl) in let same = puts.0 in
      omega (arith, low, at, same)

  pub value_low : (key value k : ℕ) → PutsIn op key value → operand thunk k ≡ value → operand thunk k < 2 ^ 32
  value_low key value k puts at = let low = allowed.value value (puts_given op key value puts) in omega (arith, low, at)

  insert_it : form_for op w.found ≡ 32 → form_of thunk ≡ Insert
  insert_it form = let of = inserts op w w.found form in
      is_insert thunk (fit.form ∙ form) (both_hold _ _ lock_small (both_hold _ _
      (small_is (operand thunk 3) (key_low of.key of.value 3 of.puts (number_at 3 of.numbers)))
      (small_is (operand thunk 4) (value_low of.key of.value 4 of.puts (number_at 4 of.numbers)))))

  replace_it : form_for op w.found ≡ 34 → form_of thunk ≡ Replace
  replace_it form = let of = replaces op w w.found form in
      let puts = put_puts op of.key of.value of.put in
      is_replace thunk (fit.form ∙ form) (both_hold _ _ lock_small (both_hold _ _ node_small (both_hold _ _
      (small_is (operand thunk 5) (key_low of.key of.value 5 puts (number_at 5 of.numbers)))
      (small_is (operand thunk 6) (value_low of.key of.value 6 puts (number_at 6 of.numbers))))))

  pub kind : Kind op w thunk
  kind = ⊎_elim (λ form. Looks (is_look thunk (fit.form ∙ form) lock_small) form)
      (⊎_elim (λ form. Inserts_it (insert_it form) form)
      (⊎_elim (λ form. Removes_it (is_remove thunk (fit.form ∙ form) (both_hold _ _ lock_small node_small)) form)
      (λ form. Replaces_it (replace_it form) form)))
      (cases op w.found fit.one)
