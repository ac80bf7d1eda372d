-- A thunk that fits goes on to fit, and a body without a Store answers what leaves the map as it was.
use Rattle.std.proofs.Common.{◌≡◌, ℕ, ◌+◌, ◌*◌, ◌<◌, true, false, refl, sym, ap, ◌∙◌, subst, arith}
use Rattle.std.specs.Prelude.{◌++◌, ◌==◌, ◌&&◌, List, Option, Some, None, slice_get}
use Rattle.runner_parts.specs.structure_laws.specs.map_history.specs.declared.op.Op.{Op}
use Rattle.runner_parts.specs.structure_laws.specs.map_history.specs.Keys.{key_of}
use Rattle.runner_parts.specs.structure_laws.specs.body_terms.specs.Word.{value_of, next_word}
use Rattle.section_body.specs.Bucket.{operand}
use Rattle.runner_parts.specs.structure_laws.specs.body_terms.specs.declared.value.Value.TheVariants.{Const}
use Rattle.runner_parts.specs.structure_laws.specs.body_terms.specs.declared.step.Step.{Step}
use Rattle.runner_parts.specs.structure_laws.specs.body_terms.specs.declared.step.Step.TheVariants.{Store, Answer}
use Rattle.runner_parts.specs.structure_laws.specs.body_terms.specs.declared.thunk.Thunk.{Thunk}
use Rattle.runner_parts.specs.block_words.specs.table_words.specs.declared.layout.Layout.{Layout}
use Rattle.runner_parts.specs.structure_laws.specs.Scene.{Readings}
use Rattle.runner_parts.specs.structure_laws.specs.Shape.{HasStep}
use Rattle.runner_parts.specs.structure_laws.specs.Fitting.{Leaves, StoresNothing, Fitting}
use Rattle.runner_parts.specs.structure_laws.proofs.Changes.{both_true, equal_of}
use Rattle.runner_parts.specs.Tests.{has_pair}
use Rattle.runner_parts.specs.structure_laws.specs.map_history.specs.AtKey.{changes_at}
use Rattle.shared_laws.proofs.Numbers.{bool_cases}
use Rattle.shared_laws.proofs.Still.{reply_leaves, any_on}
use Rattle.key_cells.specs.Keyed.{Keyed, IsKeyed, lock_place, cell_place, each_of, wanted, new_of, body_by, was_read, is_for, key_fits, keyed}
use Rattle.key_cells.proofs.CellSteps.{answer_in, stores}
use Rattle.key_cells.proofs.Fitting.{each_all, Fit, fit_of, body_own}

value_same : (a b : ℕ) → Some a ≡ Some b → a ≡ b
value_same a b e = cc

none_value : (a : ℕ) → None ≡ Some a → ⊥
none_value a e = cc

module _ (c : Keyed) (is : IsKeyed c) where
  -- a key has a cell, since it may have a value
  has_cell : 0 < c.count
  has_cell = bool_cases (c.count == 0) (λ none. absurd (empty (equal_of c.count 0 none))) (λ some. positive c.count some)
    where
      positive : (n : ℕ) → (n == 0) ≡ false → 0 < n
      positive n h = grind arith

      zeros : ℕ → ℕ
      zeros i = 0

      stored : ℕ → ℕ
      stored i = next_word 0 (value_of (c.value (Some 0) i))

      empty : c.count ≡ 0 → ⊥
      empty none = none_value 0
          (sym (is.absent zeros (λ i. refl))
          ∙ (is.looks zeros stored (λ i low. absurd (omega (arith, none, low))) ∙ is.stored (Some 0) zeros (λ v e. let same = value_same 0 v e in omega arith)))

  module _ (layout : Layout) (op : Op) (thunk : Thunk) (readings : Readings) (fits : key_fits c op readings thunk ≡ true) where
    fit : Fit c op readings thunk
    fit = fit_of c op readings thunk is.few fits

    abbrev had : Option ℕ
    had = c.held (wanted thunk)

    fits_on : (more : Readings) → key_fits c op (readings ++ more) thunk ≡ true
    fits_on more =
        let served = both_true _ _ fits in
        let rest = both_true (was_read c (key_of op) readings thunk) (is_for c op (c.held (wanted thunk)) thunk) served.1 in
        let lock = both_true _ _ rest.0 in
        let key = both_true _ _ lock.1 in
        let read = both_true _ _ key.1 in
        let cells : each_of c.count (λ i. has_pair (readings ++ more) (cell_place c (key_of op) i) (wanted thunk i)) ≡ true =
        each_all c.count (λ i. has_pair (readings ++ more) (cell_place c (key_of op) i) (wanted thunk i)) (λ i low. any_on _ readings more (fit.read i low)) in
        let free : has_pair (readings ++ more) (lock_place c (key_of op)) thunk.word ≡ true = any_on _ readings more read.1 in
        (λ i. served.0 i && ((lock.0 i && (key.0 i && (cells i && free i))) && rest.1 i))

    own : (j : ℕ) (step : Step) → HasStep (keyed c) thunk j step → slice_get (body_by c (changes_at had op) (key_of op) thunk) j ≡ Some step
    own j step h = sym (ap (λ (body : List Step). slice_get body j) (body_own c op readings thunk fit)) ∙ h

    -- a body that changes its key stores to the first cell
    writes : changes_at had op ≡ true → HasStep (keyed c) thunk (3 * c.count + 1 + 0) (Store 0 (Const (value_of (new_of thunk 0))))
    writes changes = ap (λ (body : List Step). slice_get body (3 * c.count + 1 + 0)) (body_own c op readings thunk fit ∙ ap (λ w. body_by c w (key_of op) thunk) changes)
        ∙ stores (cell_place c (key_of op)) (wanted thunk) (new_of thunk) (operand thunk 6) c.count is.few 0 has_cell

    still : StoresNothing (keyed c) thunk → (j reply : ℕ) → HasStep (keyed c) thunk j (Answer reply) → Leaves op reply
    still none j reply h = bool_cases (changes_at had op)
        (λ changes. absurd (none (3 * c.count + 1 + 0) 0 (Const (value_of (new_of thunk 0))) (writes changes)))
        (λ same. subst (Leaves op)
        (sym (answer_in (cell_place c (key_of op)) (wanted thunk) (new_of thunk) (operand thunk 6) (changes_at had op) c.count is.few j reply (own j (Answer reply) h) ∙ fit.reply))
        (reply_leaves had op same))

  pub keyed_fitting : (layout : Layout) → Fitting (keyed c) layout
  keyed_fitting layout = record {
    fits_on = λ readings more op thunk fits. fits_on layout op thunk readings fits more;
    still = λ map readings op thunk allowed fits. still layout op thunk readings fits;
  }
