-- The walk of a key suits a structure of keys' cells.
use Rattle.std.proofs.Common.{◌≡◌, ℕ, zero, suc, ◌<◌, ◌≤◌, List, [], ◌∷◌, ◌++◌, length, map, true, false, refl, sym, subst, arith, Some}
use Rattle.std.specs.Prelude.{◌==◌, ◌&&◌, nat_lt, slice_get, slice_index}
use Rattle.runner_parts.specs.epoch_core.specs.small_lemmas.proofs.Numbers.{self_tested as self}
use Rattle.runner_parts.specs.structure_laws.specs.map_history.specs.declared.op.Op.{Op}
use Rattle.runner_parts.specs.structure_laws.specs.map_history.specs.Keys.{key_of}
use Rattle.key_cells.specs.section_body.specs.Bucket.{operand}
use Rattle.runner_parts.specs.structure_laws.specs.body_terms.specs.declared.thunk.Thunk.{Thunk}
use Rattle.runner_parts.specs.block_words.specs.table_words.specs.declared.layout.Layout.{Layout}
use Rattle.runner_parts.specs.structure_laws.specs.Scene.{Readings}
use Rattle.runner_parts.specs.structure_laws.specs.Meaning.{Meaning}
use Rattle.runner_parts.specs.structure_laws.proofs.Changes.{both_true}
use Rattle.runner_parts.specs.Tests.{has_pair}
use Rattle.runner_parts.specs.structure_laws.specs.map_history.specs.AtKey.{left_at}
use Rattle.key_cells.specs.shared_laws.proofs.Numbers.{lt_of, eq_true, read_at}
use Rattle.key_cells.specs.Keyed.{Keyed, IsKeyed, lock_place, cell_place, wanted, new_of, is_for, has_one_key, serves_key, key_fits, keyed}
use Rattle.key_cells.proofs.Fitting.{each_all}
use Rattle.key_cells.proofs.Places.{lock_there, cell_there}
use Rattle.fixed_walks.specs.Fixed.{AreCells, thunk_for, Suits}
use Rattle.fixed_walks.specs.Keys.{cells_of, had_by, key_course}

-- the list of at most three cells
few_cells : (n : ℕ) → n ≤ 3 → (cell : ℕ → ℕ) → length (cells_of n cell) ≤ 15
few_cells zero few cell = omega arith
few_cells (suc zero) few cell = omega arith
few_cells (suc (suc zero)) few cell = omega arith
few_cells (suc (suc (suc zero))) few cell = omega arith
few_cells (suc (suc (suc (suc n)))) few cell = absurd (omega (arith, few))

there : (n : ℕ) → n ≤ 3 → (cell : ℕ → ℕ) (lock i : ℕ) → i < n → slice_get (cells_of n cell ++ lock ∷ []) i ≡ Some (cell i)
there zero few cell lock i low = absurd (omega (arith, low))
there (suc zero) few cell lock zero low = refl
there (suc zero) few cell lock (suc i) low = absurd (omega (arith, low))
there (suc (suc zero)) few cell lock zero low = refl
there (suc (suc zero)) few cell lock (suc zero) low = refl
there (suc (suc zero)) few cell lock (suc (suc i)) low = absurd (omega (arith, low))
there (suc (suc (suc zero))) few cell lock zero low = refl
there (suc (suc (suc zero))) few cell lock (suc zero) low = refl
there (suc (suc (suc zero))) few cell lock (suc (suc zero)) low = refl
there (suc (suc (suc zero))) few cell lock (suc (suc (suc i))) low = absurd (omega (arith, low))
there (suc (suc (suc (suc n)))) few cell lock i low = absurd (omega (arith, few))

are_cells : (m : Meaning) (n : ℕ) → n ≤ 3 → (cell : ℕ → ℕ) → ((i : ℕ) → i < n → (cell i < m.fixed_cells) × (m.is_lock (cell i) ≡ false)) → AreCells m (cells_of n cell)
are_cells m zero few cell is = tt
are_cells m (suc zero) few cell is = let a = is 0 (omega arith) in (a.0, a.1, tt)
are_cells m (suc (suc zero)) few cell is = let a = is 0 (omega arith) in let b = is 1 (omega arith) in (a.0, a.1, (b.0, b.1, tt))
are_cells m (suc (suc (suc zero))) few cell is =
    let a = is 0 (omega arith) in let b = is 1 (omega arith) in let e = is 2 (omega arith) in (a.0, a.1, (b.0, b.1, (e.0, e.1, tt)))
are_cells m (suc (suc (suc (suc n)))) few cell is = absurd (omega (arith, few))

module _ (c : Keyed) (is : IsKeyed c) (layout : Layout) (op : Op) where
  abbrev key : ℕ
  key = key_of op

  -- the thunk by these words
  abbrev made : List ℕ → ℕ → ℕ → Thunk
  made words word number = thunk_for (key_course c) op words (lock_place c key) word number

  read_same : (words : List ℕ) (word number i : ℕ) → i < 3 → wanted (made words word number) i ≡ slice_index words i
  read_same words word number zero low = refl
  read_same words word number (suc zero) low = refl
  read_same words word number (suc (suc zero)) low = refl
  read_same words word number (suc (suc (suc i))) low = absurd (omega (arith, low))

  new_same : (words : List ℕ) (word number i : ℕ) → i < 3 → new_of (made words word number) i ≡ c.value (left_at (had_by c words) op) i
  new_same words word number zero low = refl
  new_same words word number (suc zero) low = refl
  new_same words word number (suc (suc zero)) low = refl
  new_same words word number (suc (suc (suc i))) low = absurd (omega (arith, low))

  below : (i : ℕ) → i < c.count → i < 3
  below i low = let few = is.few in omega (arith, few, low)

  for_it : (words : List ℕ) (word number : ℕ) → is_for c op (c.held (wanted (made words word number))) (made words word number) ≡ true
  for_it words word number =
      let t = made words word number in
      subst (λ had. is_for c op had t ≡ true)
      (sym (is.looks (wanted t) (slice_index words) (λ i low. read_same words word number i (below i low))))
      (λ k. self t.form k && (self (operand t 6) k && each_all c.count (λ i. new_of t i == c.value (left_at (had_by c words) op) i)
      (λ i low. eq_true _ _ (new_same words word number i (below i low))) k))

  thunk_fits : serves_key c op ≡ true → (readings : Readings) (word number : ℕ)
      → map (λ reading. reading.0) readings ≡ cells_of c.count (cell_place c key) ++ lock_place c key ∷ []
      → has_pair readings (lock_place c key) word ≡ true → key_fits c op readings (made (map (λ reading. reading.1) readings) word number) ≡ true
  thunk_fits served readings word number places lock =
      let words = map (λ reading. reading.1) readings in
      let t = made words word number in
      (λ k. served k && ((self (lock_place c key) k && (self key k && (each_all c.count (λ i. has_pair readings (cell_place c key i) (wanted t i))
      (λ i low. subst (λ w. has_pair readings (cell_place c key i) w ≡ true) (sym (read_same words word number i (below i low)))
      (read_at readings _ i (cell_place c key i) places (there c.count is.few (cell_place c key) (lock_place c key) i low))) k && lock k)))
      && for_it words word number k))

  pub key_suits : serves_key c op ≡ true → Suits (keyed c) (key_course c) layout op
  key_suits served = let low = lt_of key c.keys (both_true (has_one_key op) (nat_lt key c.keys) served).1 in record {
    few = few_cells c.count is.few (cell_place c key);
    cells = are_cells (keyed c) c.count is.few (cell_place c key) (λ i few. let cell = cell_there c is key i low few in (cell.0, cell.1));
    lock = lock_there c is key low;
    operands = λ words. refl;
    fits = thunk_fits served;
  }
