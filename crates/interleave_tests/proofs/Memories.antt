-- The memory of a plain run.
use Rattle.std.specs.Prelude.{◌≢◌, ◌^◌, slice_index, slice_index_or}
use Rattle.std.proofs.Common.{◌≡◌, ◌+◌, ◌*◌, ◌<◌, ◌≤◌, ℕ, zero, suc, List, [], ◌∷◌, length, refl, sym, subst, arith}
use Rattle.machine_states.specs.body_terms.specs.Word.{version_of}
use Rattle.machine_states.specs.body_terms.specs.declared.step.Step.{Step}
use Rattle.machine_states.specs.body_terms.specs.Memory.{PlainMemory}
use Rattle.machine_states.specs.body_terms.specs.Plain.{SlotsFit}
use Rattle.machine_states.specs.structure_laws.specs.Tray.{body_of, Link}

-- the words of three fixed cells and one node slot, with these words at the places 1 and 2
abbrev pub cells_with : ℕ → ℕ → ℕ → List ℕ
cells_with first number link = first ∷ number ∷ link ∷ first ∷ first ∷ first ∷ first ∷ first ∷ []

small : (n : ℕ) → n < 2 ^ 64 → version_of n ≤ 4294967295
small n h = grind arith

small_at : (first number link : ℕ) → first < 2 ^ 64 → number < 2 ^ 64 → link < 2 ^ 64 → (k d : ℕ) → k < 8 → version_of (slice_index_or (cells_with first number link) k d) ≤ 4294967295
small_at first number link f n l zero d h = small first f
small_at first number link f n l (suc zero) d h = small number n
small_at first number link f n l (suc (suc zero)) d h = small link l
small_at first number link f n l (suc (suc (suc zero))) d h = small first f
small_at first number link f n l (suc (suc (suc (suc zero)))) d h = small first f
small_at first number link f n l (suc (suc (suc (suc (suc zero))))) d h = small first f
small_at first number link f n l (suc (suc (suc (suc (suc (suc zero)))))) d h = small first f
small_at first number link f n l (suc (suc (suc (suc (suc (suc (suc zero))))))) d h = small first f
small_at first number link f n l (suc (suc (suc (suc (suc (suc (suc (suc k)))))))) d h = absurd (omega (arith, h))

-- their versions fit
pub versions_fit : (cells : List ℕ) (first number link : ℕ) → cells ≡ cells_with first number link → first < 2 ^ 64 → number < 2 ^ 64 → link < 2 ^ 64
    → (k d : ℕ) → k < length cells → version_of (slice_index_or cells k d) ≤ 4294967295
versions_fit cells first number link is f n l =
    subst (λ (xs : List ℕ). (k d : ℕ) → k < length xs → version_of (slice_index_or xs k d) ≤ 4294967295) (sym is) (small_at first number link f n l)

unworn : (first number link : ℕ) → version_of first ≡ 1 → (cell : ℕ) → cell < 5 → version_of (slice_index (cells_with first number link) (3 + 5 * 0 + cell)) ≢ 4294967295
unworn first number link v zero h e = omega (arith, v, e)
unworn first number link v (suc zero) h e = omega (arith, v, e)
unworn first number link v (suc (suc zero)) h e = omega (arith, v, e)
unworn first number link v (suc (suc (suc zero))) h e = omega (arith, v, e)
unworn first number link v (suc (suc (suc (suc zero)))) h e = omega (arith, v, e)
unworn first number link v (suc (suc (suc (suc (suc cell))))) h e = omega (arith, h)

within_8 : (n cell : ℕ) → n ≡ 8 → cell < 5 → 3 + 5 * 0 + cell < n
within_8 n cell is h = omega (arith, is, h)

first_only : (i : ℕ) → i < 1 → i ≡ 0
first_only i h = omega (arith, h)

-- the slot of the one Make fits
pub slots_fit : (body : List Step) (mem : PlainMemory) (w first number link : ℕ) → body ≡ body_of Link w → mem.cells ≡ cells_with first number link → mem.free ≡ 0 ∷ [] → mem.version_max ≡ 4294967295 → mem.fixed_cells ≡ 3
    → version_of first ≡ 1 → SlotsFit body mem
slots_fit body mem w first number link body_is cells_is free_is max_is fixed_is v = rw (body_is, cells_is, free_is, max_is, fixed_is) (record {
  there = omega arith;
  different = λ i j a b. absurd (omega (arith, a, b));
  within = λ i cell a b. rw (first_only i a) (within_8 8 cell refl b);
  unworn = λ i cell a b. rw (first_only i a) (unworn first number link v cell b);
})
