-- The cells of a node by their number, and the first values of a new one.
use Rattle.std.proofs.Common.{◌≡◌, ◌≢◌, ℕ, zero, suc, ◌+◌, ◌*◌, ◌<◌, ◌≤◌, true, false, sym, ◌∙◌, subst, arith}
use Rattle.std.specs.Prelude.{◌==◌, ◌%◌, ◌/◌, ◌-◌, Some, [], ◌∷◌, slice_get}
use Rattle.std.proofs.lemmas.Bool.{both_ways}
use Rattle.structure_laws.specs.table_words.specs.small_lemmas.proofs.Lists.{some_same}
use Rattle.structure_laws.specs.body_terms.specs.Memory.{cell_of}
use Rattle.structure_laws.specs.body_terms.specs.declared.value.Value.{Value}
use Rattle.structure_laws.specs.body_terms.specs.declared.value.Value.TheVariants.{Const}
use Rattle.structure_laws.specs.Sections.{IsSmall}
use Rattle.structure_laws.proofs.Changes.{equal_of}
use Rattle.body_steps.specs.Node.{lock_of, is_lock_place}
use Rattle.shared_laws.proofs.Numbers.{eq_true, eq_false}

pub cell_unlocked : (t k : ℕ) → 1 ≤ k → k < 5 → is_lock_place (cell_of 0 t k) ≡ false
cell_unlocked t k low high = eq_false ((0 + 5 * t + k) % 5) 0 (λ e. omega (arith, low, high, e))

pub lock_locked : (t : ℕ) → is_lock_place (lock_of t) ≡ true
lock_locked t = eq_true ((0 + 5 * t + 0) % 5) 0 (omega arith)

-- which cell of its slot a place is
cell_is : (t k place : ℕ) → k < 5 → cell_of 0 t k ≡ place → place % 5 ≡ k
cell_is t k place low e = omega (arith, low, e)

pub slot_is : (t k place : ℕ) → k < 5 → cell_of 0 t k ≡ place → (place - 0) / 5 ≡ t
slot_is t k place low e = omega (arith, low, e)

pub lock_cell : (t place : ℕ) → lock_of t ≡ place → is_lock_place place ≡ true
lock_cell t place e = eq_true (place % 5) 0 (cell_is t 0 place (omega arith) e)

pub no_cell : (t k n place : ℕ) → k < 5 → k ≢ n → cell_of 0 t k ≡ place → (place % 5 == n) ≡ true → ⊥
no_cell t k n place low ne e is = ne (sym (cell_is t k place low e) ∙ equal_of (place % 5) n is)

-- each first value of a new node has 32 bits, and that of the lock is 0
pub five_small : (a b c : Value) → IsSmall a → IsSmall b → IsSmall c → (i : ℕ) (v : Value)
    → slice_get (Const 0 ∷ a ∷ b ∷ c ∷ Const 0 ∷ []) i ≡ Some v → IsSmall v
five_small a b c pa pb pc zero v h = subst IsSmall (some_same h) (omega arith)
five_small a b c pa pb pc (suc zero) v h = subst IsSmall (some_same h) pa
five_small a b c pa pb pc (suc (suc zero)) v h = subst IsSmall (some_same h) pb
five_small a b c pa pb pc (suc (suc (suc zero))) v h = subst IsSmall (some_same h) pc
five_small a b c pa pb pc (suc (suc (suc (suc zero)))) v h = subst IsSmall (some_same h) (omega arith)
five_small a b c pa pb pc (suc (suc (suc (suc (suc i))))) v h = absurd (cc)

pub five_unlocked : (a b c : Value) (i t : ℕ) (v : Value) → slice_get (Const 0 ∷ a ∷ b ∷ c ∷ Const 0 ∷ []) i ≡ Some v
    → is_lock_place (cell_of 0 t i) ≡ true → v ≡ Const 0
five_unlocked a b c zero t v h lock = sym (some_same h)
five_unlocked a b c (suc i) t v h lock = absurd (both_ways _ (cell_unlocked t (suc i) (omega arith) (short i h)) lock)
  where
    short : (i : ℕ) → slice_get (a ∷ b ∷ c ∷ Const 0 ∷ []) i ≡ Some v → suc i < 5
    short zero h = omega arith
    short (suc zero) h = omega arith
    short (suc (suc zero)) h = omega arith
    short (suc (suc (suc zero))) h = omega arith
    short (suc (suc (suc (suc i)))) h = absurd (cc)
