-- What is to be shown of the direct table's cells.
use Rattle.std.proofs.Common.{◌≡◌, ℕ, ◌+◌, ◌*◌, ◌<◌, ◌≤◌, true, false, ap, arith}
use Rattle.std.specs.Prelude.{count_by, ◌==◌, ◌&&◌, ◌-◌, ◌%◌, nat_lt, cond, Some, None}
use Rattle.structure_laws.specs.body_terms.specs.Shape.{is_retire}
use Rattle.structure_laws.specs.body_terms.specs.Word.{value_of}
use Rattle.structure_laws.specs.body_terms.specs.declared.thunk.Thunk.{Thunk}
use Rattle.structure_laws.specs.Laws.{Laws}
use Rattle.structure_laws.specs.Planner.{PlannerLaws}
use Rattle.key_cells.specs.shared_laws.specs.Flagged.{held}
use Rattle.key_cells.specs.shared_laws.proofs.Flagged.{held_small, held_stored}
use Rattle.key_cells.specs.shared_laws.proofs.Numbers.{lt_true, eq_false, third, and_false}
use Rattle.key_cells.specs.Keyed.{IsKeyed}
use Rattle.key_cells.proofs.KeyedLaws.{keyed_laws, keyed_plans}
use Rattle.key_cells.proofs.Retiring.{keyed_retires}
use Rattle.direct_laws.specs.Direct.{cell_of, direct_cells, direct}

-- a key's lock is one
lock_there : (keys key : ℕ) → key < keys → (3 * key < 3 * keys) × ((nat_lt (3 * key) (3 * keys) && (3 * key % 3 == 0)) ≡ true)
lock_there keys key low =
    let below : 3 * key < 3 * keys = omega (arith, low) in
    let rest : 3 * key % 3 ≡ 0 = omega arith in
    (below, (λ i. lt_true (3 * key) (3 * keys) below i && (rest i == 0)))

-- a cell of a key is none, and the key's lock guards it
cell_there : (keys key i : ℕ) → key < keys → i < 2 → (cell_of key i < 3 * keys)
    × ((nat_lt (cell_of key i) (3 * keys) && (cell_of key i % 3 == 0)) ≡ false) × (cell_of key i - cell_of key i % 3 ≡ 3 * key)
cell_there keys key i low few =
    let rest = third key (1 + i) (omega (arith, few)) in
    (omega (arith, low, few), and_false _ _ (eq_false (cell_of key i % 3) 0 (λ e. omega (arith, rest, e))), omega (arith, rest))

pub is_keyed : (base keys : ℕ) → base + 3 * keys ≤ 12288 → IsKeyed (direct_cells base keys)
is_keyed base keys few = record {
  few_cells = omega (arith, few);
  few = omega arith;
  lock = lock_there keys;
  cell = cell_there keys;
  apart = λ key q i j low low' first second e. (omega (arith, first, second, e), omega (arith, first, second, e));
  looks = λ words others same. (λ k. held (same 0 (omega arith) k) (same 1 (omega arith) k));
  small = λ words. held_small (words 0) (words 1);
  absent = λ words zero. ap (λ n. cond (n == 1) (Some (value_of (words 1))) None) (zero 0);
  stored = λ has old small. held_stored has (old 0) (old 1) small;
}

pub direct_laws : (base keys : ℕ) → base + 3 * keys ≤ 12288 → Laws (direct base keys)
direct_laws base keys few = keyed_laws (direct_cells base keys) (is_keyed base keys few)

pub direct_plans : (base keys : ℕ) → base + 3 * keys ≤ 12288 → PlannerLaws (direct base keys) 0
direct_plans base keys few = keyed_plans (direct_cells base keys) (is_keyed base keys few)

pub direct_retires : (base keys : ℕ) → base + 3 * keys ≤ 12288 → (t : Thunk) → count_by is_retire ((direct base keys).body t) ≤ 2
direct_retires base keys few = keyed_retires (direct_cells base keys) (is_keyed base keys few)
