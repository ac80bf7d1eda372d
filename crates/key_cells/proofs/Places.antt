-- What is to be shown of places that count from the base holds of those in the memory.
use Rattle.std.proofs.Common.{◌≡◌, ℕ, ◌+◌, ◌<◌, true, false, ap, ◌∙◌, arith}
use Rattle.std.specs.Prelude.{◌-◌, ◌&&◌, not}
use Rattle.shared_laws.proofs.Numbers.{lt_false}
use Rattle.key_cells.specs.Keyed.{Keyed, IsKeyed, lock_place, cell_place, is_lock_place, guard_place}

from_base : (base x : ℕ) → base + x - base ≡ x
from_base base x = omega arith

module _ (c : Keyed) (is : IsKeyed c) where
  lock_from : (x : ℕ) → is_lock_place c (c.base + x) ≡ c.is_lock x
  lock_from x = (λ i. not (lt_false (c.base + x) c.base (omega arith) i) && c.is_lock (from_base c.base x i))

  guard_from : (x : ℕ) → guard_place c (c.base + x) ≡ c.base + c.guard x
  guard_from x = ap (λ y. c.base + c.guard y) (from_base c.base x)

  pub lock_there : (key : ℕ) → key < c.keys
      → (lock_place c key < c.base + c.fixed) × (is_lock_place c (lock_place c key) ≡ true)
  lock_there key low =
      let lock = is.lock key low in
      let below = lock.0 in
      (omega (arith, below), lock_from (c.lock_of key) ∙ lock.1)

  pub cell_there : (key i : ℕ) → key < c.keys → i < c.count → (cell_place c key i < c.base + c.fixed)
      × (is_lock_place c (cell_place c key i) ≡ false) × (guard_place c (cell_place c key i) ≡ lock_place c key)
  cell_there key i low few =
      let cell = is.cell key i low few in
      let below = cell.0 in
      (omega (arith, below), lock_from (c.cell key i) ∙ cell.1, guard_from (c.cell key i) ∙ ap (λ y. c.base + y) cell.2)

  pub places_apart : (key q i j : ℕ) → key < c.keys → q < c.keys → i < c.count → j < c.count
      → cell_place c key i ≡ cell_place c q j → (key ≡ q) × (i ≡ j)
  places_apart key q i j low low' first second e = is.apart key q i j low low' first second (omega (arith, e))
