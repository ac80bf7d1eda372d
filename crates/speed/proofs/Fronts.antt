-- The front of a list.
use Rattle.std.proofs.Common.{◌≡◌, ℕ, zero, suc, ◌<◌, List, [], ◌∷◌, take, sym, arith, Some}
use Rattle.std.specs.Prelude.{slice_get}
use Rattle.machine_states.proofs.Steps.{none_some}

-- what stands in the front of a list stands there in the whole
pub stands : {X : Type 0} (xs : List X) (count i : ℕ) (x : X) → slice_get (take count xs) i ≡ Some x → slice_get xs i ≡ Some x
stands xs zero i x e = absurd (none_some x (sym e))
stands [] (suc count) i x e = e
stands (y ∷ xs) (suc count) zero x e = e
stands (y ∷ xs) (suc count) (suc i) x e = stands xs count i x e

-- and the other way round, where it is early enough
pub in_front : {X : Type 0} (xs : List X) (count i : ℕ) (x : X) → i < count → slice_get xs i ≡ Some x → slice_get (take count xs) i ≡ Some x
in_front xs zero i x low e = absurd (omega (arith, low))
in_front [] (suc count) i x low e = e
in_front (y ∷ xs) (suc count) zero x low e = e
in_front (y ∷ xs) (suc count) (suc i) x low e = in_front xs count i x (omega (arith, low)) e

-- and it is early enough
pub is_early : {X : Type 0} (xs : List X) (count i : ℕ) (x : X) → slice_get (take count xs) i ≡ Some x → i < count
is_early xs zero i x e = absurd (none_some x (sym e))
is_early [] (suc count) i x e = absurd (none_some x (sym e))
is_early (y ∷ xs) (suc count) zero x e = omega arith
is_early (y ∷ xs) (suc count) (suc i) x e = let low = is_early xs count i x e in omega (arith, low)
