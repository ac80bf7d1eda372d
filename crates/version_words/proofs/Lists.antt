-- Lists read by place, with one entry set.
use Rattle.std.proofs.Common.{◌≡◌, ◌≢◌, ℕ, zero, suc, ◌<◌, ◌⊎◌, inl, inr, ⊎_elim, List, [], ◌∷◌, ◌++◌, length, set, get_or, sym, refl, ap, arith, Some, slice_get}
use mathlib.Core.Option.{some, some-injective, some-ne-none}
use lib.ListN.{get_elem?}

module _ {A : Type 0} where
  pub get_here : (xs : List A) (i : ℕ) (a : A) → i < length xs → slice_get (set xs i a) i ≡ Some a
  get_here [] i a h = absurd (omega arith)
  get_here (x ∷ xs) zero a h = refl
  get_here (x ∷ xs) (suc i) a h = get_here xs i a (omega arith)

  pub get_else : (xs : List A) (i j : ℕ) (a : A) → j ≢ i → slice_get (set xs i a) j ≡ slice_get xs j
  get_else [] i j a n = refl
  get_else (x ∷ xs) zero zero a n = absurd (n refl)
  get_else (x ∷ xs) zero (suc j) a n = refl
  get_else (x ∷ xs) (suc i) zero a n = refl
  get_else (x ∷ xs) (suc i) (suc j) a n = get_else xs i j a (λ e. n (ap suc e))

  pub inside : (xs : List A) (i : ℕ) (a : A) → get_elem? xs i ≡ some a → i < length xs
  inside [] i a e = absurd (some-ne-none a (sym e))
  inside (x ∷ xs) zero a e = omega arith
  inside (x ∷ xs) (suc i) a e = let h = inside xs i a e in omega arith

  -- what stands in a list with one more entry
  pub at_end : (xs : List A) (a b : A) (j : ℕ) → get_elem? (xs ++ a ∷ []) j ≡ some b → (get_elem? xs j ≡ some b) ⊎ ((j ≡ length xs) × (a ≡ b))
  at_end [] a b zero e = inr (refl, some-injective a b e)
  at_end [] a b (suc j) e = absurd (some-ne-none b (sym e))
  at_end (x ∷ xs) a b zero e = inl e
  at_end (x ∷ xs) a b (suc j) e = ⊎_elim (λ t. inl t) (λ t. inr (ap suc t.0, t.1)) (at_end xs a b j e)

  pub read : (xs : List A) (i : ℕ) (a d : A) → get_elem? xs i ≡ some a → a ≡ get_or xs i d
  read [] i a d e = absurd (some-ne-none a (sym e))
  read (x ∷ xs) zero a d e = sym (some-injective x a e)
  read (x ∷ xs) (suc i) a d e = read xs i a d e
