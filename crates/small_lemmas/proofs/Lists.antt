-- What is often wanted of options and lists.
use Rattle.std.specs.Prelude.{slice_get}
use Rattle.std.proofs.Common.{◌≡◌, ℕ, List, [], ◌∷◌, ◌++◌, length, refl, ap, Option, Some, None}

pub same_number : (a b : ℕ) → Some a ≡ Some b → a ≡ b
same_number a b e = cc

pub some_same : {A : Type 0} {a b : A} → Some a ≡ Some b → a ≡ b
some_same e = cc

pub some_the_same : {A : Type 0} (a b : A) → Some a ≡ Some b → a ≡ b
some_the_same a b e = cc

pub none_not_some : {A : Type 0} (a : A) → None ≡ Some a → ⊥
none_not_some a e = cc

pub some_not_none : {A : Type 0} (a : A) → Some a ≡ None → ⊥
some_not_none a e = cc

pub some_is_none : {A : Type 0} {a : A} → Some a ≡ None → ⊥
some_is_none e = cc

pub none_if_never : (o : Option ℕ) → ((a : ℕ) → o ≡ Some a → ⊥) → o ≡ None
none_if_never None never = refl
none_if_never (Some a) never = absurd (never a refl)

pub append_none : {A : Type 0} (xs : List A) → xs ++ [] ≡ xs
append_none [] = refl
append_none (x ∷ xs) = ap (λ ys. x ∷ ys) (append_none xs)

pub get_last : {A : Type 0} (xs : List A) (y : A) → slice_get (xs ++ y ∷ []) (length xs) ≡ Some y
get_last [] y = refl
get_last (x ∷ xs) y = get_last xs y
