-- What a call gives where it has an answer.
use Rattle.std.proofs.Common.{◌≡◌, subst, Option, Some, None}
use Rattle.std.specs.Prelude.{IfSome, IfNone}

pub some_of : {A : Type 0} (P : A → Type 0) (o : Option A) (a : A) → o ≡ Some a → IfSome o P → P a
some_of P o a e p = subst (λ (x : Option _). IfSome x P) e p

pub none_of : {A : Type 0} (P : Type 0) (o : Option A) → o ≡ None → IfNone o P → P
none_of P o e p = subst (λ (x : Option _). IfNone x P) e p
