-- What is known of a result, carried on.
use Rattle.std.proofs.Common.{◌≡◌, Option, None, Some, Result, Ok, Err, OnOk, IfErr, IfNone, IfSome, subst}

pub OnOk-from : {T E : Type 0} (A B C D : Type 0) (r : Result T E) → OnOk r A → OnOk r B → OnOk r C → (A → B → C → D) → OnOk r D
OnOk-from A B C D (Ok value) a b c step = step a b c
OnOk-from A B C D (Err error) a b c step = tt

pub IfErr-from : {T E : Type 0} (P Q : E → Type 0) (r : Result T E) → IfErr r P → ((e : E) → P e → Q e) → IfErr r Q
IfErr-from P Q (Ok value) known step = tt
IfErr-from P Q (Err error) known step = step error known

-- what is known of an option, where it is known
pub IfSome-at : {T : Type 0} (P : T → Type 0) (o : Option T) (value : T) → o ≡ Some value → IfSome o P → P value
IfSome-at P o value is known = subst (λ o. IfSome o P) is known

pub IfNone-at : {T : Type 0} (P : Type 0) (o : Option T) → o ≡ None → IfNone o P → P
IfNone-at P o is known = subst (λ o. IfNone o P) is known
