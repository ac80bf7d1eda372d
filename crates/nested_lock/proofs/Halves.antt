-- What is known of an answer.
use Rattle.std.proofs.Common.{◌≡◌, ℕ, false, refl, Option, Some, None}
use Rattle.std.specs.Prelude.{Result, Ok, Err, IfSome, IfNone, is_err}
use Rattle.machine_states.specs.body_terms.specs.declared.outcome.Refused.{Refused}
use Rattle.nested_lock.specs.Answers.{outcome_at}

pub ok_none : (place : ℕ) (answer : Result (Unit {0}) Refused) → is_err answer ≡ false → outcome_at place answer ≡ None
ok_none place (Ok taken) e = refl
ok_none place (Err refused) e = absurd (let z = e in cc)

-- what is known of an answer, where there is one, and what is known where there is none
pub of_some : {A : Type 0} (P Q R : A → Type 0) (o : Option A) → IfSome o P → IfSome o Q → ((a : A) → P a → Q a → R a) → IfSome o R
of_some P Q R None p q f = tt
of_some P Q R (Some a) p q f = f a p q

pub of_none : {A : Type 0} (P Q : Type 0) (o : Option A) → IfNone o P → (P → Q) → IfNone o Q
of_none P Q None p f = f p
of_none P Q (Some a) p f = tt
