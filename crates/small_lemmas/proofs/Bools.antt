-- What is often wanted of truth values.
use Rattle.std.specs.Prelude.{◌&&◌, ◌||◌, not, Bool, true, false, ◌⊎◌}
use Rattle.std.proofs.Common.{◌≡◌, ◌∙◌, refl, sym, inl, inr, arith}

pub or_first : (a b : Bool) → a ≡ true → (a || b) ≡ true
or_first a b e = grind arith

pub or_second : (a b : Bool) → b ≡ true → (a || b) ≡ true
or_second true b e = refl
or_second false b e = e

pub one_of : (a b : Bool) → (a || b) ≡ true → (a ≡ true) ⊎ (b ≡ true)
one_of true b e = inl refl
one_of false b e = inr e

pub neither_of : (a b : Bool) → (a || b) ≡ false → (a ≡ false) × (b ≡ false)
neither_of true b e = cc
neither_of false b e = (refl, e)

pub or_true : (a : Bool) → (a || true) ≡ true
or_true true = refl
or_true false = refl

pub both_of : (a b : Bool) → (a && b) ≡ true → (a ≡ true) × (b ≡ true)
both_of true b e = (refl, e)
both_of false b e = absurd (let x = e in cc)

pub second_of : (a b : Bool) → (a && b) ≡ true → b ≡ true
second_of true b e = e
second_of false b e = absurd (let x = e in cc)

pub both_hold : (a b : Bool) → a ≡ true → b ≡ true → (a && b) ≡ true
both_hold a b e e' = grind arith

pub not_true : (a : Bool) → (a ≡ true → ⊥) → a ≡ false
not_true true never = absurd (never refl)
not_true false never = refl

pub negated : (a : Bool) → not a ≡ true → a ≡ false
negated true e = absurd (cc)
negated false e = refl

pub false_not_true : false ≡ true → ⊥
false_not_true e = cc

pub from_false : {A : Type 0} → false ≡ true → A
from_false e = cc

pub true_not_false : (a : Bool) → a ≡ true → a ≡ false → ⊥
true_not_false a e e' = grind arith

pub not_both : {a : Bool} → a ≡ true → a ≡ false → ⊥
not_both e e' = cc

pub from_both : {A : Type 0} → (a : Bool) → a ≡ true → a ≡ false → A
from_both a e e' = absurd (let x = sym e ∙ e' in cc)
