-- The test structure's bodies have the shape of a body.
use Rattle.std.proofs.Common.{◌≡◌, ℕ, zero, suc, ◌<◌, ◌≤◌, length, refl, subst, arith}
use Rattle.std.proofs.lemmas.List.Elements.{All-nil, All-cons}
use Rattle.std.specs.Prelude.{◌-◌, Some, List, [], ◌∷◌, All}
use Rattle.body_terms.specs.block_words.specs.table_words.specs.small_lemmas.proofs.Lists.{some_same as some_inj}
use Rattle.body_terms.specs.Word.{value_of}
use Rattle.body_terms.specs.declared.value.Value.{Value}
use Rattle.body_terms.specs.declared.value.Value.TheVariants.{Const, Of, Made}
use Rattle.body_terms.specs.declared.step.Step.{Step}
use Rattle.body_terms.specs.declared.step.Step.TheVariants.{Load, Want, Fresh, Make, Stamp, Store, Retire, Answer}
use Rattle.body_terms.specs.Shape.{IsShaped, IsStep, SetBefore, LoadedBefore, used_values}
use Rattle.structure_laws.specs.Tray.{Form, Number, Link, Unlink, Other, body_of, zeros}

-- what a step uses, where it is known which step it is
used_by : (body : List Step) (i : ℕ) (known step : Step) → Some known ≡ Some step → All (SetBefore body i) (used_values known) → All (SetBefore body i) (used_values step)
used_by body i known step h set = subst (λ step. All (SetBefore body i) (used_values step)) (some_inj h) set

nothing_used : (body : List Step) (i : ℕ) → All (SetBefore body i) []
nothing_used body i = All-nil (SetBefore body i)

one_used : (body : List Step) (i : ℕ) (a : Value) → SetBefore body i a → All (SetBefore body i) (a ∷ [])
one_used body i a first = All-cons (SetBefore body i) a [] first (nothing_used body i)

two_used : (body : List Step) (i : ℕ) (a b : Value) → SetBefore body i a → SetBefore body i b → All (SetBefore body i) (a ∷ b ∷ [])
two_used body i a b first second = All-cons (SetBefore body i) a (b ∷ []) first (one_used body i b second)

zeros_used : (body : List Step) (i : ℕ) → All (SetBefore body i) (Const 0 ∷ Const 0 ∷ Const 0 ∷ Const 0 ∷ Const 0 ∷ [])
zeros_used body i =
    let p = SetBefore body i in
    All-cons p (Const 0) (Const 0 ∷ Const 0 ∷ Const 0 ∷ Const 0 ∷ []) tt (All-cons p (Const 0) (Const 0 ∷ Const 0 ∷ Const 0 ∷ []) tt (All-cons p (Const 0) (Const 0 ∷ Const 0 ∷ []) tt (two_used body i (Const 0) (Const 0) tt tt)))

-- register 0 holds the word that the first step loaded
number_loaded : (word i : ℕ) → 0 < i → LoadedBefore (body_of Number word) i 0
number_loaded word i positive = record { by = 0; place = 1; earlier = positive; loads = refl }

number_used : (word i : ℕ) (step : Step) → IsStep (body_of Number word) i step → All (SetBefore (body_of Number word) i) (used_values step)
number_used word zero step h = used_by (body_of Number word) 0 (Load 1 0) step h (nothing_used (body_of Number word) 0)
number_used word (suc zero) step h = used_by (body_of Number word) 1 (Fresh 0) step h (one_used (body_of Number word) 1 (Of 0) (number_loaded word 1 (omega arith)))
number_used word (suc (suc zero)) step h = used_by (body_of Number word) 2 Stamp step h (nothing_used (body_of Number word) 2)
number_used word (suc (suc (suc zero))) step h = used_by (body_of Number word) 3 (Store 0 (Const (value_of word))) step h (two_used (body_of Number word) 3 (Of 0) (Const (value_of word)) (number_loaded word 3 (omega arith)) tt)
number_used word (suc (suc (suc (suc zero)))) step h = used_by (body_of Number word) 4 (Answer 4294967296) step h (nothing_used (body_of Number word) 4)
number_used word (suc (suc (suc (suc (suc i))))) step h = absurd (cc)

-- register 0 holds the word that the first step loaded
link_loaded : (word i : ℕ) → 0 < i → LoadedBefore (body_of Link word) i 0
link_loaded word i positive = record { by = 0; place = 2; earlier = positive; loads = refl }

link_used : (word i : ℕ) (step : Step) → IsStep (body_of Link word) i step → All (SetBefore (body_of Link word) i) (used_values step)
link_used word zero step h = used_by (body_of Link word) 0 (Load 2 0) step h (nothing_used (body_of Link word) 0)
link_used word (suc zero) step h = used_by (body_of Link word) 1 (Want 0 word) step h (one_used (body_of Link word) 1 (Of 0) (link_loaded word 1 (omega arith)))
link_used word (suc (suc zero)) step h = used_by (body_of Link word) 2 (Fresh 0) step h (one_used (body_of Link word) 2 (Of 0) (link_loaded word 2 (omega arith)))
link_used word (suc (suc (suc zero))) step h = used_by (body_of Link word) 3 (Make zeros 1) step h (zeros_used (body_of Link word) 3)
link_used word (suc (suc (suc (suc zero)))) step h = used_by (body_of Link word) 4 Stamp step h (nothing_used (body_of Link word) 4)
link_used word (suc (suc (suc (suc (suc zero))))) step h = used_by (body_of Link word) 5 (Store 0 (Made 1)) step h (two_used (body_of Link word) 5 (Of 0) (Made 1) (link_loaded word 5 (omega arith)) (record { by = 3; init = zeros; earlier = omega arith; makes = refl }))
link_used word (suc (suc (suc (suc (suc (suc zero)))))) step h = used_by (body_of Link word) 6 (Answer 4294967296) step h (nothing_used (body_of Link word) 6)
link_used word (suc (suc (suc (suc (suc (suc (suc i))))))) step h = absurd (cc)

-- register 0 holds the word that the first step loaded
unlink_loaded : (word i : ℕ) → 0 < i → LoadedBefore (body_of Unlink word) i 0
unlink_loaded word i positive = record { by = 0; place = 2; earlier = positive; loads = refl }

unlink_used : (word i : ℕ) (step : Step) → IsStep (body_of Unlink word) i step → All (SetBefore (body_of Unlink word) i) (used_values step)
unlink_used word zero step h = used_by (body_of Unlink word) 0 (Load 2 0) step h (nothing_used (body_of Unlink word) 0)
unlink_used word (suc zero) step h = used_by (body_of Unlink word) 1 (Want 0 word) step h (one_used (body_of Unlink word) 1 (Of 0) (unlink_loaded word 1 (omega arith)))
unlink_used word (suc (suc zero)) step h = used_by (body_of Unlink word) 2 (Fresh 0) step h (one_used (body_of Unlink word) 2 (Of 0) (unlink_loaded word 2 (omega arith)))
unlink_used word (suc (suc (suc zero))) step h = used_by (body_of Unlink word) 3 Stamp step h (nothing_used (body_of Unlink word) 3)
unlink_used word (suc (suc (suc (suc zero)))) step h = used_by (body_of Unlink word) 4 (Store 0 (Const 0)) step h (two_used (body_of Unlink word) 4 (Of 0) (Const 0) (unlink_loaded word 4 (omega arith)) tt)
unlink_used word (suc (suc (suc (suc (suc zero))))) step h = used_by (body_of Unlink word) 5 (Retire (value_of word - 1)) step h (nothing_used (body_of Unlink word) 5)
unlink_used word (suc (suc (suc (suc (suc (suc zero)))))) step h = used_by (body_of Unlink word) 6 (Answer 17179869184) step h (nothing_used (body_of Unlink word) 6)
unlink_used word (suc (suc (suc (suc (suc (suc (suc i))))))) step h = absurd (cc)

other_used : (word i : ℕ) (step : Step) → IsStep (body_of Other word) i step → All (SetBefore (body_of Other word) i) (used_values step)
other_used word zero step h = used_by (body_of Other word) 0 Stamp step h (nothing_used (body_of Other word) 0)
other_used word (suc zero) step h = used_by (body_of Other word) 1 (Answer 4294967296) step h (nothing_used (body_of Other word) 1)
other_used word (suc (suc i)) step h = absurd (cc)

number_shaped : (word : ℕ) → IsShaped (body_of Number word)
number_shaped word = record {
  short = omega arith;
  phases = λ i j earlier later lt a b. grind arith;
  makes = omega arith;
  stamps = refl;
  answers = refl;
  used = number_used word;
  within = λ i step h. grind arith;
  set_once = λ i j reg earlier later lt a b c d. grind arith;
  fresh = λ i reg value h. record { by = 1; earlier = grind arith; tests = grind arith };
  stored_once = λ i j a b v w lt x y e. grind arith;
}

link_shaped : (word : ℕ) → IsShaped (body_of Link word)
link_shaped word = record {
  short = omega arith;
  phases = λ i j earlier later lt a b. grind arith;
  makes = omega arith;
  stamps = refl;
  answers = refl;
  used = link_used word;
  within = λ i step h. grind arith;
  set_once = λ i j reg earlier later lt a b c d. grind arith;
  fresh = λ i reg value h. record { by = 2; earlier = grind arith; tests = grind arith };
  stored_once = λ i j a b v w lt x y e. grind arith;
}

unlink_shaped : (word : ℕ) → IsShaped (body_of Unlink word)
unlink_shaped word = record {
  short = omega arith;
  phases = λ i j earlier later lt a b. grind arith;
  makes = omega arith;
  stamps = refl;
  answers = refl;
  used = unlink_used word;
  within = λ i step h. grind arith;
  set_once = λ i j reg earlier later lt a b c d. grind arith;
  fresh = λ i reg value h. record { by = 2; earlier = grind arith; tests = grind arith };
  stored_once = λ i j a b v w lt x y e. grind arith;
}

other_shaped : (word : ℕ) → IsShaped (body_of Other word)
other_shaped word = record {
  short = omega arith;
  phases = λ i j earlier later lt a b. grind arith;
  makes = omega arith;
  stamps = refl;
  answers = refl;
  used = other_used word;
  within = λ i step h. grind arith;
  set_once = λ i j reg earlier later lt a b c d. grind arith;
  fresh = λ i reg value h. absurd (grind arith);
  stored_once = λ i j a b v w lt x y e. grind arith;
}

-- every body of the test structure is a body
pub body_of_shaped : (f : Form) (word : ℕ) → IsShaped (body_of f word)
body_of_shaped Number word = number_shaped word
body_of_shaped Link word = link_shaped word
body_of_shaped Unlink word = unlink_shaped word
body_of_shaped Other word = other_shaped word

-- of few steps
pub body_of_few : (f : Form) (word : ℕ) → length (body_of f word) ≤ 23
body_of_few Number word = omega arith
body_of_few Link word = omega arith
body_of_few Unlink word = omega arith
body_of_few Other word = omega arith
