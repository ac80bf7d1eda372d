-- Blocks that leave limbo, and the last one of a list.
use Rattle.std.proofs.Common.{◌≡◌, ℕ, zero, suc, ◌+◌, ◌-◌, ◌<◌, List, [], ◌∷◌, ◌++◌, length, map, Bool, true, false, not, refl, ap, subst, ◌∙◌, length-append, eq-eqb, arith, Some, None}
use Rattle.std.specs.Prelude.{◌==◌, ◌||◌, slice_index, if◌then◌else◌}
use Rattle.std.proofs.lemmas.Bool.Decides.{nat_tests}
use Rattle.std.specs.List.{filter}
use Rattle.std.proofs.lemmas.List.{length-map}
use Rattle.std.proofs.lemmas.List.Filters.{length-filter_both}
use Rattle.machine_states.specs.runner_parts.specs.declared.entries.Waiting.{Waiting}
use Rattle.machine_states.specs.runner_parts.specs.Tests.{has}
use Rattle.machine_states.specs.runner_steps.specs.InRun.{last_of}

-- what left limbo came into the list
pub as_many : (test : Waiting → Bool) (xs ys : List ℕ) (limbo left : List Waiting) → ys ≡ xs ++ map (λ x. x.block) (filter test limbo) → left ≡ filter (λ x. not (test x)) limbo
    → length ys + length left ≡ length xs + length limbo
as_many test xs ys limbo left added stayed =
    let a = ap length added ∙ length-append xs (map (λ (x : Waiting). x.block) (filter test limbo)) in
    let b = length-map (filter test limbo) (λ (x : Waiting). x.block) in
    let d = length-filter_both test (λ x. not (test x)) (λ x. refl) limbo in
    let e = ap length stayed in
    omega (arith, a, b, d, e)

or_true : (a : Bool) → a || true ≡ true
or_true true = refl
or_true false = refl

-- a list has each number that stands in it
has_at : (xs : List ℕ) (i : ℕ) → i < length xs → has xs (slice_index xs i) ≡ true
has_at [] i low = absurd (omega (arith, low))
has_at (x ∷ xs) zero low = ap (λ (b : Bool). b || has xs x) (eq-eqb x x refl)
has_at (x ∷ xs) (suc i) low = ap (λ (b : Bool). x == slice_index xs i || b) (has_at xs i (omega (arith, low))) ∙ or_true (x == slice_index xs i)

last_by : (b : Bool) (xs : List ℕ) (x : ℕ) → length xs == 0 ≡ b → (if b then None else Some (slice_index xs (length xs - 1))) ≡ Some x → has xs x ≡ true
last_by true xs x e is = absurd (let no : ⊥ = cc in no)
last_by false xs x e is =
    let some : 0 < length xs = grind (arith, nat_tests, e) in let same : slice_index xs (length xs - 1) ≡ x = cc in
    subst (λ y. has xs y ≡ true) same (has_at xs (length xs - 1) (omega (arith, some)))

-- also its last one
pub last_there : (xs : List ℕ) (x : ℕ) → last_of xs ≡ Some x → has xs x ≡ true
last_there xs x is = last_by (length xs == 0) xs x refl is
