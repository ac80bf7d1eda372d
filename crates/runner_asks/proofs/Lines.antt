-- Lines read place by place.
use Rattle.std.proofs.Common.{◌≡◌, ℕ, zero, suc, ◌+◌, ◌*◌, ◌<◌, ◌≤◌, List, [], ◌∷◌, ◌++◌, length, take, drop, true, false, cond, refl, ap, ◌∙◌, arith, length-append, Option, Some, None}
use Rattle.std.specs.Prelude.{◌&&◌, is_none, slice_index_or}
use Rattle.runner_steps.specs.body_terms.specs.declared.step.Step.{Step}
use Rattle.runner_steps.specs.body_terms.specs.declared.micro.Micro.{Micro}
use Rattle.runner_steps.specs.body_terms.specs.declared.micro.Micro.TheVariants.{CheckHeld, End, Release}
use Rattle.runner_steps.specs.body_terms.specs.Line.{Registers, no_registers, registers_after, micros, line, line_from, micro_at, is_check, release_of, releases}
use Rattle.runner_steps.specs.body_terms.specs.Run.{Setting, leaves, passed_checks, settled}
use Rattle.runner_steps.specs.body_terms.proofs.LineLemmas.{length-micros, micro_count_le}
use Rattle.runner_steps.specs.Sections.{lock_of}

-- the checks that pass from a place on, by the one that stands there
pub passed_at : (s : Setting) (trail : List ℕ) (ms : List Micro) (at : ℕ)
    → passed_checks s trail (drop at ms) ≡ cond (is_check (micro_at ms at) && is_none (leaves s trail (micro_at ms at))) (passed_checks s trail (drop (at + 1) ms) + 1) 0
passed_at s trail [] zero = refl
passed_at s trail [] (suc at) = refl
passed_at s trail (m ∷ ms) zero = refl
passed_at s trail (m ∷ ms) (suc at) = let z : suc at + 1 ≡ suc (at + 1) = omega arith in rw z (passed_at s trail ms at)

pub settled_on : (s : Setting) (trail : List ℕ) (ms : List Micro) (at : ℕ) → (is_check (micro_at ms at) && is_none (leaves s trail (micro_at ms at))) ≡ true → settled s trail ms (at + 1) ≡ settled s trail ms at
settled_on s trail ms at passes = let more = passed_at s trail ms at ∙ ap (λ b. cond b (passed_checks s trail (drop (at + 1) ms) + 1) 0) passes in omega arith

pub settled_here : (s : Setting) (trail : List ℕ) (ms : List Micro) (at : ℕ) → (is_check (micro_at ms at) && is_none (leaves s trail (micro_at ms at))) ≡ false → settled s trail ms at ≡ at
settled_here s trail ms at fails = let none = passed_at s trail ms at ∙ ap (λ b. cond b (passed_checks s trail (drop (at + 1) ms) + 1) 0) fails in omega arith

drop_past : (ms : List Micro) (at : ℕ) → length ms ≤ at → drop at ms ≡ []
drop_past [] zero h = refl
drop_past [] (suc at) h = refl
drop_past (m ∷ ms) zero h = absurd (omega arith)
drop_past (m ∷ ms) (suc at) h = drop_past ms at (omega arith)

pub settled_past : (s : Setting) (trail : List ℕ) (ms : List Micro) (at : ℕ) → length ms ≤ at → settled s trail ms at ≡ at
settled_past s trail ms at h = let none = ap (passed_checks s trail) (drop_past ms at h) in omega arith

-- no line has more than eleven atomic steps for each step
pub line_from_le : (g : Registers) (steps : List Step) → length (line_from g steps) ≤ 11 * length steps
line_from_le g [] = omega arith
line_from_le g (step ∷ steps) =
    let rest = line_from_le (registers_after g step) steps in
    let here = length-micros g step in let few = micro_count_le step in
    let both = length-append (micros g step) (line_from (registers_after g step) steps) in
    omega arith

pub line_le : (steps : List Step) → length steps ≤ 40 → length (line steps) ≤ 440
line_le steps h = let most = line_from_le no_registers steps in omega arith

-- the releases from a place on, by the step that stands there
pub releases_at : (ms : List Micro) (at i : ℕ) → i < at → releases (drop i (take at ms)) ≡ release_of (micro_at ms i) ++ releases (drop (i + 1) (take at ms))
releases_at [] zero i h = absurd (omega arith)
releases_at [] (suc at) zero h = refl
releases_at [] (suc at) (suc i) h = let z : suc i + 1 ≡ suc (i + 1) = omega arith in rw z refl
releases_at (m ∷ ms) zero i h = absurd (omega arith)
releases_at (m ∷ ms) (suc at) zero h = refl
releases_at (m ∷ ms) (suc at) (suc i) h = let z : suc i + 1 ≡ suc (i + 1) = omega arith in rw z (releases_at ms at i (omega arith))

pub releases_all : (ms : List Micro) (at i : ℕ) → at ≤ i → releases (drop i (take at ms)) ≡ []
releases_all [] zero zero h = refl
releases_all [] zero (suc i) h = refl
releases_all [] (suc at) zero h = refl
releases_all [] (suc at) (suc i) h = refl
releases_all (m ∷ ms) zero zero h = refl
releases_all (m ∷ ms) zero (suc i) h = refl
releases_all (m ∷ ms) (suc at) zero h = absurd (omega arith)
releases_all (m ∷ ms) (suc at) (suc i) h = releases_all ms at i (omega arith)

-- the release of a lock that a step may have found to be held
abbrev pub release_for : Option (ℕ × ℕ) → List Micro
release_for None = []
release_for (Some x) = Release x.0 x.1 ∷ []

pub release_is : (m : Micro) → release_of m ≡ release_for (lock_of m)
release_is (CheckHeld place log word) = refl
release_is _ = refl

module _ (ms : List Micro) (at i : ℕ) (outer : Micro) (inside : i < at) where
  abbrev pub rest : ℕ → List Micro
  rest n = releases (drop n (take at ms)) ++ outer ∷ []

  pub rest_is : (o : Option (ℕ × ℕ)) → lock_of (micro_at ms i) ≡ o → rest i ≡ (release_for o ++ releases (drop (i + 1) (take at ms))) ++ outer ∷ []
  rest_is o e = ap (λ (xs : List Micro). xs ++ outer ∷ []) (releases_at ms at i inside ∙ ap (λ (xs : List Micro). xs ++ releases (drop (i + 1) (take at ms))) (release_is (micro_at ms i) ∙ ap release_for e))

  pub release_first : (x : ℕ × ℕ) → lock_of (micro_at ms i) ≡ Some x → slice_index_or (rest i) 0 End ≡ Release x.0 x.1
  release_first x e = ap (λ (xs : List Micro). slice_index_or xs 0 End) (rest_is (Some x) e)

  pub release_later : (x : ℕ × ℕ) (left : ℕ) → lock_of (micro_at ms i) ≡ Some x → slice_index_or (rest i) (suc left) End ≡ slice_index_or (rest (i + 1)) left End
  release_later x left e = ap (λ (xs : List Micro). slice_index_or xs (suc left) End) (rest_is (Some x) e)

  pub release_none : (left : ℕ) → lock_of (micro_at ms i) ≡ None → slice_index_or (rest i) left End ≡ slice_index_or (rest (i + 1)) left End
  release_none left e = ap (λ (xs : List Micro). slice_index_or xs left End) (rest_is None e)
