-- Where the steps of a line stand to one another, and where a run rests in it.
use Rattle.std.specs.Prelude.{◌&&◌, cond, Bool, true, false, slice_index_or, drop, is_none}
use Rattle.std.proofs.Common.{◌≡◌, ℕ, zero, suc, ◌+◌, ◌<◌, List, [], ◌∷◌, refl, sym, ap, ◌∙◌, ⊎_elim, arith}
use Rattle.std.proofs.lemmas.Bool.{cases_lt}
use Rattle.machine_states.specs.body_terms.specs.declared.micro.Micro.{Micro}
use Rattle.machine_states.specs.body_terms.specs.declared.micro.Micro.TheVariants.{End}
use Rattle.machine_states.specs.body_terms.specs.Line.{micro_at, is_check, is_commit}
use Rattle.machine_states.specs.body_terms.specs.Run.{Setting, leaves, passed_checks, settled}
use Rattle.section_lines.specs.Line.{IsLine}

-- two commits to one place in the log are one
pub commit_unique : (is_lock : ℕ → Bool) (version_max lock : ℕ) (code : ℕ → Micro) (slot : ℕ → ℕ) → IsLine is_lock version_max lock code slot
    → (i j : ℕ) → is_commit (code i) ≡ true → is_commit (code j) ≡ true → slot i ≡ slot j → i ≡ j
commit_unique is_lock version_max lock code slot line i j one two same = ⊎_elim
    (λ less. absurd (let more = line.counted.slot_commit i one in let rises = line.counted.slot_rises (suc i) j (omega (arith, less)) in
    omega (arith, more, rises, same)))
    (λ le. ⊎_elim
    (λ less. absurd (let more = line.counted.slot_commit j two in let rises = line.counted.slot_rises (suc j) i (omega (arith, less)) in
    omega (arith, more, rises, same)))
    (λ le'. omega (arith, le, le'))
    (cases_lt j i))
    (cases_lt i j)

first_passed : (a b : Bool) (micro : Micro) (ms : List Micro) (n j : ℕ) → is_check micro ≡ a
    → ((i : ℕ) → i < n → is_check (slice_index_or ms i End) ≡ true) → j < cond (a && b) (n + 1) 0 → is_check (slice_index_or (micro ∷ ms) j End) ≡ true
first_passed false b micro ms n j e rest h = absurd (omega (arith, h))
first_passed true false micro ms n j e rest h = absurd (omega (arith, h))
first_passed true true micro ms n zero e rest h = e
first_passed true true micro ms n (suc j) e rest h = rest j (omega (arith, h))

-- a check stands at each place that a run passes
passed_is_check : (s : Setting) (trail : List ℕ) (ms : List Micro) (j : ℕ) → j < passed_checks s trail ms → is_check (slice_index_or ms j End) ≡ true
passed_is_check s trail [] j h = absurd (omega (arith, h))
passed_is_check s trail (micro ∷ ms) j h = first_passed (is_check micro) (is_none (leaves s trail micro)) micro ms (passed_checks s trail ms) j refl
    (λ i below. passed_is_check s trail ms i below) h

after_drop : (ms : List Micro) (at j : ℕ) → slice_index_or (drop at ms) j End ≡ micro_at ms (at + j)
after_drop ms zero j = ap (λ n. slice_index_or ms n End) (let h : j ≡ 0 + j = omega arith in h)
after_drop [] (suc at) j = none j (suc at + j)
  where
    none : (i k : ℕ) → slice_index_or [] i End ≡ slice_index_or [] k End
    none i k = refl
after_drop (x ∷ ms) (suc at) j = after_drop ms at j ∙ ap (λ n. slice_index_or (x ∷ ms) n End) (let h : suc (at + j) ≡ suc at + j = omega arith in h)

-- where a run rests behind a step that is no check, it made that step
pub rests_behind : (s : Setting) (trail : List ℕ) (ms : List Micro) (at j : ℕ) → settled s trail ms (at + 1) ≡ suc j → is_check (micro_at ms j) ≡ false → j ≡ at
rests_behind s trail ms at j e no_check = by (passed_checks s trail (drop (at + 1) ms)) refl
  where
    by : (n : ℕ) → passed_checks s trail (drop (at + 1) ms) ≡ n → j ≡ at
    by zero none = omega (arith, e, none)
    by (suc n) some = absurd (
        let last = passed_is_check s trail (drop (at + 1) ms) n (omega (arith, some)) in
        let place : at + 1 + n ≡ j = omega (arith, e, some) in
        let check = ap (λ i. is_check (micro_at ms i)) (sym place) ∙ (ap is_check (sym (after_drop ms (at + 1) n)) ∙ last) in
        let both = sym check ∙ no_check in cc)
