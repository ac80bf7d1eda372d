-- A body's Answer is its last step.
use Rattle.std.proofs.Common.{◌≡◌, ℕ, zero, suc, ◌-◌, ◌≤◌, ◌<◌, List, [], ◌∷◌, length, true, false, refl, sym, ap, ◌∙◌, subst, arith, ⊎_elim, Some}
use Rattle.std.specs.Prelude.{◌⊎◌, slice_index_or}
use Rattle.std.proofs.lemmas.Option.{slice_get-get_or}
use Rattle.idem_cell.specs.section_lines.specs.small_lemmas.proofs.Bools.{not_true}
use Rattle.idem_cell.specs.machine_states.specs.body_terms.specs.declared.step.Step.{Step}
use Rattle.idem_cell.specs.machine_states.specs.body_terms.specs.declared.step.Step.TheVariants.{Load, Want, Fresh, Take, Make, Stamp, Store, Retire, Answer}
use Rattle.idem_cell.specs.machine_states.specs.body_terms.specs.Shape.{IsStep, IsShaped, is_answer}
use Rattle.idem_cell.specs.machine_states.specs.body_terms.specs.Shape as shape
use Rattle.idem_cell.specs.machine_states.specs.body_terms.proofs.RegisterLemmas.{step_at}
use Rattle.idem_cell.specs.section_lines.proofs.Phases.{sole}
use Rattle.idem_cell.specs.section_lines.proofs.Places.{step_inside}
use Rattle.idem_cell.specs.machine_states.proofs.Steps.{some_same}
use Rattle.idem_cell.specs.machine_states.specs.runner_steps.specs.Sections.{reply_in}

answer_of : (step : Step) → is_answer step ≡ true → (reply : ℕ) × (step ≡ Answer reply)
answer_of (Answer reply) e = (reply, refl)
answer_of (Load place into) e = absurd (let z = e in cc)
answer_of (Want reg word) e = absurd (let z = e in cc)
answer_of (Fresh reg) e = absurd (let z = e in cc)
answer_of (Take place word) e = absurd (let z = e in cc)
answer_of (Make init into) e = absurd (let z = e in cc)
answer_of Stamp e = absurd (let z = e in cc)
answer_of (Store reg value) e = absurd (let z = e in cc)
answer_of (Retire slot) e = absurd (let z = e in cc)

last_phase : (step : Step) → 6 ≤ shape.phase step → is_answer step ≡ true
last_phase (Answer reply) high = refl
last_phase (Load place into) high = absurd (omega (arith, high))
last_phase (Want reg word) high = absurd (omega (arith, high))
last_phase (Fresh reg) high = absurd (omega (arith, high))
last_phase (Take place word) high = absurd (omega (arith, high))
last_phase (Make init into) high = absurd (omega (arith, high))
last_phase Stamp high = absurd (omega (arith, high))
last_phase (Store reg value) high = absurd (omega (arith, high))
last_phase (Retire slot) high = absurd (omega (arith, high))

reply_later : (step : Step) (steps : List Step) → is_answer step ≡ false → reply_in (step ∷ steps) ≡ reply_in steps
reply_later (Answer reply) steps e = absurd (let z = e in cc)
reply_later (Load place into) steps e = refl
reply_later (Want reg word) steps e = refl
reply_later (Fresh reg) steps e = refl
reply_later (Take place word) steps e = refl
reply_later (Make init into) steps e = refl
reply_later Stamp steps e = refl
reply_later (Store reg value) steps e = refl
reply_later (Retire slot) steps e = refl

-- the first Answer's reply
reply_at : (body : List Step) (n reply : ℕ) → IsStep body n (Answer reply) → ((i : ℕ) (s : Step) → i < n → IsStep body i s → is_answer s ≡ false) → reply_in body ≡ reply
reply_at [] n reply here before = absurd (let z = here in cc)
reply_at (step ∷ steps) zero reply here before = ap (λ (s : Step). reply_in (s ∷ steps)) (some_same step (Answer reply) here)
reply_at (step ∷ steps) (suc n) reply here before = reply_later step steps (before 0 step (omega arith) refl)
    ∙ reply_at steps n reply here (λ i s low is. before (suc i) s (omega (arith, low)) is)

pub record LastAnswer (body : List Step) : Type 0 where
  pub some : 1 ≤ length body
  pub here : IsStep body (length body - 1) (Answer (reply_in body))

pub last_answer : (body : List Step) → IsShaped body → LastAnswer body
last_answer body shaped =
    let a = sole is_answer body shaped.answers in
    let is = answer_of a.step a.passes in
    let here : IsStep body a.n (Answer is.0) = a.here ∙ ap (λ (s : Step). Some s) is.1 in
    let inside = step_inside body a.n a.step a.here in
    let last : a.n ≡ length body - 1 = ⊎_elim (λ more. absurd (not_more a.n is.0 here more (λ i s at answers. a.only i s at answers)))
    (λ none. let z : a.n ≡ length body - 1 = omega (arith, none, inside) in z) (order (suc a.n) (length body)) in
    let reply = reply_at body a.n is.0 here (λ i s low at. not_true (is_answer s) (λ answers. let e = a.only i s at answers in omega (arith, low, e))) in
    record {
      some = omega (arith, inside);
      here = subst (λ k. IsStep body k (Answer (reply_in body))) last (here ∙ ap (λ k. Some (Answer k)) (sym reply));
    }
  where
    order : (k n : ℕ) → (k < n) ⊎ (n ≤ k)
    order k n = search arith

    not_more : (n reply : ℕ) → IsStep body n (Answer reply) → suc n < length body → ((i : ℕ) (s : Step) → IsStep body i s → is_answer s ≡ true → i ≡ n) → ⊥
    not_more n reply here more only =
        let next = step_at body (suc n) more in
        let high = shaped.phases n (suc n) (Answer reply) next.0 (omega arith) here next.1 in
        let e = only (suc n) next.0 next.1 (last_phase next.0 high) in omega (arith, e)

-- so code that reads the last step finds the reply
pub reply_there : (body : List Step) → IsShaped body → (other : Step) → slice_index_or body (length body - 1) other ≡ Answer (reply_in body)
reply_there body shaped other =
    let last = last_answer body shaped in
    let low : length body - 1 < length body = (let s = last.some in omega (arith, s)) in
    some_same (slice_index_or body (length body - 1) other) (Answer (reply_in body)) (sym (slice_get-get_or body (length body - 1) other low) ∙ last.here)

pub reply_found : (body : List Step) → IsShaped body → (other : Step) (reply : ℕ) → slice_index_or body (length body - 1) other ≡ Answer reply → reply ≡ reply_in body
reply_found body shaped other reply e = ap answered (sym e ∙ reply_there body shaped other)
  where
    answered : Step → ℕ
    answered (Answer n) = n
    answered _ = 0
