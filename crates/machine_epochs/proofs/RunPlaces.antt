-- Where a run stands in its line, before a step and after it.
use Rattle.std.specs.Prelude.{◌==◌, ◌&&◌, cond, Bool, true, false, nat_lt, slice_index_or, drop, is_none}
use Rattle.std.proofs.Common.{◌≡◌, ℕ, zero, suc, ◌+◌, ◌<◌, List, [], ◌∷◌, ◌++◌, length, take, append_assoc, refl, sym, ap, ◌∙◌, subst, arith, add-one, add-zero, Some}
use Rattle.std.proofs.lemmas.Bool.Decides.{nat_tests}
use Rattle.machine_states.specs.body_terms.specs.declared.step.Step.{Step}
use Rattle.machine_states.specs.body_terms.specs.declared.micro.Micro.{Micro}
use Rattle.machine_states.specs.body_terms.specs.declared.micro.Micro.TheVariants as micros
use Rattle.machine_states.specs.body_terms.specs.Line.{line, micro_at, is_check, is_event, release_of, releases, ending}
use Rattle.machine_states.specs.body_terms.specs.Run.{Setting, leaves, passed_checks, settled}
use Rattle.section_lines.proofs.Ordered.{is_ordered}
use Rattle.machine_states.specs.table_words.specs.declared.layout.Layout.{Layout}
use Rattle.machine_states.specs.structure_laws.specs.Meaning.{Meaning}
use Rattle.machine_states.specs.runner_parts.specs.State.{RunState}
use Rattle.machine_states.specs.runner_steps.specs.Sections.{thunk_of, is_open_run, line_limit, line_of, next_of, setting_of}
use Rattle.machine_states.specs.epoch_core.specs.State.{no_retire}
use Rattle.machine_epochs.specs.Slots.{retire_before, retiring_of}

-- the steps of a run's end
abbrev pub is_of_end : Micro → Bool
is_of_end micros.SetDone = true
is_of_end (micros.Release place word) = true
is_of_end micros.End = true
is_of_end _ = false

release_ends : (micro : Micro) (rest : List Micro) → ((i : ℕ) → is_of_end (slice_index_or rest i micros.End) ≡ true) → (i : ℕ) → is_of_end (slice_index_or (release_of micro ++ rest) i micros.End) ≡ true
release_ends (micros.CheckHeld place log word) rest h zero = refl
release_ends (micros.CheckHeld place log word) rest h (suc i) = h i
release_ends _ rest h i = h i

last_ends : (place word i : ℕ) → is_of_end (slice_index_or (micros.Release place word ∷ []) i micros.End) ≡ true
last_ends place word zero = refl
last_ends place word (suc i) = refl

releases_end : (ms : List Micro) (place word i : ℕ) → is_of_end (slice_index_or (releases ms ++ micros.Release place word ∷ []) i micros.End) ≡ true
releases_end [] place word i = last_ends place word i
releases_end (micro ∷ ms) place word i =
    subst (λ (xs : List Micro). is_of_end (slice_index_or xs i micros.End) ≡ true) (sym (append_assoc (release_of micro) (releases ms) (micros.Release place word ∷ [])))
    (release_ends micro (releases ms ++ micros.Release place word ∷ []) (releases_end ms place word) i)

ending_ends : (ms : List Micro) (at place word i : ℕ) → is_of_end (slice_index_or (ending ms at place word) i micros.End) ≡ true
ending_ends ms at place word zero = refl
ending_ends ms at place word (suc i) = releases_end (take at ms) place word i

first_passed : (a b : Bool) (micro : Micro) (ms : List Micro) (n j : ℕ) → is_check micro ≡ a → ((i : ℕ) → i < n → is_check (slice_index_or ms i micros.End) ≡ true)
    → j < cond (a && b) (n + 1) 0 → is_check (slice_index_or (micro ∷ ms) j micros.End) ≡ true
first_passed false b micro ms n j e rest h = absurd (omega arith)
first_passed true false micro ms n j e rest h = absurd (omega arith)
first_passed true true micro ms n zero e rest h = e
first_passed true true micro ms n (suc j) e rest h = rest j (omega arith)

-- a check that passes stands at each place that a run passes
passed_is_check : (s : Setting) (trail : List ℕ) (ms : List Micro) (j : ℕ) → j < passed_checks s trail ms → is_check (slice_index_or ms j micros.End) ≡ true
passed_is_check s trail [] j h = absurd (omega arith)
passed_is_check s trail (micro ∷ ms) j h = first_passed (is_check micro) (is_none (leaves s trail micro)) micro ms (passed_checks s trail ms) j refl (λ i below. passed_is_check s trail ms i below) h

-- and none does where what stands first is no check
passed_none : (s : Setting) (trail : List ℕ) (ms : List Micro) → is_check (slice_index_or ms 0 micros.End) ≡ false → passed_checks s trail ms ≡ 0
passed_none s trail [] e = refl
passed_none s trail (micro ∷ ms) e = ap (λ b. cond (b && is_none (leaves s trail micro)) (passed_checks s trail ms + 1) 0) e

after_drop : (ms : List Micro) (at j : ℕ) → slice_index_or (drop at ms) j micros.End ≡ micro_at ms (at + j)
after_drop ms zero j = ap (λ n. slice_index_or ms n micros.End) (let h : j ≡ 0 + j = omega arith in h)
after_drop [] (suc at) j = none j (suc at + j)
  where
    none : (i k : ℕ) → slice_index_or [] i micros.End ≡ slice_index_or [] k micros.End
    none i k = refl
after_drop (x ∷ ms) (suc at) j = after_drop ms at j ∙ ap (λ n. slice_index_or (x ∷ ms) n micros.End) (let h : suc (at + j) ≡ suc at + j = omega arith in h)

-- where a step stands that is no step of the end, it stands in the line
event_in_line : (b : Bool) (here rest micro : Micro) → is_of_end rest ≡ true → is_of_end micro ≡ false → cond b here rest ≡ micro → here ≡ micro
event_in_line true here rest micro ends h e = e
event_in_line false here rest micro ends h e = absurd (let x = ap is_of_end e in cc)

pub next_in_line : (m : Meaning) (q : RunState) (micro : Micro) → is_of_end micro ≡ false → next_of m q ≡ micro → micro_at (line_of m q) q.at ≡ micro
next_in_line m q micro h e = event_in_line (is_event (micro_at (line_of m q) q.at)) (micro_at (line_of m q) q.at) _ micro (ending_ends (line_of m q) q.at _ _ q.ended) h e

open_test : (n at ended limit : ℕ) → (n == 13 && (nat_lt at limit && nat_lt ended limit)) ≡ true → n ≡ 13
open_test n at ended limit e = grind (arith, nat_tests)

-- an open run has loaded all its words
pub open_run : (q : RunState) → is_open_run q ≡ true → length q.opened ≡ 13
open_run q e = open_test (length q.opened) q.at q.ended line_limit e

not_before : (q : RunState) (micro : Micro) → ((s k : ℕ) → micro ≡ micros.RetireCommit s k → ⊥) → retire_before q micro ≡ no_retire
not_before q (micros.RetireCommit s k) h = absurd (h s k refl)
not_before q _ h = refl

module _ (body : List Step) where
  abbrev code : ℕ → Micro
  code i = micro_at (line body) i

  no_start : (s k : ℕ) → code 0 ≡ micros.RetireCommit s k → ⊥
  no_start s k e = let h = (is_ordered body).retire_before 0 s k e in absurd (let x = h.1 in omega arith)

  module _ (setting : Setting) (trail : List ℕ) (at : ℕ) where
    check_there : (j : ℕ) → j < passed_checks setting trail (drop (suc at) (line body)) → is_check (code (suc at + j)) ≡ true
    check_there j h = subst (λ (micro : Micro). is_check micro ≡ true) (after_drop (line body) (suc at) j) (passed_is_check setting trail (drop (suc at) (line body)) j h)

    -- no commit of a Retire stands where a run comes to rest behind any other step than the load of its epoch
    not_there : ((s k : ℕ) → code at ≡ micros.EpochForRetire s k → ⊥) → (n : ℕ) → ((j : ℕ) → j < n → is_check (code (suc at + j)) ≡ true)
        → (s k : ℕ) → code (suc at + n) ≡ micros.RetireCommit s k → ⊥
    not_there other zero checks s k e =
        let h = (is_ordered body).retire_before (suc at + 0) s k e in
        let same : h.0 ≡ at = (let x = h.1 in omega arith) in
        other s k (ap code (sym same) ∙ h.2)
    not_there other (suc n) checks s k e =
        let h = (is_ordered body).retire_before (suc at + suc n) s k e in
        let same : h.0 ≡ suc at + n = (let x = h.1 in omega arith) in
        let check : is_check (code h.0) ≡ true = ap (λ i. is_check (code i)) same ∙ checks n (omega arith) in
        let epoch : is_check (code h.0) ≡ false = ap is_check h.2 in
        absurd (cc)

    rests : settled setting trail (line body) (at + 1) ≡ suc at + passed_checks setting trail (drop (suc at) (line body))
    rests = ap (λ n. settled setting trail (line body) n) (add-one at)

    pub no_retire_next : ((s k : ℕ) → code at ≡ micros.EpochForRetire s k → ⊥) → (s k : ℕ) → code (settled setting trail (line body) (at + 1)) ≡ micros.RetireCommit s k → ⊥
    no_retire_next other s k e = not_there other (passed_checks setting trail (drop (suc at) (line body))) check_there s k (ap code (sym rests) ∙ e)

    -- behind the load of its epoch the commit of a Retire stands
    pub retire_next : (s k : ℕ) → code at ≡ micros.EpochForRetire s k → code (settled setting trail (line body) (at + 1)) ≡ micros.RetireCommit s k
    retire_next s k e =
        let next : code (suc at) ≡ micros.RetireCommit s k = (is_ordered body).retire_next at s k e in
        let here : slice_index_or (drop (suc at) (line body)) 0 micros.End ≡ micros.RetireCommit s k = after_drop (line body) (suc at) 0 ∙ (ap code (add-zero (suc at)) ∙ next) in
        let none : passed_checks setting trail (drop (suc at) (line body)) ≡ 0 = passed_none setting trail (drop (suc at) (line body)) (ap is_check here) in
        ap code (rests ∙ (ap (λ n. suc at + n) none ∙ add-zero (suc at))) ∙ next

-- the Retire at which a run is that goes on behind another step
pub goes_on_unretired : (m : Meaning) (l : Layout) (q : RunState) (micro : Micro) → micro_at (line_of m q) q.at ≡ micro → ((s k : ℕ) → micro ≡ micros.EpochForRetire s k → ⊥)
    → (q' : RunState) → q'.opened ≡ q.opened → (trail : List ℕ) → q'.at ≡ settled (setting_of l q.descriptor) trail (line_of m q) (q.at + 1) → retiring_of m (Some q') ≡ no_retire
goes_on_unretired m l q micro here other q' same trail rests =
    not_before q' (micro_at (line_of m q') q'.at) (λ s k e.
    no_retire_next (m.body (thunk_of q.opened)) (setting_of l q.descriptor) trail q.at (λ s' k' e'. other s' k' (sym here ∙ e')) s k
    (sym (ap (λ (i : ℕ). micro_at (line_of m q) i) rests) ∙ (sym (ap (λ (xs : List ℕ). micro_at (line (m.body (thunk_of xs))) q'.at) same) ∙ e)))

-- the run at the start of its line is at no Retire
pub begins_unretired : (m : Meaning) (q : RunState) → q.at ≡ 0 → retiring_of m (Some q) ≡ no_retire
begins_unretired m q start = not_before q (micro_at (line_of m q) q.at) (λ s k e. no_start (m.body (thunk_of q.opened)) s k (sym (ap (λ i. micro_at (line_of m q) i) start) ∙ e))

-- nor is one that stands before any other step than a Retire's commit
pub unretired_before : (m : Meaning) (q : RunState) (micro : Micro) → ((s k : ℕ) → micro ≡ micros.RetireCommit s k → ⊥) → micro_at (line_of m q) q.at ≡ micro → retiring_of m (Some q) ≡ no_retire
unretired_before m q micro other here = not_before q (micro_at (line_of m q) q.at) (λ s k e. other s k (sym here ∙ e))

-- a run that stands before a step of its end is at no Retire's commit
pub not_at_retire : (m : Meaning) (q : RunState) (micro : Micro) → next_of m q ≡ micro → is_of_end micro ≡ true → (s k : ℕ) → micro_at (line_of m q) q.at ≡ micros.RetireCommit s k → ⊥
not_at_retire m q micro ahead ends s k e =
    let t = thunk_of q.opened in
    let there : next_of m q ≡ micros.RetireCommit s k = ap (λ (μ : Micro). cond (is_event μ) μ (slice_index_or (ending (line_of m q) q.at t.lock t.word) q.ended micros.End)) e in
    let x = ap is_of_end (sym there ∙ ahead) in cc

-- so it is at none, and stays so
pub ends_unretired : (m : Meaning) (q : RunState) (micro : Micro) → next_of m q ≡ micro → is_of_end micro ≡ true → (q' : RunState) → retire_before q' (micro_at (line_of m q) q.at) ≡ no_retire
ends_unretired m q micro ahead ends q' = not_before q' (micro_at (line_of m q) q.at) (not_at_retire m q micro ahead ends)
