-- What stands in the line of a run's section, and how far the run has come.
use Rattle.std.specs.Prelude.{◌⊎◌, ◌==◌, ◌&&◌, cond, nat_lt, slice_index_or, Bool, true, false}
use Rattle.std.proofs.Common.{◌≡◌, ℕ, zero, suc, ◌<◌, ◌≤◌, List, [], ◌∷◌, ◌++◌, length, length-append, take, ⊎_elim, sym, refl, ap, ◌∙◌, subst, arith, Some}
use Rattle.std.proofs.lemmas.Bool.Decides.{nat_tests}
use Rattle.std.proofs.lemmas.Bool.{cases_lt}
use Rattle.std.proofs.lemmas.List.{get_or_past}
use Rattle.machine_states.specs.body_terms.specs.declared.micro.Micro.{Micro}
use Rattle.machine_states.specs.body_terms.specs.declared.micro.Micro.TheVariants as micros
use Rattle.machine_states.specs.body_terms.specs.declared.step.Step.{Step}
use Rattle.machine_states.specs.body_terms.specs.declared.thunk.Thunk.{Thunk}
use Rattle.machine_states.specs.body_terms.specs.Cost.{run_cost}
use Rattle.machine_states.specs.body_terms.specs.Shape.{IsShaped}
use Rattle.machine_states.specs.body_terms.specs.Line.{is_check, is_end, is_event, micro_at, releases, ending}
use Rattle.agreement_core.specs.section_lines.specs.Line.{IsInPhases, IsOrdered}
use Rattle.agreement_core.specs.section_lines.proofs.Ordered.{is_ordered}
use Rattle.agreement_core.specs.section_lines.proofs.Phases.{is_in_phases}
use Rattle.machine_states.specs.table_words.specs.declared.layout.Layout.{Layout}
use Rattle.machine_states.specs.structure_laws.specs.Meaning.{Meaning}
use Rattle.machine_states.specs.structure_laws.specs.Shape.{most_of_run}
use Rattle.machine_states.specs.runner_parts.specs.State.{RunState}
use Rattle.machine_states.specs.runner_steps.specs.Sections.{thunk_of, line_limit, is_open_run, line_of, next_of}
use Rattle.machine_states.specs.Sight.{Sight}
use Rattle.machine_invariant.specs.machine_blocks.specs.machine_guards.specs.machine_agreement.proofs.RunPlaces.{not_ended}
use Rattle.machine_invariant.specs.Whole.{Beside, IsWhole}
use Rattle.next_steps.proofs.Runs.{section, here, section_sound, run_sound, shaped, code}
use Rattle.next_steps.proofs.Releases.{fewer_releases}
use Rattle.next_steps.proofs.Ends.{HasNext}

-- the end of a run has no check
tail_checks : (ms : List Micro) (lock word n : ℕ) → is_check (slice_index_or (releases ms ++ micros.Release lock word ∷ []) n micros.End) ≡ false
tail_checks [] lock word zero = refl
tail_checks [] lock word (suc n) = refl
tail_checks (micros.CheckHeld p k w ∷ ms) lock word zero = refl
tail_checks (micros.CheckHeld p k w ∷ ms) lock word (suc n) = tail_checks ms lock word n
tail_checks (micro ∷ ms) lock word n = tail_checks ms lock word n

end_checks : (ms : List Micro) (at lock word n : ℕ) → is_check (slice_index_or (ending ms at lock word) n micros.End) ≡ false
end_checks ms at lock word zero = refl
end_checks ms at lock word (suc n) = tail_checks (take at ms) lock word n

event_check : (micro : Micro) → is_event micro ≡ true → is_check micro ≡ false
event_check (micros.CheckWord p k w) e = absurd (let z = e in cc)
event_check (micros.CheckFresh p k) e = absurd (let z = e in cc)
event_check (micros.CheckFree p k w) e = absurd (let z = e in cc)
event_check (micros.CheckHeld p k w) e = absurd (let z = e in cc)
event_check _ e = refl

-- so what comes next is none
pub next_no_check : (m : Meaning) (q : RunState) → is_check (next_of m q) ≡ false
next_no_check m q = by (is_event (micro_at (line_of m q) q.at)) refl
  where
    by : (b : Bool) → is_event (micro_at (line_of m q) q.at) ≡ b
        → is_check (cond b (micro_at (line_of m q) q.at)
        (slice_index_or (ending (line_of m q) q.at (thunk_of q.opened).lock (thunk_of q.opened).word) q.ended micros.End)) ≡ false
    by true is = event_check _ is
    by false is = end_checks (line_of m q) q.at _ _ q.ended

in_list : (xs : List Micro) (n : ℕ) → is_end (slice_index_or xs n micros.End) ≡ false → n < length xs
in_list xs n e = ⊎_elim (λ low. low)
    (λ past. absurd (let z = sym e ∙ ap is_end (get_or_past xs n micros.End past) in cc)) (cases_lt n (length xs))

taken_first : (ms : List Micro) (n : ℕ) → 0 < n → micro_at (take n ms) 0 ≡ micro_at ms 0
taken_first ms zero some = absurd (omega arith)
taken_first [] (suc n) some = refl
taken_first (x ∷ ms) (suc n) some = refl

take_most : (n : ℕ) (ms : List Micro) → length (take n ms) ≤ n
take_most zero ms = omega arith
take_most (suc n) [] = omega arith
take_most (suc n) (x ∷ ms) = let rest = take_most n ms in omega arith

-- a line has room for the releases of its locks
few_ends : (ms : List Micro) (at lock word n : ℕ) → is_check (micro_at ms 0) ≡ false → at < 440 → n < length (ending ms at lock word) → n < 440
few_ends ms at lock word n start low below =
    let all = length-append (releases (take at ms)) (micros.Release lock word ∷ []) in
    let some = take_most at ms in
    ⊎_elim
    (λ none. let zero_length = length_none (take at ms) none in
    let nothing : length (releases (take at ms)) ≡ 0 = no_releases (take at ms) none in omega arith)
    (λ one. let rest = fewer_releases (take at ms) (ap is_check (taken_first ms at (omega arith)) ∙ start) one in omega arith)
    (cases (length (take at ms)))
  where
    cases : (n : ℕ) → (n ≡ 0) ⊎ (0 < n)
    cases n = search arith

    length_none : (xs : List Micro) → length xs ≡ 0 → length xs ≤ 0
    length_none xs e = omega arith

    no_releases : (xs : List Micro) → length xs ≡ 0 → length (releases xs) ≡ 0
    no_releases [] e = refl
    no_releases (x ∷ xs) e = absurd (omega arith)

module _ (m : Meaning) (l : Layout) (g : Beside) (s : Sight) (whole : IsWhole m l g s) (r : ℕ) (q : RunState) (is : (s.part r).run ≡ Some q)
    (all : length q.opened ≡ 13) where
  abbrev body : List Step
  body = m.body (thunk_of q.opened)

  pub shape : IsShaped body
  shape = (shaped m l g s whole r q is all).shape

  pub brief : run_cost body ≤ most_of_run
  brief = (shaped m l g s whole r q is all).brief

  phases : IsInPhases (micro_at (line_of m q))
  phases = is_in_phases body shape

  pub ordered : IsOrdered (micro_at (line_of m q))
  ordered = is_ordered body

  -- the run hasn't passed the end of its line
  at_low : q.at < 440
  at_low =
      let x = section m l g s whole r q is in
      let sound = section_sound m l g s whole r q is in
      let behind : q.at ≤ x.edge = subst (λ n. n ≤ x.edge) (here m l g s whole r q is).at (run_sound m l g s whole r q is).in_trail.behind in
      let short = phases.short in
      ⊎_elim
      (λ past. absurd (let end = ap is_end (code m l g s whole r q is all phases.length ∙ phases.outside phases.length (omega arith)) in
      let none = sound.section.in_log.within phases.length (omega arith) in let z = sym end ∙ none in cc))
      (λ low. omega arith)
      (cases_lt phases.length x.edge)

  -- nor made more exchanges at its end than there are
  ended_low : HasNext m q → q.ended < 440
  ended_low has = by (is_event (micro_at (line_of m q) q.at)) refl (has.next all)
    where
      t : Thunk
      t = thunk_of q.opened

      by : (b : Bool) → is_event (micro_at (line_of m q) q.at) ≡ b
          → is_end (cond b (micro_at (line_of m q) q.at) (slice_index_or (ending (line_of m q) q.at t.lock t.word) q.ended micros.End)) ≡ false
          → q.ended < 440
      by true event next = let none = not_ended m l g.agreement s whole.sections r q is all event in omega arith
      by false stop next = few_ends (line_of m q) q.at t.lock t.word q.ended phases.start at_low
          (in_list (ending (line_of m q) q.at t.lock t.word) q.ended next)

  -- so the run is open
  pub run_open : HasNext m q → is_open_run q ≡ true
  run_open has = test (length q.opened) q.at q.ended all at_low (ended_low has)
    where
      test : (n at ended : ℕ) → n ≡ 13 → at < 440 → ended < 440 → (n == 13 && (nat_lt at line_limit && nat_lt ended line_limit)) ≡ true
      test n at ended e low low' = grind (arith, nat_tests)
