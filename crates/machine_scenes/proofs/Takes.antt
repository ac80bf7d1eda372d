-- A lock that an open section holds names the section.
use Rattle.std.proofs.Common.{◌≡◌, ℕ, zero, suc, ◌+◌, ◌-◌, ◌<◌, ◌≤◌, List, length, true, sym, ap, ◌∙◌, subst, ⊎_elim, arith}
use Rattle.std.specs.Prelude.{Some}
use Rattle.std.proofs.lemmas.Bool.{cases_lt}
use Rattle.agreement_core.specs.body_terms.specs.Word.{value_of, held_word}
use Rattle.agreement_core.specs.body_terms.specs.declared.step.Step.{Step}
use Rattle.agreement_core.specs.body_terms.specs.declared.step.Step.TheVariants.{Take}
use Rattle.agreement_core.specs.body_terms.specs.declared.micro.Micro.TheVariants as micros
use Rattle.agreement_core.specs.body_terms.specs.Line.{registers_before, micro_count, line, begins, micro_at, is_check}
use Rattle.agreement_core.specs.body_terms.specs.Shape.{IsStep}
use Rattle.agreement_core.specs.body_terms.proofs.LineLemmas.{begins_next, micro_within}
use Rattle.agreement_core.specs.body_terms.proofs.RegisterLemmas.{step_at}
use Rattle.agreement_core.specs.body_terms.specs.declared.thunk.Thunk.{Thunk}
use Rattle.agreement_core.specs.table_words.specs.declared.layout.Layout.{Layout}
use Rattle.agreement_core.specs.section_lines.specs.structure_laws.specs.Scene as scenes
use Rattle.agreement_core.specs.section_lines.specs.structure_laws.specs.Meaning.{Meaning}
use Rattle.agreement_core.specs.section_lines.specs.structure_laws.specs.Sections.{Holds}
use Rattle.agreement_core.specs.section_lines.specs.Progress.{passed_steps}
use Rattle.agreement_core.specs.section_lines.proofs.Places.{step_inside}
use Rattle.agreement_core.specs.section_lines.proofs.Progress.{passed_at}
use Rattle.agreement_core.specs.State.{AgreementState}
use Rattle.agreement_core.specs.Checks.{passes}
use Rattle.agreement_core.specs.Sound.{IsSound}
use Rattle.agreement_core.proofs.Words.{value_held}
use Rattle.machine_scenes.specs.Shown.{Publications, AreOfThunks, rules_of}
use Rattle.machine_scenes.proofs.Shown.{shown, shown_some}

-- before a step's beginning that step isn't come to
pub passed_below : (body : List Step) (edge n : ℕ) → n ≤ length body → edge < begins body n → passed_steps body edge < n
passed_below body edge zero within low = absurd (omega arith)
passed_below body edge (suc n) within low =
    let step = step_at body n (omega arith) in let next = begins_next body n step.0 step.1 in
    ⊎_elim
    (λ before. let few = passed_below body edge n (omega arith) before in omega arith)
    (λ inside. let at = passed_within body edge n step.0 step.1 inside (omega arith) in omega arith)
    (cases_lt edge (begins body n))
  where
    place : (e b : ℕ) → b ≤ e → (k : ℕ) × (e ≡ b + k)
    place e b le = (e - b, omega arith)

    passed_within : (body : List Step) (edge n : ℕ) (step : Step) → IsStep body n step → begins body n ≤ edge
        → edge < begins body n + micro_count step → passed_steps body edge ≡ n
    passed_within body edge n step here from to = let k = place edge (begins body n) from in
        ap (passed_steps body) k.1 ∙ passed_at body n k.0 step here (let e = k.1 in omega arith)

-- the last check of a Take that is passed
pub taken_check : (body : List Step) (edge j l word : ℕ) → IsStep body j (Take l word) → j < passed_steps body edge
    → (i log : ℕ) × (i < edge) × (micro_at (line body) i ≡ micros.CheckHeld l log word)
taken_check body edge j l word here past =
    let next = begins_next body j (Take l word) here in (
      begins body j + 6,
      (registers_before body j).count + 1,
      ⊎_elim
          (λ before. absurd (let few = passed_below body edge (suc j) (step_inside body j (Take l word) here) before in omega arith))
          (λ le. omega arith) (cases_lt edge (begins body (suc j))),
      micro_within body j 6 (Take l word) here (omega arith),
    )

held_passes : (log : ℕ → ℕ) (m : Meaning) (layout : Layout) (d l k word : ℕ)
    → passes (rules_of m layout) d log (micros.CheckHeld l k word) ≡ true → log k ≡ held_word d word
held_passes log m layout d l k word h = grind arith

module _ (m : Meaning) (layout : Layout) (p : Publications) (w : AgreementState) (old : IsSound (rules_of m layout) w)
    (of_thunks : AreOfThunks m p w) where
  -- the lock of a Take that an open section has passed holds the section's word
  taken_names : (d : ℕ) → w.used d ≡ true → (w.section d).done ≡ 0 → (i l log word : ℕ) → i < (w.section d).edge
      → (w.section d).code i ≡ micros.CheckHeld l log word → value_of (w.shared.cells l) ≡ suc d
  taken_names d used undone i l log word below is =
      let own = old.sections d used in let s = w.section d in
      let before = own.published.line.ordered.held_before i l log word is in
      let agreed : s.log log ≡ held_word d word = held_passes s.log m layout d l log word
      (subst (λ x. passes (rules_of m layout) d s.log x ≡ true) is (own.section.in_log.passed i below (ap is_check is))) in
      let value : value_of (s.log log) ≡ suc d = ap value_of agreed ∙ value_held d word own.published.link in
      ap value_of (own.section.in_locks.outcome_held undone (suc (suc before.0)) l log (let e = before.1 in omega arith) before.3 value)
      ∙ value

  -- a lock that an open section holds names the section
  pub holder_named : (d l : ℕ) (x : scenes.Section) → shown m p w.used w.section d ≡ Some x → Holds m x l
      → value_of (w.shared.cells l) ≡ suc d
  holder_named d l x here holds =
      let is = shown_some m p d (w.used d) (w.section d) x here in
      let own = old.sections d is.used in let tie = of_thunks d is.used in let s = w.section d in
      let thunk : x.thunk ≡ p.thunk d = ap (λ (y : scenes.Section). y.thunk) is.same in
      ⊎_elim
      (λ outer. let place : l ≡ s.lock = outer ∙ (ap (λ (t : Thunk). t.lock) thunk ∙ sym tie.lock) in
      ap (λ q. value_of (w.shared.cells q)) place
      ∙ (ap value_of (own.section.in_locks.outer_held is.undone) ∙ value_held d s.word own.published.link))
      (λ took. let body = m.body (p.thunk d) in
      let at : x.at ≡ passed_steps body s.edge = ap (λ (y : scenes.Section). y.at) is.same in
      let check = taken_check body s.edge took.0 l took.1 (subst (λ t. IsStep (m.body t) took.0 (Take l took.1)) thunk took.3)
      (let low = took.2 in omega arith) in
      taken_names d is.used is.undone check.0 l check.1 took.1 check.2 (tie.code check.0 ∙ check.3)) holds
