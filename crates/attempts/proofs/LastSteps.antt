-- A run that left at a check told its runner nothing.
use Rattle.std.specs.Prelude.{true}
use Rattle.std.proofs.Common.{◌≡◌, ◌≢◌, ℕ, ◌<◌, List, [], ◌∷◌, ◌++◌, refl, sym, ap, ◌∙◌, arith, Option, Some, None}
use Rattle.machine_states.specs.body_terms.specs.declared.micro.Micro.{Micro}
use Rattle.machine_states.specs.body_terms.specs.declared.micro.Micro.TheVariants as micros
use Rattle.machine_states.specs.body_terms.specs.declared.outcome.Outcome.{Outcome}
use Rattle.machine_states.specs.body_terms.specs.declared.outcome.Outcome.TheVariants as outcomes
use Rattle.machine_states.specs.body_terms.specs.declared.thunk.Thunk.{Thunk}
use Rattle.machine_states.specs.body_terms.specs.Line.{line, micro_at, is_check}
use Rattle.machine_states.specs.body_terms.specs.Run.{Setting}
use Rattle.machine_states.specs.body_terms.specs.Shape.{IsShaped}
use Rattle.section_lines.specs.Line.{phase}
use Rattle.section_lines.proofs.Phases.{is_in_phases}
use Rattle.machine_states.specs.table_words.specs.Limits.{IsWithinLimits}
use Rattle.machine_states.specs.structure_laws.specs.Meaning.{Meaning}
use Rattle.machine_states.specs.structure_laws.specs.Laws.{Laws}
use Rattle.machine_states.specs.runner_parts.specs.declared.entries.Known.{Known}
use Rattle.machine_states.specs.runner_parts.specs.State.{RunState, FinishedState}
use Rattle.machine_states.specs.runner_steps.specs.AfterInRun.{ended_more}
use Rattle.machine_states.specs.runner_steps.specs.Sections.{thunk_of, line_of, setting_of, outcome_of, outcome_or}
use Rattle.machine_facts.specs.machine_invariant.specs.After.{AreAllowed}
use Rattle.version_words.specs.RunnerState.{RunnerState}
use Rattle.version_words.specs.TableState.{TableState, IsOf}
use Rattle.caller_facts.specs.section_runs.specs.commit_log.specs.Runs.{Stepped}
use Rattle.caller_facts.specs.section_runs.proofs.Going.{shaped}
use Rattle.caller_facts.specs.section_runs.proofs.Told.{leaves_left}
use Rattle.caller_facts.proofs.Knowing.{append_none}
use Rattle.attempts.proofs.Along.{IsAlong, IsTelling, step_quiet}

-- an outcome that is no answer is that of a check
left_by : (x : Option Outcome) (reply : ℕ) (o : Outcome) → outcome_or x reply ≡ o → ((n : ℕ) → o ≢ outcomes.Answered n) → x ≡ Some o
left_by None reply o e other = absurd (other reply (sym e))
left_by (Some y) reply o e other = ap Some e

pub last_same : (fs : List FinishedState) (x y : FinishedState) → fs ++ x ∷ [] ≡ fs ++ y ∷ [] → x ≡ y
last_same [] x y e = cc
last_same (f ∷ fs) x y e = last_same fs x y (let z = e in cc)

module _ {T : Type 0} (m : Meaning) (laws : Laws m) (t : TableState T) (limits : IsWithinLimits t.layout) (allowed : AreAllowed t.requests)
    (old : RunnerState T) (d : ℕ) (thunk : Thunk) (r new : RunnerState T) (own : IsOf t r) (q : RunState) (place word found : ℕ)
    (step : Stepped m q (micros.Release place word) found r new) (is : IsTelling m laws t limits allowed old d thunk r) where
  here : IsAlong m laws t limits allowed old d thunk r q is.learns.more
  here = is.along q step.running

  whole : IsShaped (m.body (thunk_of q.opened))
  whole = shaped m laws t limits allowed r own q step.running

  code_is : (i : ℕ) → micro_at (line_of m q) i ≡ micro_at (line (m.body thunk)) i
  code_is i = ap (λ (x : Thunk). micro_at (line (m.body x)) i) here.thunk_is

  -- the last step tells nothing
  pub last_quiet : new.part.records.known ≡ r.part.records.known
  last_quiet = step_quiet m laws t limits allowed old d thunk r new own q (micros.Release place word) found step is refl

  abbrev setting : Setting
  setting = setting_of r.layout q.descriptor

  abbrev at : Micro
  at = micro_at (line_of m q) q.at

  -- a run that leaves at a check was told nothing
  pub last_left : (outcome : Outcome) → outcome_of m r.layout (ended_more q) ≡ outcome → ((n : ℕ) → outcome ≢ outcomes.Answered n)
      → new.part.records.known ≡ old.part.records.known
  last_left outcome e other = last_quiet ∙ (is.learns.adds ∙ (ap (λ xs. old.part.records.known ++ xs) (none is.learns.more here.told) ∙ append_none old.part.records.known))
    where
      check : is_check at ≡ true
      check = (leaves_left setting q.trail at outcome (left_by _ _ outcome e other)).1

      none : (more : List Known) → (more ≢ [] → (i : ℕ) × (micro_at (line (m.body thunk)) i ≡ micros.StampExchange) × (i < q.at)) → more ≡ []
      none [] told = refl
      none (x ∷ more) told = absurd (
          let there = told (λ e. some e) in
          let third = ap phase (code_is there.0 ∙ there.1) in
          let low = there.2 in
          let rises = (is_in_phases (m.body (thunk_of q.opened)) whole).phases there.0 q.at (omega (arith, low)) in
          let first = early at check in omega (arith, third, rises, first))
        where
          some : x ∷ more ≡ [] → ⊥
          some e = let z = e in cc

          early : (micro : Micro) → is_check micro ≡ true → phase micro ≡ 1
          early micro check = grind arith
