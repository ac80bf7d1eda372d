-- A Want or a Fresh: no step is made, and the run goes on or leaves by an agreed word.
use Rattle.std.proofs.Common.{◌≡◌, ℕ, suc, ◌+◌, true, false, refl, ap, ◌∙◌, arith, Option, Some, None}
use Rattle.std.specs.Prelude.{take}
use Rattle.idem_cell.specs.machine_states.specs.body_terms.specs.declared.outcome.Outcome.{Outcome}
use Rattle.idem_cell.specs.machine_states.specs.body_terms.specs.declared.step.Step.{Step}
use Rattle.idem_cell.specs.machine_states.specs.body_terms.specs.declared.step.Step.TheVariants.{Want, Fresh}
use Rattle.idem_cell.specs.machine_states.specs.body_terms.specs.Line.{Registers, micros, micro_at, begins, log_words, is_event, registers_before, releases}
use Rattle.idem_cell.specs.machine_states.specs.body_terms.specs.Run.{Setting, leaves}
use Rattle.idem_cell.specs.machine_states.specs.body_terms.specs.Shape.{IsStep}
use Rattle.idem_cell.specs.machine_states.specs.body_terms.proofs.LineLemmas.{micro_within, registers_before_next, count_after}
use Rattle.idem_cell.specs.runner_gate.specs.Asks.{Asks}
use Rattle.idem_cell.specs.section_lines.specs.Rests.{is_test}
use Rattle.idem_cell.specs.section_lines.proofs.Progress.{some_micros}
use Rattle.idem_cell.specs.section_lines.proofs.Resting.{run_rests}
use Rattle.idem_cell.specs.machine_states.specs.structure_laws.specs.Meaning.{Meaning}
use Rattle.idem_cell.specs.machine_states.specs.runner_parts.specs.State.{RunState}
use Rattle.idem_cell.specs.machine_states.specs.runner_steps.specs.Sections.{line_of, setting_of, outcome_or, reply_in}
use Rattle.idem_alloc.specs.commit_log.specs.version_words.specs.RunnerState.{RunnerState}
use Rattle.idem_alloc.specs.commit_log.specs.Halted.{IsThrough}
use Rattle.idem_alloc.specs.commit_log.proofs.Asked.{asked_none}
use Rattle.section_runs.specs.Reached.{run_of}
use Rattle.section_runs.specs.Bodies.{body_of, IsBefore, IsOver}

-- a check alone agrees on nothing
no_words : (step : Step) → is_test step ≡ true → log_words step ≡ 0
no_words (Want reg word) test = refl
no_words (Fresh reg) test = refl
no_words _ test = absurd (let z = test in cc)

check_first : (g : Registers) (step : Step) → is_test step ≡ true → is_event (micro_at (micros g step) 0) ≡ false
check_first g (Want reg word) test = refl
check_first g (Fresh reg) test = refl
check_first g _ test = absurd (let z = test in cc)

module _ {T : Type 0} (m : Meaning) (r : RunnerState T) where
  abbrev q : RunState
  q = run_of r

  abbrev s : Setting
  s = setting_of r.layout q.descriptor

  module _ (n : ℕ) (step : Step) (before : IsBefore m n r) (here : IsStep (body_of m r) n step) (test : is_test step ≡ true) where
    first_at : micro_at (line_of m q) (begins (body_of m r) n) ≡ micro_at (micros (registers_before (body_of m r) n) step) 0
    first_at = ap (micro_at (line_of m q)) (let e : begins (body_of m r) n ≡ begins (body_of m r) n + 0 = omega arith in e)
        ∙ micro_within (body_of m r) n 0 step here (some_micros step)

    -- how the run leaves there
    abbrev left : Option Outcome
    left = leaves s q.trail (micro_at (micros (registers_before (body_of m r) n) step) 0)

    pub goes : left ≡ None → IsBefore m (suc n) r
    goes none = record {
      running = before.running;
      at = before.at ∙ (run_rests s q.trail (body_of m r)).behind n step here test (ap (leaves s q.trail) first_at ∙ none);
      count = before.count ∙ (let w = no_words step test in
          let z = ap (λ (g : Registers). g.count) (registers_before_next (body_of m r) n step here) ∙ count_after (registers_before (body_of m r) n) step in omega (arith, w, z));
      none = before.none;
      unended = before.unended;
      room = before.room;
    }

    pub over : (outcome : Outcome) → left ≡ Some outcome → IsOver m n outcome r
    over outcome e =
        let leaves_here = ap (leaves s q.trail) first_at ∙ e in
        let at : q.at ≡ begins (body_of m r) n = before.at ∙ (run_rests s q.trail (body_of m r)).at n step outcome here leaves_here in
        record {
          running = before.running;
          unended = before.unended;
          none = before.none;
          no_event = ap (λ k. is_event (micro_at (line_of m q) k)) at ∙ (ap is_event first_at ∙ check_first (registers_before (body_of m r) n) step test);
          locks = ap (λ k. releases (take k (line_of m q))) (at ∙ (let z : begins (body_of m r) n ≡ begins (body_of m r) n + 0 = omega arith in z))
              ∙ (run_rests s q.trail (body_of m r)).taken n 0 step here (some_micros step);
          outcome = ap (λ k. outcome_or (leaves s q.trail (micro_at (line_of m q) k)) (reply_in (body_of m r))) at
              ∙ ap (λ (o : Option Outcome). outcome_or o (reply_in (body_of m r))) leaves_here;
        }

  -- no step was made
  pub stood : (most halts : ℕ) (asks : Asks) (steps : ℕ) → IsThrough m most r r halts halts asks asks steps steps
  stood most halts asks steps = record { made = 0; few = omega arith; ran = refl; asked = asked_none halts asks steps }
