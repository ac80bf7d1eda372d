-- The outcomes of the runs that came to their end.
use Rattle.std.specs.Prelude.{◌≡◌, ◌≢◌, ℕ, true, slice_get, Some}
use Rattle.machine_states.specs.body_terms.specs.Line.{line}
use Rattle.machine_states.specs.body_terms.specs.Run.{Run, ran}
use Rattle.machine_states.specs.body_terms.specs.declared.outcome.Outcome.TheVariants.{Answered}
use Rattle.machine_states.specs.table_words.specs.declared.layout.Layout.{Layout}
use Rattle.machine_states.specs.structure_laws.specs.Meaning.{Meaning}
use Rattle.machine_states.specs.runner_parts.specs.State.{FinishedState}
use Rattle.machine_states.specs.runner_steps.specs.Sections.{reply_in}
use Rattle.agreement_core.specs.State.{AgreementState}
use Rattle.agreement_core.specs.PlainRuns.{chosen, IsOver}
use Rattle.machine_states.specs.Sight.{Sight}
use Rattle.machine_invariant.specs.machine_blocks.specs.machine_guards.specs.machine_agreement.specs.machine_scenes.specs.Shown.{rules_of}
use Rattle.machine_invariant.specs.Trails.{thunk_at, IsEndOf}
use Rattle.machine_invariant.specs.Sections.{IsAnswered, IsLeft}

module _ (m : Meaning) (l : Layout) (a : AgreementState) (s : Sight) where
  -- the plain run of the section's body that this descriptor has, with the choices that its log
  -- tells, over the cells of this start
  abbrev pub plain_run : ℕ → ℕ → (ℕ → ℕ → ℕ) → ℕ → Run → Run
  plain_run d fixed_cells first clock start =
      ran (chosen (rules_of m l) d (a.section d) fixed_cells first clock) start
      (line (m.body (thunk_at m a s d)))

  -- what is kept of runs that came to their end
  pub record OutcomesAgree : Type 0 where
    -- until the section's descriptor is free again, the kept outcome and the kept trail are those
    -- of the plain run of its body
    pub outcome : (r d fixed_cells : ℕ) (f : FinishedState)
        (first : ℕ → ℕ → ℕ) (clock : ℕ) (start : Run) → a.used d ≡ true
        → IsEndOf m a s r d f → IsOver (a.section d) start
        → (plain_run d fixed_cells first clock start).outcome ≡ Some f.outcome
    pub trail : (r d fixed_cells : ℕ) (f : FinishedState)
        (first : ℕ → ℕ → ℕ) (clock : ℕ) (start : Run) → a.used d ≡ true
        → IsEndOf m a s r d f → IsOver (a.section d) start
        → (plain_run d fixed_cells first clock start).trail ≡ f.trail
    -- the outcome is the body's answer where the section answered, and no answer where it left
    pub answered : (r d : ℕ) (f : FinishedState) → a.used d ≡ true → IsEndOf m a s r d f
        → IsAnswered m a s d
        → f.outcome ≡ Answered (reply_in (m.body (thunk_at m a s d)))
    pub left : (r d reply : ℕ) (f : FinishedState) → a.used d ≡ true → IsEndOf m a s r d f
        → IsLeft m a s d → f.outcome ≢ Answered reply
    -- any two kept runs of one section have the same outcome, for good
    pub equal : (r r' i i' : ℕ) (f f' : FinishedState)
        → slice_get (s.part r).records.finished i ≡ Some f
        → slice_get (s.part r').records.finished i' ≡ Some f' → f.lock ≡ f'.lock → f.word ≡ f'.word
        → f.outcome ≡ f'.outcome
