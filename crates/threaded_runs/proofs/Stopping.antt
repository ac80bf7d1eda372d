-- What a worker keeps of the word at which it stopped, since too few versions were left behind it.
use Rattle.std.specs.Prelude.{◌⊎◌, true, slice_get}
use Rattle.std.proofs.Common.{◌≡◌, ℕ, ap, ◌∙◌, inl, inr, Some}
use Rattle.machine_states.specs.map_history.specs.declared.op.Request.{Request}
use Rattle.machine_states.specs.body_terms.specs.Word.{is_free}
use Rattle.machine_states.specs.body_terms.specs.declared.outcome.Outcome.TheVariants as outcomes
use Rattle.machine_states.specs.structure_laws.specs.Meaning.{Meaning}
use Rattle.machine_states.specs.runner_parts.specs.State.{FinishedState}
use Rattle.machine_states.specs.runner_parts.specs.Tests.{has_pair}
use Rattle.version_words.specs.RunnerState.{RunnerState}
use Rattle.settled_tables.specs.settling.specs.try_lock.specs.Planning.{Planning}
use Rattle.free_serving.specs.serving.specs.attempts.specs.Course.{IsRefused}
use Rattle.free_serving.specs.serving.specs.attempts.specs.Attempts.{IsTurnedAway}
use Rattle.free_serving.specs.serving.specs.attempts.specs.declared.answers.Attempt.TheVariants as attempts
use Rattle.free_serving.specs.lock_words.specs.Spent.{IsLate}
use Rattle.free_serving.specs.serving.proofs.Spent.{spent_is_kept}

module _ {T : Type 0} where
  -- the runner has read the word since it entered, it is a lock's and free, and fewer than two versions are left behind it; or a section that it has run to its end left by it
  abbrev pub IsKeptSpent : Meaning → RunnerState T → ℕ → ℕ → Type 0
  IsKeptSpent m r place word = ((m.is_lock place ≡ true) × (is_free word ≡ true) × IsLate r.layout word × (has_pair r.part.reads.cells place word ≡ true))
      ⊎ ((i : ℕ) × (f : FinishedState) × (slice_get r.part.records.finished i ≡ Some f) × (f.outcome ≡ outcomes.Spent place word))

  module _ (m : Meaning) (planning : Planning) (request : Request) (place word : ℕ) (old new : RunnerState T)
      (away : IsTurnedAway m planning request (attempts.Spent place word) old new) where
    of_cut : IsRefused m planning request (attempts.Spent place word) old away.cut → away.cut.layout ≡ old.layout
    of_cut (inl plan) = plan.plans.still.layout
    of_cut (inr (inl lock)) = ap (λ (y : RunnerState T). y.layout) lock.lets_go.event.made ∙ lock.tries.still.layout
    of_cut (inr (inr section)) = let run = section.left.run in
        ap (λ (y : RunnerState T). y.layout) run.lets_go.event.made ∙ (run.ended.ends.layout ∙ run.ended.tries.still.layout)

    same_layout : new.layout ≡ old.layout
    same_layout = ap (λ (y : RunnerState T). y.layout) away.leaves.announce.event.made ∙ of_cut away.cause

    pub kept_spent : IsKeptSpent m new place word
    kept_spent = spent_is_kept m planning request place word old new same_layout away
