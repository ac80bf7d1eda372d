-- A section that left at a check has committed no Make and no Retire.
use Rattle.std.proofs.Common.{◌≡◌, ℕ, zero, suc, ◌<◌, ◌≤◌, Bool, true, false, cond, List, [], ◌∷◌, length, refl, ap, ◌∙◌, ⊎_elim, arith}
use Rattle.std.proofs.lemmas.Bool.{cases_lt}
use Rattle.machine_states.specs.body_terms.specs.Line.{line, micro_at, is_commit}
use Rattle.machine_states.specs.body_terms.specs.declared.step.Step.{Step}
use Rattle.machine_states.specs.body_terms.specs.declared.micro.Micro.{Micro}
use Rattle.machine_states.specs.body_terms.specs.declared.micro.Micro.TheVariants.{Commit, NestedCommit, OutcomeCommit, MakeCommit, RetireCommit}
use Rattle.agreement_core.specs.section_lines.specs.Line.{phase, IsCounted}
use Rattle.machine_states.specs.epoch_core.specs.State.{Agrees}
use Rattle.machine_states.specs.epoch_core.specs.History.{is_makes, is_retires, agreed_slot, agreed_count}
use Rattle.machine_blocks.specs.machine_guards.specs.machine_agreement.specs.machine_epochs.specs.Roles.{role_at}
use Rattle.machine_blocks.specs.machine_guards.specs.machine_agreement.specs.machine_epochs.proofs.Roles.{load_role, nested_role, outcome_role}

-- a step of a line that commits to this place of the log
record CommitsTo (code : ℕ → Micro) (slot : ℕ → ℕ) (edge k : ℕ) : Type 0 where
  pub at : ℕ
  pub below : at < edge
  pub commits : is_commit (code at) ≡ true
  pub here : slot at ≡ k

-- each word of the log that is agreed below a place was committed by a step below it
committed_by : (code : ℕ → Micro) (slot : ℕ → ℕ) → IsCounted code slot → (edge k : ℕ) → k < slot edge → CommitsTo code slot edge k
committed_by code slot counted zero k lt = absurd (let none = counted.slot_start in omega arith)
committed_by code slot counted (suc edge) k lt = ⊎_elim
    (λ early. let before = committed_by code slot counted edge k early in record {
      at = before.at;
      below = let low = before.below in omega arith;
      commits = before.commits;
      here = before.here;
    })
    (λ late. by late (is_commit (code edge)) refl)
    (cases_lt k (slot edge))
  where
    by : slot edge ≤ k → (b : Bool) → is_commit (code edge) ≡ b → CommitsTo code slot (suc edge) k
    by late true commit = record {
      at = edge;
      below = omega arith;
      commits = commit;
      here = let one = counted.slot_commit edge commit in omega arith;
    }
    by late false commit = absurd (let same = counted.slot_same edge commit in omega arith)

module _ (body : List Step) (slot : ℕ → ℕ) (counted : IsCounted (micro_at (line body)) slot) where
  -- in the first phase only loaded words are committed
  early_role : (i k : ℕ) (x : Micro) → micro_at (line body) i ≡ x → is_commit x ≡ true → phase x ≤ 1 → slot i ≡ k → role_at body k ≡ Agrees
  early_role i k (Commit place log) is commit early here = load_role body i place k
      (is ∙ ap (λ n. Commit place n) (counted.commit_log i place log is ∙ here))
  early_role i k (NestedCommit place log) is commit early here = nested_role body i place k
      (is ∙ ap (λ n. NestedCommit place n) (counted.nested_log i place log is ∙ here))
  early_role i k (OutcomeCommit place log) is commit early here = outcome_role body i place k
      (is ∙ ap (λ n. OutcomeCommit place n) (counted.outcome_log i place log is ∙ here))
  early_role i k (MakeCommit log) is commit early here = absurd (omega arith)
  early_role i k (RetireCommit slot' log) is commit early here = absurd (omega arith)
  early_role i k x is commit early here = absurd (let no : ⊥ = cc in no)

  -- where the steps below a place are of the first phase, and no further word is agreed, nothing is won
  module _ (edge : ℕ) (early : (i : ℕ) → i < edge → phase (micro_at (line body) i) ≤ 1) (log : ℕ → ℕ)
      (empty : (k : ℕ) → slot edge ≤ k → log k ≡ 0) where
    pub none_made : (k : ℕ) → cond (is_makes (role_at body k)) (agreed_slot (log k)) [] ≡ []
    none_made k = ⊎_elim
        (λ lt. let x = committed_by (micro_at (line body)) slot counted edge k lt in
        ap (λ role. cond (is_makes role) (agreed_slot (log k)) []) (early_role x.at k _ refl x.commits (early x.at x.below) x.here))
        (λ ge. none_there (is_makes (role_at body k)) (log k) (empty k ge)) (cases_lt k (slot edge))
      where
        none_there : (b : Bool) (word : ℕ) → word ≡ 0 → cond b (agreed_slot word) [] ≡ []
        none_there b word e = grind arith

    pub none_retired : (k : ℕ) → cond (is_retires (role_at body k)) (agreed_count (log k)) 0 ≡ 0
    none_retired k = ⊎_elim
        (λ lt. let x = committed_by (micro_at (line body)) slot counted edge k lt in
        ap (λ role. cond (is_retires role) (agreed_count (log k)) 0) (early_role x.at k _ refl x.commits (early x.at x.below) x.here))
        (λ ge. none_there (is_retires (role_at body k)) (log k) (empty k ge)) (cases_lt k (slot edge))
      where
        none_there : (b : Bool) (word : ℕ) → word ≡ 0 → cond b (agreed_count word) 0 ≡ 0
        none_there b word e = grind arith

pub empty_of : (xs : List ℕ) → length xs ≡ 0 → xs ≡ []
empty_of [] e = refl
empty_of (x ∷ xs) e = absurd (omega arith)
