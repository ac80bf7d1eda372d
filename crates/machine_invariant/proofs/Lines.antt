-- Two bodies with one line have one plain run.
use Rattle.std.proofs.Common.{◌≡◌, ℕ, suc, ◌<◌, List, [], ◌∷◌, length, Some, refl, sym, ap, ◌∙◌, subst, arith}
use Rattle.std.specs.Prelude.{take}
use Rattle.machine_states.specs.body_terms.specs.Line.{line, micro_at, committed}
use Rattle.machine_states.specs.body_terms.specs.Run.{Setting, Run, leaves, ran}
use Rattle.machine_states.specs.body_terms.specs.Shape as shape
use Rattle.machine_states.specs.body_terms.specs.declared.step.Step.{Step}
use Rattle.machine_states.specs.body_terms.specs.declared.step.Step.TheVariants.{Load, Want, Fresh, Take, Make, Stamp, Store, Retire, Answer}
use Rattle.machine_states.specs.body_terms.specs.declared.outcome.Outcome.{Outcome}
use Rattle.machine_states.specs.body_terms.specs.declared.outcome.Outcome.TheVariants.{Answered}
use Rattle.machine_states.specs.body_terms.specs.declared.micro.Micro.{Micro}
use Rattle.machine_states.specs.body_terms.specs.declared.micro.Micro.TheVariants.{End}
use Rattle.agreement_core.specs.section_lines.specs.Line.{phase}
use Rattle.agreement_core.specs.section_lines.specs.Runs.{agreed}
use Rattle.agreement_core.specs.section_lines.proofs.Places.{stands, part_at}
use Rattle.agreement_core.specs.State.{Section}
use Rattle.agreement_core.specs.PlainRuns.{FollowsPlainRun}

-- no end stands within these
abbrev NoEnd : List Micro → Type 0
NoEnd ms = (i : ℕ) → i < length ms → phase (micro_at ms i) < 7

same_lines : (xs ys : List Micro) → NoEnd xs → NoEnd ys → ((i : ℕ) → micro_at xs i ≡ micro_at ys i) → xs ≡ ys
same_lines [] [] inner outer same = refl
same_lines [] (y ∷ ys) inner outer same = absurd (let low = outer 0 (omega arith) in let e : phase End ≡ phase y = ap phase (same 0) in
    omega arith)
same_lines (x ∷ xs) [] inner outer same = absurd (let low = inner 0 (omega arith) in let e : phase x ≡ phase End = ap phase (same 0) in
    omega arith)
same_lines (x ∷ xs) (y ∷ ys) inner outer same =
    let rest = same_lines xs ys (λ i lt. inner (suc i) (omega arith)) (λ i lt. outer (suc i) (omega arith)) (λ i. same (suc i)) in
    ap (λ (m : Micro). m ∷ xs) (same 0) ∙ ap (λ (ms : List Micro). y ∷ ms) rest

step_phase : (step : Step) → shape.phase step < 7
step_phase (Load place into) = omega arith
step_phase (Want reg word) = omega arith
step_phase (Fresh reg) = omega arith
step_phase (Take place word) = omega arith
step_phase (Make init into) = omega arith
step_phase Stamp = omega arith
step_phase (Store reg value) = omega arith
step_phase (Retire slot) = omega arith
step_phase (Answer reply) = omega arith

no_end : (body : List Step) → NoEnd (line body)
no_end body i lt = let there = stands body i lt in
    subst (λ n. n < 7) (sym (part_at body i there).in_phase) (step_phase there.step)

pub lines_same : (b b' : List Step) → ((i : ℕ) → micro_at (line b) i ≡ micro_at (line b') i) → line b ≡ line b'
lines_same b b' same = same_lines (line b) (line b') (no_end b) (no_end b') same

pub follows_same : (s : Section) (b b' : List Step) (setting : Setting) (start : Run) → line b ≡ line b' → FollowsPlainRun s b setting start
    → FollowsPlainRun s b' setting start
follows_same s b b' setting start same old = record {
  so_far = subst (λ (ms : List Micro). (ran setting start (take s.edge ms)).trail ≡ agreed ms s.log s.edge) same old.so_far;
  prefix = subst (λ (ms : List Micro). take (committed ms s.edge) (ran setting start ms).trail ≡ agreed ms s.log s.edge) same old.prefix;
  whole = λ done. subst (λ (ms : List Micro). (ran setting start ms).trail ≡ agreed ms s.log s.edge) same (old.whole done);
  left = λ left. subst (λ (ms : List Micro). (outcome : Outcome)
      × (leaves setting (agreed ms s.log s.edge) (micro_at ms s.edge) ≡ Some outcome)
      × ((ran setting start ms).outcome ≡ Some outcome)) same (old.left left);
  answer = λ answered i reply e. subst (λ (ms : List Micro). (ran setting start ms).outcome ≡ Some (Answered reply)) same
      (old.answer answered i reply e);
}
