-- What stands at a place of a line commits what the body's roles say.
use Rattle.std.specs.Prelude.{slice_index_or}
use Rattle.std.proofs.Common.{◌≡◌, ℕ, zero, suc, ◌+◌, ◌-◌, ◌<◌, ◌≤◌, List, [], ◌∷◌, ◌++◌, length, take, refl, sym, ap, ◌∙◌, subst, arith, add-zero}
use Rattle.machine_states.specs.body_terms.specs.declared.step.Step.{Step}
use Rattle.machine_states.specs.body_terms.specs.declared.step.Step.TheVariants.{Load, Want, Fresh, Take, Make, Stamp, Store, Retire, Answer}
use Rattle.machine_states.specs.body_terms.specs.declared.micro.Micro.{Micro}
use Rattle.machine_states.specs.body_terms.specs.declared.micro.Micro.TheVariants as micros
use Rattle.machine_states.specs.body_terms.specs.Line.{Registers, no_registers, registers_after, registers_through, line, micro_at}
use Rattle.machine_states.specs.body_terms.specs.Shape.{IsStep}
use Rattle.section_lines.proofs.Sources.{of_load, of_take, of_make, of_retire}
use Rattle.machine_states.specs.epoch_core.specs.State.{Role, Agrees, Makes, Retires}
use Rattle.machine_epochs.specs.Roles.{step_roles, body_roles, role_at}

index_left : (xs ys : List Role) (j : ℕ) → j < length xs → slice_index_or (xs ++ ys) j Agrees ≡ slice_index_or xs j Agrees
index_left [] ys j h = absurd (omega arith)
index_left (x ∷ xs) ys zero h = refl
index_left (x ∷ xs) ys (suc j) h = index_left xs ys j (omega arith)

index_right : (xs ys : List Role) (j k : ℕ) → k ≡ length xs + j → slice_index_or (xs ++ ys) k Agrees ≡ slice_index_or ys j Agrees
index_right [] ys j k e = ap (λ n. slice_index_or ys n Agrees) (let h : k ≡ j = omega arith in h)
index_right (x ∷ xs) ys j zero e = absurd (omega arith)
index_right (x ∷ xs) ys j (suc k) e = index_right xs ys j k (omega arith)

count_more : (g : Registers) (step : Step) → (registers_after g step).count ≡ g.count + length (step_roles step)
count_more g (Load place into) = refl
count_more g (Want reg word) = sym (add-zero g.count)
count_more g (Fresh reg) = sym (add-zero g.count)
count_more g (Take place word) = refl
count_more g (Make init into) = refl
count_more g Stamp = sym (add-zero g.count)
count_more g (Store reg value) = sym (add-zero g.count)
count_more g (Retire slot) = refl
count_more g (Answer reply) = sym (add-zero g.count)

count_least : (g : Registers) (steps : List Step) → g.count ≤ (registers_through g steps).count
count_least g [] = omega arith
count_least g (step ∷ steps) = let more = count_more g step in let rest = count_least (registers_after g step) steps in omega arith

-- the words that a step commits stand in the roles behind those of the steps before
role_of_step : (g : Registers) (body : List Step) (n : ℕ) (step : Step) (j k : ℕ) → IsStep body n step → j < length (step_roles step)
    → k + g.count ≡ (registers_through g (take n body)).count + j → slice_index_or (body_roles body) k Agrees ≡ slice_index_or (step_roles step) j Agrees
role_of_step g [] n step j k here h e = absurd (let x = here in cc)
role_of_step g (first ∷ steps) zero step j k here h e =
    let same : first ≡ step = grind arith in
    let at : k ≡ j = omega arith in
    ap (λ i. slice_index_or (step_roles first ++ body_roles steps) i Agrees) at
    ∙ (index_left (step_roles first) (body_roles steps) j (subst (λ (s : Step). j < length (step_roles s)) (sym same) h)
    ∙ ap (λ (s : Step). slice_index_or (step_roles s) j Agrees) same)
role_of_step g (first ∷ steps) (suc n) step j k here h e =
    let more = count_more g first in
    let least = count_least (registers_after g first) (take n steps) in
    index_right (step_roles first) (body_roles steps) (k - length (step_roles first)) k (omega arith)
    ∙ role_of_step (registers_after g first) steps n step j (k - length (step_roles first)) here h (omega arith)

module _ (body : List Step) where
  abbrev code : ℕ → Micro
  code i = micro_at (line body) i

  pub make_role : (i k : ℕ) → code i ≡ micros.MakeCommit k → role_at body k ≡ Makes
  make_role i k e =
      let o = of_make body i (micros.MakeCommit k) e refl in
      let same : micros.MakeCommit k ≡ micros.MakeCommit (registers_through no_registers (take o.2.from.n body)).count = o.2.same in
      let at : k ≡ (registers_through no_registers (take o.2.from.n body)).count = grind arith in
      role_of_step no_registers body o.2.from.n (Make o.0 o.1) 0 k o.2.from.here (omega arith) (omega arith)

  pub retire_role : (i s k : ℕ) → code i ≡ micros.EpochForRetire s k → role_at body k ≡ Retires s
  retire_role i s k e =
      let o = of_retire body i (micros.EpochForRetire s k) e refl in
      let same : micros.EpochForRetire s k ≡ micros.EpochForRetire o.0 (registers_through no_registers (take o.1.from.n body)).count = o.1.same in
      let at : k ≡ (registers_through no_registers (take o.1.from.n body)).count = grind arith in
      let slot : s ≡ o.0 = grind arith in
      role_of_step no_registers body o.1.from.n (Retire o.0) 0 k o.1.from.here (omega arith) (omega arith) ∙ ap Retires (sym slot)

  pub load_role : (i p k : ℕ) → code i ≡ micros.Commit p k → role_at body k ≡ Agrees
  load_role i p k e =
      let o = of_load body i (micros.Commit p k) e refl in
      let same : micros.Commit p k ≡ micros.Commit o.0 (registers_through no_registers (take o.2.from.n body)).count = o.2.same in
      let at : k ≡ (registers_through no_registers (take o.2.from.n body)).count = grind arith in
      role_of_step no_registers body o.2.from.n (Load o.0 o.1) 0 k o.2.from.here (omega arith) (omega arith)

  pub nested_role : (i p k : ℕ) → code i ≡ micros.NestedCommit p k → role_at body k ≡ Agrees
  nested_role i p k e =
      let o = of_take body i (micros.NestedCommit p k) e refl in
      let same : micros.NestedCommit p k ≡ micros.NestedCommit o.0 (registers_through no_registers (take o.2.from.n body)).count = o.2.same in
      let at : k ≡ (registers_through no_registers (take o.2.from.n body)).count = grind arith in
      role_of_step no_registers body o.2.from.n (Take o.0 o.1) 0 k o.2.from.here (omega arith) (omega arith)

  pub outcome_role : (i p k : ℕ) → code i ≡ micros.OutcomeCommit p k → role_at body k ≡ Agrees
  outcome_role i p k e =
      let o = of_take body i (micros.OutcomeCommit p k) e refl in
      let same : micros.OutcomeCommit p k ≡ micros.OutcomeCommit o.0 ((registers_through no_registers (take o.2.from.n body)).count + 1) = o.2.same in
      let at : k ≡ (registers_through no_registers (take o.2.from.n body)).count + 1 = grind arith in
      role_of_step no_registers body o.2.from.n (Take o.0 o.1) 1 k o.2.from.here (omega arith) (omega arith)
