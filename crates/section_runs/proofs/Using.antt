-- The registers that a step uses are kept, and their words are agreed.
use Rattle.std.proofs.Common.{◌≡◌, ◌≢◌, ℕ, zero, suc, ◌<◌, ◌≤◌, List, [], ◌∷◌, length, Bool, true, false, refl, sym, ap, ◌∙◌, subst, arith, ⊎_elim, Some}
use Rattle.std.specs.Prelude.{◌⊎◌, cond, slice_index, slice_index_or, Result, Ok, Err, is_err}
use Rattle.idem_cell.specs.machine_states.specs.body_terms.specs.Act.{IsLogged}
use Rattle.idem_cell.specs.machine_states.specs.body_terms.specs.Line.{registers_before}
use Rattle.idem_cell.specs.machine_states.specs.body_terms.specs.Shape.{IsStep, IsShaped, SetBefore, used_values}
use Rattle.idem_cell.specs.machine_states.specs.body_terms.specs.declared.outcome.Outcome.{Outcome}
use Rattle.idem_cell.specs.machine_states.specs.body_terms.specs.declared.outcome.Outcome.TheVariants as outcomes
use Rattle.idem_cell.specs.machine_states.specs.body_terms.specs.declared.outcome.Refused.{Refused}
use Rattle.idem_cell.specs.machine_states.specs.body_terms.specs.declared.step.Step.{Step}
use Rattle.idem_cell.specs.machine_states.specs.body_terms.specs.declared.step.Step.TheVariants.{Load, Make}
use Rattle.idem_cell.specs.machine_states.specs.body_terms.specs.declared.value.Value.{Value}
use Rattle.idem_cell.specs.machine_states.specs.body_terms.specs.declared.value.Value.TheVariants.{Const, Of, Made}
use Rattle.idem_cell.specs.machine_states.specs.body_terms.proofs.RegisterLemmas.{logged}
use Rattle.idem_cell.specs.section_lines.proofs.Places.{step_inside}
use Rattle.nested_lock.specs.Answers.{outcome_at}
use Rattle.section_runs.specs.Registers.{IsSmall}
use Rattle.section_runs.specs.Takes.{passed_by}
use Rattle.section_runs.specs.declared.passed.Passed.{Passed}
use Rattle.section_runs.specs.declared.passed.Passed.TheVariants.{On, Left, Halted}

-- a value that a step uses
pub record IsUsed (body : List Step) (n : ℕ) (value : Value) : Type 0 where
  pub logged : IsLogged (registers_before body n) (registers_before body n).count value
  pub small : IsSmall value

module _ (body : List Step) (shaped : IsShaped body) (n : ℕ) where
  set_small : (value : Value) → SetBefore body n value → IsSmall value
  set_small (Const number) before = tt
  set_small (Of reg) before = shaped.within before.by (Load before.place reg) before.loads 0 reg (omega arith)
  set_small (Made reg) before = shaped.within before.by (Make before.init reg) before.makes 0 reg (omega arith)

  used_by : (value : Value) → n ≤ length body → SetBefore body n value → IsUsed body n value
  used_by value within before = record { logged = logged body shaped n value within before; small = set_small value before }

  pub used_at : (step : Step) (k : ℕ) → IsStep body n step → IsUsed body n (slice_index_or (used_values step) k (Const 0))
  used_at step k here = ⊎_elim
      (λ low. used_by (slice_index_or (used_values step) k (Const 0)) (let i = step_inside body n step here in omega (arith, i)) (shaped.used n step here k (Const 0) low))
      (λ high. subst (IsUsed body n) (sym (past (used_values step) k high)) (record { logged = tt; small = tt }))
      (order k (length (used_values step)))
    where
      order : (k n : ℕ) → (k < n) ⊎ (n ≤ k)
      order k n = search arith

      past : (xs : List Value) (k : ℕ) → length xs ≤ k → slice_index_or xs k (Const 0) ≡ Const 0
      past [] k high = refl
      past (x ∷ xs) zero high = absurd (omega (arith, high))
      past (x ∷ xs) (suc k) high = past xs k (omega (arith, high))

-- five values, one for each cell
pub five : (f : ℕ → ℕ) (a b c d e : ℕ) → a ≡ f 0 → b ≡ f 1 → c ≡ f 2 → d ≡ f 3 → e ≡ f 4 → (cell : ℕ) → cell < 5 → slice_index (a ∷ b ∷ c ∷ d ∷ e ∷ []) cell ≡ f cell
five f a b c d e p0 p1 p2 p3 p4 zero low = p0
five f a b c d e p0 p1 p2 p3 p4 (suc zero) low = p1
five f a b c d e p0 p1 p2 p3 p4 (suc (suc zero)) low = p2
five f a b c d e p0 p1 p2 p3 p4 (suc (suc (suc zero))) low = p3
five f a b c d e p0 p1 p2 p3 p4 (suc (suc (suc (suc zero)))) low = p4
five f a b c d e p0 p1 p2 p3 p4 (suc (suc (suc (suc (suc cell))))) low = absurd (omega (arith, low))

-- a Take's answer, by what the run does then
pub on_ok : (place : ℕ) (answer : Result (Unit {0}) Refused) → passed_by place answer ≡ On → is_err answer ≡ false
on_ok place (Ok taken) e = refl
on_ok place (Err refused) e = absurd (let z = e in cc)

pub left_some : (place : ℕ) (answer : Result (Unit {0}) Refused) (o : Outcome) → passed_by place answer ≡ Left o → outcome_at place answer ≡ Some o
left_some place (Ok taken) o e = absurd (let z = e in cc)
left_some place (Err refused) o e = ap (λ (p : Passed). Some (outcome_in p)) e
  where
    outcome_in : Passed → Outcome
    outcome_in (Left o) = o
    outcome_in _ = outcomes.Answered 0

-- what a call without an outcome gave
pub going_on : (b : Bool) (p : Passed) → p ≡ cond b On Halted → p ≡ On → b ≡ true
going_on true p e on = refl
going_on false p e on = absurd (let z = sym e ∙ on in cc)

pub going_not : (b : Bool) (p : Passed) → p ≡ cond b On Halted → p ≡ Halted → b ≡ false
going_not true p e halted = absurd (let z = sym e ∙ halted in cc)
going_not false p e halted = refl

pub going_still : (b : Bool) (p : Passed) → p ≡ cond b On Halted → p ≢ Halted → b ≡ true
going_still true p e still = refl
going_still false p e still = absurd (still e)

pub never_left : (b : Bool) (p : Passed) (o : Outcome) → p ≡ cond b On Halted → p ≡ Left o → ⊥
never_left true p o e left = let z = sym e ∙ left in cc
never_left false p o e left = let z = sym e ∙ left in cc

pub on_not_halted : (p : Passed) → p ≡ On → p ≡ Halted → ⊥
on_not_halted p on halted = let z = sym on ∙ halted in cc

pub left_not_halted : (p : Passed) (o : Outcome) → p ≡ Left o → p ≡ Halted → ⊥
left_not_halted p o left halted = let z = sym left ∙ halted in cc
