-- Steps that are counted apart, and added up behind.
use Rattle.std.proofs.Common.{◌≡◌, ℕ, ◌+◌, ◌-◌, ◌^◌, ◌≤◌, min, Bool, true, false, sym, ap, subst, ◌∙◌, arith}
use Rattle.idem_cell.specs.machine_states.specs.body_terms.specs.Counted.{counted_on}
use Rattle.idem_cell.specs.machine_states.specs.body_terms.proofs.CountedLemmas.{counts}
use Rattle.idem_cell.specs.runner_gate.specs.Asks.{Asks}
use Rattle.idem_cell.specs.machine_states.specs.structure_laws.specs.Meaning.{Meaning}
use Rattle.idem_alloc.specs.commit_log.specs.version_words.specs.RunnerState.{RunnerState}
use Rattle.idem_alloc.specs.commit_log.specs.Asked.{IsAsked}
use Rattle.idem_alloc.specs.commit_log.specs.Halted.{IsThrough, IsHalted}
use Rattle.section_runs.proofs.Testing.{stood}

pub asked_apart : (n : ℕ) (going : Bool) (halts halts' : ℕ) (asks asks' : Asks) (steps old made steps' : ℕ) → old ≡ steps → old ≤ 2 ^ 64 - 1 → IsAsked n going halts halts' asks asks' 0 made → steps' ≡ min (old + made) (2 ^ 64 - 1)
    → IsAsked n going halts halts' asks asks' steps steps'
asked_apart n going halts halts' asks asks' steps old made steps' same low is sum =
    let some = is.counted ∙ counts 0 n (omega arith) in
    let all : min (old + made) (2 ^ 64 - 1) ≡ min (old + n) (2 ^ 64 - 1) = omega (arith, some, low) in
    record {
      counted = sum ∙ (all ∙ (sym (counts old n low) ∙ ap (λ k. counted_on k n) same));
      asked = is.asked;
      never_falls = is.never_falls;
      went = is.went;
      halted = is.halted;
    }

-- a count that began with none
pub asked_from : (n : ℕ) (going : Bool) (halts halts' : ℕ) (asks asks' : Asks) (old made : ℕ) → old ≡ 0 → IsAsked n going halts halts' asks asks' old made → IsAsked n going halts halts' asks asks' 0 made
asked_from n going halts halts' asks asks' old made none is = subst (λ k. IsAsked n going halts halts' asks asks' k made) none is

-- so it is with what a part of a run tells of its steps
module _ {T : Type 0} (m : Meaning) (most : ℕ) (a b : RunnerState T) (halts halts' : ℕ) (asks asks' : Asks) (steps old made steps' : ℕ) (same : old ≡ steps) (low : old ≤ 2 ^ 64 - 1) where
  pub through_apart : IsThrough m most a b halts halts' asks asks' 0 made → steps' ≡ min (old + made) (2 ^ 64 - 1) → IsThrough m most a b halts halts' asks asks' steps steps'
  through_apart is sum = record { made = is.made; few = is.few; ran = is.ran; asked = asked_apart is.made true halts halts' asks asks' steps old made steps' same low is.asked sum }

  pub halted_apart : IsHalted m most a b halts halts' asks asks' 0 made → steps' ≡ min (old + made) (2 ^ 64 - 1) → IsHalted m most a b halts halts' asks asks' steps steps'
  halted_apart is sum = record { made = is.made; some = is.some; few = is.few; ran = is.ran; asked = asked_apart is.made false halts halts' asks asks' steps old made steps' same low is.asked sum }

-- no step was made and none counted
pub stood_apart : {T : Type 0} (m : Meaning) (r : RunnerState T) (most halts : ℕ) (asks : Asks) (made : ℕ) → made ≡ 0 → IsThrough m most r r halts halts asks asks 0 made
stood_apart m r most halts asks made none = subst (λ k. IsThrough m most r r halts halts asks asks 0 k) (sym none) (stood m r most halts asks 0)
