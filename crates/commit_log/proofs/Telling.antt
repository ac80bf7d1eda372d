-- Steps that are counted apart, and told in the end.
use Rattle.std.proofs.Common.{◌≡◌, ℕ, zero, suc, ◌+◌, ◌-◌, ◌^◌, ◌≤◌, min, Bool, refl, sym, ap, ◌∙◌, arith}
use Rattle.machine_states.specs.body_terms.specs.Counted.{counted_on}
use Rattle.runner_gate.specs.Asks.{Asks, asked_on}
use Rattle.machine_states.specs.body_terms.proofs.CountedLemmas.{counts}
use Rattle.commit_log.specs.Asked.{IsAsked}

-- a count after some more, wherever it stood
pub counts_some : (count n : ℕ) → counted_on count (suc n) ≡ min (count + suc n) (2 ^ 64 - 1)
counts_some count zero = omega arith
counts_some count (suc n) = ap (λ k. min (k + 1) (2 ^ 64 - 1)) (counts_some count n) ∙ omega arith

-- as many more as were counted from none
some_apart : (count n made : ℕ) → counted_on 0 n ≡ made → counted_on count made ≡ counted_on count n
some_apart count zero zero e = refl
some_apart count zero (suc made) e = absurd (omega (arith, e))
some_apart count (suc n) zero e = absurd (let some = counts_some 0 n in omega (arith, e, some))
some_apart count (suc n) (suc made) e = let some = counts_some 0 n in counts_some count made ∙ ((omega (arith, e, some)) ∙ sym (counts_some count n))

pub told : (n : ℕ) (going : Bool) (halts halts' : ℕ) (asks asks' asks2 asks3 : Asks) (steps steps' made : ℕ) → halts' ≡ halts → asks3 ≡ asked_on asks2 made
    → steps ≤ 2 ^ 64 - 1 → steps' ≡ min (steps + made) (2 ^ 64 - 1) → IsAsked n going 0 0 asks asks' 0 made
    → IsAsked n going halts halts' asks2 asks3 steps steps'
told n going halts halts' asks asks' asks2 asks3 steps steps' made same all low sum is = record {
  counted = sum ∙ (sym (counts steps made low) ∙ some_apart steps n made (sym is.counted));
  asked = all ∙ ap (λ (c : ℕ). record asks2 { count = c }) (some_apart asks2.count n made (sym is.counted));
  never_falls = omega (arith, same);
  went = λ e. same;
  halted = λ e. absurd (let rose = is.halted e in omega (arith, rose));
}
