-- Asking on.
use Rattle.std.proofs.Common.{◌≡◌, ℕ, zero, suc, min, ◌+◌, ◌-◌, ◌^◌, ◌≤◌, Bool, true, refl, subst, ap, ◌∙◌, arith}
use Rattle.machine_states.specs.body_terms.specs.Counted.{counted_on}
use Rattle.runner_gate.specs.Asks.{Asks, asked_on, HaltedOnce}
use Rattle.commit_log.specs.Asked.{IsAsked}

pub counted_more : (count n k : ℕ) → counted_on (counted_on count n) k ≡ counted_on count (n + k)
counted_more count n zero = let e : n ≡ n + 0 = omega arith in ap (counted_on count) e
counted_more count n (suc k) = ap (λ c. min (c + 1) (2 ^ 64 - 1)) (counted_more count n k) ∙ (let e : suc (n + k) ≡ n + suc k = omega arith in ap (counted_on count) e)

-- and asks
pub asked_on_more : (asks : Asks) (n k : ℕ) → asked_on (asked_on asks n) k ≡ asked_on asks (n + k)
asked_on_more asks n k = ap (λ (c : ℕ). record asks { count = c }) (counted_more asks.count n k)

-- nothing was counted and nothing asked yet
pub asked_none : (halts : ℕ) (asks : Asks) (steps : ℕ) → IsAsked 0 true halts halts asks asks steps steps
asked_none halts asks steps = record {
  counted = refl;
  asked = refl;
  never_falls = omega arith;
  went = λ e. refl;
  halted = λ e. absurd (let z = e in cc);
}

-- so many and then more
pub asked_more : (n k : ℕ) (going : Bool) (halts halts' halts'' : ℕ) (asks asks' asks'' : Asks) (steps steps' steps'' : ℕ)
    → IsAsked n true halts halts' asks asks' steps steps' → IsAsked k going halts' halts'' asks' asks'' steps' steps''
    → IsAsked (n + k) going halts halts'' asks asks'' steps steps''
asked_more n k going halts halts' halts'' asks asks' asks'' steps steps' steps'' one two =
    let same = one.went refl in
    record {
      counted = two.counted ∙ (ap (λ c. counted_on c k) one.counted ∙ counted_more steps n k);
      asked = two.asked ∙ (ap (λ a. asked_on a k) one.asked ∙ asked_on_more asks n k);
      never_falls = subst (λ h. h ≤ halts'') same two.never_falls;
      went = λ e. two.went e ∙ same;
      halted = λ e. subst (λ h. HaltedOnce h halts'') same (two.halted e);
    }

pub asked_as : (n k : ℕ) → n ≡ k → (going : Bool) (halts halts' : ℕ) (asks asks' : Asks) (steps steps' : ℕ) → IsAsked n going halts halts' asks asks' steps steps'
    → IsAsked k going halts halts' asks asks' steps steps'
asked_as n k e going halts halts' asks asks' steps steps' is = subst (λ i. IsAsked i going halts halts' asks asks' steps steps') e is
