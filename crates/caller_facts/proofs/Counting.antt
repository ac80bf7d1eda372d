-- Asking a gate, step by step.
use Rattle.std.specs.Prelude.{Bool, true}
use Rattle.std.proofs.Common.{◌≡◌, ℕ, ◌+◌, ◌≤◌, refl, ap, ◌∙◌, subst, arith}
use Rattle.machine_states.specs.body_terms.specs.Counted.{counted_on}
use Rattle.runner_gate.specs.Asks.{Asks, asked_on, HaltedOnce}
use Rattle.lock_walks.specs.try_lock.specs.commit_log.specs.Asked.{IsAsked}
use Rattle.lock_walks.specs.try_lock.specs.commit_log.proofs.Asked.{counted_more, asked_on_more}
use Rattle.caller_facts.specs.Counted.{IsCounted}

-- steps, with an ask after each
pub counted_steps : (made : ℕ) (going : Bool) (halts halts' : ℕ) (asks asks' : Asks) (steps steps' : ℕ) → IsAsked made going halts halts' asks asks' steps steps'
    → IsCounted made 0 going halts halts' asks asks' steps steps'
counted_steps made going halts halts' asks asks' steps steps' is = record {
  counted = is.counted;
  asked = is.asked ∙ (let e : made ≡ made + 0 = omega arith in ap (asked_on asks) e);
  never_falls = is.never_falls;
  went = is.went;
  halted = is.halted;
}

-- one after the other
pub counted_then : (n a k b : ℕ) (going : Bool) (halts halts' halts'' : ℕ) (asks asks' asks'' : Asks) (steps steps' steps'' : ℕ)
    → IsCounted n a true halts halts' asks asks' steps steps' → IsCounted k b going halts' halts'' asks' asks'' steps' steps''
    → IsCounted (n + k) (a + b) going halts halts'' asks asks'' steps steps''
counted_then n a k b going halts halts' halts'' asks asks' asks'' steps steps' steps'' one two =
    let same = one.went refl in
    record {
      counted = two.counted ∙ (ap (λ c. counted_on c k) one.counted ∙ counted_more steps n k);
      asked = two.asked ∙ (ap (λ a. asked_on a (k + b)) one.asked ∙ (asked_on_more asks (n + a) (k + b)
          ∙ (let e : (n + a) + (k + b) ≡ (n + k) + (a + b) = omega arith in ap (asked_on asks) e)));
      never_falls = subst (λ h. h ≤ halts'') same two.never_falls;
      went = λ e. two.went e ∙ same;
      halted = λ e. subst (λ h. HaltedOnce h halts'') same (two.halted e);
    }

-- asks without a step, and then steps
pub asked_then : (a k b : ℕ) (going : Bool) (halts halts' halts'' : ℕ) (asks asks' asks'' : Asks) (steps steps' : ℕ)
    → IsCounted 0 a true halts halts' asks asks' steps steps → IsCounted k b going halts' halts'' asks' asks'' steps steps'
    → IsCounted k (a + b) going halts halts'' asks asks'' steps steps'
asked_then a k b going halts halts' halts'' asks asks' asks'' steps steps' one two =
    subst (λ j. IsCounted j (a + b) going halts halts'' asks asks'' steps steps') (let e : 0 + k ≡ k = omega arith in e)
    (counted_then 0 a k b going halts halts' halts'' asks asks' asks'' steps steps steps' one two)

-- steps with an ask after each, and then more
pub steps_then : (n k b : ℕ) (going : Bool) (halts halts' halts'' : ℕ) (asks asks' asks'' : Asks) (steps steps' steps'' : ℕ)
    → IsAsked n true halts halts' asks asks' steps steps' → IsCounted k b going halts' halts'' asks' asks'' steps' steps''
    → IsCounted (n + k) b going halts halts'' asks asks'' steps steps''
steps_then n k b going halts halts' halts'' asks asks' asks'' steps steps' steps'' one two =
    subst (λ j. IsCounted (n + k) j going halts halts'' asks asks'' steps steps'') (let e : 0 + b ≡ b = omega arith in e)
    (counted_then n 0 k b going halts halts' halts'' asks asks' asks'' steps steps' steps'' (counted_steps n true halts halts' asks asks' steps steps' one) two)

-- a gate that was seen behind asks at which it let the runner go on
pub seen_then : (Seen : ℕ → Asks → Type 0) (halts halts1 : ℕ) (asks asks1 : Asks) (n more : ℕ) → halts1 ≡ halts → asks1 ≡ asked_on asks n
    → Seen halts1 (asked_on asks1 more) → Seen halts (asked_on asks (n + more))
seen_then Seen halts halts1 asks asks1 n more same asked seen =
    subst (λ h. Seen h (asked_on asks (n + more))) same
    (subst (Seen halts1) (ap (λ a. asked_on a more) asked ∙ asked_on_more asks n more) seen)
