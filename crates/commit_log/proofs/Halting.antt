-- A gate's halt behind one of several steps.
use Rattle.std.proofs.Common.{◌≡◌, ℕ, ◌+◌, ◌≤◌, Bool, true, false, subst, arith}
use Rattle.machine_states.specs.structure_laws.specs.Meaning.{Meaning}
use Rattle.machine_states.specs.body_terms.specs.declared.micro.Micro.{Micro}
use Rattle.machine_states.specs.runner_parts.specs.State.{RunState}
use Rattle.version_words.specs.RunnerState.{RunnerState}
use Rattle.runner_gate.specs.Asks.{Asks}
use Rattle.commit_log.specs.Asked.{IsAsked}
use Rattle.commit_log.specs.Runs.{Stepped, Ran}
use Rattle.commit_log.specs.Halted.{IsHalted, IsThrough}
use Rattle.commit_log.proofs.Asked.{asked_more}
use Rattle.commit_log.proofs.Running.{ran_one, ran_more}

module _ {T : Type 0} (m : Meaning) (most : ℕ) where
  -- behind the first one, of either kind
  pub halted_one : (a b : RunnerState T) (halts halts' : ℕ) (asks asks' : Asks) (steps steps' : ℕ)
      → Ran m 1 a b → IsAsked 1 false halts halts' asks asks' steps steps' → 1 ≤ most → IsHalted m most a b halts halts' asks asks' steps steps'
  halted_one a b halts halts' asks asks' steps steps' ran asked few = record {
    made = 1;
    some = omega arith;
    few = few;
    ran = ran;
    asked = asked;
  }

  pub halted_first : (q : RunState) (micro : Micro) (found : ℕ) (a b : RunnerState T) (halts halts' : ℕ) (asks asks' : Asks) (steps steps' : ℕ)
      → Stepped m q micro found a b → IsAsked 1 false halts halts' asks asks' steps steps' → 1 ≤ most → IsHalted m most a b halts halts' asks asks' steps steps'
  halted_first q micro found a b halts halts' asks asks' steps steps' step asked few =
      halted_one a b halts halts' asks asks' steps steps' (ran_one m q micro found a b step) asked few

  -- behind one of those that follow the first ones
  pub halted_more : (n rest : ℕ) (a b c : RunnerState T) (halts halts' halts'' : ℕ) (asks asks' asks'' : Asks) (steps steps' steps'' : ℕ)
      → Ran m n a b → IsAsked n true halts halts' asks asks' steps steps' → IsHalted m rest b c halts' halts'' asks' asks'' steps' steps''
      → n + rest ≤ most → IsHalted m most a c halts halts'' asks asks'' steps steps''
  halted_more n rest a b c halts halts' halts'' asks asks' asks'' steps steps' steps'' ran asked halted few = record {
    made = n + halted.made;
    some = let s = halted.some in omega (arith, s);
    few = let f = halted.few in omega (arith, f, few);
    ran = ran_more m n halted.made a b c ran halted.ran;
    asked = asked_more n halted.made false halts halts' halts'' asks asks' asks'' steps steps' steps'' asked halted.asked;
  }

-- a gate let the runner go on behind some steps, and then behind more of them
pub through_more : {T : Type 0} (m : Meaning) (most rest all : ℕ) (a b c : RunnerState T) (halts halts' halts'' : ℕ) (asks asks' asks'' : Asks) (steps steps' steps'' : ℕ)
    → IsThrough m most a b halts halts' asks asks' steps steps' → IsThrough m rest b c halts' halts'' asks' asks'' steps' steps''
    → most + rest ≤ all → IsThrough m all a c halts halts'' asks asks'' steps steps''
through_more m most rest all a b c halts halts' halts'' asks asks' asks'' steps steps' steps'' one two few = record {
  made = one.made + two.made;
  few = let f = one.few in let g = two.few in omega (arith, f, g, few);
  ran = ran_more m one.made two.made a b c one.ran two.ran;
  asked = asked_more one.made two.made true halts halts' halts'' asks asks' asks'' steps steps' steps'' one.asked two.asked;
}

pub through_one : {T : Type 0} (m : Meaning) (a b : RunnerState T) (halts halts' : ℕ) (asks asks' : Asks) (steps steps' : ℕ)
    → Ran m 1 a b → IsAsked 1 true halts halts' asks asks' steps steps' → IsThrough m 1 a b halts halts' asks asks' steps steps'
through_one m a b halts halts' asks asks' steps steps' ran asked = record { made = 1; few = omega arith; ran = ran; asked = asked }

-- and then it halted the runner behind more
pub halted_then : {T : Type 0} (m : Meaning) (most rest all : ℕ) (a b c : RunnerState T) (halts halts' halts'' : ℕ) (asks asks' asks'' : Asks) (steps steps' steps'' : ℕ)
    → IsThrough m most a b halts halts' asks asks' steps steps' → IsHalted m rest b c halts' halts'' asks' asks'' steps' steps''
    → most + rest ≤ all → IsHalted m all a c halts halts'' asks asks'' steps steps''
halted_then m most rest all a b c halts halts' halts'' asks asks' asks'' steps steps' steps'' one two few = record {
  made = one.made + two.made;
  some = let s = two.some in omega (arith, s);
  few = let f = one.few in let g = two.few in omega (arith, f, g, few);
  ran = ran_more m one.made two.made a b c one.ran two.ran;
  asked = asked_more one.made two.made false halts halts' halts'' asks asks' asks'' steps steps' steps'' one.asked two.asked;
}

module _ {T : Type 0} (m : Meaning) (n most : ℕ) (a b : RunnerState T) (halts halts' : ℕ) (asks asks' : Asks) (steps steps' : ℕ) where
  pub through_by : n ≤ most → Ran m n a b → IsAsked n true halts halts' asks asks' steps steps' → IsThrough m most a b halts halts' asks asks' steps steps'
  through_by few ran asked = record { made = n; few = few; ran = ran; asked = asked }

  pub halted_by : 1 ≤ n → n ≤ most → Ran m n a b → IsAsked n false halts halts' asks asks' steps steps' → IsHalted m most a b halts halts' asks asks' steps steps'
  halted_by some few ran asked = record { made = n; some = some; few = few; ran = ran; asked = asked }

-- no more than more
module _ {T : Type 0} (m : Meaning) (n most : ℕ) (a b : RunnerState T) (halts halts' : ℕ) (asks asks' : Asks) (steps steps' : ℕ) (low : n ≤ most) where
  pub through_few : IsThrough m n a b halts halts' asks asks' steps steps' → IsThrough m most a b halts halts' asks asks' steps steps'
  through_few one = record { made = one.made; few = let f = one.few in omega (arith, f, low); ran = one.ran; asked = one.asked }

  pub halted_few : IsHalted m n a b halts halts' asks asks' steps steps' → IsHalted m most a b halts halts' asks asks' steps steps'
  halted_few one = record { made = one.made; some = one.some; few = let f = one.few in omega (arith, f, low); ran = one.ran; asked = one.asked }

-- the gate's answer, once it is known
pub asked_if : {n : ℕ} {going known : Bool} {halts halts' : ℕ} {asks asks' : Asks} {steps steps' : ℕ} → going ≡ known → IsAsked n going halts halts' asks asks' steps steps' → IsAsked n known halts halts' asks asks' steps steps'
asked_if {n} {going} {known} {halts} {halts'} {asks} {asks'} {steps} {steps'} e is = subst (λ (b : Bool). IsAsked n b halts halts' asks asks' steps steps') e is
