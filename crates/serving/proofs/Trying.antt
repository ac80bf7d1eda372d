-- A request that is attempted again.
use Rattle.std.specs.Prelude.{◌==◌, ◌&&◌, ◌||◌, ◌⊎◌, not, nat_lt, ◌%◌, Bool, true, false, slice_get, if◌then◌else◌}
use Rattle.std.proofs.Common.{◌≡◌, ℕ, ◌+◌, List, [], ◌∷◌, refl, sym, ap, ◌∙◌, subst, inl, inr, Some}
use Rattle.machine_states.specs.map_history.specs.declared.op.Request.{Request}
use Rattle.machine_states.specs.body_terms.specs.Counted.{counted_on}
use Rattle.runner_gate.specs.Asks.{Asks, asked_on}
use Rattle.machine_states.specs.structure_laws.specs.Meaning.{Meaning}
use Rattle.machine_states.specs.runner_parts.specs.Tests.{is_answered, are_answered}
use Rattle.attempt_bounds.specs.attempts.specs.commit_log.proofs.Asked.{asked_on_more}
use Rattle.attempt_bounds.specs.version_words.specs.RunnerState.{RunnerState}
use Rattle.attempt_bounds.specs.version_words.specs.TableState.{TableState, IsOf}
use Rattle.attempt_bounds.specs.attempts.specs.epoch_slots.specs.Collects.{IsTidy}
use Rattle.attempt_bounds.specs.attempts.specs.try_lock.specs.Planning.{Planning}
use Rattle.attempt_bounds.specs.attempts.specs.caller_facts.specs.Knowing.{IsFront, KnowsMore, LearnsNoOther}
use Rattle.attempt_bounds.specs.attempts.specs.caller_facts.specs.Asking.{MayAttempt}
use Rattle.attempt_bounds.specs.attempts.specs.Attempts.{is_halted, asks_more, asks_before, has_met_held, Answers, Attempts}
use Rattle.attempt_bounds.specs.attempts.specs.declared.answers.Attempt.{Attempt}
use Rattle.attempt_bounds.specs.attempts.specs.declared.answers.Attempt.TheVariants as attempts
use Rattle.attempt_bounds.specs.attempts.specs.caller_facts.proofs.Knowing.{knows_on, knows_same, no_other_on}
use Rattle.serving.specs.Serving.{may_pass, is_tried_again, is_crossed, Try, is_served, GoesOn, served_in, steps_in, asks_in, WasCrossed, IsTry, AreTried, Persists}
use Rattle.serving.proofs.Lists.{all_weaker, held_more}
use Rattle.serving.proofs.Standing.{answered_more}
use Rattle.serving.proofs.Tries.{or_left, or_right, count_more, asks_further, crossed_back, crossed_more, try_crossed}
use Rattle.serving.proofs.Briefly.{IsQuiet, this_try, is_try, again_quiet, last_brief, quiet_on, tried_on}

next_parts : (a b c : Bool) → (a && (not b && c)) ≡ true → (a ≡ true) × (b ≡ false) × (c ≡ true)
next_parts true false true e = (refl, refl, refl)
next_parts true false false e = absurd (let z = e in cc)
next_parts true true c e = absurd (let z = e in cc)
next_parts false b c e = absurd (let z = e in cc)

pub next_of_parts : (a b c : Bool) → a ≡ true → b ≡ false → c ≡ true → (a && (not b && c)) ≡ true
next_of_parts a b c one two three = ap (λ x. x && (not b && c)) one ∙ (ap (λ x. not x && c) two ∙ three)

-- of whom knows more, the earlier requests of the trace are answered still
earlier_on : (known more : List _) → IsFront known more → (trace below : ℕ) (requests : List Request)
    → are_answered known trace below requests ≡ true → are_answered more trace below requests ≡ true
earlier_on known more front trace below requests e = all_weaker
    (λ (x : Request). not (x.trace == trace && nat_lt x.number below) || is_answered known x.number)
    (λ (x : Request). not (x.trace == trace && nat_lt x.number below) || is_answered more x.number)
    (λ x. held_more (x.trace == trace && nat_lt x.number below) (is_answered known x.number) (is_answered more x.number)
    (answered_more known more front x.number)) requests e

module _ {T : Type 0} (planning : Planning) (request : Request) (old new : RunnerState T) where
  -- a runner that knows more, and doesn't know this request, may attempt it still
  pub may_again : MayAttempt planning request old → KnowsMore old new → new.layout ≡ old.layout → new.requests ≡ old.requests → IsTidy new
      → is_answered new.part.records.known request.number ≡ false → MayAttempt planning request new
  may_again may knows layout requests tidy unknown = record {
    tidy = tidy;
    there = ap (λ rs. slice_get rs request.number) requests ∙ may.there;
    next = next_of_parts _ _ _
        ((λ i. request.trace % (layout i).runners == knows.number i) ∙ parts.0)
        unknown
        (ap (are_answered new.part.records.known request.trace request.number) requests
        ∙ earlier_on old.part.records.known new.part.records.known knows.known request.trace request.number old.requests parts.2);
    served = may.served;
  }
    where
      parts : (request.trace % old.layout.runners == old.number ≡ true) × (is_answered old.part.records.known request.number ≡ false)
          × (are_answered old.part.records.known request.trace request.number old.requests ≡ true)
      parts = next_parts _ _ _ may.next

-- the runner is of one table all the while
pub same_layout : {T : Type 0} (t : TableState T) (old new : RunnerState T) → IsOf t old → IsOf t new → new.layout ≡ old.layout
same_layout t old new one two = two.layout ∙ sym one.layout

pub same_requests : {T : Type 0} (t : TableState T) (old new : RunnerState T) → IsOf t old → IsOf t new → new.requests ≡ old.requests
same_requests t old new one two = two.requests ∙ sym one.requests

-- the attempts so far, after each of which the request was attempted again
pub record IsTrying {T : Type 0} (m : Meaning) (planning : Planning) (request : Request) (retry_short : Bool) (old r : RunnerState T)
    (halts halts' : ℕ) (asks asks' : Asks) (steps steps' : ℕ) : Type 0 where
  pub tries : List Try
  pub tried : AreTried m planning retry_short (request ∷ []) tries old r
  pub follows : GoesOn retry_short tries
  pub unserved : served_in tries ≡ 0
  pub may : MayAttempt planning request r
  pub knows : KnowsMore old r
  pub no_other : LearnsNoOther request.number old r
  pub went : halts' ≡ halts
  pub counted : steps' ≡ counted_on steps (steps_in tries)
  pub asked : asks' ≡ asked_on asks (asks_in tries)
  pub quiet : WasCrossed m planning tries old ⊎ IsQuiet old r asks asks'
  -- where no want is waited out, these were crossed
  pub once : WasCrossed m planning tries old ⊎ (retry_short ≡ false → tries ≡ [])

pub trying_begins : {T : Type 0} (m : Meaning) (planning : Planning) (request : Request) (retry_short : Bool) (r : RunnerState T) (halts : ℕ) (asks : Asks) (steps : ℕ)
    → MayAttempt planning request r → IsTrying m planning request retry_short r r halts halts asks asks steps steps
trying_begins m planning request retry_short r halts asks steps may = record {
  tries = [];
  tried = refl;
  follows = tt;
  unserved = refl;
  may = may;
  knows = knows_same r r refl refl refl;
  no_other = λ q own ne. refl;
  went = refl;
  counted = refl;
  asked = refl;
  quiet = inr (record { runs = refl; asked = refl });
  once = inr (λ unwaited. refl);
}

-- an answer after which the request is attempted again leaves the runner idle, and the request unserved
module _ {T : Type 0} (m : Meaning) (planning : Planning) (request : Request) (retry_short : Bool) (old new : RunnerState T) where
  again_open : (answer : Attempt) → is_tried_again retry_short answer ≡ true → Answers m planning request answer old new
      → IsTidy new × (is_answered new.part.records.known request.number ≡ false)
  again_open (attempts.Busy place word) e is = (is.tidy, is.untouched.unknown)
  again_open (attempts.Stale place expected read) e is = (is.tidy, is.untouched.unknown)
  again_open (attempts.Far loads) e is = (is.tidy, is.untouched.unknown)
  again_open (attempts.Spent place word) e is = absurd (let z = e in cc)
  again_open (attempts.Done reply stamp) e is = absurd (let z = e in cc)
  again_open (attempts.Short short) e is = (is.reclaims.rested.tidy, is.untouched.unknown)
  again_open attempts.Halted e is = absurd (let z = e in cc)

  again_going : (answer : Attempt) → is_tried_again retry_short answer ≡ true → not (is_halted answer) ≡ true
  again_going (attempts.Busy place word) e = refl
  again_going (attempts.Stale place expected read) e = refl
  again_going (attempts.Far loads) e = refl
  again_going (attempts.Spent place word) e = refl
  again_going (attempts.Done reply stamp) e = refl
  again_going (attempts.Short short) e = refl
  again_going attempts.Halted e = absurd (let z = e in cc)

  again_unserved : (answer : Attempt) → is_tried_again retry_short answer ≡ true → is_served answer ≡ false
  again_unserved (attempts.Done reply stamp) e = absurd (let z = e in cc)
  again_unserved (attempts.Busy place word) e = refl
  again_unserved (attempts.Stale place expected read) e = refl
  again_unserved (attempts.Far loads) e = refl
  again_unserved (attempts.Spent place word) e = refl
  again_unserved (attempts.Short short) e = refl
  again_unserved attempts.Halted e = refl

module _ {T : Type 0} (m : Meaning) (planning : Planning) (request : Request) (retry_short : Bool) (t : TableState T)
    (old r new : RunnerState T) (of_r : IsOf t r) (of_old : IsOf t old) (of_new : IsOf t new) (answer : Attempt) (Seen : ℕ → Asks → Type 0)
    (halts halts' halts'' : ℕ) (asks asks' asks'' : Asks) (steps steps' steps'' : ℕ) (trying : IsTrying m planning request retry_short old r halts halts' asks asks' steps steps')
    (attempted : Attempts m planning request answer r new Seen halts' halts'' asks' asks'' steps' steps'') where
  knows_all : KnowsMore old new
  knows_all = knows_on old r new trying.knows attempted.is.knows

  no_other_all : LearnsNoOther request.number old new
  no_other_all = no_other_on request.number old r new (same_requests t old r of_old of_r) (same_layout t old r of_old of_r) trying.knows.number
      trying.no_other attempted.is.no_other

  -- this attempt
  abbrev x : Try
  x = this_try m planning request answer r new Seen halts' halts'' asks' asks'' steps' steps'' attempted trying.may

  here : IsTry m planning x r new
  here = is_try m planning request answer r new Seen halts' halts'' asks' asks'' steps' steps'' attempted trying.may

  at : slice_get (request ∷ []) (served_in trying.tries) ≡ Some request
  at = ap (slice_get (request ∷ [])) trying.unserved

  counted_all : steps'' ≡ counted_on steps (steps_in (x ∷ trying.tries))
  counted_all = count_more steps steps' steps'' (steps_in trying.tries) attempted.made trying.counted attempted.asked.counted

  asked_all : asks'' ≡ asked_on asks (asks_in (x ∷ trying.tries))
  asked_all = asks_further asks asks' asks'' (asks_in trying.tries) (attempted.made + asks_more answer attempted.published) trying.asked attempted.asked.asked

  -- it is attempted once more
  pub trying_on : is_tried_again retry_short answer ≡ true → IsTrying m planning request retry_short old new halts halts'' asks asks'' steps steps''
  trying_on again = let now = again_open m planning request retry_short r new answer again attempted.is.answers in record {
    tries = x ∷ trying.tries;
    tried = (r, trying.tried, trying.follows, at, here);
    follows = or_right (is_served answer) (is_tried_again retry_short answer) again;
    unserved = λ i. (if again_unserved m planning request retry_short r new answer again i then 1 else 0) + trying.unserved i;
    may = may_again planning request r new trying.may attempted.is.knows (same_layout t r new of_r of_new) (same_requests t r new of_r of_new) now.0 now.1;
    knows = knows_all;
    no_other = no_other_all;
    went = attempted.asked.went (again_going m planning request retry_short r new answer again) ∙ trying.went;
    counted = counted_all;
    asked = asked_all;
    quiet = quiet_on m planning old r new (same_layout t old r of_old of_r) (same_requests t old r of_old of_r) asks asks' asks'' x trying.tries trying.quiet
        (again_quiet m planning request answer r new Seen halts' halts'' asks' asks'' steps' steps'' attempted trying.may retry_short again trying.tries);
    once = once_on trying.once;
  }
    where
      -- without waits only a crossed attempt is made again
      crossed_if : retry_short ≡ false → (a : Attempt) → is_tried_again retry_short a ≡ true → is_crossed a ≡ true
      crossed_if unwaited (attempts.Busy place word) e = refl
      crossed_if unwaited (attempts.Stale place expected read) e = refl
      crossed_if unwaited (attempts.Far loads) e = refl
      crossed_if unwaited (attempts.Short short) e = absurd (let z = ap (λ b. b && may_pass short) (sym unwaited) ∙ e in cc)
      crossed_if unwaited (attempts.Spent place word) e = absurd (let z = e in cc)
      crossed_if unwaited (attempts.Done reply stamp) e = absurd (let z = e in cc)
      crossed_if unwaited attempts.Halted e = absurd (let z = e in cc)

      once_by : (b : Bool) → retry_short ≡ b → WasCrossed m planning (x ∷ trying.tries) old ⊎ (retry_short ≡ false → x ∷ trying.tries ≡ [])
      once_by true waited = inr (λ unwaited. absurd (let z = sym waited ∙ unwaited in cc))
      once_by false unwaited = inl (crossed_back m planning (x ∷ trying.tries) old r (same_layout t old r of_old of_r) (same_requests t old r of_old of_r)
          (try_crossed m planning x trying.tries r new here
          (or_left (is_crossed answer) (has_met_held m planning request answer r new attempted.is.answers) (crossed_if unwaited answer again))))

      once_on : WasCrossed m planning trying.tries old ⊎ (retry_short ≡ false → trying.tries ≡ [])
          → WasCrossed m planning (x ∷ trying.tries) old ⊎ (retry_short ≡ false → x ∷ trying.tries ≡ [])
      once_on (inl was) = inl (crossed_more m planning x trying.tries old was)
      once_on (inr so_far) = once_by retry_short refl

  -- before the part of it in which a gate halted the runner the gate was seen
  abbrev before_part : ℕ
  before_part = asks_before m planning request answer r new attempted.is.answers

  let_go_now : answer ≡ attempts.Halted
      → Seen halts (asked_on asks (asks_in trying.tries + (if is_served answer then attempted.made + asks_more answer attempted.published else before_part)))
  let_go_now e = subst
      (λ (b : Bool). Seen halts (asked_on asks (asks_in trying.tries + (if b then attempted.made + asks_more answer attempted.published else before_part))))
      (sym (ap is_served e))
      (subst (λ (h : ℕ). Seen h (asked_on asks (asks_in trying.tries + before_part))) trying.went
      (subst (Seen halts') (ap (λ (a : Asks). asked_on a before_part) trying.asked ∙ asked_on_more asks (asks_in trying.tries) before_part)
      (attempted.let_go (ap is_halted e))))

  -- or this was the last attempt
  pub trying_ends : is_tried_again retry_short answer ≡ false → Persists m planning retry_short request answer old new Seen halts asks asks'' steps steps''
  trying_ends last = record {
    before = r;
    again = trying.tries;
    last = x;
    tried = trying.tried;
    follows = trying.follows;
    unserved = trying.unserved;
    ends = record { may = trying.may; is = attempted.is; crossed = refl };
    of_request = refl;
    answered = refl;
    over = last;
    answers = attempted.is.answers;
    knew = trying.knows;
    knows = knows_all;
    no_other = no_other_all;
    counted = counted_all;
    asked = asked_all;
    let_go = let_go_now;
    brief = tried_on m planning old r new (same_layout t old r of_old of_r) (same_requests t old r of_old of_r) asks asks' asks'' x trying.tries answer trying.quiet
        (last_brief m planning request answer r new Seen halts' halts'' asks' asks'' steps' steps'' attempted trying.may trying.tries);
    once = trying.once;
  }
