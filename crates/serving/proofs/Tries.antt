-- The attempts of a serving, one behind the other.
use Rattle.std.specs.Prelude.{◌||◌, Bool, true, false, slice_get}
use Rattle.std.proofs.Common.{◌≡◌, ℕ, zero, suc, ◌+◌, ◌≤◌, List, [], ◌∷◌, ◌++◌, refl, sym, ap, ◌∙◌, subst, arith, Some}
use Rattle.std.proofs.lemmas.Bool.{true≢false}
use Rattle.machine_states.specs.map_history.specs.declared.op.Request.{Request}
use Rattle.machine_states.specs.body_terms.specs.Counted.{counted_on}
use Rattle.runner_gate.specs.Asks.{Asks, asked_on}
use Rattle.machine_states.specs.structure_laws.specs.Meaning.{Meaning}
use Rattle.machine_states.proofs.Steps.{some_same, none_some}
use Rattle.attempt_bounds.specs.attempts.specs.commit_log.proofs.Asked.{counted_more, asked_on_more}
use Rattle.attempt_bounds.specs.version_words.specs.RunnerState.{RunnerState}
use Rattle.attempt_bounds.specs.attempts.specs.try_lock.specs.Planning.{Planning}
use Rattle.attempt_bounds.specs.attempts.specs.Course.{IsRefused}
use Rattle.attempt_bounds.specs.attempts.specs.Attempts.{asks_more, has_met_held, is_stop_helping, IsAttempt, Answers, Stops, AtEntry, InPlan, BehindHold, InOwnRun, InHelpedRun}
use Rattle.attempt_bounds.specs.attempts.specs.declared.answers.Attempt.{Attempt}
use Rattle.attempt_bounds.specs.attempts.specs.declared.answers.Attempt.TheVariants as attempts
use Rattle.serving.specs.Serving.{is_crossed, Try, is_served, GoesOn, served_in, steps_in, asks_in, crossed_in, WasCrossed, IsTry, AreTried}

pub or_left : (a b : Bool) → a ≡ true → (a || b) ≡ true
or_left a b e = ap (λ x. x || b) e

pub or_right : (a b : Bool) → b ≡ true → (a || b) ≡ true
or_right true b e = refl
or_right false b e = e

-- what holds of none of both
pub or_none : (a b : Bool) → (a || b) ≡ false → (a ≡ false) × (b ≡ false)
or_none true b e = absurd (true≢false e)
or_none false b e = (refl, e)

swapped : (a b : ℕ) → a + b ≡ b + a
swapped a b = omega arith

-- a count that goes on by what a further attempt adds, and asks
pub count_more : (start mid end s n : ℕ) → mid ≡ counted_on start s → end ≡ counted_on mid n → end ≡ counted_on start (n + s)
count_more start mid end s n one two = two ∙ (ap (λ c. counted_on c n) one ∙ (counted_more start s n ∙ ap (counted_on start) (swapped s n)))

pub asks_further : (start mid end : Asks) (s n : ℕ) → mid ≡ asked_on start s → end ≡ asked_on mid n → end ≡ asked_on start (n + s)
asks_further start mid end s n one two = two ∙ (ap (λ (a : Asks). asked_on a n) one ∙ (asked_on_more start s n ∙ ap (asked_on start) (swapped s n)))

-- further attempts behind the earlier ones
pub served_append : (xs ys : List Try) → served_in (xs ++ ys) ≡ served_in xs + served_in ys
served_append [] ys = from_none (served_in ys)
  where
    from_none : (n : ℕ) → n ≡ 0 + n
    from_none n = omega arith
served_append (x ∷ xs) ys = let rest = served_append xs ys in omega (arith, rest)

pub steps_append : (xs ys : List Try) → steps_in (xs ++ ys) ≡ steps_in xs + steps_in ys
steps_append [] ys = from_none (steps_in ys)
  where
    from_none : (n : ℕ) → n ≡ 0 + n
    from_none n = omega arith
steps_append (x ∷ xs) ys = let rest = steps_append xs ys in omega (arith, rest)

pub asks_append : (xs ys : List Try) → asks_in (xs ++ ys) ≡ asks_in xs + asks_in ys
asks_append [] ys = from_none (asks_in ys)
  where
    from_none : (n : ℕ) → n ≡ 0 + n
    from_none n = omega arith
asks_append (x ∷ xs) ys = let rest = asks_append xs ys in omega (arith, rest)

crossed_before : (xs ys : List Try) → crossed_in ys ≡ true → crossed_in (xs ++ ys) ≡ true
crossed_before [] ys e = e
crossed_before (x ∷ xs) ys e = or_right x.crossed (crossed_in (xs ++ ys)) (crossed_before xs ys e)

crossed_behind : (xs ys : List Try) → crossed_in xs ≡ true → crossed_in (xs ++ ys) ≡ true
crossed_behind [] ys e = absurd (true≢false (sym e))
crossed_behind (x ∷ xs) ys e = by x.crossed refl e (λ rest. crossed_behind xs ys rest)
  where
    by : (b : Bool) → x.crossed ≡ b → (b || crossed_in xs) ≡ true → (crossed_in xs ≡ true → crossed_in (xs ++ ys) ≡ true)
        → (x.crossed || crossed_in (xs ++ ys)) ≡ true
    by true is e on = or_left x.crossed (crossed_in (xs ++ ys)) is
    by false is e on = or_right x.crossed (crossed_in (xs ++ ys)) (on e)

module _ {T : Type 0} (m : Meaning) (planning : Planning) where
  -- one of them was crossed, or one of the later ones
  pub crossed_back : (tries : List Try) (old r : RunnerState T) → r.layout ≡ old.layout → r.requests ≡ old.requests → WasCrossed m planning tries r
      → WasCrossed m planning tries old
  crossed_back tries old r layout requests was = record {
    tried = was.tried;
    request = was.request;
    answer = was.answer;
    before = was.before;
    cut = was.cut;
    layout = was.layout ∙ layout;
    requests = was.requests ∙ requests;
    refused = was.refused;
    crossed = was.crossed;
  }

  crossed_with : (tries more : List Try) (r : RunnerState T) → (crossed_in tries ≡ true → crossed_in more ≡ true) → WasCrossed m planning tries r
      → WasCrossed m planning more r
  crossed_with tries more r on was = record {
    tried = on was.tried;
    request = was.request;
    answer = was.answer;
    before = was.before;
    cut = was.cut;
    layout = was.layout;
    requests = was.requests;
    refused = was.refused;
    crossed = was.crossed;
  }

  pub crossed_then : (xs ys : List Try) (r : RunnerState T) → WasCrossed m planning ys r → WasCrossed m planning (xs ++ ys) r
  crossed_then xs ys r = crossed_with ys (xs ++ ys) r (crossed_before xs ys)

  pub crossed_now : (xs ys : List Try) (r : RunnerState T) → WasCrossed m planning xs r → WasCrossed m planning (xs ++ ys) r
  crossed_now xs ys r = crossed_with xs (xs ++ ys) r (crossed_behind xs ys)

  pub crossed_more : (x : Try) (xs : List Try) (r : RunnerState T) → WasCrossed m planning xs r → WasCrossed m planning (x ∷ xs) r
  crossed_more x xs r = crossed_with xs (x ∷ xs) r (or_right x.crossed (crossed_in xs))

  -- by what a crossed attempt was refused
  pub record IsCrossing (request : Request) (r : RunnerState T) : Type 0 where
    pub answer : Attempt
    pub cut : RunnerState T
    pub refused : IsRefused m planning request answer r cut
    pub crossed : is_crossed answer ≡ true

  module _ (request : Request) (r new : RunnerState T) where
    stop_crossing : (s : Stops m planning request r new) → is_stop_helping m planning request r new s ≡ true → IsCrossing request r
    stop_crossing (InHelpedRun is) e = record { answer = attempts.Busy is.place is.word; cut = is.cut; refused = is.cause; crossed = refl }
    stop_crossing (AtEntry enters) e = absurd (true≢false (sym e))
    stop_crossing (InPlan readings plans) e = absurd (true≢false (sym e))
    stop_crossing (BehindHold thunk section tries) e = absurd (true≢false (sym e))
    stop_crossing (InOwnRun thunk section published made tries short) e = absurd (true≢false (sym e))

    crossing : (a : Attempt) (is : Answers m planning request a r new) → (is_crossed a || has_met_held m planning request a r new is) ≡ true
        → IsCrossing request r
    crossing (attempts.Busy place word) is e = record { answer = attempts.Busy place word; cut = is.cut; refused = is.cause; crossed = refl }
    crossing (attempts.Stale place expected read) is e =
        record { answer = attempts.Stale place expected read; cut = is.cut; refused = is.cause; crossed = refl }
    crossing (attempts.Far loads) is e = record { answer = attempts.Far loads; cut = is.cut; refused = is.cause; crossed = refl }
    crossing (attempts.Spent place word) is e = absurd (true≢false (sym e))
    crossing (attempts.Done reply stamp) is e = absurd (true≢false (sym e))
    crossing (attempts.Short short) is e = absurd (true≢false (sym e))
    crossing attempts.Halted is e = stop_crossing is.at e

  pub try_crossed : (x : Try) (xs : List Try) (r new : RunnerState T) → IsTry m planning x r new → x.crossed ≡ true → WasCrossed m planning (x ∷ xs) r
  try_crossed x xs r new is e =
      let by = crossing x.request r new x.answer is.is.answers (sym is.crossed ∙ e) in
      record {
        tried = or_left x.crossed (crossed_in xs) e;
        request = x.request;
        answer = by.answer;
        before = r;
        cut = by.cut;
        layout = refl;
        requests = refl;
        refused = by.refused;
        crossed = by.crossed;
      }

  -- an attempt that served its request asks its gate at least so often
  pub done_asks : (request : Request) (a : Attempt) (made : ℕ) (published : Bool) (r new : RunnerState T)
      → IsAttempt m planning request a made published r new → is_served a ≡ true → 15 ≤ made + asks_more a published
  done_asks request (attempts.Done reply stamp) made published r new is e =
      let more : asks_more (attempts.Done reply stamp) published ≡ 2 = ap (asks_more (attempts.Done reply stamp)) is.published_is in
      let steps = is.made_is in
      let run = is.answers.run.ended.ends.counted in
      omega (arith, more, steps, run)
  done_asks request (attempts.Short short) made published r new is e = absurd (true≢false (sym e))
  done_asks request (attempts.Spent place word) made published r new is e = absurd (true≢false (sym e))
  done_asks request (attempts.Busy place word) made published r new is e = absurd (true≢false (sym e))
  done_asks request (attempts.Stale place expected read) made published r new is e = absurd (true≢false (sym e))
  done_asks request (attempts.Far loads) made published r new is e = absurd (true≢false (sym e))
  done_asks request attempts.Halted made published r new is e = absurd (true≢false (sym e))

  -- the attempts of one request, as those of the list
  module _ (retry_short : Bool) (requests : List Request) (q : Request) (xs : List Try) (goes : GoesOn retry_short xs)
      (at : slice_get requests (served_in xs) ≡ Some q) (old r : RunnerState T) (tried : AreTried m planning retry_short requests xs old r) where
    only_place : (n : ℕ) (x : Request) → slice_get (q ∷ []) n ≡ Some x → (n ≡ 0) × (q ≡ x)
    only_place zero x e = (refl, some_same q x e)
    only_place (suc n) x e = absurd (none_some x (sym e))

    goes_behind : (ps : List Try) → GoesOn retry_short ps → GoesOn retry_short (ps ++ xs)
    goes_behind [] on = goes
    goes_behind (p ∷ ps) on = on

    pub tried_behind : (ps : List Try) (new : RunnerState T) → AreTried m planning retry_short (q ∷ []) ps r new
        → AreTried m planning retry_short requests (ps ++ xs) old new
    tried_behind [] new same = subst (AreTried m planning retry_short requests xs old) (sym same) tried
    tried_behind (p ∷ ps) new is =
        let place = only_place (served_in ps) p.request is.3 in
        let none : served_in (ps ++ xs) ≡ served_in xs = (let sums = served_append ps xs in let zero = place.0 in omega (arith, sums, zero)) in (
          is.0,
          tried_behind ps is.0 is.1,
          goes_behind ps is.2,
          ap (slice_get requests) none ∙ (at ∙ ap (λ (x : Request). Some x) place.1),
          is.4,
        )
