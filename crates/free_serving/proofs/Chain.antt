-- The attempts of one request, one behind the other.
use Rattle.std.specs.Prelude.{◌||◌, ◌&&◌, ◌⊎◌, ◌==◌, not, Bool, true, false, slice_get, if◌then◌else◌}
use Rattle.std.proofs.Common.{◌≡◌, ℕ, zero, suc, ◌+◌, ◌≤◌, List, [], ◌∷◌, refl, sym, ◌∙◌, subst, inl, inr, arith, Some, ⊎_elim}
use Rattle.std.proofs.lemmas.Bool.{true≢false}
use Rattle.machine_states.specs.map_history.specs.declared.op.Request.{Request}
use Rattle.machine_states.specs.map_history.specs.declared.reply.Reply.{Reply}
use Rattle.machine_states.specs.structure_laws.specs.Meaning.{Meaning}
use Rattle.machine_states.specs.structure_laws.specs.Cells.{slots}
use Rattle.machine_states.proofs.Steps.{some_same, none_some}
use Rattle.version_words.specs.RunnerState.{RunnerState}
use Rattle.seq_read.specs.caller_facts.specs.try_lock.specs.Planning.{Planning}
use Rattle.seq_read.specs.caller_facts.specs.try_lock.specs.Reached.{IsReached}
use Rattle.serving.specs.attempt_bounds.specs.Spared.{IsSpared, AttemptsSpareSlots}
use Rattle.seq_read.specs.caller_facts.specs.Knowing.{KnowsMore}
use Rattle.seq_read.specs.caller_facts.proofs.Knowing.{knows_same, knows_on}
use Rattle.serving.specs.attempts.specs.Attempts.{asks_more, most_of_attempt, IsAttempt, IsServed, Answers}
use Rattle.serving.specs.attempts.specs.declared.answers.Attempt.{Attempt}
use Rattle.serving.specs.attempts.specs.declared.answers.Attempt.TheVariants as attempts
use Rattle.serving.specs.Serving.{may_pass, is_tried_again, is_crossed, Try, is_served, GoesOn, served_in, asks_in, WasCrossed, IsTry, AreTried}
use Rattle.serving.proofs.Tries.{or_none, crossed_back, crossed_more, try_crossed}
use Rattle.free_serving.proofs.Same.{Same, stays, then_same, reclaims_same}

pub only_place : (q x : Request) (n : ℕ) → slice_get (q ∷ []) n ≡ Some x → (n ≡ 0) × (q ≡ x)
only_place q x zero e = (refl, some_same q x e)
only_place q x (suc n) e = absurd (none_some x (sym e))

is_one : (b : Bool) → ◌≡◌ {A = ℕ} (if b then 1 else 0) 1 → b ≡ true
is_one true e = refl
is_one false e = absurd (let z : 0 ≡ 1 = e in omega (arith, z))

is_none : (b : Bool) → ◌≡◌ {A = ℕ} (if b then 1 else 0) 0 → b ≡ false
is_none false e = refl
is_none true e = absurd (let z : 1 ≡ 0 = e in omega (arith, z))

second : (a b : Bool) → (a || b) ≡ true → a ≡ false → b ≡ true
second true b e none = absurd (true≢false none)
second false b e none = e

one_or_two : (b : Bool) → ◌≤◌ (if b then 2 else 1) 2
one_or_two true = omega arith
one_or_two false = omega arith

-- an attempt is asked about twice beside behind its steps, at most
few_more : (answer : Attempt) (published : Bool) → asks_more answer published ≤ 2
few_more (attempts.Short short) published = omega arith
few_more (attempts.Done reply stamp) published = one_or_two published
few_more (attempts.Busy place word) published = one_or_two published
few_more (attempts.Stale place expected read) published = one_or_two published
few_more (attempts.Far loads) published = one_or_two published
few_more (attempts.Spent place word) published = one_or_two published
few_more attempts.Halted published = one_or_two published

module _ {T : Type 0} (m : Meaning) (planning : Planning) (retry_short : Bool) (q : Request) where
  -- what is known stays known
  pub chain_knows : (tries : List Try) (old new : RunnerState T) → AreTried m planning retry_short (q ∷ []) tries old new → KnowsMore old new
  chain_knows [] old new same = subst (λ (r : RunnerState T). KnowsMore old r) (sym same) (knows_same old old refl refl refl)
  chain_knows (x ∷ xs) old new is = knows_on old is.0 new (chain_knows xs old is.0 is.1) is.4.is.knows

  -- nothing was asked, and nothing changed but the part; where no want is waited out there was no attempt
  pub record IsQuiet (tries : List Try) (old new : RunnerState T) : Type 0 where
    pub asked : asks_in tries ≡ 0
    pub same : Same old new
    pub once : retry_short ≡ false → tries ≡ []

  short_asks : (request : Request) (a : Attempt) (made : ℕ) (published : Bool) (old new : RunnerState T) → IsAttempt m planning request a made published old new
      → is_served a ≡ false → is_crossed a ≡ false → is_tried_again retry_short a ≡ true
      → (made + asks_more a published ≡ 0) × Same old new × (retry_short ≡ true)
  short_asks request (attempts.Short short) made published old new is undone uncrossed again = (
    (let none = is.made_is in omega (arith, none)),
    reclaims_same m old new is.answers.reclaims,
    first retry_short (may_pass short) again,
  )
    where
      first : (a b : Bool) → (a && b) ≡ true → a ≡ true
      first true b e = refl
      first false b e = absurd (true≢false (sym e))
  short_asks request (attempts.Done reply stamp) made published old new is undone uncrossed again = absurd (true≢false undone)
  short_asks request (attempts.Spent place word) made published old new is undone uncrossed again = absurd (true≢false (sym again))
  short_asks request attempts.Halted made published old new is undone uncrossed again = absurd (true≢false (sym again))
  short_asks request (attempts.Busy place word) made published old new is undone uncrossed again = absurd (true≢false uncrossed)
  short_asks request (attempts.Stale place expected read) made published old new is undone uncrossed again = absurd (true≢false uncrossed)
  short_asks request (attempts.Far loads) made published old new is undone uncrossed again = absurd (true≢false uncrossed)

  -- attempts that served nothing, each followed by another: one was refused since another one came between, or each lacked
  -- slots
  pub chain_quiet : (tries : List Try) (old new : RunnerState T) → AreTried m planning retry_short (q ∷ []) tries old new → GoesOn retry_short tries → served_in tries ≡ 0
      → WasCrossed m planning tries old ⊎ IsQuiet tries old new
  chain_quiet [] old new same goes none = inr (record { asked = refl; same = stays old new same; once = λ unwaited. refl })
  chain_quiet (x ∷ xs) old new is goes none = ⊎_elim
      (λ was. inl (crossed_more m planning x xs old was))
      (λ quiet. here quiet x.crossed refl)
      (chain_quiet xs old is.0 is.1 is.2 (let e = none in omega (arith, e)))
    where
      undone : is_served x.answer ≡ false
      undone = is_none (is_served x.answer) (let e = none in omega (arith, e))

      here : IsQuiet xs old is.0 → (b : Bool) → x.crossed ≡ b → WasCrossed m planning (x ∷ xs) old ⊎ IsQuiet (x ∷ xs) old new
      here quiet true e = inl (crossed_back m planning (x ∷ xs) old is.0 quiet.same.0 quiet.same.1 (try_crossed m planning x xs is.0 new is.4 e))
      here quiet false e =
          let parts = or_none _ _ (sym is.4.crossed ∙ e) in
          let short = short_asks x.request x.answer x.made x.published is.0 new is.4.is undone parts.0 (second _ _ goes undone) in
          inr (record {
            asked = let before = quiet.asked in let now = short.0 in omega (arith, before, now);
            same = then_same old is.0 new quiet.same short.1;
            once = λ unwaited. absurd (true≢false (sym short.2 ∙ unwaited));
          })

  -- the last attempt of a request, behind others that served nothing
  pub record HasLast (x : Try) (xs : List Try) (old new : RunnerState T) : Type 0 where
    pub before : RunnerState T
    pub tried : AreTried m planning retry_short (q ∷ []) xs old before
    pub follows : GoesOn retry_short xs
    pub unserved : served_in xs ≡ 0
    pub ends : IsTry m planning x before new
    pub of_request : q ≡ x.request

  pub last_of : (x : Try) (xs : List Try) (old new : RunnerState T) → AreTried m planning retry_short (q ∷ []) (x ∷ xs) old new → HasLast x xs old new
  last_of x xs old new is = let place = only_place q x.request (served_in xs) is.3 in record {
    before = is.0;
    tried = is.1;
    follows = is.2;
    unserved = place.0;
    ends = is.4;
    of_request = place.1;
  }

  -- where it served the request
  pub record HasServed (tries : List Try) (old new : RunnerState T) : Type 0 where
    pub before : RunnerState T
    pub knew : KnowsMore old before
    pub reply : Reply
    pub stamp : ℕ
    pub done : IsServed m planning q reply stamp before new
    pub spared : retry_short ≡ false → IsSpared old → AttemptsSpareSlots T m planning → WasCrossed m planning tries old ⊎ IsSpared new

  served_by : (request : Request) (a : Attempt) (made : ℕ) (published : Bool) (old new : RunnerState T) → IsAttempt m planning request a made published old new
      → is_served a ≡ true → (reply : Reply) × (stamp : ℕ) × IsServed m planning request reply stamp old new
  served_by request (attempts.Done reply stamp) made published old new is e = (reply, stamp, is.answers)
  served_by request (attempts.Short short) made published old new is e = absurd (true≢false (sym e))
  served_by request (attempts.Spent place word) made published old new is e = absurd (true≢false (sym e))
  served_by request attempts.Halted made published old new is e = absurd (true≢false (sym e))
  served_by request (attempts.Busy place word) made published old new is e = absurd (true≢false (sym e))
  served_by request (attempts.Stale place expected read) made published old new is e = absurd (true≢false (sym e))
  served_by request (attempts.Far loads) made published old new is e = absurd (true≢false (sym e))

  pub chain_served : (tries : List Try) (old new : RunnerState T) → AreTried m planning retry_short (q ∷ []) tries old new → served_in tries ≡ 1 → HasServed tries old new
  chain_served [] old new is one = absurd (omega (arith, one))
  chain_served (x ∷ xs) old new is one = record {
    before = last.before;
    knew = chain_knows xs old last.before last.tried;
    reply = served.0;
    stamp = served.1;
    done = done_now;
    spared = λ unwaited was spare. ⊎_elim
        (λ crossed. inl (crossed_more m planning x xs old crossed))
        (λ quiet. inr (spare.served q served.0 served.1 last.before new
        (subst (λ (r : RunnerState T). IsSpared r) (sym (begun (quiet.once unwaited))) was) done_now))
        (chain_quiet xs old last.before last.tried last.follows last.unserved);
  }
    where
      last : HasLast x xs old new
      last = last_of x xs old new is

      here : is_served x.answer ≡ true
      here = is_one (is_served x.answer) (let none = last.unserved in omega (arith, one, none))

      served : (reply : Reply) × (stamp : ℕ) × IsServed m planning x.request reply stamp last.before new
      served = served_by x.request x.answer x.made x.published last.before new last.ends.is here

      done_now : IsServed m planning q served.0 served.1 last.before new
      done_now = subst (λ (y : Request). IsServed m planning y served.0 served.1 last.before new) (sym last.of_request) served.2

      begun : xs ≡ [] → last.before ≡ old
      begun none = subst (λ ts. AreTried m planning retry_short (q ∷ []) ts old last.before) none last.tried

  -- how often the gate is asked in attempts of the request, where each that isn't crossed counts so many steps at most
  pub chain_asks : (limit : ℕ) (tries : List Try) (old new : RunnerState T) → AreTried m planning retry_short (q ∷ []) tries old new
      → ((x : Try) (r s : RunnerState T) → Same old r → q ≡ x.request → IsTry m planning x r s → x.crossed ≡ false → x.made ≤ limit)
      → WasCrossed m planning tries old ⊎ (asks_in tries ≤ limit + 2)
  chain_asks limit [] old new is each = inr (omega arith)
  chain_asks limit (x ∷ xs) old new is each = ⊎_elim
      (λ was. inl (crossed_more m planning x xs old was))
      (λ quiet. by quiet x.crossed refl)
      (chain_quiet xs old last.before last.tried last.follows last.unserved)
    where
      last : HasLast x xs old new
      last = last_of x xs old new is

      by : IsQuiet xs old last.before → (b : Bool) → x.crossed ≡ b → WasCrossed m planning (x ∷ xs) old ⊎ (asks_in (x ∷ xs) ≤ limit + 2)
      by quiet true e = inl (crossed_back m planning (x ∷ xs) old last.before quiet.same.0 quiet.same.1 (try_crossed m planning x xs last.before new last.ends e))
      by quiet false e =
          let none = quiet.asked in
          let few = each x last.before new quiet.same last.of_request last.ends e in
          let more = few_more x.answer x.published in
          inr (omega (arith, none, few, more))

  -- any attempt that isn't crossed counts no more than this
  pub any_attempt : (x : Try) (r s : RunnerState T) → IsTry m planning x r s → x.crossed ≡ false → x.made ≤ most_of_attempt (slots m r.layout)
  any_attempt x r s is e = (is.is.brief (or_none _ _ (sym is.crossed ∙ e)).1).few_steps

  -- the machine reaches a state behind each attempt
  reached_by : (request : Request) (a : Attempt) (old new : RunnerState T) → Answers m planning request a old new → IsReached m new
  reached_by request (attempts.Done reply stamp) old new is = is.reached
  reached_by request (attempts.Short short) old new is = is.untouched.reached
  reached_by request (attempts.Spent place word) old new is = is.untouched.reached
  reached_by request (attempts.Busy place word) old new is = is.untouched.reached
  reached_by request (attempts.Stale place expected read) old new is = is.untouched.reached
  reached_by request (attempts.Far loads) old new is = is.untouched.reached
  reached_by request attempts.Halted old new is = is.reached

  pub chain_reached : (tries : List Try) (old new : RunnerState T) → AreTried m planning retry_short (q ∷ []) tries old new → IsReached m new ⊎ (new ≡ old)
  chain_reached [] old new same = inr same
  chain_reached (x ∷ xs) old new is = inl (reached_by x.request x.answer is.0 new is.4.is.answers)
