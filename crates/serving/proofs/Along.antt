-- A list of requests, served one after the other.
use Rattle.std.specs.Prelude.{◌==◌, ◌&&◌, ◌||◌, ◌⊎◌, nat_lt, ◌%◌, not, Bool, true, false, slice_get, if◌then◌else◌}
use Rattle.std.proofs.Common.{◌≡◌, ◌≢◌, ℕ, ◌+◌, ◌*◌, ◌<◌, ◌≤◌, List, [], ◌∷◌, ◌++◌, length, refl, sym, ap, ◌∙◌, subst, ⊎_elim, inl, inr, arith, Some, None}
use Rattle.std.proofs.lemmas.Bool.{cases_eq, eq-eqb, both_ways}
use Rattle.std.proofs.lemmas.Bool.Decides.{nat_tests}
use Rattle.std.proofs.lemmas.Option.{slice_get_within}
use Rattle.machine_states.specs.map_history.specs.declared.op.Request.{Request}
use Rattle.machine_states.specs.map_history.specs.declared.reply.Reply.{Reply}
use Rattle.machine_states.specs.map_history.specs.Requests.{AreInOrder}
use Rattle.machine_states.specs.body_terms.specs.declared.outcome.Outcome.{Outcome}
use Rattle.machine_states.specs.body_terms.specs.declared.outcome.Outcome.TheVariants as outcomes
use Rattle.machine_states.specs.body_terms.specs.declared.thunk.Thunk.{Thunk}
use Rattle.machine_states.specs.table_words.specs.Limits.{IsWithinLimits}
use Rattle.machine_states.specs.structure_laws.specs.Meaning.{Meaning}
use Rattle.machine_states.specs.structure_laws.specs.Laws.{Laws}
use Rattle.machine_states.specs.runner_parts.specs.declared.entries.Known.{Known}
use Rattle.machine_states.specs.runner_parts.specs.Tests.{is_answered, are_answered}
use Rattle.machine_states.proofs.Steps.{some_same, none_some}
use Rattle.attempt_bounds.specs.version_words.specs.machine_invariant.specs.After.{AreAllowed}
use Rattle.attempt_bounds.specs.attempts.specs.commit_log.proofs.Asked.{asked_on_more}
use Rattle.attempt_bounds.specs.version_words.specs.RunnerState.{RunnerState}
use Rattle.attempt_bounds.specs.version_words.specs.TableState.{TableState, IsOf}
use Rattle.attempt_bounds.specs.attempts.specs.epoch_slots.specs.Collects.{IsTidy}
use Rattle.attempt_bounds.specs.attempts.specs.epoch_slots.specs.declared.reserves.Short.{Short}
use Rattle.attempt_bounds.specs.attempts.specs.try_lock.specs.Planning.{Planning}
use Rattle.attempt_bounds.specs.attempts.specs.try_lock.specs.declared.section.Section.{Section}
use Rattle.attempt_bounds.specs.attempts.specs.try_lock.specs.Reached.{IsReached}
use Rattle.attempt_bounds.specs.attempts.specs.request_facts.specs.Laws.{HasEntry}
use Rattle.machine_states.specs.body_terms.specs.Counted.{counted_on}
use Rattle.runner_gate.specs.Asks.{Asks, asked_on}
use Rattle.attempt_bounds.specs.attempts.specs.caller_facts.specs.Knowing.{KnowsMore, IsOwn}
use Rattle.attempt_bounds.specs.attempts.specs.caller_facts.specs.Asking.{MayAttempt}
use Rattle.attempt_bounds.specs.attempts.specs.Attempts.{asks_more, asks_before, IsServed, IsShort, IsTurnedAway, Stops, AtEntry, InPlan, BehindHold, InOwnRun, InHelpedRun, is_own_run, HasJustEnded, EndsAt, IsHalted, Answers}
use Rattle.attempt_bounds.specs.attempts.specs.declared.answers.Attempt.{Attempt}
use Rattle.attempt_bounds.specs.attempts.specs.declared.answers.Attempt.TheVariants as attempts
use Rattle.attempt_bounds.specs.attempts.specs.caller_facts.proofs.Knowing.{knows_same, knows_on, own_on}
use Rattle.attempt_bounds.specs.Spared.{IsSpared, AttemptsSpareSlots}
use Rattle.serving.specs.declared.answers.Served.{Served}
use Rattle.serving.specs.declared.answers.Served.TheVariants as answers
use Rattle.serving.specs.Serving.{is_tried_again, stop_of, IsBefore, TriedRuns, ServedRuns, Try, is_served, GoesOn, served_in, steps_in, asks_in, least_asks, asks_let, all_asks_let, WasJustServed, WasCrossed, TriesBriefly, ServesBriefly, MayServe, AreServed, AreTried, Persists, Serves}
use Rattle.serving.proofs.Lists.{and_true, all_pass, where_held, numbered, entry_known}
use Rattle.serving.proofs.Standing.{entry_on, answered_more, stamp_of, one_stamp}
use Rattle.serving.proofs.Tries.{or_left, count_more, asks_further, served_append, steps_append, asks_append, crossed_back, crossed_then, crossed_now, crossed_more, done_asks, tried_behind}
use Rattle.serving.proofs.Briefly.{IsBriefSoFar, brief_begins, served_on, stopped_on, ended_brief}
use Rattle.serving.proofs.Trying.{next_of_parts, same_layout, same_requests}

module _ {T : Type 0} where
  -- so many requests of the list are served and no other one, and the runner is idle
  pub record IsAlong (requests : List Request) (count : ℕ) (old r : RunnerState T) : Type 0 where
    pub served : AreServed requests count r
    pub unanswered : (q : Request) → slice_get requests count ≡ Some q → is_answered r.part.records.known q.number ≡ false
    pub tidy : IsTidy r
    pub knows : KnowsMore old r
    pub others : (q : Request) → IsOwn old q → ((i : ℕ) → slice_get requests i ≢ Some q)
        → is_answered r.part.records.known q.number ≡ is_answered old.part.records.known q.number

  pub along_begins : (planning : Planning) (requests : List Request) (r : RunnerState T) → MayServe planning requests r → IsAlong requests 0 r r
  along_begins planning requests r may = record {
    served = record {
      few = omega arith;
      answered = λ i q lt at. absurd (omega (arith, lt));
      rising = λ i j q q' below lt at at'. absurd (omega (arith, lt));
      behind = λ i q lt at. may.unanswered i q at;
    };
    unanswered = λ q at. may.unanswered 0 q at;
    tidy = may.tidy;
    knows = knows_same r r refl refl refl;
    others = λ q own not_there. refl;
  }

  -- the next request may be attempted
  module _ (planning : Planning) (requests : List Request) (old r : RunnerState T) (t : TableState T) (allowed : AreAllowed t.requests)
      (of_old : IsOf t old) (of_r : IsOf t r) (may : MayServe planning requests old) (i : ℕ) (q : Request) (at : slice_get requests i ≡ Some q)
      (along : IsAlong requests i old r) where
    in_order : AreInOrder old.requests 64
    in_order = (subst AreAllowed (sym of_old.requests) allowed).in_order

    known : (x : Request) → IsOwn old x → x.trace ≡ q.trace → x.number < q.number → is_answered r.part.records.known x.number ≡ true
    known x own trace below = ⊎_elim
        (λ was. answered_more old.part.records.known r.part.records.known along.knows.known x.number was)
        (λ before. along.served.answered before.0 x before.1 before.2)
        (may.earlier i q x at own trace below)

    two : (a b : Bool) → (a && b) ≡ true → (a ≡ true) × (b ≡ true)
    two true b e = (refl, e)
    two false b e = absurd (let z = e in cc)

    same_trace : (a b : ℕ) → (a == b) ≡ true → a ≡ b
    same_trace a b e = grind (arith, nat_tests, e)

    is_below : (a b : ℕ) → nat_lt a b ≡ true → a < b
    is_below a b e = grind (arith, nat_tests, e)

    earlier : (x : Request) → IsOwn old x → (x.trace == q.trace && nat_lt x.number q.number) ≡ true
        → is_answered r.part.records.known x.number ≡ true
    earlier x own e = let tests = two (x.trace == q.trace) (nat_lt x.number q.number) e in
        known x own (same_trace x.trace q.trace tests.0) (is_below x.number q.number tests.1)

    own_of : (k : ℕ) (x : Request) → slice_get old.requests k ≡ Some x → (x.trace == q.trace && nat_lt x.number q.number) ≡ true → IsOwn old x
    own_of k x here e = record {
      there = ap (λ n. slice_get old.requests n) (numbered old.requests in_order k x here) ∙ here;
      own = ap (λ n. n % old.layout.runners) (same_trace x.trace q.trace (two (x.trace == q.trace) (nat_lt x.number q.number) e).0) ∙ (may.own i q at).own;
    }

    each : (k : ℕ) (x : Request) → slice_get old.requests k ≡ Some x
        → (not (x.trace == q.trace && nat_lt x.number q.number) || is_answered r.part.records.known x.number) ≡ true
    each k x here = where_held (x.trace == q.trace && nat_lt x.number q.number) (is_answered r.part.records.known x.number)
        (λ e. earlier x (own_of k x here e) e)

    pub may_next : MayAttempt planning q r
    may_next = record {
      tidy = along.tidy;
      there = ap (λ rs. slice_get rs q.number) (same_requests t old r of_old of_r) ∙ (may.own i q at).there;
      next = next_of_parts _ _ _
          (eq-eqb _ _ (ap (λ l. q.trace % l.runners) (same_layout t old r of_old of_r) ∙ ((may.own i q at).own ∙ sym along.knows.number)))
          (along.unanswered q at)
          (ap (are_answered r.part.records.known q.trace q.number) (same_requests t old r of_old of_r)
          ∙ all_pass (λ (x : Request). not (x.trace == q.trace && nat_lt x.number q.number) || is_answered r.part.records.known x.number) old.requests each);
      served = may.served i q at;
    }

-- the attempts so far, by which so many requests were served: what is counted of them, and where no other one came between
pub record IsSoFar {T : Type 0} (m : Meaning) (planning : Planning) (requests : List Request) (retry_short : Bool) (count : ℕ) (old r : RunnerState T)
    (asks asks' : Asks) (steps steps' : ℕ) : Type 0 where
  pub tries : List Try
  pub tried : AreTried m planning retry_short requests tries old r
  pub follows : GoesOn retry_short tries
  pub count_is : count ≡ served_in tries
  pub counted : steps' ≡ counted_on steps (steps_in tries)
  pub asked : asks' ≡ asked_on asks (asks_in tries + count)
  pub least : count * least_asks ≤ asks_in tries + count
  pub brief : WasCrossed m planning tries old ⊎ IsBriefSoFar m count old r asks asks'
  -- where few slots were retired lately when the serving began, so it is now, unless wants are waited out
  pub spared : retry_short ≡ false → IsSpared old → WasCrossed m planning tries old ⊎ IsSpared r

pub so_far_begins : {T : Type 0} (m : Meaning) (planning : Planning) (requests : List Request) (retry_short : Bool) (r : RunnerState T) (asks : Asks) (steps : ℕ)
    → IsSoFar m planning requests retry_short 0 r r asks asks steps steps
so_far_begins m planning requests retry_short r asks steps = record {
  tries = [];
  tried = refl;
  follows = tt;
  count_is = refl;
  counted = refl;
  asked = refl;
  least = omega arith;
  brief = brief_begins m planning r asks;
  spared = λ unwaited spared. inr spared;
}

-- counts of the attempts of one request, behind those of the earlier ones
asks_now : (xs ps all count : ℕ) (asks asks1 asks2 : Asks) → all ≡ ps + xs → asks1 ≡ asked_on asks (xs + count) → asks2 ≡ asked_on asks1 ps
    → asks2 ≡ asked_on asks (all + count)
asks_now xs ps all count asks asks1 asks2 sums one two = asks_further asks asks1 asks2 (xs + count) ps one two
    ∙ ap (asked_on asks) (let e : ps + (xs + count) ≡ all + count = omega (arith, sums) in e)

asks_behind : (all count : ℕ) (asks asks2 asks3 : Asks) → asks2 ≡ asked_on asks (all + count) → asks3 ≡ asked_on asks2 1
    → asks3 ≡ asked_on asks (all + (count + 1))
asks_behind all count asks asks2 asks3 one two = asks_further asks asks2 asks3 (all + count) 1 one two
    ∙ ap (asked_on asks) (let e : 1 + (all + count) ≡ all + (count + 1) = omega arith in e)

least_now : (xs ps all count : ℕ) → all ≡ ps + xs → count * least_asks ≤ xs + count → count * least_asks ≤ all + count
least_now xs ps all count sums least = omega (arith, sums, least)

least_behind : (xs ps all count : ℕ) → all ≡ ps + xs → 15 ≤ ps → count * least_asks ≤ xs + count → (count + 1) * least_asks ≤ all + (count + 1)
least_behind xs ps all count sums some least = omega (arith, sums, some, least)

-- the request at this place was attempted to the last
module _ {T : Type 0} (m : Meaning) (laws : Laws m) (planning : Planning) (requests : List Request) (retry_short : Bool) (old r new : RunnerState T)
    (t : TableState T) (limits : IsWithinLimits t.layout) (allowed : AreAllowed t.requests) (of_old : IsOf t old) (of_r : IsOf t r) (of_new : IsOf t new)
    (may : MayServe planning requests old) (i : ℕ) (q : Request) (at : slice_get requests i ≡ Some q) (along : IsAlong requests i old r)
    (answer : Attempt) (Seen : ℕ → Asks → Type 0) (halts halts1 : ℕ) (went : halts1 ≡ halts) (asks asks1 asks2 : Asks) (steps steps1 steps2 : ℕ)
    (persists : Persists m planning retry_short q answer r new Seen halts1 asks1 asks2 steps1 steps2)
    (so_far : IsSoFar m planning requests retry_short i old r asks asks1 steps steps1) (spare : AttemptsSpareSlots T m planning) where
  limits_new : IsWithinLimits new.layout
  limits_new = subst IsWithinLimits (sym of_new.layout) limits

  allowed_new : AreAllowed new.requests
  allowed_new = subst AreAllowed (sym of_new.requests) allowed

  own_here : (x : Request) → IsOwn old x → IsOwn r x
  own_here x own = own_on old r (same_requests t old r of_old of_r) (same_layout t old r of_old of_r) along.knows.number x own

  -- the attempts of this request, and all
  abbrev ps : List Try
  ps = persists.last ∷ persists.again

  abbrev all : List Try
  all = ps ++ so_far.tries

  here : slice_get requests (served_in so_far.tries) ≡ Some q
  here = ap (slice_get requests) (sym so_far.count_is) ∙ at

  none_again : served_in (persists.again ++ so_far.tries) ≡ i
  none_again = let sums = served_append persists.again so_far.tries in
      let none = persists.unserved in let before = so_far.count_is in omega (arith, sums, none, before)

  goes_again : (ts : List Try) → GoesOn retry_short ts → GoesOn retry_short (ts ++ so_far.tries)
  goes_again [] on = so_far.follows
  goes_again (t ∷ ts) on = on

  abbrev tried_all : AreTried m planning retry_short requests all old new
  tried_all = (
    persists.before,
    tried_behind m planning retry_short requests q so_far.tries so_far.follows here old r so_far.tried persists.again persists.before persists.tried,
    goes_again persists.again persists.follows,
    ap (slice_get requests) none_again ∙ (at ∙ ap (λ (x : Request). Some x) (sym persists.of_request)),
    persists.ends,
  )

  -- so many of them served their request
  served_all : (b : Bool) → is_served answer ≡ b → served_in all ≡ (if b then 1 else 0) + i
  served_all b e =
      let now : ◌≡◌ {A = ℕ} (if is_served persists.last.answer then 1 else 0) (if b then 1 else 0)
      = ap (λ (a : Attempt). if is_served a then 1 else 0) persists.answered ∙ ap (λ (x : Bool). if x then 1 else 0) e in
      let rest = served_append persists.again so_far.tries in
      let none = persists.unserved in
      let before = so_far.count_is in
      omega (arith, now, rest, none, before)

  counted_all : steps2 ≡ counted_on steps (steps_in all)
  counted_all = count_more steps steps1 steps2 (steps_in so_far.tries) (steps_in ps) so_far.counted persists.counted
      ∙ ap (counted_on steps) (sym (steps_append ps so_far.tries))

  asked_all : asks2 ≡ asked_on asks (asks_in all + i)
  asked_all = asks_now (asks_in so_far.tries) (asks_in ps) (asks_in all) i asks asks1 asks2 (asks_append ps so_far.tries) so_far.asked persists.asked

  -- how often the gate had let the runner go on before the last part
  abbrev let_last : ℕ
  let_last = asks_let m planning persists.last persists.before new persists.ends

  abbrev let_all : ℕ
  let_all = all_asks_let m planning retry_short requests all old new tried_all

  let_sum : asked_on asks1 (asks_in persists.again + let_last) ≡ asked_on asks let_all
  let_sum = ap (λ (a : Asks). asked_on a (asks_in persists.again + let_last)) so_far.asked
      ∙ (asked_on_more asks (asks_in so_far.tries + i) (asks_in persists.again + let_last)
      ∙ ap (asked_on asks) (let sums = asks_append persists.again so_far.tries in let served = none_again in
      let e : (asks_in so_far.tries + i) + (asks_in persists.again + let_last) ≡ let_all = omega (arith, sums, served) in e))

  let_go_all : answer ≡ attempts.Halted → Seen halts (asked_on asks let_all)
  let_go_all e = subst (λ (h : ℕ). Seen h (asked_on asks let_all)) went (subst (Seen halts1) let_sum (persists.let_go e))

  least_all : i * least_asks ≤ asks_in all + i
  least_all = least_now (asks_in so_far.tries) (asks_in ps) (asks_in all) i (asks_append ps so_far.tries) so_far.least

  least_let_all : i * least_asks ≤ let_all + 1
  least_let_all =
      let sums = asks_append persists.again so_far.tries in let served = none_again in let before = so_far.least in
      omega (arith, sums, served, before)

  -- the last attempt began where the serving of this request did, if no want is waited out and no other one came between
  begun : persists.again ≡ [] → persists.before ≡ r
  begun none = subst (λ ts. AreTried m planning retry_short (q ∷ []) ts r persists.before) none persists.tried

  -- few slots were retired lately before the last attempt
  spared_before : retry_short ≡ false → IsSpared old → WasCrossed m planning all old ⊎ IsSpared persists.before
  spared_before unwaited was = ⊎_elim
      (λ crossed. inl (crossed_then m planning ps so_far.tries old crossed))
      (λ now. ⊎_elim
      (λ crossed. inl (crossed_now m planning ps so_far.tries old (crossed_back m planning ps old r (same_layout t old r of_old of_r) (same_requests t old r of_old of_r)
      (crossed_more m planning persists.last persists.again r crossed))))
      (λ once. inr (subst (λ (y : RunnerState T). IsSpared y) (sym (begun (once unwaited))) now))
      persists.once)
      (so_far.spared unwaited was)

  -- another request of the list
  other_place : (k : ℕ) (x : Request) → slice_get requests k ≡ Some x → k ≢ i → x.number ≢ q.number
  other_place k x there ne e = ne (may.once k i x q there at e)

  still_open : (k : ℕ) (x : Request) → slice_get requests k ≡ Some x → i < k → is_answered new.part.records.known x.number ≡ false
  still_open k x there lt = persists.no_other x (own_here x (may.own k x there)) (other_place k x there (λ e. omega (arith, lt, e)))
      ∙ along.served.behind k x lt there

  -- a stamp that is known of a request which was answered was known then
  was_known : IsReached m new → (n : ℕ) → is_answered r.part.records.known n ≡ true → (x : Known) → HasEntry new.part.records.known x
      → x.reply ≡ false → x.request ≡ n
      → (y : Known) × HasEntry r.part.records.known y × (y.request ≡ n) × (y.reply ≡ false) × (x.number ≡ y.number)
  was_known reached n was x h is request = let y = stamp_of r.part.records.known n was in (
    y.0,
    y.1,
    y.2,
    y.3,
    one_stamp m laws new limits_new allowed_new reached x y.0 h
        (entry_on r.part.records.known new.part.records.known persists.knows.known y.0 y.1) (request ∙ sym y.2) is y.3,
  )

  -- what is served stays so
  stays : IsReached m new → AreServed requests i new
  stays reached = record {
    few = along.served.few;
    answered = λ k x lt there. answered_more r.part.records.known new.part.records.known persists.knows.known x.number (along.served.answered k x lt there);
    rising = λ j k a b below lt there there' x y hx hy isx isy ofx ofy.
        let was = was_known reached a.number (along.served.answered j a (omega (arith, below, lt)) there) x hx isx ofx in
        let were = was_known reached b.number (along.served.answered k b lt there') y hy isy ofy in
        let rose = along.served.rising j k a b below lt there there' was.0 were.0 was.1 were.1 was.3 were.3 was.2 were.2 in
        omega (arith, rose, was.4, were.4);
    behind = λ k x lt there. still_open k x there lt;
  }

  others_all : (x : Request) → IsOwn old x → ((k : ℕ) → slice_get requests k ≢ Some x)
      → is_answered new.part.records.known x.number ≡ is_answered old.part.records.known x.number
  others_all x own nowhere = persists.no_other x (own_here x own)
      (λ e. nowhere i (at ∙ (sym (may.own i q at).there ∙ (ap (λ n. slice_get old.requests n) (sym e) ∙ own.there))))
      ∙ along.others x own nowhere

  knows_all : KnowsMore old new
  knows_all = knows_on old r new along.knows persists.knows

  -- this request is served
  module _ (reply : Reply) (stamp : ℕ) (done : IsServed m planning q reply stamp persists.before new) where
    knows_now : is_answered new.part.records.known q.number ≡ true
    knows_now = and_true _ _
        (entry_known new.part.records.known q.number false done.knows_stamp.0 _ done.knows_stamp.1 refl refl)
        (entry_known new.part.records.known q.number true done.knows_reply.0 _ done.knows_reply.1 refl refl)

    -- its stamp is above those of the requests before it
    above : (k : ℕ) (a : Request) → k < i → slice_get requests k ≡ Some a → (x : Known) → HasEntry new.part.records.known x → x.reply ≡ false
        → x.request ≡ a.number → x.number < stamp
    above k a lt there x h is request =
        let answered = along.served.answered k a lt there in
        let was = was_known done.reached a.number answered x h is request in
        let below = done.above was.0 (entry_on r.part.records.known persists.before.part.records.known persists.knew.known was.0 was.1) was.3
        (ap (λ n. is_answered persists.before.part.records.known n) was.2
        ∙ answered_more r.part.records.known persists.before.part.records.known persists.knew.known a.number answered) in
        subst (λ n. n < stamp) (sym was.4) below

    stamp_now : (y : Known) → HasEntry new.part.records.known y → y.reply ≡ false → y.request ≡ q.number → y.number ≡ stamp
    stamp_now y h is request = one_stamp m laws new limits_new allowed_new done.reached y (record { request = q.number; reply = false; number = stamp }) h
        done.knows_stamp request is refl

    is_here : (k : ℕ) (x : Request) → k ≡ i → slice_get requests k ≡ Some x → q ≡ x
    is_here k x e there = some_same q x (sym at ∙ (ap (slice_get requests) (sym e) ∙ there))

    earlier_of : (k : ℕ) → k < i + 1 → k ≢ i → k < i
    earlier_of k lt ne = grind arith

    pub along_on : IsAlong requests (i + 1) old new
    along_on = record {
      served = record {
        few = let low = slice_get_within requests i q at in omega (arith, low);
        answered = λ k x lt there. ⊎_elim
            (λ e. subst (λ (y : Request). is_answered new.part.records.known y.number ≡ true) (is_here k x e there) knows_now)
            (λ ne. (stays done.reached).answered k x (earlier_of k lt ne) there)
            (cases_eq k i);
        rising = λ j k a b below lt there there'. ⊎_elim
            (λ e. subst (λ (y : Request). IsBefore new.part.records.known a y) (is_here k b e there')
            (λ x y hx hy isx isy ofx ofy. subst (λ n. x.number < n) (sym (stamp_now y hy isy ofy))
            (above j a (omega (arith, below, e)) there x hx isx ofx)))
            (λ ne. (stays done.reached).rising j k a b below (earlier_of k lt ne) there there')
            (cases_eq k i);
        behind = λ k x lt there. still_open k x there (omega (arith, lt));
      };
      unanswered = λ x there. still_open (i + 1) x there (omega arith);
      tidy = done.tidy;
      knows = knows_all;
      others = others_all;
    }

  -- or the serving stops with it
  over_of : (retry : Bool) (limbo board : ℕ) → (retry && (not (limbo == 0) || not (board == 0))) ≡ false → (retry ≡ false) ⊎ ((limbo ≡ 0) × (board ≡ 0))
  over_of false limbo board e = inl refl
  over_of true limbo board e = inr (grind (arith, nat_tests, e), grind (arith, nat_tests, e))

  abbrev Briefly : Served → Type 0
  Briefly stopped = WasCrossed m planning all old ⊎ ServesBriefly m stopped i old new asks asks2

  abbrev ServesSo : Served → Type 0
  ServesSo stopped = Serves m planning retry_short requests stopped old new Seen halts asks asks2 steps steps2

  stopped_brief : (a : Attempt) (stopped : Served)
      → ((start before behind : ℕ) → before ≡ start + i → TriedRuns a before behind → ServedRuns stopped i start behind)
      → WasCrossed m planning ps r ⊎ TriesBriefly m a r new asks1 asks2 → Briefly stopped
  stopped_brief a stopped runs tried = stopped_on m planning old r new (same_layout t old r of_old of_r) (same_requests t old r of_old of_r)
      asks asks1 asks2 ps so_far.tries i so_far.brief a stopped runs tried

  one_behind : (start before behind : ℕ) → before ≡ start + i → behind ≤ before + 1 → behind ≤ start + (i + 1)
  one_behind start before behind at runs = omega (arith, at, runs)

  count_here : is_served answer ≡ false → i ≡ served_in all
  count_here e = let sums = served_all false e in omega (arith, sums)

  serves_short : (short : Short) → is_served answer ≡ false → Briefly (answers.Short short) → is_tried_again retry_short (attempts.Short short) ≡ false
      → IsShort m short q.number persists.before new → ServesSo (answers.Short short)
  serves_short short unserved brief last is = record {
    count = i;
    served = stays is.untouched.reached;
    tries = all;
    tried = tried_all;
    ends = (
      q,
      at,
      record {
        before = persists.before;
        knew = knows_on old r persists.before along.knows persists.knew;
        spared = spared_before;
        stops = record { cause = is; over = over_of retry_short short.limbo short.board last };
        tidy = is.reclaims.rested.tidy;
        unanswered = is.untouched.unknown;
      },
    );
    knows = knows_all;
    others = others_all;
    count_is = count_here unserved;
    counted = counted_all;
    asked = asked_all;
    least = least_all;
    let_go = λ e. absurd (let z = e in cc);
    least_let = λ e. absurd (let z = e in cc);
    brief = brief;
  }

  serves_spent : (place word : ℕ) → is_served answer ≡ false → Briefly (answers.Spent place word)
      → IsTurnedAway m planning q (attempts.Spent place word) persists.before new → ServesSo (answers.Spent place word)
  serves_spent place word unserved brief is = record {
    count = i;
    served = stays is.untouched.reached;
    tries = all;
    tried = tried_all;
    ends = (
      q,
      at,
      record {
        before = persists.before;
        knew = knows_on old r persists.before along.knows persists.knew;
        spared = spared_before;
        stops = is;
        tidy = is.tidy;
        unanswered = is.untouched.unknown;
      },
    );
    knows = knows_all;
    others = others_all;
    count_is = count_here unserved;
    counted = counted_all;
    asked = asked_all;
    least = least_all;
    let_go = λ e. absurd (let z = e in cc);
    least_let = λ e. absurd (let z = e in cc);
    brief = brief;
  }

  -- a gate halted the runner with nothing published: this request isn't answered, or its section was just run to its end
  module _ (reached : IsReached m new) where
    own_before : (x : Request) → IsOwn new x → IsOwn r x
    own_before x own = own_on new r (sym (same_requests t r new of_r of_new)) (sym (same_layout t r new of_r of_new)) (sym persists.knows.number) x own

    just_served : (thunk : Thunk) (section : Section) (published : RunnerState T) → HasJustEnded m planning q thunk section persists.before published new
        → is_answered new.part.records.known q.number ≡ true → WasJustServed q new
    just_served thunk section published ended answered = record {
      answered = answered;
      before = published.part.records.finished;
      run = ended.finished;
      kept = ended.kept;
      reply = told.0;
      outcome = told.1;
      above = λ x own other known a b ha hb isa isb ofa ofb.
          let here = own_before x own in
          let was = was_known reached x.number (sym (persists.no_other x here other) ∙ known) a ha isa ofa in
          let below = ended.above was.0 (entry_on r.part.records.known persists.before.part.records.known persists.knew.known was.0 was.1) was.3
          (ap (λ n. is_answered persists.before.part.records.known n) was.2
          ∙ answered_more r.part.records.known persists.before.part.records.known persists.knew.known x.number (sym (persists.no_other x here other) ∙ known))
          answered b.number (hb.0, hb.1 ∙ (λ i. Some (record { request = ofb i; reply = isb i; number = b.number }))) in
          subst (λ n. n < b.number) (sym was.4) below;
    }
      where
        told_by : (o : Outcome) → ended.finished.outcome ≡ o → (reply : ℕ) × (ended.finished.outcome ≡ outcomes.Answered reply)
        told_by (outcomes.Answered reply) e = (reply, e)
        told_by (outcomes.Busy place word) e = absurd (both_ways _ (ended.untold (λ reply is. let z = sym e ∙ is in cc)) answered)
        told_by (outcomes.Stale place expected read) e = absurd (both_ways _ (ended.untold (λ reply is. let z = sym e ∙ is in cc)) answered)
        told_by (outcomes.Spent place word) e = absurd (both_ways _ (ended.untold (λ reply is. let z = sym e ∙ is in cc)) answered)

        told : (reply : ℕ) × (ended.finished.outcome ≡ outcomes.Answered reply)
        told = told_by ended.finished.outcome refl

    halted_so : (at : Stops m planning q persists.before new) → (is_own_run m planning q persists.before new at ≡ false → is_answered new.part.records.known q.number ≡ false)
        → EndsAt m planning q persists.before new at → (is_answered new.part.records.known q.number ≡ false) ⊎ WasJustServed q new
    halted_so (InOwnRun thunk section published made tries short) unknown ended = by (is_answered new.part.records.known q.number) refl
      where
        by : (b : Bool) → is_answered new.part.records.known q.number ≡ b → (is_answered new.part.records.known q.number ≡ false) ⊎ WasJustServed q new
        by true e = inr (just_served thunk section published ended e)
        by false e = inl e
    halted_so (AtEntry enters) unknown ended = inl (unknown refl)
    halted_so (InPlan readings plans) unknown ended = inl (unknown refl)
    halted_so (BehindHold thunk section tries) unknown ended = inl (unknown refl)
    halted_so (InHelpedRun is) unknown ended = inl (unknown refl)

  serves_halted : answer ≡ attempts.Halted → Briefly answers.Halted → IsHalted m planning q persists.before new → ServesSo answers.Halted
  serves_halted same brief is = record {
    count = i;
    served = stays is.reached;
    tries = all;
    tried = tried_all;
    ends = record {
      published = λ x e. (q, at, is.published x e);
      unanswered = λ none x there. subst (λ (y : Request). (is_answered new.part.records.known y.number ≡ false) ⊎ WasJustServed y new) (some_same q x (sym at ∙ there))
          (halted_so is.reached is.at (is.unknown none) (is.ended none));
    };
    knows = knows_all;
    others = others_all;
    count_is = count_here (ap is_served same);
    counted = counted_all;
    asked = asked_all;
    least = least_all;
    let_go = λ _. let_go_all same;
    least_let = λ _. least_let_all;
    brief = brief;
  }

  serves_stopped : (a : Attempt) (stopped : Served) → answer ≡ a → stop_of a ≡ Some stopped → is_tried_again retry_short a ≡ false
      → WasCrossed m planning ps r ⊎ TriesBriefly m a r new asks1 asks2
      → Answers m planning q a persists.before new → ServesSo stopped
  serves_stopped (attempts.Short short) stopped same e last tried is =
      subst ServesSo (some_same (answers.Short short) stopped e)
      (serves_short short (ap is_served same) (stopped_brief (attempts.Short short) (answers.Short short) (λ start before behind at runs. runs ∙ at) tried) last is)
  serves_stopped (attempts.Spent place word) stopped same e last tried is =
      subst ServesSo (some_same (answers.Spent place word) stopped e)
      (serves_spent place word (ap is_served same) (stopped_brief (attempts.Spent place word) (answers.Spent place word) one_behind tried) is)
  serves_stopped attempts.Halted stopped same e last tried is =
      subst ServesSo (some_same answers.Halted stopped e)
      (serves_halted same (stopped_brief attempts.Halted answers.Halted one_behind tried) is)
  serves_stopped (attempts.Done reply stamp) stopped same e last tried is = absurd (none_some stopped (sym e))
  serves_stopped (attempts.Busy place word) stopped same e last tried is = absurd (let z = last in cc)
  serves_stopped (attempts.Stale place expected read) stopped same e last tried is = absurd (let z = last in cc)
  serves_stopped (attempts.Far loads) stopped same e last tried is = absurd (let z = last in cc)

  pub stopped_serves : (stopped : Served) → stop_of answer ≡ Some stopped → Serves m planning retry_short requests stopped old new Seen halts asks asks2 steps steps2
  stopped_serves stopped e = serves_stopped answer stopped refl e persists.over persists.brief persists.answers

  going_on : (a : Attempt) → stop_of a ≡ None → Answers m planning q a persists.before new → IsAlong requests (i + 1) old new
  going_on (attempts.Done reply stamp) e is = along_on reply stamp is
  going_on (attempts.Short short) e is = absurd (none_some _ e)
  going_on (attempts.Spent place word) e is = absurd (none_some _ e)
  going_on attempts.Halted e is = absurd (none_some _ e)
  going_on (attempts.Busy place word) e is = absurd (none_some _ e)
  going_on (attempts.Stale place expected read) e is = absurd (none_some _ e)
  going_on (attempts.Far loads) e is = absurd (none_some _ e)

  spared_by : (a : Attempt) → stop_of a ≡ None → Answers m planning q a persists.before new
      → retry_short ≡ false → IsSpared old → WasCrossed m planning all old ⊎ IsSpared new
  spared_by (attempts.Done reply stamp) e is = λ unwaited was. ⊎_elim inl (λ now. inr (spare.served q reply stamp persists.before new now is)) (spared_before unwaited was)
  spared_by (attempts.Short short) e is = absurd (none_some _ e)
  spared_by (attempts.Spent place word) e is = absurd (none_some _ e)
  spared_by attempts.Halted e is = absurd (none_some _ e)
  spared_by (attempts.Busy place word) e is = absurd (none_some _ e)
  spared_by (attempts.Stale place expected read) e is = absurd (none_some _ e)
  spared_by (attempts.Far loads) e is = absurd (none_some _ e)

  is_done : (a : Attempt) → stop_of a ≡ None → is_served a ≡ true
  is_done (attempts.Done reply stamp) e = refl
  is_done (attempts.Short short) e = absurd (none_some _ e)
  is_done (attempts.Spent place word) e = absurd (none_some _ e)
  is_done attempts.Halted e = absurd (none_some _ e)
  is_done (attempts.Busy place word) e = absurd (none_some _ e)
  is_done (attempts.Stale place expected read) e = absurd (none_some _ e)
  is_done (attempts.Far loads) e = absurd (none_some _ e)

  pub goes_along : stop_of answer ≡ None → IsAlong requests (i + 1) old new
  goes_along e = going_on answer e persists.answers

  -- the attempts of a served request asked so often
  done_many : is_served answer ≡ true → 15 ≤ asks_in ps
  done_many done =
      let most = done_asks m planning persists.last.request persists.last.answer persists.last.made persists.last.published persists.before new persists.ends.is
      (ap is_served persists.answered ∙ done) in
      omega (arith, most)

  -- behind the ask that follows a served request
  pub so_far_along : stop_of answer ≡ None → (asks3 : Asks) → asks3 ≡ asked_on asks2 1
      → IsSoFar m planning requests retry_short (i + 1) old new asks asks3 steps steps2
  so_far_along e asks3 asked =
      let done = is_done answer e in
      let last : is_served persists.last.answer ≡ true = ap is_served persists.answered ∙ done in
      record {
        tries = all;
        tried = tried_all;
        follows = or_left (is_served persists.last.answer) (is_tried_again retry_short persists.last.answer) last;
        count_is = let sums = served_all true done in omega (arith, sums);
        counted = counted_all;
        asked = asks_behind (asks_in all) i asks asks2 asks3 asked_all asked;
        least = least_behind (asks_in so_far.tries) (asks_in ps) (asks_in all) i (asks_append ps so_far.tries)
            (done_many done) so_far.least;
        brief = served_on m planning old r new (same_layout t old r of_old of_r) (same_requests t old r of_old of_r) asks asks1 asks2 ps so_far.tries i so_far.brief
            answer e persists.brief asks3 asked;
        spared = spared_by answer e persists.answers;
      }

  -- or that ask halted the runner: the gate was seen before it
  pub halted_behind : stop_of answer ≡ None → (asks3 : Asks) → asks3 ≡ asked_on asks2 1 → Seen halts asks2
      → Serves m planning retry_short requests answers.Halted old new Seen halts asks asks3 steps steps2
  halted_behind e asks3 asked seen = record {
    count = i + 1;
    served = now.served;
    tries = all;
    tried = tried_all;
    ends = record {
      published = λ x there. absurd (none_some x (sym there ∙ now.tidy.at.published));
      unanswered = λ none x there. inl (now.unanswered x there);
    };
    knows = knows_all;
    others = others_all;
    count_is = let sums = served_all true done in omega (arith, sums);
    counted = counted_all;
    asked = asks_behind (asks_in all) i asks asks2 asks3 asked_all asked;
    least = least_behind (asks_in so_far.tries) (asks_in ps) (asks_in all) i (asks_append ps so_far.tries) (done_many done) so_far.least;
    let_go = λ _. subst (Seen halts) (asked_all ∙ ap (asked_on asks) before_ask) seen;
    least_let = λ _.
        let most = least_behind (asks_in so_far.tries) (asks_in ps) (asks_in all) i (asks_append ps so_far.tries) (done_many done) so_far.least in
        let whole = before_ask in
        omega (arith, most, whole);
    brief = ended_brief m planning all (i + 1) old new asks asks3 answers.Halted
        (λ start behind runs. let low : behind ≤ start + ((i + 1) + 1) = omega (arith, runs) in low)
        (served_on m planning old r new (same_layout t old r of_old of_r) (same_requests t old r of_old of_r) asks asks1 asks2 ps so_far.tries i so_far.brief
        answer e persists.brief asks3 asked);
  }
    where
      now : IsAlong requests (i + 1) old new
      now = goes_along e

      done : is_served answer ≡ true
      done = is_done answer e

      before_ask : asks_in all + i ≡ let_all
      before_ask =
          let last : let_last ≡ persists.last.made + asks_more persists.last.answer persists.last.published
          = ap (λ (b : Bool). if b then persists.last.made + asks_more persists.last.answer persists.last.published
          else asks_before m planning persists.last.request persists.last.answer persists.before new persists.ends.is.answers) (ap is_served persists.answered ∙ done) in
          let served = none_again in
          omega (arith, last, served)

-- how the serving ends behind requests that are served
module _ {T : Type 0} (m : Meaning) (planning : Planning) (requests : List Request) (retry_short : Bool) (old new : RunnerState T) (i : ℕ)
    (along : IsAlong requests i old new) (Seen : ℕ → Asks → Type 0) (halts : ℕ) (asks asks' : Asks) (steps steps' : ℕ) (so_far : IsSoFar m planning requests retry_short i old new asks asks' steps steps') where
  pub all_served : i ≡ length requests → Serves m planning retry_short requests answers.All old new Seen halts asks asks' steps steps'
  all_served e = record {
    count = i;
    served = along.served;
    tries = so_far.tries;
    tried = so_far.tried;
    ends = (e, along.tidy);
    knows = along.knows;
    others = along.others;
    count_is = so_far.count_is;
    counted = so_far.counted;
    asked = so_far.asked;
    least = so_far.least;
    let_go = λ e. absurd (let z = e in cc);
    least_let = λ e. absurd (let z = e in cc);
    brief = ended_brief m planning so_far.tries i old new asks asks' answers.All (λ start behind runs. runs) so_far.brief;
  }

-- when a last attempt was halted
pub halted_of : (retry_short : Bool) (a : Attempt) → is_tried_again retry_short a ≡ false → stop_of a ≡ Some answers.Halted → a ≡ attempts.Halted
halted_of retry_short attempts.Halted last e = refl
halted_of retry_short (attempts.Done reply stamp) last e = absurd (none_some _ (sym e))
halted_of retry_short (attempts.Short short) last e = absurd (let z = some_same _ _ e in cc)
halted_of retry_short (attempts.Spent place word) last e = absurd (let z = some_same _ _ e in cc)
halted_of retry_short (attempts.Busy place word) last e = absurd (let z = last in cc)
halted_of retry_short (attempts.Stale place expected read) last e = absurd (let z = last in cc)
halted_of retry_short (attempts.Far loads) last e = absurd (let z = last in cc)

pub went_of : (a : Attempt) (stopped : Served) → stop_of a ≡ Some stopped → stopped ≢ answers.Halted → a ≢ attempts.Halted
went_of a stopped e ne halted = ne (sym (some_same answers.Halted stopped (sym (ap stop_of halted) ∙ e)))

pub going_of : (a : Attempt) → stop_of a ≡ None → a ≢ attempts.Halted
going_of a e halted = none_some answers.Halted (sym (ap stop_of halted) ∙ e)
