-- A list of requests, served one after the other, each `get` read first.
use Rattle.std.specs.Prelude.{◌⊎◌, ◌*◌, ◌%◌, Bool, true, false, slice_get}
use Rattle.std.proofs.Common.{◌≡◌, ◌≢◌, ℕ, zero, suc, ◌+◌, ◌<◌, ◌≤◌, List, [], ◌∷◌, ◌++◌, length, refl, sym, ap, ◌∙◌, subst, ⊎_elim, inl, inr, arith, Some}
use Rattle.std.proofs.lemmas.Bool.{cases_eq, both_ways}
use Rattle.std.proofs.lemmas.Option.{slice_get_within}
use Rattle.std.proofs.Math.Nat.{suc-mul}
use Rattle.machine_states.specs.map_history.specs.declared.op.Request.{Request}
use Rattle.seq_read.specs.history_orders.specs.Turns.{Follows}
use Rattle.machine_states.specs.table_words.specs.Limits.{IsWithinLimits}
use Rattle.machine_states.specs.structure_laws.specs.Meaning.{Meaning}
use Rattle.machine_states.specs.structure_laws.specs.Cells.{slots}
use Rattle.machine_states.specs.structure_laws.specs.Laws.{Laws}
use Rattle.machine_states.specs.body_terms.specs.Counted.{counted_on}
use Rattle.seq_read.specs.runner_gate.specs.Asks.{Asks, asked_on}
use Rattle.machine_states.specs.runner_parts.specs.declared.entries.Known.{Known}
use Rattle.machine_states.specs.runner_parts.specs.declared.entries.Published.{Published}
use Rattle.machine_states.specs.runner_parts.specs.Tests.{is_answered}
use Rattle.machine_states.proofs.Steps.{some_same, none_some}
use Rattle.version_words.specs.RunnerState.{RunnerState}
use Rattle.version_words.specs.TableState.{TableState, IsOf}
use Rattle.version_words.specs.machine_invariant.specs.After.{AreAllowed}
use Rattle.serving.specs.attempts.specs.commit_log.proofs.Asked.{counted_more, asked_on_more}
use Rattle.seq_read.specs.caller_facts.specs.try_lock.specs.Planning.{Planning}
use Rattle.seq_read.specs.caller_facts.specs.try_lock.specs.Reached.{IsReached}
use Rattle.serving.specs.attempt_bounds.specs.Spared.{IsSpared}
use Rattle.seq_read.specs.caller_facts.specs.request_facts.specs.Laws.{HasEntry}
use Rattle.seq_read.specs.caller_facts.specs.epoch_slots.specs.Collects.{IsTidy}
use Rattle.seq_read.specs.caller_facts.specs.Knowing.{KnowsMore, IsOwn}
use Rattle.seq_read.specs.caller_facts.proofs.Knowing.{knows_same, knows_on, own_on}
use Rattle.serving.specs.Serving.{Try, most_asks, WasCrossed, WasJustServed, WasHalted, MayServe}
use Rattle.serving.specs.declared.answers.Served.{Served}
use Rattle.serving.specs.declared.answers.Served.TheVariants as answers
use Rattle.serving.proofs.Standing.{entry_on, answered_more, stamp_of, one_stamp}
use Rattle.serving.proofs.Trying.{same_layout, same_requests}
use Rattle.free_serving.specs.Services.{is_get, Service, request_of, served_by, full_by, steps_by, asks_by, steps_in, asks_in, tries_by, tries_in, goes_on, GoesOn, IsEnd, IsService, AreDone, asks_let}
use Rattle.free_serving.specs.Left.{IsBefore, IsOdd, MostRuns, AreServed, AreAskedWholly, WasPublished, WasReadInVain, HasStopped, Ends as EndsAll, Leaves}
use Rattle.free_serving.specs.One.{IsServed, Ends, LeavesOne, ServesOne}
use Rattle.free_serving.specs.Freely.{ServesAll}
use Rattle.serving.proofs.Tries.{crossed_then, crossed_now}
use Rattle.free_serving.proofs.Same.{Same}
use Rattle.free_serving.proofs.Both.{came_back, vain_back}

-- a count rises by at most one each time
counted_few : (count n : ℕ) → counted_on count n ≤ count + n
counted_few count zero = omega arith
counted_few count (suc n) = let few = counted_few count n in omega (arith, few)

swapped : (a b : ℕ) → a + b ≡ b + a
swapped a b = omega arith

count_more : (start mid end s n : ℕ) → mid ≡ counted_on start s → end ≡ counted_on mid n → end ≡ counted_on start (n + s)
count_more start mid end s n one two = two ∙ (ap (λ c. counted_on c n) one ∙ (counted_more start s n ∙ ap (counted_on start) (swapped s n)))

asks_further : (start mid end : Asks) (s n : ℕ) → mid ≡ asked_on start s → end ≡ asked_on mid n → end ≡ asked_on start (n + s)
asks_further start mid end s n one two = two ∙ (ap (λ (a : Asks). asked_on a n) one ∙ (asked_on_more start s n ∙ ap (asked_on start) (swapped s n)))

-- one bound more
one_more : (i k before here : ℕ) → before ≤ i * k → here ≤ k → here + before ≤ (i + 1) * k
one_more i k before here few more =
    let next : (i + 1) * k ≡ i * k + k = (let e : i + 1 ≡ suc i = omega arith in ap (λ n. n * k) e ∙ suc-mul i k) in
    omega (arith, few, more, next)

one_least : (i k before here : ℕ) → i * k ≤ before → k ≤ here → (i + 1) * k ≤ here + before
one_least i k before here few more =
    let next : (i + 1) * k ≡ i * k + k = (let e : i + 1 ≡ suc i = omega arith in ap (λ n. n * k) e ∙ suc-mul i k) in
    omega (arith, few, more, next)

-- no fewer for more requests
mul_more : (i j k : ℕ) → i ≤ j → i * k ≤ j * k
mul_more i j k few = grind (arith, few)

module _ {T : Type 0} (m : Meaning) (planning : Planning) where
  -- so many requests of the list are served and no other one, and the runner is idle
  pub record IsAlong (requests : List Request) (count : ℕ) (old r : RunnerState T) : Type 0 where
    pub served : AreServed true requests count r
    pub unanswered : (q : Request) → slice_get requests count ≡ Some q → is_answered r.part.records.known q.number ≡ false
    pub tidy : IsTidy r
    pub knows : KnowsMore old r
    pub others : (q : Request) → IsOwn old q → ((i : ℕ) → slice_get requests i ≢ Some q)
        → is_answered r.part.records.known q.number ≡ is_answered old.part.records.known q.number
    pub odd : (i : ℕ) (q : Request) → i < count → slice_get requests i ≡ Some q → is_get q.op ≡ true
        → IsOdd r.part.records.known q ⊎ WasReadInVain m planning q old

  pub along_begins : (requests : List Request) (r : RunnerState T) → MayServe planning requests r → IsAlong requests 0 r r
  along_begins requests r may = record {
    served = record {
      few = omega arith;
      answered = λ i q lt at. absurd (omega (arith, lt));
      rising = λ i j q q' below lt at at'. absurd (omega (arith, lt));
      behind = λ i q lt at. may.unanswered i q at;
    };
    unanswered = λ q at. may.unanswered 0 q at;
    tidy = may.tidy;
    knows = knows_same r r refl refl refl;
    others = λ q own not_there. refl;
    odd = λ i q lt at. absurd (omega (arith, lt));
  }

  -- so many runs, and at most so many asks
  pub record IsBriefSoFar (count asked : ℕ) (old r : RunnerState T) : Type 0 where
    pub runs : length r.part.records.finished ≤ length old.part.records.finished + count
    pub few : asked ≤ count * most_asks (slots m old.layout)

  -- the services so far, one for each of so many requests
  pub record IsSoFar (retry_short : Bool) (requests : List Request) (count : ℕ) (old r : RunnerState T) (asks asks' : Asks) (steps steps' : ℕ)
      : Type 0 where
    pub services : List Service
    pub done : AreDone m planning retry_short requests services old r
    pub follows : GoesOn services
    pub many : length services ≡ count
    pub counted : steps' ≡ counted_on steps (steps_in services)
    pub asked : asks' ≡ asked_on asks (asks_in services)
    pub least : count * 8 ≤ asks_in services
    pub brief : WasCrossed m planning (tries_in services) old ⊎ IsBriefSoFar count (asks_in services) old r
    pub spared : retry_short ≡ false → IsSpared old → WasCrossed m planning (tries_in services) old ⊎ IsSpared r

  pub so_far_begins : (retry_short : Bool) (requests : List Request) (r : RunnerState T) (asks : Asks) (steps : ℕ)
      → IsSoFar retry_short requests 0 r r asks asks steps steps
  so_far_begins retry_short requests r asks steps = record {
    services = [];
    done = refl;
    follows = tt;
    many = refl;
    counted = refl;
    asked = refl;
    least = omega arith;
    brief = inr (record { runs = omega arith; few = omega arith });
    spared = λ unwaited was. inr was;
  }

  -- the next request may be served by itself
  pub one_may : (requests : List Request) (old r : RunnerState T) (t : TableState T) → IsOf t old → IsOf t r → MayServe planning requests old
      → (i : ℕ) (q : Request) → slice_get requests i ≡ Some q → IsAlong requests i old r → MayServe planning (q ∷ []) r
  one_may requests old r t of_old of_r may i q at along = record {
    tidy = along.tidy;
    own = λ k x there. own_on old r (same_requests t old r of_old of_r) (same_layout t old r of_old of_r) along.knows.number x
        (subst (λ (y : Request). IsOwn old y) (this k x there) (may.own i q at));
    served = λ k x there. subst (λ (y : Request). planning.serves y.op ≡ true) (this k x there) (may.served i q at);
    once = λ k l x y there there' same. zero_of k x there ∙ sym (zero_of l y there');
    unanswered = λ k x there. subst (λ (y : Request). is_answered r.part.records.known y.number ≡ false) (this k x there) (along.unanswered q at);
    earlier = λ k x y there own trace below. inl (known y (own_back y own) (trace ∙ ap (λ (z : Request). z.trace) (sym (this k x there)))
        (subst (λ (z : Request). y.number < z.number) (sym (this k x there)) below));
  }
    where
      zero_of : (k : ℕ) (x : Request) → slice_get (q ∷ []) k ≡ Some x → k ≡ 0
      zero_of zero x there = refl
      zero_of (suc k) x there = absurd (none_some x (sym there))

      this : (k : ℕ) (x : Request) → slice_get (q ∷ []) k ≡ Some x → q ≡ x
      this zero x there = some_same q x there
      this (suc k) x there = absurd (none_some x (sym there))

      own_back : (x : Request) → IsOwn r x → IsOwn old x
      own_back x own = own_on r old (sym (same_requests t old r of_old of_r)) (sym (same_layout t old r of_old of_r)) (sym along.knows.number) x own

      known : (x : Request) → IsOwn old x → x.trace ≡ q.trace → x.number < q.number → is_answered r.part.records.known x.number ≡ true
      known x own trace below = ⊎_elim
          (λ was. answered_more old.part.records.known r.part.records.known along.knows.known x.number was)
          (λ before. along.served.answered before.0 x before.1 before.2)
          (may.earlier i q x at own trace below)

-- the request at this place was served by itself, or the serving ended with it
module _ {T : Type 0} (m : Meaning) (laws : Laws m) (planning : Planning) (retry_short : Bool) (requests : List Request) (old r new : RunnerState T)
    (t : TableState T) (limits : IsWithinLimits t.layout) (allowed : AreAllowed t.requests) (of_old : IsOf t old) (of_r : IsOf t r) (of_new : IsOf t new)
    (may : MayServe planning requests old) (i : ℕ) (q : Request) (at : slice_get requests i ≡ Some q) (along : IsAlong m planning requests i old r)
    (answer : Served) (count full asked : ℕ) (tries : List Try) (left : LeavesOne m planning retry_short q answer count full asked tries r new) where
  same : Same old r
  same = (same_layout t old r of_old of_r, same_requests t old r of_old of_r)

  limits_new : IsWithinLimits new.layout
  limits_new = subst IsWithinLimits (sym of_new.layout) limits

  allowed_new : AreAllowed new.requests
  allowed_new = subst AreAllowed (sym of_new.requests) allowed

  own_here : (x : Request) → IsOwn old x → IsOwn r x
  own_here x own = own_on old r same.1 same.0 along.knows.number x own

  other_place : (k : ℕ) (x : Request) → slice_get requests k ≡ Some x → k ≢ i → x.number ≢ q.number
  other_place k x there ne e = ne (may.once k i x q there at e)

  still_open : (k : ℕ) (x : Request) → slice_get requests k ≡ Some x → i < k → is_answered new.part.records.known x.number ≡ false
  still_open k x there lt = left.no_other x (own_here x (may.own k x there)) (other_place k x there (λ e. omega (arith, lt, e)))
      ∙ along.served.behind k x lt there

  -- a stamp that is known of a request which was answered was known then
  was_known : (n : ℕ) → is_answered r.part.records.known n ≡ true → (x : Known) → HasEntry new.part.records.known x
      → x.reply ≡ false → x.request ≡ n
      → (y : Known) × HasEntry r.part.records.known y × (y.request ≡ n) × (y.reply ≡ false) × (x.number ≡ y.number)
  was_known n was x h is request = ⊎_elim by_words
      (λ stayed. (x, subst (λ (s : RunnerState T). HasEntry s.part.records.known x) stayed h, request, is, refl))
      left.reached
    where
      by_words : IsReached m new → (y : Known) × HasEntry r.part.records.known y × (y.request ≡ n) × (y.reply ≡ false) × (x.number ≡ y.number)
      by_words reached = let y = stamp_of r.part.records.known n was in (
        y.0,
        y.1,
        y.2,
        y.3,
        one_stamp m laws new limits_new allowed_new reached x y.0 h
            (entry_on r.part.records.known new.part.records.known left.knows.known y.0 y.1) (request ∙ sym y.2) is y.3,
      )

  -- what is served stays so
  stays : AreServed true requests i new
  stays = record {
    few = along.served.few;
    answered = λ k x lt there. answered_more r.part.records.known new.part.records.known left.knows.known x.number (along.served.answered k x lt there);
    rising = λ j k a b below lt there there' x y hx hy isx isy ofx ofy.
        let was = was_known a.number (along.served.answered j a (omega (arith, below, lt)) there) x hx isx ofx in
        let were = was_known b.number (along.served.answered k b lt there') y hy isy ofy in
        let rose = along.served.rising j k a b below lt there there' was.0 were.0 was.1 were.1 was.3 were.3 was.2 were.2 in
        subst (λ n. Follows n y.number) (sym was.4) (subst (λ n. Follows was.0.number n) (sym were.4) rose);
    behind = λ k x lt there. still_open k x there lt;
  }

  -- so do odd stamps
  odd_stays : (k : ℕ) (x : Request) → k < i → slice_get requests k ≡ Some x → is_get x.op ≡ true → IsOdd new.part.records.known x ⊎ WasReadInVain m planning x old
  odd_stays k x lt there get = ⊎_elim
      (λ odd. inl (λ y hy isy ofy. let was = was_known x.number (along.served.answered k x lt there) y hy isy ofy in
      ap (λ n. n % 2) was.4 ∙ odd was.0 was.1 was.3 was.2))
      inr (along.odd k x lt there get)

  others_all : (x : Request) → IsOwn old x → ((k : ℕ) → slice_get requests k ≢ Some x)
      → is_answered new.part.records.known x.number ≡ is_answered old.part.records.known x.number
  others_all x own nowhere = left.no_other x (own_here x own)
      (λ e. nowhere i (at ∙ (sym (may.own i q at).there ∙ (ap (λ n. slice_get old.requests n) (sym e) ∙ own.there))))
      ∙ along.others x own nowhere

  knows_all : KnowsMore old new
  knows_all = knows_on old r new along.knows left.knows

  -- this request is served
  module _ (one : count ≡ 1) where
    is : IsServed m planning retry_short q r new
    is = left.served one

    is_here : (k : ℕ) (x : Request) → k ≡ i → slice_get requests k ≡ Some x → q ≡ x
    is_here k x e there = some_same q x (sym at ∙ (ap (slice_get requests) (sym e) ∙ there))

    earlier_of : (k : ℕ) → k < i + 1 → k ≢ i → k < i
    earlier_of k lt ne = grind arith

    above : (k : ℕ) (a : Request) → k < i → slice_get requests k ≡ Some a → (x y : Known) → HasEntry new.part.records.known x → x.reply ≡ false
        → x.request ≡ a.number → HasEntry new.part.records.known y → y.reply ≡ false → y.request ≡ q.number → Follows x.number y.number
    above k a lt there x y hx isx ofx hy isy ofy =
        let answered = along.served.answered k a lt there in
        let was = was_known a.number answered x hx isx ofx in
        subst (λ n. Follows n y.number) (sym was.4)
        (is.behind was.0 y was.1 was.3 (ap (λ n. is_answered r.part.records.known n) was.2 ∙ answered) hy isy ofy)

    served_more : AreServed true requests (i + 1) new
    served_more = record {
      few = let low = slice_get_within requests i q at in omega (arith, low);
      answered = λ k x lt there. ⊎_elim
          (λ e. subst (λ (y : Request). is_answered new.part.records.known y.number ≡ true) (is_here k x e there) is.answered)
          (λ ne. stays.answered k x (earlier_of k lt ne) there)
          (cases_eq k i);
      rising = λ j k a b below lt there there'. ⊎_elim
          (λ e. subst (λ (y : Request). IsBefore true new.part.records.known a y) (is_here k b e there')
          (λ x y hx hy isx isy ofx ofy. above j a (omega (arith, below, e)) there x y hx isx ofx hy isy ofy))
          (λ ne. stays.rising j k a b below (earlier_of k lt ne) there there')
          (cases_eq k i);
      behind = λ k x lt there. still_open k x there (omega (arith, lt));
    }

    odd_more : (k : ℕ) (x : Request) → k < i + 1 → slice_get requests k ≡ Some x → is_get x.op ≡ true → IsOdd new.part.records.known x ⊎ WasReadInVain m planning x old
    odd_more k x lt there get = ⊎_elim
        (λ e. subst (λ (y : Request). IsOdd new.part.records.known y ⊎ WasReadInVain m planning y old) (is_here k x e there)
        (⊎_elim inl (λ vain. inr (vain_back m planning old r same q vain)) (is.odd (ap (λ (y : Request). is_get y.op) (is_here k x e there) ∙ get))))
        (λ ne. odd_stays k x (earlier_of k lt ne) there get)
        (cases_eq k i)

  -- the serving goes on
  pub goes_along : answer ≡ answers.All → IsAlong m planning requests (i + 1) old new
  goes_along all = let ends = subst (λ (a : Served). Ends m planning retry_short q a count tries r new) all left.ends in record {
    served = served_more ends.0;
    unanswered = λ x there. still_open (i + 1) x there (omega arith);
    tidy = ends.1;
    knows = knows_all;
    others = others_all;
    odd = odd_more ends.0;
  }

  -- the number of all that are served
  one_or_none : (count ≡ 0) ⊎ (count ≡ 1)
  one_or_none = by count left.most
    where
      by : (n : ℕ) → n ≤ 1 → (n ≡ 0) ⊎ (n ≡ 1)
      by zero few = inl refl
      by (suc n) few = inr (omega (arith, few))

  all_served : AreServed true requests (i + count) new
  all_served = ⊎_elim
      (λ none. subst (λ n. AreServed true requests n new) (let e : i ≡ i + count = omega (arith, none) in e) stays)
      (λ one. subst (λ n. AreServed true requests n new) (let e : i + 1 ≡ i + count = omega (arith, one) in e) (served_more one))
      one_or_none

  all_odd : (k : ℕ) (x : Request) → k < i + count → slice_get requests k ≡ Some x → is_get x.op ≡ true → IsOdd new.part.records.known x ⊎ WasReadInVain m planning x old
  all_odd k x lt there get = ⊎_elim
      (λ none. odd_stays k x (omega (arith, lt, none)) there get)
      (λ one. odd_more one k x (omega (arith, lt, one)) there get)
      one_or_none

  -- the request behind those that are served: this one, or the next one
  next_get : (x : Request) → slice_get requests (i + count) ≡ Some x → is_get x.op ≡ true → WasPublished x new
      → (answer ≢ answers.All) → WasReadInVain m planning x old
  next_get x there get was over = ⊎_elim
      (λ none. let here = some_same q x (sym at ∙ (ap (slice_get requests) (let e : i ≡ i + count = omega (arith, none) in e) ∙ there)) in
      subst (λ (y : Request). WasReadInVain m planning y old) here
      (vain_back m planning old r same q (left.next (ap (λ (y : Request). is_get y.op) here ∙ get) none (subst (λ (y : Request). WasPublished y new) (sym here) was))))
      (λ one. absurd (⊎_elim (λ section. nothing section.0 section.1 answer refl one)
      (λ answered. both_ways _ (still_open (i + count) x there (omega (arith, one))) answered) was))
      one_or_none
    where
      nothing : (p : Published) → new.part.published ≡ Some p → (a : Served) → answer ≡ a → count ≡ 1 → ⊥
      nothing p some answers.All e one = over e
      nothing p some answers.Halted e one =
          let halted = subst (λ (a : Served). Ends m planning retry_short q a count tries r new) e left.ends in
          let place = halted.published p some in
          none_some place.0 (sym (ap (slice_get (q ∷ [])) (sym one) ∙ place.1))
      nothing p some (answers.Short short) e one = let stopped = subst (λ (a : Served). Ends m planning retry_short q a count tries r new) e left.ends in omega (arith, stopped.0, one)
      nothing p some (answers.Spent place word) e one = let stopped = subst (λ (a : Served). Ends m planning retry_short q a count tries r new) e left.ends in omega (arith, stopped.0, one)

  module _ (asks asks1 asks2 : Asks) (steps steps1 steps2 : ℕ) (so_far : IsSoFar m planning retry_short requests i old r asks asks1 steps steps1)
      (asked_now : asks2 ≡ asked_on asks1 asked) where
    asked_all : asks2 ≡ asked_on asks (asked + asks_in so_far.services)
    asked_all = asks_further asks asks1 asks2 (asks_in so_far.services) asked so_far.asked asked_now

    abbrev all_tries : List Try
    all_tries = tries ++ tries_in so_far.services

    came_before : WasCrossed m planning (tries_in so_far.services) old → WasCrossed m planning all_tries old
    came_before = crossed_then m planning tries (tries_in so_far.services) old

    came_now : WasCrossed m planning tries r → WasCrossed m planning all_tries old
    came_now came = crossed_now m planning tries (tries_in so_far.services) old (came_back m planning old r same tries came)

    -- where few slots were retired lately, unless wants are waited out
    spared_now : answer ≡ answers.All → retry_short ≡ false → IsSpared old → WasCrossed m planning all_tries old ⊎ IsSpared new
    spared_now all unwaited was = ⊎_elim (λ came. inl (came_before came))
        (λ here. ⊎_elim (λ came. inl (came_now came)) inr (left.spared all unwaited here))
        (so_far.spared unwaited was)

    brief_now : (runs : ℕ → ℕ → Type 0) → ((start before behind : ℕ) → before ≤ start + i → MostRuns answer count before behind → runs start behind)
        → WasCrossed m planning all_tries old ⊎ (runs (length old.part.records.finished) (length new.part.records.finished)
        × (asked + asks_in so_far.services ≤ (i + 1) * most_asks (slots m old.layout)))
    brief_now runs on = ⊎_elim (λ came. inl (came_before came))
        (λ before. ⊎_elim (λ came. inl (came_now came))
        (λ here. inr (
          on (length old.part.records.finished) (length r.part.records.finished) (length new.part.records.finished) before.runs here.runs,
          one_more i (most_asks (slots m old.layout)) (asks_in so_far.services) asked before.few
              (subst (λ l. asked ≤ most_asks (slots m l)) same.0 here.few),
        ))
        left.brief)
        so_far.brief

    -- the serving ends with it
    stopped_all : (a : Served) → HasStopped m planning retry_short a q tries r new → HasStopped m planning retry_short a q all_tries old new
    stopped_all a stopped = record {
      before = stopped.before;
      number = stopped.number ∙ along.knows.number;
      spared = λ unwaited was. ⊎_elim (λ came. inl (came_before came))
          (λ here. ⊎_elim (λ came. inl (came_now came)) inr (stopped.spared unwaited here))
          (so_far.spared unwaited was);
      stops = stopped.stops;
      tidy = stopped.tidy;
      unanswered = stopped.unanswered;
    }

    halted_all : WasHalted (q ∷ []) count new → WasHalted requests (i + count) new
    halted_all was = record {
      published = λ x some. let place = was.published x some in
          let here = only count place.0 place.1 in
          (q, ap (slice_get requests) (let e : i + count ≡ i = omega (arith, here.0) in e) ∙ at, place.2 ∙ ap (λ (y : Request). y.number) (sym here.1));
      unanswered = λ none x there. ⊎_elim
          (λ zero. let here = some_same q x (sym at ∙ (ap (slice_get requests) (let e : i ≡ i + count = omega (arith, zero) in e) ∙ there)) in
          subst (λ (y : Request). (is_answered new.part.records.known y.number ≡ false) ⊎ WasJustServed y new) here (was.unanswered none q (ap (slice_get (q ∷ [])) zero)))
          (λ one. inl (still_open (i + count) x there (omega (arith, one))))
          one_or_none;
    }
      where
        only : (n : ℕ) (x : Request) → slice_get (q ∷ []) n ≡ Some x → (n ≡ 0) × (q ≡ x)
        only zero x there = (refl, some_same q x there)
        only (suc n) x there = absurd (none_some x (sym there))

    ends_all : (a : Served) → (a ≢ answers.All) → Ends m planning retry_short q a count tries r new → EndsAll m planning retry_short requests a (i + count) all_tries old new
    ends_all answers.All over ends = absurd (over refl)
    ends_all answers.Halted over ends = halted_all ends
    ends_all (answers.Short short) over ends = (q, ap (slice_get requests) (let e : i + count ≡ i = omega (arith, ends.0) in e) ∙ at, stopped_all (answers.Short short) ends.1)
    ends_all (answers.Spent place word) over ends = (q, ap (slice_get requests) (let e : i + count ≡ i = omega (arith, ends.0) in e) ∙ at, stopped_all (answers.Spent place word) ends.1)

    runs_all : (a : Served) (start before behind : ℕ) → before ≤ start + i → MostRuns a count before behind → MostRuns a (i + count) start behind
    runs_all answers.All start before behind was runs = omega (arith, was, runs)
    runs_all (answers.Short short) start before behind was runs = omega (arith, was, runs)
    runs_all (answers.Spent place word) start before behind was runs = omega (arith, was, runs)
    runs_all answers.Halted start before behind was runs = omega (arith, was, runs)

    asks_few : (few : ℕ) → asked + asks_in so_far.services ≤ few → asks2.count ≤ asks.count + few
    asks_few few most =
        let is : asks2.count ≡ counted_on asks.count (asked + asks_in so_far.services) = ap (λ (a : Asks). a.count) asked_all in
        let low = counted_few asks.count (asked + asks_in so_far.services) in omega (arith, is, low, most)

    whole_all : AreAskedWholly requests answer (i + count) (i + full) new
    whole_all = ⊎_elim
        (λ same_count. inl (let e : i + count ≡ i + full = omega (arith, same_count) in e))
        (λ cut. inr (
          cut.0,
          cut.1,
          (let last = cut.2 in let e : i + count ≡ i + full + 1 = omega (arith, last) in e),
          (λ x there. still_open (i + count) x there (let last = cut.2 in omega (arith, last))),
        ))
        left.whole

    least_all : (i + full) * 8 ≤ asked + asks_in so_far.services
    least_all = let here = left.least in let before = so_far.least in omega (arith, here, before)

    -- the gate was seen before the last part of it
    ends_leaves : (Seen : ℕ → Asks → Type 0) (halts halts1 : ℕ) → halts1 ≡ halts → (lets : ℕ)
        → (answer ≡ answers.Halted → Seen halts1 (asked_on asks1 lets)) → (answer ≡ answers.Halted → full * 8 ≤ lets + 1)
        → (answer ≢ answers.All) → Leaves m planning retry_short true requests answer all_tries old new Seen halts asks asks2
    ends_leaves Seen halts halts1 went lets let_go let_least over = record {
      count = i + count;
      served = all_served;
      ends = ends_all answer over left.ends;
      knows = knows_all;
      others = others_all;
      made = asked + asks_in so_far.services;
      full = i + full;
      asked = asked_all;
      least = least_all;
      whole = whole_all;
      let_go = λ e. (
        asks_in so_far.services + lets,
        (let here = let_least e in let before = so_far.least in omega (arith, here, before)),
        subst (λ (h : ℕ). Seen h (asked_on asks (asks_in so_far.services + lets))) went
            (subst (Seen halts1) (ap (λ (a : Asks). asked_on a lets) so_far.asked ∙ asked_on_more asks (asks_in so_far.services) lets) (let_go e)),
      );
      brief = ⊎_elim inl (λ is. inr (record {
        runs = is.0;
        asked = asks_few ((i + count + 1) * most_asks (slots m old.layout))
            (let few = is.1 in let more = mul_more (i + 1) (i + count + 1) (most_asks (slots m old.layout)) (omega arith) in omega (arith, few, more));
      })) (brief_now (λ start behind. MostRuns answer (i + count) start behind) (runs_all answer));
      read = λ free. record { odd = all_odd; next = λ x there get was. next_get x there get was over };
    }

    -- and what was done
    module _ (service : Service) (of_request : request_of service ≡ q) (serves : IsService m planning retry_short service r new)
        (counted_now : steps2 ≡ counted_on steps1 (steps_by service)) (asked_is : asked ≡ asks_by service) (tries_is : tries ≡ tries_by service) where
      abbrev done_all : AreDone m planning retry_short requests (service ∷ so_far.services) old new
      done_all = (r, so_far.done, so_far.follows, ap (slice_get requests) so_far.many ∙ (at ∙ ap (λ (x : Request). Some x) (sym of_request)), serves)

      counted_all : steps2 ≡ counted_on steps (steps_in (service ∷ so_far.services))
      counted_all = count_more steps steps1 steps2 (steps_in so_far.services) (steps_by service) so_far.counted counted_now

      asked_each : asks2 ≡ asked_on asks (asks_in (service ∷ so_far.services))
      asked_each = asked_all ∙ ap (λ n. asked_on asks (n + asks_in so_far.services)) asked_is

      -- in its attempts, where another one came between
      of_service : WasCrossed m planning all_tries old → WasCrossed m planning (tries_in (service ∷ so_far.services)) old
      of_service = subst (λ (ts : List Try). WasCrossed m planning (ts ++ tries_in so_far.services) old) tries_is

      pub so_far_along : answer ≡ answers.All → goes_on service ≡ true → IsSoFar m planning retry_short requests (i + 1) old new asks asks2 steps steps2
      so_far_along all goes =
          let one = (subst (λ (a : Served). Ends m planning retry_short q a count tries r new) all left.ends).0 in record {
            services = service ∷ so_far.services;
            done = done_all;
            follows = goes;
            many = let many = so_far.many in omega (arith, many);
            counted = counted_all;
            asked = asked_each;
            least = subst (λ n. (i + 1) * 8 ≤ n + asks_in so_far.services) asked_is (let all_asks = least_all in let whole = full_of one all in omega (arith, all_asks, whole));
            brief = ⊎_elim (λ came. inl (of_service came)) (λ is. inr (record {
              runs = is.0;
              few = subst (λ n. n + asks_in so_far.services ≤ (i + 1) * most_asks (slots m old.layout)) asked_is is.1;
            })) (brief_now (λ start behind. behind ≤ start + (i + 1)) (λ start before behind was runs.
                all_runs start before behind was (subst (λ (a : Served). MostRuns a count before behind) all runs) one));
            spared = λ unwaited was. ⊎_elim (λ came. inl (of_service came)) inr (spared_now all unwaited was);
          }
        where
          full_of : count ≡ 1 → answer ≡ answers.All → full ≡ 1
          full_of one e = ⊎_elim (λ same_count. omega (arith, same_count, one)) (λ cut. absurd (let z = sym e ∙ cut.0 in cc)) left.whole

          all_runs : (start before behind : ℕ) → before ≤ start + i → behind ≤ before + count → count ≡ 1 → behind ≤ start + (i + 1)
          all_runs start before behind was runs one = omega (arith, was, runs, one)

      -- the gate was seen before the last part
      module _ (Seen : ℕ → Asks → Type 0) (halts halts1 : ℕ) (went : halts1 ≡ halts)
          (let_go : answer ≡ answers.Halted → Seen halts1 (asked_on asks1 (asks_let m planning retry_short service r new serves))) where
        let_go_all : answer ≡ answers.Halted → Seen halts (asked_on asks (asks_in so_far.services + asks_let m planning retry_short service r new serves))
        let_go_all e = subst (λ h. Seen h (asked_on asks (asks_in so_far.services + asks_let m planning retry_short service r new serves))) went
            (subst (Seen halts1)
            (ap (λ (a : Asks). asked_on a (asks_let m planning retry_short service r new serves)) so_far.asked
            ∙ asked_on_more asks (asks_in so_far.services) (asks_let m planning retry_short service r new serves))
            (let_go e))

        end_of : (a : Served) → (a ≢ answers.All) → IsEnd (q ∷ []) (service ∷ []) a → IsEnd requests (service ∷ so_far.services) a
        end_of answers.All over ends = absurd (over refl)
        end_of answers.Halted over ends = ends
        end_of (answers.Short short) over ends = ends
        end_of (answers.Spent place word) over ends = ends

        pub ends_serving : (answer ≢ answers.All) → IsEnd (q ∷ []) (service ∷ []) answer
            → (answer ≡ answers.Halted → full * 8 ≤ asks_let m planning retry_short service r new serves + 1)
            → ServesAll m planning retry_short true requests answer old new Seen halts asks asks2 steps steps2
        ends_serving over ends let_least = record {
          does = record {
            services = service ∷ so_far.services;
            done = done_all;
            ends = end_of answer over ends;
            counted = counted_all;
            asked = asked_each;
            let_go = let_go_all;
          };
          tries = tries_in (service ∷ so_far.services);
          by = refl;
          left = subst (λ (ts : List Try). Leaves m planning retry_short true requests answer (ts ++ tries_in so_far.services) old new Seen halts asks asks2) tries_is
              (ends_leaves Seen halts halts1 went (asks_let m planning retry_short service r new serves) let_go let_least over);
        }

-- how the serving ends behind requests that are served
module _ {T : Type 0} (m : Meaning) (planning : Planning) (retry_short : Bool) (requests : List Request) (old new : RunnerState T) (i : ℕ) (all : i ≡ length requests)
    (asks asks' : Asks) (steps steps' : ℕ) (so_far : IsSoFar m planning retry_short requests i old new asks asks' steps steps') where
  pub all_serving : (Seen : ℕ → Asks → Type 0) (halts : ℕ) → IsAlong m planning requests i old new
      → ServesAll m planning retry_short true requests answers.All old new Seen halts asks asks' steps steps'
  all_serving Seen halts along = record {
    does = record {
      services = so_far.services;
      done = so_far.done;
      ends = (so_far.many ∙ all, so_far.follows);
      counted = so_far.counted;
      asked = so_far.asked;
      let_go = λ e. absurd (let z = e in cc);
    };
    tries = tries_in so_far.services;
    by = refl;
    left = record {
      count = i;
      served = along.served;
      ends = (all, along.tidy);
      knows = along.knows;
      others = along.others;
      made = asks_in so_far.services;
      full = i;
      asked = so_far.asked;
      least = so_far.least;
      whole = inl refl;
      let_go = λ e. absurd (let z = e in cc);
      brief = ⊎_elim inl (λ is. inr (record {
        runs = is.runs;
        asked =
            let few = is.few in
            let more = mul_more i (i + 1) (most_asks (slots m old.layout)) (omega arith) in
            let is_so : asks'.count ≡ counted_on asks.count (asks_in so_far.services) = ap (λ (a : Asks). a.count) so_far.asked in
            let low = counted_few asks.count (asks_in so_far.services) in omega (arith, few, more, is_so, low);
      })) so_far.brief;
      read = λ free. record {
        odd = along.odd;
        next = λ x there get was. absurd (⊎_elim (λ section. none_some section.0 (sym section.1 ∙ along.tidy.at.published))
            (λ answered. both_ways _ (along.unanswered x there) answered) was);
      };
    };
  }

-- the same by what the serving of the one request did
module _ {T : Type 0} (m : Meaning) (laws : Laws m) (planning : Planning) (retry_short : Bool) (requests : List Request) (old r new : RunnerState T)
    (t : TableState T) (limits : IsWithinLimits t.layout) (allowed : AreAllowed t.requests) (of_old : IsOf t old) (of_r : IsOf t r) (of_new : IsOf t new)
    (may : MayServe planning requests old) (i : ℕ) (q : Request) (at : slice_get requests i ≡ Some q) (along : IsAlong m planning requests i old r)
    (answer : Served) (Seen : ℕ → Asks → Type 0) (halts halts1 : ℕ) (went : halts1 ≡ halts) (asks asks1 asks2 : Asks) (steps steps1 steps2 : ℕ)
    (so_far : IsSoFar m planning retry_short requests i old r asks asks1 steps steps1)
    (one : ServesOne m planning retry_short q answer r new Seen halts1 asks1 asks2 steps1 steps2) where
  pub one_along : answer ≡ answers.All → IsAlong m planning requests (i + 1) old new
  one_along all = goes_along m laws planning retry_short requests old r new t limits allowed of_old of_r of_new may i q at along answer
      (served_by one.service) (full_by one.service) (asks_by one.service) (tries_by one.service) one.left all

  pub one_so_far : answer ≡ answers.All → IsSoFar m planning retry_short requests (i + 1) old new asks asks2 steps steps2
  one_so_far all = so_far_along m laws planning retry_short requests old r new t limits allowed of_old of_r of_new may i q at along answer
      (served_by one.service) (full_by one.service) (asks_by one.service) (tries_by one.service) one.left asks asks1 asks2 steps steps1 steps2 so_far one.asked
      one.service one.of_request one.is one.counted refl refl all
      (subst (λ (a : Served). IsEnd (q ∷ []) (one.service ∷ []) a) all one.ends).1

  pub one_serving : (answer ≢ answers.All) → ServesAll m planning retry_short true requests answer old new Seen halts asks asks2 steps steps2
  one_serving over = ends_serving m laws planning retry_short requests old r new t limits allowed of_old of_r of_new may i q at along answer
      (served_by one.service) (full_by one.service) (asks_by one.service) (tries_by one.service) one.left asks asks1 asks2 steps steps1 steps2 so_far one.asked
      one.service one.of_request one.is one.counted refl refl Seen halts halts1 went one.let_go over one.ends one.let_least
