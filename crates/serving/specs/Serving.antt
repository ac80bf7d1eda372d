-- The serving of a list of requests: what may be served, and what each answer says.
use Rattle.std.specs.Prelude.{◌≡◌, ◌≢◌, ℕ, ◌+◌, ◌*◌, ◌<◌, ◌≤◌, ◌⊎◌, List, [], ◌∷◌, ◌++◌, length, Bool, true, false, not, ◌==◌, ◌&&◌, ◌||◌, if◌then◌else◌, Option, None, Some, slice_get}
use Rattle.machine_states.specs.map_history.specs.declared.op.Request.{Request}
use Rattle.machine_states.specs.body_terms.specs.Counted.{counted_on}
use Rattle.machine_states.specs.body_terms.specs.declared.outcome.Outcome.TheVariants.{Answered}
use Rattle.runner_gate.specs.Asks.{Asks, asked_on}
use Rattle.machine_states.specs.structure_laws.specs.Meaning.{Meaning}
use Rattle.machine_states.specs.structure_laws.specs.Cells.{slots}
use Rattle.machine_states.specs.runner_parts.specs.declared.entries.Known.{Known}
use Rattle.machine_states.specs.runner_parts.specs.declared.entries.Published.{Published}
use Rattle.machine_states.specs.runner_parts.specs.State.{FinishedState}
use Rattle.machine_states.specs.runner_parts.specs.Tests.{is_answered}
use Rattle.attempt_bounds.specs.version_words.specs.RunnerState.{RunnerState}
use Rattle.attempt_bounds.specs.attempts.specs.epoch_slots.specs.Collects.{IsTidy}
use Rattle.attempt_bounds.specs.attempts.specs.epoch_slots.specs.declared.reserves.Short.{Short}
use Rattle.attempt_bounds.specs.attempts.specs.try_lock.specs.Planning.{Planning}
use Rattle.attempt_bounds.specs.attempts.specs.request_facts.specs.Laws.{HasEntry}
use Rattle.attempt_bounds.specs.attempts.specs.caller_facts.specs.Knowing.{KnowsMore, IsOwn, LearnsNoOther}
use Rattle.attempt_bounds.specs.attempts.specs.Course.{IsRefused}
use Rattle.attempt_bounds.specs.attempts.specs.caller_facts.specs.Asking.{MayAttempt}
use Rattle.attempt_bounds.specs.attempts.specs.Attempts.{most_of_attempt, asks_more, asks_before, has_met_held, IsShort, IsTurnedAway, Answers, IsAttempt}
use Rattle.attempt_bounds.specs.attempts.specs.declared.answers.Attempt.{Attempt}
use Rattle.attempt_bounds.specs.attempts.specs.declared.answers.Attempt.TheVariants as attempts
use Rattle.attempt_bounds.specs.Spared.{IsSpared}
use Rattle.serving.specs.declared.answers.Served.{Served}
use Rattle.serving.specs.declared.answers.Served.TheVariants as answers

-- whether a want of slots may pass: some of the kind are in limbo, or others took the ones that lay on the board
abbrev pub may_pass : Short → Bool
may_pass short = not (short.limbo == 0) || not (short.board == 0)

-- whether a request is attempted again after this answer: somebody else's section came between, or slots are wanted and
-- that may pass, where such a want is to be waited out
abbrev pub is_tried_again : Bool → Attempt → Bool
is_tried_again retry_short (attempts.Busy place word) = true
is_tried_again retry_short (attempts.Stale place expected read) = true
is_tried_again retry_short (attempts.Far loads) = true
is_tried_again retry_short (attempts.Short short) = retry_short && may_pass short
is_tried_again retry_short _ = false

-- whether an attempt with this answer was refused since another one came between: it held a lock, or changed
-- what the plan had read, or what the walk went along
abbrev pub is_crossed : Attempt → Bool
is_crossed (attempts.Busy place word) = true
is_crossed (attempts.Stale place expected read) = true
is_crossed (attempts.Far loads) = true
is_crossed _ = false

-- one attempt in a serving: of which request, what it answered, how many steps were counted, whether a section was
-- published, and whether it was refused since another one came between
pub record Try : Type 0 where
  pub request : Request
  pub answer : Attempt
  pub made : ℕ
  pub published : Bool
  pub crossed : Bool

-- its request was served
abbrev pub is_served : Attempt → Bool
is_served (attempts.Done reply stamp) = true
is_served _ = false

-- another attempt follows: its request was served, or is attempted again
abbrev pub goes_on : Bool → Try → Bool
goes_on retry_short x = is_served x.answer || is_tried_again retry_short x.answer

abbrev pub GoesOn : Bool → List Try → Type 0
GoesOn retry_short [] = Unit {0}
GoesOn retry_short (x ∷ xs) = goes_on retry_short x ≡ true

-- how many requests these attempts served, how many steps were counted in them, how often the gate was asked, and
-- whether one of them was refused since another one came between
abbrev pub served_in : List Try → ℕ
served_in [] = 0
served_in (x ∷ xs) = (if is_served x.answer then 1 else 0) + served_in xs

abbrev pub steps_in : List Try → ℕ
steps_in [] = 0
steps_in (x ∷ xs) = x.made + steps_in xs

abbrev pub asks_in : List Try → ℕ
asks_in [] = 0
asks_in (x ∷ xs) = (x.made + asks_more x.answer x.published) + asks_in xs

abbrev pub crossed_in : List Try → Bool
crossed_in [] = false
crossed_in (x ∷ xs) = x.crossed || crossed_in xs

-- the asks for one request that is served, at least: behind the entry, behind the exchange that publishes, behind each
-- of the thirteen loads with which the run of its section begins, and once more where the request is served
abbrev pub least_asks : ℕ
least_asks = 16

-- how many runs came to their end, so many before and so many behind it, in a call whose last attempt answered
-- so, where no other one came between
abbrev pub TriedRuns : Attempt → ℕ → ℕ → Type 0
TriedRuns (attempts.Done reply stamp) before behind = behind ≡ before + 1
TriedRuns (attempts.Short short) before behind = behind ≡ before
TriedRuns _ before behind = behind ≤ before + 1

-- and in the serving of a list, where so many requests were served
abbrev pub ServedRuns : Served → ℕ → ℕ → ℕ → Type 0
ServedRuns answers.All count before behind = behind ≡ before + count
ServedRuns (answers.Short short) count before behind = behind ≡ before + count
ServedRuns _ count before behind = behind ≤ before + (count + 1)

-- the asks for one request, where there are so many node slots and no other one comes between: behind the entry,
-- behind the exchange that publishes, behind each counted step of the attempt, and once more where the request
-- is served
abbrev pub most_asks : ℕ → ℕ
most_asks count = most_of_attempt count + 3

-- what the serving stops with at this answer of a last attempt; none where the request is served
abbrev pub stop_of : Attempt → Option Served
stop_of (attempts.Done reply stamp) = None
stop_of (attempts.Short short) = Some (answers.Short short)
stop_of (attempts.Spent place word) = Some (answers.Spent place word)
stop_of _ = Some answers.Halted

-- what is known as the stamp of the one request is below what is known as the stamp of the other
abbrev pub IsBefore : List Known → Request → Request → Type 0
IsBefore known one other = (x y : Known) → HasEntry known x → HasEntry known y → x.reply ≡ false → y.reply ≡ false
    → x.request ≡ one.number → y.request ≡ other.number → x.number < y.number

module _ {T : Type 0} where
  -- the requests are the worker's own, each once, and the structure serves them; none of them is answered; of each
  -- one's trace the earlier requests are answered, or stand before it. The worker is idle with an empty hand
  pub record MayServe (planning : Planning) (requests : List Request) (r : RunnerState T) : Type 0 where
    pub tidy : IsTidy r
    pub own : (i : ℕ) (q : Request) → slice_get requests i ≡ Some q → IsOwn r q
    pub served : (i : ℕ) (q : Request) → slice_get requests i ≡ Some q → planning.serves q.op ≡ true
    pub once : (i j : ℕ) (q q' : Request) → slice_get requests i ≡ Some q → slice_get requests j ≡ Some q'
        → q.number ≡ q'.number → i ≡ j
    pub unanswered : (i : ℕ) (q : Request) → slice_get requests i ≡ Some q
        → is_answered r.part.records.known q.number ≡ false
    pub earlier : (i : ℕ) (q q' : Request) → slice_get requests i ≡ Some q → IsOwn r q' → q'.trace ≡ q.trace
        → q'.number < q.number
        → (is_answered r.part.records.known q'.number ≡ true) ⊎ ((j : ℕ) × (j < i) × (slice_get requests j ≡ Some q'))

  -- the first requests of the list, so many, are answered, and their stamps rise along it. Of those behind them none is
  -- answered but the next one, of which nothing is said here
  pub record AreServed (requests : List Request) (count : ℕ) (r : RunnerState T) : Type 0 where
    pub few : count ≤ length requests
    pub answered : (i : ℕ) (q : Request) → i < count → slice_get requests i ≡ Some q
        → is_answered r.part.records.known q.number ≡ true
    pub rising : (i j : ℕ) (q q' : Request) → i < j → j < count → slice_get requests i ≡ Some q
        → slice_get requests j ≡ Some q' → IsBefore r.part.records.known q q'
    pub behind : (i : ℕ) (q : Request) → count < i → slice_get requests i ≡ Some q
        → is_answered r.part.records.known q.number ≡ false

  -- a gate halted the runner behind the very step by which the run of this request's section came to its end, and so
  -- answered it: that run is the last one that it keeps, and the request's stamp is above those of its other own
  -- requests that are answered
  pub record WasJustServed (request : Request) (r : RunnerState T) : Type 0 where
    pub answered : is_answered r.part.records.known request.number ≡ true
    pub before : List FinishedState
    pub run : FinishedState
    pub kept : r.part.records.finished ≡ before ++ run ∷ []
    pub reply : ℕ
    pub outcome : run.outcome ≡ Answered reply
    pub above : (q : Request) → IsOwn r q → q.number ≢ request.number
        → is_answered r.part.records.known q.number ≡ true → IsBefore r.part.records.known q request

  -- a gate halted the runner. What it has published and not run to its end, if anything, is for the request behind
  -- those that are served; where there is none, that request isn't answered, or its section was just run to its end
  pub record WasHalted (requests : List Request) (count : ℕ) (r : RunnerState T) : Type 0 where
    pub published : (x : Published) → r.part.published ≡ Some x
        → (q : Request) × (slice_get requests count ≡ Some q) × (x.thunk.request ≡ q.number)
    pub unanswered : r.part.published ≡ None → (q : Request) → slice_get requests count ≡ Some q
        → (is_answered r.part.records.known q.number ≡ false) ⊎ WasJustServed q r

  -- one of these attempts was refused since another one came between: by such an answer, on this table
  pub record WasCrossed (m : Meaning) (planning : Planning) (tries : List Try) (r : RunnerState T) : Type 0 where
    pub tried : crossed_in tries ≡ true
    pub request : Request
    pub answer : Attempt
    pub before : RunnerState T
    pub cut : RunnerState T
    pub layout : before.layout ≡ r.layout
    pub requests : before.requests ≡ r.requests
    pub refused : IsRefused m planning request answer before cut
    pub crossed : is_crossed answer ≡ true

  -- so many runs, and at most so many asks, of attempts of one request
  pub record TriesBriefly (m : Meaning) (answer : Attempt) (old new : RunnerState T)
      (asks asks' : Asks) : Type 0 where
    pub runs : TriedRuns answer (length old.part.records.finished) (length new.part.records.finished)
    pub asked : asks'.count + 1 ≤ asks.count + most_asks (slots m old.layout)

  -- so many runs, and at most so many asks, of the serving of a list
  pub record ServesBriefly (m : Meaning) (answer : Served) (count : ℕ) (old new : RunnerState T)
      (asks asks' : Asks) : Type 0 where
    pub runs : ServedRuns answer count (length old.part.records.finished) (length new.part.records.finished)
    pub asked : asks'.count ≤ asks.count + (count + 1) * most_asks (slots m old.layout)

  module _ (m : Meaning) (planning : Planning) where
    -- the runner made this attempt
    pub record IsTry (x : Try) (old new : RunnerState T) : Type 0 where
      pub may : MayAttempt planning x.request old
      pub is : IsAttempt m planning x.request x.answer x.made x.published old new
      pub crossed : x.crossed ≡ (is_crossed x.answer || has_met_held m planning x.request x.answer old new is.answers)

    -- how often a gate had let the runner go on in this attempt as the part began in which it halted it: the ask behind
    -- the attempt, where that served its request, and else a part of the attempt
    abbrev pub asks_let : (x : Try) (old new : RunnerState T) → IsTry x old new → ℕ
    asks_let x old new is =
        if is_served x.answer then x.made + asks_more x.answer x.published
        else asks_before m planning x.request x.answer old new is.is.answers

    module _ (retry_short : Bool) (requests : List Request) where
      -- the runner made these attempts and no others, one behind the other; the last one stands first. Each is of the
      -- request behind those that were served before, and each but the last one is followed by another
      abbrev pub AreTried : List Try → RunnerState T → RunnerState T → Type 0
      AreTried [] old new = new ≡ old
      AreTried (x ∷ xs) old new = (mid : RunnerState T) × AreTried xs old mid × GoesOn retry_short xs
          × (slice_get requests (served_in xs) ≡ Some x.request) × IsTry x mid new

      -- and in all these attempts: in those before the last one, once more behind each request that they served, and in
      -- the last one
      abbrev pub all_asks_let : (tries : List Try) (old new : RunnerState T) → AreTried tries old new → ℕ
      all_asks_let [] old new is = 0
      all_asks_let (x ∷ xs) old new is = (asks_in xs + served_in xs) + asks_let x is.0 new is.4

  module _ (m : Meaning) (planning : Planning) (retry_short : Bool) where
    -- the request was attempted until this answer, after which it isn't attempted again. Before the last attempt the
    -- runner was as `before` says
    pub record Persists (request : Request) (answer : Attempt) (old new : RunnerState T) (Seen : ℕ → Asks → Type 0)
        (halts : ℕ) (asks asks' : Asks) (steps steps' : ℕ) : Type 0 where
      pub before : RunnerState T
      -- the attempts before the last one, and that one
      pub again : List Try
      pub last : Try
      pub tried : AreTried m planning retry_short (request ∷ []) again old before
      pub follows : GoesOn retry_short again
      pub unserved : served_in again ≡ 0
      pub ends : IsTry m planning last before new
      pub of_request : last.request ≡ request
      pub answered : last.answer ≡ answer
      pub over : is_tried_again retry_short answer ≡ false
      pub answers : Answers m planning request answer before new
      pub knew : KnowsMore old before
      pub knows : KnowsMore old new
      pub no_other : LearnsNoOther request.number old new
      -- so many steps are counted, and the gate was asked so often
      pub counted : steps' ≡ counted_on steps (steps_in (last ∷ again))
      pub asked : asks' ≡ asked_on asks (asks_in (last ∷ again))
      -- a gate that halted the runner was seen before the part of the last attempt in which it did
      pub let_go : answer ≡ attempts.Halted
          → Seen halts (asked_on asks (asks_in again + asks_let m planning last before new ends))
      pub brief : WasCrossed m planning (last ∷ again) old ⊎ TriesBriefly m answer old new asks asks'
      -- where no attempt was refused since another one came between, and no want is waited out, there was one attempt
      pub once : WasCrossed m planning again old ⊎ (retry_short ≡ false → again ≡ [])

    -- too few slots were free at the last attempt, and such a want isn't waited out, or no slot of the kind is in limbo
    -- and others took none that lay on the board
    pub record StopsShort (short : Short) (request : Request) (old new : RunnerState T) : Type 0 where
      pub cause : IsShort m short request.number old new
      pub over : (retry_short ≡ false) ⊎ ((short.limbo ≡ 0) × (short.board ≡ 0))

    -- why the serving stopped at this request
    abbrev pub Stops : Served → Request → RunnerState T → RunnerState T → Type 0
    Stops (answers.Short short) request old new = StopsShort short request old new
    Stops (answers.Spent place word) request old new = IsTurnedAway m planning request (attempts.Spent place word) old
        new
    Stops _ request old new = ⊥

    -- it stopped at this request, which isn't answered. Before the last attempt of it the runner was as `before` says,
    -- and it is idle now with an empty hand
    pub record HasStopped (answer : Served) (request : Request) (tries : List Try) (old new : RunnerState T)
        : Type 0 where
      pub before : RunnerState T
      pub knew : KnowsMore old before
      -- where few slots were retired lately when the serving began, so it was before that attempt, unless another one
      -- came between, or wants are waited out
      pub spared : retry_short ≡ false → IsSpared old → WasCrossed m planning tries old ⊎ IsSpared before
      pub stops : Stops answer request before new
      pub tidy : IsTidy new
      pub unanswered : is_answered new.part.records.known request.number ≡ false

    -- how the serving ended behind so many served requests
    abbrev pub Ends : List Request → Served → ℕ → List Try → RunnerState T → RunnerState T → Type 0
    Ends requests answers.All count tries old new = (count ≡ length requests) × IsTidy new
    Ends requests answers.Halted count tries old new = WasHalted requests count new
    Ends requests answer count tries old new = (q : Request) × (slice_get requests count ≡ Some q)
        × HasStopped answer q tries old new

    -- what the serving of these requests does. Where a gate halted the runner, it was seen before the last part of the
    -- serving, in which it did: with as many halts as at first, and with so many more asks
    pub record Serves (requests : List Request) (answer : Served) (old new : RunnerState T) (Seen : ℕ → Asks → Type 0)
        (halts : ℕ) (asks asks' : Asks) (steps steps' : ℕ) : Type 0 where
      pub count : ℕ
      pub served : AreServed requests count new
      -- its attempts, the last one first
      pub tries : List Try
      pub tried : AreTried m planning retry_short requests tries old new
      pub ends : Ends requests answer count tries old new
      pub knows : KnowsMore old new
      -- its other own requests are as they were
      pub others : (q : Request) → IsOwn old q → ((i : ℕ) → slice_get requests i ≢ Some q)
          → is_answered new.part.records.known q.number ≡ is_answered old.part.records.known q.number
      -- so many attempts served their request; so many steps are counted, those of the attempts; and the gate was asked
      -- as often as in the attempts, and once more for each served request. The numbers are the gate's asks and the
      -- counted steps, before and after
      pub count_is : count ≡ served_in tries
      pub counted : steps' ≡ counted_on steps (steps_in tries)
      pub asked : asks' ≡ asked_on asks (asks_in tries + count)
      pub least : count * least_asks ≤ asks_in tries + count
      -- so the serving ends with the first halt, whether in an attempt or at the ask behind a served request
      pub let_go : answer ≡ answers.Halted
          → Seen halts (asked_on asks (all_asks_let m planning retry_short requests tries old new tried))
      -- and by then it had let the runner go on so often at least for each served request, but for the ask behind the
      -- last one
      pub least_let : answer ≡ answers.Halted
          → count * least_asks ≤ all_asks_let m planning retry_short requests tries old new tried + 1
      -- where no attempt was refused since another one came between, so many runs came to their end, and the gate
      -- was asked at most so often
      pub brief : WasCrossed m planning tries old ⊎ ServesBriefly m answer count old new asks asks'
