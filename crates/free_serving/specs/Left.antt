-- What a serving leaves, whether each request was served under its lock, or a `get` was read first.
use Rattle.std.specs.Prelude.{◌≡◌, ◌≢◌, ℕ, ◌+◌, ◌*◌, ◌%◌, ◌<◌, ◌≤◌, ◌⊎◌, List, length, Bool, true, false, None, Some, slice_get}
use Rattle.machine_states.specs.map_history.specs.declared.op.Request.{Request}
use Rattle.seq_read.specs.history_orders.specs.Turns.{Follows}
use Rattle.seq_read.specs.runner_gate.specs.Asks.{Asks, asked_on}
use Rattle.machine_states.specs.structure_laws.specs.Meaning.{Meaning}
use Rattle.machine_states.specs.structure_laws.specs.Cells.{slots}
use Rattle.machine_states.specs.runner_parts.specs.declared.entries.Known.{Known}
use Rattle.machine_states.specs.runner_parts.specs.declared.entries.Published.{Published}
use Rattle.machine_states.specs.runner_parts.specs.Tests.{is_answered}
use Rattle.version_words.specs.RunnerState.{RunnerState}
use Rattle.seq_read.specs.caller_facts.specs.epoch_slots.specs.Collects.{IsTidy}
use Rattle.seq_read.specs.caller_facts.specs.try_lock.specs.Planning.{Planning}
use Rattle.seq_read.specs.caller_facts.specs.request_facts.specs.Laws.{HasEntry}
use Rattle.seq_read.specs.caller_facts.specs.Knowing.{KnowsMore, IsOwn}
use Rattle.serving.specs.attempt_bounds.specs.Spared.{IsSpared}
use Rattle.seq_read.specs.Course.{IsRefused}
use Rattle.seq_read.specs.Reads.{IsTurnedAway}
use Rattle.seq_read.specs.declared.answers.Read.{Read}
use Rattle.seq_read.specs.declared.answers.Read.TheVariants as reads
use Rattle.serving.specs.Serving as serving
use Rattle.serving.specs.Serving.{Try, most_asks, WasCrossed, WasHalted, Stops}
use Rattle.serving.specs.declared.answers.Served.{Served}
use Rattle.serving.specs.declared.answers.Served.TheVariants as answers
use Rattle.free_serving.specs.Services.{is_get, is_refusal}

-- the stamps of served requests rise along their list; where a `get` may be read, two that follow one another may be
-- the same odd one, so that both are of reads
abbrev pub Rises : Bool → ℕ → ℕ → Type 0
Rises false one other = one < other
Rises true one other = Follows one other

-- so what is known as the stamp of the one request is before what is known as that of the other
abbrev pub IsBefore : Bool → List Known → Request → Request → Type 0
IsBefore reads_free known one other = (x y : Known) → HasEntry known x → HasEntry known y → x.reply ≡ false
    → y.reply ≡ false → x.request ≡ one.number → y.request ≡ other.number → Rises reads_free x.number y.number

-- what is known as the request's stamp is odd, so it is a read's
abbrev pub IsOdd : List Known → Request → Type 0
IsOdd known request = (x : Known) → HasEntry known x → x.reply ≡ false → x.request ≡ request.number
    → x.number % 2 ≡ 1

-- the asks for one request that is served, at least: those of a request that is served under its lock; and of one that
-- is read, behind the entry, behind one load of the plan, behind the announcement, the load of the clock, the second
-- one of the lock and the exchanges of both words, and once more where the request is served
abbrev pub least_asks : Bool → ℕ
least_asks false = serving.least_asks
least_asks true = 8

-- how many runs came to their end, so many before and so many behind it, in a serving with this answer in which so many
-- requests were served, where no other one came between
abbrev pub MostRuns : Served → ℕ → ℕ → ℕ → Type 0
MostRuns answers.All count before behind = behind ≤ before + count
MostRuns (answers.Short short) count before behind = behind ≤ before + count
MostRuns _ count before behind = behind ≤ before + (count + 1)

module _ {T : Type 0} where
  -- the first requests of the list, so many, are answered, and their stamps rise along it. Of those behind them none is
  -- answered but the next one, of which nothing is said here
  pub record AreServed (reads_free : Bool) (requests : List Request) (count : ℕ) (r : RunnerState T) : Type 0 where
    pub few : count ≤ length requests
    pub answered : (i : ℕ) (q : Request) → i < count → slice_get requests i ≡ Some q
        → is_answered r.part.records.known q.number ≡ true
    pub rising : (i j : ℕ) (q q' : Request) → i < j → j < count → slice_get requests i ≡ Some q
        → slice_get requests j ≡ Some q' → IsBefore reads_free r.part.records.known q q'
    pub behind : (i : ℕ) (q : Request) → count < i → slice_get requests i ≡ Some q
        → is_answered r.part.records.known q.number ≡ false

  -- of so many served requests so many were asked about to the end: all, or all but the last one, whose read a gate
  -- halted behind its stamp; then the next request isn't answered
  abbrev pub AreAskedWholly : List Request → Served → (count full : ℕ) → RunnerState T → Type 0
  AreAskedWholly requests answer count full r =
      (count ≡ full) ⊎ ((answer ≡ answers.Halted) × (r.part.published ≡ None) × (count ≡ full + 1)
      × ((q : Request) → slice_get requests count ≡ Some q → is_answered r.part.records.known q.number ≡ false))

  -- a section was published for this request: it is published still, or answered the request as it came to its end
  abbrev pub WasPublished : Request → RunnerState T → Type 0
  WasPublished request r =
      ((x : Published) × (r.part.published ≡ Some x)) ⊎ (is_answered r.part.records.known request.number ≡ true)

  -- so many runs, and at most so many asks, of a serving
  pub record IsBrief (m : Meaning) (answer : Served) (count : ℕ) (old new : RunnerState T) (asks asks' : Asks)
      : Type 0 where
    pub runs : MostRuns answer count (length old.part.records.finished) (length new.part.records.finished)
    pub asked : asks'.count ≤ asks.count + (count + 1) * most_asks (slots m old.layout)

  module _ (m : Meaning) (planning : Planning) where
    -- a read of this `get` was refused with this answer, on this table
    pub record WasRefused (request : Request) (answer : Read) (r : RunnerState T) : Type 0 where
      pub get : is_get request.op ≡ true
      pub before : RunnerState T
      pub cut : RunnerState T
      pub layout : before.layout ≡ r.layout
      pub requests : before.requests ≡ r.requests
      pub refused : IsRefused m planning request answer before cut

    -- a read of this request came to nothing, and so it was attempted; where the structure serves the map, not since
    -- the section of a `get` changes something
    pub record WasReadInVain (request : Request) (r : RunnerState T) : Type 0 where
      pub answer : Read
      pub refused : WasRefused request answer r
      pub refusal : is_refusal r.layout.runners answer ≡ true
      pub looks : m.is_map ≡ true → (at : ℕ) → answer ≢ reads.Locked at

    -- which of the served requests have a read's stamp: each `get`, unless its read came to nothing. So the read of the
    -- next one did, where its section was published
    pub record AreRead (requests : List Request) (count : ℕ) (old new : RunnerState T) : Type 0 where
      pub odd : (i : ℕ) (q : Request) → i < count → slice_get requests i ≡ Some q → is_get q.op ≡ true
          → IsOdd new.part.records.known q ⊎ WasReadInVain q old
      pub next : (q : Request) → slice_get requests count ≡ Some q → is_get q.op ≡ true → WasPublished q new
          → WasReadInVain q old

    module _ (retry_short : Bool) where
      -- why the serving stopped at this request: an attempt stopped it, or the one runner's read met a lock with too
      -- few versions left
      abbrev pub StopsAt : Served → Request → RunnerState T → RunnerState T → Type 0
      StopsAt (answers.Spent place word) request old new =
          Stops m planning retry_short (answers.Spent place word) request old new
          ⊎ ((old.layout.runners ≡ 1) × IsTurnedAway m planning request (reads.Spent place word) old new)
      StopsAt answer request old new = Stops m planning retry_short answer request old new

      -- the serving stopped at this request, which isn't answered. Before the last attempt or read of it the runner was
      -- as `before` says, and it is idle now with an empty hand
      pub record HasStopped (answer : Served) (request : Request) (tries : List Try) (old new : RunnerState T)
          : Type 0 where
        pub before : RunnerState T
        -- it is the same runner
        pub number : before.number ≡ old.number
        -- where few slots were retired lately when the serving began, so it was before that attempt, unless another
        -- one came between in one of these attempts, or wants are waited out
        pub spared : retry_short ≡ false → IsSpared old → WasCrossed m planning tries old ⊎ IsSpared before
        pub stops : StopsAt answer request before new
        pub tidy : IsTidy new
        pub unanswered : is_answered new.part.records.known request.number ≡ false

      -- how the serving ended behind so many served requests
      abbrev pub Ends : List Request → Served → ℕ → List Try → RunnerState T → RunnerState T → Type 0
      Ends requests answers.All count tries old new = (count ≡ length requests) × IsTidy new
      Ends requests answers.Halted count tries old new = WasHalted requests count new
      Ends requests answer count tries old new = (q : Request) × (slice_get requests count ≡ Some q)
          × HasStopped answer q tries old new

      -- what a serving of these requests by these attempts leaves, in which a `get` is read first or not
      pub record Leaves (reads_free : Bool) (requests : List Request) (answer : Served) (tries : List Try)
          (old new : RunnerState T) (Seen : ℕ → Asks → Type 0) (halts : ℕ) (asks asks' : Asks) : Type 0 where
        pub count : ℕ
        pub served : AreServed reads_free requests count new
        pub ends : Ends requests answer count tries old new
        pub knows : KnowsMore old new
        -- its other own requests are as they were
        pub others : (q : Request) → IsOwn old q → ((i : ℕ) → slice_get requests i ≢ Some q)
            → is_answered new.part.records.known q.number ≡ is_answered old.part.records.known q.number
        -- so often the gate was asked, and it is the same gate still; so many requests were asked about to the end
        pub made : ℕ
        pub full : ℕ
        pub asked : asks' ≡ asked_on asks made
        pub least : full * least_asks reads_free ≤ made
        pub whole : AreAskedWholly requests answer count full new
        -- a gate that halted the runner had let it go on before: it was seen with as many halts as at first and with so
        -- many more asks, enough for each request that was asked about to the end, but for the ask behind the last one
        pub let_go : answer ≡ answers.Halted → (more : ℕ)
            × (full * least_asks reads_free ≤ more + 1) × Seen halts (asked_on asks more)
        -- where no other one came between in one of its attempts, so many runs came to their end, and the gate was
        -- asked at most so often
        pub brief : WasCrossed m planning tries old ⊎ IsBrief m answer count old new asks asks'
        pub read : reads_free ≡ true → AreRead requests count old new
