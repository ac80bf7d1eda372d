-- What is done for one request of a serving in which a `get` is read first, without its lock.
use Rattle.std.specs.Prelude.{◌≡◌, ℕ, ◌+◌, ◌==◌, List, [], ◌∷◌, ◌++◌, length, Bool, true, false, not, Option, Some, None, slice_get, if◌then◌else◌}
use Rattle.machine_states.specs.map_history.specs.declared.op.Op.{Op}
use Rattle.machine_states.specs.map_history.specs.declared.op.Op.TheVariants.{Get}
use Rattle.machine_states.specs.map_history.specs.declared.op.Request.{Request}
use Rattle.machine_states.specs.map_history.specs.declared.reply.Reply.{Reply}
use Rattle.machine_states.specs.structure_laws.specs.Meaning.{Meaning}
use Rattle.version_words.specs.RunnerState.{RunnerState}
use Rattle.seq_read.specs.caller_facts.specs.try_lock.specs.Planning.{Planning}
use Rattle.seq_read.specs.caller_facts.specs.Asking.{MayAttempt}
use Rattle.seq_read.specs.Reads.{Answers, steps_of, asks_before, has_answered}
use Rattle.seq_read.specs.declared.answers.Read.{Read}
use Rattle.seq_read.specs.declared.answers.Read.TheVariants as reads
use Rattle.serving.specs.Serving as serving
use Rattle.serving.specs.Serving.{Try, MayServe, AreTried, all_asks_let, Ends}
use Rattle.serving.specs.declared.answers.Served.{Served}
use Rattle.serving.specs.declared.answers.Served.TheVariants as answers

-- whether the operation is a `get`
abbrev pub is_get : Op → Bool
is_get (Get key) = true
is_get _ = false

-- where a runner that is alone meets a lock with too few versions left: an attempt would find it as it stands, so the
-- serving ends there
abbrev pub ends_alone : ℕ → Read → Option Served
ends_alone runners (reads.Spent place word) = if runners == 1 then Some (answers.Spent place word) else None
ends_alone runners _ = None

-- a read with this answer served nothing, and the runner, one of so many, left: its request is served under its lock
-- then
abbrev pub is_refusal : ℕ → Read → Bool
is_refusal runners (reads.Done reply stamp) = false
is_refusal runners (reads.Spent place word) = not (runners == 1)
is_refusal runners reads.Halted = false
is_refusal runners _ = true

-- what was done for one request
pub data Service : Type 0 where
  -- it was read, with this reply and this stamp, in so many counted steps, and the gate was asked once more
  ByRead : Request → Reply → (stamp made : ℕ) → Service
  -- a gate halted its read behind so many counted steps, with its stamp written or not
  HaltedRead : Request → Bool → (made : ℕ) → Service
  -- the one runner's read met this word of this lock, behind which too few versions are left, in so many counted steps
  SpentRead : Request → (place word made : ℕ) → Service
  -- its read was refused so, behind so many counted steps; then it was served under its lock, with this answer, by
  -- these attempts
  BothWays : Request → Read → (made : ℕ) → Served → List Try → Service
  -- it was served under its lock at once
  UnderLock : Request → Served → List Try → Service

abbrev pub request_of : Service → Request
request_of (ByRead request reply stamp made) = request
request_of (HaltedRead request written made) = request
request_of (SpentRead request place word made) = request
request_of (BothWays request answer made served tries) = request
request_of (UnderLock request served tries) = request

-- how many requests this served, one or none; how many steps were counted in it, and how often the gate was asked
abbrev pub served_by : Service → ℕ
served_by (ByRead request reply stamp made) = 1
served_by (HaltedRead request written made) = if written then 1 else 0
served_by (SpentRead request place word made) = 0
served_by (BothWays request answer made served tries) = serving.served_in tries
served_by (UnderLock request served tries) = serving.served_in tries

-- and how many of these were asked about to the end, with the ask behind a served request
abbrev pub full_by : Service → ℕ
full_by (HaltedRead request written made) = 0
full_by x = served_by x

abbrev pub steps_by : Service → ℕ
steps_by (ByRead request reply stamp made) = made
steps_by (HaltedRead request written made) = made
steps_by (SpentRead request place word made) = made
steps_by (BothWays request answer made served tries) = made + serving.steps_in tries
steps_by (UnderLock request served tries) = serving.steps_in tries

-- a read is asked behind its entry and behind each counted step; a request that was served is asked once more, but
-- where the gate halted the read itself
abbrev pub asks_by : Service → ℕ
asks_by (ByRead request reply stamp made) = made + 1 + 1
asks_by (HaltedRead request written made) = made + 1
asks_by (SpentRead request place word made) = made + 1
asks_by (BothWays request answer made served tries) =
    made + 1 + (serving.asks_in tries + serving.served_in tries)
asks_by (UnderLock request served tries) = serving.asks_in tries + serving.served_in tries

-- the attempts in it, the last one first
abbrev pub tries_by : Service → List Try
tries_by (ByRead request reply stamp made) = []
tries_by (HaltedRead request written made) = []
tries_by (SpentRead request place word made) = []
tries_by (BothWays request answer made served tries) = tries
tries_by (UnderLock request served tries) = tries

-- in all of these
abbrev pub served_in : List Service → ℕ
served_in [] = 0
served_in (x ∷ xs) = served_by x + served_in xs

abbrev pub steps_in : List Service → ℕ
steps_in [] = 0
steps_in (x ∷ xs) = steps_by x + steps_in xs

abbrev pub asks_in : List Service → ℕ
asks_in [] = 0
asks_in (x ∷ xs) = asks_by x + asks_in xs

abbrev pub tries_in : List Service → List Try
tries_in [] = []
tries_in (x ∷ xs) = tries_by x ++ tries_in xs

abbrev pub is_all : Served → Bool
is_all answers.All = true
is_all _ = false

-- the next request follows: this one was read, or served under its lock
abbrev pub goes_on : Service → Bool
goes_on (ByRead request reply stamp made) = true
goes_on (HaltedRead request written made) = false
goes_on (SpentRead request place word made) = false
goes_on (BothWays request answer made served tries) = is_all served
goes_on (UnderLock request served tries) = is_all served

abbrev pub GoesOn : List Service → Type 0
GoesOn [] = Unit {0}
GoesOn (x ∷ xs) = goes_on x ≡ true

-- the serving ended with this answer behind a last service: a gate halted the runner in a read or behind it, the one
-- runner's read met a lock with too few versions left, or the serving under the lock ended so
abbrev pub EndsWith : Service → Served → Type 0
EndsWith (ByRead request reply stamp made) answer = answer ≡ answers.Halted
EndsWith (HaltedRead request written made) answer = answer ≡ answers.Halted
EndsWith (SpentRead request place word made) answer = answer ≡ answers.Spent place word
EndsWith (BothWays request answer made served tries) other = other ≡ served
EndsWith (UnderLock request served tries) other = other ≡ served

-- why it ended behind these services: each request had its own, or the last one ended it
abbrev pub IsEnd : List Request → List Service → Served → Type 0
IsEnd requests services answers.All = (length services ≡ length requests) × GoesOn services
IsEnd requests [] answer = ⊥
IsEnd requests (x ∷ xs) answer = EndsWith x answer

module _ {T : Type 0} (m : Meaning) (planning : Planning) where
  -- the runner read this `get` once, with this answer, in so many counted steps
  pub record IsReading (request : Request) (answer : Read) (made : ℕ) (old new : RunnerState T) : Type 0 where
    pub get : is_get request.op ≡ true
    pub may : MayAttempt planning request old
    pub answers : Answers m planning request answer old new
    pub made_is : made ≡ steps_of m planning request answer old new answers

  module _ (retry_short : Bool) where
    -- this one request was served under its lock, with this answer, by these attempts
    pub record IsServing (request : Request) (answer : Served) (tries : List Try) (old new : RunnerState T)
        : Type 0 where
      pub may : MayServe planning (request ∷ []) old
      pub tried : AreTried m planning retry_short (request ∷ []) tries old new
      pub ends : Ends m planning retry_short (request ∷ []) answer (serving.served_in tries) tries old new

    -- a halted read served its request exactly where its stamp was written; a read that is followed by a serving under
    -- the lock was refused; and what isn't read is no `get`
    abbrev pub IsService : Service → RunnerState T → RunnerState T → Type 0
    IsService (ByRead request reply stamp made) old new = IsReading request (reads.Done reply stamp) made old new
    IsService (HaltedRead request written made) old new = (is : IsReading request reads.Halted made old new)
        × (written ≡ has_answered m planning request old new is.answers.at)
    IsService (SpentRead request place word made) old new =
        (old.layout.runners ≡ 1) × IsReading request (reads.Spent place word) made old new
    IsService (BothWays request answer made served tries) old new = (is_refusal old.layout.runners answer ≡ true)
        × (mid : RunnerState T) × IsReading request answer made old mid × IsServing request served tries mid new
    IsService (UnderLock request served tries) old new =
        (is_get request.op ≡ false) × IsServing request served tries old new

    -- how often a gate had let the runner go on in this service, as the part of it began in which it halted it
    abbrev pub asks_let : (x : Service) (old new : RunnerState T) → IsService x old new → ℕ
    asks_let (ByRead request reply stamp made) old new is = made + 1
    asks_let (HaltedRead request written made) old new is =
        asks_before m planning request reads.Halted old new is.0.answers
    asks_let (SpentRead request place word made) old new is = made + 1
    asks_let (BothWays request answer made served tries) old new is =
        made + 1 + all_asks_let m planning retry_short (request ∷ []) tries is.1 new is.3.tried
    asks_let (UnderLock request served tries) old new is =
        all_asks_let m planning retry_short (request ∷ []) tries old new is.1.tried

    module _ (requests : List Request) where
      -- these were done and no others, one behind the other, one for each request in their order; the last one stands
      -- first. Each but the last one served its request and let the runner go on
      abbrev pub AreDone : List Service → RunnerState T → RunnerState T → Type 0
      AreDone [] old new = new ≡ old
      AreDone (x ∷ xs) old new = (mid : RunnerState T) × AreDone xs old mid × GoesOn xs
          × (slice_get requests (length xs) ≡ Some (request_of x)) × IsService x mid new

      -- and in all of them
      abbrev pub all_asks_before : (services : List Service) (old new : RunnerState T) → AreDone services old new → ℕ
      all_asks_before [] old new is = 0
      all_asks_before (x ∷ xs) old new is = asks_in xs + asks_let x is.0 new is.4
