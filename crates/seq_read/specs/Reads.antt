-- Reads of requests without a lock: what each answer says.
use Rattle.std.specs.Prelude.{◌≡◌, ◌≢◌, ℕ, ◌+◌, ◌*◌, ◌≤◌, Bool, true, false, not, None, length}
use Rattle.machine_states.specs.map_history.specs.declared.op.Op.TheVariants.{Get}
use Rattle.machine_states.specs.map_history.specs.declared.op.Request.{Request}
use Rattle.machine_states.specs.map_history.specs.declared.reply.Reply.{Reply}
use Rattle.machine_states.specs.map_history.specs.Words.{word_of}
use Rattle.history_orders.specs.Turns.{Follows}
use Rattle.machine_states.specs.body_terms.specs.declared.thunk.Thunk.{Thunk}
use Rattle.caller_facts.specs.section_runs.specs.runner_gate.specs.Asks.{Asks, asked_on}
use Rattle.machine_states.specs.structure_laws.specs.Scene.{Readings}
use Rattle.machine_states.specs.structure_laws.specs.Meaning.{Meaning}
use Rattle.machine_states.specs.structure_laws.specs.Cells.{slots}
use Rattle.machine_states.specs.runner_parts.specs.declared.entries.Known.{Known}
use Rattle.machine_states.specs.runner_parts.specs.Tests.{is_answered}
use Rattle.machine_states.specs.runner_steps.specs.Sections.{reply_in}
use Rattle.machine_states.specs.Sight.{sight}
use Rattle.caller_facts.specs.version_words.specs.RunnerState.{RunnerState}
use Rattle.caller_facts.specs.request_facts.specs.Laws.{HasEntry}
use Rattle.caller_facts.specs.request_facts.specs.Placed.{IsServedAs}
use Rattle.caller_facts.specs.epoch_slots.specs.Collects.{IsTidy}
use Rattle.caller_facts.specs.epoch_slots.specs.Entries.{Exits}
use Rattle.caller_facts.specs.try_lock.specs.declared.planned.Planned.TheVariants as plans
use Rattle.caller_facts.specs.try_lock.specs.Planning.{Planning}
use Rattle.caller_facts.specs.try_lock.specs.Reached.{IsReached}
use Rattle.caller_facts.specs.Knowing.{KnowsMore, LearnsNoOther}
use Rattle.caller_facts.specs.Counted.{IsCounted}
use Rattle.caller_facts.specs.Asking.{IsUntouched}
use Rattle.seq_read.specs.RealTime.{FollowsAnswered}
use Rattle.seq_read.specs.Course.{KeepsSlots, HasEntered, HasPlanned, HasLoaded, HasAnnounced, HasClock, HasLock, HasReplied, HasStamped, IsRefused, refused_steps, loaded_steps, locked_steps}
use Rattle.seq_read.specs.declared.answers.Read.{Read}
use Rattle.seq_read.specs.declared.answers.Read.TheVariants as answers

abbrev pub is_halted : Read → Bool
is_halted answers.Halted = true
is_halted _ = false

-- the answer where the body changes something, first at this step
abbrev pub locked_at : ℕ → Read
locked_at at = answers.Locked at

-- a read counts at most so many steps, where there are so many node slots: the loads of a plan, those of a body's
-- cells, and five more
abbrev pub most_of_read : ℕ → ℕ
most_of_read count = 6 * count + 44 + 35

-- and one of a `get` at most so many: its walk makes half as many loads
abbrev pub most_of_get : ℕ → ℕ
most_of_get count = 3 * count + 28 + 35

module _ {T : Type 0} (m : Meaning) where
  -- the request stands once in the one history of a state that the machine reaches, with this stamp and this reply, and
  -- the runner has this part there and knows both words
  pub record IsInHistory (number stamp : ℕ) (reply : Reply) (r : RunnerState T) : Type 0 where
    pub knows_stamp : HasEntry r.part.records.known (record { request = number; reply = false; number = stamp })
    pub knows_reply : HasEntry r.part.records.known (record { request = number; reply = true; number = word_of reply })
    pub reached : IsReached m r
    pub served : IsServedAs m r.layout r.requests (sight m r.layout r.requests reached.world) number stamp reply

  module _ (planning : Planning) (request : Request) where
    -- the request was refused, and the runner left; nobody has served the request
    pub record IsTurnedAway (answer : Read) (old new : RunnerState T) : Type 0 where
      pub cut : RunnerState T
      pub cause : IsRefused m planning request answer old cut
      pub exits : Exits m cut new
      pub tidy : IsTidy new
      pub untouched : IsUntouched m request.number new

    -- the read was made: both words of the request are written, by the clock that it loaded between the two equal
    -- readings of its lock. The stamp follows that of each request that the runner knew to be answered: it is above it,
    -- or it is the same odd one
    pub record HasRead (reply : Reply) (stamp : ℕ) (old new : RunnerState T) : Type 0 where
      pub thunk : Thunk
      pub found : Readings
      pub clock : ℕ
      pub stamps : HasStamped m planning request thunk found clock old new
      pub stamp_is : stamp ≡ 2 * clock + 1
      pub reply_is : word_of reply ≡ reply_in (m.body thunk)
      pub placed : IsInHistory request.number stamp reply new
      pub above : (x : Known) → HasEntry old.part.records.known x → x.reply ≡ false
          → is_answered old.part.records.known x.request ≡ true
          → Follows x.number stamp

    -- and the runner left. The stamp follows that of each request that was answered as the read began, whoever knew of
    -- it
    pub record IsServed (reply : Reply) (stamp : ℕ) (old new : RunnerState T) : Type 0 where
      pub stamped : RunnerState T
      pub read : HasRead reply stamp old stamped
      pub exits : Exits m stamped new
      pub tidy : IsTidy new
      pub placed : IsInHistory request.number stamp reply new
      pub in_time : FollowsAnswered m stamp old new

    -- where a gate halted the runner: nothing was made since
    pub data Stops (old new : RunnerState T) : Type 0 where
      -- behind the entry
      AtEntry : HasEntered m planning request old new → Stops old new
      -- behind a load of the plan
      InPlan : (readings : Readings) → HasPlanned m planning request readings plans.Halted old new → Stops old new
      -- behind a load of a cell of the body
      BehindCell : (thunk : Thunk) (found : Readings) → 1 ≤ length found
          → HasLoaded m planning request thunk found old new → Stops old new
      -- behind the announcement of the read
      BehindPlan : (thunk : Thunk) (found : Readings) → HasAnnounced m planning request thunk found old new
          → Stops old new
      -- behind the load of the clock
      BehindClock : (thunk : Thunk) (found : Readings) (clock : ℕ)
          → HasClock m planning request thunk found clock old new → Stops old new
      -- behind the second load of the lock
      BehindLock : (thunk : Thunk) (found : Readings) (clock word : ℕ)
          → HasLock m planning request thunk found clock word old new → Stops old new
      -- behind the exchange of the reply word, whose stamp is to come: no entry of the history yet, and it can only be
      -- this runner's
      BehindReply : (thunk : Thunk) (found : Readings) (clock : ℕ)
          → HasReplied m planning request thunk found clock old new → Stops old new
      -- behind that of the stamp word: the request is served
      BehindStamp : (reply : Reply) (stamp : ℕ) → HasRead reply stamp old new → FollowsAnswered m stamp old new
          → Stops old new

    -- so many steps are counted up to there
    abbrev pub replied_steps : (thunk : Thunk) (found : Readings) (clock : ℕ) (old new : RunnerState T)
        → HasReplied m planning request thunk found clock old new → ℕ
    replied_steps thunk found clock old new is =
        locked_steps m planning request thunk found clock thunk.word old is.again is.unmoved + 1

    abbrev pub read_steps : (reply : Reply) (stamp : ℕ) (old new : RunnerState T) → HasRead reply stamp old new → ℕ
    read_steps reply stamp old new is =
        replied_steps is.thunk is.found is.clock old is.stamps.replied is.stamps.replies + 1

    abbrev pub stop_steps : (old new : RunnerState T) → Stops old new → ℕ
    stop_steps old new (AtEntry enters) = 0
    stop_steps old new (InPlan readings plans) = length readings
    stop_steps old new (BehindCell thunk found some loads) = loaded_steps m planning request thunk found old new loads
    stop_steps old new (BehindPlan thunk found is) =
        loaded_steps m planning request thunk found old is.loaded is.finds.loads + 1
    stop_steps old new (BehindClock thunk found clock is) =
        loaded_steps m planning request thunk found old is.announces.loaded is.announces.finds.loads + 2
    stop_steps old new (BehindLock thunk found clock word is) =
        locked_steps m planning request thunk found clock word old new is
    stop_steps old new (BehindReply thunk found clock is) = replied_steps thunk found clock old new is
    stop_steps old new (BehindStamp reply stamp is in_time) = read_steps reply stamp old new is

    -- whether the reply word was written before, and whether the stamp word was, so that the request is served
    abbrev pub has_replied : (old new : RunnerState T) → Stops old new → Bool
    has_replied old new (BehindReply thunk found clock is) = true
    has_replied old new (BehindStamp reply stamp is in_time) = true
    has_replied old new _ = false

    abbrev pub has_answered : (old new : RunnerState T) → Stops old new → Bool
    has_answered old new (BehindStamp reply stamp is in_time) = true
    has_answered old new _ = false

    -- how often the gate had let the runner go on before: each time but the last; where it halted it in its plan, as
    -- often as the plan began
    abbrev pub stop_asks : (old new : RunnerState T) → Stops old new → ℕ
    stop_asks old new (InPlan readings plans) = 1
    stop_asks old new at = stop_steps old new at

    -- a gate halted the runner behind its entry
    pub record IsHalted (old new : RunnerState T) : Type 0 where
      pub at : Stops old new
      pub unpublished : new.part.published ≡ None
      -- where the reply word isn't written, nobody has served the request; and it is answered where its stamp is
      pub untouched : has_replied old new at ≡ false → IsUntouched m request.number new
      pub answered : is_answered new.part.records.known request.number ≡ has_answered old new at
      pub reached : IsReached m new

    abbrev pub Answers : Read → RunnerState T → RunnerState T → Type 0
    Answers (answers.Done reply stamp) old new = IsServed reply stamp old new
    Answers answers.Halted old new = IsHalted old new
    Answers answer old new = IsTurnedAway answer old new

    -- so many steps are counted: the loads of the plan and of the body's cells, the announcement, the load of the
    -- clock, the second one of the lock, and the exchanges of both words
    abbrev pub steps_of : (answer : Read) (old new : RunnerState T) → Answers answer old new → ℕ
    steps_of (answers.Done reply stamp) old new is = read_steps reply stamp old is.stamped is.read
    steps_of answers.Halted old new is = stop_steps old new is.at
    steps_of answer old new is = refused_steps m planning request answer old is.cut is.cause

    -- how often a gate that halted the runner had let it go on
    abbrev pub asks_before : (answer : Read) (old new : RunnerState T) → Answers answer old new → ℕ
    asks_before answers.Halted old new is = stop_asks old new is.at
    asks_before _ old new is = 0

    -- what a read does. The gate is asked behind the entry, and behind each counted step. Where it halted the runner,
    -- it was seen before: with as many halts as at first, and with so many more asks
    pub record Reads (answer : Read) (old new : RunnerState T) (Seen : ℕ → Asks → Type 0)
        (halts halts' : ℕ) (asks asks' : Asks) (steps steps' : ℕ) : Type 0 where
      pub answers : Answers answer old new
      pub made : ℕ
      pub made_is : made ≡ steps_of answer old new answers
      pub few : made ≤ most_of_read (slots m old.layout)
      pub brief : (key : ℕ) → request.op ≡ Get key → made ≤ most_of_get (slots m old.layout)
      -- a `get` is never refused by its body, where the structure serves the map
      pub looks : m.is_map ≡ true → (key at : ℕ) → request.op ≡ Get key → answer ≢ locked_at at
      -- it takes none of its slots and retires none, runs no section, knows on what it knew, and comes to know no other
      -- request of its own
      pub owns : KeepsSlots old new
      pub finished : new.part.records.finished ≡ old.part.records.finished
      pub knows : KnowsMore old new
      pub no_other : LearnsNoOther request.number old new
      pub asked : IsCounted made 1 (not (is_halted answer)) halts halts' asks asks' steps steps'
      pub let_go : is_halted answer ≡ true → Seen halts (asked_on asks (asks_before answer old new answers))
