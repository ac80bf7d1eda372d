-- Attempts of requests: what may be attempted, and what each answer says.
use mathlib.Core.Logic.{inl, inr}
use Rattle.std.specs.Prelude.{◌≡◌, ◌≢◌, ◌⊎◌, ℕ, ◌+◌, ◌*◌, ◌-◌, ◌<◌, ◌≤◌, Bool, true, false, not, [], ◌∷◌, ◌++◌, Ok, Some, None, length, if◌then◌else◌}
use Rattle.machine_states.specs.map_history.specs.declared.op.Request.{Request}
use Rattle.machine_states.specs.map_history.specs.declared.reply.Reply.{Reply}
use Rattle.machine_states.specs.map_history.specs.Words.{word_of}
use Rattle.machine_states.specs.body_terms.specs.Trail.{Agreed}
use Rattle.machine_states.specs.body_terms.specs.Word.{value_of}
use Rattle.machine_states.specs.body_terms.specs.declared.outcome.Outcome.TheVariants.{Answered}
use Rattle.machine_states.specs.body_terms.specs.declared.thunk.Thunk.{Thunk}
use Rattle.runner_gate.specs.Asks.{Asks, asked_on}
use Rattle.machine_states.specs.table_words.specs.Places.{attempt_blocks}
use Rattle.machine_states.specs.structure_laws.specs.Scene.{Readings}
use Rattle.machine_states.specs.structure_laws.specs.Meaning.{Meaning}
use Rattle.machine_states.specs.structure_laws.specs.Cells.{slots}
pub use Rattle.machine_states.specs.structure_laws.specs.Shape.{most_of_run}
use Rattle.machine_states.specs.guard_core.specs.State.{most_linked}
use Rattle.machine_states.specs.runner_parts.specs.declared.entries.Known.{Known}
use Rattle.machine_states.specs.runner_parts.specs.declared.entries.Published.{Published}
use Rattle.machine_states.specs.runner_parts.specs.State.{FinishedState}
use Rattle.machine_states.specs.runner_parts.specs.Tests.{is_answered}
use Rattle.machine_states.specs.Sight.{sight}
use Rattle.version_words.specs.RunnerState.{RunnerState}
use Rattle.caller_facts.specs.epoch_slots.specs.Collects.{IsTidy}
use Rattle.caller_facts.specs.epoch_slots.specs.Entries.{Exits}
use Rattle.caller_facts.specs.epoch_slots.specs.Reserves.{counts_of}
use Rattle.caller_facts.specs.epoch_slots.specs.declared.reserves.Kind.{Kind}
use Rattle.caller_facts.specs.epoch_slots.specs.declared.reserves.Kind.TheVariants as kinds
use Rattle.caller_facts.specs.epoch_slots.specs.declared.reserves.Short.{Short}
use Rattle.caller_facts.specs.try_lock.specs.declared.planned.Planned.TheVariants as plans
use Rattle.caller_facts.specs.try_lock.specs.declared.section.Section.{Section}
use Rattle.caller_facts.specs.try_lock.specs.Planning.{Planning}
use Rattle.caller_facts.specs.try_lock.specs.Reached.{IsReached}
use Rattle.caller_facts.specs.try_lock.specs.Ends.{IsCutShort}
use Rattle.caller_facts.specs.try_lock.specs.Watches.{Watched}
use Rattle.caller_facts.specs.Asking.{IsUntouched}
use Rattle.caller_facts.specs.Knowing.{KnowsMore, LearnsNoOther}
use Rattle.caller_facts.specs.Counted.{IsCounted}
use Rattle.attempts.specs.RealTime.{IsAboveAnswered}
use Rattle.attempts.specs.Reclaims.{Reclaims}
use Rattle.caller_facts.specs.epoch_slots.specs.Board.{lost_among}
use Rattle.request_facts.specs.Laws.{HasEntry}
use Rattle.request_facts.specs.Placed.{IsServedAs}
use Rattle.attempts.specs.Course.{HasEntered, HasPlanned, HasTried, HasRun, IsRefused, refused_steps, is_refused_late, LeavesAndLoads, HasHelped, WasHelped, IsOfHelped}
use Rattle.attempts.specs.declared.answers.Attempt.{Attempt}
use Rattle.attempts.specs.declared.answers.Attempt.TheVariants as answers

abbrev pub is_short : Attempt → Bool
is_short (answers.Short short) = true
is_short _ = false

-- an answer for which nothing was served, and the runner leaves
abbrev pub is_refusal : Attempt → Bool
is_refusal (answers.Busy place word) = true
is_refusal (answers.Stale place expected read) = true
is_refusal (answers.Far loads) = true
is_refusal (answers.Spent place word) = true
is_refusal _ = false

abbrev pub is_halted : Attempt → Bool
is_halted answers.Halted = true
is_halted _ = false

-- how often a gate is asked beside after the counted steps: behind the entry, and behind an exchange that published
abbrev pub asks_more : Attempt → Bool → ℕ
asks_more (answers.Short short) published = 0
asks_more _ published = if published then 2 else 1

-- how many runs an attempt with this answer brings to their end: that of its own section, where one was
-- published, and that of the section which held a lock, where it was helped
abbrev pub runs_of : Attempt → Bool → Bool → ℕ
runs_of (answers.Short short) published helped = 0
runs_of (answers.Done reply stamp) published helped = 1
runs_of answer published helped = (if published then 1 else 0) + (if helped then 1 else 0)

-- the loads of a plan and the steps of a run are at most so many, where there are so many node slots
abbrev pub most_of_attempt : ℕ → ℕ
most_of_attempt count = 6 * count + 44 + most_of_run

module _ {T : Type 0} where
  -- at most so many steps were counted, and at most so many runs came to their end
  pub record IsBrief (steps runs made : ℕ) (old new : RunnerState T) : Type 0 where
    pub few_steps : made ≤ steps
    pub few_runs : length new.part.records.finished ≤ length old.part.records.finished + runs

  -- fewer than an attempt may need of this kind are free; node slots are asked for first, and blocks last
  abbrev pub IsFew : RunnerState T → Kind → Type 0
  IsFew r kinds.Node = length r.part.nodes.free < 2
  IsFew r kinds.Descriptor = (2 ≤ length r.part.nodes.free) × (length r.part.descriptors.free ≡ 0)
  IsFew r kinds.Block = (2 ≤ length r.part.nodes.free) × (1 ≤ length r.part.descriptors.free)
      × (length r.part.blocks.free < attempt_blocks)

  module _ (m : Meaning) where
    -- after three scans in a row and a walk over the board too few node slots were free, or after a sweep no descriptor,
    -- or too few blocks
    pub record IsShort (short : Short) (number : ℕ) (old new : RunnerState T) : Type 0 where
      pub reclaims : Reclaims m old new
      pub few : IsFew new short.kind
      pub counts : short ≡ counts_of new short.kind
      -- of node slots so many lay on the board in that walk, and were taken by others before the runner could take them
      pub board : short.kind ≡ kinds.Node → short.board ≡ lost_among reclaims.draws.drawn.found
      -- where a descriptor lacks, guard words of other runners name all of the runner's own: they are no more than
      -- there are runners. So a runner that has one more of them never lacks one
      pub named : short.kind ≡ kinds.Descriptor → short.limbo ≤ new.layout.runners
      -- and where blocks lack, they name the descriptors under which those lie that aren't free: each keeps as many as
      -- one log has at most. So such a runner never lacks blocks either
      pub kept : short.kind ≡ kinds.Block → short.limbo ≤ most_linked * new.layout.runners
      pub untouched : IsUntouched m number new

    -- the runner ran the section that this lock's word named to its end, and left. It is the section of
    -- which the word was a lock's word
    pub record HasRunIt (place word : ℕ) (cut new : RunnerState T) : Type 0 where
      pub helps : HasHelped m place word cut new
      pub of_lock : IsOfHelped m place word cut new helps

    -- so it did, or it found that section done
    abbrev pub HasMadeWay : ℕ → ℕ → RunnerState T → RunnerState T → Type 0
    HasMadeWay place word cut new = HasRunIt place word cut new ⊎ WasHelped m place word cut new

    -- in so many counted steps
    abbrev pub way_steps : (place word : ℕ) (cut new : RunnerState T) → HasMadeWay place word cut new → ℕ
    way_steps place word cut new (inl ran) = ran.helps.made
    way_steps place word cut new (inr was) = 0

    abbrev pub is_helped : (place word : ℕ) (cut new : RunnerState T) → HasMadeWay place word cut new → Bool
    is_helped place word cut new (inl ran) = true
    is_helped place word cut new (inr was) = false

    -- the runner leaves, where a lock was held with its section at its end
    abbrev pub Leaves : Attempt → RunnerState T → RunnerState T → Type 0
    Leaves (answers.Busy place word) cut new = HasMadeWay place word cut new
    Leaves _ cut new = Exits m cut new

    -- in so many counted steps
    abbrev pub leaving_steps : (answer : Attempt) (cut new : RunnerState T) → Leaves answer cut new → ℕ
    leaving_steps (answers.Busy place word) cut new way = way_steps place word cut new way
    leaving_steps _ cut new exits = 0

    -- whether it helped
    abbrev pub leaving_helps : (answer : Attempt) (cut new : RunnerState T) → Leaves answer cut new → Bool
    leaving_helps (answers.Busy place word) cut new way = is_helped place word cut new way
    leaving_helps _ cut new exits = false

    module _ (planning : Planning) (request : Request) where
      -- the request was refused, and the runner left; nobody has served the request
      pub record IsTurnedAway (answer : Attempt) (old new : RunnerState T) : Type 0 where
        pub cut : RunnerState T
        pub cause : IsRefused m planning request answer old cut
        pub leaves : Leaves answer cut new
        pub tidy : IsTidy new
        pub untouched : IsUntouched m request.number new

      -- the request is served: the own section answered, the runner knows both words of the request, and
      -- left. The stamp is above that of
      -- each request that the runner knew to be answered, and of each that was answered as the attempt began,
      -- whoever knew of it; and in a state that the machine reaches, in
      -- which the runner has this part, the
      -- request stands once in the one history, with this stamp and this reply
      pub record IsServed (reply : Reply) (stamp : ℕ) (old new : RunnerState T) : Type 0 where
        pub thunk : Thunk
        pub trail : Agreed
        pub unguarded : RunnerState T
        pub answer : ℕ
        pub run : HasRun m planning request thunk (Answered answer) trail old unguarded
        pub leaves : LeavesAndLoads m request.number unguarded new
        pub knows_stamp : HasEntry new.part.records.known
            (record { request = request.number; reply = false; number = stamp })
        pub knows_reply : HasEntry new.part.records.known
            (record { request = request.number; reply = true; number = word_of reply })
        pub above : (x : Known) → HasEntry old.part.records.known x → x.reply ≡ false
            → is_answered old.part.records.known x.request ≡ true
            → x.number < stamp
        pub in_time : IsAboveAnswered m stamp old new
        pub tidy : IsTidy new
        pub reached : IsReached m new
        pub served : IsServedAs m new.layout new.requests
            (sight m new.layout new.requests reached.world) request.number stamp reply

      -- a gate halted the runner as it helped the section that held a lock, by whose word the request was refused: in
      -- that section's run, behind so many steps
      pub record IsHaltedHelping (old new : RunnerState T) : Type 0 where
        pub place : ℕ
        pub word : ℕ
        pub cut : RunnerState T
        pub cause : IsRefused m planning request (answers.Busy place word) old cut
        pub watching : RunnerState T
        pub watches : Watched m place word true cut watching
        pub made : ℕ
        pub short : IsCutShort m (value_of word - 1) made watching new

      -- where a gate halted the runner: nothing was made since
      pub data Stops (old new : RunnerState T) : Type 0 where
        -- behind the entry
        AtEntry : HasEntered m planning request old new → Stops old new
        -- behind a load of the plan
        InPlan : (readings : Readings) → HasPlanned m planning request readings plans.Halted old new → Stops old new
        -- behind the exchange that published the section
        BehindHold : (thunk : Thunk) (section : Section) → HasTried m planning request thunk (Ok section) old new
            → Stops old new
        -- in that section's run, behind so many steps
        InOwnRun : (thunk : Thunk) (section : Section) (published : RunnerState T) (made : ℕ)
            → HasTried m planning request thunk (Ok section) old published
            → IsCutShort m section.descriptor made published new → Stops old new
        -- or in that of the section which held a lock
        InHelpedRun : IsHaltedHelping old new → Stops old new

      -- so many steps are counted up to there
      abbrev pub stop_steps : (old new : RunnerState T) → Stops old new → ℕ
      stop_steps old new (AtEntry enters) = 0
      stop_steps old new (InPlan readings plans) = length readings
      stop_steps old new (BehindHold thunk section tries) = length tries.readings
      stop_steps old new (InOwnRun thunk section published made tries short) = length tries.readings + made
      stop_steps old new (InHelpedRun is) =
          refused_steps m planning request (answers.Busy is.place is.word) old is.cut is.cause + is.made

      -- whether a section was published before
      abbrev pub is_stop_late : (old new : RunnerState T) → Stops old new → Bool
      is_stop_late old new (AtEntry enters) = false
      is_stop_late old new (InPlan readings plans) = false
      is_stop_late old new (BehindHold thunk section tries) = true
      is_stop_late old new (InOwnRun thunk section published made tries short) = true
      is_stop_late old new (InHelpedRun is) =
          is_refused_late m planning request (answers.Busy is.place is.word) old is.cut is.cause

      -- whether a lock was held
      abbrev pub is_stop_helping : (old new : RunnerState T) → Stops old new → Bool
      is_stop_helping old new (InHelpedRun is) = true
      is_stop_helping old new _ = false

      -- how often the gate had let the runner go on as the part of the attempt began in which it halted it: the entry,
      -- the plan, the publication, the own run or the helped one
      abbrev pub stop_asks : (old new : RunnerState T) → Stops old new → ℕ
      stop_asks old new (AtEntry enters) = 0
      stop_asks old new (InPlan readings plans) = 1
      stop_asks old new (BehindHold thunk section tries) = 1 + length tries.readings
      stop_asks old new (InOwnRun thunk section published made tries short) = 2 + length tries.readings
      stop_asks old new (InHelpedRun is) =
          (if is_refused_late m planning request (answers.Busy is.place is.word) old is.cut is.cause then 2 else 1)
          + refused_steps m planning request (answers.Busy is.place is.word) old is.cut is.cause

      -- whether that was in the run of its own section
      abbrev pub is_own_run : (old new : RunnerState T) → Stops old new → Bool
      is_own_run old new (InOwnRun thunk section published made tries short) = true
      is_own_run old new _ = false

      -- the own section's run came to its end by the very step behind which the gate halted the runner: one more run is
      -- kept, that of this section. It answered exactly where the runner knows both words of the request; and then the
      -- stamp is above that of each request that the runner knew to be answered as the attempt began, and of each that
      -- was answered then, whoever served it
      pub record HasJustEnded (thunk : Thunk) (section : Section) (old published new : RunnerState T) : Type 0 where
        pub finished : FinishedState
        pub kept : new.part.records.finished ≡ published.part.records.finished ++ finished ∷ []
        pub of_descriptor : finished.descriptor ≡ section.descriptor
        pub lock : finished.lock ≡ thunk.lock
        pub word : finished.word ≡ thunk.word
        pub for : thunk.request ≡ request.number
        pub told : (answer : ℕ) → finished.outcome ≡ Answered answer
            → is_answered new.part.records.known request.number ≡ true
        pub untold : ((answer : ℕ) → finished.outcome ≢ Answered answer)
            → is_answered new.part.records.known request.number ≡ false
        pub above : (x : Known) → HasEntry old.part.records.known x → x.reply ≡ false
            → is_answered old.part.records.known x.request ≡ true
            → is_answered new.part.records.known request.number ≡ true
            → (stamp : ℕ) → HasEntry new.part.records.known
            (record { request = request.number; reply = false; number = stamp })
            → x.number < stamp
        pub in_time : is_answered new.part.records.known request.number ≡ true
            → (stamp : ℕ) → HasEntry new.part.records.known
            (record { request = request.number; reply = false; number = stamp })
            → IsAboveAnswered m stamp old new

      -- so it is where the runner was halted in its own run
      abbrev pub EndsAt : (old new : RunnerState T) → Stops old new → Type 0
      EndsAt old new (InOwnRun thunk section published made tries short) =
          HasJustEnded thunk section old published new
      EndsAt old new _ = Unit {0}

      -- a gate halted the runner behind its entry. What it has published since and not run to its end, if anything, is
      -- for this request. Where there is none, the request isn't answered, or the runner was halted behind the last
      -- step of its own run
      pub record IsHalted (old new : RunnerState T) : Type 0 where
        pub at : Stops old new
        pub published : (x : Published) → new.part.published ≡ Some x → x.thunk.request ≡ request.number
        pub unknown : new.part.published ≡ None → is_own_run old new at ≡ false
            → is_answered new.part.records.known request.number ≡ false
        pub ended : new.part.published ≡ None → EndsAt old new at
        pub reached : IsReached m new

      abbrev pub Answers : Attempt → RunnerState T → RunnerState T → Type 0
      Answers (answers.Done reply stamp) old new = IsServed reply stamp old new
      Answers (answers.Short short) old new = IsShort short request.number old new
      Answers answers.Halted old new = IsHalted old new
      Answers answer old new = IsTurnedAway answer old new

      -- so many steps are counted: the loads of the plan, the steps of the own run, and those of the helped one
      abbrev pub steps_of : (answer : Attempt) (old new : RunnerState T) → Answers answer old new → ℕ
      steps_of (answers.Done reply stamp) old new is = length is.run.ended.tries.readings + is.run.ended.made
      steps_of (answers.Short short) old new is = 0
      steps_of answers.Halted old new is = stop_steps old new is.at
      steps_of answer old new is =
          refused_steps m planning request answer old is.cut is.cause + leaving_steps answer is.cut new is.leaves

      -- whether a section was published
      abbrev pub has_published : (answer : Attempt) (old new : RunnerState T) → Answers answer old new → Bool
      has_published (answers.Done reply stamp) old new is = true
      has_published (answers.Short short) old new is = false
      has_published answers.Halted old new is = is_stop_late old new is.at
      has_published answer old new is = is_refused_late m planning request answer old is.cut is.cause

      -- whether a section that held a lock was helped to its end
      abbrev pub has_helped : (answer : Attempt) (old new : RunnerState T) → Answers answer old new → Bool
      has_helped (answers.Done reply stamp) old new is = false
      has_helped (answers.Short short) old new is = false
      has_helped answers.Halted old new is = false
      has_helped answer old new is = leaving_helps answer is.cut new is.leaves

      -- whether a lock was held: the plan was refused by it, or the publication, or the section left since it found
      -- it so
      abbrev pub has_met_held : (answer : Attempt) (old new : RunnerState T) → Answers answer old new → Bool
      has_met_held (answers.Busy place word) old new is = true
      has_met_held answers.Halted old new is = is_stop_helping old new is.at
      has_met_held _ old new is = false

      -- how often a gate that halted the runner had let it go on before the part of the attempt in which it did
      abbrev pub asks_before : (answer : Attempt) (old new : RunnerState T) → Answers answer old new → ℕ
      asks_before answers.Halted old new is = stop_asks old new is.at
      asks_before _ old new is = 0

      -- an attempt with this answer, with so many counted steps, in which a section was published or not
      pub record IsAttempt (answer : Attempt) (made : ℕ) (published : Bool) (old new : RunnerState T) : Type 0 where
        pub answers : Answers answer old new
        pub made_is : made ≡ steps_of answer old new answers
        pub published_is : published ≡ has_published answer old new answers
        pub knows : KnowsMore old new
        pub no_other : LearnsNoOther request.number old new
        -- so many runs came to their end, where no gate halted the runner; never more than two
        pub runs : is_halted answer ≡ false
            → length new.part.records.finished
            ≡ length old.part.records.finished + runs_of answer published (has_helped answer old new answers)
        pub few_runs : length new.part.records.finished ≤ length old.part.records.finished + 2
        -- where it met no lock that was held, it ran at most its own section
        pub brief : has_met_held answer old new answers ≡ false
            → IsBrief (most_of_attempt (slots m old.layout)) 1 made old new

      -- what an attempt does. The gate is asked behind each counted step and behind the entry, and once more exactly
      -- where a section was published. Where it halted the runner, it was seen before the part of the attempt in which
      -- it did: with as many halts as at first, and with so many more asks
      pub record Attempts (answer : Attempt) (old new : RunnerState T) (Seen : ℕ → Asks → Type 0)
          (halts halts' : ℕ) (asks asks' : Asks) (steps steps' : ℕ) : Type 0 where
        pub made : ℕ
        pub published : Bool
        pub is : IsAttempt answer made published old new
        pub asked : IsCounted made (asks_more answer published) (not (is_halted answer))
            halts halts' asks asks' steps steps'
        pub let_go : is_halted answer ≡ true → Seen halts (asked_on asks (asks_before answer old new is.answers))
