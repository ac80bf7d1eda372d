-- What the parts of an attempt do.
use Rattle.std.specs.Prelude.{◌≡◌, ◌&&◌, ℕ, ◌+◌, ◌-◌, ◌≤◌, ◌⊎◌, Bool, true, false, not, None, Some, length, slice_get, if◌then◌else◌}
use Rattle.machine_states.specs.map_history.specs.declared.op.Request.{Request}
use Rattle.machine_states.specs.map_history.specs.declared.reply.Reply.{Reply}
use Rattle.machine_states.specs.map_history.specs.Words.{word_of}
use Rattle.machine_states.specs.body_terms.specs.Word.{value_of}
use Rattle.runner_gate.specs.Asks.{Asks, asked_on}
use Rattle.machine_states.specs.structure_laws.specs.Meaning.{Meaning}
use Rattle.machine_states.specs.runner_parts.specs.Tests.{is_answered, has_pair}
use Rattle.machine_states.specs.Sight.{sight}
use Rattle.machine_states.specs.epoch_core.specs.declared.stage.Stage.TheVariants as stages
use Rattle.version_words.specs.RunnerState.{RunnerState}
use Rattle.version_words.specs.Stages.{IsAt}
use Rattle.caller_facts.specs.epoch_slots.specs.Collects.{IsTidy}
use Rattle.caller_facts.specs.epoch_slots.specs.Entries.{HasLeave}
use Rattle.caller_facts.specs.section_runs.specs.commit_log.specs.Asked.{IsAsked}
use Rattle.caller_facts.specs.try_lock.specs.Planning.{Planning}
use Rattle.caller_facts.specs.try_lock.specs.Reached.{IsReached, run_blocks}
use Rattle.caller_facts.specs.try_lock.specs.Watches.{MayWatch, Watched}
use Rattle.caller_facts.specs.try_lock.specs.Ends.{IsCutShort}
use Rattle.lock_words.specs.Taken.{HasLeftBy}
use Rattle.request_facts.specs.Laws.{HasEntry}
use Rattle.request_facts.specs.Placed.{IsServedAs}
use Rattle.caller_facts.specs.Knowing.{KnowsMore, IsOwn, LearnsNoOther}
use Rattle.caller_facts.specs.Counted.{IsCounted}
use Rattle.attempts.specs.Course.{IsEmptyHanded, LeavesAndLoads}
use Rattle.attempts.specs.Attempts.{is_halted, is_short, IsBrief, Leaves, leaving_steps, leaving_helps, has_helped, Answers, steps_of, has_published, has_met_held, asks_before}
use Rattle.attempts.specs.declared.answers.Attempt.{Attempt}
use Rattle.attempts.specs.declared.answers.Attempt.TheVariants as answers

-- the runner may let its guard go and leave: it is entered, in no run, and has no published section
pub record MayLetGo {T : Type 0} (r : RunnerState T) : Type 0 where
  pub epoch : ℕ
  pub at : IsAt r (stages.Entered epoch) None

module _ {T : Type 0} (m : Meaning) where
  -- the runner may leave with this answer: it is entered, in no run, with an empty hand, no published section and no
  -- guard, and may watch a lock that the answer names, and help
  pub record MayLeave (answer : Attempt) (r : RunnerState T) : Type 0 where
    pub leave : HasLeave r
    pub hand : IsEmptyHanded r
    pub watch : (place word : ℕ) → answer ≡ answers.Busy place word → MayWatch m place word r
    pub reserve : 2 ≤ length r.part.nodes.free
    pub blocks : run_blocks ≤ length r.part.blocks.free
    -- it has read the word of this lock since it entered, or its own section left by it
    pub met : (place word : ℕ) → answer ≡ answers.Busy place word
        → (has_pair r.part.reads.cells place word ≡ true) ⊎ HasLeftBy r.part place word

  -- the runner came to know no request of its own
  abbrev pub LearnsNoOwn : RunnerState T → RunnerState T → Type 0
  LearnsNoOwn old new = (q : Request) → IsOwn old q
      → is_answered new.part.records.known q.number ≡ is_answered old.part.records.known q.number

  -- the runner left with this answer, or a gate halted it as it helped
  pub record HasTurned (answer got : Attempt) (old new : RunnerState T)
      (halts halts' : ℕ) (asks asks' : Asks) (steps steps' : ℕ) : Type 0 where
    pub made : ℕ
    pub asked : IsAsked made (not (is_halted got)) halts halts' asks asks' steps steps'
    pub knows : KnowsMore old new
    pub no_own : LearnsNoOwn old new
    pub reached : IsReached m new
    pub halted : is_halted got ≡ true → new.part.published ≡ None
    -- halted, it had made so many steps of the run of the section that the answer names
    pub short : is_halted got ≡ true → (place : ℕ) × (word : ℕ) × (answer ≡ answers.Busy place word)
        × (watching : RunnerState T) × Watched m place word true old watching
        × IsCutShort m (value_of word - 1) made watching new
    pub leaves : is_halted got ≡ false → Leaves m answer old new
    pub made_is : (going : is_halted got ≡ false) → made ≡ leaving_steps m answer old new (leaves going)
    pub same : is_halted got ≡ false → got ≡ answer
    pub tidy : is_halted got ≡ false → IsTidy new
    -- how many runs came to their end
    pub runs : (going : is_halted got ≡ false) → length new.part.records.finished
        ≡ length old.part.records.finished + (if leaving_helps m answer old new (leaves going) then 1 else 0)
    pub few_runs : length new.part.records.finished ≤ length old.part.records.finished + 1

  -- the runner may learn the words of this request: it knows both
  pub record MayLearn (request : Request) (r : RunnerState T) : Type 0 where
    pub leave : HasLeave r
    pub hand : IsEmptyHanded r
    pub there : slice_get r.requests request.number ≡ Some request
    pub knows : is_answered r.part.records.known request.number ≡ true

  -- it loaded them, and left
  pub record HasLearnt (request : Request) (reply : Reply) (stamp : ℕ) (old new : RunnerState T) : Type 0 where
    pub leaves : LeavesAndLoads m request.number old new
    pub knows : KnowsMore old new
    pub no_own : LearnsNoOwn old new
    pub tidy : IsTidy new
    pub reached : IsReached m new
    pub knows_stamp : HasEntry new.part.records.known
        (record { request = request.number; reply = false; number = stamp })
    pub knows_reply : HasEntry new.part.records.known
        (record { request = request.number; reply = true; number = word_of reply })
    pub served : IsServedAs m new.layout new.requests
        (sight m new.layout new.requests reached.world) request.number stamp reply
    pub finished : new.part.records.finished ≡ old.part.records.finished

  module _ (planning : Planning) (request : Request) where
    -- the rest of an attempt that began with `old`, from here on: its answer, what the runner learned, whether a
    -- section was published in the attempt, and how often the gate was asked; `held` is whether it was asked
    -- behind the exchange that published, and the own section run, before, and `before` how many steps were counted
    -- before. Where no lock was held at most so many steps are counted from here on
    pub record Rests (held : Bool) (before most : ℕ) (answer : Attempt) (old here new : RunnerState T)
        (Seen : ℕ → Asks → Type 0) (halts halts' : ℕ) (asks asks' : Asks) (steps steps' : ℕ) : Type 0 where
      pub answers : Answers m planning request answer old new
      pub knows : KnowsMore here new
      pub no_other : LearnsNoOther request.number here new
      pub made : ℕ
      pub made_is : before + made ≡ steps_of m planning request answer old new answers
      pub published : Bool
      pub published_is : published ≡ has_published m planning request answer old new answers
      pub late : held ≡ true → published ≡ true
      pub asked : IsCounted made (if published && not held then 1 else 0) (not (is_halted answer))
          halts halts' asks asks' steps steps'
      -- where the gate halted the runner, it was seen with so many more asks before the part of the attempt in which it
      -- did
      pub let_go : is_halted answer ≡ true → (more : ℕ)
          × ((if held then 2 else 1) + before + more ≡ asks_before m planning request answer old new answers)
          × Seen halts (asked_on asks more)
      pub entered : is_short answer ≡ false
      pub runs : is_halted answer ≡ false
          → length new.part.records.finished
          ≡ length here.part.records.finished + ((if published && not held then 1 else 0)
          + (if has_helped m planning request answer old new answers then 1 else 0))
      pub few_runs : length new.part.records.finished
          ≤ length here.part.records.finished + (if held then 1 else 2)
      pub brief : has_met_held m planning request answer old new answers ≡ false
          → IsBrief most (if held then 0 else 1) made here new
