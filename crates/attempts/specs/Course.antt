-- The course of an attempt: how far it came, and what ended it.
use mathlib.Core.Logic.{inl, inr}
use Rattle.std.specs.Prelude.{◌≡◌, ◌≢◌, ℕ, ◌+◌, ◌-◌, ◌≤◌, ◌⊎◌, [], Bool, true, false, length, Result, Ok, Err, None}
use Rattle.machine_states.specs.map_history.specs.declared.op.Request.{Request}
use Rattle.machine_states.specs.body_terms.specs.Trail.{Agreed}
use Rattle.machine_states.specs.body_terms.specs.Word.{value_of, is_free}
use Rattle.machine_states.specs.body_terms.specs.declared.outcome.Outcome.{Outcome}
use Rattle.machine_states.specs.body_terms.specs.declared.outcome.Outcome.TheVariants as outcomes
use Rattle.machine_states.specs.body_terms.specs.declared.outcome.Refused.{Refused}
use Rattle.machine_states.specs.body_terms.specs.declared.outcome.Refused.TheVariants as refusals
use Rattle.machine_states.specs.body_terms.specs.declared.thunk.Thunk.{Thunk}
use Rattle.machine_states.specs.table_words.specs.Places.{attempt_blocks}
use Rattle.machine_states.specs.structure_laws.specs.Scene.{Readings}
use Rattle.machine_states.specs.structure_laws.specs.Meaning.{Meaning}
use Rattle.machine_states.specs.Sight.{sight}
use Rattle.machine_facts.specs.machine_invariant.specs.Sections.{IsLeft}
use Rattle.machine_states.specs.runner_parts.specs.declared.event.EventKind.TheVariants as kinds
use Rattle.machine_states.specs.runner_parts.specs.Tests.{is_answered}
use Rattle.caller_facts.specs.lock_walks.specs.runner_facts.specs.Names.{HasLock}
use Rattle.machine_facts.specs.Watched.{WasDone}
use Rattle.version_words.specs.RunnerState.{RunnerState}
use Rattle.version_words.specs.Events.{Makes, IsMade}
use Rattle.caller_facts.specs.epoch_slots.specs.Entries.{Enters, Exits}
use Rattle.caller_facts.specs.try_lock.specs.declared.section.Section.{Section}
use Rattle.caller_facts.specs.try_lock.specs.declared.planned.Planned.{Planned}
use Rattle.caller_facts.specs.try_lock.specs.declared.planned.Planned.TheVariants as plans
use Rattle.caller_facts.specs.try_lock.specs.Planning.{Planning}
use Rattle.caller_facts.specs.try_lock.specs.Reached.{IsReached}
use Rattle.caller_facts.specs.try_lock.specs.Plans.{Answers, IsWalk, HasWalked}
use Rattle.caller_facts.specs.try_lock.specs.Publishes.{Publishes}
use Rattle.caller_facts.specs.try_lock.specs.Ends.{EndsSo}
use Rattle.caller_facts.specs.try_lock.specs.Watches.{Watched}
use Rattle.caller_facts.specs.Asking.{MayAttempt, WasRead, IsMarked}
use Rattle.caller_facts.specs.Knowing.{IsStill}
use Rattle.attempts.specs.Reclaims.{Reclaims}
use Rattle.attempts.specs.declared.answers.Attempt.{Attempt}
use Rattle.attempts.specs.declared.answers.Attempt.TheVariants as answers

-- a refused plan as an attempt's answer; a thunk is none yet
abbrev pub of_plan : Planned → Attempt
of_plan (plans.Busy place word) = answers.Busy place word
of_plan (plans.Spent place word) = answers.Spent place word
of_plan (plans.Stale place expected read) = answers.Stale place expected read
of_plan (plans.Far loads) = answers.Far loads
of_plan (plans.Thunk thunk) = answers.Halted
of_plan plans.Halted = answers.Halted

-- a refused publication, at this lock
abbrev pub of_refusal : ℕ → Refused → Attempt
of_refusal lock (refusals.Busy word) = answers.Busy lock word
of_refusal lock (refusals.Stale expected read) = answers.Stale lock expected read
of_refusal lock (refusals.Spent word) = answers.Spent lock word

-- the outcome of a section that left; one that answered is none
abbrev pub of_outcome : Outcome → Attempt
of_outcome (outcomes.Busy place word) = answers.Busy place word
of_outcome (outcomes.Stale place expected read) = answers.Stale place expected read
of_outcome (outcomes.Spent place word) = answers.Spent place word
of_outcome (outcomes.Answered reply) = answers.Halted

module _ {T : Type 0} where
  -- what an attempt may need of own slots is free
  pub record HasReserve (r : RunnerState T) : Type 0 where
    pub nodes : 2 ≤ length r.part.nodes.free
    pub descriptors : 1 ≤ length r.part.descriptors.free
    pub blocks : attempt_blocks ≤ length r.part.blocks.free

  -- no slot is in the hand or half looked at, and no sweep is in progress
  pub record IsEmptyHanded (r : RunnerState T) : Type 0 where
    pub hand : r.part.nodes.hand ≡ []
    pub tests : r.part.nodes.tests ≡ []
    pub looked : r.part.guards.looked ≡ []

module _ {T : Type 0} (m : Meaning) (planning : Planning) (request : Request) where
  -- the runner collected, swept and used the board where that was due, had a reserve of two node slots, one descriptor
  -- and the blocks for two logs, and entered
  pub record HasEntered (old new : RunnerState T) : Type 0 where
    pub may : MayAttempt planning request old
    pub ready : RunnerState T
    pub reclaims : Reclaims m old ready
    pub reserve : HasReserve ready
    pub enters : Enters m ready new
    pub still : IsStill old new
    pub hand : IsEmptyHanded new
    pub has : HasReserve new

  -- behind that it planned, and was answered this by these readings
  pub record HasPlanned (readings : Readings) (answer : Planned) (old new : RunnerState T) : Type 0 where
    pub entered : RunnerState T
    pub enters : HasEntered old entered
    pub walk : IsWalk m planning old.layout request.op readings
    pub walked : HasWalked m readings entered new
    pub answers : Answers m planning old.layout request.op request.number readings answer
    pub reached : IsReached m new
    pub still : IsStill old new
    pub hand : IsEmptyHanded new
    pub has : HasReserve new

  -- behind that it tried to publish the thunk of the plan, and was answered this
  pub record HasTried (thunk : Thunk) (answer : Result Section Refused) (old new : RunnerState T) : Type 0 where
    pub readings : Readings
    pub planned : RunnerState T
    pub plans : HasPlanned readings (plans.Thunk thunk) old planned
    pub publishes : Publishes m thunk answer planned new
    pub still : IsStill old new
    pub hand : IsEmptyHanded new
    pub nodes : 2 ≤ length new.part.nodes.free
    pub blocks : attempt_blocks ≤ length new.part.blocks.free

  -- the section was published, and run to its end with this outcome and this trail
  pub record HasEnded (section : Section) (thunk : Thunk) (outcome : Outcome) (trail : Agreed)
      (old new : RunnerState T) : Type 0 where
    pub published : RunnerState T
    pub made : ℕ
    pub tries : HasTried thunk (Ok section) old published
    pub ends : EndsSo m section.descriptor thunk outcome trail made published new

  -- and let the guard go
  pub record HasRun (thunk : Thunk) (outcome : Outcome) (trail : Agreed) (old new : RunnerState T) : Type 0 where
    pub section : Section
    pub ran : RunnerState T
    pub ended : HasEnded section thunk outcome trail old ran
    pub lets_go : IsMade m (kinds.Guard None) ran new

  -- the section left without an effect
  pub record HasLeft (thunk : Thunk) (outcome : Outcome) (old new : RunnerState T) : Type 0 where
    pub trail : Agreed
    pub run : HasRun thunk outcome trail old new
    pub left : IsLeft m run.ended.ends.components.agreement
        (sight m run.ran.layout run.ran.requests run.ended.ends.reached.world) run.section.descriptor

  -- by what an attempt that served nothing ended: the plan was refused, or the publication, or the section left
  pub record PlanIsRefused (answer : Attempt) (old new : RunnerState T) : Type 0 where
    pub readings : Readings
    pub refusal : Planned
    pub plans : HasPlanned readings refusal old new
    pub same : answer ≡ of_plan refusal
    -- a plan is stale by a mark alone
    pub stale : (place expected read : ℕ) → answer ≡ answers.Stale place expected read
        → IsMarked planning readings place expected read

  pub record LockIsRefused (answer : Attempt) (old new : RunnerState T) : Type 0 where
    pub thunk : Thunk
    pub refusal : Refused
    pub guarded : RunnerState T
    pub tries : HasTried thunk (Err refusal) old guarded
    pub lets_go : IsMade m (kinds.Guard None) guarded new
    pub same : answer ≡ of_refusal thunk.lock refusal
    pub lock : m.is_lock thunk.lock ≡ true
    -- the plan had read another word of the lock
    pub stale : (place expected read : ℕ) → answer ≡ answers.Stale place expected read
        → WasRead tries.readings place expected × (expected ≢ read)

  pub record SectionHasLeft (answer : Attempt) (old new : RunnerState T) : Type 0 where
    pub thunk : Thunk
    pub outcome : Outcome
    pub left : HasLeft thunk outcome old new
    pub same : answer ≡ of_outcome outcome
    -- the plan had read what the section wanted of a cell, or expected of a further lock; the agreed word is another
    -- one
    pub stale : (place expected read : ℕ) → answer ≡ answers.Stale place expected read
        → WasRead left.run.ended.tries.readings place expected × (expected ≢ read)

  abbrev pub IsRefused : Attempt → RunnerState T → RunnerState T → Type 0
  IsRefused answer old new = PlanIsRefused answer old new ⊎
      (LockIsRefused answer old new ⊎ SectionHasLeft answer old new)

  -- so many steps are counted up to there: the loads of the plan, and the steps of the own run
  abbrev pub refused_steps : (answer : Attempt) (old new : RunnerState T) → IsRefused answer old new → ℕ
  refused_steps answer old new (inl plan) = length plan.readings
  refused_steps answer old new (inr (inl lock)) = length lock.tries.readings
  refused_steps answer old new (inr (inr section)) =
      length section.left.run.ended.tries.readings + section.left.run.ended.made

  -- whether a section was published before
  abbrev pub is_refused_late : (answer : Attempt) (old new : RunnerState T) → IsRefused answer old new → Bool
  is_refused_late answer old new (inl plan) = false
  is_refused_late answer old new (inr (inl lock)) = false
  is_refused_late answer old new (inr (inr section)) = true

module _ {T : Type 0} (m : Meaning) where
  -- the runner left, and loaded the stamp word and the reply word of this request
  pub record LeavesAndLoads (number : ℕ) (old new : RunnerState T) : Type 0 where
    pub stamp : ℕ
    pub reply : ℕ
    pub idle : RunnerState T
    pub stamped : RunnerState T
    pub exits : Exits m old idle
    pub loads_stamp : Makes m (kinds.LoadEntry number false) stamp idle stamped
    pub loads_reply : Makes m (kinds.LoadEntry number true) reply stamped new

  -- the guard was let go, and the runner left
  pub record HasGone (old new : RunnerState T) : Type 0 where
    pub unguarded : RunnerState T
    pub lets_go : IsMade m (kinds.Guard None) old unguarded
    pub exits : Exits m unguarded new

  -- the runner watched this lock, which had the word still, ran the section that the word names to its end, and left:
  -- the section is done, and where it answered, the runner knows both words of its request
  pub record HasHelped (place word : ℕ) (old new : RunnerState T) : Type 0 where
    pub names : is_free word ≡ false
    pub watching : RunnerState T
    pub watches : Watched m place word true old watching
    pub thunk : Thunk
    pub outcome : Outcome
    pub trail : Agreed
    pub made : ℕ
    pub helped : RunnerState T
    pub ends : EndsSo m (value_of word - 1) thunk outcome trail made watching helped
    pub leaves : HasGone helped new
    pub told : (answer : ℕ) → outcome ≡ outcomes.Answered answer
        → is_answered new.part.records.known thunk.request ≡ true

  -- or the lock had another word by then: the section was done while the lock had this one; and the runner left
  pub record WasHelped (place word : ℕ) (old new : RunnerState T) : Type 0 where
    pub names : is_free word ≡ false
    pub watching : RunnerState T
    pub watches : Watched m place word false old watching
    pub done : WasDone m watching.layout watching.requests watches.reached.world place word (value_of word - 1)
    pub leaves : HasGone watching new

  -- the word is that of a lock of the section that was helped
  abbrev pub IsOfHelped : (place word : ℕ) → (old new : RunnerState T) → HasHelped place word old new → Type 0
  IsOfHelped place word old new h = HasLock m
      (sight m h.helped.layout h.helped.requests h.ends.reached.world).word (value_of word - 1) place word
