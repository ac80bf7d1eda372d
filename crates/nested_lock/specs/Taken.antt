-- Takes of further locks in a run.
use Rattle.std.specs.Prelude.{◌≡◌, ℕ, ◌+◌, ◌⊎◌, Bool, true, false, Result, is_err, None, Some}
use Rattle.machine_states.specs.body_terms.specs.declared.outcome.Refused.{Refused}
use Rattle.machine_states.specs.body_terms.specs.declared.step.Step.TheVariants.{Take}
use Rattle.machine_states.specs.body_terms.specs.declared.micro.Micro.TheVariants.{NestedLoad, NestedHold, OutcomeLoad, OutcomeCommit}
use Rattle.machine_states.specs.body_terms.specs.Line.{begins}
use Rattle.machine_states.specs.body_terms.specs.Run.{written_once}
use Rattle.machine_states.specs.body_terms.specs.Shape.{IsStep}
use Rattle.machine_states.specs.structure_laws.specs.Meaning.{Meaning}
use Rattle.machine_states.specs.runner_parts.specs.State.{RunState}
use Rattle.machine_states.specs.runner_steps.specs.Sections.{thunk_of}
use Rattle.machine_states.specs.runner_steps.specs.AfterInRun.{goes_on, agrees}
use Rattle.commit_log.specs.version_words.specs.RunnerState.{RunnerState}
use Rattle.commit_log.specs.Runs.{IsRunning, Stepped}
use Rattle.commit_log.specs.Links.{HasRoom, HasLinked}
use Rattle.commit_log.specs.Committed.{HasCommitted}
use Rattle.nested_lock.specs.declared.takes.TakeEnd.{TakeEnd}
use Rattle.nested_lock.specs.Answers.{first_outcome, second_outcome, outcome_at}
use Rattle.nested_lock.specs.Held.{IsHeld}

-- this run stands so many atomic steps into a Take of this lock, with this word
pub record IsInTake (m : Meaning) (place expected past : ℕ) (q : RunState) : Type 0 where
  pub step : ℕ
  pub takes : IsStep (m.body (thunk_of q.opened)) step (Take place expected)
  pub at : q.at ≡ begins (m.body (thunk_of q.opened)) step + past

module _ {T : Type 0} (m : Meaning) where
  -- the next step of this run takes this lock, with this word, and there are blocks for both words on which it agrees
  pub record MayTake (r : RunnerState T) (place expected : ℕ) (q : RunState) : Type 0 where
    pub running : IsRunning m r q
    pub next : IsInTake m place expected 0 q
    pub room : HasRoom 2 r.part q

  -- the run went on behind the first agreed word, and there is a block for the second one
  pub record MayHold (r : RunnerState T) (place expected : ℕ) (q : RunState) : Type 0 where
    pub running : IsRunning m r q
    pub next : IsInTake m place expected 3 q
    pub room : HasRoom 1 r.part q

  -- one exchange was made from the expected word to the one that names the section, and what the lock held then was
  -- agreed on: this word. By it the answer is given
  pub record HasHeld (place expected read : ℕ) (answer : Result (Unit {0}) Refused) (old new : RunnerState T)
      (q : RunState) : Type 0 where
    pub log : ℕ
    pub held : ℕ
    pub loaded : ℕ
    pub found : ℕ
    pub holding : RunnerState T
    pub looking : RunnerState T
    pub hold : Stepped m q (NestedHold place expected) held old holding
    pub load : Stepped m (goes_on m old.layout q q.word) (OutcomeLoad place log) loaded holding looking
    pub between : RunState
    pub linked : RunnerState T
    pub links : HasLinked m looking linked (goes_on m old.layout (goes_on m old.layout q q.word) loaded) between
    pub commit : Stepped m between (OutcomeCommit place log) found linked new
    pub agreed : read ≡ written_once found loaded
    pub told : second_outcome old.layout.version_max q.descriptor place expected read ≡ outcome_at place answer
    -- where the lock was got, the section holds it until it is done
    pub got : is_err answer ≡ false → IsHeld m place expected q.descriptor new
    pub goes_on : IsRunning m new (agrees m old.layout between read)

  -- the lock's word was loaded and agreed on
  pub record HasRead (place read : ℕ) (old new : RunnerState T) (q q' : RunState) : Type 0 where
    pub log : ℕ
    pub loaded : ℕ
    pub first : Bool
    pub middle : RunnerState T
    pub load : Stepped m q (NestedLoad place log) loaded old middle
    pub between : RunState
    pub linked : RunnerState T
    pub links : HasLinked m middle linked (goes_on m old.layout q loaded) between
    pub commit : HasCommitted m read first linked new between
    pub after : q' ≡ agrees m old.layout between read
    pub goes_on : IsRunning m new q'

  -- by the first agreed word the Take was refused
  pub record IsRefused (version_max place expected : ℕ) (end : TakeEnd) (old new : RunnerState T) : Type 0 where
    pub told : first_outcome version_max place expected end.first ≡ outcome_at place end.answer
    pub refused : is_err end.answer ≡ true
    pub alone : end.second ≡ None
    pub same : new ≡ old

  -- or the lock could be taken with it, and the answer is given by the second one
  pub record IsTried (version_max place expected : ℕ) (end : TakeEnd) (old new : RunnerState T)
      (q : RunState) : Type 0 where
    pub told : first_outcome version_max place expected end.first ≡ None
    pub read : ℕ
    pub again : end.second ≡ Some read
    pub held : HasHeld place expected read end.answer old new q

  -- a Take that ended so
  pub record HasTaken (place expected : ℕ) (end : TakeEnd) (old new : RunnerState T) (q : RunState) : Type 0 where
    pub behind : RunState
    pub between : RunnerState T
    pub reads : HasRead place end.first old between q behind
    pub ends : IsRefused old.layout.version_max place expected end between new
        ⊎ IsTried old.layout.version_max place expected end between new behind

  -- a Take that gave this answer
  pub record Takes (place expected : ℕ) (answer : Result (Unit {0}) Refused) (old new : RunnerState T)
      (q : RunState) : Type 0 where
    pub end : TakeEnd
    pub taken : HasTaken place expected end old new q
    pub told : end.answer ≡ answer
