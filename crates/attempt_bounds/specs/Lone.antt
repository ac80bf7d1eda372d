-- What an attempt may come to with one worker.
use Rattle.machine_states.specs.map_history.specs.declared.op.Request.{Request}
use Rattle.machine_states.specs.structure_laws.specs.Meaning.{Meaning}
use Rattle.version_words.specs.RunnerState.{RunnerState}
pub use Rattle.lone_plans.specs.Lone.{IsLone}
use Rattle.attempts.specs.try_lock.specs.Planning.{Planning}
use Rattle.attempts.specs.Course.{IsRefused}
use Rattle.attempts.specs.Attempts.{Answers}
use Rattle.attempts.specs.declared.answers.Attempt.{Attempt}
use Rattle.attempts.specs.declared.answers.Attempt.TheVariants as answers

-- nobody came between: no lock was held, no word was read and then another one, no walk was too far
abbrev pub NobodyCameBetween : Attempt → Type 0
NobodyCameBetween (answers.Busy place word) = ⊥
NobodyCameBetween (answers.Stale place expected read) = ⊥
NobodyCameBetween (answers.Far loads) = ⊥
NobodyCameBetween _ = Unit {0}

module _ (T : Type 0) (m : Meaning) (planning : Planning) where
  -- with one worker
  pub record LoneAttemptsAreServed : Type 0 where
    -- a plan, a publication or a section is refused by nothing but a word with too few versions left.
    -- (`Halted` stands here for what is no refusal)
    pub refused : (request : Request) (answer : Attempt) (old cut : RunnerState T) → IsLone old
        → IsRefused m planning request answer old cut → NobodyCameBetween answer
    -- so an attempt comes to Done, Short or Spent, unless its gate halts it
    pub answers : (request : Request) (answer : Attempt) (old new : RunnerState T) → IsLone old
        → Answers m planning request answer old new → NobodyCameBetween answer
