-- A section that is attempted again where it was refused.
use Rattle.std.specs.Prelude.{◌≡◌, ℕ, zero, suc, ◌≤◌, Bool, true, false, Result, Err}
use Rattle.machine_states.specs.map_history.specs.declared.op.Request.{Request}
use Rattle.machine_states.specs.body_terms.specs.declared.thunk.Thunk.{Thunk}
use Rattle.runner_gate.specs.Asks.{Asks}
use Rattle.machine_states.specs.structure_laws.specs.Scene.{Readings}
use Rattle.machine_states.specs.structure_laws.specs.Meaning.{Meaning}
use Rattle.version_words.specs.RunnerState.{RunnerState}
use Rattle.attempts.specs.try_lock.specs.Planning.{Planning}
use Rattle.attempts.specs.caller_facts.specs.Knowing.{KnowsMore, LearnsNoOther}
use Rattle.attempts.specs.caller_facts.specs.Asking.{MayAttempt}
use Rattle.attempts.specs.declared.answers.Attempt.{Attempt}
use Rattle.attempts.specs.declared.answers.Attempt.TheVariants as answers
use Rattle.lock_attempts.specs.Sections.{SectionAttempts}

-- another section came between, or too few slots were free
abbrev pub is_tried_again : Result ℕ Attempt → Bool
is_tried_again (Err (answers.Busy place word)) = true
is_tried_again (Err (answers.Stale place expected read)) = true
is_tried_again (Err (answers.Far loads)) = true
is_tried_again (Err (answers.Short short)) = true
is_tried_again _ = false

module _ {T : Type 0} (m : Meaning) (planning : Planning) (request : Request) (own : Readings → Thunk) where
  -- so many attempts were made, one behind the other, and each was refused. The gate's halts, its asks and the counted
  -- steps are those before and after
  abbrev pub AreRefused : ℕ → (old new : RunnerState T) (Seen : ℕ → Asks → Type 0)
      (halts halts' : ℕ) (asks asks' : Asks) (steps steps' : ℕ) → Type 0
  AreRefused zero old new Seen halts halts' asks asks' steps steps' =
      (new ≡ old) × (halts' ≡ halts) × (asks' ≡ asks) × (steps' ≡ steps)
  AreRefused (suc n) old new Seen halts halts' asks asks' steps steps' =
      (mid : RunnerState T) × (halts1 : ℕ) × (asks1 : Asks) × (steps1 : ℕ) × (answer : Attempt)
      × AreRefused n old mid Seen halts halts1 asks asks1 steps steps1
      × (is_tried_again (Err answer) ≡ true)
      × SectionAttempts m planning request own (Err answer) mid new Seen halts1 halts' asks1 asks' steps1 steps'

  -- the request's section was attempted until this answer: at most so many attempts were refused, and the last one
  -- answered so. Before it the runner was as `before` says, and might attempt it
  pub record Persists (more : ℕ) (answer : Result ℕ Attempt) (old new : RunnerState T) (Seen : ℕ → Asks → Type 0)
      (halts halts' : ℕ) (asks asks' : Asks) (steps steps' : ℕ) : Type 0 where
    pub before : RunnerState T
    pub asks1 : Asks
    pub steps1 : ℕ
    pub refused : ℕ
    pub few : refused ≤ more
    pub tries : AreRefused refused old before Seen halts halts asks asks1 steps steps1
    pub may : MayAttempt planning request before
    pub last : SectionAttempts m planning request own answer before new Seen halts halts' asks1 asks' steps1 steps'
    pub knows : KnowsMore old new
    pub no_other : LearnsNoOther request.number old new
