-- What the parts of an attempt do.
use Rattle.std.specs.Prelude.{◌≡◌, ℕ, ◌+◌, ◌≤◌, Bool, true, false, length, Result, Ok, Err, if◌then◌else◌}
use Rattle.machine_states.specs.map_history.specs.declared.op.Request.{Request}
use Rattle.machine_states.specs.body_terms.specs.declared.thunk.Thunk.{Thunk}
use Rattle.runner_gate.specs.Asks.{Asks}
use Rattle.machine_states.specs.structure_laws.specs.Scene.{Readings}
use Rattle.machine_states.specs.structure_laws.specs.Meaning.{Meaning}
use Rattle.version_words.specs.RunnerState.{RunnerState}
use Rattle.attempts.specs.try_lock.specs.Planning.{Planning}
use Rattle.attempts.specs.caller_facts.specs.Knowing.{KnowsMore, LearnsNoOther}
use Rattle.attempts.specs.caller_facts.specs.Counted.{IsCounted}
use Rattle.attempts.specs.Rests.{Rests}
use Rattle.attempts.specs.declared.answers.Attempt.{Attempt}
use Rattle.lock_attempts.specs.Sections.{is_done, HasAnswered, answered_steps}

module _ {T : Type 0} (m : Meaning) (planning : Planning) (request : Request) (own : Readings → Thunk) where
  -- the rest of an attempt that began with `old` and was answered, from here on; `held` is whether the gate was asked
  -- behind the exchange that published, and the section run, before, and `before` how many steps were counted before.
  -- At most so many steps are counted from here on
  pub record AnswersLast (held : Bool) (before most reply : ℕ) (old here new : RunnerState T)
      (halts halts' : ℕ) (asks asks' : Asks) (steps steps' : ℕ) : Type 0 where
    pub answers : HasAnswered m planning request own reply old new
    pub knows : KnowsMore here new
    pub no_other : LearnsNoOther request.number here new
    pub made : ℕ
    pub made_is : before + made ≡ answered_steps m planning request own reply old new answers
    pub asked : IsCounted made (if held then 0 else 1) true halts halts' asks asks' steps steps'
    pub runs : length new.part.records.finished ≡ length here.part.records.finished + (if held then 0 else 1)
    pub few : made ≤ most

  -- the rest of an attempt with this answer
  abbrev pub SectionRests : (held : Bool) (before most : ℕ) (answer : Result ℕ Attempt) (old here new : RunnerState T)
      (Seen : ℕ → Asks → Type 0) (halts halts' : ℕ) (asks asks' : Asks) (steps steps' : ℕ) → Type 0
  SectionRests held before most (Ok reply) old here new Seen halts halts' asks asks' steps steps' =
      AnswersLast held before most reply old here new halts halts' asks asks' steps steps'
  SectionRests held before most (Err answer) old here new Seen halts halts' asks asks' steps steps' =
      (is_done answer ≡ false)
      × Rests m planning request held before most answer old here new Seen halts halts' asks asks' steps steps'
