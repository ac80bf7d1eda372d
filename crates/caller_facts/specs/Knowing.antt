-- What a runner knows, and never forgets.
use Rattle.std.specs.Prelude.{◌≡◌, ◌≢◌, ℕ, ◌%◌, ◌++◌, List, Some, slice_get}
use Rattle.machine_states.specs.map_history.specs.declared.op.Request.{Request}
use Rattle.machine_states.specs.runner_parts.specs.Tests.{is_answered}
use Rattle.lock_walks.specs.version_words.specs.RunnerState.{RunnerState}

-- the one list is the other's front
pub record IsFront {A : Type 0} (front whole : List A) : Type 0 where
  pub back : List A
  pub parts : whole ≡ front ++ back

module _ {T : Type 0} where
  -- the runner knows the stamp and reply words that it knew, and keeps what it kept of the runs that it
  -- brought to their end
  pub record KnowsMore (old new : RunnerState T) : Type 0 where
    pub number : new.number ≡ old.number
    pub known : IsFront old.part.records.known new.part.records.known
    pub finished : IsFront old.part.records.finished new.part.records.finished

  -- the runner is of the same table, and knows what it knew and no more
  pub record IsStill (old new : RunnerState T) : Type 0 where
    pub layout : new.layout ≡ old.layout
    pub requests : new.requests ≡ old.requests
    pub number : new.number ≡ old.number
    pub known : new.part.records.known ≡ old.part.records.known
    pub finished : new.part.records.finished ≡ old.part.records.finished

  -- the request is one of the table's, and in a trace of this worker's
  pub record IsOwn (r : RunnerState T) (q : Request) : Type 0 where
    pub there : slice_get r.requests q.number ≡ Some q
    pub own : q.trace % r.layout.runners ≡ r.number

  -- of its own requests the worker came to know no other than this one
  abbrev pub LearnsNoOther : ℕ → RunnerState T → RunnerState T → Type 0
  LearnsNoOther request old new = (q : Request) → IsOwn old q → q.number ≢ request
      → is_answered new.part.records.known q.number ≡ is_answered old.part.records.known q.number
