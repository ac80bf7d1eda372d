-- Which request a runner may ask, and what stands where nobody has served it.
use Rattle.std.specs.Prelude.{◌≡◌, ℕ, ◌-◌, [], true, false, slice_get, Some}
use Rattle.machine_states.specs.map_history.specs.declared.op.Request.{Request}
use Rattle.machine_states.specs.body_terms.specs.Word.{value_of, version_of, pack}
use Rattle.machine_states.specs.structure_laws.specs.Scene.{Readings}
use Rattle.machine_states.specs.structure_laws.specs.Meaning.{Meaning}
use Rattle.machine_states.specs.runner_parts.specs.Tests.{is_next, is_answered}
use Rattle.machine_states.specs.Sight.{sight}
use Rattle.request_facts.specs.Placed.{IsUnserved}
use Rattle.lock_walks.specs.version_words.specs.RunnerState.{RunnerState}
use Rattle.lock_walks.specs.try_lock.specs.epoch_slots.specs.Collects.{IsTidy}
use Rattle.lock_walks.specs.try_lock.specs.Planning.{Planning}
use Rattle.lock_walks.specs.try_lock.specs.Reached.{IsReached}

-- this word was read of this place
abbrev pub WasRead : Readings → ℕ → ℕ → Type 0
WasRead readings place word = (i : ℕ) × (slice_get readings i ≡ Some (place, word))

-- a mark was read as 1, so its node has been taken out. The word that is told expected is the unmarked one of the
-- version before
pub record IsMarked (planning : Planning) (readings : Readings) (place expected read : ℕ) : Type 0 where
  pub mark : planning.is_mark place ≡ true
  pub seen : WasRead readings place read
  pub marked : value_of read ≡ 1
  pub unmarked : expected ≡ pack 0 (version_of read - 1)

module _ {T : Type 0} where
  -- the request is the worker's next one of its trace, which the structure serves, and the worker is idle
  -- with an empty hand
  pub record MayAttempt (planning : Planning) (request : Request) (r : RunnerState T) : Type 0 where
    pub tidy : IsTidy r
    pub there : slice_get r.requests request.number ≡ Some request
    pub next : is_next r.layout r.number r.requests r.part.records.known (Some request) ≡ true
    pub served : planning.serves request.op ≡ true

  -- in a state that the machine reaches, in which the runner has this part, nobody has served the request; so the
  -- runner doesn't know it
  pub record IsUntouched (m : Meaning) (number : ℕ) (r : RunnerState T) : Type 0 where
    pub unknown : is_answered r.part.records.known number ≡ false
    pub reached : IsReached m r
    pub unserved : IsUnserved m r.layout r.requests (sight m r.layout r.requests reached.world) number
