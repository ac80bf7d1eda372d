-- What is left in limbo where nobody crossed the runner's steps.
use Rattle.std.specs.Prelude.{◌≡◌, ℕ, ◌+◌, ◌*◌, ◌^◌, ◌<◌, ◌≤◌, false, length}
use Rattle.machine_states.specs.map_history.specs.declared.op.Request.{Request}
use Rattle.machine_states.specs.map_history.specs.declared.reply.Reply.{Reply}
use Rattle.machine_states.specs.structure_laws.specs.Meaning.{Meaning}
use Rattle.machine_states.specs.runner_parts.specs.State.{PartState}
use Rattle.machine_states.specs.runner_steps.specs.After.{own_epoch}
use Rattle.version_words.specs.RunnerState.{RunnerState}
use Rattle.attempts.specs.epoch_slots.specs.declared.reserves.Short.{Short}
use Rattle.attempts.specs.try_lock.specs.Planning.{Planning}
use Rattle.attempts.specs.Attempts.{IsShort, IsServed}

-- the runner's own steps took the epoch on by four at most for each run that it brought to its end
abbrev pub IsEarly : PartState → Type 0
IsEarly p = own_epoch p.records.epoch_seen ≤ 1 + 4 * length p.records.finished

module _ {T : Type 0} where
  -- so it is unless others crossed the runner's steps, or it brought more runs to their end than any list of requests
  -- asks for
  abbrev pub IsSpared : RunnerState T → Type 0
  IsSpared r = r.part.records.crossed ≡ false → length r.part.records.finished < 2 ^ 59 → IsEarly r.part

module _ (T : Type 0) (m : Meaning) (planning : Planning) where
  pub record AttemptsSpareSlots : Type 0 where
    -- a runner that has done nothing is spared
    pub first : (r : RunnerState T) → r.part.records.epoch_seen ≡ 0 → IsSpared r
    -- an attempt that serves its request leads from a spared runner to a spared one
    pub served : (request : Request) (reply : Reply) (stamp : ℕ) (old new : RunnerState T) → IsSpared old
        → IsServed m planning request reply stamp old new → IsSpared new
    -- behind a spared runner, an attempt that lacks slots of a kind has none of that kind in limbo
    pub short : (short : Short) (number : ℕ) (old new : RunnerState T) → IsSpared old → IsShort m short number old new
        → new.part.records.crossed ≡ false → length new.part.records.finished < 2 ^ 59
        → short.limbo ≡ 0
