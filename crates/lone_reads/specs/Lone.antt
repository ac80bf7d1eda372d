-- What a read may come to with one worker.
use Rattle.std.specs.Prelude.{◌≡◌, ℕ, true}
use Rattle.runner_parts.specs.structure_laws.specs.map_history.specs.declared.op.Op.TheVariants.{Get}
use Rattle.runner_parts.specs.structure_laws.specs.map_history.specs.declared.op.Request.{Request}
use Rattle.runner_parts.specs.structure_laws.specs.Meaning.{Meaning}
use Rattle.version_words.specs.RunnerState.{RunnerState}
use Rattle.lone_plans.specs.Lone.{IsLone}
use Rattle.seq_read.specs.caller_facts.specs.try_lock.specs.Planning.{Planning}
use Rattle.seq_read.specs.Course.{IsRefused}
use Rattle.seq_read.specs.Reads.{Answers}
use Rattle.seq_read.specs.declared.answers.Read.{Read}
use Rattle.seq_read.specs.declared.answers.Read.TheVariants as answers

-- nobody came between: no lock was held, no word was read and then another one, no walk was too far
abbrev pub NobodyCameBetween : Read → Type 0
NobodyCameBetween (answers.Busy place word) = ⊥
NobodyCameBetween (answers.Stale place expected read) = ⊥
NobodyCameBetween (answers.Far loads) = ⊥
NobodyCameBetween _ = Unit {0}

-- the read is made, or it met a word with too few versions left, or its gate halted the runner
abbrev pub IsMadeOrSpent : Read → Type 0
IsMadeOrSpent (answers.Busy place word) = ⊥
IsMadeOrSpent (answers.Stale place expected read) = ⊥
IsMadeOrSpent (answers.Far loads) = ⊥
IsMadeOrSpent (answers.Locked at) = ⊥
IsMadeOrSpent _ = Unit {0}

-- with one worker
pub record LoneReadsAreServed (T : Type 0) (m : Meaning) (planning : Planning) : Type 0 where
  -- a read is refused by nothing but a word with too few versions left, or its body
  pub refused : (request : Request) (answer : Read) (old cut : RunnerState T) → IsLone old
      → IsRefused m planning request answer old cut → NobodyCameBetween answer
  -- so a read comes to Done, Locked or Spent, unless its gate halts it
  pub answers : (request : Request) (answer : Read) (old new : RunnerState T) → IsLone old
      → Answers m planning request answer old new → NobodyCameBetween answer
  -- and one of a `get` to Done or Spent, where the structure serves the map
  pub gets : m.is_map ≡ true → (request : Request) (key : ℕ) → request.op ≡ Get key
      → (answer : Read) (old new : RunnerState T) → IsLone old → Answers m planning request answer old new
      → IsMadeOrSpent answer
