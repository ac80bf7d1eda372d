-- What holds of the runners' parts in each reached state, beside their slots and sections.
use Rattle.std.specs.Prelude.{ℕ, ◌+◌, ◌*◌, ◌<◌, ◌≤◌, ◌≡◌, true, length, Option, Some, None}
use Rattle.machine_states.specs.map_history.specs.declared.op.Op.{Op}
use Rattle.machine_states.specs.body_terms.specs.Memory.{cell_of}
use Rattle.machine_states.specs.body_terms.specs.Word.{version_of}
use Rattle.machine_states.specs.body_terms.specs.declared.thunk.Thunk.{Thunk}
use Rattle.machine_states.specs.table_words.specs.declared.layout.Layout.{Layout}
use Rattle.machine_states.specs.table_words.specs.Places.{worker_blocks, keeper_blocks, attempt_blocks}
use Rattle.machine_states.specs.table_words.specs.declared.spot.Spot.{Spot}
use Rattle.machine_states.specs.table_words.specs.declared.spot.Spot.TheVariants.{Cell, DoneWord}
use Rattle.machine_states.specs.structure_laws.specs.Meaning.{Meaning}
use Rattle.machine_states.specs.structure_laws.specs.Sections.{IsAllowed}
use Rattle.machine_states.specs.structure_laws.specs.Shape.{Shaped}
use Rattle.machine_states.specs.runner_parts.specs.declared.entries.Published.{Published}
use Rattle.machine_states.specs.epoch_core.specs.declared.stage.Stage.TheVariants.{Entered}
use Rattle.machine_states.specs.guard_core.specs.State.{most_linked}
use Rattle.machine_states.specs.runner_parts.specs.State.{RunState, PartState}
use Rattle.machine_states.specs.runner_parts.specs.Tests.{has}
use Rattle.machine_states.specs.Sight.{Sight}

-- the readings of an entered runner are as the structure's walks may take them, for each operation within the limits
abbrev pub WalksStand : Meaning → Layout → Sight → Type 0
WalksStand m l s = (r entry : ℕ) (op : Op) → (s.part r).stage ≡ Entered entry → IsAllowed op
    → m.walked l op (s.part r).reads.walk

-- a thunk that fits the readings of an entered runner, for an operation within the limits, is shaped: it has a body,
-- and its outer lock and the places of its Takes are locks that the readings give, and their words
abbrev pub FittingAreShaped : Meaning → Layout → Sight → Type 0
FittingAreShaped m l s = (r entry : ℕ) (op : Op) (thunk : Thunk) → (s.part r).stage ≡ Entered entry → IsAllowed op
    → m.fits l op (s.part r).reads.walk thunk ≡ true → Shaped m l (s.part r).reads.walk thunk

-- the section of a descriptor that waits in limbo is done
abbrev pub LimboIsDone : Sight → Type 0
LimboIsDone s = (r d : ℕ) → has (s.part r).descriptors.limbo d ≡ true → s.word (DoneWord d) ≡ 1

-- a worker that the keeper has joined makes no further step
abbrev pub JoinedAreGone : Layout → Sight → Type 0
JoinedAreGone l s = (worker : ℕ) → has (s.part l.runners).records.joined worker ≡ true → (s.part worker).gone ≡ true

-- how many own descriptors are free, wait in limbo, or are published
abbrev pub published_count : Option Published → ℕ
published_count None = 0
published_count (Some x) = 1

abbrev pub descriptors_of : PartState → ℕ
descriptors_of p = length p.descriptors.free + (length p.descriptors.limbo + published_count p.published)

-- a worker has its own descriptors still, and the keeper one for each worker
pub record DescriptorsAreKept (l : Layout) (s : Sight) : Type 0 where
  pub worker : (r : ℕ) → r < l.runners → descriptors_of (s.part r) ≡ l.sections
  pub keeper : descriptors_of (s.part l.runners) ≡ l.runners

-- how many own blocks are free, wait in limbo, or are with the run in progress: those that it linked, and the one in
-- its hand
abbrev pub held_count : Option ℕ → ℕ
held_count None = 0
held_count (Some b) = 1

abbrev pub blocks_of_run : Option RunState → ℕ
blocks_of_run None = 0
blocks_of_run (Some q) = length q.won + held_count q.block

abbrev pub blocks_of : PartState → ℕ
blocks_of p = length p.blocks.free + (length p.blocks.limbo + blocks_of_run p.run)

-- a worker has its own blocks still, and so has the keeper
pub record BlocksAreKept (l : Layout) (s : Sight) : Type 0 where
  pub worker : (r : ℕ) → r < l.runners → blocks_of (s.part r) ≡ worker_blocks l
  pub keeper : blocks_of (s.part l.runners) ≡ keeper_blocks l

-- a runner in no run, in whose limbo no more blocks are than so many guard words keep there, has as many free blocks as
-- an attempt may want, if a worker has more descriptors than so many. A sweep leaves no more in limbo than that
abbrev pub BlocksAreEnough : Layout → Sight → Type 0
BlocksAreEnough l s = (r words : ℕ) → r < l.runners → (s.part r).run ≡ None
    → length (s.part r).blocks.limbo ≤ most_linked * words → words < l.sections
    → attempt_blocks ≤ length (s.part r).blocks.free

-- one of the slot's five cells has the greatest version, so it can't be changed any more
pub record HasWornCell (m : Meaning) (l : Layout) (word : Spot → ℕ) (t : ℕ) : Type 0 where
  pub cell : ℕ
  pub low : cell < 5
  pub worn : version_of (word (Cell (cell_of m.fixed_cells t cell))) ≡ l.version_max

-- so it is with each slot in a worn list
abbrev pub WornAreWorn : Meaning → Layout → Sight → Type 0
WornAreWorn m l s = (r t : ℕ) → has (s.part r).nodes.worn t ≡ true → HasWornCell m l s.word t
