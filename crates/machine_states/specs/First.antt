-- The first state.
use Rattle.std.specs.Prelude.{◌≡◌, ℕ, zero, suc, ◌+◌, ◌*◌, List, [], ◌∷◌, ◌++◌, length, nat_lt, cond, true, false, None}
use Rattle.runner_steps.specs.map_history.specs.declared.op.Request.{Request}
use Rattle.runner_steps.specs.table_words.specs.declared.layout.Layout.{Layout}
use Rattle.runner_steps.specs.table_words.specs.declared.sizes.Sizes.{Sizes}
use Rattle.runner_steps.specs.table_words.specs.declared.spot.Spot.{Spot}
use Rattle.runner_steps.specs.table_words.specs.declared.spot.Spot.TheVariants as spots
use Rattle.runner_steps.specs.table_words.specs.Places.{size, Fits, worker_blocks, keeper_blocks}
use Rattle.runner_steps.specs.table_words.specs.Seen.{seen}
use Rattle.runner_steps.specs.runner_parts.specs.structure_laws.specs.Meaning.{Meaning}
use Rattle.runner_steps.specs.runner_parts.specs.structure_laws.specs.Cells.{first_word}
use Rattle.runner_steps.specs.runner_parts.specs.epoch_core.specs.declared.stage.Stage.TheVariants as stages
use Rattle.runner_steps.specs.runner_parts.specs.State.{PartState}
use Rattle.runner_steps.specs.runner_parts.specs.Lists.{no_guards, no_reads}
use Rattle.runner_steps.specs.Asks.{sizes_for}
use Rattle.machine_states.specs.World.{World}

-- as many numbers as said from this one on, in falling order
abbrev pub falling : ℕ → ℕ → List ℕ
falling from zero = []
falling from (suc n) = (from + n) ∷ falling from n

-- the first words, where the cells below this place have been filled
abbrev pub filled : Meaning → ℕ → Spot → ℕ
filled m n spots.Epoch = 1
filled m n (spots.Cell p) = cond (nat_lt p n) (first_word m p) 0
filled m n _ = 0

-- all words are there, and the cells below this place have been filled
pub record IsFilled (m : Meaning) (s : Sizes) (n : ℕ) (words : List ℕ) : Type 0 where
  pub room : length words ≡ size s
  pub seen : (a : Spot) → Fits s a → seen s words a ≡ filled m n a

-- a runner that has done nothing, with these free node slots, these free descriptors and these free blocks
abbrev pub first_part : List ℕ → List ℕ → List ℕ → PartState
first_part nodes descriptors blocks = record {
  stage = stages.Idle;
  run = None;
  published = None;
  nodes = record { free = nodes; hand = []; tests = []; limbo = []; worn = [] };
  descriptors = record { free = descriptors; stored = []; limbo = [] };
  blocks = record { free = blocks; limbo = [] };
  guards = no_guards;
  reads = no_reads;
  board = [];
  records = record {
    known = [];
    finished = [];
    events = 0;
    won = 0;
    epoch_seen = 0;
    crossed = false;
    crosses = false;
    left = [];
    splits = 0;
    joined = [];
    only_loads = false;
    gave_above = true;
  };
  gone = false;
}

-- the keeper's slots come after the workers', two for each worker and two more; it has one descriptor for each worker,
-- and its blocks come last too
abbrev pub keeper_part : Meaning → Layout → PartState
keeper_part m l =
    first_part (falling (m.fixed_slots + l.nodes * l.runners) (2 * l.runners + 2))
    (falling (l.sections * l.runners) l.runners) (falling (worker_blocks l * l.runners) (keeper_blocks l))

abbrev pub worker_part : Meaning → Layout → ℕ → PartState
worker_part m l k =
    first_part (falling (m.fixed_slots + l.nodes * k) l.nodes) (falling (l.sections * k) l.sections)
    (falling (worker_blocks l * k) (worker_blocks l))

-- the first workers
abbrev pub workers : Meaning → Layout → ℕ → List PartState
workers m l zero = []
workers m l (suc n) = workers m l n ++ worker_part m l n ∷ []

-- the first state: the epoch is 1, each cell holds its first word, all else is 0; every runner is idle with
-- its slots free
pub record IsFirst (m : Meaning) (l : Layout) (requests : List Request) (w : World) : Type 0 where
  pub words : IsFilled m (sizes_for m l requests) (sizes_for m l requests).cells w.words
  pub parts : w.parts ≡ keeper_part m l ∷ workers m l l.runners
