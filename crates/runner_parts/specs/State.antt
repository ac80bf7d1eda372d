-- What contracts see of a runner's part.
use Rattle.std.specs.Prelude.{ℕ, List, Bool, Option}
use Rattle.structure_laws.specs.body_terms.specs.declared.outcome.Outcome.{Outcome}
use Rattle.epoch_core.specs.declared.stage.Stage.{Stage}
use Rattle.runner_parts.specs.declared.entries.Retired.{Retired}
use Rattle.runner_parts.specs.declared.entries.Tested.{Tested}
use Rattle.runner_parts.specs.declared.entries.Stored.{Stored}
use Rattle.runner_parts.specs.declared.entries.Known.{Known}
use Rattle.runner_parts.specs.declared.entries.Published.{Published}
use Rattle.runner_parts.specs.declared.entries.Left.{Left}
use Rattle.runner_parts.specs.declared.entries.Look.{Look}
use Rattle.runner_parts.specs.declared.entries.Waiting.{Waiting}
use Rattle.runner_parts.specs.declared.entries.BoardRead.{BoardRead}

-- a run in progress
pub record RunState : Type 0 where
  pub descriptor : ℕ
  pub opened : List ℕ
  pub at : ℕ
  pub word : ℕ
  pub trail : List ℕ
  pub made : Option ℕ
  pub worn : Bool
  pub ended : ℕ
  -- the blocks on which the section's runs agreed, in the order of the links
  pub links : List ℕ
  -- the own block that it empties to link it, and how many of that block's words it has made 0
  pub block : Option ℕ
  pub emptied : ℕ
  -- the blocks that it linked itself
  pub won : List ℕ

-- a section that was run to its end
pub record FinishedState : Type 0 where
  pub descriptor : ℕ
  pub lock : ℕ
  pub word : ℕ
  pub outcome : Outcome
  pub trail : List ℕ
  pub late : Bool

-- the own node slots
pub record NodesState : Type 0 where
  pub free : List ℕ
  pub hand : List ℕ
  pub tests : List Tested
  pub limbo : List Retired
  pub worn : List ℕ

-- the own descriptors
pub record DescriptorsState : Type 0 where
  pub free : List ℕ
  pub stored : List Stored
  pub limbo : List ℕ

-- the own blocks
pub record BlocksState : Type 0 where
  pub free : List ℕ
  pub limbo : List Waiting

-- what the runner guards
pub record GuardsState : Type 0 where
  -- the descriptor that its guard word names
  pub named : Option ℕ
  -- it has seen that descriptor published while its guard word named it
  pub sure : Bool
  -- the guard words that it has read in the sweep in progress, in the order of the runners
  pub looked : List ℕ

-- what was read since the runner entered
pub record ReadsState : Type 0 where
  pub walk : List (ℕ × ℕ)
  pub cells : List (ℕ × ℕ)
  -- the read without a lock that it has announced
  pub look : Option Look

-- what a runner keeps for good
pub record RecordsState : Type 0 where
  pub known : List Known
  pub finished : List FinishedState
  pub events : ℕ
  pub won : ℕ
  -- the epoch as its own steps last saw or left it; 0 until then
  pub epoch_seen : ℕ
  -- others' steps crossed its own: a scan of its met an announcement that wasn't idle, a sweep of its met a guard word
  -- that named a descriptor, or it found the epoch moved
  pub crossed : Bool
  -- it joined a worker when its own steps had met the epoch, so that they may have crossed the worker's
  pub crosses : Bool
  pub left : List Left
  pub splits : ℕ
  pub joined : List ℕ
  -- since it entered it has made no other step than loads of cells, and those with which a read begins
  pub only_loads : Bool
  -- each slot that it gave to the board left it at least as many free ones as it had at first
  pub gave_above : Bool

-- what one runner is at and keeps
pub record PartState : Type 0 where
  pub stage : Stage
  pub run : Option RunState
  pub published : Option Published
  pub nodes : NodesState
  pub descriptors : DescriptorsState
  pub blocks : BlocksState
  pub guards : GuardsState
  pub reads : ReadsState
  -- its loads of the board since it was idle last, the latest one first
  pub board : List BoardRead
  pub records : RecordsState
  pub gone : Bool
