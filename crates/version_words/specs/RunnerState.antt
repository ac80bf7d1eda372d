-- What contracts see of a runner.
use Rattle.std.specs.Prelude.{ℕ, List, [], Option, Some, None, true, false}
use Rattle.atomic_table.specs.Seated.{TableId}
use Rattle.machine_states.specs.map_history.specs.declared.op.Request.{Request}
use Rattle.machine_states.specs.table_words.specs.declared.layout.Layout.{Layout}
use Rattle.machine_states.specs.epoch_core.specs.declared.stage.Stage.{Stage}
use Rattle.machine_states.specs.epoch_core.specs.declared.stage.Stage.TheVariants as stages
use Rattle.machine_states.specs.runner_parts.specs.declared.entries.Published.{Published}
use Rattle.machine_states.specs.runner_parts.specs.State.{PartState}
use Rattle.machine_states.specs.runner_parts.specs.Lists.{no_reads}
use Rattle.runner_block.specs.Kept.{published_as, only_looked}

-- a runner: its table, its number, what it is at and keeps, and of the keeper the parts of the workers that it joined,
-- the last one first
pub record RunnerState (T : Type 0) : Type 0 where
  pub table : TableId
  pub structure : Option T
  pub layout : Layout
  pub requests : List Request
  pub number : ℕ
  pub part : PartState
  pub joined : List (ℕ × PartState)

-- the epoch of an entered runner
abbrev pub entered_of : Stage → Option ℕ
entered_of (stages.Entered g) = Some g
entered_of _ = None

abbrev pub told_published : Option Published → Option Published
told_published None = None
told_published (Some x) = published_as (Some x.descriptor)

-- of a part, what the runner's code keeps
abbrev pub told_part : PartState → PartState
told_part p = record {
  stage = p.stage;
  run = None;
  published = told_published p.published;
  nodes = p.nodes;
  descriptors = record (p.descriptors) { stored = [] };
  blocks = record { free = []; limbo = [] };
  guards = only_looked p.guards.looked;
  reads = no_reads;
  board = [];
  records = record {
    known = [];
    finished = [];
    events = 0;
    won = 0;
    epoch_seen = 0;
    crossed = false;
    crosses = false;
    left = [];
    splits = p.records.splits;
    joined = [];
    only_loads = false;
    gave_above = true;
  };
  gone = false;
}
