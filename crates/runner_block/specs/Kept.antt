-- What a runner's code keeps of its part.
use Rattle.std.specs.Prelude.{ℕ, List, [], Bool, Option, Some, None, if◌then◌else◌}
use Rattle.machine_states.specs.body_terms.specs.declared.thunk.Thunk.{Thunk}
use Rattle.machine_states.specs.epoch_core.specs.declared.stage.Stage.{Stage}
use Rattle.machine_states.specs.epoch_core.specs.declared.stage.Stage.TheVariants as stages
use Rattle.machine_states.specs.runner_parts.specs.declared.entries.Published.{Published}
use Rattle.machine_states.specs.runner_parts.specs.State.{PartState, NodesState, GuardsState}
use Rattle.machine_states.specs.guard_core.specs.Moves.{is_unnamed}
use Rattle.machine_states.specs.runner_parts.specs.Lists.{without, no_guards, with_looked, blocks_freed, blocks_given_back}
use Rattle.machine_states.specs.runner_steps.specs.AfterOutside.{with_stage}
use Rattle.machine_states.specs.runner_steps.specs.AfterInRun.{kept_unless, retired_if}
use Rattle.runner_block.specs.declared.marks.Mark.{Mark}
use Rattle.runner_block.specs.Links.{BlocksKept, blocks_are, links_over}

-- what a runner's code keeps of its part but its blocks, for how many node slots its lists have room, and of each word
-- of the board a mark of its latest load (`Marks`); its blocks with those of its run (`Links`), and what its guard word
-- names
pub record KeptState : Type 0 where
  pub part : PartState
  pub room : ℕ
  pub marks : List Mark
  pub blocks : BlocksKept
  pub named : Option ℕ

-- another part in the same room
abbrev pub with_part : KeptState → PartState → KeptState
with_part kept p = record kept { part = p }

-- other lists of node slots
abbrev pub with_nodes : KeptState → NodesState → KeptState
with_nodes kept nodes = record kept { part = record (kept.part) { nodes = nodes } }

-- other blocks, and what the guard word names from now on
abbrev pub with_blocks : KeptState → BlocksKept → KeptState
with_blocks kept blocks = record kept { blocks = blocks }

abbrev pub with_named : KeptState → Option ℕ → KeptState
with_named kept named = record kept { named = named }

-- the lists of blocks, where the runner became sure of this descriptor
abbrev pub given_back_if : Bool → ℕ → BlocksKept → BlocksKept
given_back_if won descriptor b = if won then blocks_are b (blocks_given_back descriptor b.lists) else b

-- and where a sweep has read these guard words, the last one or not
abbrev pub freed_if : Bool → List ℕ → BlocksKept → BlocksKept
freed_if last words b = if last then blocks_are b (blocks_freed (is_unnamed words) b.lists) else b

-- other marks
abbrev pub with_marks : KeptState → List Mark → KeptState
with_marks kept marks = record kept { marks = marks }

-- the thunk of a published section isn't kept
abbrev pub no_thunk : Thunk
no_thunk = record { form = 0; request = 0; lock = 0; word = 0; operands = [] }

-- the section that is published with this descriptor, as the code keeps it
abbrev pub published_as : Option ℕ → Option Published
published_as None = None
published_as (Some descriptor) =
    Some (record { descriptor = descriptor; thunk = no_thunk; walked = 0; known = 0 })

-- the epoch that a runner loaded and has to announce
abbrev pub loaded_of : Stage → ℕ
loaded_of (stages.Loaded epoch) = epoch
loaded_of _ = 0

-- the epoch for which a runner scans
abbrev pub scanned_of : Stage → ℕ
scanned_of (stages.Scanning epoch next clear) = epoch
scanned_of _ = 0

-- of what the code keeps, after a section was published with this descriptor
abbrev pub published_in : PartState → ℕ → PartState
published_in p descriptor =
    record p {
      published = published_as (Some descriptor);
      descriptors = record (p.descriptors) { free = without p.descriptors.free descriptor };
    }

-- and after an exchange that was to publish it, which won or lost
abbrev pub held_in : PartState → ℕ → Bool → PartState
held_in p descriptor won = if won then published_in p descriptor else p

-- of what is guarded the part has the guard words that a sweep in progress has read: of what the runner is sure no step
-- asks the code
abbrev pub only_looked : List ℕ → GuardsState
only_looked words = with_looked no_guards words

-- of what the code keeps, after the runner entered with this epoch: a sweep in progress counts for nothing
abbrev pub entered_in : PartState → ℕ → PartState
entered_in p epoch =
    record (with_stage p (stages.Entered epoch)) { guards = with_looked p.guards [] }

-- of what the code keeps, after a run of this descriptor came to its end: where it is that of the own section, the
-- descriptor goes into limbo
abbrev pub over_in : PartState → ℕ → PartState
over_in p descriptor =
    record p {
      published = kept_unless p.published descriptor;
      descriptors = retired_if p.descriptors p.published descriptor;
    }

-- what the code keeps, after a run of this descriptor came to its end, and its blocks went into limbo
abbrev pub run_ended : KeptState → ℕ → KeptState
run_ended kept descriptor =
    with_blocks (with_part kept (over_in kept.part descriptor)) (links_over kept.blocks descriptor)
