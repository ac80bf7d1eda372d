-- What becomes of a runner's blocks at an event, which found this word.
use Rattle.std.specs.Prelude.{ℕ, ◌-◌, ◌==◌, [], ◌∷◌, ◌++◌, Option, Some, None, if◌then◌else◌}
use Rattle.runner_parts.specs.structure_laws.specs.body_terms.specs.declared.micro.Micro.{Micro}
use Rattle.runner_parts.specs.structure_laws.specs.body_terms.specs.Line.{is_end}
use Rattle.runner_parts.specs.block_words.specs.table_words.specs.declared.layout.Layout.{Layout}
use Rattle.runner_parts.specs.structure_laws.specs.Meaning.{Meaning}
use Rattle.runner_parts.specs.guard_core.specs.Moves.{is_unnamed}
use Rattle.runner_parts.specs.declared.event.EventKind.{EventKind}
use Rattle.runner_parts.specs.declared.event.EventKind.TheVariants as kinds
use Rattle.runner_parts.specs.State.{RunState, BlocksState, PartState}
use Rattle.runner_parts.specs.Lists.{block_taken, block_back, blocks_retired, blocks_freed, blocks_given_back, blocks_seen}
use Rattle.runner_steps.specs.Sections.{is_open_run, next_of, needs_link}
use Rattle.runner_steps.specs.Outside.{blocks_from}
use Rattle.runner_steps.specs.Guards.{is_last_guard}
use Rattle.runner_steps.specs.AfterInRun.{ended_more}

-- outside a run: where the runner becomes sure of a descriptor, what lies in limbo under it is free; and so is, after a
-- sweep, what lies under a descriptor that none of the words names which the sweep read
abbrev pub blocks_outside : Meaning → Layout → EventKind → PartState → ℕ → BlocksState
blocks_outside m l (kinds.LoadCell (Some place)) p found = blocks_seen p.guards (m.is_lock place) found p.blocks
blocks_outside m l (kinds.Hold thunk d) p found =
    if found == thunk.word then blocks_given_back d p.blocks else p.blocks
blocks_outside m l (kinds.LoadGuard n) p found =
    if is_last_guard l p.guards.looked
    then blocks_freed (is_unnamed (p.guards.looked ++ found ∷ [])) p.blocks
    else p.blocks
blocks_outside m l _ p found = p.blocks

-- the block that a run empties leaves the free list at its first word
abbrev pub block_in_hand : BlocksState → ℕ → Option ℕ → BlocksState
block_in_hand b block None = block_taken b block
block_in_hand b block (Some c) = b

-- in a run that stands before this step: a block whose link was lost comes back, and at the run's end those that it
-- linked go into limbo under its descriptor
abbrev pub blocks_in_line : Meaning → Layout → EventKind → BlocksState → RunState → Micro → ℕ → BlocksState
blocks_in_line m l (kinds.PrivateStore slot word number) b q micro found =
    if needs_link q micro then block_in_hand b (slot - blocks_from m l) q.block else b
blocks_in_line m l (kinds.LinkCommit block) b q micro found = if found == 0 then b else block_back b block
blocks_in_line m l kinds.Release b q micro found =
    if is_end (next_of m (ended_more q)) then blocks_retired b q.won q.descriptor else b
blocks_in_line m l _ b q micro found = b

abbrev pub blocks_in_run : Meaning → Layout → EventKind → BlocksState → RunState → ℕ → BlocksState
blocks_in_run m l kind b q found = if is_open_run q then blocks_in_line m l kind b q (next_of m q) found else b

-- with this run, or with none
abbrev pub blocks_after : Meaning → Layout → EventKind → PartState → Option RunState → ℕ → BlocksState
blocks_after m l kind p None found = blocks_outside m l kind p found
blocks_after m l kind p (Some q) found = blocks_in_run m l kind p.blocks q found
