-- Which word an event on the board meets, and how; the part after it, and a runner's loads of the board.
use Rattle.std.specs.Prelude.{ℕ, ◌+◌, ◌-◌, Bool, false, not, ◌==◌, ◌&&◌, nat_lt, nat_le, List, [], ◌∷◌, length, Option, Some, None, if◌then◌else◌}
use Rattle.runner_parts.specs.structure_laws.specs.body_terms.specs.Word.{value_of}
use Rattle.runner_parts.specs.block_words.specs.table_words.specs.declared.layout.Layout.{Layout}
use Rattle.runner_parts.specs.block_words.specs.table_words.specs.declared.spot.Spot.TheVariants as spots
use Rattle.runner_parts.specs.block_words.specs.table_words.specs.declared.access.Access.TheVariants.{Loads, Exchanges}
use Rattle.runner_parts.specs.epoch_core.specs.declared.stage.Stage.{Stage}
use Rattle.runner_parts.specs.epoch_core.specs.declared.stage.Stage.TheVariants as stages
use Rattle.runner_parts.specs.declared.entries.BoardRead.{BoardRead}
use Rattle.runner_parts.specs.declared.event.EventKind.{EventKind}
use Rattle.runner_parts.specs.declared.event.EventKind.TheVariants as kinds
use Rattle.runner_parts.specs.State.{NodesState, PartState}
use Rattle.runner_parts.specs.Lists.{slot_given, slot_drawn, board_read, board_tried}
use Rattle.runner_parts.specs.Tests.{has, is_some_of}
use Rattle.runner_steps.specs.Outside.{Ask, when}

-- a worker that is idle may use the board; the keeper doesn't
abbrev pub may_use : Layout → ℕ → Stage → Bool
may_use l r stages.Idle = nat_lt r l.runners
may_use l r _ = false

-- what the runner read in this word of the board when it loaded it last, if it did; the latest load stands first
abbrev pub last_read : List BoardRead → ℕ → Option ℕ
last_read [] word = None
last_read (x ∷ xs) word = if x.word == word then Some x.read else last_read xs word

abbrev pub board_load_ask : Layout → ℕ → ℕ → PartState → Ask
board_load_ask l r word p = when (may_use l r p.stage) (spots.Board word) Loads

-- the link is the one that the runner read there last
abbrev pub board_take_ask : Layout → ℕ → ℕ → ℕ → PartState → Ask
board_take_ask l r word link p =
    when (may_use l r p.stage && (not (link == 0) && is_some_of (last_read p.board word) link)) (spots.Board word)
    (Exchanges link 0)

-- an own free node slot, by its link
abbrev pub board_give_ask : Layout → ℕ → ℕ → ℕ → PartState → Ask
board_give_ask l r word slot p =
    when (may_use l r p.stage && has p.nodes.free slot) (spots.Board word) (Exchanges 0 (slot + 1))

-- the free node slots are those of the other state where the exchange won
abbrev pub free_if : Bool → NodesState → NodesState → NodesState
free_if won after n = record n { free = (if won then after.free else n.free) }

-- where the exchange won, the slot that the link names is in the own free list
abbrev pub board_take_after : ℕ → PartState → ℕ → PartState
board_take_after link p found =
    record p { nodes = free_if (found == link) (slot_drawn p.nodes (value_of (link - 1))) p.nodes }

-- where it won, the slot has left the own free list
abbrev pub board_give_after : Layout → ℕ → PartState → ℕ → PartState
board_give_after l slot p found = let won = found == 0 in let given = slot_given p.nodes slot in
    let above = p.records.gave_above in
    record p {
      nodes = free_if won given p.nodes;
      records = record (p.records) {
        gave_above = (if won then above && nat_le l.nodes (length given.free) else above);
      };
    }

-- what the runner knows of the board's words: it begins anew when the runner is idle
abbrev pub board_after : EventKind → List BoardRead → ℕ → List BoardRead
board_after kinds.Idle board found = []
board_after (kinds.BoardLoad word) board found = board_read board word found
board_after (kinds.BoardTake word link) board found = board_tried board word (found == link)
board_after (kinds.BoardGive word slot) board found = board_tried board word (found == 0)
board_after _ board found = board
