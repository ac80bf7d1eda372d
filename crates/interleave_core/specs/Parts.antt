-- The slots of a runner, and those on the board.
use Rattle.std.specs.Prelude.{ℕ, zero, suc, Bool, false, List, ◌||◌, ◌==◌, ◌+◌}
use Rattle.std.specs.List.{list_any}
use Rattle.machine_states.specs.table_words.specs.declared.sizes.Sizes.{Sizes}
use Rattle.machine_states.specs.table_words.specs.declared.spot.Spot.TheVariants.{Board}
use Rattle.machine_states.specs.table_words.specs.Seen.{seen}
use Rattle.machine_states.specs.runner_parts.specs.State.{NodesState, PartState}
use Rattle.machine_states.specs.runner_parts.specs.Tests.{has}

-- the slot is in one of these lists
abbrev pub is_listed : NodesState → ℕ → Bool
is_listed n slot = has n.free slot || (has n.hand slot || (has n.worn slot || list_any (λ x. x.slot == slot) n.limbo))

-- the slot is in one of the runner's lists
abbrev pub owns : PartState → ℕ → Bool
owns p slot = is_listed p.nodes slot

-- one of the board's first words, so many, names the slot
abbrev pub is_on_board : Sizes → List ℕ → ℕ → ℕ → Bool
is_on_board sizes words slot zero = false
is_on_board sizes words slot (suc n) = is_on_board sizes words slot n || (seen sizes words (Board n) == slot + 1)
