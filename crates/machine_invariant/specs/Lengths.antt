-- How long a runner's lists of node slots are.
use Rattle.std.specs.Prelude.{ℕ, ◌≤◌, List, length}
use Rattle.machine_states.specs.map_history.specs.declared.op.Request.{Request}
use Rattle.machine_states.specs.table_words.specs.Limits.{IsWithinLimits}
use Rattle.machine_states.specs.table_words.specs.declared.layout.Layout.{Layout}
use Rattle.machine_states.specs.structure_laws.specs.Meaning.{Meaning}
use Rattle.machine_states.specs.runner_parts.specs.Lists.{entry_count}
use Rattle.machine_states.specs.epoch_core.specs.declared.location.Location.{Location}
use Rattle.machine_states.specs.runner_parts.specs.declared.event.Event.{Event}
use Rattle.machine_states.specs.World.{World}
use Rattle.machine_states.specs.Schedules.{IsAfter}
use Rattle.machine_states.specs.Sight.{Sight, sight}
use Rattle.machine_invariant.specs.After.{AreAllowed}
use Rattle.machine_invariant.specs.Slots.{node_count, NodesStand}
use Rattle.machine_invariant.specs.Whole.{Beside, IsWhole}

-- a runner's lists of node slots are no longer than there are node slots, not even all four together
pub record ListsAreShort (m : Meaning) (l : Layout) (s : Sight) : Type 0 where
  pub all : (r : ℕ) → entry_count (s.part r).nodes ≤ node_count m l
  pub hand : (r : ℕ) → length (s.part r).nodes.hand ≤ node_count m l
  pub free : (r : ℕ) → length (s.part r).nodes.free ≤ node_count m l
  pub worn : (r : ℕ) → length (s.part r).nodes.worn ≤ node_count m l
  pub limbo : (r : ℕ) → length (s.part r).nodes.limbo ≤ node_count m l

-- so they are wherever each node slot stands in the list that its location names and these lists have node slots alone
abbrev pub StandingListsAreShort : Meaning → Layout → Type 0
StandingListsAreShort m l = (location : ℕ → Location) (s : Sight) → NodesStand m l location s → ListsAreShort m l s

-- so they are in each state that meets the whole invariant
abbrev pub WholeListsAreShort : Meaning → Layout → Type 0
WholeListsAreShort m l = (g : Beside) (s : Sight) → IsWhole m l g s → ListsAreShort m l s

-- and so in each state that the machine reaches
abbrev pub ShortAfter : Meaning → Layout → List Request → List Event → World → Type 0
ShortAfter m l requests events w = IsWithinLimits l → AreAllowed requests → IsAfter m l requests events w
    → ListsAreShort m l (sight m l requests w)
