-- Which word an event of guards meets, and how, and the part after it.
use Rattle.std.specs.Prelude.{ℕ, List, [], ◌∷◌, ◌++◌, Bool, true, ◌==◌, ◌&&◌, nat_lt, nat_le, length, Option, Some, None, is_none, if◌then◌else◌}
use Rattle.runner_parts.specs.block_words.specs.table_words.specs.declared.layout.Layout.{Layout}
use Rattle.runner_parts.specs.block_words.specs.table_words.specs.declared.spot.Spot.TheVariants as spots
use Rattle.runner_parts.specs.block_words.specs.table_words.specs.declared.access.Access.TheVariants.{Loads, Stores}
use Rattle.runner_parts.specs.block_words.specs.table_words.specs.Places.{descriptor_count}
use Rattle.runner_parts.specs.epoch_core.specs.declared.stage.Stage.{Stage}
use Rattle.runner_parts.specs.epoch_core.specs.declared.stage.Stage.TheVariants as stages
use Rattle.runner_parts.specs.guard_core.specs.State.{word_of}
use Rattle.runner_parts.specs.State.{PartState}
use Rattle.runner_parts.specs.Lists.{descriptors_swept, guard_moved, with_looked}
use Rattle.runner_parts.specs.Tests.{is_walking}
use Rattle.runner_steps.specs.Outside.{Ask, when}

-- it names nothing, or a descriptor that the table has
abbrev pub is_numbered : Layout → Option ℕ → Bool
is_numbered l None = true
is_numbered l (Some d) = nat_lt d (descriptor_count l)

-- the own guard word moves where the runner is entered, in no run, and has no published section
abbrev pub guard_ask : Layout → ℕ → Option ℕ → PartState → Ask
guard_ask l r d p =
    when (is_walking p.stage p.run && (is_none p.published && is_numbered l d)) (spots.Guard r) (Stores (word_of d))

-- where the runner is idle: the next guard word of its sweep, the keeper's last
abbrev pub load_guard_by : Layout → ℕ → ℕ → Stage → Ask
load_guard_by l n looked stages.Idle = when (n == looked && nat_le n l.runners) (spots.Guard n) Loads
load_guard_by l n looked _ = None

abbrev pub load_guard_ask : Layout → ℕ → PartState → Ask
load_guard_ask l n p = load_guard_by l n (length p.guards.looked) p.stage

abbrev pub guard_after : Option ℕ → PartState → PartState
guard_after d p = record p { guards = guard_moved p.guards d }

-- this guard word is the last one of a sweep that has read so many
abbrev pub is_last_guard : Layout → List ℕ → Bool
is_last_guard l looked = length looked == l.runners

-- the sweep goes on to the next guard word. After the last one it is over, and the retired descriptors that none of its
-- words names are free
abbrev pub load_guard_after : Layout → PartState → ℕ → PartState
load_guard_after l p found =
    let last = is_last_guard l p.guards.looked in
    let words = p.guards.looked ++ found ∷ [] in
    record p {
      descriptors = (if last then descriptors_swept words p.descriptors else p.descriptors);
      guards = with_looked p.guards (if last then [] else words);
    }
