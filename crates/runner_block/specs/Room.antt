-- A runner's lists as its code keeps them, with reserved room.
use Rattle.std.specs.Prelude.{◌≡◌, ℕ, ◌<◌, ◌≤◌, ◌^◌, List, [], ◌∷◌, ◌++◌, true, false, ◌==◌, not, Option, Some, None, if◌then◌else◌}
use Rattle.std.specs.List.{filter, list_any}
use Rattle.machine_states.specs.runner_parts.specs.declared.entries.Tested.{Tested}
use Rattle.machine_states.specs.runner_parts.specs.State.{NodesState}
use Rattle.machine_states.specs.runner_parts.specs.Tests.{has}
use Rattle.machine_states.specs.runner_parts.specs.Lists.{without, slots_of, entry_count}
use Rattle.machine_states.specs.guard_core.specs.Moves.{is_unnamed}

-- the lists of own node slots, and for how many slots each has room
pub record NodesKept : Type 0 where
  pub lists : NodesState
  pub room : ℕ

-- the lists of own descriptors, and the one with which a section is published that wasn't run to its end yet
pub record DescriptorsKept : Type 0 where
  pub free : List ℕ
  pub limbo : List ℕ
  pub published : Option ℕ

-- no slot is tested twice, and each is below this number
abbrev pub AreTested : ℕ → List Tested → Type 0
AreTested room [] = Unit {0}
AreTested room (x ∷ xs) = (x.slot < room) × (list_any (λ y. y.slot == x.slot) xs ≡ false) × AreTested room xs

-- each of these slots is below this number
pub record AreBelow (room : ℕ) (slots : List ℕ) : Type 0 where
  pub below : (x : ℕ) → has slots x ≡ true → x < room

-- the lists of node slots have together no more entries than this, and the slots in limbo are below it
pub record AreFew (room : ℕ) (n : NodesState) : Type 0 where
  pub few : entry_count n ≤ room
  pub limbo : AreBelow room (slots_of n.limbo)

-- what the lists of own node slots hold together fits the room of each
pub record NodesFit (room filled free hand tests limbo worn : ℕ) (n : NodesState) : Type 0 where
  pub fits : filled ≤ room
  pub few : room < 2 ^ 32
  pub free_room : free ≡ room
  pub hand_room : hand ≡ room
  pub tests_room : tests ≡ room
  pub limbo_room : limbo ≡ room
  pub worn_room : worn ≡ room
  pub tested_once : AreTested room n.tests
  pub free_below : AreBelow room n.free
  pub hand_below : AreBelow room n.hand
  pub limbo_below : AreBelow room (slots_of n.limbo)

-- a published descriptor will come into limbo
abbrev pub owed : Option ℕ → ℕ
owed None = 0
owed (Some descriptor) = 1

-- what the lists of own descriptors hold together, and what is owed to them, fits the room of each
pub record DescriptorsFit (filled free limbo : ℕ) : Type 0 where
  pub fits : filled ≤ free
  pub few : free < 2 ^ 32
  pub same_room : limbo ≡ free

-- other lists in the same room
abbrev pub nodes_are : NodesKept → NodesState → NodesKept
nodes_are kept lists = record kept { lists = lists }

abbrev pub first_nodes : List ℕ → ℕ → NodesKept
first_nodes free room =
    record { lists = record { free = free; hand = []; tests = []; limbo = []; worn = [] }; room = room }

abbrev pub first_descriptors : List ℕ → DescriptorsKept
first_descriptors free = record { free = free; limbo = []; published = None }

-- at the end of a sweep that read these guard words, the descriptors that none of them names are free
abbrev pub sections_swept : List ℕ → DescriptorsKept → DescriptorsKept
sections_swept words d =
    record d {
      free = d.free ++ filter (is_unnamed words) d.limbo;
      limbo = filter (λ x. not (is_unnamed words x)) d.limbo;
    }

-- a section was published with this descriptor
abbrev pub section_held : DescriptorsKept → ℕ → DescriptorsKept
section_held d descriptor = record d { free = without d.free descriptor; published = Some descriptor }

-- a run of this descriptor came to its end: where it is that of the published section, it goes into limbo
abbrev pub retired_own : DescriptorsKept → Option ℕ → ℕ → DescriptorsKept
retired_own d None descriptor = d
retired_own d (Some own) descriptor =
    if own == descriptor then record d { limbo = d.limbo ++ descriptor ∷ []; published = None } else d

abbrev pub section_over : DescriptorsKept → ℕ → DescriptorsKept
section_over d descriptor = retired_own d d.published descriptor

-- a sweep reads no more guard words: those of at most 16 workers and of the keeper
abbrev pub most_guards : ℕ
most_guards = 17
