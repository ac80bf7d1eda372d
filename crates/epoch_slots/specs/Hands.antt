-- How far the slots in a runner's hand are looked at and given back.
use Rattle.std.specs.Prelude.{◌≡◌, ℕ, ◌<◌, ◌≤◌, List, [], ◌∷◌, ◌++◌, Bool, true, ◌==◌, take, drop, length, None, if◌then◌else◌}
use Rattle.std.specs.List.{list_any}
use Rattle.machine_states.specs.body_terms.specs.Word.{version_of}
use Rattle.machine_states.specs.table_words.specs.Places.{slot_count}
use Rattle.machine_states.specs.structure_laws.specs.Meaning.{Meaning}
use Rattle.machine_states.specs.epoch_core.specs.declared.stage.Stage.TheVariants as stages
use Rattle.machine_states.specs.runner_parts.specs.State.{NodesState}
use Rattle.machine_states.specs.runner_parts.specs.Tests.{has}
use Rattle.machine_states.specs.runner_parts.specs.Lists.{slot_back}
use Rattle.machine_states.specs.epoch_core.specs.Lists.{times}
use Rattle.version_words.specs.RunnerState.{RunnerState}
use Rattle.version_words.specs.Stages.{IsAt}
use Rattle.epoch_slots.specs.Collects.{unworn, worn_out, Looks, AreTested}

-- the own node slots once so many cells of a slot in the hand were looked at
abbrev pub looked : NodesState → ℕ → ℕ → Bool → NodesState
looked n slot cell worn = if cell == 0 then n
    else (if cell == 5 then slot_back n slot worn else record n
    { tests = record { slot = slot; cells = cell; worn = worn } ∷ [] })

-- the own node slots once the first slots of the hand came back, and these are still in it
abbrev pub given_back : NodesState → List ℕ → List ℕ → List Bool → NodesState
given_back n done rest wears =
    record n { free = n.free ++ unworn done wears; hand = rest; worn = n.worn ++ worn_out done wears }

module _ {T : Type 0} where
  -- what stays while node slots are looked at
  pub record KeepsRest (old new : RunnerState T) : Type 0 where
    pub number : new.number ≡ old.number
    pub layout : new.layout ≡ old.layout
    pub descriptors : new.part.descriptors ≡ old.part.descriptors
    pub guards : new.part.guards ≡ old.part.guards
    pub known : new.part.records.known ≡ old.part.records.known
    pub finished : new.part.records.finished ≡ old.part.records.finished

  module _ (m : Meaning) where
    -- so many cells of the slot were looked at
    pub record IsLookedAt (slot cell : ℕ) (old new : RunnerState T) : Type 0 where
      pub words : List ℕ
      pub count : length words ≡ cell
      pub looks : Looks m slot 0 words old new
      pub nodes : new.part.nodes ≡ looked old.part.nodes slot cell
          (list_any (λ word. version_of word == old.layout.version_max) words)
      pub at : IsAt new stages.Idle None
      pub rest : KeepsRest old new

    -- the slots in the hand are node slots of the table, each once
    pub record HandIsOwn (r : RunnerState T) : Type 0 where
      pub once : (t : ℕ) → times t r.part.nodes.hand ≤ 1
      pub within : (t : ℕ) → has r.part.nodes.hand t ≡ true → t < slot_count r.layout m.fixed_slots

    -- so many slots of the hand were looked at and came back
    pub record IsBack (count : ℕ) (old new : RunnerState T) : Type 0 where
      pub wears : List Bool
      pub each : length wears ≡ count
      pub tested : AreTested m (take count old.part.nodes.hand) wears old new
      pub nodes : new.part.nodes ≡ given_back old.part.nodes (take count old.part.nodes.hand)
          (drop count old.part.nodes.hand) wears
      pub at : IsAt new stages.Idle None
      pub rest : KeepsRest old new
