-- The first states, and lists of steps.
use Rattle.std.specs.Prelude.{ℕ, ◌<◌, ◌≤◌, ◌≡◌, ◌≢◌, List, [], ◌∷◌}
use Rattle.agreement_core.specs.table_words.specs.declared.layout.Layout.{Layout}
use Rattle.agreement_core.specs.section_lines.specs.structure_laws.specs.Meaning.{Meaning}
use Rattle.agreement_core.specs.section_lines.specs.structure_laws.specs.Cells.{first_word, slots}
use Rattle.agreement_core.specs.Schedules as agreement
use Rattle.epoch_core.specs.declared.location.Location.{Location}
use Rattle.epoch_core.specs.declared.location.Location.TheVariants.{Fixed}
use Rattle.epoch_core.specs.State.{Counts}
use Rattle.epoch_core.specs.Schedules as epochs
use Rattle.machine_scenes.specs.Shown.{Publications, States}
use Rattle.machine_scenes.specs.Steps.{Step, Enabled, after}
use Rattle.machine_scenes.specs.Kept.{IsKept}

-- the first states, with the slots at these places; whatever the publications, nothing is published yet
abbrev pub first_states : Meaning → (ℕ → Location) → Publications → States
first_states m location p = record {
  agreement = agreement.first_state
      (first_word m);
  epochs = epochs.first_state location;
  publications = p;
  walk = λ r. [];
}

-- the structure's fixed slots are fixed, and every other slot is in a free list
pub record IsFirst (m : Meaning) (c : Counts) (location : ℕ → Location) : Type 0 where
  pub epochs : epochs.IsFirst c location
  pub fixed : (t : ℕ) → t < m.fixed_slots → location t ≡ Fixed
  pub unfixed : (t : ℕ) → m.fixed_slots ≤ t → location t ≢ Fixed

module _ (m : Meaning) (layout : Layout) where
  -- the first states meet the invariant
  abbrev pub FirstIsKept : Type 0
  FirstIsKept = (c : Counts) → c.nodes ≡ slots m layout → (location : ℕ → Location) → IsFirst m c location
      → (p : Publications)
      → IsKept m layout c (first_states m location p)

  -- each step keeps it
  abbrev pub StepsKeep : Type 0
  StepsKeep = (c : Counts) → c.nodes ≡ slots m layout → (j : States) (step : Step)
      → Enabled m layout c j step → IsKept m layout c j
      → IsKept m layout c (after m layout c j step)

  module _ (c : Counts) where
    -- each step of the list is enabled in the states to which the steps before it lead
    abbrev pub AllEnabled : States → List Step → Type 0
    AllEnabled j [] = Unit {0}
    AllEnabled j (step ∷ steps) = Enabled m layout c j step × AllEnabled (after m layout c j step) steps

    -- the states after a list of steps
    abbrev pub after_all : States → List Step → States
    after_all j [] = j
    after_all j (step ∷ steps) = after_all (after m layout c j step) steps

  -- so the invariant holds after every list of enabled steps
  abbrev pub SchedulesKeep : Type 0
  SchedulesKeep = (c : Counts) → c.nodes ≡ slots m layout → (location : ℕ → Location) → IsFirst m c location
      → (p : Publications)
      → (steps : List Step)
      → AllEnabled c (first_states m location p) steps
      → IsKept m layout c (after_all c (first_states m location p) steps)
