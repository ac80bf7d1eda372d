-- What runners have read behind a free lock stands as long as the lock does.
use Rattle.std.specs.Prelude.{ℕ, ◌≡◌, true}
use Rattle.agreement_core.specs.table_words.specs.declared.layout.Layout.{Layout}
use Rattle.agreement_core.specs.section_lines.specs.structure_laws.specs.Meaning.{Meaning}
use Rattle.agreement_core.specs.section_lines.specs.structure_laws.specs.Cells.{slots}
use Rattle.epoch_core.specs.declared.location.Location.{Location}
use Rattle.epoch_core.specs.State.{Counts, is_entered}
use Rattle.read_answers.specs.Looks.{ReadsStand}
use Rattle.machine_scenes.specs.Shown.{Publications, States}
use Rattle.machine_scenes.specs.Steps.{Step, Enabled, after}
use Rattle.machine_scenes.specs.Kept.{IsKept}
use Rattle.machine_scenes.specs.Schedules.{first_states}

module _ (m : Meaning) where
  -- where an entered runner has read a lock's free word, and behind it a place that this lock guards, the place holds
  -- what was read as long as the lock holds that word
  abbrev pub WalksStand : States → Type 0
  WalksStand j = (r : ℕ) → is_entered (j.epochs.stage r) ≡ true → ReadsStand m j.agreement.shared.cells (j.walk r)

  -- nobody has read anything at first
  abbrev pub WalksBegin : Type 0
  WalksBegin = (location : ℕ → Location) (p : Publications) → WalksStand (first_states m location p)

module _ (m : Meaning) (layout : Layout) where
  -- each step keeps it
  abbrev pub StepsKeepWalks : Type 0
  StepsKeepWalks = (c : Counts) → c.nodes ≡ slots m layout → (j : States) (step : Step) → IsKept m layout c j
      → Enabled m layout c j step → WalksStand m j → WalksStand m (after m layout c j step)
