-- What runners have met in their readings, and who published an open section.
use Rattle.std.specs.Prelude.{ℕ, suc, ◌<◌, ◌≡◌, ◌⊎◌, true, false, Option, Some, slice_get}
use Rattle.agreement_core.specs.body_terms.specs.Word.{value_of}
use Rattle.agreement_core.specs.section_lines.specs.structure_laws.specs.Scene.{Readings}
use Rattle.agreement_core.specs.section_lines.specs.structure_laws.specs.Scene as scenes
use Rattle.agreement_core.specs.section_lines.specs.structure_laws.specs.Meaning.{Meaning}
use Rattle.agreement_core.specs.section_lines.specs.structure_laws.specs.Cells.{IsCellOf}
use Rattle.epoch_core.specs.State.{Counts, EpochState, is_entered}

-- these readings meet this slot: one is of a link to it, or of one of its cells that is no lock
pub record Meets (m : Meaning) (cells : ℕ → ℕ) (readings : Readings) (t : ℕ) : Type 0 where
  pub index : ℕ
  pub place : ℕ
  pub word : ℕ
  pub read : slice_get readings index ≡ Some (place, word)
  pub by : ((m.is_link cells place ≡ true) × (value_of word ≡ suc t)) ⊎ ((m.is_lock place ≡ false) × IsCellOf m t place)

-- each entered runner holds the slots that its readings meet
abbrev pub HoldMet : Meaning → Counts → (ℕ → ℕ) → EpochState → (ℕ → Readings) → Type 0
HoldMet m c cells e walk = (r t : ℕ) → is_entered (e.stage r) ≡ true → t < c.nodes
    → Meets m cells (walk r) t → e.holds r t ≡ true

-- this runner is entered, and its readings begin with these
pub record HasRead (e : EpochState) (walk : ℕ → Readings) (runner : ℕ) (readings : Readings) : Type 0 where
  pub entered : is_entered (e.stage runner) ≡ true
  pub read : (i place word : ℕ) → slice_get readings i ≡ Some (place, word)
      → slice_get (walk runner) i ≡ Some (place, word)

-- the publisher of each open section is still in the entry in which it published it, and has read since then only more
abbrev pub HavePublishers : EpochState → (ℕ → Readings) → (ℕ → ℕ) → (ℕ → Option scenes.Section) → Type 0
HavePublishers e walk runner section = (d : ℕ) (x : scenes.Section) → section d ≡ Some x
    → HasRead e walk (runner d) x.readings
