-- What stands in slots that are in hands or free, and who holds the slots in which locks stand.
use Rattle.std.specs.Prelude.{ℕ, ◌<◌, ◌≤◌, ◌≡◌, ◌≢◌, ◌⊎◌, true, Option, None, Some}
use Rattle.agreement_core.specs.body_terms.specs.Word.{value_of}
use Rattle.agreement_core.specs.body_terms.specs.Update.{upd}
use Rattle.agreement_core.specs.body_terms.specs.declared.micro.Source.{Source}
use Rattle.agreement_core.specs.body_terms.specs.declared.micro.Micro.TheVariants as micros
use Rattle.agreement_core.specs.section_lines.specs.structure_laws.specs.Scene.{Free}
use Rattle.agreement_core.specs.section_lines.specs.structure_laws.specs.Meaning.{Meaning}
use Rattle.agreement_core.specs.section_lines.specs.structure_laws.specs.Cells.{cell_of}
use Rattle.agreement_core.specs.State.{Section, section_of}
use Rattle.agreement_core.specs.Events as agreement
use Rattle.agreement_core.specs.Checks.{source_in}
use Rattle.epoch_core.specs.declared.location.Location.TheVariants.{Hand}
use Rattle.epoch_core.specs.State.{Counts, is_entered}
use Rattle.machine_scenes.specs.Shown.{States, status_of}
use Rattle.machine_scenes.specs.Steps.{Step, Agreement, Leave, Fill, Make}

-- a lock of the section: the outer one, or one that its line takes
abbrev pub IsLockOf : Section → ℕ → Type 0
IsLockOf x place = (place ≡ x.lock) ⊎ ((i : ℕ) × (word : ℕ) × (x.code i ≡ micros.NestedHold place word))

-- by runner: the slot that its Make fills, if it is in one
abbrev pub Made : Type 0
Made = ℕ → Option ℕ

-- the publisher of a section that isn't retired doesn't leave
abbrev pub IsHeldBack : States → Step → Type 0
IsHeldBack j (Leave r) = (d : ℕ) → j.agreement.live d ≡ true → j.publications.runner d ≢ r
IsHeldBack j _ = Unit {0}

-- the step is no store into this cell of this slot
abbrev pub IsNoFill : Step → ℕ → ℕ → Type 0
IsNoFill (Fill r cell log value slot word) t i = slot ≡ t → cell ≡ i → ⊥
IsNoFill _ t i = Unit {0}

module _ (m : Meaning) (c : Counts) where
  -- the publisher of a section that isn't retired is entered, and holds the node slots in which the
  -- section's locks stand
  pub record LocksAreHeld (j : States) : Type 0 where
    pub entered : (d : ℕ) → j.agreement.live d ≡ true → is_entered (j.epochs.stage (j.publications.runner d)) ≡ true
    pub held : (d t i : ℕ) → j.agreement.live d ≡ true → i < 5 → t < c.nodes → m.fixed_slots ≤ t
        → IsLockOf (j.agreement.section d) (cell_of m t i) → j.epochs.holds (j.publications.runner d) t ≡ true

  -- a lock in a slot that is in a hand or free is free
  abbrev pub LocksAreFree : States → Type 0
  LocksAreFree j = (t i : ℕ) → t < c.nodes → i < 5 → status_of c j.epochs.location t ≡ Free
      → m.is_lock (cell_of m t i) ≡ true
      → value_of (j.agreement.shared.cells (cell_of m t i)) ≡ 0

  -- the slots that Makes fill are in their runners' hands
  pub record AreInHand (j : States) (made : Made) : Type 0 where
    pub node : (r t : ℕ) → (j.agreement.run r).running ≡ true → made r ≡ Some t → t < c.nodes
    pub here : (r t : ℕ) → (j.agreement.run r).running ≡ true → made r ≡ Some t → j.epochs.location t ≡ Hand r

  -- each cell that a Make in progress has stored to holds what was stored, and one that it has loaded to
  -- store to next holds the loaded word
  pub record SlotsAreFilled (j : States) (made : Made) : Type 0 where
    pub filled : (r i cell log : ℕ) (value : Source) → (j.agreement.run r).running ≡ true → i < (j.agreement.run r).at
        → (section_of j.agreement r).code i ≡ micros.PrivateStore cell log value → log ≡ (j.agreement.run r).count
        → (t : ℕ) × (made r ≡ Some t)
        × (value_of (j.agreement.shared.cells (cell_of m t cell)) ≡ source_in ((j.agreement.run r).trail) value)
    pub looked : (r cell log : ℕ) (value : Source)
        → agreement.IsBefore j.agreement r (micros.PrivateStore cell log value)
        → (t : ℕ) × (made r ≡ Some t) × ((j.agreement.run r).word ≡ j.agreement.shared.cells (cell_of m t cell))

  -- a private load in a run is of a cell of the slot that its Make fills, which is its first one or the one
  -- that it fills already
  pub record LooksAt (j : States) (made made' : Made) (r cell place : ℕ) : Type 0 where
    pub slot : ℕ
    pub node : slot < c.nodes
    pub low : cell < 5
    pub place_is : place ≡ cell_of m slot cell
    pub in_hand : j.epochs.location slot ≡ Hand r
    pub before : (made r ≡ None) ⊎ (made r ≡ Some slot)
    pub after : (i : ℕ) → made' i ≡ upd made r (Some slot) i

  -- which slots Makes fill before and after a step
  abbrev pub MadeGoes : States → Step → Made → Made → Type 0
  MadeGoes j (Agreement (agreement.PrivateLoad r cell log place)) made made' = LooksAt j made made' r cell place
  MadeGoes j (Fill r cell log value t word) made made' = (made r ≡ Some t)
      × (value_of word ≡ source_in ((j.agreement.run r).trail) value)
      × ((i : ℕ) → made' i ≡ made i)
  MadeGoes j (Make r log t worn) made made' = (i : ℕ) → i ≢ r → made' i ≡ made i
  MadeGoes j _ made made' = (i : ℕ) → made' i ≡ made i
