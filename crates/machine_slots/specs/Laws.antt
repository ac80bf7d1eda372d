-- What is proved of the slots in hands and of the locks.
use Rattle.std.specs.Prelude.{ℕ, ◌<◌, ◌≡◌, Some}
use Rattle.agreement_core.specs.body_terms.specs.Word.{value_of, version_of, next_word}
use Rattle.agreement_core.specs.body_terms.specs.declared.micro.Source.{Source}
use Rattle.agreement_core.specs.body_terms.specs.declared.micro.Micro.TheVariants as micros
use Rattle.agreement_core.specs.table_words.specs.declared.layout.Layout.{Layout}
use Rattle.agreement_core.specs.section_lines.specs.structure_laws.specs.Scene.{Free}
use Rattle.agreement_core.specs.section_lines.specs.structure_laws.specs.Meaning.{Meaning}
use Rattle.agreement_core.specs.section_lines.specs.structure_laws.specs.Cells.{cell_of, slots}
use Rattle.agreement_core.specs.State.{section_of}
use Rattle.agreement_core.specs.Checks.{source_in}
use Rattle.agreement_core.specs.Events.{IsBefore, IsPrivateStore}
use Rattle.epoch_core.specs.declared.location.Location.{Location}
use Rattle.epoch_core.specs.declared.location.Location.TheVariants.{Hand}
use Rattle.epoch_core.specs.State.{Counts}
use Rattle.machine_scenes.specs.Shown.{Publications, States, rules_of, status_of}
use Rattle.machine_scenes.specs.Steps.{Step, Enabled, after}
use Rattle.machine_scenes.specs.Kept.{IsKept}
use Rattle.machine_scenes.specs.Schedules.{first_states}
use Rattle.machine_slots.specs.Hands.{Made, IsHeldBack, IsNoFill, LocksAreHeld, LocksAreFree, AreInHand, SlotsAreFilled, MadeGoes}

-- the cell of a free slot has the same word after the step
abbrev pub CellStands : (m : Meaning) (layout : Layout) (c : Counts) → States → Step → ℕ → ℕ → Type 0
CellStands m layout c j step t i = t < c.nodes → i < 5 → status_of c j.epochs.location t ≡ Free → IsNoFill step t i
    → (after m layout c j step).agreement.shared.cells (cell_of m t i) ≡ j.agreement.shared.cells (cell_of m t i)

module _ (m : Meaning) (layout : Layout) (c : Counts) where
  -- what a Make's commit and its private stores ask for
  pub record SuppliesStores (j : States) (made : Made) : Type 0 where
    -- before the commit each cell of the slot has the value that the Make's private store there writes
    pub commit : (r log t : ℕ) → IsBefore j.agreement r (micros.MakeCommit log) → made r ≡ Some t
        → (cell at : ℕ) (value : Source) → cell < 5
        → (section_of j.agreement r).code at ≡ micros.PrivateStore cell log value
        → value_of (j.agreement.shared.cells (cell_of m t cell)) ≡ source_in ((j.agreement.run r).trail) value
    -- a store of the word after the one that the run has loaded may come, while that one's version is below
    -- the greatest
    pub store : (r cell log t number : ℕ) (value : Source)
        → IsBefore j.agreement r (micros.PrivateStore cell log value) → made r ≡ Some t
        → j.epochs.location t ≡ Hand r → t < c.nodes
        → number ≡ next_word ((j.agreement.run r).word) (source_in ((j.agreement.run r).trail) value)
        → version_of ((j.agreement.run r).word) < layout.version_max
        → IsPrivateStore (rules_of m layout) j.agreement (cell_of m t cell) number

module _ (m : Meaning) (layout : Layout) where
  -- a step leaves each cell of each free slot as it is, but for a Make's store to that cell
  abbrev pub HandsStand : Type 0
  HandsStand = (c : Counts) → c.nodes ≡ slots m layout → (j : States) → IsKept m layout c j
      → LocksAreHeld m c j → (step : Step)
      → Enabled m layout c j step → (t i : ℕ) → CellStands m layout c j step t i

  -- publishers go on to hold the slots of their sections' locks, as long as none leaves whose section isn't retired
  abbrev pub LocksStayHeld : Type 0
  LocksStayHeld = (c : Counts) → c.nodes ≡ slots m layout → (j : States) → IsKept m layout c j
      → LocksAreHeld m c j → (step : Step)
      → Enabled m layout c j step → IsHeldBack j step → LocksAreHeld m c (after m layout c j step)

  -- and where they hold them, the locks in free slots are free
  abbrev pub FreeSlotsAreUnlocked : Type 0
  FreeSlotsAreUnlocked = (c : Counts) → c.nodes ≡ slots m layout → (j : States) → IsKept m layout c j
      → LocksAreHeld m c j → LocksAreFree m c j

  -- what Makes have stored stands in their slots
  abbrev pub SlotsStayFilled : Type 0
  SlotsStayFilled = (c : Counts) → c.nodes ≡ slots m layout → (j : States) → IsKept m layout c j
      → LocksAreHeld m c j → (made made' : Made)
      → SlotsAreFilled m c j made → AreInHand m c j made → (step : Step) → Enabled m layout c j step
      → MadeGoes m c j step made made'
      → SlotsAreFilled m c (after m layout c j step) made'

  -- so states supply what Makes ask for
  abbrev pub StoresAreSupplied : Type 0
  StoresAreSupplied = (c : Counts) → c.nodes ≡ slots m layout → (j : States) → IsKept m layout c j
      → LocksAreFree m c j → (made : Made)
      → SlotsAreFilled m c j made → SuppliesStores m layout c j made

-- the first states, in which nobody is in a run, meet all of it
pub record FirstHands (m : Meaning) (c : Counts) (j : States) (made : Made) : Type 0 where
  pub held : LocksAreHeld m c j
  pub in_hand : AreInHand m c j made
  pub filled : SlotsAreFilled m c j made

abbrev pub HandsBegin : Meaning → Type 0
HandsBegin m = (c : Counts) (location : ℕ → Location) (p : Publications) (made : Made)
    → FirstHands m c (first_states m location p) made
