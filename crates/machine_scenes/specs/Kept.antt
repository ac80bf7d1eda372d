-- The invariant of the joined states.
use Rattle.std.specs.Prelude.{ℕ, ◌<◌, ◌≤◌, ◌≡◌, true}
use Rattle.agreement_core.specs.body_terms.specs.declared.micro.Micro.TheVariants.{RetireCommit}
use Rattle.agreement_core.specs.table_words.specs.declared.layout.Layout.{Layout}
use Rattle.agreement_core.specs.section_lines.specs.structure_laws.specs.Scene.{Retired, Scene}
use Rattle.agreement_core.specs.section_lines.specs.structure_laws.specs.Meaning.{Meaning}
use Rattle.agreement_core.specs.section_lines.specs.structure_laws.specs.Cells.{cell_of, Links}
use Rattle.agreement_core.specs.section_lines.specs.structure_laws.specs.Shape.{Shaped}
use Rattle.agreement_core.specs.section_lines.specs.structure_laws.specs.Lawful.{IsLawful}
use Rattle.agreement_core.specs.State.{AgreementState, IsOpen}
use Rattle.agreement_core.specs.Sound as agreement
use Rattle.epoch_core.specs.declared.location.Location.TheVariants.{Fixed}
use Rattle.epoch_core.specs.State.{Counts, Retiring, entry_of, IsPending}
use Rattle.epoch_core.specs.Sound as epochs
use Rattle.machine_scenes.specs.Shown.{States, AreOfThunks, rules_of, sections_of, scene_of}
use Rattle.machine_scenes.specs.Readers.{HoldMet, HavePublishers}

-- the section of a Retire is open, and its furthest runs stand before the Retire's commit
pub record StandsAt (a : AgreementState) (x : Retiring) : Type 0 where
  pub open_section : IsOpen a x.descriptor
  pub next : (a.section x.descriptor).code ((a.section x.descriptor).edge) ≡ RetireCommit x.slot x.index

-- each retired slot that links this one was retired in this epoch or before
abbrev pub IsLinkedBy : Meaning → Scene → ℕ → ℕ → Type 0
IsLinkedBy m s t y = (u z i : ℕ) → i < 5 → s.status u ≡ Retired z → Links m s (cell_of m u i) t → z ≤ y

-- the commits of Retires that a published section has passed are of slots below this number
abbrev pub RetiresNodes : ℕ → AgreementState → Type 0
RetiresNodes nodes a = (d i t log : ℕ) → a.used d ≡ true → i < (a.section d).edge
    → (a.section d).code i ≡ RetireCommit t log → t < nodes

-- the Retires for which an epoch is loaded
pub record RetiresAreKept (m : Meaning) (c : Counts) (j : States) : Type 0 where
  -- it is no earlier than the entry of the runner that loaded it
  pub recent : (r : ℕ) → (j.epochs.retire r).loaded ≡ true → entry_of (j.epochs.stage r) ≤ (j.epochs.retire r).epoch
  -- and until the Retire is agreed
  pub stands : (r : ℕ) → IsPending j.epochs r → StandsAt j.agreement (j.epochs.retire r)
  pub linked : (r : ℕ) → IsPending j.epochs r
      → IsLinkedBy m (scene_of m c j) (j.epochs.retire r).slot (j.epochs.retire r).epoch

module _ (m : Meaning) (layout : Layout) (c : Counts) where
  -- both components' states are sound, they show a lawful scene, and it is known who holds and publishes what
  pub record IsKept (j : States) : Type 0 where
    pub agreement : agreement.IsSound (rules_of m layout) j.agreement
    pub epochs : epochs.IsSound c j.epochs
    pub thunks : AreOfThunks m j.publications j.agreement
    pub lawful : IsLawful m layout (scene_of m c j)
    pub met : HoldMet m c j.agreement.shared.cells j.epochs j.walk
    pub publishers : HavePublishers j.epochs j.walk j.publications.runner
        (λ d. sections_of m j.publications j.agreement d)
    pub retires : RetiresAreKept m c j
    -- the thunk of a published section has the shape that the laws ask for
    pub shaped : (d : ℕ) → j.agreement.used d ≡ true
        → Shaped m layout (j.publications.readings d) (j.publications.thunk d)
    -- what a published section has retired is a node slot
    pub nodes : RetiresNodes c.nodes j.agreement
    -- only the structure's fixed slots are fixed
    pub fixed : (t : ℕ) → j.epochs.location t ≡ Fixed → t < m.fixed_slots
