-- What the joined states supply to the two components: premises of their events.
use Rattle.std.specs.Prelude.{ℕ, suc, ◌<◌, ◌^◌, ◌≡◌, true, false, []}
use Rattle.agreement_core.specs.map_history.specs.declared.op.Op.{Op}
use Rattle.agreement_core.specs.body_terms.specs.Line.{line, micro_at, committed}
use Rattle.agreement_core.specs.body_terms.specs.Word.{is_free, is_spent}
use Rattle.agreement_core.specs.body_terms.specs.declared.micro.Source.{Source}
use Rattle.agreement_core.specs.body_terms.specs.declared.micro.Source.TheVariants.{Fixed}
use Rattle.agreement_core.specs.body_terms.specs.declared.micro.Micro.TheVariants as micros
use Rattle.agreement_core.specs.body_terms.specs.declared.thunk.Thunk.{Thunk}
use Rattle.agreement_core.specs.table_words.specs.declared.layout.Layout.{Layout}
use Rattle.agreement_core.specs.section_lines.specs.structure_laws.specs.Meaning.{Meaning}
use Rattle.agreement_core.specs.section_lines.specs.structure_laws.specs.Sections.{IsAllowed}
use Rattle.agreement_core.specs.section_lines.specs.structure_laws.specs.Cells.{cell_of, slots, IsLoadable}
use Rattle.agreement_core.specs.State.{IsOpen}
use Rattle.agreement_core.specs.Events.{HasCome, IsBefore, IsAlone, IsPublishable}
use Rattle.epoch_core.specs.declared.location.Location.TheVariants.{Live, Hand}
use Rattle.epoch_core.specs.State.{Counts, is_entered, IsPending, MayHold}
use Rattle.machine_scenes.specs.Shown.{States, rules_of}
use Rattle.machine_scenes.specs.Steps.{descriptor_of, HasWord, MeetsBy}
use Rattle.machine_scenes.specs.Kept.{IsKept}

-- the slot that a section is about to retire is a node slot; as long as nothing is agreed there it is live,
-- and no other Retire for which an epoch is loaded names it
pub record IsRetirable (c : Counts) (j : States) (d log t : ℕ) : Type 0 where
  pub node : t < c.nodes
  pub live : j.epochs.log d log ≡ 0 → j.epochs.location t ≡ Live
  pub once : j.epochs.log d log ≡ 0 → (r : ℕ) → IsPending j.epochs r → (j.epochs.retire r).slot ≡ t
      → ((j.epochs.retire r).descriptor ≡ d) × ((j.epochs.retire r).index ≡ log)

module _ (m : Meaning) (layout : Layout) (c : Counts) where
  -- to agreement
  pub record SuppliesAgreement (j : States) : Type 0 where
    -- a run at the edge that loads a cell is of the one open section that has come to it
    pub alone : (r place log : ℕ) → IsBefore j.agreement r (micros.LoadCell place log)
        → (j.agreement.run r).at ≡ (j.agreement.section (descriptor_of j r)).edge
        → IsAlone j.agreement (descriptor_of j r) place
    -- no open section has come to a cell of a slot in a hand
    pub apart : (r t cell : ℕ) → j.epochs.location t ≡ Hand r → cell < 5 → (d : ℕ) → IsOpen j.agreement d
        → HasCome (j.agreement.section d) (cell_of m t cell) → ⊥
    -- a Make's store to a lock of its slot is of 0
    pub unlocked : (r cell log t : ℕ) (value : Source) → IsBefore j.agreement r (micros.PrivateStore cell log value)
        → m.is_lock (cell_of m t cell) ≡ true
        → value ≡ Fixed 0
    -- a section whose thunk fits what an entered runner has read may be published
    pub publishable : (r d : ℕ) (op : Op) (thunk : Thunk) → is_entered (j.epochs.stage r) ≡ true → IsAllowed op
        → m.fits layout op (j.walk r) thunk ≡ true
        → is_free thunk.word ≡ true → is_spent layout.version_max thunk.word ≡ false → suc d < 2 ^ 32
        → IsPublishable (rules_of m layout) d thunk.lock thunk.word (λ i. micro_at (line (m.body thunk)) i)
        (λ i. committed (line (m.body thunk)) i)

  -- to epochs and slots
  pub record SuppliesEpochs (j : States) : Type 0 where
    -- without a reading nothing is reached
    pub unread : (t : ℕ) → m.reaches [] t ≡ false
    -- what an entered runner's readings reach, it holds
    pub reached : (r t : ℕ) → is_entered (j.epochs.stage r) ≡ true → t < c.nodes
        → m.reaches (j.walk r) t ≡ true → j.epochs.holds r t ≡ true
    -- what it meets at a place that it may load, it may hold
    pub met : (r place t : ℕ) → is_entered (j.epochs.stage r) ≡ true → IsLoadable m (j.walk r) place → t < c.nodes
        → MeetsBy m layout c j place t → MayHold j.epochs r t
    -- before a Retire's load of the epoch
    pub retirable : (r t log : ℕ) → IsBefore j.agreement r (micros.EpochForRetire t log)
        → HasWord j (descriptor_of j r) log
        → IsRetirable c j (descriptor_of j r) log t

-- states that meet the invariant supply both
abbrev pub KeptSupplies : Meaning → Layout → Type 0
KeptSupplies m layout = (c : Counts) → c.nodes ≡ slots m layout → (j : States) → IsKept m layout c j
    → SuppliesAgreement m layout c j
    × SuppliesEpochs m layout c j
