-- The steps of the joined states: an event of agreement, one of epochs and slots, or one of both at once.
use Rattle.std.specs.Prelude.{ℕ, suc, ◌<◌, ◌≡◌, ◌≢◌, ◌⊎◌, Bool, true, false, [], ◌∷◌, ◌++◌}
use Rattle.agreement_core.specs.map_history.specs.declared.op.Op.{Op}
use Rattle.agreement_core.specs.body_terms.specs.Update.{upd}
use Rattle.agreement_core.specs.body_terms.specs.Word.{value_of}
use Rattle.agreement_core.specs.body_terms.specs.declared.micro.Source.{Source}
use Rattle.agreement_core.specs.body_terms.specs.declared.micro.Micro.{Micro}
use Rattle.agreement_core.specs.body_terms.specs.declared.micro.Micro.TheVariants as micros
use Rattle.agreement_core.specs.body_terms.specs.declared.thunk.Thunk.{Thunk}
use Rattle.agreement_core.specs.table_words.specs.declared.layout.Layout.{Layout}
use Rattle.agreement_core.specs.section_lines.specs.structure_laws.specs.Meaning.{Meaning}
use Rattle.agreement_core.specs.section_lines.specs.structure_laws.specs.Sections.{IsAllowed}
use Rattle.agreement_core.specs.section_lines.specs.structure_laws.specs.Cells.{cell_of, IsCellOf, IsLoadable}
use Rattle.agreement_core.specs.State.{Section, AgreementState, IsOpen}
use Rattle.agreement_core.specs.State as agreement
use Rattle.agreement_core.specs.Checks.{source_in}
use Rattle.agreement_core.specs.Events as agreement_events
use Rattle.epoch_core.specs.declared.location.Location.TheVariants.{Hand}
use Rattle.epoch_core.specs.State.{Counts, is_entered}
use Rattle.epoch_core.specs.Events as epoch_events
use Rattle.machine_scenes.specs.Shown.{States, IsOfThunk, rules_of, publishes}
use Rattle.machine_scenes.specs.Kinds.{is_plain, is_alone}

-- what happens; `r` is the runner, `d` a descriptor, `t` a node slot, `log` a place in a log
pub data Step : Type 0 where
  -- an event of agreement, or of epochs and slots, that has nothing to do with the other
  Agreement : (e : agreement_events.Event) → Step
  Epochs : (e : epoch_events.Event) → Step
  -- a runner enters, reads a place outside a run, and leaves
  Enter : (r : ℕ) → Step
  Read : (r place : ℕ) → Step
  Leave : (r : ℕ) → Step
  -- it publishes a section; its run stores a word into a cell of the slot in its hand, commits that slot,
  -- loads the epoch for a Retire, commits that
  Publish : (r d lock word request : ℕ) (code : ℕ → Micro) (slot : ℕ → ℕ) (op : Op) (thunk : Thunk) → Step
  Fill : (r cell log : ℕ) (value : Source) (t word : ℕ) → Step
  Make : (r log t : ℕ) (worn : Bool) → Step
  LoadEpoch : (r log t : ℕ) → Step
  Retire : (r log t : ℕ) → Step

-- the descriptor of a runner's run
abbrev pub descriptor_of : States → ℕ → ℕ
descriptor_of j r = (j.agreement.run r).descriptor

-- the section that a publication leaves
abbrev pub published : AgreementState → ℕ → ℕ → ℕ → ℕ → (ℕ → Micro) → (ℕ → ℕ) → Section
published a d lock word request code slot = record
    (a.section d) { lock = lock; word = word; request = request; code = code; slot = slot; log = λ k. 0; edge = 0 }

-- the component of epochs has the word that agreement has in this log
abbrev pub HasWord : States → ℕ → ℕ → Type 0
HasWord j d log = j.epochs.log d log ≡ (j.agreement.section d).log log

module _ (m : Meaning) (layout : Layout) (c : Counts) where
  -- the states after a step
  abbrev pub after : States → Step → States
  after j (Agreement e) = record j { agreement = agreement_events.after j.agreement e }
  after j (Epochs e) = record j { epochs = epoch_events.after c j.epochs e }
  after j (Enter r) =
      record j { epochs = epoch_events.after c j.epochs (epoch_events.EnterAgain r); walk = upd j.walk r [] }
  after j (Read r place) = record j { walk = upd j.walk r (j.walk r ++ (place, j.agreement.shared.cells place) ∷ []) }
  after j (Leave r) = record j { epochs = epoch_events.after c j.epochs (epoch_events.Exit r) }
  after j (Publish r d lock word request code slot op thunk) = record j {
    agreement = agreement_events.after j.agreement (agreement_events.Publish d lock word request code slot);
    publications = publishes j.publications d r op thunk (j.walk r);
  }
  after j (Fill r cell log value t word) = record j {
    agreement = agreement_events.after j.agreement
        (agreement_events.PrivateStore r cell log value (cell_of m t cell) word);
  }
  after j (Make r log t worn) = record j {
    agreement = agreement_events.after j.agreement (agreement_events.MakeCommit r log (suc t));
    epochs = epoch_events.after c j.epochs (epoch_events.MakeCommit r (descriptor_of j r) log t worn);
  }
  after j (LoadEpoch r log t) =
      record j { epochs = epoch_events.after c j.epochs (epoch_events.RetireEpoch r (descriptor_of j r) log t) }
  after j (Retire r log t) = record j {
    agreement = agreement_events.after j.agreement (agreement_events.RetireCommit r t log);
    epochs = epoch_events.after c j.epochs (epoch_events.RetireCommit r);
  }

  -- what a runner meets by this word of this place
  abbrev pub MeetsBy : States → ℕ → ℕ → Type 0
  MeetsBy j place t =
      ((m.is_link j.agreement.shared.cells place ≡ true) × (value_of (j.agreement.shared.cells place) ≡ suc t))
      ⊎ ((m.is_lock place ≡ false) × IsCellOf m t place)

  -- an entered runner may load a place outside a run, and holds what it meets there
  pub record MayRead (j : States) (r place : ℕ) : Type 0 where
    pub entered : is_entered (j.epochs.stage r) ≡ true
    pub loadable : IsLoadable m (j.walk r) place
    pub holds : (t : ℕ) → t < c.nodes → MeetsBy j place t → j.epochs.holds r t ≡ true

  -- an entered runner may publish a section: its operation is within the limits, and its thunk fits what
  -- the runner has read
  pub record MayPublish (j : States) (r d lock word request : ℕ) (code : ℕ → Micro) (slot : ℕ
      → ℕ) (op : Op) (thunk : Thunk) : Type 0 where
    pub enabled : agreement_events.Enabled (rules_of m layout) j.agreement
        (agreement_events.Publish d lock word request code slot)
    pub entered : is_entered (j.epochs.stage r) ≡ true
    pub allowed : IsAllowed op
    pub fits : m.fits layout op (j.walk r) thunk ≡ true
    pub of_thunk : IsOfThunk m (published j.agreement d lock word request code slot) thunk

  -- a Make's slot is in the hand, and each of its cells holds what the Make's private store there writes
  pub record MayMake (j : States) (r log t : ℕ) (worn : Bool) : Type 0 where
    pub enabled : agreement_events.Enabled (rules_of m layout) j.agreement (agreement_events.MakeCommit r log (suc t))
    pub takes : epoch_events.Enabled c j.epochs (epoch_events.MakeCommit r (descriptor_of j r) log t worn)
    pub node : t < c.nodes
    pub word : HasWord j (descriptor_of j r) log
    pub filled : (cell at : ℕ) (value : Source) → cell < 5
        → (agreement.section_of j.agreement r).code at ≡ micros.PrivateStore cell log value
        → value_of (j.agreement.shared.cells (cell_of m t cell)) ≡ source_in ((j.agreement.run r).trail) value

  -- the runner has loaded the epoch for this Retire
  pub record MayRetire (j : States) (r log t : ℕ) : Type 0 where
    pub enabled : agreement_events.Enabled (rules_of m layout) j.agreement (agreement_events.RetireCommit r t log)
    pub loaded : (j.epochs.retire r).loaded ≡ true
    pub descriptor : (j.epochs.retire r).descriptor ≡ descriptor_of j r
    pub index : (j.epochs.retire r).index ≡ log
    pub slot : (j.epochs.retire r).slot ≡ t
    pub word : HasWord j (descriptor_of j r) log

  -- the runner loads the epoch for a Retire, before whose commit its run stands
  pub record MayLoadEpoch (j : States) (r log t : ℕ) : Type 0 where
    pub enabled : epoch_events.Enabled c j.epochs (epoch_events.RetireEpoch r (descriptor_of j r) log t)
    pub before : agreement_events.IsBefore j.agreement r (micros.RetireCommit t log)
    pub word : HasWord j (descriptor_of j r) log

  -- when a step may come
  abbrev pub Enabled : States → Step → Type 0
  Enabled j (Agreement e) = (is_plain e ≡ true) × agreement_events.Enabled (rules_of m layout) j.agreement e
  Enabled j (Epochs e) = (is_alone e ≡ true) × epoch_events.Enabled c j.epochs e
  Enabled j (Enter r) = epoch_events.Enabled c j.epochs (epoch_events.EnterAgain r)
  Enabled j (Read r place) = MayRead j r place
  Enabled j (Leave r) = epoch_events.Enabled c j.epochs (epoch_events.Exit r)
      × ((d : ℕ) → IsOpen j.agreement d → j.publications.runner d ≢ r)
  Enabled j (Publish r d lock word request code slot op thunk) = MayPublish j r d lock word request code slot op thunk
  Enabled j (Fill r cell log value t word) = agreement_events.Enabled (rules_of m layout) j.agreement
      (agreement_events.PrivateStore r cell log value (cell_of m t cell) word)
      × ((r : ℕ) × (j.epochs.location t ≡ Hand r)) × (cell < 5)
  Enabled j (Make r log t worn) = MayMake j r log t worn
  Enabled j (LoadEpoch r log t) = MayLoadEpoch j r log t
  Enabled j (Retire r log t) = MayRetire j r log t
