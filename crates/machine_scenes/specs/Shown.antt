-- The scene that the states of agreement and of epochs and slots show to a structure's laws.
use Rattle.std.specs.Prelude.{ℕ, ◌≡◌, List, Bool, true, ◌==◌, ◌&&◌, nat_lt, cond, Option, Some, None}
use Rattle.agreement_core.specs.map_history.specs.declared.op.Op.{Op}
use Rattle.agreement_core.specs.map_history.specs.declared.op.Request.{Request}
use Rattle.agreement_core.specs.body_terms.specs.Update.{upd}
use Rattle.agreement_core.specs.body_terms.specs.declared.thunk.Thunk.{Thunk}
use Rattle.agreement_core.specs.body_terms.specs.Line.{line, micro_at, committed}
use Rattle.agreement_core.specs.table_words.specs.declared.layout.Layout.{Layout}
use Rattle.agreement_core.specs.section_lines.specs.structure_laws.specs.Scene.{Readings, Status, Free, Live, Retired, Scene}
use Rattle.agreement_core.specs.section_lines.specs.structure_laws.specs.Scene as scenes
use Rattle.agreement_core.specs.section_lines.specs.structure_laws.specs.Meaning.{Meaning}
use Rattle.agreement_core.specs.section_lines.specs.Progress.{section_at}
use Rattle.agreement_core.specs.State.{CellRules, Section, AgreementState}
use Rattle.epoch_core.specs.declared.location.Location.{Location}
use Rattle.epoch_core.specs.declared.location.Location.TheVariants as locations
use Rattle.epoch_core.specs.State.{Counts, EpochState, is_entered}

-- the requests; and by descriptor who published the section that was last published there, its operation
-- and thunk, and what its publisher had read by then
pub record Publications : Type 0 where
  pub requests : List Request
  pub runner : ℕ → ℕ
  pub op : ℕ → Op
  pub thunk : ℕ → Thunk
  pub readings : ℕ → Readings

-- the places that are locks, and the greatest version
abbrev pub rules_of : Meaning → Layout → CellRules
rules_of m layout = record { is_lock = m.is_lock; version_max = layout.version_max }

-- the status of a slot at this location
abbrev pub status_at : Location → Status
status_at locations.Fixed = Live
status_at locations.Live = Live
status_at (locations.Limbo r y) = Retired y
status_at (locations.Hand r) = Free
status_at (locations.Free r) = Free
status_at (locations.Worn r) = Free
status_at (locations.OnBoard i) = Free

-- the status of a node slot, and of any other number
abbrev pub status_of : Counts → (ℕ → Location) → ℕ → Status
status_of c location t = cond (nat_lt t c.nodes) (status_at (location t)) Free

-- what an entered runner has read
abbrev pub reader_of : EpochState → (ℕ → Readings) → ℕ → Option Readings
reader_of e walk r = cond (is_entered (e.stage r)) (Some (walk r)) None

module _ (m : Meaning) (p : Publications) where
  -- the section of this descriptor, with this log and this edge
  abbrev pub section_with : ℕ → (ℕ → ℕ) → ℕ → scenes.Section
  section_with d log edge = section_at (p.op d) (p.thunk d) (p.readings d) (m.body (p.thunk d)) log edge

  -- it is there while it is open
  abbrev pub section_of : ℕ → Bool → Section → Option scenes.Section
  section_of d used x = cond (used && (x.done == 0)) (Some (section_with d x.log x.edge)) None

  -- the open sections
  abbrev pub sections_of : AgreementState → ℕ → Option scenes.Section
  sections_of a d = section_of d (a.used d) (a.section d)

-- the states of agreement and of epochs and slots, what was published, and by runner what it has read
-- outside a run since it entered
pub record States : Type 0 where
  pub agreement : AgreementState
  pub epochs : EpochState
  pub publications : Publications
  pub walk : ℕ → Readings

-- the scene: the cells, the epoch, where the slots are, what the entered runners have read, and the open sections
abbrev pub scene_of : Meaning → Counts → States → Scene
scene_of m c j = record {
  cells = j.agreement.shared.cells;
  epoch = j.epochs.epoch;
  status = λ t. status_of c j.epochs.location t;
  reader = λ r. reader_of j.epochs j.walk r;
  section = λ d. sections_of m j.publications j.agreement d;
}

-- the section is that of this thunk
pub record IsOfThunk (m : Meaning) (x : Section) (t : Thunk) : Type 0 where
  pub lock : x.lock ≡ t.lock
  pub word : x.word ≡ t.word
  pub request : x.request ≡ t.request
  pub code : (i : ℕ) → x.code i ≡ micro_at (line (m.body t)) i
  pub slot : (i : ℕ) → x.slot i ≡ committed (line (m.body t)) i

-- each published section is that of its thunk
abbrev pub AreOfThunks : Meaning → Publications → AgreementState → Type 0
AreOfThunks m p a = (d : ℕ) → a.used d ≡ true → IsOfThunk m (a.section d) (p.thunk d)

-- this runner, which has read these, publishes a section of this operation and thunk
abbrev pub publishes : Publications → ℕ → ℕ → Op → Thunk → Readings → Publications
publishes p d r op thunk readings = record p
    { runner = upd p.runner d r; op = upd p.op d op; thunk = upd p.thunk d thunk; readings = upd p.readings d readings }
