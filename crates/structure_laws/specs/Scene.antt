-- What the laws speak of: the words of the cells, the open sections, what the runners have read, and where
-- each node slot is.
use Rattle.std.specs.Prelude.{ℕ, suc, List, [], ◌∷◌, ◌++◌, Option, Some}
use Rattle.map_history.specs.declared.op.Op.{Op}
use Rattle.body_terms.specs.declared.thunk.Thunk.{Thunk}
use Rattle.body_terms.specs.Update.{upd}

-- the words of the cells, by place
abbrev pub Cells : Type 0
Cells = ℕ → ℕ

-- what a runner has read outside a run since it entered, in order: places and their words
abbrev pub Readings : Type 0
Readings = List (ℕ × ℕ)

-- a published section that isn't done: its operation, its thunk, what its publisher had read by then, how many steps of
-- its body are passed, and the agreed word of each register, which for a Make is the slot's link
pub record Section : Type 0 where
  pub op : Op
  pub thunk : Thunk
  pub readings : Readings
  pub at : ℕ
  pub reg : ℕ → ℕ

-- where a node slot is: in a hand or in a free or worn list; live, as fixed slots are; or retired in this epoch
pub data Status : Type 0 where
  Free : Status
  Live : Status
  Retired : (epoch : ℕ) → Status

-- a scene: the cells, the epoch, each node slot's status, each entered runner's readings, and each
-- descriptor's open section
pub record Scene : Type 0 where
  pub cells : Cells
  pub epoch : ℕ
  pub status : ℕ → Status
  pub reader : ℕ → Option Readings
  pub section : ℕ → Option Section

abbrev pub with_cell : Scene → ℕ → ℕ → Scene
with_cell s place word = record s { cells = upd s.cells place word }

abbrev pub with_reader : Scene → ℕ → Option Readings → Scene
with_reader s runner readings = record s { reader = upd s.reader runner readings }

abbrev pub with_section : Scene → ℕ → Option Section → Scene
with_section s descriptor x = record s { section = upd s.section descriptor x }

abbrev pub with_status : Scene → ℕ → Status → Scene
with_status s slot status = record s { status = upd s.status slot status }

-- the section after its next step
abbrev pub passed : Section → Section
passed x = record x { at = suc x.at }

-- the section after its next step, which set a register
abbrev pub passed_with : Section → ℕ → ℕ → Section
passed_with x r n = record x { at = suc x.at; reg = upd x.reg r n }

-- the section as it is published
abbrev pub opened : Op → Thunk → Readings → Section
opened op thunk readings = record { op = op; thunk = thunk; readings = readings; at = 0; reg = λ r. 0 }

-- a runner that has read these loads a place
abbrev pub with_reading : Scene → ℕ → Readings → ℕ → Scene
with_reading s runner readings place = with_reader s runner (Some (readings ++ (place, s.cells place) ∷ []))

-- the section of this descriptor passes its next step
abbrev pub passes : Scene → ℕ → Section → Scene
passes s descriptor x = with_section s descriptor (Some (passed x))

-- it passes its next step, which sets a register
abbrev pub sets : Scene → ℕ → Section → ℕ → ℕ → Scene
sets s descriptor x r n = with_section s descriptor (Some (passed_with x r n))
