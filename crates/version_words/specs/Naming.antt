-- Which event a step is.
use Rattle.std.specs.Prelude.{ℕ, zero, suc, ◌/◌, ◌%◌, ◌==◌, nat_le, List, length, Bool, true, false, Option, Some, None}
use mathlib.Core.Option.{Option as Option_of, none, some}
use Rattle.atomic_table.specs.Table.{Step}
use Rattle.machine_states.specs.map_history.specs.declared.op.Request.{Request}
use Rattle.machine_states.specs.body_terms.specs.declared.thunk.Thunk.{Thunk}
use Rattle.machine_states.specs.table_words.specs.declared.layout.Layout.{Layout}
use Rattle.machine_states.specs.table_words.specs.declared.spot.Spot.{Spot}
use Rattle.machine_states.specs.table_words.specs.declared.spot.Spot.TheVariants.{Seat}
use Rattle.machine_states.specs.structure_laws.specs.Meaning.{Meaning}
use Rattle.machine_states.specs.runner_parts.specs.declared.event.EventKind.{EventKind}
use Rattle.machine_states.specs.runner_parts.specs.declared.event.EventKind.TheVariants as kinds
use Rattle.machine_states.specs.runner_parts.specs.State.{RunState, PartState}
use Rattle.machine_states.specs.runner_parts.specs.Lists.{slot_given}

-- which event a step is, by the part before it and the step's word and operands: a step can be told nothing else
abbrev pub Naming : Type 1
Naming = Meaning → Layout → List Request → PartState → Step Thunk → EventKind

-- an event that changes one part and no number of seats; a node slot goes onto the board only where as many are left
-- free as the layout gives a worker
abbrev pub is_plain : Layout → PartState → EventKind → Bool
is_plain l p kinds.Split = false
is_plain l p (kinds.Join worker) = false
is_plain l p (kinds.BoardGive word slot) = nat_le l.nodes (length (slot_given p.nodes slot).free)
is_plain l p _ = true

abbrev pub is_seat : Spot → Bool
is_seat Seat = true
is_seat _ = false

-- a stamp word or a reply word is read, by its place among them
abbrev pub entry_of : ℕ → EventKind
entry_of place = kinds.LoadEntry (place / 2) (place % 2 == 1)

-- a cell is loaded: in a run the one that comes next, outside the one that the runner chooses
abbrev pub load_of : Option RunState → ℕ → EventKind
load_of None place = kinds.LoadCell (Some place)
load_of (Some q) place = kinds.LoadCell None

-- a thunk word is loaded: in a run the one that comes next, outside the first of a descriptor
abbrev pub open_of : Option RunState → ℕ → EventKind
open_of None descriptor = kinds.LoadThunk (Some descriptor)
open_of (Some q) descriptor = kinds.LoadThunk None

-- a section is published with the thunk that its step announces
abbrev pub hold_of : Option_of Thunk → ℕ → EventKind
hold_of none descriptor = kinds.EnterLoad
hold_of (some thunk) descriptor = kinds.Hold thunk descriptor

-- a read without a lock is announced with the thunk that its step announces
abbrev pub plan_of : Option_of Thunk → EventKind
plan_of none = kinds.EnterLoad
plan_of (some thunk) = kinds.ReadPlan thunk

-- the descriptor that a guard word with this number names, if any
abbrev pub guarded_by : ℕ → Option ℕ
guarded_by zero = None
guarded_by (suc d) = Some d
