-- What contracts say of a step: it is one event of the machine on the own part.
use Rattle.std.specs.Prelude.{◌≡◌, ℕ, Bool, true, [], ◌∷◌, Some}
use mathlib.Core.Option.{Option as Option_of, none, some}
use Rattle.atomic_table.specs.Table.{Me, Step, step}
use Rattle.atomic_table.specs.Seated.{TableId}
use Rattle.machine_states.specs.body_terms.specs.declared.thunk.Thunk.{Thunk}
use Rattle.machine_states.specs.table_words.specs.Access.{written, wins}
use Rattle.machine_states.specs.table_words.specs.Places.{address, descriptor_at}
use Rattle.machine_states.specs.table_words.specs.declared.spot.Spot.{Spot}
use Rattle.machine_states.specs.table_words.specs.declared.spot.Spot.TheVariants.{Seat}
use Rattle.machine_states.specs.table_words.specs.declared.access.Access.{Access}
use Rattle.machine_states.specs.table_words.specs.declared.access.Access.TheVariants.{Loads}
use Rattle.machine_states.specs.structure_laws.specs.Meaning.{Meaning}
use Rattle.machine_states.specs.runner_parts.specs.declared.event.EventKind.{EventKind}
use Rattle.machine_states.specs.runner_parts.specs.declared.event.EventKind.TheVariants as kinds
use Rattle.machine_states.specs.runner_steps.specs.Outside.{Ask}
use Rattle.machine_states.specs.runner_steps.specs.Asks.{asks, sizes_for}
use Rattle.machine_states.specs.runner_steps.specs.After.{after, knows_also}
use Rattle.machine_states.specs.First.{worker_part}
use Rattle.version_words.specs.declared.view.View.{View}
use Rattle.version_words.specs.Naming.{Naming, is_plain}
use Rattle.version_words.specs.ReachedWith.{ReachedBy}
use Rattle.version_words.specs.RunnerState.{RunnerState}
use Rattle.version_words.specs.TableState.{TableState}

-- the thunk that a step announces, if any
abbrev pub Announced : Type 0
Announced = Option_of Thunk

abbrev pub nothing : Announced
nothing = none

abbrev pub announcing : Thunk → Announced
announcing thunk = some thunk

module _ {T : Type 0} (m : Meaning) where
  -- the word that this event of the runner meets, and what it does there; None where it isn't enabled
  abbrev pub met_by : RunnerState T → EventKind → Ask
  met_by r kind = asks m r.layout r.requests r.number kind r.part

  -- the runner may make this event next
  pub record IsEnabled (kind : EventKind) (r : RunnerState T) : Type 0 where
    pub met : Spot × Access
    pub asked : met_by r kind ≡ Some met

  -- the runner made this event, and found this number in its word; nothing of it changed but the part; and the machine
  -- reaches a state in which it has the part before and the word is that number, and by this event one in which it has
  -- the part after and the word is what the event left there
  pub record Makes (kind : EventKind) (found : ℕ) (old new : RunnerState T) : Type 0 where
    pub met : Spot × Access
    pub asked : met_by old kind ≡ Some met
    pub made : new ≡ record old { part = after m old.layout old.number kind met.0 met.1 old.part found }
    pub shown : ReachedBy m new.layout new.requests new.number kind old.part new.part met found

  -- the runner made this event, whose exchange won or lost
  pub record Tries (kind : EventKind) (won : Bool) (old new : RunnerState T) : Type 0 where
    pub found : ℕ
    pub event : Makes kind found old new
    pub told : won ≡ wins event.met.1 found

  -- the runner made this event, and isn't told what it found
  pub record IsMade (kind : EventKind) (old new : RunnerState T) : Type 0 where
    pub found : ℕ
    pub event : Makes kind found old new

  -- the runner made this event, and what its word then held is this number
  pub record Leaves (kind : EventKind) (left : ℕ) (old new : RunnerState T) : Type 0 where
    pub found : ℕ
    pub event : Makes kind found old new
    pub told : left ≡ written event.met.1 found

  -- the runner made this event, what its word then held is this number, and the event's exchange won or lost
  pub record Commits (kind : EventKind) (agreed : ℕ) (won : Bool) (old new : RunnerState T) : Type 0 where
    pub found : ℕ
    pub event : Makes kind found old new
    pub told : agreed ≡ written event.met.1 found
    pub first : won ≡ wins event.met.1 found

  -- the keeper made the event Split, which finds 0: it split off a worker, and nothing of it changed but the part
  pub record HasSplit (old new : RunnerState T) : Type 0 where
    pub asked : met_by old kinds.Split ≡ Some (Seat, Loads)
    pub made : new ≡ record old { part = after m old.layout old.number kinds.Split Seat Loads old.part 0 }

  -- a plain store doesn't tell what it found, and the part afterwards doesn't go by it
  pub record IsBlind (kind : EventKind) (x : Spot × Access) (r : RunnerState T) : Type 0 where
    pub same : (found other : ℕ)
        → after m r.layout r.number kind x.0 x.1 r.part found
        ≡ after m r.layout r.number kind x.0 x.1 r.part other

  -- a step of this name, with these operands, is an event of this runner that meets this spot in this way
  pub record IsNamed (naming : Naming) (r : RunnerState T) (step : Step Thunk) (x : Spot × Access) : Type 0 where
    pub asked : met_by r (naming m r.layout r.requests r.part step) ≡ Some x
    pub plain : is_plain r.layout r.part (naming m r.layout r.requests r.part step) ≡ true

  -- the event that this name makes of the runner's step
  abbrev pub event_by : Naming → RunnerState T → Step Thunk → EventKind
  event_by naming r step = naming m r.layout r.requests r.part step

  -- the step on this word of the table, with these two operands, that announces this
  abbrev pub step_at : TableState T → Spot → ℕ → ℕ → Announced → Step Thunk
  step_at t spot first second said =
      step t.table.slots (address (sizes_for m t.layout t.requests) spot) first second said

-- where this word stands in the table, and where the words of this descriptor begin
abbrev pub address_of : {T : Type 0} → Meaning → TableState T → Spot → ℕ
address_of m t spot = address (sizes_for m t.layout t.requests) spot

abbrev pub start_of : {T : Type 0} → Meaning → TableState T → ℕ → ℕ
start_of m t descriptor = descriptor_at (sizes_for m t.layout t.requests) descriptor

-- what contracts see of a seat
abbrev pub seen_seat : {T : Type 0} → TableId → Me Thunk (View T) → RunnerState T
seen_seat table me = record {
  table = table;
  structure = me.0.structure;
  layout = me.0.layout;
  requests = me.0.requests;
  number = me.0.number;
  part = me.0.part;
  joined = me.0.joined;
}

-- the next worker that a keeper splits off, in its first state
abbrev pub next_worker : {T : Type 0} → Meaning → RunnerState T → RunnerState T
next_worker m keeper = record keeper {
  number = keeper.part.records.splits;
  part = worker_part m keeper.layout keeper.part.records.splits;
  joined = [];
}

-- the keeper after it joined this worker: it knows also what the worker knew, and keeps the worker's part
abbrev pub joined_by : {T : Type 0} → Meaning → RunnerState T → RunnerState T → RunnerState T
joined_by m worker keeper = record keeper {
  part = knows_also
      (after m keeper.layout keeper.number (kinds.Join worker.number) Seat Loads keeper.part 0) worker.part;
  joined = (worker.number, worker.part) ∷ keeper.joined;
}
