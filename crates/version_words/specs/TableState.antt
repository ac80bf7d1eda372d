-- What contracts see of a table, and of the words of a closed one.
use Rattle.std.specs.Prelude.{◌≡◌, ℕ, ◌<◌, ◌^◌, suc, true, List, Option, Some, slice_get, [], None, ◌==◌, if◌then◌else◌}
use Rattle.std.specs.Option.{IsSome}
use Rattle.atomic_table.specs.Seated.{TableId}
use Rattle.machine_states.specs.map_history.specs.declared.op.Op.{Op}
use Rattle.machine_states.specs.map_history.specs.declared.op.Request.{Request}
use Rattle.machine_states.specs.map_history.specs.Keys.{value_given}
use Rattle.machine_states.specs.table_words.specs.declared.layout.Layout.{Layout}
use Rattle.machine_states.specs.table_words.specs.Limits.{IsWithinLimits}
use Rattle.machine_states.specs.table_words.specs.declared.spot.Spot.{Spot}
use Rattle.machine_states.specs.table_words.specs.Places.{size, slot_count, Fits}
use Rattle.machine_states.specs.table_words.specs.Seen.{seen}
use Rattle.machine_states.specs.structure_laws.specs.Meaning.{Meaning}
use Rattle.machine_states.specs.runner_parts.specs.State.{PartState}
use Rattle.machine_states.specs.runner_steps.specs.Outside.{blocks_from}
use Rattle.machine_states.specs.runner_steps.specs.Asks.{sizes_for}
use Rattle.machine_states.specs.World.{World}
use Rattle.machine_states.specs.First.{keeper_part}
use Rattle.version_words.specs.declared.rule.Setup.{Setup}
use Rattle.machine_states.specs.Reached.{Reached}
use Rattle.machine_invariant.specs.After.{AreAllowed}
use Rattle.version_words.specs.Shown.{left_part}
use Rattle.version_words.specs.Rule.{GaveAbove}
use Rattle.version_words.specs.RunnerState.{RunnerState}

pub record TableState (T : Type 0) : Type 0 where
  pub table : TableId
  pub structure : T
  pub layout : Layout
  pub requests : List Request

-- the runner is of this table; its layout is within the limits, and its requests are allowed
pub record IsOf {T : Type 0} (t : TableState T) (r : RunnerState T) : Type 0 where
  pub table : r.table ≡ t.table
  pub structure : r.structure ≡ Some t.structure
  pub layout : r.layout ≡ t.layout
  pub requests : r.requests ≡ t.requests
  pub limits : (l : Layout) → l ≡ t.layout → IsWithinLimits l
  pub allowed : (rs : List Request) → rs ≡ t.requests → AreAllowed rs

-- the table was made with these
pub record IsNew {T : Type 0} (given : T) (l : Layout) (rs : List Request) (t : TableState T) : Type 0 where
  pub structure : t.structure ≡ given
  pub layout : t.layout ≡ l
  pub requests : t.requests ≡ rs

-- the keeper of a new table: it has the number after the last worker's, and has done nothing
abbrev pub first_keeper : {T : Type 0} → Meaning → TableState T → RunnerState T
first_keeper m t = record {
  table = t.table;
  structure = Some t.structure;
  layout = t.layout;
  requests = t.requests;
  number = t.layout.runners;
  part = keeper_part m t.layout;
  joined = [];
}

-- the words of a closed table
pub record WordsState (T : Type 0) : Type 0 where
  pub structure : T
  pub layout : Layout
  pub requests : List Request
  pub words : List ℕ

-- the words are those of a state of the machine that enabled events lead to, in which each worker was joined and makes
-- no further step
pub record AreShown (m : Meaning) (l : Layout) (requests : List Request) (held : List ℕ) : Type 0 where
  pub world : World
  pub reached : Reached m l requests world
  pub words : world.words ≡ held
  pub gone : (worker : ℕ) → worker < l.runners
      → (p : PartState) × (slice_get world.parts (suc worker) ≡ Some p) × (p.gone ≡ true)

-- the word at this spot
abbrev pub word_of : {T : Type 0} → Meaning → WordsState T → Spot → ℕ
word_of m w spot = seen (sizes_for m w.layout w.requests) w.words spot

-- the table has this word
abbrev pub HasWord : {T : Type 0} → Meaning → WordsState T → Spot → Type 0
HasWord m w spot = Fits (sizes_for m w.layout w.requests) spot

-- a request's entry: none where its stamp word is 0
abbrev pub entry_of : ℕ → ℕ → Option (ℕ × ℕ)
entry_of stamp reply = if stamp == 0 then None else Some (stamp, reply)

-- the keeper has joined each worker
pub record HasJoinedAll {T : Type 0} (t : TableState T) (keeper : RunnerState T) : Type 0 where
  pub number : keeper.number ≡ t.layout.runners
  pub joined : (worker : ℕ) → worker < t.layout.runners → IsSome (left_part keeper.joined worker)

-- the words are those of a state that enabled events lead to, in which the keeper's part is the one that it kept, and
-- each worker's the one that it had when it was joined; no gift to the board left one fewer slots than it had at first
pub record IsClosing {T : Type 0} (m : Meaning) (t : TableState T) (keeper : RunnerState T)
    (w : WordsState T) : Type 0 where
  pub structure : w.structure ≡ t.structure
  pub layout : w.layout ≡ t.layout
  pub requests : w.requests ≡ t.requests
  pub world : World
  pub reached : Reached m t.layout t.requests world
  pub above : GaveAbove world
  pub words : world.words ≡ w.words
  pub keeper_part : slice_get world.parts 0 ≡ Some keeper.part
  pub worker_parts : (worker : ℕ) → worker < t.layout.runners
      → slice_get world.parts (suc worker) ≡ left_part keeper.joined worker

-- the value that the operation gives, if any, has 32 bits
abbrev pub HasSmallValue : Op → Type 0
HasSmallValue op = (v : ℕ) → value_given op ≡ Some v → v < 2 ^ 32

-- the table has the machine's words, under its rule, and is within the limits
pub record IsBuilt {T : Type 0} (m : Meaning) (id : TableId) (key built : Setup T) : Type 0 where
  pub told : key ≡ built
  pub as_sized : built.sizes ≡ sizes_for m built.layout built.requests.items
  pub node_slots : built.node_slots ≡ slot_count built.layout m.fixed_slots
  pub first_cell : built.first_cell ≡ m.fixed_cells
  pub first_block : built.first_block ≡ blocks_from m built.layout
  pub words : id.words ≡ size built.sizes
  pub no_slots : id.slots ≡ 0
  pub limits : IsWithinLimits built.layout
  pub allowed : AreAllowed built.requests.items
