-- What a run of traces on a table leaves.
use Rattle.std.specs.Prelude.{◌≡◌, ◌≢◌, ℕ, ◌+◌, ◌*◌, ◌<◌, ◌≤◌, ◌⊎◌, ◌==◌, Bool, false, not, List, length, count_by, Some, slice_get}
use Rattle.machine_states.specs.map_history.specs.declared.op.Request.{Request}
use Rattle.machine_states.specs.table_words.specs.Places.{worker_blocks, attempt_blocks}
use Rattle.machine_states.specs.table_words.specs.declared.layout.Layout.{Layout}
use Rattle.machine_states.specs.table_words.specs.declared.spot.Spot.TheVariants.{Stamp, Reply, DoneWord}
use Rattle.machine_states.specs.guard_core.specs.State.{most_linked}
use Rattle.machine_states.specs.structure_laws.specs.Cells as cells
use Rattle.machine_states.specs.structure_laws.specs.Meaning.{Meaning}
use Rattle.version_words.specs.TableState.{WordsState, word_of}
use Rattle.settled_tables.specs.closed_words.specs.Histories.{HoldsNoLock}
use Rattle.reached_facts.specs.keeper_facts.specs.runner_facts.specs.Facts.{HasWornCell}
use Rattle.free_serving.specs.lock_words.specs.Spent.{IsPast, IsSpentAt}
use Rattle.settled_tables.specs.settling.specs.epoch_slots.specs.declared.reserves.Kind.TheVariants as kinds
use Rattle.settled_tables.specs.settling.specs.epoch_slots.specs.declared.reserves.Short.{Short}
use Rattle.free_serving.specs.serving.specs.declared.answers.Served.{Served}
use Rattle.free_serving.specs.serving.specs.declared.answers.Served.TheVariants as answers
use Rattle.free_serving.specs.Left.{Rises}
use Rattle.free_serving.specs.resource_bounds.specs.Makes.{added, inserts}
use Rattle.threaded_runs.specs.Own.{own_requests}
use Rattle.threaded_runs.specs.Room.{HasRoomForAll}

-- the words are of a table that was made with these
pub record IsMadeWith {T : Type 0} (given : T) (l : Layout) (rs : List Request) (w : WordsState T) : Type 0 where
  pub structure : w.structure ≡ given
  pub layout : w.layout ≡ l
  pub requests : w.requests ≡ rs

module _ {T : Type 0} (m : Meaning) (w : WordsState T) where
  -- the request's stamp word, 0 where it has no entry
  abbrev pub stamp_of : Request → ℕ
  stamp_of request = word_of m w (Stamp request.number)

  -- how many requests are served: they have an entry
  abbrev pub served_in : ℕ
  served_in = count_by (λ (request : Request). not (stamp_of request == 0)) w.requests

  -- of these requests the first ones, so many, have an entry each, with stamps that rise along them, where two that
  -- follow one another may be the same odd one if a `get` may be read; and those behind them have none
  pub record AreEntered (reads_free : Bool) (requests : List Request) (count : ℕ) : Type 0 where
    pub few : count ≤ length requests
    pub entries : (i : ℕ) (q : Request) → i < count → slice_get requests i ≡ Some q → stamp_of q ≢ 0
    pub rising : (i j : ℕ) (q q' : Request) → i < j → j < count
        → slice_get requests i ≡ Some q → slice_get requests j ≡ Some q' → Rises reads_free (stamp_of q) (stamp_of q')
    pub none : (i : ℕ) (q : Request) → count ≤ i → slice_get requests i ≡ Some q → stamp_of q ≡ 0

  -- so many different node slots have a cell with the greatest version
  pub record AreWornOut (count : ℕ) : Type 0 where
    pub slots : List ℕ
    pub many : length slots ≡ count
    pub once : (i j slot : ℕ) → slice_get slots i ≡ Some slot → slice_get slots j ≡ Some slot → i ≡ j
    pub each : (i slot : ℕ) → slice_get slots i ≡ Some slot → HasWornCell m w.layout (word_of m w) slot

  -- at the last attempt too few slots of the kind were free, and this isn't waited out, or no slot of the kind was in
  -- limbo and others took none that lay on the board; where descriptors lacked, all of the worker's were in limbo, and
  -- guard words of other runners named them: no more than there are workers. Its node slots outside limbo, with two for
  -- each request that added a pair, are as many as the layout gives it; and those in limbo with them no more than the
  -- table has, since those that other workers made may come to it
  pub record IsShortOf (retry_short : Bool) (short : Short) : Type 0 where
    pub over : (retry_short ≡ false) ⊎ ((short.limbo ≡ 0) × (short.board ≡ 0))
    pub nodes : short.kind ≡ kinds.Node → short.free < 2
    pub counted : short.kind ≡ kinds.Node
        → w.layout.nodes ≤ short.free + short.worn + 2 * added (word_of m w) (length w.requests)
    pub most : short.kind ≡ kinds.Node → short.free + (short.limbo + short.worn) ≤ cells.slots m w.layout
    pub descriptors : short.kind ≡ kinds.Descriptor
        → (short.free ≡ 0) × (short.worn ≡ 0) × (short.limbo ≡ w.layout.sections)
    pub named : short.kind ≡ kinds.Descriptor → short.limbo ≤ w.layout.runners
    -- where too few blocks were free for two logs, the worker's others were in limbo, and guard words of other runners
    -- named the sections in whose logs they had been: each keeps as many as one log has at most
    pub blocks : short.kind ≡ kinds.Block → (short.free < attempt_blocks) × (short.worn ≡ 0)
        × (short.free + short.limbo ≡ worker_blocks w.layout)
    pub kept : short.kind ≡ kinds.Block → short.limbo ≤ most_linked * w.layout.runners

  -- why the worker served so many of its requests and no more: at All these are all of them
  abbrev pub IsCause : Bool → List Request → Served → ℕ → Type 0
  IsCause retry_short requests answers.All count = count ≡ length requests
  IsCause retry_short requests (answers.Short short) count = (count < length requests) × IsShortOf retry_short short
  IsCause retry_short requests (answers.Spent place word) count = count < length requests
  IsCause retry_short requests answers.Halted count = Unit {0}

  -- what the closed words show of the answer: the slots that are told worn are worn; behind the word
  -- that is told spent too few versions are left: it is a lock's and free, and fewer than two are, or it is
  -- a cell's and has the greatest one. It stands at its place, or a word of a later version does
  abbrev pub IsShown : Served → Type 0
  IsShown (answers.Short short) = AreWornOut short.worn
  IsShown (answers.Spent place word) = IsSpentAt m w.layout place word × IsPast (word_of m w) place word
  IsShown _ = Unit {0}

  -- what is left of the run of a worker with these requests and this answer
  pub record HasServed (retry_short reads_free : Bool) (requests : List Request) (answer : Served) : Type 0 where
    pub count : ℕ
    pub entered : AreEntered reads_free requests count
    pub cause : IsCause retry_short requests answer count
    pub shown : IsShown answer

  -- what is left of a run of all workers with these answers, in order of number: each has served its
  -- own traces, no lock word names a section, each request that has an entry has its reply, and no
  -- more requests added a pair than are inserts
  pub record AreServed (retry_short reads_free : Bool) (given : List Served) : Type 0 where
    pub each : length given ≡ w.layout.runners
    pub served : (worker : ℕ) (answer : Served) → slice_get given worker ≡ Some answer
        → HasServed retry_short reads_free (own_requests w.layout.runners worker w.requests) answer
    pub free : HoldsNoLock m w
    pub replied : (n : ℕ) → word_of m w (Stamp n) ≢ 0 → word_of m w (Reply n) ≢ 0
    -- where a worker lacked a descriptor, the section of each of its own is done
    pub done : (worker : ℕ) (short : Short) → slice_get given worker ≡ Some (answers.Short short)
        → short.kind ≡ kinds.Descriptor
        → (d : ℕ) → w.layout.sections * worker ≤ d → d < w.layout.sections * worker + w.layout.sections
        → word_of m w (DoneWord d) ≡ 1
    pub few_added : added (word_of m w) (length w.requests) ≤ inserts w.requests
    -- whoever stops, the others are served: with room for all, each worker that no gate halted has served all of its
    -- requests
    pub others : HasRoomForAll m w → (worker : ℕ) (answer : Served) → slice_get given worker ≡ Some answer
        → (answer ≡ answers.All) ⊎ (answer ≡ answers.Halted)
