-- The opening of a run.
use Rattle.std.specs.Prelude.{◌≡◌, ◌≢◌, ℕ, zero, suc, List, Bool, true, false, length, ◌++◌, ◌≤◌, slice_get, Option, Some, None}
use Rattle.idem_cell.specs.machine_states.specs.body_terms.specs.declared.thunk.Thunk.{Thunk}
use Rattle.idem_cell.specs.runner_gate.specs.Asks.{Asks}
use Rattle.idem_cell.specs.machine_states.specs.structure_laws.specs.Meaning.{Meaning}
use Rattle.idem_cell.specs.machine_states.specs.runner_parts.specs.declared.event.EventKind.{EventKind}
use Rattle.idem_cell.specs.machine_states.specs.runner_parts.specs.declared.event.EventKind.TheVariants as kinds
use Rattle.idem_cell.specs.machine_states.specs.runner_parts.specs.declared.entries.Known.{Known}
use Rattle.idem_cell.specs.machine_states.specs.runner_parts.specs.State.{RunState}
use Rattle.idem_cell.specs.machine_states.specs.runner_steps.specs.Outside.{is_sure_of}
use Rattle.idem_cell.specs.machine_states.specs.runner_steps.specs.Sections.{thunk_of, is_late}
use Rattle.idem_alloc.specs.commit_log.specs.version_words.specs.RunnerState.{RunnerState}
use Rattle.idem_alloc.specs.commit_log.specs.version_words.specs.Events.{Makes}
use Rattle.idem_alloc.specs.commit_log.specs.Asked.{IsAsked}
use Rattle.section_runs.specs.Reached.{IsReached, no_run, IsInside, events_after}

-- what is known of stamp and reply words stays known, and what was learned is of this request
pub record Learns (request : ℕ) (old new : List Known) : Type 0 where
  pub more : List Known
  pub adds : new ≡ old ++ more
  pub only : (i : ℕ) (x : Known) → slice_get more i ≡ Some x → x.request ≡ request

-- what was read of cells is known on, and none of what was read since is this word at this place
pub record ReadsOthers (place word : ℕ) (old new : List (ℕ × ℕ)) : Type 0 where
  pub more : List (ℕ × ℕ)
  pub adds : new ≡ old ++ more
  pub others : (i : ℕ) → slice_get more i ≢ Some (place, word)

-- what no step of a run changes but its last one
module _ {T : Type 0} where
  pub record Stays (old new : RunnerState T) : Type 0 where
    pub layout : new.layout ≡ old.layout
    pub requests : new.requests ≡ old.requests
    pub number : new.number ≡ old.number
    pub present : new.part.gone ≡ old.part.gone
    pub stage : new.part.stage ≡ old.part.stage
    pub published : new.part.published ≡ old.part.published
    pub descriptors : new.part.descriptors ≡ old.part.descriptors
    pub finished : new.part.records.finished ≡ old.part.records.finished
    -- the guard word names what it named, and what was read on the way to a lock is known on
    pub guards : new.part.guards ≡ old.part.guards
    pub walk : new.part.reads.walk ≡ old.part.reads.walk
    pub look : new.part.reads.look ≡ old.part.reads.look

-- a run that has loaded these words of this descriptor, and nothing else
abbrev pub opening : ℕ → List ℕ → RunState
opening d words = record no_run { descriptor = d; opened = words }

-- the run then, and none before its first word
abbrev pub opening_of : ℕ → ℕ → List ℕ → Option RunState
opening_of zero d words = None
opening_of (suc n) d words = Some (opening d words)

-- the load of a thunk word or of the done word
abbrev pub is_opening : EventKind → Bool
is_opening (kinds.LoadThunk descriptor) = true
is_opening kinds.LoadDone = true
is_opening _ = false

module _ {T : Type 0} (m : Meaning) where
  -- the runner made so many such loads, and no other step
  abbrev pub Opens : ℕ → RunnerState T → RunnerState T → Type 0
  Opens zero old new = new ≡ old
  Opens (suc n) old new = (r : RunnerState T) × (kind : EventKind) × (found : ℕ)
      × Opens n old r × (is_opening kind ≡ true) × Makes m kind found r new

  -- the runner has loaded so many words of this descriptor
  pub record IsOpening (n d : ℕ) (words : List ℕ) (old new : RunnerState T) : Type 0 where
    pub run : new.part.run ≡ opening_of n d words
    pub count : length words ≡ n
    pub stays : Stays old new
    pub nodes : new.part.nodes ≡ old.part.nodes
    pub blocks : new.part.blocks ≡ old.part.blocks
    pub reads : new.part.reads ≡ old.part.reads
    pub known : new.part.records.known ≡ old.part.records.known
    pub events : new.part.records.events ≡ events_after old.part.records.events n
    pub loads : Opens n old new
    pub reached : IsReached m new

  -- the runner has opened a run of the section in this descriptor, which has this thunk, and found it done or not
  pub record HasOpened (d : ℕ) (t : Thunk) (late : Bool) (old new : RunnerState T) : Type 0 where
    pub inside : IsInside m new
    pub words : List ℕ
    pub run : new.part.run ≡ Some (opening d words)
    pub thunk : thunk_of words ≡ t
    pub found : is_late (opening d words) ≡ late
    pub stays : Stays old new
    pub nodes : new.part.nodes ≡ old.part.nodes
    pub blocks : new.part.blocks ≡ old.part.blocks
    pub reads : new.part.reads ≡ old.part.reads
    pub known : new.part.records.known ≡ old.part.records.known
    pub events : new.part.records.events ≡ events_after old.part.records.events 13
    pub loads : Opens 13 old new

-- a gate halted the runner behind one of these loads: it made the loads up to that one, or all
pub record HasHalted {T : Type 0} (m : Meaning) (most d : ℕ) (old new : RunnerState T)
    (halts halts' : ℕ) (asks asks' : Asks) (steps steps' : ℕ) : Type 0 where
  pub made : ℕ
  pub some : 1 ≤ made
  pub few : made ≤ most
  pub words : List ℕ
  pub opening : IsOpening m made d words old new
  pub asked : IsAsked made false halts halts' asks asks' steps steps'

-- the runner has just opened a run of the section in this descriptor, which has this thunk and was found done or not
pub record StandsOpened {T : Type 0} (m : Meaning) (d : ℕ) (t : Thunk) (late : Bool) (r : RunnerState T) : Type 0 where
  pub inside : IsInside m r
  pub words : List ℕ
  pub run : r.part.run ≡ Some (opening d words)
  pub thunk : thunk_of words ≡ t
  pub found : is_late (opening d words) ≡ late
  pub sure : is_sure_of r.part.guards d ≡ true
