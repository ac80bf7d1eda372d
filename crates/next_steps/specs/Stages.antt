-- The steps of a run, for a caller that has its runner's part: which one it may make, and what the part is then.
use Rattle.std.specs.Prelude.{ℕ, ◌+◌, ◌<◌, ◌≤◌, ◌≡◌, ◌==◌, ◌||◌, true, false, is_some, nat_lt, List, [], ◌∷◌, ◌++◌, length, slice_get, Option, Some, None, if◌then◌else◌}
use Rattle.machine_states.specs.map_history.specs.declared.op.Request.{Request}
use Rattle.machine_states.specs.body_terms.specs.declared.micro.Micro.{Micro}
use Rattle.machine_states.specs.body_terms.specs.declared.micro.Micro.TheVariants as micros
use Rattle.machine_states.specs.body_terms.specs.Line.{is_end}
use Rattle.machine_states.specs.body_terms.specs.Run.{source_value, written_once}
use Rattle.machine_states.specs.body_terms.specs.Word.{version_of, next_word}
use Rattle.machine_states.specs.table_words.specs.declared.layout.Layout.{Layout}
use Rattle.machine_states.specs.table_words.specs.declared.spot.Spot.{Spot}
use Rattle.machine_states.specs.table_words.specs.declared.access.Access.{Access}
use Rattle.machine_states.specs.structure_laws.specs.Meaning.{Meaning}
use Rattle.machine_states.specs.runner_parts.specs.declared.entries.Published.{Published}
use Rattle.machine_states.specs.runner_parts.specs.State.{RunState, FinishedState, NodesState, DescriptorsState, BlocksState, ReadsState, PartState}
use Rattle.machine_states.specs.runner_parts.specs.Lists.{slot_taken, slot_retired, cell_read, blocks_retired}
use Rattle.machine_states.specs.runner_steps.specs.Sections.{next_of, commits_to, needs_link}
use Rattle.machine_states.specs.runner_steps.specs.Blocks.{blocks_after}
use Rattle.machine_states.specs.table_words.specs.Places.{block_words}
use Rattle.machine_states.specs.runner_steps.specs.InRun.{make_slot, stamp_after}
use Rattle.machine_states.specs.runner_steps.specs.AfterInRun.{goes_on, agrees, made, ended_more, block_emptied, link_committed, kept_unless, retired_if, finished_of}
use Rattle.machine_states.specs.runner_steps.specs.After.{after}
use Rattle.machine_states.specs.World.{World, seat_of}
use Rattle.machine_states.specs.Reached.{Reached}
use Rattle.next_steps.specs.Steps.{slot_in, kind_at, ask_at, next_block, stock, link_kind, link_ask, opening_kind, opened_next, has_slot}
use Rattle.next_steps.specs.Enabled.{Meets, IsInTable}

-- a runner with this part, which wasn't joined and is in this run, in a state that the machine reaches
pub record IsInRun (m : Meaning) (l : Layout) (requests : List Request) (r : ℕ) (p : PartState)
    (q : RunState) : Type 0 where
  pub present : p.gone ≡ false
  pub running : p.run ≡ Some q
  pub world : World
  pub reached : Reached m l requests world
  pub own : slice_get world.parts (seat_of l r) ≡ Some p

-- the run with the slot that it fills, where it has none yet
abbrev pub filling_slot : Option ℕ → RunState → ℕ → RunState
filling_slot None q slot = record q { made = Some slot; worn = false }
filling_slot (Some t) q slot = q

-- the first private load of a Make takes the slot
abbrev pub nodes_taking : Option ℕ → NodesState → ℕ → NodesState
nodes_taking None n slot = slot_taken n slot
nodes_taking (Some t) n slot = n

-- a Make's run behind its commit
abbrev pub unfilled : RunState → RunState
unfilled q = record q { made = None; worn = false }

-- the run behind this step, which found this word
abbrev pub run_behind : Meaning → Layout → PartState → RunState → Micro → ℕ → Option RunState
run_behind m l p q (micros.LoadCell place log) found = Some (goes_on m l q found)
run_behind m l p q (micros.Commit place log) found = Some (agrees m l q (written_once found q.word))
run_behind m l p q (micros.NestedLoad place log) found = Some (goes_on m l q found)
run_behind m l p q (micros.NestedCommit place log) found = Some (agrees m l q (written_once found q.word))
run_behind m l p q (micros.NestedHold place word) found = Some (goes_on m l q q.word)
run_behind m l p q (micros.OutcomeLoad place log) found = Some (goes_on m l q found)
run_behind m l p q (micros.OutcomeCommit place log) found = Some (agrees m l q (written_once found q.word))
run_behind m l p q (micros.PrivateLoad cell log) found =
    Some (goes_on m l (filling_slot q.made q (slot_in (make_slot q.made p.nodes.free))) found)
run_behind m l p q (micros.PrivateStore cell log value) found =
    let number = next_word q.word (source_value q.trail value) in
    Some (goes_on m l (record q { worn = q.worn || version_of number == l.version_max }) q.word)
run_behind m l p q (micros.MakeCommit log) found =
    Some (agrees m l (unfilled q) (written_once found (slot_in q.made + 1)))
run_behind m l p q micros.ClockLoad found = Some (goes_on m l q found)
run_behind m l p q micros.StampExchange found = Some (goes_on m l q (written_once found (stamp_after q.word)))
run_behind m l p q micros.ClockRaise found = Some (goes_on m l q q.word)
run_behind m l p q (micros.ExchangeCell place log value) found = Some (goes_on m l q q.word)
run_behind m l p q (micros.EpochForRetire slot log) found = Some (goes_on m l q found)
run_behind m l p q (micros.RetireCommit slot log) found = Some (agrees m l q (written_once found (slot + 1)))
run_behind m l p q (micros.ReplyExchange reply) found = Some (goes_on m l q q.word)
run_behind m l p q micros.SetDone found = Some (ended_more q)
run_behind m l p q (micros.Release place word) found =
    if is_end (next_of m (ended_more q)) then None else Some (ended_more q)
run_behind m l p q _ found = Some q

-- the own node slots behind it
abbrev pub nodes_behind : PartState → RunState → Micro → ℕ → NodesState
nodes_behind p q (micros.PrivateLoad cell log) found =
    nodes_taking q.made p.nodes (slot_in (make_slot q.made p.nodes.free))
nodes_behind p q (micros.MakeCommit log) found = made p q (slot_in q.made) found
nodes_behind p q (micros.RetireCommit slot log) found = if found == 0 then slot_retired p.nodes slot q.word else p.nodes
nodes_behind p q _ found = p.nodes

-- what the runner has read behind it
abbrev pub reads_behind : PartState → RunState → Micro → ℕ → ReadsState
reads_behind p q (micros.LoadCell place log) found = cell_read p.reads place found
reads_behind p q (micros.NestedLoad place log) found = cell_read p.reads place found
reads_behind p q (micros.NestedHold place word) found = cell_read p.reads place found
reads_behind p q (micros.OutcomeLoad place log) found = cell_read p.reads place found
reads_behind p q (micros.ExchangeCell place log value) found = cell_read p.reads place found
reads_behind p q (micros.Release place word) found = cell_read p.reads place found
reads_behind p q _ found = p.reads

-- its own published section, and the runs that it has brought to their end: this one with its last release
abbrev pub published_behind : Meaning → PartState → RunState → Micro → Option Published
published_behind m p q (micros.Release place word) =
    if is_end (next_of m (ended_more q)) then kept_unless p.published q.descriptor else p.published
published_behind m p q _ = p.published

-- its own descriptors: with the last release of its own section's run that one's goes into limbo
abbrev pub descriptors_behind : Meaning → PartState → RunState → Micro → DescriptorsState
descriptors_behind m p q (micros.Release place word) =
    if is_end (next_of m (ended_more q)) then retired_if p.descriptors p.published q.descriptor else p.descriptors
descriptors_behind m p q _ = p.descriptors

-- its own blocks: with the run's last release those that it linked go into limbo under its descriptor
abbrev pub blocks_behind : Meaning → PartState → RunState → Micro → BlocksState
blocks_behind m p q (micros.Release place word) =
    if is_end (next_of m (ended_more q)) then blocks_retired p.blocks q.won q.descriptor else p.blocks
blocks_behind m p q _ = p.blocks

abbrev pub finished_behind : Meaning → Layout → PartState → RunState → Micro → List FinishedState
finished_behind m l p q (micros.Release place word) = let f = p.records.finished in
    if is_end (next_of m (ended_more q)) then f ++ finished_of m l (ended_more q) ∷ [] else f
finished_behind m l p q _ = p.records.finished

-- what the part is behind this step of the run
pub record IsBehind (m : Meaning) (l : Layout) (p : PartState) (q : RunState) (micro : Micro) (found : ℕ)
    (p' : PartState) : Type 0 where
  pub run : p'.run ≡ run_behind m l p q micro found
  pub nodes : p'.nodes ≡ nodes_behind p q micro found
  pub reads : p'.reads ≡ reads_behind p q micro found
  pub published : p'.published ≡ published_behind m p q micro
  pub finished : p'.records.finished ≡ finished_behind m l p q micro
  pub descriptors : p'.descriptors ≡ descriptors_behind m p q micro
  pub blocks : p'.blocks ≡ blocks_behind m p q micro
  pub guards : p'.guards ≡ p.guards
  pub stage : p'.stage ≡ p.stage
  pub present : p'.gone ≡ p.gone

-- the run behind a step by which it links a block, which found this word
abbrev pub run_linked : PartState → RunState → ℕ → Option RunState
run_linked p q found =
    if nat_lt q.emptied block_words then Some (block_emptied (slot_in (next_block p q)) q)
    else (link_committed (slot_in q.block) p q found).run

-- what the part is behind it; its blocks are what `blocks_after` says, so none is lost
pub record IsLinked (m : Meaning) (l : Layout) (p : PartState) (q : RunState) (found : ℕ) (p' : PartState) : Type 0
  where
    pub run : p'.run ≡ run_linked p q found
    pub blocks : p'.blocks ≡ blocks_after m l (link_kind m l p q) p (Some q) found
    pub kept : (q' : RunState) → p'.run ≡ Some q' → stock p q ≤ stock p' q'
    pub nodes : p'.nodes ≡ p.nodes
    pub reads : p'.reads ≡ p.reads
    pub published : p'.published ≡ p.published
    pub finished : p'.records.finished ≡ p.records.finished
    pub descriptors : p'.descriptors ≡ p.descriptors
    pub guards : p'.guards ≡ p.guards
    pub stage : p'.stage ≡ p.stage
    pub present : p'.gone ≡ p.gone

module _ (m : Meaning) (l : Layout) (requests : List Request) where
  -- such a run is in the table, and open once it has loaded its thunk and its done word
  abbrev pub RunsAreInTable : Type 0
  RunsAreInTable = (r : ℕ) (p : PartState) (q : RunState) → IsInRun m l requests r p q → IsInTable m l requests q

  -- the next load of the opening is enabled, and adds what it found
  abbrev pub MayOpen : Type 0
  MayOpen = (r : ℕ) (p : PartState) (q : RunState) → IsInRun m l requests r p q → length q.opened < 13
      → Meets m l requests r p (opening_kind q) (opened_next q)

  abbrev pub ThenOpened : Type 0
  ThenOpened = (r : ℕ) (p : PartState) (q : RunState) (x : Spot × Access) (found : ℕ) → p.run ≡ Some q
      → length q.opened < 13
      → (after m l r (opening_kind q) x.0 x.1 p found).run ≡ Some (record q { opened = q.opened ++ found ∷ [] })

  -- from then on the step that stands next is enabled, but where a Make is to take a slot and has none, or a block is
  -- to be linked first
  abbrev pub MayStep : Type 0
  MayStep = (r : ℕ) (p : PartState) (q : RunState) (micro : Micro) → IsInRun m l requests r p q → length q.opened ≡ 13
      → next_of m q ≡ micro → needs_link q micro ≡ false → has_slot p q micro ≡ true
      → Meets m l requests r p (kind_at p q micro) (ask_at m p q micro)

  -- and then the next step by which one is linked is, where the runner has one
  abbrev pub MayLink : Type 0
  MayLink = (r : ℕ) (p : PartState) (q : RunState) (micro : Micro) → IsInRun m l requests r p q → length q.opened ≡ 13
      → next_of m q ≡ micro → needs_link q micro ≡ true → is_some (next_block p q) ≡ true
      → Meets m l requests r p (link_kind m l p q) (link_ask p q)

  -- behind it the run stands where it stood
  abbrev pub ThenLinked : Type 0
  ThenLinked = (r : ℕ) (p : PartState) (q : RunState) (micro : Micro) (x : Spot × Access) (found : ℕ)
      → IsInRun m l requests r p q → length q.opened ≡ 13 → next_of m q ≡ micro → needs_link q micro ≡ true
      → IsLinked m l p q found (after m l r (link_kind m l p q) x.0 x.1 p found)

  -- a commit goes to the log word behind the words that were agreed on
  abbrev pub CommitsBehind : Type 0
  CommitsBehind = (r k : ℕ) (p : PartState) (q : RunState) (micro : Micro) → IsInRun m l requests r p q
      → length q.opened ≡ 13
      → next_of m q ≡ micro → commits_to micro ≡ Some k → k ≡ length q.trail

  -- and the part is then the one behind it
  abbrev pub ThenStepped : Type 0
  ThenStepped = (r : ℕ) (p : PartState) (q : RunState) (micro : Micro) (x : Spot × Access) (found : ℕ)
      → IsInRun m l requests r p q
      → length q.opened ≡ 13 → next_of m q ≡ micro → needs_link q micro ≡ false → has_slot p q micro ≡ true
      → IsBehind m l p q micro found (after m l r (kind_at p q micro) x.0 x.1 p found)
