-- Which event a run makes next.
use Rattle.std.specs.Prelude.{ℕ, zero, ◌+◌, ◌/◌, slice_index, Bool, true, is_some, nat_lt, length, Option, Some, None, if◌then◌else◌}
use Rattle.machine_states.specs.body_terms.specs.declared.micro.Micro.{Micro}
use Rattle.machine_states.specs.body_terms.specs.declared.micro.Micro.TheVariants as micros
use Rattle.machine_states.specs.body_terms.specs.Memory.{cell_of}
use Rattle.machine_states.specs.body_terms.specs.Word.{next_word, held_word}
use Rattle.machine_states.specs.body_terms.specs.Run.{source_value}
use Rattle.machine_states.specs.table_words.specs.declared.spot.Spot.{Spot}
use Rattle.machine_states.specs.table_words.specs.declared.spot.Spot.TheVariants.{Epoch, Clock, Stamp, Reply, Cell, ThunkWord, DoneWord}
use Rattle.machine_states.specs.table_words.specs.declared.access.Access.{Access}
use Rattle.machine_states.specs.table_words.specs.declared.access.Access.TheVariants.{Loads, Stores, Exchanges, Raises}
use Rattle.machine_states.specs.structure_laws.specs.Meaning.{Meaning}
use Rattle.machine_states.specs.runner_parts.specs.declared.event.EventKind.{EventKind}
use Rattle.machine_states.specs.runner_parts.specs.declared.event.EventKind.TheVariants as kinds
use Rattle.machine_states.specs.runner_parts.specs.State.{RunState, PartState}
use Rattle.machine_states.specs.body_terms.specs.block_words.specs.Blocks.{link_spot, log_spot}
use Rattle.machine_states.specs.table_words.specs.declared.layout.Layout.{Layout}
use Rattle.machine_states.specs.table_words.specs.Places.{block_words}
use Rattle.machine_states.specs.runner_steps.specs.Outside.{block_spot, blocks_from}
use Rattle.machine_states.specs.runner_steps.specs.Sections.{thunk_of, is_open_run, next_of, needs_link}
use Rattle.machine_states.specs.runner_steps.specs.InRun.{make_slot, stamp_after}

-- a slot's number, and 0 where there is none
abbrev pub slot_in : Option ℕ → ℕ
slot_in None = 0
slot_in (Some slot) = slot

-- the kind of event that this step of a run is, with its arguments; no run stands before a check or the end of its line
abbrev pub kind_at : PartState → RunState → Micro → EventKind
kind_at p q (micros.LoadCell place log) = kinds.LoadCell None
kind_at p q (micros.Commit place log) = kinds.Commit
kind_at p q (micros.CheckWord place log word) = kinds.SetDone
kind_at p q (micros.CheckFresh place log) = kinds.SetDone
kind_at p q (micros.NestedLoad place log) = kinds.NestedLoad
kind_at p q (micros.NestedCommit place log) = kinds.Commit
kind_at p q (micros.CheckFree place log word) = kinds.SetDone
kind_at p q (micros.NestedHold place word) = kinds.NestedHold
kind_at p q (micros.OutcomeLoad place log) = kinds.OutcomeLoad
kind_at p q (micros.OutcomeCommit place log) = kinds.OutcomeCommit
kind_at p q (micros.CheckHeld place log word) = kinds.SetDone
kind_at p q (micros.PrivateLoad cell log) = kinds.PrivateLoad (slot_in (make_slot q.made p.nodes.free)) cell
kind_at p q (micros.PrivateStore cell log value) =
    kinds.PrivateStore (slot_in q.made) cell (next_word q.word (source_value q.trail value))
kind_at p q (micros.MakeCommit log) = kinds.MakeCommit
kind_at p q micros.ClockLoad = kinds.ClockLoad
kind_at p q micros.StampExchange = kinds.StampExchange
kind_at p q micros.ClockRaise = kinds.ClockRaise
kind_at p q (micros.ExchangeCell place log value) = kinds.ExchangeCell
kind_at p q (micros.EpochForRetire slot log) = kinds.EpochForRetire
kind_at p q (micros.RetireCommit slot log) = kinds.RetireCommit
kind_at p q (micros.ReplyExchange reply) = kinds.ReplyExchange
kind_at p q micros.End = kinds.SetDone
kind_at p q micros.SetDone = kinds.SetDone
kind_at p q (micros.Release place word) = kinds.Release

-- what a run loads that hasn't loaded its thunk and its done word yet
abbrev pub opening_kind : RunState → EventKind
opening_kind q = if nat_lt (length q.opened) 12 then kinds.LoadThunk None else kinds.LoadDone

-- the block that a run is to link: the one in its hand, or else the last of the free list
abbrev pub next_block : PartState → RunState → Option ℕ
next_block p q = make_slot q.block p.blocks.free

-- how many blocks there are of those that a run knows, the one in its hand, and its runner's free ones
abbrev pub stock : PartState → RunState → ℕ
stock p q = length q.links + (if is_some q.block then 1 else 0) + length p.blocks.free

-- what a run does that stands before a commit into a part of its log that isn't linked: one after the other it makes
-- the words of its block 0, and then it puts the block into the link behind the last part
abbrev pub link_kind : Meaning → Layout → PartState → RunState → EventKind
link_kind m l p q =
    if nat_lt q.emptied block_words then kinds.PrivateStore (blocks_from m l + slot_in (next_block p q)) q.emptied 0
    else kinds.LinkCommit (slot_in q.block)

-- the kind of event that a run makes next
abbrev pub next_kind : Meaning → Layout → PartState → RunState → EventKind
next_kind m l p q = if is_open_run q then (
    if needs_link q (next_of m q) then link_kind m l p q else kind_at p q (next_of m q))
    else opening_kind q

-- the word that this step of a run meets, and what it does there; no run stands before a check or the end of its line
abbrev pub ask_at : Meaning → PartState → RunState → Micro → Spot × Access
ask_at m p q (micros.LoadCell place log) = (Cell place, Loads)
ask_at m p q (micros.Commit place log) = (log_spot q.descriptor q.links log, Exchanges 0 q.word)
ask_at m p q (micros.CheckWord place log word) = (DoneWord q.descriptor, Exchanges 0 1)
ask_at m p q (micros.CheckFresh place log) = (DoneWord q.descriptor, Exchanges 0 1)
ask_at m p q (micros.NestedLoad place log) = (Cell place, Loads)
ask_at m p q (micros.NestedCommit place log) = (log_spot q.descriptor q.links log, Exchanges 0 q.word)
ask_at m p q (micros.CheckFree place log word) = (DoneWord q.descriptor, Exchanges 0 1)
ask_at m p q (micros.NestedHold place word) = (Cell place, Exchanges word (held_word q.descriptor word))
ask_at m p q (micros.OutcomeLoad place log) = (Cell place, Loads)
ask_at m p q (micros.OutcomeCommit place log) = (log_spot q.descriptor q.links log, Exchanges 0 q.word)
ask_at m p q (micros.CheckHeld place log word) = (DoneWord q.descriptor, Exchanges 0 1)
ask_at m p q (micros.PrivateLoad cell log) =
    (Cell (cell_of m.fixed_cells (slot_in (make_slot q.made p.nodes.free)) cell), Loads)
ask_at m p q (micros.PrivateStore cell log value) =
    (Cell (cell_of m.fixed_cells (slot_in q.made) cell), Stores (next_word q.word (source_value q.trail value)))
ask_at m p q (micros.MakeCommit log) = (log_spot q.descriptor q.links log, Exchanges 0 (slot_in q.made + 1))
ask_at m p q micros.ClockLoad = (Clock, Loads)
ask_at m p q micros.StampExchange = (Stamp ((thunk_of q.opened).request), Exchanges 0 (stamp_after q.word))
ask_at m p q micros.ClockRaise = (Clock, Raises (q.word / 2))
ask_at m p q (micros.ExchangeCell place log value) =
    let old = slice_index q.trail log in (Cell place, Exchanges old (next_word old (source_value q.trail value)))
ask_at m p q (micros.EpochForRetire slot log) = (Epoch, Loads)
ask_at m p q (micros.RetireCommit slot log) = (log_spot q.descriptor q.links log, Exchanges 0 (slot + 1))
ask_at m p q (micros.ReplyExchange reply) = (Reply ((thunk_of q.opened).request), Exchanges 0 reply)
ask_at m p q micros.End = (DoneWord q.descriptor, Exchanges 0 1)
ask_at m p q micros.SetDone = (DoneWord q.descriptor, Exchanges 0 1)
ask_at m p q (micros.Release place word) =
    let held = held_word q.descriptor word in (Cell place, Exchanges held (next_word held 0))

-- the word that the opening loads next
abbrev pub opened_next : RunState → Spot × Access
opened_next q =
    if nat_lt (length q.opened) 12 then (ThunkWord q.descriptor (length q.opened), Loads) else (
      DoneWord q.descriptor,
      Loads,
    )

-- the word that it meets where it links a block, and what it does there
abbrev pub link_ask : PartState → RunState → Spot × Access
link_ask p q =
    if nat_lt q.emptied block_words then (block_spot (slot_in (next_block p q)) q.emptied, Stores 0) else (
      link_spot q.descriptor q.links (length q.links),
      Exchanges 0 (slot_in q.block + 1),
    )

-- the word that a run meets next, and what it does there
abbrev pub next_ask : Meaning → PartState → RunState → Spot × Access
next_ask m p q = if is_open_run q then (
    if needs_link q (next_of m q) then link_ask p q else ask_at m p q (next_of m q))
    else opened_next q

-- the first private load of a Make takes a slot, the last of the free list
abbrev pub has_slot : PartState → RunState → Micro → Bool
has_slot p q (micros.PrivateLoad zero log) = is_some (make_slot q.made p.nodes.free)
has_slot p q _ = true

-- what a run takes before this step is there: a block to link, or a slot for its Make
abbrev pub has_next : PartState → RunState → Micro → Bool
has_next p q micro = if needs_link q micro then is_some (next_block p q) else has_slot p q micro
