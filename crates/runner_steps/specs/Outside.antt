-- Which word an event outside a run meets, and how.
use Rattle.std.specs.Prelude.{ℕ, ◌+◌, ◌-◌, List, Bool, true, false, not, ◌==◌, ◌&&◌, ◌||◌, nat_lt, nat_le, Option, Some, None, slice_get, length, if◌then◌else◌, is_none}
use Rattle.runner_parts.specs.structure_laws.specs.map_history.specs.declared.op.Request.{Request}
use Rattle.runner_parts.specs.structure_laws.specs.body_terms.specs.declared.thunk.Thunk.{Thunk}
use Rattle.runner_parts.specs.structure_laws.specs.body_terms.specs.Word.{held_word}
use Rattle.runner_parts.specs.structure_laws.specs.body_terms.specs.Memory.{cell_of}
use Rattle.runner_parts.specs.block_words.specs.table_words.specs.declared.layout.Layout.{Layout}
use Rattle.runner_parts.specs.block_words.specs.table_words.specs.declared.spot.Spot.{Spot}
use Rattle.runner_parts.specs.block_words.specs.table_words.specs.declared.spot.Spot.TheVariants as spots
use Rattle.runner_parts.specs.block_words.specs.table_words.specs.declared.access.Access.{Access}
use Rattle.runner_parts.specs.block_words.specs.table_words.specs.declared.access.Access.TheVariants.{Loads, Stores, Exchanges}
use Rattle.runner_parts.specs.block_words.specs.table_words.specs.Places.{part_words, slot_count, descriptor_count}
use Rattle.runner_parts.specs.structure_laws.specs.Meaning.{Meaning}
use Rattle.runner_parts.specs.epoch_core.specs.State.{last_epoch}
use Rattle.runner_parts.specs.epoch_core.specs.declared.stage.Stage.{Stage}
use Rattle.runner_parts.specs.epoch_core.specs.declared.stage.Stage.TheVariants as stages
use Rattle.runner_parts.specs.declared.entries.Known.{Known}
use Rattle.runner_parts.specs.State.{GuardsState, PartState}
use Rattle.runner_parts.specs.Tests.{has, is_walking, is_resting, is_outside, is_next, is_prepared, is_open, serves, is_readable, is_between, is_some_of}

-- a word and what the step does with it; None where the event isn't enabled
abbrev pub Ask : Type 0
Ask = Option (Spot × Access)

-- this ask, where the test holds
abbrev pub when : Bool → Spot → Access → Ask
when test spot access = if test then Some (spot, access) else None

abbrev pub enter_load_ask : Stage → Ask
enter_load_ask stages.Idle = Some (spots.Epoch, Loads)
enter_load_ask _ = None

abbrev pub announce_ask : ℕ → Stage → Ask
announce_ask r (stages.Loaded e) = Some (spots.Announcement r, Stores e)
announce_ask r _ = None

-- where its announcement was stored, and the reply of a read of its isn't without its stamp
abbrev pub enter_again_by : Bool → Stage → Ask
enter_again_by true _ = None
enter_again_by false stages.Announced = Some (spots.Epoch, Loads)
enter_again_by false _ = None

abbrev pub enter_again_ask : PartState → Ask
enter_again_ask p = enter_again_by (is_between p.reads.look) p.stage

-- not while it has a published section that it hasn't run to its end, or its guard word names a descriptor, or the
-- reply of a read of its is without its stamp
abbrev pub idle_ask : ℕ → PartState → Ask
idle_ask r p =
    when (is_walking p.stage p.run
    && (is_none p.published && (is_none p.guards.named && not (is_between p.reads.look))))
    (spots.Announcement r) (Stores 0)

-- the next announcement, the keeper's last
abbrev pub scan_one_ask : Layout → ℕ → Stage → Ask
scan_one_ask l n (stages.Scanning x next clear) = when (n == next && nat_le next l.runners) (spots.Announcement n) Loads
scan_one_ask l n _ = None

-- after the last announcement, where each was idle or the epoch
abbrev pub advance_ask : Layout → Stage → Ask
advance_ask l (stages.Scanning x next clear) =
    when (nat_lt l.runners next && (clear && nat_lt x last_epoch)) spots.Epoch (Exchanges x (x + 1))
advance_ask l _ = None

-- the keeper splits off each worker once
abbrev pub split_ask : Layout → ℕ → PartState → Ask
split_ask l r p = when (r == l.runners && (is_outside p.run && nat_lt p.records.splits l.runners)) spots.Seat Loads

-- the keeper joins each worker once
abbrev pub join_ask : Layout → ℕ → ℕ → PartState → Ask
join_ask l r worker p =
    when (r == l.runners && (is_outside p.run
    && (nat_lt worker l.runners && not (has p.records.joined worker)))) spots.Seat Loads

abbrev pub read_ask : Meaning → ℕ → PartState → Ask
read_ask m place p = when (is_walking p.stage p.run && is_readable m p.reads.walk place) (spots.Cell place) Loads

abbrev pub entry_spot : ℕ → Bool → Spot
entry_spot request true = spots.Reply request
entry_spot request false = spots.Stamp request

abbrev pub entry_ask : ℕ → Bool → PartState → Ask
entry_ask request reply p = when (is_resting p.stage p.run) (entry_spot request reply) Loads

-- a descriptor's word: the thunk words, the done word, the first part of the log, the link
abbrev pub descriptor_spot : ℕ → ℕ → Spot
descriptor_spot d word =
    if nat_lt word 12 then spots.ThunkWord d word else
    (if word == 12 then spots.DoneWord d else
    (if word == 13 + part_words then spots.LinkWord d else spots.LogWord d (word - 13)))

-- a block's word: a part of a log, the link
abbrev pub block_spot : ℕ → ℕ → Spot
block_spot b word = if word == part_words then spots.BlockLink b else spots.BlockWord b word

-- the first number of a block, behind the node slots and the descriptors
abbrev pub blocks_from : Meaning → Layout → ℕ
blocks_from m l = slot_count l m.fixed_slots + descriptor_count l

-- a cell of an own free node slot, or of one in the own hand; a word of an own free descriptor; a word of an own free
-- block
abbrev pub private_load_ask : Meaning → Layout → ℕ → ℕ → PartState → Ask
private_load_ask m l slot word p = let slots = slot_count l m.fixed_slots in let blocks = blocks_from m l in
    if nat_lt slot slots
    then when (is_resting p.stage p.run
    && (nat_lt word 5 && (has p.nodes.free slot
    || has p.nodes.hand slot))) (spots.Cell (cell_of m.fixed_cells slot word)) Loads
    else (if nat_lt slot blocks
    then when (is_resting p.stage p.run
    && has p.descriptors.free (slot - slots)) (descriptor_spot (slot - slots) word) Loads
    else when (is_resting p.stage p.run && has p.blocks.free (slot - blocks)) (block_spot (slot - blocks) word) Loads)

-- a word of an own free descriptor; or 0 into a word of an own free block
abbrev pub private_store_ask : Meaning → Layout → ℕ → ℕ → ℕ → PartState → Ask
private_store_ask m l slot word number p = let slots = slot_count l m.fixed_slots in let blocks = blocks_from m l in
    if nat_lt slot blocks
    then when (nat_le slots slot && (is_resting p.stage p.run
    && has p.descriptors.free (slot - slots))) (descriptor_spot (slot - slots) word) (Stores number)
    else when (is_resting p.stage p.run
    && (has p.blocks.free (slot - blocks) && number == 0)) (block_spot (slot - blocks) word) (Stores number)

-- the thunk serves the worker's next request
abbrev pub is_due : Meaning → Layout → List Request → ℕ → List Known → List (ℕ × ℕ) → Thunk → Bool
is_due m l requests r known walk t =
    let request = slice_get requests t.request in is_next l r requests known request && serves m l walk t request

-- the thunk may be published: its lock's word was read free, no section of the runner's is published, and no reply of a
-- read is without its stamp
abbrev pub is_publishable : Meaning → Layout → List Request → ℕ → Thunk → PartState → Bool
is_publishable m l requests r t p =
    is_walking p.stage p.run && (is_none p.published && (not (is_between p.reads.look)
    && (is_open l p.reads.cells t && is_due m l requests r p.records.known p.reads.walk t)))

-- the own free descriptor's words were stored with this thunk, which has eight operands, and the guard word names it
abbrev pub is_ready : Layout → PartState → ℕ → Thunk → Bool
is_ready l p d t =
    nat_lt d (descriptor_count l)
    && (has p.descriptors.free d && (is_some_of p.guards.named d
    && (length t.operands == 8 && is_prepared p.descriptors.stored d t)))

abbrev pub hold_ask : Meaning → Layout → List Request → ℕ → Thunk → ℕ → PartState → Ask
hold_ask m l requests r t d p =
    when (is_ready l p d t && is_publishable m l requests r t p) (spots.Cell t.lock)
    (Exchanges t.word (held_word d t.word))

-- the runner is sure of this descriptor: its guard word names it, and it has seen it published since
abbrev pub is_sure_of : GuardsState → ℕ → Bool
is_sure_of g d = g.sure && is_some_of g.named d

-- a run begins with the first thunk word of a descriptor of which the runner is sure
abbrev pub open_ask : ℕ → PartState → Ask
open_ask d p = when (is_walking p.stage p.run && is_sure_of p.guards d) (spots.ThunkWord d 0) Loads
