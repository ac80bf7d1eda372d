-- Which word the next event of a run meets, and how.
use Rattle.std.specs.Prelude.{ℕ, ◌+◌, ◌-◌, ◌*◌, ◌/◌, ◌^◌, List, Bool, false, not, ◌==◌, ◌&&◌, nat_lt, nat_le, Option, Some, None, length, slice_index, if◌then◌else◌}
use Rattle.runner_parts.specs.structure_laws.specs.body_terms.specs.declared.micro.Micro.{Micro}
use Rattle.runner_parts.specs.structure_laws.specs.body_terms.specs.declared.micro.Micro.TheVariants as micros
use Rattle.runner_parts.specs.structure_laws.specs.body_terms.specs.Word.{version_of, next_word, held_word}
use Rattle.runner_parts.specs.structure_laws.specs.body_terms.specs.Memory.{cell_of}
use Rattle.runner_parts.specs.structure_laws.specs.body_terms.specs.Run.{source_value}
use Rattle.runner_parts.specs.block_words.specs.table_words.specs.declared.layout.Layout.{Layout}
use Rattle.runner_parts.specs.block_words.specs.table_words.specs.Places.{block_words, slot_count, descriptor_count, block_count}
use Rattle.runner_parts.specs.block_words.specs.table_words.specs.declared.spot.Spot.TheVariants as spots
use Rattle.runner_parts.specs.block_words.specs.table_words.specs.declared.access.Access.TheVariants.{Loads, Stores, Exchanges, Raises}
use Rattle.runner_parts.specs.structure_laws.specs.Meaning.{Meaning}
use Rattle.runner_parts.specs.block_words.specs.Blocks.{link_spot, log_spot}
use Rattle.runner_parts.specs.State.{RunState}
use Rattle.runner_steps.specs.Sections.{thunk_of, is_beyond, needs_link}
use Rattle.runner_steps.specs.Outside.{Ask, when, block_spot, blocks_from}

-- the next thunk word
abbrev pub open_more_ask : RunState → Ask
open_more_ask q = when (nat_lt (length q.opened) 12) (spots.ThunkWord q.descriptor (length q.opened)) Loads

-- the done word, after the thunk words
abbrev pub load_done_ask : RunState → Ask
load_done_ask q = when (length q.opened == 12) (spots.DoneWord q.descriptor) Loads

-- one word is agreed on: this proposal, where the log word is still empty. Its part of the log has to be linked before
abbrev pub commit_to : RunState → ℕ → ℕ → Ask
commit_to q log proposal =
    when (not (is_beyond q (Some log))) (log_spot q.descriptor q.links log) (Exchanges 0 proposal)

abbrev pub commit_ask : RunState → Micro → Ask
commit_ask q (micros.Commit place log) = commit_to q log q.word
commit_ask q (micros.NestedCommit place log) = commit_to q log q.word
commit_ask q _ = None

abbrev pub load_cell_ask : RunState → Micro → Ask
load_cell_ask q (micros.LoadCell place log) = Some (spots.Cell place, Loads)
load_cell_ask q _ = None

-- the word's version is below the greatest, so that the cell can be changed once more
abbrev pub can_raise : Layout → ℕ → Bool
can_raise l word = nat_lt (version_of word) l.version_max

abbrev pub exchange_cell_ask : Layout → RunState → Micro → Ask
exchange_cell_ask l q (micros.ExchangeCell place log value) =
    let old = slice_index q.trail log in
    when (can_raise l old) (spots.Cell place) (Exchanges old (next_word old (source_value q.trail value)))
exchange_cell_ask l q _ = None

-- the last of a list
abbrev pub last_of : List ℕ → Option ℕ
last_of xs = if length xs == 0 then None else Some (slice_index xs (length xs - 1))

-- the slot that a Make fills: the one in the own hand, or, at its first step, the last of the free list
abbrev pub make_slot : Option ℕ → List ℕ → Option ℕ
make_slot None free = last_of free
make_slot (Some s) free = Some s

abbrev pub is_slot : Option ℕ → ℕ → Bool
is_slot None slot = false
is_slot (Some s) slot = s == slot

-- the slot is one of the table's, and it has this cell
abbrev pub is_cell : Meaning → Layout → ℕ → ℕ → Bool
is_cell m l slot word = nat_lt slot (slot_count l m.fixed_slots) && nat_lt word 5

abbrev pub fill_load_ask : Meaning → Layout → ℕ → ℕ → List ℕ → RunState → Micro → Ask
fill_load_ask m l slot word free q (micros.PrivateLoad cell log) =
    when (is_cell m l slot word
    && (is_slot (make_slot q.made free) slot && word == cell)) (spots.Cell (cell_of m.fixed_cells slot word)) Loads
fill_load_ask m l slot word free q _ = None

abbrev pub fill_store_ask : Meaning → Layout → ℕ → ℕ → ℕ → RunState → Micro → Ask
fill_store_ask m l slot word number q (micros.PrivateStore cell log value) =
    when (is_cell m l slot word
    && (is_slot q.made slot && (word == cell
    && (can_raise l q.word && number == next_word q.word (source_value q.trail value)))))
    (spots.Cell (cell_of m.fixed_cells slot word)) (Stores number)
fill_store_ask m l slot word number q _ = None

-- before a commit into a part that isn't linked: 0 goes into the words of an own block and into its link, one after the
-- other. The block is the one in the own hand, or, at its first word, the last of the free list
abbrev pub block_empty_ask : Meaning → Layout → ℕ → ℕ → ℕ → List ℕ → RunState → Ask
block_empty_ask m l slot word number free q = let blocks = blocks_from m l in
    when (nat_le blocks slot && (is_slot (make_slot q.block free) (slot - blocks)
    && (word == q.emptied && (nat_lt word block_words && number == 0)))) (block_spot (slot - blocks) word)
    (Stores number)

-- a private store of a run: into a block where it is to link one, and otherwise that of a Make; `blocks` is the list of
-- free blocks
abbrev pub private_store_in_run_ask : Meaning → Layout → ℕ → ℕ → ℕ → List ℕ → RunState → Micro → Ask
private_store_in_run_ask m l slot word number blocks q micro =
    if needs_link q micro then block_empty_ask m l slot word number blocks q
    else fill_store_ask m l slot word number q micro

-- and then the number of this block goes into the link behind the section's last part
abbrev pub link_commit_ask : Layout → ℕ → RunState → Micro → Ask
link_commit_ask l b q micro =
    when (needs_link q micro && (q.emptied == block_words && (is_slot q.block b && nat_lt b (block_count l))))
    (link_spot q.descriptor q.links (length q.links)) (Exchanges 0 (b + 1))

abbrev pub make_commit_to : RunState → ℕ → Option ℕ → Ask
make_commit_to q log None = None
make_commit_to q log (Some s) = commit_to q log (s + 1)

abbrev pub make_commit_ask : RunState → Micro → Ask
make_commit_ask q (micros.MakeCommit log) = make_commit_to q log q.made
make_commit_ask q _ = None

abbrev pub retire_commit_ask : RunState → Micro → Ask
retire_commit_ask q (micros.RetireCommit slot log) = commit_to q log (slot + 1)
retire_commit_ask q _ = None

abbrev pub epoch_for_retire_ask : RunState → Micro → Ask
epoch_for_retire_ask q (micros.EpochForRetire slot log) = Some (spots.Epoch, Loads)
epoch_for_retire_ask q _ = None

abbrev pub clock_load_ask : RunState → Micro → Ask
clock_load_ask q micros.ClockLoad = Some (spots.Clock, Loads)
clock_load_ask q _ = None

-- the stamp that follows a clock number
abbrev pub stamp_after : ℕ → ℕ
stamp_after clock = 2 * (clock + 1)

-- no stamp is made from this clock number on
abbrev pub last_clock : ℕ
last_clock = 2 ^ 62

abbrev pub stamp_exchange_ask : RunState → Micro → Ask
stamp_exchange_ask q micros.StampExchange =
    let t = thunk_of q.opened in
    when (nat_lt q.word last_clock) (spots.Stamp t.request) (Exchanges 0 (stamp_after q.word))
stamp_exchange_ask q _ = None

abbrev pub clock_raise_ask : RunState → Micro → Ask
clock_raise_ask q micros.ClockRaise = Some (spots.Clock, Raises (q.word / 2))
clock_raise_ask q _ = None

abbrev pub reply_exchange_ask : RunState → Micro → Ask
reply_exchange_ask q (micros.ReplyExchange reply) =
    let t = thunk_of q.opened in Some (spots.Reply t.request, Exchanges 0 reply)
reply_exchange_ask q _ = None

abbrev pub nested_load_ask : RunState → Micro → Ask
nested_load_ask q (micros.NestedLoad place log) = Some (spots.Cell place, Loads)
nested_load_ask q _ = None

-- the descriptor is one of the table's, and the free word of the lock can be changed
abbrev pub can_hold : Layout → ℕ → ℕ → Bool
can_hold l descriptor word = nat_lt descriptor (descriptor_count l) && can_raise l word

abbrev pub nested_hold_ask : Layout → RunState → Micro → Ask
nested_hold_ask l q (micros.NestedHold place word) =
    when (can_hold l q.descriptor word) (spots.Cell place) (Exchanges word (held_word q.descriptor word))
nested_hold_ask l q _ = None

abbrev pub outcome_load_ask : RunState → Micro → Ask
outcome_load_ask q (micros.OutcomeLoad place log) = Some (spots.Cell place, Loads)
outcome_load_ask q _ = None

abbrev pub outcome_commit_ask : RunState → Micro → Ask
outcome_commit_ask q (micros.OutcomeCommit place log) = commit_to q log q.word
outcome_commit_ask q _ = None

abbrev pub set_done_ask : RunState → Micro → Ask
set_done_ask q micros.SetDone = Some (spots.DoneWord q.descriptor, Exchanges 0 1)
set_done_ask q _ = None

abbrev pub release_ask : Layout → RunState → Micro → Ask
release_ask l q (micros.Release place word) =
    let held = held_word q.descriptor word in
    when (can_hold l q.descriptor word && can_raise l held) (spots.Cell place) (Exchanges held (next_word held 0))
release_ask l q _ = None
