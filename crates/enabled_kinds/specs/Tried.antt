-- The events that are tried, for kinds whose events carry arguments.
use Rattle.std.specs.Prelude.{ℕ, ◌+◌, ◌%◌, ◌^◌, nat_lt, List, [], ◌∷◌, Option, Some, None, if◌then◌else◌}
use Rattle.machine_states.specs.body_terms.specs.declared.thunk.Thunk.{Thunk}
use Rattle.machine_states.specs.body_terms.specs.declared.micro.Micro.{Micro}
use Rattle.machine_states.specs.body_terms.specs.declared.micro.Micro.TheVariants as micros
use Rattle.machine_states.specs.body_terms.specs.Word.{next_word}
use Rattle.machine_states.specs.body_terms.specs.Run.{source_value}
use Rattle.machine_states.specs.table_words.specs.declared.layout.Layout.{Layout}
use Rattle.machine_states.specs.structure_laws.specs.Meaning.{Meaning}
use Rattle.machine_states.specs.runner_parts.specs.declared.entries.Stored.{Stored}
use Rattle.machine_states.specs.runner_parts.specs.declared.event.EventKind.{EventKind}
use Rattle.machine_states.specs.runner_parts.specs.declared.event.EventKind.TheVariants as kinds
use Rattle.machine_states.specs.runner_parts.specs.State.{RunState}
use Rattle.machine_states.specs.runner_parts.specs.Tests.{last_stored}
use Rattle.machine_states.specs.table_words.specs.Places.{block_count}
use Rattle.runner_steps.specs.Sections.{is_open_run, next_of, needs_link}
use Rattle.runner_steps.specs.Outside.{blocks_from}
use Rattle.runner_steps.specs.InRun.{make_slot, can_raise}

-- a run begins with the descriptor that the guard word names
abbrev pub begun : Option ℕ → Option EventKind
begun None = None
begun (Some d) = Some (kinds.LoadThunk (Some d))

-- the private load of the cell at which a Make is, in this slot
abbrev pub load_at : Option ℕ → Micro → Option EventKind
load_at (Some slot) (micros.PrivateLoad cell log) = Some (kinds.PrivateLoad slot cell)
load_at _ _ = None

-- the private load that a run makes next; `free` is the list of free node slots
abbrev pub made_load : Meaning → List ℕ → Option RunState → Option EventKind
made_load m free None = None
made_load m free (Some q) = if is_open_run q then load_at (make_slot q.made free) (next_of m q) else None

-- the private store of the next word into the cell at which a Make is, in this slot
abbrev pub store_at : Layout → RunState → Option ℕ → Micro → Option EventKind
store_at l q (Some slot) (micros.PrivateStore cell log value) =
    if can_raise l q.word then Some (kinds.PrivateStore slot cell (next_word q.word (source_value q.trail value))) else
    None
store_at l q _ _ = None

-- the store into the next word of this block, which a run empties to link it
abbrev pub emptied_at : Meaning → Layout → RunState → Option ℕ → Option EventKind
emptied_at m l q None = None
emptied_at m l q (Some block) =
    if nat_lt block (block_count l) then Some (kinds.PrivateStore (blocks_from m l + block) q.emptied 0) else None

-- the private store of a run that stands before this step
abbrev pub stored_next : Meaning → Layout → List ℕ → RunState → Micro → Option EventKind
stored_next m l blocks q micro =
    if needs_link q micro then emptied_at m l q (make_slot q.block blocks) else store_at l q q.made micro

-- the private store that a run makes next; `blocks` is the list of free blocks
abbrev pub made_store : Meaning → Layout → List ℕ → Option RunState → Option EventKind
made_store m l blocks None = None
made_store m l blocks (Some q) = if is_open_run q then stored_next m l blocks q (next_of m q) else None

-- the link of the block in the hand
abbrev pub link_of : Option ℕ → Option EventKind
link_of None = None
link_of (Some block) = Some (kinds.LinkCommit block)

-- the link that a run may make next
abbrev pub linked : Option RunState → Option EventKind
linked None = None
linked (Some q) = link_of q.block

abbrev pub or_zero : Option ℕ → ℕ
or_zero None = 0
or_zero (Some number) = number

-- the thunk that was stored last into the words of this descriptor
abbrev pub stored_thunk : List Stored → ℕ → Thunk
stored_thunk stored d = let word = λ (j : ℕ). or_zero (last_stored stored d j None) in record {
  form = word 0;
  request = word 1 % 2 ^ 32;
  lock = word 2 % 2 ^ 32;
  word = word 3;
  operands = word 4 ∷ word 5 ∷ word 6 ∷ word 7 ∷ word 8 ∷ word 9 ∷ word 10 ∷ word 11 ∷ [];
}

-- a thunk of zeros: whether a read may be announced doesn't go by its thunk
abbrev pub no_thunk : Thunk
no_thunk = record { form = 0; request = 0; lock = 0; word = 0; operands = 0 ∷ 0 ∷ 0 ∷ 0 ∷ 0 ∷ 0 ∷ 0 ∷ 0 ∷ [] }
