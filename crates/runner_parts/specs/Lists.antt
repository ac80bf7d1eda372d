-- How a runner's lists change.
use Rattle.std.specs.Prelude.{ℕ, ◌+◌, ◌-◌, List, [], ◌∷◌, ◌++◌, Bool, true, false, not, ◌==◌, ◌&&◌, ◌||◌, nat_lt, nat_le, map, length, Option, None, if◌then◌else◌}
use Rattle.std.specs.List.{filter}
use Rattle.structure_laws.specs.body_terms.specs.Word.{value_of, version_of, is_free}
use Rattle.block_words.specs.table_words.specs.declared.layout.Layout.{Layout}
use Rattle.runner_parts.specs.declared.entries.Retired.{Retired}
use Rattle.runner_parts.specs.declared.entries.Tested.{Tested}
use Rattle.runner_parts.specs.declared.entries.Waiting.{Waiting}
use Rattle.runner_parts.specs.declared.entries.BoardRead.{BoardRead}
use Rattle.runner_parts.specs.declared.entries.Tried.{Tried}
use Rattle.runner_parts.specs.declared.entries.Tried.TheVariants as tries
use Rattle.guard_core.specs.Moves.{is_unnamed}
use Rattle.runner_parts.specs.State.{NodesState, DescriptorsState, BlocksState, GuardsState, ReadsState, RecordsState}
use Rattle.runner_parts.specs.Tests.{has, is_some_of}

-- the list without this number
abbrev pub without : List ℕ → ℕ → List ℕ
without xs x = filter (λ y. not (y == x)) xs

-- retired long enough ago to be used again: two epochs before this one
abbrev pub is_old : ℕ → Retired → Bool
is_old epoch x = nat_le (x.epoch + 2) epoch

abbrev pub slots_of : List Retired → List ℕ
slots_of xs = map (λ x. x.slot) xs

-- how many entries a runner's lists of node slots have
abbrev pub entry_count : NodesState → ℕ
entry_count n = length n.hand + (length n.free + (length n.worn + length n.limbo))

-- the slots that have waited long enough go from limbo to the hand
abbrev pub nodes_collected : ℕ → NodesState → NodesState
nodes_collected epoch n =
    record n {
      hand = n.hand ++ slots_of (filter (is_old epoch) n.limbo);
      limbo = filter (λ x. not (is_old epoch x)) n.limbo;
    }

-- how far the slot's cells have been looked at
abbrev pub test_of : List Tested → ℕ → Tested
test_of [] slot = record { slot = slot; cells = 0; worn = false }
test_of (x ∷ xs) slot = if x.slot == slot then x else test_of xs slot

abbrev pub tests_without : List Tested → ℕ → List Tested
tests_without xs slot = filter (λ x. not (x.slot == slot)) xs

-- a slot comes back to the free list, or to the worn list
abbrev pub slot_back : NodesState → ℕ → Bool → NodesState
slot_back n slot true =
    record n { hand = without n.hand slot; tests = tests_without n.tests slot; worn = n.worn ++ slot ∷ [] }
slot_back n slot false =
    record n { hand = without n.hand slot; tests = tests_without n.tests slot; free = n.free ++ slot ∷ [] }

-- a slot in the hand of which one more cell was looked at: after the fifth it comes back
abbrev pub slot_tested : NodesState → Tested → NodesState
slot_tested n x =
    if x.cells == 5 then slot_back n x.slot x.worn else record n { tests = tests_without n.tests x.slot ++ x ∷ [] }

-- one more cell of a slot, with this word
abbrev pub one_more : Layout → Tested → ℕ → Tested
one_more l x word = record { slot = x.slot; cells = x.cells + 1; worn = x.worn || version_of word == l.version_max }

-- after a private load outside a run: only the next of the five cells of a slot in the hand counts
abbrev pub nodes_looked : Layout → NodesState → ℕ → ℕ → ℕ → NodesState
nodes_looked l n slot cell word = let x = test_of n.tests slot in
    if has n.hand slot && (cell == x.cells && nat_lt cell 5) then slot_tested n (one_more l x word) else n

-- a Make takes the last free slot into the hand
abbrev pub slot_taken : NodesState → ℕ → NodesState
slot_taken n slot = record n { free = without n.free slot; hand = n.hand ++ slot ∷ [] }

-- a made slot leaves the hand for good
abbrev pub slot_made : NodesState → ℕ → NodesState
slot_made n slot = record n { hand = without n.hand slot }

-- a free slot goes onto the board, and one from the board comes to the end of the free list
abbrev pub slot_given : NodesState → ℕ → NodesState
slot_given n slot = record n { free = without n.free slot }

abbrev pub slot_drawn : NodesState → ℕ → NodesState
slot_drawn n slot = record n { free = n.free ++ slot ∷ [] }

-- a word of the board was loaded; the latest load stands first
abbrev pub board_read : List BoardRead → ℕ → ℕ → List BoardRead
board_read board word found = record { word = word; read = found; tried = tries.Not } ∷ board

-- an exchange on a word of the board is noted with the runner's last load of it, if there is one
abbrev pub tried_as : Bool → Tried
tried_as true = tries.Won
tried_as false = tries.Lost

abbrev pub board_tried : List BoardRead → ℕ → Bool → List BoardRead
board_tried [] word won = []
board_tried (x ∷ xs) word won =
    if x.word == word then record x { tried = tried_as won } ∷ xs else x ∷ board_tried xs word won

abbrev pub slot_retired : NodesState → ℕ → ℕ → NodesState
slot_retired n slot epoch = record n { limbo = n.limbo ++ record { slot = slot; epoch = epoch } ∷ [] }

-- this number was stored into a word of an own free descriptor, or found there
abbrev pub descriptor_stored : DescriptorsState → ℕ → ℕ → ℕ → DescriptorsState
descriptor_stored d descriptor word number =
    record d { stored = d.stored ++ record { descriptor = descriptor; word = word; number = number } ∷ [] }

-- a published descriptor leaves the free list, and what was stored into it is forgotten
abbrev pub descriptor_taken : DescriptorsState → ℕ → DescriptorsState
descriptor_taken d descriptor =
    record d { free = without d.free descriptor; stored = filter (λ x. not (x.descriptor == descriptor)) d.stored }

abbrev pub descriptor_retired : DescriptorsState → ℕ → DescriptorsState
descriptor_retired d descriptor = record d { limbo = d.limbo ++ descriptor ∷ [] }

-- at the end of a sweep that read these guard words, the descriptors that none of them names go from limbo to the
-- free list
abbrev pub descriptors_swept : List ℕ → DescriptorsState → DescriptorsState
descriptors_swept words d =
    record d {
      free = d.free ++ filter (is_unnamed words) d.limbo;
      limbo = filter (λ x. not (is_unnamed words x)) d.limbo;
    }

-- a block is taken out of the free list, to be emptied and linked
abbrev pub block_taken : BlocksState → ℕ → BlocksState
block_taken b block = record b { free = without b.free block }

-- one whose link was lost comes back
abbrev pub block_back : BlocksState → ℕ → BlocksState
block_back b block = record b { free = b.free ++ block ∷ [] }

-- at the end of a run the blocks that it linked go into limbo under its descriptor
abbrev pub all_under : ℕ → List ℕ → List Waiting
all_under descriptor blocks = map (λ x. record { block = x; descriptor = descriptor }) blocks

abbrev pub blocks_retired : BlocksState → List ℕ → ℕ → BlocksState
blocks_retired b won descriptor = record b { limbo = b.limbo ++ all_under descriptor won }

-- blocks that lie under a descriptor which passes the test go from limbo to the free list
abbrev pub blocks_freed : (ℕ → Bool) → BlocksState → BlocksState
blocks_freed test b =
    record b {
      free = b.free ++ map (λ x. x.block) (filter (λ x. test x.descriptor) b.limbo);
      limbo = filter (λ x. not (test x.descriptor)) b.limbo;
    }

-- where the runner becomes sure of this descriptor: what lies under it is of an older publication
abbrev pub blocks_given_back : ℕ → BlocksState → BlocksState
blocks_given_back descriptor b = blocks_freed (λ d. d == descriptor) b

-- nothing is guarded, and no guard word has been read
abbrev pub no_guards : GuardsState
no_guards = record { named = None; sure = false; looked = [] }

-- this descriptor was seen published: the runner is sure of it, if its guard word names it
abbrev pub published_seen : GuardsState → ℕ → GuardsState
published_seen g d = record g { sure = g.sure || is_some_of g.named d }

-- a word was read: where it is a lock's and names a descriptor, that one is published
abbrev pub named_seen : GuardsState → Bool → ℕ → GuardsState
named_seen g lock word = if lock && not (is_free word) then published_seen g (value_of word - 1) else g

-- a word was read, and the runner has this at its guard word: it is a lock's, and names the descriptor that the guard
-- word names
abbrev pub names_guarded : GuardsState → Bool → ℕ → Bool
names_guarded g lock word = lock && (not (is_free word) && is_some_of g.named (value_of word - 1))

-- then the runner is sure of that descriptor
abbrev pub blocks_seen : GuardsState → Bool → ℕ → BlocksState → BlocksState
blocks_seen g lock word b = if names_guarded g lock word then blocks_given_back (value_of word - 1) b else b

-- the guard word names this from now on, and nothing has been seen of it
abbrev pub guard_moved : GuardsState → Option ℕ → GuardsState
guard_moved g d = record g { named = d; sure = false }

-- the guard words read so far in the sweep
abbrev pub with_looked : GuardsState → List ℕ → GuardsState
with_looked g words = record g { looked = words }

-- nothing has been read yet
abbrev pub no_reads : ReadsState
no_reads = record { walk = []; cells = []; look = None }

-- one more cell was read
abbrev pub cell_read : ReadsState → ℕ → ℕ → ReadsState
cell_read s place word = record s { cells = s.cells ++ (place, word) ∷ [] }

-- a cell was read outside a run
abbrev pub walked : ReadsState → ℕ → ℕ → ReadsState
walked s place word =
    record s { walk = s.walk ++ (place, word) ∷ []; cells = s.cells ++ (place, word) ∷ [] }

-- a stamp or reply word was read: it is known where it isn't 0
abbrev pub learned : RecordsState → ℕ → Bool → ℕ → RecordsState
learned s request reply number =
    if number == 0 then s else record s {
      known = s.known
          ++ record { request = request; reply = reply; number = number } ∷ [];
    }
