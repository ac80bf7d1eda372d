-- A runner's part after an event outside a run, which found this word.
use Rattle.std.specs.Prelude.{ℕ, ◌+◌, ◌-◌, [], ◌∷◌, Bool, false, not, ◌==◌, ◌&&◌, nat_lt, nat_le, length, Some, None, if◌then◌else◌}
use Rattle.runner_parts.specs.structure_laws.specs.body_terms.specs.declared.thunk.Thunk.{Thunk}
use Rattle.runner_parts.specs.block_words.specs.table_words.specs.declared.layout.Layout.{Layout}
use Rattle.runner_parts.specs.block_words.specs.table_words.specs.Places.{slot_count}
use Rattle.runner_parts.specs.structure_laws.specs.Meaning.{Meaning}
use Rattle.runner_parts.specs.epoch_core.specs.Moves.{is_clear}
use Rattle.runner_parts.specs.epoch_core.specs.declared.stage.Stage.{Stage}
use Rattle.runner_parts.specs.epoch_core.specs.declared.stage.Stage.TheVariants as stages
use Rattle.runner_parts.specs.declared.entries.Published.{Published}
use Rattle.runner_parts.specs.State.{RunState, DescriptorsState, PartState}
use Rattle.runner_parts.specs.epoch_core.specs.State.{last_epoch}
use Rattle.runner_steps.specs.Outside.{blocks_from}
use Rattle.runner_parts.specs.Lists.{nodes_collected, nodes_looked, descriptor_stored, descriptor_taken, published_seen, named_seen, with_looked, no_reads, cell_read, walked, learned}

abbrev pub with_stage : PartState → Stage → PartState
with_stage p stage = record p { stage = stage }

-- the lists begin anew; a sweep in progress counts for nothing, since what comes into limbo from now on isn't looked
-- for in it
abbrev pub entered : PartState → ℕ → PartState
entered p found =
    record p { stage = stages.Entered found; guards = with_looked p.guards []; reads = no_reads }

-- a scan is over, and this epoch was reached
abbrev pub collected : PartState → ℕ → PartState
collected p epoch = record p { stage = stages.Idle; nodes = nodes_collected epoch p.nodes }

-- after the last announcement the scan is over, unless an advance may be tried
abbrev pub scanned : Layout → PartState → ℕ → ℕ → Bool → PartState
scanned l p x next clear = if next == l.runners && not (clear && nat_lt x last_epoch)
    then collected p x
    else with_stage p (stages.Scanning x (next + 1) clear)

abbrev pub scan_one_after : Layout → PartState → Stage → ℕ → PartState
scan_one_after l p (stages.Scanning x next clear) found =
    if nat_le next l.runners then scanned l p x next (clear && is_clear x found) else p
scan_one_after l p _ found = p

abbrev pub advance_after : PartState → Stage → PartState
advance_after p (stages.Scanning x next clear) = if nat_lt x last_epoch then collected p (x + 1) else p
advance_after p _ = p

abbrev pub split_after : Layout → PartState → PartState
split_after l p =
    if nat_lt p.records.splits l.runners then record p
    { records = record (p.records) { splits = p.records.splits + 1 } } else p

abbrev pub read_after : Meaning → ℕ → PartState → ℕ → PartState
read_after m place p found =
    record p {
      guards = named_seen p.guards (m.is_lock place) found;
      reads = walked p.reads place found;
    }

abbrev pub entry_after : ℕ → Bool → PartState → ℕ → PartState
entry_after request reply p found = record p { records = learned p.records request reply found }

-- this number was stored into this word of an own free descriptor, or found there, where it is one
abbrev pub stored_if : Bool → DescriptorsState → ℕ → ℕ → ℕ → DescriptorsState
stored_if is_one d descriptor word number =
    record d { stored = (if is_one then (descriptor_stored d descriptor word number).stored else d.stored) }

-- of an own free block nothing is kept
abbrev pub descriptor_known : Meaning → Layout → ℕ → ℕ → PartState → ℕ → PartState
descriptor_known m l slot word p number =
    record p {
      descriptors =
          stored_if (nat_lt slot (blocks_from m l)) p.descriptors (slot - slot_count l m.fixed_slots) word number;
    }

-- a cell of a node slot was looked at, or a word of an own free descriptor is known, since nobody else stores there
abbrev pub private_load_after : Meaning → Layout → ℕ → ℕ → PartState → ℕ → PartState
private_load_after m l slot word p found = if nat_lt slot (slot_count l m.fixed_slots)
    then record p { nodes = nodes_looked l p.nodes slot word found }
    else descriptor_known m l slot word p found

abbrev pub private_store_after : Meaning → Layout → ℕ → ℕ → ℕ → PartState → PartState
private_store_after m l slot word number p = descriptor_known m l slot word p number

-- the section with this thunk as it is published in this descriptor
abbrev pub published_by : Thunk → ℕ → PartState → Published
published_by t d p =
    record { descriptor = d; thunk = t; walked = length p.reads.walk; known = length p.records.known }

-- where the lock was free, the section is published; otherwise the descriptor stays free
abbrev pub hold_after : Thunk → ℕ → PartState → ℕ → PartState
hold_after t d p found = if found == t.word
    then record p {
      published = Some (published_by t d p);
      descriptors = descriptor_taken p.descriptors d;
      guards = published_seen p.guards d;
      reads = cell_read p.reads t.lock found;
    }
    else record p { reads = cell_read p.reads t.lock found }

-- a run begins
abbrev pub opened : ℕ → ℕ → RunState
opened d found =
    record {
      descriptor = d;
      opened = found ∷ [];
      at = 0;
      word = 0;
      trail = [];
      made = None;
      worn = false;
      ended = 0;
      links = [];
      block = None;
      emptied = 0;
      won = [];
    }

abbrev pub open_after : ℕ → PartState → ℕ → PartState
open_after d p found = record p { run = Some (opened d found) }
