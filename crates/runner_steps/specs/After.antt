-- A runner's part after an event, and the state after it.
use Rattle.std.specs.Prelude.{ℕ, ◌+◌, List, [], ◌∷◌, ◌++◌, Bool, true, false, not, ◌||◌, ◌==◌, nat_lt, Option, Some, None, if◌then◌else◌}
use Rattle.runner_parts.specs.block_words.specs.table_words.specs.declared.layout.Layout.{Layout}
use Rattle.runner_parts.specs.block_words.specs.table_words.specs.declared.spot.Spot.{Spot}
use Rattle.runner_parts.specs.block_words.specs.table_words.specs.declared.spot.Spot.TheVariants as spots
use Rattle.runner_parts.specs.block_words.specs.table_words.specs.declared.access.Access.{Access}
use Rattle.runner_parts.specs.block_words.specs.table_words.specs.Access.{written, wins}
use Rattle.runner_parts.specs.structure_laws.specs.Meaning.{Meaning}
use Rattle.runner_parts.specs.declared.event.EventKind.{EventKind}
use Rattle.runner_parts.specs.declared.event.EventKind.TheVariants as kinds
use Rattle.runner_parts.specs.epoch_core.specs.declared.stage.Stage.TheVariants as stages
use Rattle.runner_parts.specs.declared.entries.Left.{Left}
use Rattle.runner_parts.specs.structure_laws.specs.body_terms.specs.declared.micro.Micro.{Micro}
use Rattle.runner_parts.specs.State.{RunState, PartState, RecordsState}
use Rattle.runner_steps.specs.Sections.{is_open_run, next_of}
use Rattle.runner_steps.specs.AfterOutside.{with_stage, entered, scan_one_after, advance_after, split_after, read_after, entry_after, private_load_after, private_store_after, hold_after, open_after}
use Rattle.runner_steps.specs.Reads.{read_plan_after, read_clock_after, read_reply_after, read_stamped_after, only_loads_after}
use Rattle.runner_steps.specs.Guards.{guard_after, load_guard_after}
use Rattle.runner_steps.specs.Blocks.{blocks_after}
use Rattle.runner_steps.specs.Board.{board_take_after, board_give_after, board_after}
use Rattle.runner_steps.specs.AfterInRun.{opened_more, word_committed, cell_loaded, cell_exchanged, fill_loaded, private_stored, link_committed, make_committed, retire_committed, number_loaded, stamp_agreed, clock_raised, reply_agreed, done_set, lock_released, place_of, retired_slot_of, reply_word_of}

-- the keeper has joined this worker
abbrev pub joins : PartState → ℕ → PartState
joins p worker = record p { records = record (p.records) { joined = p.records.joined ++ worker ∷ [] } }

-- the part after an event outside a run, which found this word
abbrev pub outside_after : Meaning → Layout → EventKind → PartState → ℕ → PartState
outside_after m l kinds.EnterLoad p found = with_stage p (stages.Loaded found)
outside_after m l kinds.Announce p found = with_stage p stages.Announced
outside_after m l kinds.EnterAgain p found = entered p found
outside_after m l kinds.Idle p found = with_stage p stages.Idle
outside_after m l kinds.ScanEpoch p found = with_stage p (stages.Scanning found 0 true)
outside_after m l (kinds.ScanOne n) p found = scan_one_after l p p.stage found
outside_after m l kinds.Advance p found = advance_after p p.stage
outside_after m l kinds.Split p found = split_after l p
outside_after m l (kinds.Join worker) p found = joins p worker
outside_after m l (kinds.LoadCell (Some place)) p found = read_after m place p found
outside_after m l (kinds.LoadEntry request reply) p found = entry_after request reply p found
outside_after m l (kinds.PrivateLoad slot word) p found = private_load_after m l slot word p found
outside_after m l (kinds.PrivateStore slot word number) p found = private_store_after m l slot word number p
outside_after m l (kinds.Hold thunk d) p found = hold_after thunk d p found
outside_after m l (kinds.LoadThunk (Some d)) p found = open_after d p found
outside_after m l (kinds.ReadPlan thunk) p found = read_plan_after thunk p
outside_after m l kinds.ReadClock p found = read_clock_after p found
outside_after m l kinds.ReadReply p found = read_reply_after m p found
outside_after m l kinds.ReadStamp p found = read_stamped_after p found
outside_after m l (kinds.Guard d) p found = guard_after d p
outside_after m l (kinds.LoadGuard n) p found = load_guard_after l p found
outside_after m l (kinds.BoardTake word link) p found = board_take_after link p found
outside_after m l (kinds.BoardGive word slot) p found = board_give_after l slot p found
outside_after m l _ p found = p

-- the part after an event of a run that stood before this step
abbrev pub line_after : Meaning → Layout → EventKind → PartState → RunState → Micro → ℕ → PartState
line_after m l kinds.Commit p q micro found = word_committed m l p q found
line_after m l (kinds.LoadCell place) p q micro found = cell_loaded m l (place_of micro) p q found
line_after m l kinds.ExchangeCell p q micro found = cell_exchanged m l (place_of micro) p q found
line_after m l (kinds.PrivateLoad slot word) p q micro found = fill_loaded m l slot p q q.made found
line_after m l (kinds.PrivateStore slot word number) p q micro found = private_stored m l slot number p q micro
line_after m l (kinds.LinkCommit b) p q micro found = link_committed b p q found
line_after m l kinds.MakeCommit p q micro found = make_committed m l p q q.made found
line_after m l kinds.RetireCommit p q micro found = retire_committed m l (retired_slot_of micro) p q found
line_after m l kinds.EpochForRetire p q micro found = number_loaded m l p q found
line_after m l kinds.SetDone p q micro found = done_set p q
line_after m l kinds.Release p q micro found = lock_released m l (place_of micro) p q found
line_after m l kinds.ClockLoad p q micro found = number_loaded m l p q found
line_after m l kinds.StampExchange p q micro found = stamp_agreed m l p q found
line_after m l kinds.ClockRaise p q micro found = clock_raised m l p q
line_after m l kinds.ReplyExchange p q micro found = reply_agreed m l (reply_word_of micro) p q found
line_after m l kinds.NestedLoad p q micro found = cell_loaded m l (place_of micro) p q found
line_after m l kinds.NestedHold p q micro found = cell_exchanged m l (place_of micro) p q found
line_after m l kinds.OutcomeLoad p q micro found = cell_loaded m l (place_of micro) p q found
line_after m l kinds.OutcomeCommit p q micro found = word_committed m l p q found
line_after m l _ p q micro found = p

-- the part after an event of a run
abbrev pub inside_after : Meaning → Layout → EventKind → PartState → RunState → ℕ → PartState
inside_after m l kind p q found =
    if is_open_run q then line_after m l kind p q (next_of m q) found else opened_more p q found

-- the part after the event with this run, or with none
abbrev pub after_by : Meaning → Layout → EventKind → PartState → Option RunState → ℕ → PartState
after_by m l kind p None found = outside_after m l kind p found
after_by m l kind p (Some q) found = inside_after m l kind p q found

-- the part after the event, which found this word
abbrev pub stepped : Meaning → Layout → EventKind → PartState → ℕ → PartState
stepped m l kind p found = after_by m l kind p p.run found

-- one more, up to the greatest number of 64 bits
abbrev pub counted : ℕ → ℕ
counted n = if nat_lt n 18446744073709551615 then n + 1 else n

-- the epoch as the runner's steps last saw or left it, when one more left this number at this spot
abbrev pub epoch_after : Spot → ℕ → ℕ → ℕ
epoch_after spots.Epoch number epoch = number
epoch_after _ number epoch = epoch

-- what the epoch is for a runner whose own steps last saw or left this: at first it is 1
abbrev pub own_epoch : ℕ → ℕ
own_epoch epoch = if epoch == 0 then 1 else epoch

-- the step read an announcement that isn't idle, or a guard word that names a descriptor
abbrev pub is_busy : EventKind → ℕ → Bool
is_busy (kinds.ScanOne n) found = not (found == 0)
is_busy (kinds.LoadGuard n) found = not (found == 0)
is_busy _ found = false

-- the step found the epoch other than the runner's own steps had left it
abbrev pub is_moved : Spot → ℕ → ℕ → Bool
is_moved spots.Epoch found epoch = not (found == own_epoch epoch)
is_moved _ found epoch = false

-- the keeper joins a worker when its own steps have met the epoch
abbrev pub is_late_join : EventKind → ℕ → Bool
is_late_join (kinds.Join worker) epoch = not (epoch == 0)
is_late_join _ epoch = false

-- what the keeper's steps since the last join left
abbrev pub left_more : EventKind → Spot → ℕ → List Left → List Left
left_more (kinds.Join worker) spot number before = []
left_more _ spot number before = before ++ record { spot = spot; number = number } ∷ []

-- one more step was made, which found this number at this spot; it is counted among those that won where it
-- changed its word by an exchange or a raise
abbrev pub noted : Layout → ℕ → EventKind → Spot → Access → ℕ → RecordsState → RecordsState
noted l r kind spot access found s = record s {
  events = counted s.events;
  won = (if wins access found then counted s.won else s.won);
  epoch_seen = epoch_after spot (written access found) s.epoch_seen;
  crossed = ((is_busy kind found || is_moved spot found s.epoch_seen) || s.crossed);
  crosses = (is_late_join kind s.epoch_seen || s.crosses);
  left = (if r == l.runners then left_more kind spot (written access found) s.left else s.left);
  only_loads = only_loads_after kind s.only_loads;
}

-- the stepping runner's part after the event, which met this spot and found this word
abbrev pub after : Meaning → Layout → ℕ → EventKind → Spot → Access → PartState → ℕ → PartState
after m l r kind spot access p found =
    let p' = stepped m l kind p found in
    record p' {
      blocks = blocks_after m l kind p p.run found;
      board = board_after kind p.board found;
      records = noted l r kind spot access found p'.records;
    }

-- the part of a worker that was joined
abbrev pub leaves : PartState → PartState
leaves p = record p { gone = true }

-- what the keeper knows after a join: also what the worker knew
abbrev pub knows_also : PartState → PartState → PartState
knows_also p worker = record p { records = record (p.records) { known = p.records.known ++ worker.records.known } }
