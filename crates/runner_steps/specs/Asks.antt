-- Which word an event meets, and how; none where it isn't enabled.
use Rattle.std.specs.Prelude.{ℕ, List, Option, Some, None, length, if◌then◌else◌}
use Rattle.runner_parts.specs.structure_laws.specs.map_history.specs.declared.op.Request.{Request}
use Rattle.runner_parts.specs.block_words.specs.table_words.specs.declared.layout.Layout.{Layout}
use Rattle.runner_parts.specs.block_words.specs.table_words.specs.declared.sizes.Sizes.{Sizes}
use Rattle.runner_parts.specs.block_words.specs.table_words.specs.Places.{fits, sizes_of}
use Rattle.runner_parts.specs.structure_laws.specs.Meaning.{Meaning}
use Rattle.runner_parts.specs.declared.event.EventKind.{EventKind}
use Rattle.runner_parts.specs.declared.event.EventKind.TheVariants as kinds
use Rattle.runner_parts.specs.structure_laws.specs.body_terms.specs.declared.micro.Micro.{Micro}
use Rattle.runner_parts.specs.State.{RunState, PartState}
use Rattle.runner_steps.specs.Sections.{is_open_run, next_of}
use Rattle.runner_steps.specs.Outside.{Ask, enter_load_ask, announce_ask, enter_again_ask, idle_ask, scan_one_ask, advance_ask, split_ask, join_ask, read_ask, entry_ask, private_load_ask, private_store_ask, hold_ask, open_ask}
use Rattle.runner_steps.specs.Guards.{guard_ask, load_guard_ask}
use Rattle.runner_steps.specs.Board.{board_load_ask, board_take_ask, board_give_ask}
use Rattle.runner_steps.specs.Reads.{read_plan_ask, read_clock_ask, read_reply_ask, read_stamp_ask}
use Rattle.runner_steps.specs.InRun.{open_more_ask, load_done_ask, commit_ask, load_cell_ask, exchange_cell_ask, fill_load_ask, private_store_in_run_ask, link_commit_ask, make_commit_ask, retire_commit_ask, epoch_for_retire_ask, clock_load_ask, stamp_exchange_ask, clock_raise_ask, reply_exchange_ask, nested_load_ask, nested_hold_ask, outcome_load_ask, outcome_commit_ask, set_done_ask, release_ask}

-- what a runner in no run asks, by the kind of its step
abbrev pub outside_ask : Meaning → Layout → List Request → ℕ → EventKind → PartState → Ask
outside_ask m l requests r kinds.EnterLoad p = enter_load_ask p.stage
outside_ask m l requests r kinds.Announce p = announce_ask r p.stage
outside_ask m l requests r kinds.EnterAgain p = enter_again_ask p
outside_ask m l requests r kinds.Idle p = idle_ask r p
outside_ask m l requests r kinds.ScanEpoch p = enter_load_ask p.stage
outside_ask m l requests r (kinds.ScanOne n) p = scan_one_ask l n p.stage
outside_ask m l requests r kinds.Advance p = advance_ask l p.stage
outside_ask m l requests r kinds.Split p = split_ask l r p
outside_ask m l requests r (kinds.Join worker) p = join_ask l r worker p
outside_ask m l requests r (kinds.LoadCell (Some place)) p = read_ask m place p
outside_ask m l requests r (kinds.LoadEntry request reply) p = entry_ask request reply p
outside_ask m l requests r (kinds.PrivateLoad slot word) p = private_load_ask m l slot word p
outside_ask m l requests r (kinds.PrivateStore slot word number) p = private_store_ask m l slot word number p
outside_ask m l requests r (kinds.Hold thunk d) p = hold_ask m l requests r thunk d p
outside_ask m l requests r (kinds.LoadThunk (Some d)) p = open_ask d p
outside_ask m l requests r (kinds.ReadPlan thunk) p = read_plan_ask r thunk p
outside_ask m l requests r kinds.ReadClock p = read_clock_ask p p.reads.look
outside_ask m l requests r kinds.ReadReply p = read_reply_ask m l requests r p p.reads.look
outside_ask m l requests r kinds.ReadStamp p = read_stamp_ask p p.reads.look
outside_ask m l requests r (kinds.Guard d) p = guard_ask l r d p
outside_ask m l requests r (kinds.LoadGuard n) p = load_guard_ask l n p
outside_ask m l requests r (kinds.BoardLoad word) p = board_load_ask l r word p
outside_ask m l requests r (kinds.BoardTake word link) p = board_take_ask l r word link p
outside_ask m l requests r (kinds.BoardGive word slot) p = board_give_ask l r word slot p
outside_ask m l requests r _ p = None

-- what a run asks that has loaded its thunk and its done word, and stands before this step; `free` is the
-- list of free node slots, and `blocks` that of free blocks
abbrev pub line_ask : Meaning → Layout → EventKind → List ℕ → List ℕ → RunState → Micro → Ask
line_ask m l kinds.Commit free blocks q micro = commit_ask q micro
line_ask m l (kinds.LoadCell None) free blocks q micro = load_cell_ask q micro
line_ask m l kinds.ExchangeCell free blocks q micro = exchange_cell_ask l q micro
line_ask m l (kinds.PrivateLoad slot word) free blocks q micro = fill_load_ask m l slot word free q micro
line_ask m l (kinds.PrivateStore slot word number) free blocks q micro =
    private_store_in_run_ask m l slot word number blocks q micro
line_ask m l (kinds.LinkCommit b) free blocks q micro = link_commit_ask l b q micro
line_ask m l kinds.MakeCommit free blocks q micro = make_commit_ask q micro
line_ask m l kinds.RetireCommit free blocks q micro = retire_commit_ask q micro
line_ask m l kinds.EpochForRetire free blocks q micro = epoch_for_retire_ask q micro
line_ask m l kinds.SetDone free blocks q micro = set_done_ask q micro
line_ask m l kinds.Release free blocks q micro = release_ask l q micro
line_ask m l kinds.ClockLoad free blocks q micro = clock_load_ask q micro
line_ask m l kinds.StampExchange free blocks q micro = stamp_exchange_ask q micro
line_ask m l kinds.ClockRaise free blocks q micro = clock_raise_ask q micro
line_ask m l kinds.ReplyExchange free blocks q micro = reply_exchange_ask q micro
line_ask m l kinds.NestedLoad free blocks q micro = nested_load_ask q micro
line_ask m l kinds.NestedHold free blocks q micro = nested_hold_ask l q micro
line_ask m l kinds.OutcomeLoad free blocks q micro = outcome_load_ask q micro
line_ask m l kinds.OutcomeCommit free blocks q micro = outcome_commit_ask q micro
line_ask m l _ free blocks q micro = None

-- what a run asks that has still to load words of its thunk, or its done word
abbrev pub opening_ask : EventKind → RunState → Ask
opening_ask (kinds.LoadThunk None) q = open_more_ask q
opening_ask kinds.LoadDone q = load_done_ask q
opening_ask _ q = None

-- what a run asks
abbrev pub inside_ask : Meaning → Layout → EventKind → List ℕ → List ℕ → RunState → Ask
inside_ask m l kind free blocks q =
    if is_open_run q then line_ask m l kind free blocks q (next_of m q) else opening_ask kind q

-- what a runner asks with this run, or with none
abbrev pub ask_by : Meaning → Layout → List Request → ℕ → EventKind → PartState → Option RunState → Ask
ask_by m l requests r kind p None = outside_ask m l requests r kind p
ask_by m l requests r kind p (Some q) = inside_ask m l kind p.nodes.free p.blocks.free q

-- only words that the table has
abbrev pub fitting : Sizes → Ask → Ask
fitting s None = None
fitting s (Some x) = if fits s x.0 then Some x else None

-- how many words of each kind the table has
abbrev pub sizes_for : Meaning → Layout → List Request → Sizes
sizes_for m l requests = sizes_of l (length requests) m.fixed_cells m.fixed_slots

-- the word that this event meets on this part, and what it does there; None where the event isn't enabled
abbrev pub asks : Meaning → Layout → List Request → ℕ → EventKind → PartState → Ask
asks m l requests r kind p =
    if p.gone then None else fitting (sizes_for m l requests) (ask_by m l requests r kind p p.run)
