-- The numbers of the kinds of step.
use Rattle.std.specs.Prelude.{◌≡◌, ◌==◌, ℕ, length, Option, Some, None, if◌then◌else◌}
use Rattle.machine_states.specs.runner_parts.specs.declared.event.EventKind.{EventKind}
use Rattle.machine_states.specs.runner_parts.specs.declared.event.EventKind.TheVariants as kinds

-- the number of an event's kind; the clock is loaded in a run, and for a read without a lock
abbrev pub kind_number : EventKind → ℕ
kind_number kinds.EnterLoad = 0
kind_number kinds.Announce = 1
kind_number kinds.EnterAgain = 2
kind_number kinds.Idle = 3
kind_number kinds.ScanEpoch = 4
kind_number (kinds.ScanOne announcement) = 5
kind_number kinds.Advance = 6
kind_number kinds.Split = 7
kind_number kinds.Commit = 8
kind_number (kinds.LoadCell place) = 9
kind_number kinds.ExchangeCell = 10
kind_number (kinds.PrivateLoad slot word) = 11
kind_number (kinds.PrivateStore slot word number) = 12
kind_number kinds.MakeCommit = 13
kind_number kinds.RetireCommit = 14
kind_number kinds.EpochForRetire = 15
kind_number (kinds.LoadThunk descriptor) = 16
kind_number kinds.LoadDone = 17
kind_number (kinds.Hold thunk descriptor) = 18
kind_number kinds.SetDone = 19
kind_number kinds.Release = 20
kind_number kinds.ClockLoad = 21
kind_number kinds.StampExchange = 22
kind_number kinds.ClockRaise = 23
kind_number kinds.ReplyExchange = 24
kind_number (kinds.Join worker) = 25
kind_number (kinds.LoadEntry request reply) = 26
kind_number kinds.NestedLoad = 27
kind_number kinds.NestedHold = 28
kind_number kinds.OutcomeLoad = 29
kind_number kinds.OutcomeCommit = 30
kind_number (kinds.LinkCommit block) = 31
kind_number (kinds.BoardLoad word) = 32
kind_number (kinds.BoardTake word link) = 33
kind_number (kinds.BoardGive word slot) = 34
kind_number kinds.ReadClock = 21
kind_number kinds.ReadReply = 35
kind_number kinds.ReadStamp = 36
kind_number (kinds.Guard descriptor) = 37
kind_number (kinds.LoadGuard runner) = 38
kind_number (kinds.ReadPlan thunk) = 39

-- the event of the kind with this number, where its events carry no argument
abbrev pub plain_kind : ℕ → Option EventKind
plain_kind n =
    if n == 0 then Some kinds.EnterLoad else (
    if n == 1 then Some kinds.Announce else (
    if n == 2 then Some kinds.EnterAgain else (
    if n == 3 then Some kinds.Idle else (
    if n == 4 then Some kinds.ScanEpoch else (
    if n == 6 then Some kinds.Advance else (
    if n == 7 then Some kinds.Split else (
    if n == 8 then Some kinds.Commit else (
    if n == 10 then Some kinds.ExchangeCell else (
    if n == 13 then Some kinds.MakeCommit else (
    if n == 14 then Some kinds.RetireCommit else (
    if n == 15 then Some kinds.EpochForRetire else (
    if n == 17 then Some kinds.LoadDone else (
    if n == 19 then Some kinds.SetDone else (
    if n == 20 then Some kinds.Release else (
    if n == 22 then Some kinds.StampExchange else (
    if n == 23 then Some kinds.ClockRaise else (
    if n == 24 then Some kinds.ReplyExchange else (
    if n == 27 then Some kinds.NestedLoad else (
    if n == 28 then Some kinds.NestedHold else (
    if n == 29 then Some kinds.OutcomeLoad else (
    if n == 30 then Some kinds.OutcomeCommit else (
    if n == 35 then Some kinds.ReadReply else (
    if n == 36 then Some kinds.ReadStamp else (
    None))))))))))))))))))))))))

-- a thunk that an event carries has eight operands
abbrev pub IsGiven : EventKind → Type 0
IsGiven (kinds.Hold thunk descriptor) = length thunk.operands ≡ 8
IsGiven (kinds.ReadPlan thunk) = length thunk.operands ≡ 8
IsGiven _ = Unit {0}
