-- Two examples: a stamp that is written last and stands first, and reads without a lock.
use Rattle.std.specs.Prelude.{ℕ, ◌≡◌, ◌==◌, cond, true, List, [], ◌∷◌}
use Rattle.history_orders.specs.map_history.specs.declared.op.Op.{Op}
use Rattle.history_orders.specs.map_history.specs.declared.op.Op.TheVariants.{Get, Ins, Del}
use Rattle.history_orders.specs.map_history.specs.declared.reply.Reply.TheVariants.{New, Gone, Val, Absent}
use Rattle.history_orders.specs.map_history.specs.Words.{word_of}
use Rattle.history_core.specs.State.{Requests}
use Rattle.history_core.specs.Events.{Event, Publish, Over, LoadClock, StampExchange, RaiseClock, WriteReply, SetDone, Learn, Look, ReadReply, ReadStamp}
use Rattle.history_core.specs.Schedules.{first_state, AllEnabled, after_all}

-- worker 0 adds a pair at key 7; worker 1 adds one at key 9 and takes it out
abbrev pub asked : ℕ → Op
asked n = cond (n == 0) (Ins 7 1) (cond (n == 1) (Ins 9 1) (Del 9))

abbrev pub two_workers : Requests
two_workers = record { is_map = true; op = asked; trace = λ n. cond (n == 0) 0 1; worker = λ n. cond (n == 0) 0 1 }

-- worker 0 publishes, loads the clock, and pauses. Worker 1 serves its first request, and stamps
-- its second. Then worker 0 goes on
abbrev pub interleaved : List Event
interleaved =
    Publish 0 0 0 (word_of New) ∷ LoadClock 0 0
    ∷ Publish 1 1 1 (word_of New) ∷ LoadClock 1 1 ∷ StampExchange 1 ∷ RaiseClock 1 ∷ WriteReply 1
    ∷ SetDone 1 ∷ Learn 1 1 ∷ Over 1
    ∷ Publish 1 2 2 (word_of Gone) ∷ LoadClock 1 2 ∷ StampExchange 1 ∷ RaiseClock 2
    ∷ StampExchange 0 ∷ []

-- the list's events may come, and they lead to this history, newest first
pub record IsMade : Type 0 where
  pub enabled : AllEnabled two_workers first_state interleaved
  pub history : (after_all two_workers first_state interleaved).history
      ≡ record { stamp = 4; number = 2; op = Del 9; reply = Gone }
      ∷ record { stamp = 2; number = 1; op = Ins 9 1; reply = New }
      ∷ record { stamp = 2; number = 0; op = Ins 7 1; reply = New } ∷ []

-- one worker looks up key 1, adds a pair there, and looks it up twice
abbrev pub read_and_added : ℕ → Op
read_and_added n = cond (n == 1) (Ins 1 5) (Get 1)

abbrev pub one_worker : Requests
one_worker = record { is_map = true; op = read_and_added; trace = λ n. 0; worker = λ n. 0 }

-- all but the pair without a lock
abbrev pub with_reads : List Event
with_reads =
    Look 0 0 (word_of Absent) ∷ ReadReply 0 ∷ ReadStamp 0
    ∷ Publish 0 0 1 (word_of New) ∷ LoadClock 0 0 ∷ StampExchange 0 ∷ RaiseClock 0 ∷ WriteReply 0
    ∷ SetDone 0 ∷ Learn 0 1 ∷ Over 0
    ∷ Look 0 2 (word_of (Val 5)) ∷ ReadReply 0 ∷ ReadStamp 0
    ∷ Look 0 3 (word_of (Val 5)) ∷ ReadReply 0 ∷ ReadStamp 0 ∷ []

-- the list's events may come, and they lead to this history, newest first: the two last reads have one stamp
pub record IsMadeWithReads : Type 0 where
  pub enabled : AllEnabled one_worker first_state with_reads
  pub history : (after_all one_worker first_state with_reads).history
      ≡ record { stamp = 3; number = 3; op = Get 1; reply = Val 5 }
      ∷ record { stamp = 3; number = 2; op = Get 1; reply = Val 5 }
      ∷ record { stamp = 2; number = 1; op = Ins 1 5; reply = New }
      ∷ record { stamp = 1; number = 0; op = Get 1; reply = Absent } ∷ []
