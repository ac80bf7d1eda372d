-- What is wrong with a row of a report: with its rank, and with its reply.
use Rattle.std.specs.Prelude.{◌≡◌, ◌≢◌, ◌⊎◌, ℕ, ◌<◌, ◌≤◌, List, Option, None, Some, length, map, slice_get, take}
use Rattle.std.specs.FinMap.{empty}
use Rattle.history_orders.specs.map_history.specs.Replay.{map_after_all, reply_of}
use Rattle.report_check.specs.Rows.{line_number}
use Rattle.report_text.specs.Legal.{Served, op_of, served_in}
use Rattle.report_text.specs.Report.{Answer, Row}

-- the row in this place has this answer
pub record IsAnsweredAt (rows : List Row) (place : ℕ) (row : Row) (answer : Answer) : Type 0 where
  pub at : slice_get rows place ≡ Some row
  pub is : row.answer ≡ Some answer

-- an earlier row of the same trace is unserved, or has a rank that isn't lower
abbrev pub EndsTurn : Option Answer → Answer → Type 0
EndsTurn None later = Unit {0}
EndsTurn (Some earlier) later = later.rank ≤ earlier.rank

abbrev pub HasRank : Option Answer → ℕ → Type 0
HasRank None rank = ⊥
HasRank (Some earlier) rank = earlier.rank ≡ rank

-- a row clashes with a later one that has this answer
abbrev pub Clashes : Row → Row → Answer → Type 0
Clashes earlier later answer =
    HasRank earlier.answer answer.rank
    ⊎ ((earlier.request.trace ≡ later.request.trace) × EndsTurn earlier.answer answer)

-- the rank of the row in this place is too high, or an earlier row clashes with it
pub record IsRankFault (rows : List Row) (place : ℕ) (row : Row) : Type 0 where
  pub answer : Answer
  pub at : IsAnsweredAt rows place row answer
  pub why : (length (served_in rows) ≤ answer.rank)
      ⊎ ((before : ℕ) × (earlier : Row) × (before < place) × (slice_get rows before ≡ Some earlier)
      × Clashes earlier row answer)

-- the reply of the row in this place isn't that of the map which the requests of lower ranks leave
pub record IsReplyFault (history : List Served) (rows : List Row) (place : ℕ) (row : Row) : Type 0 where
  pub answer : Answer
  pub at : IsAnsweredAt rows place row answer
  pub other : answer.reply ≢ reply_of (map_after_all empty (map op_of (take answer.rank history))) row.request.op

-- no row has such a fault
abbrev pub NoFault : (ℕ → Row → Type 0) → Type 0
NoFault fault = (place : ℕ) (row : Row) → fault place row → ⊥

-- the first row that has such a fault
pub record IsFirst (fault : ℕ → Row → Type 0) (place : ℕ) (row : Row) : Type 0 where
  pub here : fault place row
  pub none_before : (before : ℕ) (earlier : Row) → before < place → fault before earlier → ⊥

-- the number of the first line whose row has such a fault
pub record IsFirstLine (fault : ℕ → Row → Type 0) (number : ℕ) : Type 0 where
  pub place : ℕ
  pub row : Row
  pub first : IsFirst fault place row
  pub is : number ≡ line_number place row
