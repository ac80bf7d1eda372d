-- A legal report: its ranks are one order of the served requests, and a plain map that serves them in this
-- order gives its replies.
use Rattle.std.specs.Prelude.{◌≡◌, ℕ, ◌<◌, List, Option, length, map, AllPairs, IsPermutation, IsSome}
use Rattle.std.specs.List.{filter_map, range_with_len}
use Rattle.std.specs.Option.{option_map}
use Rattle.std.specs.FinMap.{empty, len}
use Rattle.history_orders.specs.map_history.specs.declared.op.Op.{Op}
use Rattle.history_orders.specs.map_history.specs.declared.op.Request.{Request}
use Rattle.history_orders.specs.map_history.specs.History.{Answered, IsLegalFrom}
use Rattle.history_orders.specs.map_history.specs.Replay.{map_after_all}
use Rattle.report_text.specs.Report.{Answer, Row}

-- a request that was served
pub record Served : Type 0 where
  pub request : Request
  pub answer : Answer

-- a row as a served request, where it is one
abbrev pub served_of : Row → Option Served
served_of row = option_map (λ answer. record { request = row.request; answer = answer }) row.answer

-- the served requests of a report, in the order of the text
abbrev pub served_in : List Row → List Served
served_in rows = filter_map served_of rows

-- the served requests in the order of their ranks, which are 0, 1, 2 and so on, each once
pub record IsHistory (rows : List Row) (history : List Served) : Type 0 where
  pub all : IsPermutation (served_in rows) history
  pub ranks : map (λ served. served.answer.rank) history ≡ range_with_len 0 (length history)

-- an operation with the reply that is printed for it
abbrev pub answered : Served → Answered
answered served = record { op = served.request.op; reply = served.answer.reply }

abbrev pub op_of : Served → Op
op_of served = served.request.op

-- what makes a report legal
pub record IsLegal (rows : List Row) (size : ℕ) : Type 0 where
  pub history : List Served
  -- the ranks are 0, 1, 2 and so on, each once
  pub is_history : IsHistory rows history
  -- they rise along each trace
  pub rise : AllPairs (λ earlier later. earlier.request.trace ≡ later.request.trace
      → earlier.answer.rank < later.answer.rank) (served_in rows)
  -- in a trace no served request follows an unserved one
  pub front : AllPairs (λ earlier later. earlier.request.trace ≡ later.request.trace → IsSome later.answer
      → IsSome earlier.answer) rows
  -- the map, replayed in the order of the ranks, gives the printed replies
  pub replies : IsLegalFrom empty (map answered history)
  -- and ends with the printed number of pairs
  pub pairs : size ≡ len (map_after_all empty (map op_of history))
