-- Entries that make a legal report, whatever order they came in.
use Rattle.std.specs.Prelude.{◌≡◌, ℕ, ◌≤◌, List, Option, length, map, AllPairs, IsPermutation, IsSome, IsTrue}
use Rattle.std.specs.List.{enumerate_from, filter_map, zip}
use Rattle.std.specs.Option.{option_map}
use Rattle.std.specs.FinMap.{empty, len}
use Rattle.history_orders.specs.map_history.specs.declared.op.Op.{Op}
use Rattle.history_orders.specs.map_history.specs.declared.op.Entry.{Entry}
use Rattle.history_orders.specs.map_history.specs.declared.op.Request.{Request}
use Rattle.history_orders.specs.map_history.specs.History.{Answered, IsLegalFrom}
use Rattle.history_orders.specs.map_history.specs.Replay.{map_after_all}
use Rattle.history_orders.specs.Turns.{Turn, comes_before}

-- a served request with its number and its entry
pub record Entered : Type 0 where
  pub number : ℕ
  pub request : Request
  pub entry : Entry

abbrev pub entered_of : ℕ × (Request × Option Entry) → Option Entered
entered_of numbered =
    option_map (λ entry. record { number = numbered.0; request = numbered.1.0; entry = entry }) numbered.1.1

-- the served requests, in the order of the text
abbrev pub entered_in : List Request → List (Option Entry) → List Entered
entered_in requests entries = filter_map entered_of (enumerate_from 0 (zip requests entries))

-- what orders a served request
abbrev pub turn_of_entered : Entered → Turn
turn_of_entered entered = (entered.entry.stamp, entered.number)

-- its operation with its reply
abbrev pub answered_by : Entered → Answered
answered_by entered = record { op = entered.request.op; reply = entered.entry.reply }

abbrev pub op_of_entered : Entered → Op
op_of_entered entered = entered.request.op

-- in the order of their turns the entries are what a plain map answers, and `size` pairs are left
pub record AreLegal (requests : List Request) (entries : List (Option Entry)) (size : ℕ) : Type 0 where
  pub one_each : length entries ≡ length requests
  -- the served requests in the order of their turns
  pub history : List Entered
  pub all : IsPermutation (entered_in requests entries) history
  pub order : AllPairs (λ earlier later. IsTrue (comes_before (turn_of_entered earlier) (turn_of_entered later)))
      history
  -- the stamps don't fall along a trace
  pub rise : AllPairs (λ earlier later. earlier.request.trace ≡ later.request.trace
      → earlier.entry.stamp ≤ later.entry.stamp) (entered_in requests entries)
  -- in a trace no served request follows an unserved one
  pub front : AllPairs (λ earlier later. earlier.0.trace ≡ later.0.trace → IsSome later.1
      → IsSome earlier.1) (zip requests entries)
  -- the map, replayed in this order, gives the replies
  pub replies : IsLegalFrom empty (map answered_by history)
  -- and ends with this number of pairs
  pub pairs : size ≡ len (map_after_all empty (map op_of_entered history))
