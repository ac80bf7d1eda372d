-- The state of the history: the clock, the stamps and the replies, the sections and their runs as
-- far as these go, and what is known.
use Rattle.std.specs.Prelude.{ℕ, ◌==◌, ◌&&◌, Bool, false, List, Option, Some, None}
use Rattle.history_orders.specs.map_history.specs.declared.op.Op.{Op}
use Rattle.history_orders.specs.map_history.specs.declared.reply.Reply.{Reply}
use Rattle.history_orders.specs.map_history.specs.Replay.{Pairs}
use Rattle.history_orders.specs.Stamped.{Stamped}

-- what doesn't change: whether the sections do a map's operations, and by request its operation,
-- its trace, and its worker
pub record Requests : Type 0 where
  pub is_map : Bool
  pub op : ℕ → Op
  pub trace : ℕ → ℕ
  pub worker : ℕ → ℕ

-- what a worker has seen that reads for a request without a lock: the request, the clock that it loaded, the reply of
-- the map then, the word that its body answers, the requests both of whose words it knew then, and whether it has
-- written the reply since
pub record Seen : Type 0 where
  pub number : ℕ
  pub clock : ℕ
  pub reply : Reply
  pub answer : ℕ
  pub known : ℕ → Bool
  pub replied : Bool

-- its reply is written
abbrev pub is_replied : Option Seen → Bool
is_replied None = false
is_replied (Some seen) = seen.replied

-- the reply of this request is written by it
abbrev pub has_replied : Option Seen → ℕ → Bool
has_replied None n = false
has_replied (Some seen) n = seen.replied && seen.number == n

pub record HistoryState : Type 0 where
  -- the clock word; by request, its stamp word and its reply word
  pub clock : ℕ
  pub stamp : ℕ → ℕ
  pub reply : ℕ → ℕ
  -- the history of the stamped requests, newest first, and the map after them in the order in which
  -- they got their stamps
  pub history : List Stamped
  pub pairs : Pairs
  -- by descriptor: whether it was published since it was last free, and whether its section is
  -- done; the section's request and what it
  -- answers; and how far it has come: 1 its clock is loaded, 2 its request is stamped, 3 the clock
  -- is raised, 4 its reply is written
  pub used : ℕ → Bool
  pub done : ℕ → Bool
  pub request : ℕ → ℕ
  pub answer : ℕ → ℕ
  pub stage : ℕ → ℕ
  -- the clock when the section was published, and the requests both of whose words its publisher
  -- knew then
  pub floor : ℕ → ℕ
  pub knew : ℕ → ℕ → Bool
  -- by request, the link of the section that has stamped it, until its descriptor is free again
  pub by : ℕ → ℕ
  -- and what its publisher knew, which stays
  pub saw : ℕ → ℕ → Bool
  -- by runner: whether a run of it has loaded the clock and not yet tried to stamp, for which
  -- descriptor, and the clock that it loaded
  pub loaded : ℕ → Bool
  pub run : ℕ → ℕ
  pub hand : ℕ → ℕ
  -- by worker, the link of the section that it has published and not yet run to its end
  pub published : ℕ → ℕ
  -- by runner and request, whether it knows both words
  pub known : ℕ → ℕ → Bool
  -- by worker, what it has seen last without a lock
  pub look : ℕ → Option Seen
