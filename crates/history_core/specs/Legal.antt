-- What the invariant says of the history, of the clock, and to whoever knows a request's words.
use Rattle.std.specs.Prelude.{ℕ, suc, ◌/◌, ◌%◌, ◌<◌, ◌≤◌, ◌≡◌, ◌≢◌, ◌⊎◌, Bool, true, false, List, Some, None, length, slice_get, Contains}
use Rattle.std.specs.FinMap.{empty}
use Rattle.history_orders.specs.map_history.specs.History.{IsLegalFrom}
use Rattle.history_orders.specs.map_history.specs.Replay.{map_after_all}
use Rattle.history_orders.specs.map_history.specs.Words.{word_of}
use Rattle.history_orders.specs.Turns.{Follows}
use Rattle.history_orders.specs.Stamped.{Stamped, oldest_first, ops_of, map_before, IsReplayed, IsStill, IsHistoryOf}
use Rattle.history_core.specs.State.{Requests, HistoryState, has_replied}
use Rattle.history_core.specs.Events.{Event, Look, IsBetween}

module _ (c : Requests) (w : HistoryState) where
  -- the history of the stamped requests is legal
  pub record HistoryIsLegal : Type 0 where
    -- its entries are the requests whose stamp word isn't 0, by stamp and then by number
    pub history : IsHistoryOf c.op w.stamp w.history
    -- a plain map that serves them in this order gives their replies, and is the map for which the
    -- completed memory stands
    pub legal : c.is_map ≡ true → IsLegalFrom empty (oldest_first w.history)
    pub map : c.is_map ≡ true → w.pairs ≡ map_after_all empty (ops_of w.history)
    -- what the section of a stamped request answers is the reply at its place, and so is each reply
    -- word that isn't 0
    pub answers : c.is_map ≡ true → (d : ℕ) (e : Stamped) → w.used d ≡ true → 2 ≤ w.stage d
        → Contains w.history e → e.number ≡ w.request d → w.answer d ≡ word_of e.reply
    pub replies : c.is_map ≡ true → (e : Stamped) → Contains w.history e → w.reply e.number ≢ 0
        → w.reply e.number ≡ word_of e.reply
    -- a request with a reply has a stamp, or its worker has written the reply by a read and not yet the stamp
    pub stamped : (n : ℕ) → w.reply n ≢ 0 → (w.stamp n ≢ 0) ⊎ (has_replied (w.look (c.worker n)) n ≡ true)
    -- stamps never fall along a trace, and two equal ones are odd; no request is stamped before the earlier ones of its
    -- trace
    pub rising : (k n : ℕ) → k < n → c.trace k ≡ c.trace n → w.stamp n ≢ 0
        → (w.stamp k ≢ 0) × Follows (w.stamp k) (w.stamp n)
    -- it is the only history of these words
    pub only : c.is_map ≡ true → (history : List Stamped) → IsHistoryOf c.op w.stamp history
        → IsReplayed history → history ≡ w.history

  -- the clock against the stamps
  pub record ClockStands : Type 0 where
    -- at least half of a section's stamp, once its clock is raised
    pub raised : (d : ℕ) → w.used d ≡ true → 3 ≤ w.stage d → w.stamp (w.request d) / 2 ≤ w.clock
    -- a section that is done has left before its stamp, or has raised the clock
    pub done : (d : ℕ) → w.used d ≡ true → w.done d ≡ true
        → (w.stage d ≡ 0) ⊎ (w.stamp (w.request d) / 2 ≤ w.clock)
    -- at most the number of stamped requests, and so is half of each stamp
    pub small : w.clock ≤ length w.history
    pub half : (n : ℕ) → w.stamp n / 2 ≤ length w.history
    -- a run's clock is no earlier than its section's publication, and below the section's stamp
    pub hand : (r : ℕ) → w.loaded r ≡ true → (w.floor (w.run r) ≤ w.hand r) × (w.hand r ≤ w.clock)
    pub above : (d : ℕ) → w.used d ≡ true → 2 ≤ w.stage d → w.floor d < w.stamp (w.request d) / 2

  -- the request stands once in the history, with its words
  pub record IsPlaced (n : ℕ) : Type 0 where
    pub place : ℕ
    pub entry : Stamped
    pub here : slice_get w.history place ≡ Some entry
    pub number : entry.number ≡ n
    pub stamp : entry.stamp ≡ w.stamp n
    pub reply : c.is_map ≡ true → w.reply n ≢ 0 → w.reply n ≡ word_of entry.reply
    pub once : (i : ℕ) (e : Stamped) → slice_get w.history i ≡ Some e → e.number ≡ n → i ≡ place

  -- what is known of requests
  pub record KnowledgeStands : Type 0 where
    -- who knows both words of a request knows its place, and the reply there
    pub known : (r n : ℕ) → w.known r n ≡ true → (w.stamp n ≢ 0) × (w.reply n ≢ 0) × IsPlaced n
    -- a section's stamp is above those of all that its publisher knew when it published it
    pub knew : (d n : ℕ) → w.used d ≡ true → 2 ≤ w.stage d → w.knew d n ≡ true
        → (w.stamp n ≢ 0) × (w.stamp n < w.stamp (w.request d))
    -- this stands when the descriptor is free again. And a read's stamp follows those of all that its worker knew at
    -- its look: it is greater, or equal where both are odd
    pub saw : (n k : ℕ) → w.stamp n ≢ 0 → w.saw n k ≡ true → (w.stamp k ≢ 0) × Follows (w.stamp k) (w.stamp n)
    -- each stamped request is known to its worker, or is that of the section which the worker has
    -- published and not yet run to its end
    pub told : (n : ℕ) → w.stamp n ≢ 0
        → (w.known (c.worker n) n ≡ true) ⊎ ((d : ℕ) × (w.published (c.worker n) ≡ suc d) × (w.request d ≡ n))

  -- reads without a lock
  pub record ReadsStand : Type 0 where
    -- a section's stamp is even
    pub even : (d : ℕ) → w.used d ≡ true → 2 ≤ w.stage d → w.stamp (w.request d) % 2 ≡ 0
    -- the clock is at least half of an odd stamp
    pub clock : (n : ℕ) → w.stamp n % 2 ≡ 1 → w.stamp n / 2 ≤ w.clock
    -- an entry with an odd stamp changes nothing at its turn; so two with one stamp have the same map there, and their
    -- order plays no part
    pub still : c.is_map ≡ true → (e : Stamped) → Contains w.history e → e.stamp % 2 ≡ 1 → IsStill e w.history
    pub alike : c.is_map ≡ true → (a b : Stamped) → Contains w.history a → a.stamp % 2 ≡ 1 → a.stamp ≡ b.stamp
        → map_before a w.history ≡ map_before b w.history
    -- a worker that has written a reply by a read, and not yet the stamp, has no section that it hasn't run to its end.
    -- The request is its own, has no stamp, and isn't known to it
    pub between : (r : ℕ) (is : IsBetween c w r) → (c.worker is.seen.number ≡ r) × (w.published r ≡ 0)
        × (w.known r is.seen.number ≡ false) × (w.stamp is.seen.number ≡ 0) × (w.reply is.seen.number ≢ 0)

  -- stamps rise strictly along a trace, and each reply is that of a stamped request
  pub record StampsRise : Type 0 where
    pub stamped : (n : ℕ) → w.reply n ≢ 0 → w.stamp n ≢ 0
    pub rising : (k n : ℕ) → k < n → c.trace k ≡ c.trace n → w.stamp n ≢ 0
        → (w.stamp k ≢ 0) × (w.stamp k < w.stamp n)

  -- where every section is done, each stamped request has its reply word, which is the reply at its
  -- place
  pub record IsClosed : Type 0 where
    pub replied : (n : ℕ) → w.stamp n ≢ 0 → w.reply n ≢ 0
    pub replies : c.is_map ≡ true → (e : Stamped) → Contains w.history e
        → w.reply e.number ≡ word_of e.reply

  abbrev pub AreAllDone : Type 0
  AreAllDone = (d : ℕ) → w.used d ≡ true → w.done d ≡ true

-- no read without a lock is made: nobody has looked, and each stamp is even
pub record HasNoReads (w : HistoryState) : Type 0 where
  pub looks : (r : ℕ) → w.look r ≡ None
  pub even : (n : ℕ) → w.stamp n % 2 ≡ 0

-- by which alone it can come to one
abbrev pub is_look : Event → Bool
is_look (Look r n answer) = true
is_look _ = false

-- what an event leaves for good: stamps, replies, what is known, and each entry of the history; and
-- the clock never falls
pub record WordsStand (w w' : HistoryState) : Type 0 where
  pub stamps : (n : ℕ) → w.stamp n ≢ 0 → w'.stamp n ≡ w.stamp n
  pub replies : (n : ℕ) → w.reply n ≢ 0 → w'.reply n ≡ w.reply n
  pub known : (r n : ℕ) → w.known r n ≡ true → w'.known r n ≡ true
  pub saw : (n k : ℕ) → w.stamp n ≢ 0 → w'.saw n k ≡ w.saw n k
  pub entries : (e : Stamped) → Contains w.history e → Contains w'.history e
  pub clock : w.clock ≤ w'.clock
