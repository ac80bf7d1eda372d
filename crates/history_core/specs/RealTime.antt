-- The order in time: a request that was answered before another was asked comes before it in the history.
use Rattle.std.specs.Prelude.{ℕ, ◌≡◌, ◌≢◌, true, false, List, Some}
use Rattle.history_orders.specs.Turns.{Follows}
use Rattle.history_core.specs.State.{Requests, Seen, HistoryState}
use Rattle.history_core.specs.Events.{Event, MayPublish}
use Rattle.history_core.specs.Sound.{IsSound}
use Rattle.history_core.specs.Schedules.{AllEnabled, after_all}

-- nobody has seen this request without a lock
abbrev pub IsUnseen : HistoryState → ℕ → Type 0
IsUnseen w n = (r : ℕ) (seen : Seen) → w.look r ≡ Some seen → seen.number ≢ n

-- the request isn't asked yet: it has no stamp, no section for it is open, and nobody has looked for it
pub record IsUnasked (w : HistoryState) (n : ℕ) : Type 0 where
  pub unstamped : w.stamp n ≡ 0
  pub unpublished : (d : ℕ) → w.used d ≡ true → w.done d ≡ false → w.request d ≢ n
  pub unseen : IsUnseen w n

-- real-time order from one state to a later one: what has its reply in the one comes before what isn't asked in it,
-- once both have their stamps. The stamp of the latter is greater, or equal where both are odd, and then the order of
-- the two plays no part. A reply without a stamp is that of a read whose worker hasn't written the stamp yet
abbrev pub AreInRealTime : HistoryState → HistoryState → Type 0
AreInRealTime w w' = (k n : ℕ) → w.reply k ≢ 0 → IsUnasked w n → w'.stamp n ≢ 0
    → (w.stamp k ≢ 0 → w'.stamp k ≡ w.stamp k) × (w'.stamp k ≢ 0 → Follows (w'.stamp k) (w'.stamp n))

module _ (c : Requests) where
  -- the history is linearizable: events keep real-time order
  abbrev pub EventsKeepRealTime : Type 0
  EventsKeepRealTime = (w : HistoryState) (es : List Event) → IsSound c w → AllEnabled c w es
      → AreInRealTime w (after_all c w es)

  -- a request for which a section may be published isn't asked yet, unless its worker has looked for it
  abbrev pub PublicationsAsk : Type 0
  PublicationsAsk = (w : HistoryState) (r d n answer : ℕ) → IsSound c w → MayPublish c w r d n answer → IsUnseen w n
      → IsUnasked w n
