-- The invariant of the history.
use Rattle.std.specs.Prelude.{ℕ, suc, ◌/◌, ◌%◌, ◌<◌, ◌≤◌, ◌≡◌, ◌≢◌, ◌⊎◌, true, false, Some, length, Contains}
use Rattle.history_orders.specs.map_history.specs.Keys.{DependsOn}
use Rattle.history_orders.specs.map_history.specs.Words.{word_of}
use Rattle.history_orders.specs.Turns.{Follows}
use Rattle.history_orders.specs.Stamped.{Stamped, map_of, IsReplayed, HasReply, IsStill, IsHistoryOf}
use Rattle.history_core.specs.State.{Requests, Seen, HistoryState, has_replied}
use Rattle.history_core.specs.Events.{entry_seen}

module _ (c : Requests) (w : HistoryState) where
  -- sections, their workers and their runs
  pub record SectionsAreSound : Type 0 where
    pub within : (d : ℕ) → w.stage d ≤ 4
    pub positive : (d : ℕ) → w.used d ≡ true → 0 < w.answer d
    -- a section is done only before its clock is loaded or behind its reply
    pub ended : (d : ℕ) → w.used d ≡ true → w.done d ≡ true → (w.stage d ≡ 0) ⊎ (w.stage d ≡ 4)
    -- a worker's published section is for a request of its own, and each open section is its
    -- worker's published one
    pub owned : (r d : ℕ) → w.published r ≡ suc d → (w.used d ≡ true) × (c.worker (w.request d) ≡ r)
    pub published : (d : ℕ) → w.used d ≡ true → w.done d ≡ false
        → w.published (c.worker (w.request d)) ≡ suc d
    -- a run that has loaded the clock is of a section that has come so far
    pub running : (r : ℕ) → w.loaded r ≡ true → (w.used (w.run r) ≡ true) × (1 ≤ w.stage (w.run r))

  -- stamps and replies
  pub record StampsAreSound : Type 0 where
    -- the request of an open section has no stamp before it comes to its own
    pub fresh : (d : ℕ) → w.used d ≡ true → w.done d ≡ false → w.stage d ≤ 1 → w.stamp (w.request d) ≡ 0
    -- who has stamped what
    pub stamped : (d : ℕ) → w.used d ≡ true → 2 ≤ w.stage d
        → (w.stamp (w.request d) ≢ 0) × (w.by (w.request d) ≡ suc d)
    pub by_section : (n d : ℕ) → w.by n ≡ suc d
        → (w.used d ≡ true) × (w.request d ≡ n) × (2 ≤ w.stage d)
    -- a stamped request is known to its worker, or is that of the section that its worker has published
    pub told : (n : ℕ) → w.stamp n ≢ 0 → w.known (c.worker n) n ≡ false
        → (w.by n ≢ 0) × (w.published (c.worker n) ≡ w.by n)
    -- replies are those of stamped requests, or their workers have written them by a read and not yet the stamp;
    -- and what is known stands
    pub replied : (n : ℕ) → w.reply n ≢ 0 → has_replied (w.look (c.worker n)) n ≡ false → w.stamp n ≢ 0
    pub answered : (d : ℕ) → w.used d ≡ true → 4 ≤ w.stage d → w.reply (w.request d) ≢ 0
    pub closed : (n : ℕ) → w.stamp n ≢ 0 → w.by n ≡ 0 → w.reply n ≢ 0
    pub known : (r n : ℕ) → w.known r n ≡ true → (w.stamp n ≢ 0) × (w.reply n ≢ 0)

  -- the clock
  pub record ClockIsSound : Type 0 where
    -- it was raised for each section that has come so far, and for each request that has its reply
    pub raised : (d : ℕ) → w.used d ≡ true → 3 ≤ w.stage d → w.stamp (w.request d) / 2 ≤ w.clock
    pub replied : (n : ℕ) → w.reply n ≢ 0 → w.stamp n / 2 ≤ w.clock
    -- a section's stamp is above the clock at its publication
    pub floor : (d : ℕ) → w.used d ≡ true → w.floor d ≤ w.clock
    pub above : (d : ℕ) → w.used d ≡ true → 2 ≤ w.stage d → w.floor d < w.stamp (w.request d) / 2
    -- a run's loaded clock is between
    pub hand : (r : ℕ) → w.loaded r ≡ true → (w.floor (w.run r) ≤ w.hand r) × (w.hand r ≤ w.clock)
    -- and is half of the stamp of each request with a key in common, or above, as long as its own
    -- one isn't stamped
    pub keys : c.is_map ≡ true → (r n key : ℕ) → w.loaded r ≡ true → w.stage (w.run r) ≡ 1
        → w.stamp n ≢ 0
        → DependsOn (c.op n) key → DependsOn (c.op (w.request (w.run r))) key → w.stamp n / 2 ≤ w.hand r
    -- clock and stamps are no greater than the number of stamped requests lets them be
    pub small : w.clock ≤ length w.history
    pub half : (n : ℕ) → w.stamp n / 2 ≤ length w.history

  -- what comes after what
  pub record OrderIsSound : Type 0 where
    -- the earlier requests of a section's trace, and what its publisher knew, were stamped by its
    -- publication
    pub prior : (d n : ℕ) → w.used d ≡ true → n < w.request d → c.trace n ≡ c.trace (w.request d)
        → (w.stamp n ≢ 0) × (w.stamp n / 2 ≤ w.floor d)
    pub knew : (d n : ℕ) → w.used d ≡ true → w.knew d n ≡ true
        → (w.stamp n ≢ 0) × (w.stamp n / 2 ≤ w.floor d)
    -- a stamp follows those of all that the publisher of its section knew, or the worker that looked for it
    pub saw : (n k : ℕ) → w.stamp n ≢ 0 → w.saw n k ≡ true → (w.stamp k ≢ 0) × Follows (w.stamp k) (w.stamp n)
    -- along a trace stamps follow one another
    pub traces : (k n : ℕ) → k < n → c.trace k ≡ c.trace n → w.stamp n ≢ 0
        → (w.stamp k ≢ 0) × Follows (w.stamp k) (w.stamp n)

  -- the history
  pub record HistoryIsSound : Type 0 where
    pub history : IsHistoryOf c.op w.stamp w.history
    -- of a map: its replies are those of the replay, and so are the sections' answers and the reply
    -- words
    pub replayed : c.is_map ≡ true → IsReplayed w.history
    pub pairs : c.is_map ≡ true → w.pairs ≡ map_of w.history
    pub answers : c.is_map ≡ true → (d : ℕ) (e : Stamped) → w.used d ≡ true → 2 ≤ w.stage d
        → Contains w.history e → e.number ≡ w.request d → w.answer d ≡ word_of e.reply
    pub replies : c.is_map ≡ true → (e : Stamped) → Contains w.history e → w.reply e.number ≢ 0
        → w.reply e.number ≡ word_of e.reply

  -- a worker has written the reply of what it has seen, and not yet the stamp
  pub record IsToStamp (r : ℕ) (seen : Seen) : Type 0 where
    pub idle : w.published r ≡ 0
    pub unknown : w.known r seen.number ≡ false
    pub unstamped : w.stamp seen.number ≡ 0
    pub replied : w.reply seen.number ≡ seen.answer

  -- what a worker has seen
  pub record LookIsSound (r : ℕ) (seen : Seen) : Type 0 where
    pub own : c.worker seen.number ≡ r
    pub positive : 0 < seen.answer
    -- its clock was loaded, and is at least half of the stamp of each request that it knew then; among these are the
    -- earlier ones of the trace
    pub clock : seen.clock ≤ w.clock
    pub known : (k : ℕ) → seen.known k ≡ true → (w.stamp k ≢ 0) × (w.stamp k / 2 ≤ seen.clock)
    pub earlier : (k : ℕ) → k < seen.number → c.trace k ≡ c.trace seen.number → seen.known k ≡ true
    -- no run whose section isn't stamped and has a key in common has loaded an earlier clock
    pub keys : c.is_map ≡ true → (i key : ℕ) → w.loaded i ≡ true → w.stage (w.run i) ≡ 1
        → DependsOn (c.op seen.number) key → DependsOn (c.op (w.request (w.run i))) key → seen.clock ≤ w.hand i
    -- at its turn the reply is that of the map, which stays as it is
    pub answers : c.is_map ≡ true → seen.answer ≡ word_of seen.reply
    pub reply : c.is_map ≡ true → HasReply (entry_seen c seen) w.history
    pub still : c.is_map ≡ true → IsStill (entry_seen c seen) w.history
    pub between : seen.replied ≡ true → IsToStamp r seen

  -- reads without a lock
  pub record ReadsAreSound : Type 0 where
    pub looks : (r : ℕ) (seen : Seen) → w.look r ≡ Some seen → LookIsSound r seen
    -- a section's stamp is even; an entry with an odd one changes nothing at its turn
    pub even : (n d : ℕ) → w.by n ≡ suc d → w.stamp n % 2 ≡ 0
    pub still : c.is_map ≡ true → (e : Stamped) → Contains w.history e → e.stamp % 2 ≡ 1 → IsStill e w.history

  -- what holds after every list of enabled events
  pub record IsSound : Type 0 where
    pub sections : SectionsAreSound
    pub stamps : StampsAreSound
    pub clock : ClockIsSound
    pub order : OrderIsSound
    pub history : HistoryIsSound
    pub reads : ReadsAreSound
