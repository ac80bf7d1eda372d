-- The events of the history, when each may come, and the state after it.
use Rattle.std.specs.Prelude.{ℕ, suc, ◌+◌, ◌*◌, ◌/◌, ◌<◌, ◌≤◌, ◌≡◌, ◌≢◌, ◌⊎◌, ◌==◌, max, cond, true, false, Option, Some, None}
use Rattle.history_orders.specs.map_history.specs.Keys.{HaveNoCommonKey}
use Rattle.history_orders.specs.map_history.specs.Replay.{reply_of, map_after}
use Rattle.history_orders.specs.map_history.specs.Words.{word_of}
use Rattle.body_terms.specs.Update.{upd}
use Rattle.body_terms.specs.Run.{written_once}
use Rattle.history_orders.specs.Stamped.{Stamped, put_in}
use Rattle.history_core.specs.State.{Requests, Seen, HistoryState, is_replied}

-- what may happen; `r` is the runner, `d` a descriptor, `n` a request
pub data Event : Type 0 where
  -- a worker publishes a section for a request, which gives this answer; later a run of its own has
  -- come to the section's end
  Publish : (r d n answer : ℕ) → Event
  Over : (r : ℕ) → Event
  -- a run loads the clock for its section, and tries to write the stamp; some run raises the clock,
  -- writes the reply, sets the section done
  LoadClock : (r d : ℕ) → Event
  StampExchange : (r : ℕ) → Event
  RaiseClock : (d : ℕ) → Event
  WriteReply : (d : ℕ) → Event
  SetDone : (d : ℕ) → Event
  -- a runner comes to know both words of a request
  Learn : (r n : ℕ) → Event
  -- a descriptor is free again
  Free : (d : ℕ) → Event
  -- reads without a lock: a worker looks for a request, whose body gives this answer, in the moment in which it loads
  -- the clock; it gives up what it has seen; it writes the reply, and then the stamp
  Look : (r n answer : ℕ) → Event
  Forget : (r : ℕ) → Event
  ReadReply : (r : ℕ) → Event
  ReadStamp : (r : ℕ) → Event

-- the stamp that a run gives by the clock that it has loaded
abbrev pub stamp_by : ℕ → ℕ
stamp_by clock = 2 * (clock + 1)

-- the stamp that a read gives by the clock that it has loaded
abbrev pub read_stamp_by : ℕ → ℕ
read_stamp_by clock = 2 * clock + 1

module _ (c : Requests) where
  -- the section has come at least so far
  abbrev pub comes : HistoryState → ℕ → ℕ → ℕ → ℕ
  comes w d stage = upd w.stage d (max (w.stage d) stage)

  -- the request with its stamp, and the reply of the map
  abbrev pub entry_by : HistoryState → ℕ → ℕ → Stamped
  entry_by w n stamp = record { stamp = stamp; number = n; op = c.op n; reply = reply_of w.pairs (c.op n) }

  -- the state after this run's exchange was the first on its request's stamp
  abbrev pub stamped : HistoryState → ℕ → HistoryState
  stamped w r = let n = w.request (w.run r) in record w {
    stamp = upd w.stamp n (stamp_by (w.hand r));
    history = put_in (entry_by w n (stamp_by (w.hand r))) w.history;
    pairs = map_after w.pairs (c.op n);
    by = upd w.by n (suc (w.run r));
    saw = upd w.saw n (w.knew (w.run r));
    stage = comes w (w.run r) 2;
    loaded = upd w.loaded r false;
  }

  -- what a worker sees that looks for this request
  abbrev pub seen_by : HistoryState → ℕ → ℕ → ℕ → Seen
  seen_by w r n answer = record {
    number = n;
    clock = w.clock;
    reply = reply_of w.pairs (c.op n);
    answer = answer;
    known = w.known r;
    replied = false;
  }

  -- the request with the stamp of its read
  abbrev pub entry_seen : Seen → Stamped
  entry_seen seen =
      record { stamp = read_stamp_by seen.clock; number = seen.number; op = c.op seen.number; reply = seen.reply }

  -- the state after a read has written its reply
  abbrev pub replied_by : HistoryState → ℕ → Option Seen → HistoryState
  replied_by w r None = w
  replied_by w r (Some seen) = record w {
    reply = upd w.reply seen.number (written_once (w.reply seen.number) seen.answer);
    look = upd w.look r (Some (record seen { replied = true }));
  }

  -- the state after a read has written its stamp, which it then knows
  abbrev pub read : HistoryState → ℕ → Seen → HistoryState
  read w r seen = record w {
    stamp = upd w.stamp seen.number (read_stamp_by seen.clock);
    history = put_in (entry_seen seen) w.history;
    saw = upd w.saw seen.number seen.known;
    known = upd w.known r (upd (w.known r) seen.number true);
    look = upd w.look r None;
  }

  abbrev pub read_by : HistoryState → ℕ → Option Seen → HistoryState
  read_by w r None = w
  read_by w r (Some seen) = cond (w.stamp seen.number == 0) (read w r seen) w

  -- the state after an event
  abbrev pub after : HistoryState → Event → HistoryState
  after w (Publish r d n answer) = record w {
    used = upd w.used d true;
    done = upd w.done d false;
    request = upd w.request d n;
    answer = upd w.answer d answer;
    stage = upd w.stage d 0;
    floor = upd w.floor d w.clock;
    knew = upd w.knew d (w.known r);
    published = upd w.published r (suc d);
  }
  after w (Over r) = record w { published = upd w.published r 0 }
  after w (LoadClock r d) = record w {
    stage = comes w d 1;
    loaded = upd w.loaded r true;
    run = upd w.run r d;
    hand = upd w.hand r w.clock;
  }
  after w (StampExchange r) = cond (w.stamp (w.request (w.run r)) == 0) (stamped w r)
      (record w { loaded = upd w.loaded r false })
  after w (RaiseClock d) = record w { clock = max w.clock (w.stamp (w.request d) / 2); stage = comes w d 3 }
  after w (WriteReply d) = record w
      { reply = upd w.reply (w.request d) (written_once (w.reply (w.request d)) (w.answer d)); stage = comes w d 4 }
  after w (SetDone d) = record w { done = upd w.done d true }
  after w (Learn r n) = record w { known = upd w.known r (upd (w.known r) n true) }
  after w (Free d) =
      record w {
        used = upd w.used d false;
        by = upd w.by (w.request d) (cond (w.by (w.request d) == suc d) 0 (w.by (w.request d)));
      }
  after w (Look r n answer) = record w { look = upd w.look r (Some (seen_by w r n answer)) }
  after w (Forget r) = record w { look = upd w.look r None }
  after w (ReadReply r) = replied_by w r (w.look r)
  after w (ReadStamp r) = read_by w r (w.look r)

  -- no other section that has loaded the clock and hasn't raised it has a key in common with this one
  abbrev pub IsAlone : HistoryState → ℕ → Type 0
  IsAlone w d = (e : ℕ) → e ≢ d → w.used e ≡ true → 1 ≤ w.stage e → w.stage e ≤ 2
      → HaveNoCommonKey (c.op (w.request d)) (c.op (w.request e))

  -- a worker may publish its next request: it knows both words of the earlier ones of the trace,
  -- and not of this one, and has written no read's reply without its stamp
  pub record MayPublish (w : HistoryState) (r d n answer : ℕ) : Type 0 where
    pub unused : w.used d ≡ false
    pub idle : w.published r ≡ 0
    pub own : c.worker n ≡ r
    pub unknown : w.known r n ≡ false
    pub earlier : (k : ℕ) → k < n → c.trace k ≡ c.trace n → w.known r k ≡ true
    pub positive : 0 < answer
    pub settled : is_replied (w.look r) ≡ false

  -- a run may load the clock: its section hasn't left, and where it is the first to come so far, it
  -- is alone on its keys
  pub record MayLoad (w : HistoryState) (d : ℕ) : Type 0 where
    pub used : w.used d ≡ true
    pub going : w.stage d ≡ 0 → w.done d ≡ false
    pub alone : c.is_map ≡ true → w.stage d ≤ 1 → IsAlone w d

  -- a run that has loaded the clock may try to stamp; the first one is alone on its keys, and its
  -- section answers what the map does
  pub record MayStamp (w : HistoryState) (r : ℕ) : Type 0 where
    pub loaded : w.loaded r ≡ true
    pub alone : c.is_map ≡ true → w.stage (w.run r) ≡ 1 → IsAlone w (w.run r)
    pub answers : c.is_map ≡ true → w.stage (w.run r) ≡ 1
        → w.answer (w.run r) ≡ word_of (reply_of w.pairs (c.op (w.request (w.run r))))

  -- the worker's own run of the section that it published has come to its end: it is done, and
  -- where its request was stamped, the worker
  -- knows both words
  pub record IsOver (w : HistoryState) (r : ℕ) : Type 0 where
    pub section : ℕ
    pub own : w.published r ≡ suc section
    pub done : w.done section ≡ true
    pub knows : 2 ≤ w.stage section → w.known r (w.request section) ≡ true

  -- a descriptor may be free again: its section is done, its worker has run it to its end, and no
  -- run of it is on the way
  pub record MayFree (w : HistoryState) (d : ℕ) : Type 0 where
    pub used : w.used d ≡ true
    pub done : w.done d ≡ true
    pub over : w.published (c.worker (w.request d)) ≢ suc d
    pub quiet : (r : ℕ) → w.loaded r ≡ true → w.run r ≢ d

  -- a worker may look for its next request: it knows both words of the earlier ones of the trace, and not of this
  -- one. No section that has loaded the clock and hasn't raised it has a key in common; the body's answer is the
  -- map's, and the map stays as it is
  pub record MayLook (w : HistoryState) (r n answer : ℕ) : Type 0 where
    pub own : c.worker n ≡ r
    pub unknown : w.known r n ≡ false
    pub earlier : (k : ℕ) → k < n → c.trace k ≡ c.trace n → w.known r k ≡ true
    pub positive : 0 < answer
    pub settled : is_replied (w.look r) ≡ false
    pub alone : c.is_map ≡ true → (d : ℕ) → w.used d ≡ true → 1 ≤ w.stage d → w.stage d ≤ 2
        → HaveNoCommonKey (c.op n) (c.op (w.request d))
    pub answers : c.is_map ≡ true → answer ≡ word_of (reply_of w.pairs (c.op n))
    pub still : c.is_map ≡ true → map_after w.pairs (c.op n) ≡ w.pairs

  -- it may write the reply of what it has seen: it has no section that it hasn't run to its end, and doesn't know both
  -- words of the request
  pub record MayReply (w : HistoryState) (r : ℕ) : Type 0 where
    pub seen : Seen
    pub looked : w.look r ≡ Some seen
    pub unreplied : seen.replied ≡ false
    pub idle : w.published r ≡ 0
    pub unknown : w.known r seen.number ≡ false

  -- it has written that reply, and its stamp is to come
  pub record IsBetween (w : HistoryState) (r : ℕ) : Type 0 where
    pub seen : Seen
    pub looked : w.look r ≡ Some seen
    pub replied : seen.replied ≡ true

  -- when an event may come; what it asks for beyond the order of the steps is what the machine supplies
  abbrev pub Enabled : HistoryState → Event → Type 0
  Enabled w (Publish r d n answer) = MayPublish w r d n answer
  Enabled w (Over r) = IsOver w r
  Enabled w (LoadClock r d) = MayLoad w d
  Enabled w (StampExchange r) = MayStamp w r
  Enabled w (RaiseClock d) = (w.used d ≡ true) × (2 ≤ w.stage d)
  Enabled w (WriteReply d) = (w.used d ≡ true) × (3 ≤ w.stage d)
  Enabled w (SetDone d) = (w.used d ≡ true) × ((w.stage d ≡ 0) ⊎ (w.stage d ≡ 4))
  Enabled w (Learn r n) = (w.stamp n ≢ 0) × (w.reply n ≢ 0)
  Enabled w (Free d) = MayFree w d
  Enabled w (Look r n answer) = MayLook w r n answer
  Enabled w (Forget r) = is_replied (w.look r) ≡ false
  Enabled w (ReadReply r) = MayReply w r
  Enabled w (ReadStamp r) = IsBetween w r
