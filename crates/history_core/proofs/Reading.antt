-- A look without a lock keeps the invariant, and so does a worker that forgets what it has seen.
use Rattle.std.proofs.Common.{◌≡◌, ◌≢◌, ℕ, ◌≤◌, Bool, true, false, List, Option, Some, None, refl, sym, ap, ◌∙◌, subst, inl, inr, ⊎_elim, arith}
use Rattle.std.specs.Prelude.{◌/◌}
use Rattle.std.proofs.lemmas.Bool.{cases_eq}
use mathlib.Core.Logic.{dite}
use native.Mathlib.Decide.{ℕ_discrete}
use Rattle.history_orders.specs.map_history.specs.Keys.{DependsOn}
use Rattle.history_orders.specs.map_history.specs.Replay.{reply_of, map_after}
use Rattle.body_terms.specs.Update.{upd}
use Rattle.history_orders.specs.Stamped.{Stamped, turn_of, AreApartOrStill}
use Rattle.history_orders.proofs.Turns.{late_stamp}
use Rattle.history_orders.proofs.Still.{reply-found, still-found}
use Rattle.history_core.specs.State.{Requests, Seen, HistoryState, is_replied, has_replied}
use Rattle.history_core.specs.Events.{Look, Forget, read_stamp_by, seen_by, entry_seen, MayLook, after}
use Rattle.history_core.specs.Sound.{SectionsAreSound, IsToStamp, LookIsSound, ReadsAreSound, IsSound}
use Rattle.history_core.proofs.Changes.{upd_other}
use Rattle.history_core.proofs.Looks.{none_seen, one_seen, not_both, unreplied, seen_cases}
use Rattle.history_core.proofs.Running.{raised_for}

module _ (c : Requests) (w : HistoryState) (s : IsSound c w) where
  -- nothing of the sections changes with the words of a read
  pub sections_stand : (stamp reply : ℕ → ℕ) (history : List Stamped) (saw known : ℕ → ℕ → Bool) (look : ℕ → Option Seen)
      → SectionsAreSound c (record w { stamp = stamp; reply = reply; history = history; saw = saw; known = known; look = look })
  sections_stand stamp reply history saw known look = record {
    within = s.sections.within;
    positive = s.sections.positive;
    ended = s.sections.ended;
    owned = s.sections.owned;
    published = s.sections.published;
    running = s.sections.running;
  }

  -- where nobody has replied to a request that hadn't, a look changes nothing but itself
  looked : (look : ℕ → Option Seen) → ((i n : ℕ) → has_replied (look i) n ≡ false → has_replied (w.look i) n ≡ false)
      → ReadsAreSound c (record w { look = look }) → IsSound c (record w { look = look })
  looked look still reads = record {
    sections = sections_stand w.stamp w.reply w.history w.saw w.known look;
    stamps = record {
      fresh = s.stamps.fresh;
      stamped = s.stamps.stamped;
      by_section = s.stamps.by_section;
      told = s.stamps.told;
      replied = λ n some not. s.stamps.replied n some (still (c.worker n) n not);
      answered = s.stamps.answered;
      closed = s.stamps.closed;
      known = s.stamps.known;
    };
    clock = record {
      raised = s.clock.raised;
      replied = s.clock.replied;
      floor = s.clock.floor;
      above = s.clock.above;
      hand = s.clock.hand;
      keys = s.clock.keys;
      small = s.clock.small;
      half = s.clock.half;
    };
    order = record { prior = s.order.prior; knew = s.order.knew; saw = s.order.saw; traces = s.order.traces };
    history = record {
      history = s.history.history;
      replayed = s.history.replayed;
      pairs = s.history.pairs;
      answers = s.history.answers;
      replies = s.history.replies;
    };
    reads = reads;
  }

  -- what a worker has seen stands where only replies of reads are written, be it its own or another's
  pub look_stands : (r : ℕ) (seen : Seen) (replied : Bool) (reply : ℕ → ℕ) (look : ℕ → Option Seen)
      → (replied ≡ true → IsToStamp c (record w { reply = reply; look = look }) r seen)
      → LookIsSound c w r seen → LookIsSound c (record w { reply = reply; look = look }) r (record seen { replied = replied })
  look_stands r seen replied reply look between l = record {
    own = l.own;
    positive = l.positive;
    clock = l.clock;
    known = l.known;
    earlier = l.earlier;
    keys = l.keys;
    answers = l.answers;
    reply = l.reply;
    still = l.still;
    between = λ is. let t = between is in record { idle = t.idle; unknown = t.unknown; unstamped = t.unstamped; replied = t.replied };
  }

  pub other_stands : (r : ℕ) (seen : Seen) (reply : ℕ → ℕ) (look : ℕ → Option Seen) → reply seen.number ≡ w.reply seen.number
      → LookIsSound c w r seen → LookIsSound c (record w { reply = reply; look = look }) r seen
  other_stands r seen reply look same l = look_stands r seen seen.replied reply look
      (λ is. let t = l.between is in record { idle = t.idle; unknown = t.unknown; unstamped = t.unstamped; replied = same ∙ t.replied }) l

  -- a worker that hasn't replied gives up what it has seen, or looks anew
  still_unreplied : (r : ℕ) (now : Option Seen) → is_replied (w.look r) ≡ false
      → (i n : ℕ) → has_replied (upd w.look r now i) n ≡ false → has_replied (w.look i) n ≡ false
  still_unreplied r now settled i n not = dite (ℕ_discrete i r)
      (λ own. unreplied (w.look i) n (ap (λ k. is_replied (w.look k)) own ∙ settled))
      (λ other. ap (λ o. has_replied o n) (sym (upd_other w.look r i now other)) ∙ not)

  pub forget_sound : (r : ℕ) → is_replied (w.look r) ≡ false → IsSound c (after c w (Forget r))
  forget_sound r settled = looked (upd w.look r None) (still_unreplied r None settled) (record {
    looks = λ i seen is. ⊎_elim
        (λ own. absurd (none_seen seen own.1))
        (λ other. other_stands i seen w.reply (upd w.look r None) refl (s.reads.looks i seen other.1))
        (seen_cases w.look r None i seen is);
    even = s.reads.even;
    still = s.reads.still;
  })

  -- what a worker sees at its look
  module _ (r n answer : ℕ) (may : MayLook c w r n answer) where
    abbrev seen : Seen
    seen = seen_by c w r n answer

    -- the clock was raised for each stamped request with a key in common
    raised : c.is_map ≡ true → (key k : ℕ) → w.stamp k ≢ 0 → DependsOn (c.op k) key → DependsOn (c.op n) key → w.stamp k / 2 ≤ w.clock
    raised map key k some a b = raised_for c w key
        (λ e used two on. may.alone map e used (omega arith) (omega arith) key b on) s.stamps s.clock k some a

    -- so each entry that comes later has no key in common, or is a read's
    apart_or_still : c.is_map ≡ true → AreApartOrStill (entry_seen c seen) w.history
    apart_or_still map x at later =
        let high = late_stamp (turn_of x) (turn_of (entry_seen c seen)) later in
        ⊎_elim
        (λ (same : x.stamp ≡ read_stamp_by w.clock). inr (s.reads.still map x at (let odd = same in omega arith)))
        (λ other. inl (λ key a b.
        let stamp = s.history.history.stamps x at in
        let low = raised map key x.number (λ none. s.history.history.stamped x at (stamp ∙ none))
        (subst (λ op. DependsOn op key) (s.history.history.ops x at) a) b in
        let unlike = other in omega arith))
        (cases_eq x.stamp (read_stamp_by w.clock))

    seen_sound : LookIsSound c (after c w (Look r n answer)) r seen
    seen_sound = record {
      own = may.own;
      positive = may.positive;
      clock = omega arith;
      known = λ k knew. let both = s.stamps.known r k knew in (both.0, s.clock.replied k both.1);
      earlier = may.earlier;
      keys = λ map i key ready at a b. let run = s.sections.running i ready in
          absurd (may.alone map (w.run i) run.0 run.1 (omega arith) key a b);
      answers = may.answers;
      reply = λ map. ap (λ pairs. reply_of pairs (c.op n)) (s.history.pairs map)
          ∙ reply-found (entry_seen c seen) w.history s.history.history.order (apart_or_still map);
      still = λ map. still-found (entry_seen c seen) w.history s.history.history.order (apart_or_still map)
          (subst (λ pairs. map_after pairs (c.op n) ≡ pairs) (s.history.pairs map) (may.still map));
      between = λ replied. absurd (not_both (sym replied));
    }

    pub look_sound : IsSound c (after c w (Look r n answer))
    look_sound = looked (upd w.look r (Some seen)) (still_unreplied r (Some seen) may.settled) (record {
      looks = λ i seen' is. ⊎_elim
          (λ own. subst (λ k. LookIsSound c (after c w (Look r n answer)) k seen') (sym own.0)
          (subst (LookIsSound c (after c w (Look r n answer)) r) (one_seen seen seen' own.1) seen_sound))
          (λ other. other_stands i seen' w.reply (upd w.look r (Some seen)) refl (s.reads.looks i seen' other.1))
          (seen_cases w.look r (Some seen) i seen' is);
      even = s.reads.even;
      still = s.reads.still;
    })
