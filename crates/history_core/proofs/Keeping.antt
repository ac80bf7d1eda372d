-- Each event keeps the invariant, and so does each list of enabled events.
use Rattle.std.proofs.Common.{◌≡◌, ℕ, suc, Bool, true, false, cond, List, [], ◌∷◌, refl, sym, subst, arith}
use Rattle.std.specs.Prelude.{◌==◌}
use Rattle.body_terms.specs.Update.{upd}
use Rattle.history_core.specs.State.{Requests, HistoryState}
use Rattle.history_core.specs.Events.{Event, Publish, Over, LoadClock, StampExchange, RaiseClock, WriteReply, SetDone, Learn, Free, Look, Forget, ReadReply, ReadStamp, stamped, read, read_by, MayStamp, IsBetween, Enabled, after}
use Rattle.history_core.specs.Sound.{SectionsAreSound, StampsAreSound, ClockIsSound, IsSound}
use Rattle.history_core.specs.Schedules.{first_state, AllEnabled, after_all}
use Rattle.history_core.proofs.Publishing.{publish_sections, publish_stamps, publish_clock, publish_order, over_sections, over_stamps, over_clock, over_order, free_sections, free_stamps, free_clock, free_order}
use Rattle.history_core.proofs.Running.{load_sections, load_stamps, load_clock, load_order, raise_sections, raise_stamps, raise_clock, raise_order}
use Rattle.history_core.proofs.Answering.{write_sections, write_stamps, write_clock, write_order, set_done_sections, set_done_stamps, set_done_clock, set_done_order, learn_sections, learn_stamps, learn_clock, learn_order}
use Rattle.history_core.proofs.Stamping.{lead, stamped_sections, stamped_stamps, stamped_clock, stamped_order, stamped_history}
use Rattle.history_core.proofs.Looks.{none_seen}
use Rattle.history_core.proofs.Looking.{publish_reads, over_reads, load_reads, late_reads, raise_reads, write_reads, set_done_reads, learn_reads, free_reads, stamped_reads}
use Rattle.history_core.proofs.Reading.{look_sound, forget_sound}
use Rattle.history_core.proofs.ReadReplies.{reply_sound}
use Rattle.history_core.proofs.ReadStamps.{read_sound}
use Rattle.history_core.proofs.Histories.{publish_history, load_history, raise_history, write_history, free_history}

module _ (c : Requests) where
  -- a run that comes to the stamp later
  late_keeps : (w : HistoryState) (r : ℕ) → IsSound c w → IsSound c (record w { loaded = upd w.loaded r false })
  late_keeps w r s = record {
    sections = late_sections w r s.sections;
    stamps = late_stamps w r s.stamps;
    clock = late_clock w r s.clock;
    order = record { prior = s.order.prior; knew = s.order.knew; saw = s.order.saw; traces = s.order.traces };
    history = record { history = s.history.history; replayed = s.history.replayed; pairs = s.history.pairs; answers = s.history.answers; replies = s.history.replies };
    reads = late_reads c w r s.reads;
  }
    where
      late_sections : (w : HistoryState) (r : ℕ) → SectionsAreSound c w → SectionsAreSound c (record w { loaded = upd w.loaded r false })
      late_sections w r sections = record {
        within = sections.within;
        positive = sections.positive;
        ended = sections.ended;
        owned = sections.owned;
        published = sections.published;
        running = grind arith;
      }

      late_stamps : (w : HistoryState) (r : ℕ) → StampsAreSound c w → StampsAreSound c (record w { loaded = upd w.loaded r false })
      late_stamps w r stamps = record {
        fresh = stamps.fresh;
        stamped = stamps.stamped;
        by_section = stamps.by_section;
        told = stamps.told;
        replied = stamps.replied;
        answered = stamps.answered;
        closed = stamps.closed;
        known = stamps.known;
      }

      late_clock : (w : HistoryState) (r : ℕ) → ClockIsSound c w → ClockIsSound c (record w { loaded = upd w.loaded r false })
      late_clock w r clock = record {
        raised = clock.raised;
        replied = clock.replied;
        floor = clock.floor;
        above = clock.above;
        hand = grind arith;
        keys = λ map r' k key ready at some a b. clock.keys map r' k key (still r' ready) at some a b;
        small = clock.small;
        half = clock.half;
      }
        where
          still : (r' : ℕ) → upd w.loaded r false r' ≡ true → w.loaded r' ≡ true
          still r' ready = grind arith

  stamp_keeps : (w : HistoryState) (r : ℕ) → MayStamp c w r → IsSound c w → IsSound c (after c w (StampExchange r))
  stamp_keeps w r may s = by_test (w.stamp (w.request (w.run r)) == 0) refl
    where
      zero_of : (n : ℕ) → (n == 0) ≡ true → n ≡ 0
      zero_of n is = grind arith

      by_test : (b : Bool) → (w.stamp (w.request (w.run r)) == 0) ≡ b → IsSound c (cond b (stamped c w r) (record w { loaded = upd w.loaded r false }))
      by_test true is =
          let first = lead c w r may s.sections s.stamps s.reads (zero_of (w.stamp (w.request (w.run r))) is) in
          record {
            sections = stamped_sections c w r first s.sections;
            stamps = stamped_stamps c w r first s.sections s.stamps;
            clock = stamped_clock c w r first may s.sections s.stamps s.clock;
            order = stamped_order c w r first s.stamps s.clock s.order;
            history = stamped_history c w r first may s.stamps s.clock s.history;
            reads = stamped_reads c w r first may s.clock s.history s.reads;
          }
      by_test false is = late_keeps w r s

  read_keeps : (w : HistoryState) (r : ℕ) → IsBetween c w r → IsSound c w → IsSound c (after c w (ReadStamp r))
  read_keeps w r is s = subst (λ o. IsSound c (read_by c w r o)) (sym is.looked)
      (subst (λ b. IsSound c (cond b (read c w r is.seen) w)) (sym (is_zero (w.stamp is.seen.number)
      ((s.reads.looks r is.seen is.looked).between is.replied).unstamped)) (read_sound c w s r is.seen is.looked is.replied))
    where
      is_zero : (n : ℕ) → n ≡ 0 → (n == 0) ≡ true
      is_zero n none = grind arith

  pub event_keeps : (w : HistoryState) (e : Event) → Enabled c w e → IsSound c w → IsSound c (after c w e)
  event_keeps w (Publish r d n answer) may s = record {
    sections = publish_sections c w r d n answer may s.sections s.stamps s.clock s.order;
    stamps = publish_stamps c w r d n answer may s.sections s.stamps s.clock s.order;
    clock = publish_clock c w r d n answer may s.sections s.stamps s.clock s.order;
    order = publish_order c w r d n answer may s.sections s.stamps s.clock s.order;
    history = publish_history c w s.history r d n answer;
    reads = publish_reads c w r d n answer may s.sections s.reads;
  }
  event_keeps w (Over r) may s = record {
    sections = over_sections c w r may s.sections s.stamps s.clock s.order;
    stamps = over_stamps c w r may s.sections s.stamps s.clock s.order;
    clock = over_clock c w r may s.sections s.stamps s.clock s.order;
    order = over_order c w r may s.sections s.stamps s.clock s.order;
    history = record { history = s.history.history; replayed = s.history.replayed; pairs = s.history.pairs; answers = s.history.answers; replies = s.history.replies };
    reads = over_reads c w r s.reads;
  }
  event_keeps w (LoadClock r d) may s = record {
    sections = load_sections c w r d may s.sections s.stamps s.clock s.order;
    stamps = load_stamps c w r d may s.sections s.stamps s.clock s.order;
    clock = load_clock c w r d may s.sections s.stamps s.clock s.order;
    order = load_order c w r d may s.sections s.stamps s.clock s.order;
    history = load_history c w s.history r d;
    reads = load_reads c w r d s.sections s.reads;
  }
  event_keeps w (StampExchange r) may s = stamp_keeps w r may s
  event_keeps w (RaiseClock d) may s = record {
    sections = raise_sections c w d may.0 may.1 s.sections s.stamps s.clock s.order;
    stamps = raise_stamps c w d may.0 may.1 s.sections s.stamps s.clock s.order;
    clock = raise_clock c w d may.0 may.1 s.sections s.stamps s.clock s.order;
    order = raise_order c w d may.0 may.1 s.sections s.stamps s.clock s.order;
    history = raise_history c w s.history d may.1;
    reads = raise_reads c w d s.reads;
  }
  event_keeps w (WriteReply d) may s = record {
    sections = write_sections c w d may.0 may.1 s.sections s.stamps s.clock s.order;
    stamps = write_stamps c w d may.0 may.1 s.sections s.stamps s.clock s.order;
    clock = write_clock c w d may.0 may.1 s.sections s.stamps s.clock s.order;
    order = write_order c w d may.0 may.1 s.sections s.stamps s.clock s.order;
    history = write_history c w s.history d may.0 may.1;
    reads = write_reads c w d may.0 may.1 s.stamps s.reads;
  }
  event_keeps w (SetDone d) may s = record {
    sections = set_done_sections c w d may.0 may.1 s.sections s.stamps s.clock s.order;
    stamps = set_done_stamps c w d may.0 may.1 s.sections s.stamps s.clock s.order;
    clock = set_done_clock c w d may.0 may.1 s.sections s.stamps s.clock s.order;
    order = set_done_order c w d may.0 may.1 s.sections s.stamps s.clock s.order;
    history = record { history = s.history.history; replayed = s.history.replayed; pairs = s.history.pairs; answers = s.history.answers; replies = s.history.replies };
    reads = set_done_reads c w d s.reads;
  }
  event_keeps w (Learn r n) may s = record {
    sections = learn_sections c w r n may.0 may.1 s.sections s.stamps s.clock s.order;
    stamps = learn_stamps c w r n may.0 may.1 s.sections s.stamps s.clock s.order;
    clock = learn_clock c w r n may.0 may.1 s.sections s.stamps s.clock s.order;
    order = learn_order c w r n may.0 may.1 s.sections s.stamps s.clock s.order;
    history = record { history = s.history.history; replayed = s.history.replayed; pairs = s.history.pairs; answers = s.history.answers; replies = s.history.replies };
    reads = learn_reads c w r n may.0 s.reads;
  }
  event_keeps w (Free d) may s = record {
    sections = free_sections c w d may s.sections s.stamps s.clock s.order;
    stamps = free_stamps c w d may s.sections s.stamps s.clock s.order;
    clock = free_clock c w d may s.sections s.stamps s.clock s.order;
    order = free_order c w d may s.sections s.stamps s.clock s.order;
    history = free_history c w s.history d;
    reads = free_reads c w d s.stamps s.reads;
  }
  event_keeps w (Look r n answer) may s = look_sound c w s r n answer may
  event_keeps w (Forget r) may s = forget_sound c w s r may
  event_keeps w (ReadReply r) may s = reply_sound c w s r may
  event_keeps w (ReadStamp r) may s = read_keeps w r may s

  pub first_sound : IsSound c first_state
  first_sound = record {
    sections = record { within = λ d. omega arith; positive = λ d used. absurd (no used); ended = λ d used. absurd (no used); owned = λ r d is. absurd (some is); published = λ d used. absurd (no used); running = λ r ready. absurd (no ready) };
    stamps = record { fresh = λ d used. absurd (no used); stamped = λ d used. absurd (no used); by_section = λ n d is. absurd (some is); told = λ n is. absurd (is refl); replied = λ n is not. absurd (is refl); answered = λ d used. absurd (no used); closed = λ n is. absurd (is refl); known = λ r n is. absurd (no is) };
    clock = record { raised = λ d used. absurd (no used); replied = λ n is. absurd (is refl); floor = λ d used. omega arith; above = λ d used. absurd (no used); hand = λ r ready. absurd (no ready); keys = λ map r n key ready. absurd (no ready); small = omega arith; half = λ n. omega arith };
    order = record { prior = λ d n used. absurd (no used); knew = λ d n used. absurd (no used); saw = λ n k is. absurd (is refl); traces = λ k n lt same is. absurd (is refl) };
    history = record {
      history = record { order = λ i j d before within. absurd (omega arith); stamped = λ e at. absurd (omega (arith, at.1)); stamps = λ e at. absurd (omega (arith, at.1)); ops = λ e at. absurd (omega (arith, at.1)); all = λ n is. absurd (is refl) };
      replayed = λ map. tt;
      pairs = λ map. refl;
      answers = λ map d e used. absurd (no used);
      replies = λ map e at some. absurd (some refl);
    };
    reads = record {
      looks = λ r seen is. absurd (none_seen seen is);
      even = λ n d is. absurd (some is);
      still = λ map e at. absurd (omega (arith, at.1));
    };
  }
    where
      no : false ≡ true → ⊥
      no e = cc

      some : {d : ℕ} → 0 ≡ suc d → ⊥
      some e = omega arith

  pub schedule_keeps : (w : HistoryState) (es : List Event) → AllEnabled c w es → IsSound c w → IsSound c (after_all c w es)
  schedule_keeps w [] ok s = s
  schedule_keeps w (e ∷ es) ok s = schedule_keeps (after c w e) es ok.1 (event_keeps w e ok.0 s)
