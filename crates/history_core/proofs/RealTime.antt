-- What is asked behind a state gets its stamp behind all that was answered there.
use Rattle.std.proofs.Common.{◌≡◌, ◌≢◌, ℕ, suc, ◌<◌, ◌≤◌, ◌*◌, Bool, true, false, cond, List, [], ◌∷◌, Option, Some, None, refl, sym, ap, ◌∙◌, subst, inl, inr, ⊎_elim, arith}
use Rattle.std.specs.Prelude.{◌⊎◌, ◌==◌, ◌/◌, max}
use Rattle.std.proofs.lemmas.Bool.{cases_lt, cases_eq}
use mathlib.Core.Logic.{dite}
use native.Mathlib.Decide.{ℕ_discrete}
use Rattle.body_terms.specs.Update.{upd}
use Rattle.history_orders.specs.Turns.{Follows}
use Rattle.history_core.specs.State.{Requests, Seen, HistoryState, is_replied, has_replied}
use Rattle.history_core.specs.Events.{Event, Publish, Over, LoadClock, StampExchange, RaiseClock, WriteReply, SetDone, Learn, Free, Look, Forget, ReadReply, ReadStamp, stamp_by, read_stamp_by, seen_by, stamped, replied_by, read, read_by, IsBetween, MayReply, Enabled, after}
use Rattle.history_core.specs.Sound.{IsSound}
use Rattle.history_core.specs.Schedules.{AllEnabled, after_all}
use Rattle.history_core.specs.RealTime.{IsUnasked, EventsKeepRealTime, PublicationsAsk}
use Rattle.history_core.proofs.Changes.{upd_same, upd_other}
use Rattle.history_core.proofs.Looks.{one_seen, none_seen, replied_parts, replied_clash, seen_cases}
use Rattle.history_core.proofs.Keeping.{event_keeps, schedule_keeps}
use Rattle.history_core.proofs.Standing.{words_stand}

-- the clock has come to this floor, and so has each loaded clock by which the request may be stamped, for its section or
-- for a read of it; its stamp is above
pub record IsSince (n floor : ℕ) (w : HistoryState) : Type 0 where
  pub low : floor ≤ w.clock
  pub loaded : (r : ℕ) → w.loaded r ≡ true → w.request (w.run r) ≡ n → floor ≤ w.hand r
  pub looks : (r : ℕ) (seen : Seen) → w.look r ≡ Some seen → seen.number ≡ n → floor ≤ seen.clock
  pub stamped : w.stamp n ≢ 0 → 2 * floor < w.stamp n

-- from the one state to the other stamps stand, and what comes since a floor still does
pub record Passes (w v : HistoryState) : Type 0 where
  pub stamps : (n : ℕ) → w.stamp n ≢ 0 → v.stamp n ≡ w.stamp n
  pub since : (n floor : ℕ) → IsSince n floor w → IsSince n floor v

pub passes_nowhere : (w : HistoryState) → Passes w w
passes_nowhere w = record { stamps = λ n some. refl; since = λ n floor is. is }

pub passes_more : (u w v : HistoryState) → Passes u w → Passes w v → Passes u v
passes_more u w v one two = record {
  stamps = λ n some. two.stamps n (λ none. some (sym (one.stamps n some) ∙ none)) ∙ one.stamps n some;
  since = λ n floor is. two.since n floor (one.since n floor is);
}

-- what an event asks for to pass: no run of a section that is published has loaded the clock, and one that stamps has
abbrev pub MayPass : HistoryState → Event → Type 0
MayPass w (Publish r d n answer) = (r' : ℕ) → w.loaded r' ≡ true → w.run r' ≢ d
MayPass w (StampExchange r) = w.loaded r ≡ true
MayPass w _ = Unit {0}

module _ (c : Requests) (w : HistoryState) (n floor : ℕ) (is : IsSince n floor w) where
  publish_since : (r d k answer : ℕ) → ((r' : ℕ) → w.loaded r' ≡ true → w.run r' ≢ d) → IsSince n floor (after c w (Publish r d k answer))
  publish_since r d k answer apart = record {
    low = is.low;
    loaded = λ r' ready own. is.loaded r' ready (sym (upd_other w.request d (w.run r') k (apart r' ready)) ∙ own);
    looks = is.looks;
    stamped = is.stamped;
  }

  load_since : (r d : ℕ) → IsSince n floor (after c w (LoadClock r d))
  load_since r d = record {
    low = is.low;
    loaded = λ r' ready own. dite (ℕ_discrete r' r)
        (λ same. subst (λ k. floor ≤ k) (sym (upd_same w.hand r r' w.clock same)) is.low)
        (λ other. subst (λ k. floor ≤ k) (sym (upd_other w.hand r r' w.clock other))
        (is.loaded r' (sym (upd_other w.loaded r r' true other) ∙ ready) (ap w.request (sym (upd_other w.run r r' d other)) ∙ own)));
    looks = is.looks;
    stamped = is.stamped;
  }

  raise_since : (d : ℕ) → IsSince n floor (after c w (RaiseClock d))
  raise_since d = record { low = higher w.clock (w.stamp (w.request d) / 2) is.low; loaded = is.loaded; looks = is.looks; stamped = is.stamped }
    where
      higher : (a b : ℕ) → floor ≤ a → floor ≤ max a b
      higher a b low = grind arith

  still_loaded : (r r' : ℕ) → upd w.loaded r false r' ≡ true → w.loaded r' ≡ true
  still_loaded r r' ready = grind arith

  late_since : (r : ℕ) → IsSince n floor (record w { loaded = upd w.loaded r false })
  late_since r = record { low = is.low; loaded = λ r' ready own. is.loaded r' (still_loaded r r' ready) own; looks = is.looks; stamped = is.stamped }

  stamped_since : (r : ℕ) → w.loaded r ≡ true → IsSince n floor (stamped c w r)
  stamped_since r ready = record {
    low = is.low;
    loaded = λ r' ready own. is.loaded r' (still_loaded r r' ready) own;
    looks = is.looks;
    stamped = λ some. dite (ℕ_discrete n (w.request (w.run r)))
        (λ own.
        let now = upd_same w.stamp (w.request (w.run r)) n (stamp_by (w.hand r)) own in
        let low = is.loaded r ready (sym own) in
        omega arith)
        (λ other.
        let still = upd_other w.stamp (w.request (w.run r)) n (stamp_by (w.hand r)) other in
        subst (λ k. 2 * floor < k) (sym still) (is.stamped (λ none. some (still ∙ none))));
  }

  stamp_since : (r : ℕ) → w.loaded r ≡ true → (b : Bool) → IsSince n floor (cond b (stamped c w r) (record w { loaded = upd w.loaded r false }))
  stamp_since r ready true = stamped_since r ready
  stamp_since r ready false = late_since r

  look_since : (r k answer : ℕ) → IsSince n floor (after c w (Look r k answer))
  look_since r k answer = record {
    low = is.low;
    loaded = is.loaded;
    looks = λ i seen at own. ⊎_elim
        (λ same. subst (λ s. floor ≤ s.clock) (one_seen (seen_by c w r k answer) seen same.1) is.low)
        (λ other. is.looks i seen other.1 own)
        (seen_cases w.look r (Some (seen_by c w r k answer)) i seen at);
    stamped = is.stamped;
  }

  forgotten_looks : (r : ℕ) → (i : ℕ) (seen : Seen) → upd w.look r None i ≡ Some seen → seen.number ≡ n → floor ≤ seen.clock
  forgotten_looks r i seen at own = ⊎_elim
      (λ same. absurd (none_seen seen same.1))
      (λ other. is.looks i seen other.1 own)
      (seen_cases w.look r None i seen at)

  replied_since : (r : ℕ) (o : Option Seen) → w.look r ≡ o → IsSince n floor (replied_by c w r o)
  replied_since r None at = is
  replied_since r (Some seen) at = record {
    low = is.low;
    loaded = is.loaded;
    looks = λ i seen' there own. ⊎_elim
        (λ same. let now = one_seen (record seen { replied = true }) seen' same.1 in
        subst (λ s. floor ≤ s.clock) now (is.looks r seen at (ap (λ s. s.number) now ∙ own)))
        (λ other. is.looks i seen' other.1 own)
        (seen_cases w.look r (Some (record seen { replied = true })) i seen' there);
    stamped = is.stamped;
  }

  read_since : (r : ℕ) (seen : Seen) → w.look r ≡ Some seen → IsSince n floor (read c w r seen)
  read_since r seen at = record {
    low = is.low;
    loaded = is.loaded;
    looks = forgotten_looks r;
    stamped = λ some. ⊎_elim
        (λ own.
        let now = upd_same w.stamp seen.number n (read_stamp_by seen.clock) own in
        let low = is.looks r seen at (sym own) in
        omega arith)
        (λ other.
        let still = upd_other w.stamp seen.number n (read_stamp_by seen.clock) other in
        subst (λ k. 2 * floor < k) (sym still) (is.stamped (λ none. some (still ∙ none))))
        (cases_eq n seen.number);
  }

  read_by_since : (r : ℕ) (o : Option Seen) → w.look r ≡ o → IsSince n floor (read_by c w r o)
  read_by_since r None at = is
  read_by_since r (Some seen) at = by (w.stamp seen.number == 0)
    where
      by : (b : Bool) → IsSince n floor (cond b (read c w r seen) w)
      by true = read_since r seen at
      by false = is

  event_since : (e : Event) → MayPass w e → IsSince n floor (after c w e)
  event_since (Publish r d k answer) may = publish_since r d k answer may
  event_since (Over r) may = record { low = is.low; loaded = is.loaded; looks = is.looks; stamped = is.stamped }
  event_since (LoadClock r d) may = load_since r d
  event_since (StampExchange r) may = stamp_since r may (w.stamp (w.request (w.run r)) == 0)
  event_since (RaiseClock d) may = raise_since d
  event_since (WriteReply d) may = record { low = is.low; loaded = is.loaded; looks = is.looks; stamped = is.stamped }
  event_since (SetDone d) may = record { low = is.low; loaded = is.loaded; looks = is.looks; stamped = is.stamped }
  event_since (Learn r k) may = record { low = is.low; loaded = is.loaded; looks = is.looks; stamped = is.stamped }
  event_since (Free d) may = record { low = is.low; loaded = is.loaded; looks = is.looks; stamped = is.stamped }
  event_since (Look r k answer) may = look_since r k answer
  event_since (Forget r) may = record { low = is.low; loaded = is.loaded; looks = forgotten_looks r; stamped = is.stamped }
  event_since (ReadReply r) may = replied_since r (w.look r) refl
  event_since (ReadStamp r) may = read_by_since r (w.look r) refl

pub event_passes : (c : Requests) (w : HistoryState) (e : Event) → MayPass w e → Passes w (after c w e)
event_passes c w e may = record { stamps = (words_stand c w e).stamps; since = λ n floor is. event_since c w n floor is e may }

-- a descriptor that isn't used has no run
pub unused_apart : (c : Requests) (w : HistoryState) (d : ℕ) → IsSound c w → w.used d ≡ false → (r : ℕ) → w.loaded r ≡ true → w.run r ≢ d
unused_apart c w d s unused r ready same =
    let clash : true ≡ false = sym (s.sections.running r ready).0 ∙ (ap w.used same ∙ unused) in cc

module _ (c : Requests) where
  may_pass : (w : HistoryState) (e : Event) → IsSound c w → Enabled c w e → MayPass w e
  may_pass w (Publish r d n answer) s may = unused_apart c w d s may.unused
  may_pass w (StampExchange r) s may = may.loaded
  may_pass w (Over r) s may = tt
  may_pass w (LoadClock r d) s may = tt
  may_pass w (RaiseClock d) s may = tt
  may_pass w (WriteReply d) s may = tt
  may_pass w (SetDone d) s may = tt
  may_pass w (Learn r n) s may = tt
  may_pass w (Free d) s may = tt
  may_pass w (Look r n answer) s may = tt
  may_pass w (Forget r) s may = tt
  may_pass w (ReadReply r) s may = tt
  may_pass w (ReadStamp r) s may = tt

  passes_all : (w : HistoryState) (es : List Event) → IsSound c w → AllEnabled c w es → Passes w (after_all c w es)
  passes_all w [] s ok = passes_nowhere w
  passes_all w (e ∷ es) s ok = passes_more w (after c w e) (after_all c (after c w e) es)
      (event_passes c w e (may_pass w e s ok.0)) (passes_all (after c w e) es (event_keeps c w e ok.0 s) ok.1)

  -- a request that isn't asked comes since the present clock
  pub unasked_since : (w : HistoryState) (n : ℕ) → IsSound c w → IsUnasked w n → IsSince n w.clock w
  unasked_since w n s unasked = record {
    low = omega arith;
    loaded = λ r ready own. absurd (open_run r ready own (w.done (w.run r)) refl);
    looks = λ r seen at own. absurd (unasked.unseen r seen at own);
    stamped = λ some. absurd (some unasked.unstamped);
  }
    where
      open_run : (r : ℕ) → w.loaded r ≡ true → w.request (w.run r) ≡ n → (b : Bool) → w.done (w.run r) ≡ b → ⊥
      open_run r ready own false going = unasked.unpublished (w.run r) (s.sections.running r ready).0 going own
      open_run r ready own true done =
          let run = s.sections.running r ready in
          ⊎_elim (λ left. let far = run.1 in omega arith)
          (λ four. (s.stamps.stamped (w.run r) run.0 (omega arith)).0 (ap w.stamp own ∙ unasked.unstamped))
          (s.sections.ended (w.run r) run.0 done)

  -- what is stamped by half at most of the clock comes before what is stamped by more
  pub follows_low : (a b clock : ℕ) → a / 2 ≤ clock → 2 * clock < b → Follows a b
  follows_low a b clock low high = ⊎_elim inl (λ late. let not = late in inr (omega arith, omega arith)) (cases_lt a b)

  -- what passes keeps the order of a stamped request and one that isn't asked
  pub passes_in_order : (w v : HistoryState) → IsSound c w → Passes w v → (k n : ℕ) → w.reply k ≢ 0 → w.stamp k ≢ 0 → IsUnasked w n
      → v.stamp n ≢ 0 → (v.stamp k ≡ w.stamp k) × Follows (v.stamp k) (v.stamp n)
  passes_in_order w v s passes k n replied stamped unasked some =
      let still = passes.stamps k stamped in
      let high = (passes.since n w.clock (unasked_since w n s unasked)).stamped some in
      (still, subst (λ a. Follows a (v.stamp n)) (sym still) (follows_low (w.stamp k) (v.stamp n) w.clock (s.clock.replied k replied) high))

  -- a read of this request has written its reply and not its stamp; it has loaded at most this clock
  pub record IsToCome (k clock : ℕ) (w : HistoryState) : Type 0 where
    pub seen : Seen
    pub looked : w.look (c.worker k) ≡ Some seen
    pub replied : seen.replied ≡ true
    pub number : seen.number ≡ k
    pub low : seen.clock ≤ clock

  -- or its stamp is there, and half of it at most this clock
  abbrev pub IsLow : ℕ → ℕ → HistoryState → Type 0
  IsLow k clock w = ((w.stamp k ≢ 0) × (w.stamp k / 2 ≤ clock)) ⊎ IsToCome k clock w

  module _ (w : HistoryState) (s : IsSound c w) (k clock : ℕ) (is : IsToCome k clock w) where
    same_look : (w' : HistoryState) → w'.look (c.worker k) ≡ w.look (c.worker k) → IsLow k clock w'
    same_look w' same = inr (record { seen = is.seen; looked = same ∙ is.looked; replied = is.replied; number = is.number; low = is.low })

    -- another worker's look
    other_look : (r : ℕ) → is_replied (w.look r) ≡ false → (now : Option Seen) → upd w.look r now (c.worker k) ≡ w.look (c.worker k)
    other_look r settled now = upd_other w.look r (c.worker k) now
        (λ same. replied_clash w.look (c.worker k) is.seen is.looked is.replied (ap (λ i. is_replied (w.look i)) same ∙ settled))

    stamp_low : (r : ℕ) (b : Bool) → IsLow k clock (cond b (stamped c w r) (record w { loaded = upd w.loaded r false }))
    stamp_low r true = same_look (stamped c w r) refl
    stamp_low r false = same_look (record w { loaded = upd w.loaded r false }) refl

    reply_low : (r : ℕ) → MayReply c w r → IsLow k clock (after c w (ReadReply r))
    reply_low r may = subst (λ o. IsLow k clock (replied_by c w r o)) (sym may.looked)
        (same_look (replied_by c w r (Some may.seen)) (other_look r (ap is_replied may.looked ∙ may.unreplied) (Some (record may.seen { replied = true }))))

    read_low : (r : ℕ) → IsBetween c w r → IsLow k clock (after c w (ReadStamp r))
    read_low r may = subst (λ o. IsLow k clock (read_by c w r o)) (sym may.looked)
        (subst (λ b. IsLow k clock (cond b (read c w r may.seen) w)) (sym (is_zero (w.stamp may.seen.number) unstamped)) by_worker)
      where
        is_zero : (n : ℕ) → n ≡ 0 → (n == 0) ≡ true
        is_zero n none = grind arith

        unstamped : w.stamp may.seen.number ≡ 0
        unstamped = ((s.reads.looks r may.seen may.looked).between may.replied).unstamped

        own : c.worker k ≡ r → IsLow k clock (read c w r may.seen)
        own same =
            let one = one_seen is.seen may.seen (sym is.looked ∙ (ap w.look same ∙ may.looked)) in
            let number : may.seen.number ≡ k = ap (λ s. s.number) (sym one) ∙ is.number in
            let now = upd_same w.stamp may.seen.number k (read_stamp_by may.seen.clock) (sym number) in
            let low : may.seen.clock ≤ clock = subst (λ s. s.clock ≤ clock) one is.low in
            inl (λ none. omega arith, omega arith)

        by_worker : IsLow k clock (read c w r may.seen)
        by_worker = ⊎_elim own
            (λ other. same_look (read c w r may.seen) (upd_other w.look r (c.worker k) None other))
            (cases_eq (c.worker k) r)

    to_come : (e : Event) → Enabled c w e → IsLow k clock (after c w e)
    to_come (Publish r d n answer) may = same_look (after c w (Publish r d n answer)) refl
    to_come (Over r) may = same_look (after c w (Over r)) refl
    to_come (LoadClock r d) may = same_look (after c w (LoadClock r d)) refl
    to_come (StampExchange r) may = stamp_low r (w.stamp (w.request (w.run r)) == 0)
    to_come (RaiseClock d) may = same_look (after c w (RaiseClock d)) refl
    to_come (WriteReply d) may = same_look (after c w (WriteReply d)) refl
    to_come (SetDone d) may = same_look (after c w (SetDone d)) refl
    to_come (Learn r n) may = same_look (after c w (Learn r n)) refl
    to_come (Free d) may = same_look (after c w (Free d)) refl
    to_come (Look r n answer) may = same_look (after c w (Look r n answer)) (other_look r may.settled (Some (seen_by c w r n answer)))
    to_come (Forget r) may = same_look (after c w (Forget r)) (other_look r may None)
    to_come (ReadReply r) may = reply_low r may
    to_come (ReadStamp r) may = read_low r may

  low_after : (w : HistoryState) (es : List Event) → IsSound c w → AllEnabled c w es → (k clock : ℕ) → IsLow k clock w → IsLow k clock (after_all c w es)
  low_after w [] s ok k clock low = low
  low_after w (e ∷ es) s ok k clock low = low_after (after c w e) es (event_keeps c w e ok.0 s) ok.1 k clock (⊎_elim
      (λ had. let still = (words_stand c w e).stamps k had.0 in
      inl (subst (λ a. (a ≢ 0) × (a / 2 ≤ clock)) (sym still) had))
      (λ coming. to_come w s k clock coming e ok.0)
      low)

  -- what is replied to is low by the clock
  pub replied_low : (w : HistoryState) → IsSound c w → (k : ℕ) → w.reply k ≢ 0 → IsLow k w.clock w
  replied_low w s k replied = by (has_replied (w.look (c.worker k)) k) refl
    where
      by : (b : Bool) → has_replied (w.look (c.worker k)) k ≡ b → IsLow k w.clock w
      by false not = inl (s.stamps.replied k replied not, s.clock.replied k replied)
      by true is = let p = replied_parts (w.look (c.worker k)) k is in
          inr (record { seen = p.0; looked = p.1; replied = p.2; number = p.3; low = (s.reads.looks (c.worker k) p.0 p.1).clock })

  -- a stamp that is there then is no later
  pub half_of : (v : HistoryState) → IsSound c v → (k clock : ℕ) → v.stamp k ≢ 0 → IsLow k clock v → v.stamp k / 2 ≤ clock
  half_of v sound k clock now low = ⊎_elim (λ had. had.1)
      (λ coming. absurd (now (ap v.stamp (sym coming.number)
      ∙ ((sound.reads.looks (c.worker k) coming.seen coming.looked).between coming.replied).unstamped)))
      low

  pub events_keep : EventsKeepRealTime c
  events_keep w es s ok k n replied unasked some =
      let v = after_all c w es in
      let passes = passes_all w es s ok in
      let high = (passes.since n w.clock (unasked_since w n s unasked)).stamped some in
      let low = low_after w es s ok k w.clock (replied_low w s k replied) in
      (passes.stamps k, λ now. follows_low (v.stamp k) (v.stamp n) w.clock (half_of v (schedule_keeps c w es ok s) k w.clock now low) high)

  pub publications_ask : PublicationsAsk c
  publications_ask w r d n answer s may unseen = record {
    unstamped = dite (ℕ_discrete (w.stamp n) 0) (λ none. none)
        (λ some. let told = s.stamps.told n some (ap (λ i. w.known i n) may.own ∙ may.unknown) in
        absurd (told.0 (sym told.1 ∙ (ap w.published may.own ∙ may.idle))));
    unpublished = λ e used going own.
        let published = s.sections.published e used going in
        let clash : 0 ≡ suc e = sym may.idle ∙ (ap w.published (sym may.own) ∙ (ap (λ k. w.published (c.worker k)) (sym own) ∙ published)) in
        cc;
    unseen = unseen;
  }
