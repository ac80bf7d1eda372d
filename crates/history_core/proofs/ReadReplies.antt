-- A read's reply keeps the invariant.
use Rattle.std.proofs.Common.{◌≡◌, ◌≢◌, ℕ, true, false, Option, Some, refl, sym, ap, ◌∙◌, subst, ⊎_elim, arith}
use Rattle.std.proofs.lemmas.Bool.{cases_eq}
use Rattle.body_terms.specs.Update.{upd}
use Rattle.body_terms.specs.Run.{written_once}
use Rattle.history_core.specs.State.{Requests, Seen, HistoryState, is_replied, has_replied}
use Rattle.history_core.specs.Events.{ReadReply, replied_by, MayReply, after}
use Rattle.history_core.specs.Sound.{StampsAreSound, ClockIsSound, HistoryIsSound, LookIsSound, ReadsAreSound, IsSound}
use Rattle.history_core.proofs.Changes.{upd_same, upd_other}
use Rattle.history_core.proofs.Looks.{one_seen, not_both, unreplied, own_number, seen_cases}
use Rattle.history_core.proofs.Stamping.{apart}
use Rattle.history_core.proofs.Reading.{sections_stand, look_stands, other_stands}

module _ (c : Requests) (w : HistoryState) (s : IsSound c w) (r : ℕ) (may : MayReply c w r) where
  abbrev seen : Seen
  seen = may.seen

  abbrev n : ℕ
  n = may.seen.number

  l : LookIsSound c w r may.seen
  l = s.reads.looks r may.seen may.looked

  unstamped : w.stamp n ≡ 0
  unstamped = ⊎_elim (λ none. none)
      (λ some. absurd (let told = s.stamps.told n some (ap (λ i. w.known i n) l.own ∙ may.unknown) in
      told.0 (sym told.1 ∙ (ap w.published l.own ∙ may.idle))))
      (cases_eq (w.stamp n) 0)

  none_replied : (k : ℕ) → c.worker k ≡ r → has_replied (w.look (c.worker k)) k ≡ false
  none_replied k own = unreplied (w.look (c.worker k)) k (ap (λ i. is_replied (w.look i)) own ∙ (ap is_replied may.looked ∙ may.unreplied))

  unanswered : w.reply n ≡ 0
  unanswered = ⊎_elim (λ none. none) (λ some. absurd (s.stamps.replied n some (none_replied n l.own) unstamped)) (cases_eq (w.reply n) 0)

  abbrev now : Seen
  now = record may.seen { replied = true }

  abbrev reply : ℕ → ℕ
  reply = upd w.reply n (written_once (w.reply n) may.seen.answer)

  abbrev look : ℕ → Option Seen
  look = upd w.look r (Some now)

  word_there : reply n ≡ may.seen.answer
  word_there = upd_same w.reply n n _ refl ∙ ap (λ k. written_once k may.seen.answer) unanswered

  other_word : (k : ℕ) → k ≢ n → reply k ≡ w.reply k
  other_word k other = upd_other w.reply n k _ other

  grown : (k : ℕ) → w.reply k ≢ 0 → reply k ≢ 0
  grown k some none = some (sym (other_word k (λ same. some (ap w.reply same ∙ unanswered))) ∙ none)

  -- who has a reply now and no read's, had one
  replied_before : (k : ℕ) → reply k ≢ 0 → has_replied (look (c.worker k)) k ≡ false → (w.reply k ≢ 0) × (has_replied (w.look (c.worker k)) k ≡ false)
  replied_before k some not =
      let other : k ≢ n = λ same. not_both (sym (ap (λ o. has_replied o k) (upd_same w.look r (c.worker k) (Some now) (ap c.worker same ∙ l.own))
      ∙ own_number now k refl same) ∙ not) in (
        λ none. some (other_word k other ∙ none),
        ⊎_elim (none_replied k)
            (λ apart. ap (λ o. has_replied o k) (sym (upd_other w.look r (c.worker k) (Some now) apart)) ∙ not) (cases_eq (c.worker k) r),
      )

  replied_stamps : StampsAreSound c (replied_by c w r (Some may.seen))
  replied_stamps = record {
    fresh = s.stamps.fresh;
    stamped = s.stamps.stamped;
    by_section = s.stamps.by_section;
    told = s.stamps.told;
    replied = λ k some not. let before = replied_before k some not in s.stamps.replied k before.0 before.1;
    answered = λ d used far. grown (w.request d) (s.stamps.answered d used far);
    closed = λ k some none. grown k (s.stamps.closed k some none);
    known = λ i k knew. let both = s.stamps.known i k knew in (both.0, grown k both.1);
  }

  replied_clock : ClockIsSound c (replied_by c w r (Some may.seen))
  replied_clock = record {
    raised = s.clock.raised;
    replied = λ k some. ⊎_elim
        (λ own. let none = ap w.stamp own ∙ unstamped in omega arith)
        (λ other. s.clock.replied k (λ none. some (other_word k other ∙ none)))
        (cases_eq k n);
    floor = s.clock.floor;
    above = s.clock.above;
    hand = s.clock.hand;
    keys = s.clock.keys;
    small = s.clock.small;
    half = s.clock.half;
  }

  replied_history : HistoryIsSound c (replied_by c w r (Some may.seen))
  replied_history = record {
    history = s.history.history;
    replayed = s.history.replayed;
    pairs = s.history.pairs;
    answers = s.history.answers;
    replies = λ map e at some.
        let still = other_word e.number (apart c w n unstamped s.history e at) in
        still ∙ s.history.replies map e at (λ none. some (still ∙ none));
  }

  replied_look : LookIsSound c (replied_by c w r (Some may.seen)) r now
  replied_look = look_stands c w s r may.seen true reply look
      (λ is. record { idle = may.idle; unknown = may.unknown; unstamped = unstamped; replied = word_there }) l

  replied_reads : ReadsAreSound c (replied_by c w r (Some may.seen))
  replied_reads = record {
    looks = λ i seen' is. ⊎_elim
        (λ own. subst (λ k. LookIsSound c (replied_by c w r (Some may.seen)) k seen') (sym own.0)
        (subst (LookIsSound c (replied_by c w r (Some may.seen)) r) (one_seen now seen' own.1) replied_look))
        (λ other.
        let l' = s.reads.looks i seen' other.1 in
        other_stands c w s i seen' reply look (other_word seen'.number (λ same. other.0 (sym l'.own ∙ (ap c.worker same ∙ l.own)))) l')
        (seen_cases w.look r (Some now) i seen' is);
    even = s.reads.even;
    still = s.reads.still;
  }

  reply_now : IsSound c (replied_by c w r (Some may.seen))
  reply_now = record {
    sections = sections_stand c w s w.stamp reply w.history w.saw w.known look;
    stamps = replied_stamps;
    clock = replied_clock;
    order = record { prior = s.order.prior; knew = s.order.knew; saw = s.order.saw; traces = s.order.traces };
    history = replied_history;
    reads = replied_reads;
  }

  pub reply_sound : IsSound c (after c w (ReadReply r))
  reply_sound = subst (λ o. IsSound c (replied_by c w r o)) (sym may.looked) reply_now
