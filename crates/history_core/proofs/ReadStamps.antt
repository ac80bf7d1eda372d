-- A read's stamp keeps the invariant.
use Rattle.std.proofs.Common.{◌≡◌, ◌≢◌, ℕ, ◌<◌, ◌≤◌, true, false, Some, None, length, refl, sym, ap, ◌∙◌, subst, inl, inr, ⊎_elim, arith}
use Rattle.std.specs.Prelude.{◌⊎◌, ◌/◌, ◌%◌}
use Rattle.std.proofs.lemmas.Bool.{cases_eq}
use Rattle.history_orders.specs.map_history.specs.Keys.{DependsOn}
use Rattle.history_orders.specs.map_history.specs.Replay.{reply_of, map_after}
use Rattle.history_orders.specs.map_history.specs.Words.{word_of}
use Rattle.body_terms.specs.Update.{upd}
use Rattle.history_orders.specs.Turns.{Follows}
use Rattle.history_orders.specs.Stamped.{Stamped, IsStill, put_in}
use Rattle.history_orders.proofs.Entries.{in-put_in, length-put_in}
use Rattle.history_orders.proofs.Still.{map-put_still, replayed-put_still, before-put_still}
use Rattle.history_core.specs.State.{Requests, Seen, HistoryState, has_replied}
use Rattle.history_core.specs.Events.{read_stamp_by, entry_seen, read}
use Rattle.history_core.specs.Sound.{StampsAreSound, ClockIsSound, OrderIsSound, HistoryIsSound, IsToStamp, LookIsSound, ReadsAreSound, IsSound}
use Rattle.history_core.proofs.Changes.{upd_same, upd_other}
use Rattle.history_core.proofs.Looks.{none_seen, no_link, not_both, other_number, seen_cases}
use Rattle.history_core.proofs.Stamping.{put_list}
use Rattle.history_core.proofs.Reading.{sections_stand}

module _ (c : Requests) (w : HistoryState) (s : IsSound c w) (r : ℕ) (seen : Seen) (at : w.look r ≡ Some seen) (replied : seen.replied ≡ true) where
  abbrev n : ℕ
  n = seen.number

  abbrev next : HistoryState
  next = read c w r seen

  l : LookIsSound c w r seen
  l = s.reads.looks r seen at

  t : IsToStamp c w r seen
  t = l.between replied

  -- what had a stamp keeps it
  other_stamp : (k : ℕ) → k ≢ n → next.stamp k ≡ w.stamp k
  other_stamp k other = upd_other w.stamp n k (read_stamp_by seen.clock) other

  own_stamp : (k : ℕ) → k ≡ n → next.stamp k ≡ read_stamp_by seen.clock
  own_stamp k own = upd_same w.stamp n k (read_stamp_by seen.clock) own

  unlike : (k : ℕ) → w.stamp k ≢ 0 → k ≢ n
  unlike k some same = some (ap w.stamp same ∙ t.unstamped)

  had_stamp : (k : ℕ) → w.stamp k ≢ 0 → next.stamp k ≡ w.stamp k
  had_stamp k some = other_stamp k (unlike k some)

  was_stamped : (k : ℕ) → k ≢ n → next.stamp k ≢ 0 → w.stamp k ≢ 0
  was_stamped k other some none = some (other_stamp k other ∙ none)

  -- who knows a request now knew it, or is this worker
  knew_before : (i k : ℕ) → next.known i k ≡ true → (k ≡ n) ⊎ (w.known i k ≡ true)
  knew_before i k knows = ⊎_elim inl (λ other. inr (grind arith)) (cases_eq k n)

  unknown_before : (i k : ℕ) → next.known i k ≡ false → w.known i k ≡ false
  unknown_before i k not = grind arith

  knows_own : (i : ℕ) → i ≡ r → next.known i n ≡ true
  knows_own i own = grind arith

  -- no open section is for it
  no_section : (d : ℕ) → w.used d ≡ true → w.done d ≡ false → w.request d ≢ n
  no_section d used going same = no_link d (sym t.idle ∙ (ap w.published (sym (ap c.worker same ∙ l.own)) ∙ s.sections.published d used going))

  read_stamps : StampsAreSound c next
  read_stamps = record {
    fresh = λ d used going low. other_stamp (w.request d) (no_section d used going) ∙ s.stamps.fresh d used going low;
    stamped = λ d used far. let old = s.stamps.stamped d used far in (λ none. old.0 (sym (had_stamp (w.request d) old.0) ∙ none), old.1);
    by_section = s.stamps.by_section;
    told = λ k some not. s.stamps.told k
        (was_stamped k (λ same. not_both (sym (ap (next.known (c.worker k)) same ∙ knows_own (c.worker k) (ap c.worker same ∙ l.own)) ∙ not)) some)
        (unknown_before (c.worker k) k not);
    replied = λ k some not. ⊎_elim
        (λ own none. let now = own_stamp k own in omega arith)
        (λ other none. s.stamps.replied k some (unreplied_before k other not) (sym (other_stamp k other) ∙ none))
        (cases_eq k n);
    answered = s.stamps.answered;
    closed = λ k some none. ⊎_elim
        (λ own no. let word = ap w.reply own ∙ t.replied in let positive = l.positive in omega arith)
        (λ other. s.stamps.closed k (was_stamped k other some) none)
        (cases_eq k n);
    known = λ i k knows. ⊎_elim
        (λ own. (
          λ none. let now = own_stamp k own in omega arith,
          λ no. let word = ap w.reply own ∙ t.replied in let positive = l.positive in omega arith,
        ))
        (λ knew. let both = s.stamps.known i k knew in (λ none. both.0 (sym (had_stamp k both.0) ∙ none), both.1))
        (knew_before i k knows);
  }
    where
      unreplied_before : (k : ℕ) → k ≢ n → has_replied (next.look (c.worker k)) k ≡ false → has_replied (w.look (c.worker k)) k ≡ false
      unreplied_before k other not = ⊎_elim
          (λ own. ap (λ o. has_replied o k) (ap w.look own ∙ at) ∙ other_number seen k other)
          (λ apart. ap (λ o. has_replied o k) (sym (upd_other w.look r (c.worker k) None apart)) ∙ not)
          (cases_eq (c.worker k) r)

  -- half of the stamp is the clock
  half_own : (k : ℕ) → k ≡ n → next.stamp k / 2 ≡ seen.clock
  half_own k own = let now = own_stamp k own in omega arith

  -- what is said of a stamp is said of those that were there and of the new one
  by_stamp : (P : ℕ → Type 0) (k : ℕ) → P (read_stamp_by seen.clock) → P (w.stamp k) → P (next.stamp k)
  by_stamp P k new old = ⊎_elim (λ own. subst P (sym (own_stamp k own)) new) (λ other. subst P (sym (other_stamp k other)) old) (cases_eq k n)

  read_clock : ClockIsSound c next
  read_clock = record {
    raised = λ d used far. subst (λ k. k / 2 ≤ w.clock) (sym (had_stamp (w.request d) (s.stamps.stamped d used (omega arith)).0)) (s.clock.raised d used far);
    replied = λ k some. ⊎_elim
        (λ own. let half = half_own k own in let low = l.clock in omega arith)
        (λ other. subst (λ h. h / 2 ≤ w.clock) (sym (other_stamp k other)) (s.clock.replied k some))
        (cases_eq k n);
    floor = s.clock.floor;
    above = λ d used far. subst (λ k. w.floor d < k / 2) (sym (had_stamp (w.request d) (s.stamps.stamped d used far).0)) (s.clock.above d used far);
    hand = s.clock.hand;
    keys = λ map i k key ready first some a b. ⊎_elim
        (λ own. let half = half_own k own in
        let low = l.keys map i key ready first (subst (λ q. DependsOn (c.op q) key) own a) b in omega arith)
        (λ other. subst (λ h. h / 2 ≤ w.hand i) (sym (other_stamp k other))
        (s.clock.keys map i k key ready first (was_stamped k other some) a b))
        (cases_eq k n);
    small = let more = length-put_in (entry_seen c seen) w.history in let low = s.clock.small in omega arith;
    half = λ k. let more = length-put_in (entry_seen c seen) w.history in
        let low = l.clock in let small = s.clock.small in let old = s.clock.half k in
        by_stamp (λ h. h / 2 ≤ length (put_in (entry_seen c seen) w.history)) k (omega arith) (omega arith);
  }

  -- what was known at the look comes before the stamp
  follows_seen : (m k : ℕ) → m ≡ n → seen.known k ≡ true → (next.stamp k ≢ 0) × Follows (next.stamp k) (next.stamp m)
  follows_seen m k own knew =
      let before = l.known k knew in
      let low = before.1 in
      let still = had_stamp k before.0 in
      let now = own_stamp m own in (
        λ none. before.0 (sym still ∙ none),
        ⊎_elim
            (λ same. inr (let is = same in omega arith, let is = same in omega arith))
            (λ other. inl (let unlike = other in omega arith))
            (cases_eq (next.stamp k) (read_stamp_by seen.clock)),
      )

  follows_had : (m k : ℕ) → m ≢ n → (w.stamp k ≢ 0) × Follows (w.stamp k) (w.stamp m) → (next.stamp k ≢ 0) × Follows (next.stamp k) (next.stamp m)
  follows_had m k other before =
      let still = had_stamp k before.0 in (
        λ none. before.0 (sym still ∙ none),
        subst (λ h. Follows h (next.stamp m)) (sym still) (subst (Follows (w.stamp k)) (sym (other_stamp m other)) before.1),
      )

  read_order : OrderIsSound c next
  read_order = record {
    prior = λ d k used lt same. let old = s.order.prior d k used lt same in
        subst (λ h. (h ≢ 0) × (h / 2 ≤ w.floor d)) (sym (had_stamp k old.0)) old;
    knew = λ d k used knew. let old = s.order.knew d k used knew in
        subst (λ h. (h ≢ 0) × (h / 2 ≤ w.floor d)) (sym (had_stamp k old.0)) old;
    saw = λ m k some saw. ⊎_elim
        (λ own. follows_seen m k own (ap (λ f. f k) (sym (upd_same w.saw n m seen.known own)) ∙ saw))
        (λ other. follows_had m k other (s.order.saw m k (was_stamped m other some)
        (ap (λ f. f k) (sym (upd_other w.saw n m seen.known other)) ∙ saw)))
        (cases_eq m n);
    traces = λ k m lt same some. ⊎_elim
        (λ own. follows_seen m k own (l.earlier k (subst (λ q. k < q) own lt) (same ∙ ap c.trace own)))
        (λ other. follows_had m k other (s.order.traces k m lt same (was_stamped m other some)))
        (cases_eq m n);
  }

  read_history : HistoryIsSound c next
  read_history = record {
    history = put_list c w (entry_seen c seen) (λ none. omega arith) refl t.unstamped s.history;
    replayed = λ map. replayed-put_still (entry_seen c seen) w.history (l.still map) (l.reply map) (s.history.replayed map);
    pairs = λ map. s.history.pairs map ∙ sym (map-put_still (entry_seen c seen) w.history (l.still map));
    answers = λ map d e used far there same. ⊎_elim
        (λ new. absurd ((s.stamps.stamped d used far).0 (ap w.stamp (sym same ∙ ap (λ x. x.number) new) ∙ t.unstamped)))
        (λ old. s.history.answers map d e used far old same)
        (in-put_in (entry_seen c seen) e w.history there);
    replies = λ map e there some. ⊎_elim
        (λ new. ap w.reply (ap (λ x. x.number) new) ∙ (t.replied ∙ (l.answers map ∙ ap (λ x. word_of x.reply) (sym new))))
        (λ old. s.history.replies map e old some)
        (in-put_in (entry_seen c seen) e w.history there);
  }

  -- the map at each turn is as before
  still_there : c.is_map ≡ true → (e : Stamped) → IsStill e w.history → IsStill e next.history
  still_there map e still = subst (λ pairs. map_after pairs e.op ≡ pairs) (sym (before-put_still e (entry_seen c seen) w.history (l.still map))) still

  other_look : (i : ℕ) (seen' : Seen) → i ≢ r → LookIsSound c w i seen' → LookIsSound c next i seen'
  other_look i seen' other l' = record {
    own = l'.own;
    positive = l'.positive;
    clock = l'.clock;
    known = λ k knew. let old = l'.known k knew in subst (λ h. (h ≢ 0) × (h / 2 ≤ seen'.clock)) (sym (had_stamp k old.0)) old;
    earlier = l'.earlier;
    keys = l'.keys;
    answers = l'.answers;
    reply = λ map. l'.reply map ∙ ap (λ pairs. reply_of pairs (c.op seen'.number))
        (sym (before-put_still (entry_seen c seen') (entry_seen c seen) w.history (l.still map)));
    still = λ map. still_there map (entry_seen c seen') (l'.still map);
    between = λ replied'. let t' = l'.between replied' in record {
      idle = t'.idle;
      unknown = ap (λ f. f seen'.number) (upd_other w.known r i (upd (w.known r) n true) other) ∙ t'.unknown;
      unstamped = other_stamp seen'.number (λ same. other (sym l'.own ∙ (ap c.worker same ∙ l.own))) ∙ t'.unstamped;
      replied = t'.replied;
    };
  }

  read_reads : ReadsAreSound c next
  read_reads = record {
    looks = λ i seen' is. ⊎_elim
        (λ own. absurd (none_seen seen' own.1))
        (λ other. other_look i seen' other.0 (s.reads.looks i seen' other.1))
        (seen_cases w.look r None i seen' is);
    even = λ k d by. let section = s.stamps.by_section k d by in
        subst (λ h. h % 2 ≡ 0) (sym (had_stamp k (subst (λ q. w.stamp q ≢ 0) section.1 (s.stamps.stamped d section.0 section.2).0))) (s.reads.even k d by);
    still = λ map e there odd. ⊎_elim
        (λ new. still_there map e (subst (λ x. IsStill x w.history) (sym new) (l.still map)))
        (λ old. still_there map e (s.reads.still map e old odd))
        (in-put_in (entry_seen c seen) e w.history there);
  }

  pub read_sound : IsSound c (read c w r seen)
  read_sound = record {
    sections = sections_stand c w s next.stamp w.reply next.history next.saw next.known next.look;
    stamps = read_stamps;
    clock = read_clock;
    order = read_order;
    history = read_history;
    reads = read_reads;
  }
