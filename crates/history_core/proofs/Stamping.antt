-- Each event keeps the invariant: a run tries to write the stamp of its section's request.
use Rattle.std.proofs.Common.{◌≡◌, ◌≢◌, ℕ, suc, ◌<◌, ◌≤◌, Bool, true, false, length, refl, sym, ap, ◌∙◌, subst, inl, inr, ⊎_elim, arith}
use Rattle.std.specs.Prelude.{◌/◌, ◌⊎◌, max, Contains}
use Rattle.std.proofs.lemmas.Bool.{true≢false}
use mathlib.Core.Logic.{dite}
use native.Mathlib.Decide.{ℕ_discrete}
use Rattle.history_orders.specs.map_history.specs.Keys.{DependsOn, HaveNoCommonKey}
use Rattle.history_orders.specs.map_history.specs.Replay.{reply_of, map_after}
use Rattle.history_orders.specs.map_history.specs.Words.{word_of}
use Rattle.body_terms.specs.Update.{upd}
use Rattle.history_orders.specs.Stamped.{Stamped, turn_of, is_earlier, put_in, IsLastOnItsKeys, IsHistoryOf}
use Rattle.history_core.specs.State.{Requests, HistoryState}
use Rattle.history_core.specs.Events.{stamp_by, entry_by, stamped, MayStamp}
use Rattle.history_core.specs.Sound.{SectionsAreSound, StampsAreSound, ClockIsSound, OrderIsSound, HistoryIsSound, ReadsAreSound}
use Rattle.history_orders.specs.Turns.{Follows}
use Rattle.history_orders.proofs.Turns.{before_by_stamp}
use Rattle.history_orders.proofs.Entries.{map-put_in, replayed-put_in, order-put_in, in-put_in, put_in-contains, length-put_in, all_of}
use Rattle.history_core.proofs.Changes.{upd_same, upd_other}
use Rattle.history_core.proofs.Looks.{settled, unreplied}

module _ (c : Requests) (w : HistoryState) where
  -- the run is the first of its section to come to the stamp
  pub record IsLead (r : ℕ) : Type 0 where
    pub loaded : w.loaded r ≡ true
    pub used : w.used (w.run r) ≡ true
    pub undone : w.done (w.run r) ≡ false
    pub stage : w.stage (w.run r) ≡ 1
    pub unstamped : w.stamp (w.request (w.run r)) ≡ 0
    pub published : w.published (c.worker (w.request (w.run r))) ≡ suc (w.run r)
    pub unanswered : w.reply (w.request (w.run r)) ≡ 0

  pub lead : (r : ℕ) → MayStamp c w r → SectionsAreSound c w → StampsAreSound c w → ReadsAreSound c w → w.stamp (w.request (w.run r)) ≡ 0 → IsLead r
  lead r may sections stamps reads none =
      let run = sections.running r may.loaded in
      let low : w.stage (w.run r) ≡ 1 = one (w.stage (w.run r)) run.1 (λ far. (stamps.stamped (w.run r) run.0 far).0 none) in
      let undone = still (w.done (w.run r)) (λ done. ended (sections.ended (w.run r) run.0 done) low) in
      record {
        loaded = may.loaded;
        used = run.0;
        undone = undone;
        stage = low;
        unstamped = none;
        published = sections.published (w.run r) run.0 undone;
        unanswered = dite (ℕ_discrete (w.reply (w.request (w.run r))) 0) (λ none. none) (λ some. absurd (stamps.replied (w.request (w.run r)) some
            (unreplied (w.look (c.worker (w.request (w.run r)))) (w.request (w.run r))
            (settled c w reads (c.worker (w.request (w.run r))) (w.run r) (sections.published (w.run r) run.0 undone))) none));
      }
    where
      one : (stage : ℕ) → 1 ≤ stage → (2 ≤ stage → ⊥) → stage ≡ 1
      one stage low high = dite (ℕ_discrete stage 1) (λ e. e) (λ ne. absurd (high (omega arith)))

      still : (b : Bool) → (b ≡ true → ⊥) → b ≡ false
      still true not = absurd (not refl)
      still false not = refl

      ended : {stage : ℕ} → (stage ≡ 0) ⊎ (stage ≡ 4) → stage ≡ 1 → ⊥
      ended at first = ⊎_elim (λ none. omega arith) (λ far. omega arith) at

  pub stamped_sections : (r : ℕ) → IsLead r → SectionsAreSound c w → SectionsAreSound c (stamped c w r)
  stamped_sections r lead sections = record {
    within = grind arith;
    positive = grind arith;
    ended = grind arith;
    owned = grind arith;
    published = grind arith;
    running = grind arith;
  }

  pub stamped_stamps : (r : ℕ) → IsLead r → SectionsAreSound c w → StampsAreSound c w → StampsAreSound c (stamped c w r)
  stamped_stamps r lead sections stamps = record {
    fresh = grind arith;
    stamped = grind arith;
    by_section = grind arith;
    told = grind arith;
    replied = λ n some not. dite (ℕ_discrete n (w.request (w.run r)))
        (λ own none. let now = upd_same w.stamp (w.request (w.run r)) n (stamp_by (w.hand r)) own in omega arith)
        (λ other none. stamps.replied n some not (sym (upd_other w.stamp (w.request (w.run r)) n (stamp_by (w.hand r)) other) ∙ none));
    answered = grind arith;
    closed = grind arith;
    known = grind arith;
  }

  -- the entry of the run's request
  abbrev pub entry : ℕ → Stamped
  entry r = entry_by c w (w.request (w.run r)) (stamp_by (w.hand r))

  keys_stamped : (r : ℕ) → IsLead r → MayStamp c w r → SectionsAreSound c w → ClockIsSound c w → c.is_map ≡ true → (r' k key : ℕ) → upd w.loaded r false r' ≡ true
      → upd w.stage (w.run r) (max (w.stage (w.run r)) 2) (w.run r') ≡ 1 → upd w.stamp (w.request (w.run r)) (stamp_by (w.hand r)) k ≢ 0
      → DependsOn (c.op k) key → DependsOn (c.op (w.request (w.run r'))) key → upd w.stamp (w.request (w.run r)) (stamp_by (w.hand r)) k / 2 ≤ w.hand r'
  keys_stamped r lead may sections clock map r' k key ready at some a b =
      let before : w.loaded r' ≡ true = grind arith in
      let run = sections.running r' before in
      let apart : w.run r' ≢ w.run r = λ same. grind arith in
      let far : w.stage (w.run r') ≡ 1 = grind arith in
      dite (ℕ_discrete k (w.request (w.run r)))
      (λ same. absurd (may.alone map lead.stage (w.run r') apart run.0 (omega arith) (omega arith) key (subst (λ n. DependsOn (c.op n) key) same a) b))
      (λ other.
      let still = upd_other w.stamp (w.request (w.run r)) k (stamp_by (w.hand r)) other in
      subst (λ stamp. stamp / 2 ≤ w.hand r') (sym still) (clock.keys map r' k key before far (λ none. some (still ∙ none)) a b))

  half_stamped : (r : ℕ) → IsLead r → ClockIsSound c w → (k : ℕ) → upd w.stamp (w.request (w.run r)) (stamp_by (w.hand r)) k / 2 ≤ suc (length w.history)
  half_stamped r lead clock k =
      let low = clock.half k in
      let high = clock.small in
      let hand = (clock.hand r lead.loaded).1 in
      dite (ℕ_discrete k (w.request (w.run r)))
      (λ same. let now = upd_same w.stamp (w.request (w.run r)) k (stamp_by (w.hand r)) same in omega arith)
      (λ other. let still = upd_other w.stamp (w.request (w.run r)) k (stamp_by (w.hand r)) other in omega arith)

  pub stamped_clock : (r : ℕ) → IsLead r → MayStamp c w r → SectionsAreSound c w → StampsAreSound c w → ClockIsSound c w → ClockIsSound c (stamped c w r)
  stamped_clock r lead may sections stamps clock = record {
    raised = grind arith;
    replied = grind arith;
    floor = grind arith;
    above = grind arith;
    hand = grind arith;
    keys = λ map r' k key ready at some a b. keys_stamped r lead may sections clock map r' k key ready at some a b;
    small = let more = length-put_in (entry r) w.history in let low = clock.small in omega arith;
    half = λ k. let more = length-put_in (entry r) w.history in let low = half_stamped r lead clock k in omega arith;
  }

  -- what was stamped by the section's publication comes before its stamp
  follows_now : (r : ℕ) → IsLead r → ClockIsSound c w → (n k : ℕ) → n ≡ w.request (w.run r) → (w.stamp k ≢ 0) × (w.stamp k / 2 ≤ w.floor (w.run r))
      → (upd w.stamp (w.request (w.run r)) (stamp_by (w.hand r)) k ≢ 0)
      × Follows (upd w.stamp (w.request (w.run r)) (stamp_by (w.hand r)) k) (upd w.stamp (w.request (w.run r)) (stamp_by (w.hand r)) n)
  follows_now r lead clock n k own before =
      let still = upd_other w.stamp (w.request (w.run r)) k (stamp_by (w.hand r)) (λ e. before.0 (ap w.stamp e ∙ lead.unstamped)) in
      let now = upd_same w.stamp (w.request (w.run r)) n (stamp_by (w.hand r)) own in
      let low = before.1 in
      let hand = (clock.hand r lead.loaded).0 in
      (λ none. before.0 (sym still ∙ none), inl (omega arith))

  -- and other stamps stay where they are
  follows_still : (r : ℕ) → IsLead r → (n k : ℕ) → n ≢ w.request (w.run r) → (w.stamp k ≢ 0) × Follows (w.stamp k) (w.stamp n)
      → (upd w.stamp (w.request (w.run r)) (stamp_by (w.hand r)) k ≢ 0)
      × Follows (upd w.stamp (w.request (w.run r)) (stamp_by (w.hand r)) k) (upd w.stamp (w.request (w.run r)) (stamp_by (w.hand r)) n)
  follows_still r lead n k other before =
      let still = upd_other w.stamp (w.request (w.run r)) k (stamp_by (w.hand r)) (λ e. before.0 (ap w.stamp e ∙ lead.unstamped)) in
      let own = upd_other w.stamp (w.request (w.run r)) n (stamp_by (w.hand r)) other in
      (λ none. before.0 (sym still ∙ none), subst (λ s. Follows s (upd w.stamp (w.request (w.run r)) (stamp_by (w.hand r)) n)) (sym still) (subst (λ t. Follows (w.stamp k) t) (sym own) before.1))

  saw_stamped : (r : ℕ) → IsLead r → ClockIsSound c w → OrderIsSound c w → (n k : ℕ) → upd w.stamp (w.request (w.run r)) (stamp_by (w.hand r)) n ≢ 0
      → upd w.saw (w.request (w.run r)) (w.knew (w.run r)) n k ≡ true
      → (upd w.stamp (w.request (w.run r)) (stamp_by (w.hand r)) k ≢ 0)
      × Follows (upd w.stamp (w.request (w.run r)) (stamp_by (w.hand r)) k) (upd w.stamp (w.request (w.run r)) (stamp_by (w.hand r)) n)
  saw_stamped r lead clock order n k some saw = dite (ℕ_discrete n (w.request (w.run r)))
      (λ same. follows_now r lead clock n k same
      (order.knew (w.run r) k lead.used (ap (λ saw. saw k) (sym (upd_same w.saw (w.request (w.run r)) n (w.knew (w.run r)) same)) ∙ saw)))
      (λ other. follows_still r lead n k other
      (order.saw n k (λ none. some (upd_other w.stamp (w.request (w.run r)) n (stamp_by (w.hand r)) other ∙ none))
      (ap (λ saw. saw k) (sym (upd_other w.saw (w.request (w.run r)) n (w.knew (w.run r)) other)) ∙ saw)))

  traces_stamped : (r : ℕ) → IsLead r → ClockIsSound c w → OrderIsSound c w → (k n : ℕ) → k < n → c.trace k ≡ c.trace n
      → upd w.stamp (w.request (w.run r)) (stamp_by (w.hand r)) n ≢ 0
      → (upd w.stamp (w.request (w.run r)) (stamp_by (w.hand r)) k ≢ 0)
      × Follows (upd w.stamp (w.request (w.run r)) (stamp_by (w.hand r)) k) (upd w.stamp (w.request (w.run r)) (stamp_by (w.hand r)) n)
  traces_stamped r lead clock order k n lt same some = dite (ℕ_discrete n (w.request (w.run r)))
      (λ own. follows_now r lead clock n k own (order.prior (w.run r) k lead.used (subst (λ i. k < i) own lt) (same ∙ ap c.trace own)))
      (λ other. follows_still r lead n k other
      (order.traces k n lt same (λ none. some (upd_other w.stamp (w.request (w.run r)) n (stamp_by (w.hand r)) other ∙ none))))

  pub stamped_order : (r : ℕ) → IsLead r → StampsAreSound c w → ClockIsSound c w → OrderIsSound c w → OrderIsSound c (stamped c w r)
  stamped_order r lead stamps clock order = record {
    prior = grind arith;
    knew = grind arith;
    saw = λ n k some saw. saw_stamped r lead clock order n k some saw;
    traces = λ k n lt same some. traces_stamped r lead clock order k n lt same some;
  }

  -- no later entry has a key in common with the new one
  pub last : (r : ℕ) → IsLead r → ClockIsSound c w → HistoryIsSound c w → c.is_map ≡ true → IsLastOnItsKeys (entry r) w.history
  last r lead clock h map = all_of (λ x. is_earlier x (entry r) ≡ false → HaveNoCommonKey x.op (c.op (w.request (w.run r)))) w.history (λ x at later key a b.
      let stamp = h.history.stamps x at in
      let low = clock.keys map r x.number key lead.loaded lead.stage (λ none. h.history.stamped x at (stamp ∙ none)) (subst (λ op. DependsOn op key) (h.history.ops x at) a) b in
      true≢false (sym (before_by_stamp (turn_of x) (turn_of (entry r)) (let same = stamp in omega arith)) ∙ later))

  -- a request without a stamp has no entry yet
  pub apart : (n : ℕ) → w.stamp n ≡ 0 → HistoryIsSound c w → (x : Stamped) → Contains w.history x → x.number ≢ n
  apart n none h x at same = h.history.stamped x at (h.history.stamps x at ∙ ap w.stamp same ∙ none)

  -- the entry of such a request goes in
  pub put_list : (e : Stamped) → e.stamp ≢ 0 → e.op ≡ c.op e.number → w.stamp e.number ≡ 0 → HistoryIsSound c w
      → IsHistoryOf c.op (upd w.stamp e.number e.stamp) (put_in e w.history)
  put_list e some op none h = record {
    order = order-put_in e w.history (all_of (λ x. x.number ≢ e.number) w.history (apart e.number none h)) h.history.order;
    stamped = λ x at. ⊎_elim (λ new no. some (sym (ap (λ x. x.stamp) new) ∙ no)) (h.history.stamped x) (in-put_in e x w.history at);
    stamps = λ x at. ⊎_elim
        (λ new. ap (λ x. x.stamp) new ∙ sym (upd_same w.stamp e.number x.number e.stamp (ap (λ x. x.number) new)))
        (λ old. h.history.stamps x old ∙ sym (upd_other w.stamp e.number x.number e.stamp (apart e.number none h x old)))
        (in-put_in e x w.history at);
    ops = λ x at. ⊎_elim (λ new. ap (λ x. x.op) new ∙ (op ∙ ap c.op (sym (ap (λ x. x.number) new)))) (h.history.ops x) (in-put_in e x w.history at);
    all = λ k there. dite (ℕ_discrete k e.number)
        (λ same. (e, put_in-contains e e w.history (inl refl), sym same))
        (λ other.
        let old = h.history.all k (λ no. there (upd_other w.stamp e.number k e.stamp other ∙ no)) in
        (old.0, put_in-contains e old.0 w.history (inr old.1), old.2));
  }

  pub stamped_history : (r : ℕ) → IsLead r → MayStamp c w r → StampsAreSound c w → ClockIsSound c w → HistoryIsSound c w → HistoryIsSound c (stamped c w r)
  stamped_history r lead may stamps clock h = record {
    history = put_list (entry r) (λ none. omega arith) refl lead.unstamped h;
    replayed = λ map. replayed-put_in (entry r) w.history (last r lead clock h map) (ap (λ pairs. reply_of pairs (c.op (w.request (w.run r)))) (h.pairs map)) (h.replayed map);
    pairs = λ map. ap (λ pairs. map_after pairs (c.op (w.request (w.run r)))) (h.pairs map) ∙ sym (map-put_in (entry r) w.history (last r lead clock h map));
    answers = λ map d x used far at same. ⊎_elim
        (λ new. dite (ℕ_discrete d (w.run r))
        (λ own. ap w.answer own ∙ may.answers map lead.stage ∙ ap (λ x. word_of x.reply) (sym new))
        (λ other.
        let before : 2 ≤ w.stage d = subst (λ stage. 2 ≤ stage) (upd_other w.stage (w.run r) d (max (w.stage (w.run r)) 2) other) far in
        absurd ((stamps.stamped d used before).0 (ap w.stamp (sym same ∙ ap (λ x. x.number) new) ∙ lead.unstamped))))
        (λ old. dite (ℕ_discrete d (w.run r))
        (λ own. absurd (apart (w.request (w.run r)) lead.unstamped h x old (same ∙ ap w.request own)))
        (λ other.
        let before : 2 ≤ w.stage d = subst (λ stage. 2 ≤ stage) (upd_other w.stage (w.run r) d (max (w.stage (w.run r)) 2) other) far in
        h.answers map d x used before old same))
        (in-put_in (entry r) x w.history at);
    replies = λ map x at some. ⊎_elim
        (λ new. absurd (some (ap w.reply (ap (λ x. x.number) new) ∙ lead.unanswered)))
        (λ old. h.replies map x old some)
        (in-put_in (entry r) x w.history at);
  }
