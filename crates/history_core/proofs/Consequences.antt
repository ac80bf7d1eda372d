-- What the invariant says.
use Rattle.std.proofs.Common.{◌≡◌, ◌≢◌, ℕ, zero, suc, ◌<◌, ◌≤◌, Bool, true, false, refl, sym, ap, ◌∙◌, subst, inl, inr, ⊎_elim, arith}
use Rattle.std.specs.Prelude.{◌/◌, ◌%◌, ◌⊎◌, Some}
use Rattle.std.proofs.lemmas.Option.{slice_get-get_or}
use Rattle.history_orders.proofs.Replays.{map-oldest_first, legal-oldest_first}
use Rattle.history_orders.proofs.Unique.{unique, once}
use Rattle.history_orders.proofs.Still.{equal_turns}
use Rattle.history_core.specs.State.{Requests, HistoryState, has_replied}
use Rattle.history_core.specs.Sound.{IsSound}
use Rattle.history_core.specs.Legal.{HistoryIsLegal, ClockStands, IsPlaced, KnowledgeStands, ReadsStand, IsClosed, AreAllDone}

-- of a stamp that is lower by half
lower : (a b : ℕ) → a / 2 < b / 2 → a < b
lower a b half = omega arith

module _ (c : Requests) (w : HistoryState) (s : IsSound c w) where
  pub legal : HistoryIsLegal c w
  legal = record {
    history = s.history.history;
    legal = λ map. legal-oldest_first w.history (s.history.replayed map);
    map = λ map. s.history.pairs map ∙ sym (map-oldest_first w.history);
    answers = s.history.answers;
    replies = s.history.replies;
    stamped = λ n some. by_reply n some (has_replied (w.look (c.worker n)) n) refl;
    rising = s.order.traces;
    only = λ map history of replayed. unique c.op w.stamp history w.history of s.history.history replayed (s.history.replayed map);
  }
    where
      by_reply : (n : ℕ) → w.reply n ≢ 0 → (b : Bool) → has_replied (w.look (c.worker n)) n ≡ b
          → (w.stamp n ≢ 0) ⊎ (has_replied (w.look (c.worker n)) n ≡ true)
      by_reply n some true is = inr is
      by_reply n some false is = inl (s.stamps.replied n some is)

  pub clock_stands : ClockStands c w
  clock_stands = record {
    raised = s.clock.raised;
    done = λ d used done. ⊎_elim inl (λ four. inr (s.clock.raised d used (omega arith))) (s.sections.ended d used done);
    small = s.clock.small;
    half = s.clock.half;
    hand = s.clock.hand;
    above = s.clock.above;
  }

  placed : (n : ℕ) → w.stamp n ≢ 0 → IsPlaced c w n
  placed n some =
      let there = s.history.history.all n some in
      let e = there.0 in
      let at = there.1 in
      let here = slice_get-get_or w.history at.0 e at.1 ∙ ap Some at.2 in
      record {
        place = at.0;
        entry = e;
        here = here;
        number = there.2;
        stamp = s.history.history.stamps e at ∙ ap w.stamp there.2;
        reply = λ map replied. ap w.reply (sym there.2) ∙ s.history.replies map e at (λ none. replied (ap w.reply (sym there.2) ∙ none));
        once = λ i f here' number. once c.op w.stamp w.history s.history.history i at.0 f e here' here (number ∙ sym there.2);
      }

  pub knowledge_stands : KnowledgeStands c w
  knowledge_stands = record {
    known = λ r n know. let both = s.stamps.known r n know in (both.0, both.1, placed n both.0);
    knew = λ d n used far know.
        let before = s.order.knew d n used know in let low = before.1 in let above = s.clock.above d used far in
        (before.0, lower (w.stamp n) (w.stamp (w.request d)) (omega arith));
    saw = s.order.saw;
    told = λ n some. by_known n some (w.known (c.worker n) n) refl;
  }
    where
      by_link : (n link : ℕ) → w.by n ≡ link → link ≢ 0 → w.published (c.worker n) ≡ link → (d : ℕ) × (w.published (c.worker n) ≡ suc d) × (w.request d ≡ n)
      by_link n zero is some published = absurd (some refl)
      by_link n (suc d) is some published = (d, published, (s.stamps.by_section n d is).1)

      by_known : (n : ℕ) → w.stamp n ≢ 0 → (b : Bool) → w.known (c.worker n) n ≡ b
          → (w.known (c.worker n) n ≡ true) ⊎ ((d : ℕ) × (w.published (c.worker n) ≡ suc d) × (w.request d ≡ n))
      by_known n some true is = inl is
      by_known n some false is = let told = s.stamps.told n some is in inr (by_link n (w.by n) refl told.0 told.1)

  pub reads_stand : ReadsStand c w
  reads_stand = record {
    even = λ d used far. s.reads.even (w.request d) d (s.stamps.stamped d used far).1;
    clock = λ n odd. by_link n odd (w.by n) refl;
    still = s.reads.still;
    alike = λ map a b at odd same. equal_turns a b w.history s.history.history.order same
        (λ x there e. s.reads.still map x there (ap (λ k. k % 2) e ∙ odd));
    between = λ r is.
        let l = s.reads.looks r is.seen is.looked in
        let t = l.between is.replied in
        (l.own, t.idle, t.unknown, t.unstamped, λ none. let positive = l.positive in let word = t.replied in omega arith);
  }
    where
      by_link : (n : ℕ) → w.stamp n % 2 ≡ 1 → (link : ℕ) → w.by n ≡ link → w.stamp n / 2 ≤ w.clock
      by_link n odd zero is = s.clock.replied n (s.stamps.closed n (λ none. omega arith) is)
      by_link n odd (suc d) is = absurd (let even = s.reads.even n d is in omega arith)

  pub closed : AreAllDone c w → IsClosed c w
  closed done = record { replied = replied; replies = λ map e at. s.history.replies map e at (replied e.number (λ none. s.history.history.stamped e at (s.history.history.stamps e at ∙ none))) }
    where
      by_link : (n link : ℕ) → w.stamp n ≢ 0 → w.by n ≡ link → w.reply n ≢ 0
      by_link n zero some is = s.stamps.closed n some is
      by_link n (suc d) some is =
          let by = s.stamps.by_section n d is in
          subst (λ n. w.reply n ≢ 0) by.1 (s.stamps.answered d by.0 (⊎_elim (λ none. let far = by.2 in absurd (omega arith)) (λ four. omega arith) (s.sections.ended d by.0 (done d by.0))))

      replied : (n : ℕ) → w.stamp n ≢ 0 → w.reply n ≢ 0
      replied n some = by_link n (w.by n) some refl
