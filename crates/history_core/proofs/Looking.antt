-- What workers have seen stands with each event but those of reads.
use Rattle.std.proofs.Common.{◌≡◌, ◌≢◌, ℕ, le_of_eq, suc, ◌<◌, ◌≤◌, true, false, Some, refl, sym, ap, ◌∙◌, subst, inl, inr, ⊎_elim, arith}
use Rattle.std.specs.Prelude.{◌⊎◌, ◌/◌, ◌%◌, max, Contains}
use mathlib.Core.Logic.{dite}
use native.Mathlib.Decide.{ℕ_discrete}
use Rattle.history_orders.specs.map_history.specs.Keys.{DependsOn, HaveNoCommonKey}
use Rattle.body_terms.specs.Update.{upd}
use Rattle.body_terms.specs.Run.{written_once}
use Rattle.std.proofs.lemmas.List.Elements.{All-contains}
use Rattle.history_orders.specs.Stamped.{Stamped, turn_of, is_earlier, HasReply, IsStill, put_in}
use Rattle.history_orders.proofs.Turns.{before_turns, before_by_stamp}
use Rattle.history_orders.proofs.Entries.{in-put_in}
use Rattle.history_orders.proofs.Still.{reply-put_in, still-put_in}
use Rattle.history_core.specs.State.{Requests, Seen, HistoryState, is_replied}
use Rattle.history_core.specs.Events.{Publish, Over, LoadClock, RaiseClock, WriteReply, SetDone, Learn, Free, stamp_by, read_stamp_by, entry_seen, stamped, MayPublish, MayStamp, after}
use Rattle.history_core.specs.Sound.{SectionsAreSound, StampsAreSound, ClockIsSound, HistoryIsSound, IsToStamp, LookIsSound, ReadsAreSound}
use Rattle.history_core.proofs.Changes.{upd_same, upd_other}
use Rattle.history_core.proofs.Looks.{not_both, no_link, replied_clash}
use Rattle.history_core.proofs.Publishing.{by_still}
use Rattle.history_core.proofs.Stamping.{IsLead, entry, last}

-- a run that stands before its stamp has loaded the clock, or did before
record RunStands (w w' : HistoryState) (i : ℕ) : Type 0 where
  loaded : w.loaded i ≡ true
  stage : w.stage (w.run i) ≡ 1
  request : w'.request (w'.run i) ≡ w.request (w.run i)
  hand : w'.hand i ≡ w.hand i

abbrev RunsGoOn : HistoryState → HistoryState → Type 0
RunsGoOn w w' = (i : ℕ) → w'.loaded i ≡ true → w'.stage (w'.run i) ≡ 1 → (w.clock ≤ w'.hand i) ⊎ RunStands w w' i

-- what is said of a read between its two exchanges stands
abbrev BetweenStands : Requests → HistoryState → HistoryState → Type 0
BetweenStands c w w' = (r : ℕ) (seen : Seen) → w.look r ≡ Some seen → c.worker seen.number ≡ r → seen.replied ≡ true
    → IsToStamp c w r seen → IsToStamp c w' r seen

-- what an event leaves that writes no stamp
record Leaves (c : Requests) (w w' : HistoryState) : Type 0 where
  look : w'.look ≡ w.look
  history : w'.history ≡ w.history
  stamp : w'.stamp ≡ w.stamp
  clock : w.clock ≤ w'.clock
  by : (n d : ℕ) → w'.by n ≡ suc d → w.by n ≡ suc d
  runs : RunsGoOn w w'
  between : BetweenStands c w w'

keys_left : (c : Requests) (w w' : HistoryState) (r : ℕ) (seen : Seen) → LookIsSound c w r seen → RunsGoOn w w' → c.is_map ≡ true
    → (i key : ℕ) → w'.loaded i ≡ true → w'.stage (w'.run i) ≡ 1
    → DependsOn (c.op seen.number) key → DependsOn (c.op (w'.request (w'.run i))) key → seen.clock ≤ w'.hand i
keys_left c w w' r seen look runs map i key loaded at a b = ⊎_elim
    (λ low. let before = look.clock in omega arith)
    (λ run. subst (λ h. seen.clock ≤ h) (sym run.hand)
    (look.keys map i key run.loaded run.stage a (subst (λ n. DependsOn (c.op n) key) run.request b)))
    (runs i loaded at)

reads_left : (c : Requests) (w w' : HistoryState) → Leaves c w w' → ReadsAreSound c w → ReadsAreSound c w'
reads_left c w w' leaves reads = record {
  looks = λ r seen is.
      let at = ap (λ f. f r) (sym leaves.look) ∙ is in
      let l = reads.looks r seen at in
      record {
        own = l.own;
        positive = l.positive;
        clock = let low = l.clock in let more = leaves.clock in omega arith;
        known = λ k knew. subst (λ (f : ℕ → ℕ). (f k ≢ 0) × (f k / 2 ≤ seen.clock)) (sym leaves.stamp) (l.known k knew);
        earlier = l.earlier;
        keys = keys_left c w w' r seen l leaves.runs;
        answers = l.answers;
        reply = λ map. subst (HasReply (entry_seen c seen)) (sym leaves.history) (l.reply map);
        still = λ map. subst (IsStill (entry_seen c seen)) (sym leaves.history) (l.still map);
        between = λ replied. leaves.between r seen at l.own replied (l.between replied);
      };
  even = λ n d by. subst (λ (f : ℕ → ℕ). f n % 2 ≡ 0) (sym leaves.stamp) (reads.even n d (leaves.by n d by));
  still = λ map e at odd. subst (IsStill e) (sym leaves.history)
      (reads.still map e (subst (λ h. Contains h e) leaves.history at) odd);
}

module _ (c : Requests) (w : HistoryState) where
  -- an event that leaves the words of requests, the links and what is known
  plain : (w' : HistoryState) → w'.look ≡ w.look → w'.history ≡ w.history → w'.stamp ≡ w.stamp → w'.reply ≡ w.reply → w'.published ≡ w.published
      → w'.known ≡ w.known → ((n d : ℕ) → w'.by n ≡ suc d → w.by n ≡ suc d) → w.clock ≤ w'.clock → RunsGoOn w w' → ReadsAreSound c w → ReadsAreSound c w'
  plain w' look history stamp reply published known by clock runs reads = reads_left c w w' (record {
    look = look;
    history = history;
    stamp = stamp;
    clock = clock;
    by = by;
    runs = runs;
    between = λ i seen at own replied t. record {
      idle = ap (λ f. f i) published ∙ t.idle;
      unknown = ap (λ f. f i seen.number) known ∙ t.unknown;
      unstamped = ap (λ f. f seen.number) stamp ∙ t.unstamped;
      replied = ap (λ f. f seen.number) reply ∙ t.replied;
    };
  }) reads

  -- one that changes of these what no read between its two exchanges asks for
  beside : (w' : HistoryState) → w'.look ≡ w.look → w'.history ≡ w.history → w'.stamp ≡ w.stamp → w'.by ≡ w.by → w'.clock ≡ w.clock → RunsGoOn w w'
      → BetweenStands c w w' → ReadsAreSound c w → ReadsAreSound c w'
  beside w' look history stamp by clock runs between reads = reads_left c w w' (record {
    look = look;
    history = history;
    stamp = stamp;
    clock = le_of_eq (sym clock);
    by = λ n d is. ap (λ f. f n) (sym by) ∙ is;
    runs = runs;
    between = between;
  }) reads

  -- the runs are as before
  same_runs : (w' : HistoryState) → w'.loaded ≡ w.loaded → w'.stage ≡ w.stage → w'.run ≡ w.run → w'.request ≡ w.request → w'.hand ≡ w.hand → RunsGoOn w w'
  same_runs w' loaded stage run request hand i ready at = inr (record {
    loaded = ap (λ f. f i) (sym loaded) ∙ ready;
    stage = ap (λ f. w.stage (f i)) (sym run) ∙ (ap (λ f. f (w'.run i)) (sym stage) ∙ at);
    request = ap (λ f. f (w'.run i)) request ∙ ap (λ f. w.request (f i)) run;
    hand = ap (λ f. f i) hand;
  })

  -- a section that gets further has no run before its stamp that it hadn't
  comes_runs : (d stage : ℕ) → 2 ≤ stage → (clock : ℕ) (reply : ℕ → ℕ)
      → RunsGoOn w (record w { clock = clock; reply = reply; stage = upd w.stage d (max (w.stage d) stage) })
  comes_runs d stage far clock reply i ready at = inr (record { loaded = ready; stage = still (w.run i) at; request = refl; hand = refl })
    where
      still : (e : ℕ) → upd w.stage d (max (w.stage d) stage) e ≡ 1 → w.stage e ≡ 1
      still e at = grind arith

  pub publish_reads : (r d n answer : ℕ) → MayPublish c w r d n answer → SectionsAreSound c w → ReadsAreSound c w → ReadsAreSound c (after c w (Publish r d n answer))
  publish_reads r d n answer may sections = beside _ refl refl refl refl refl
      (λ i ready at.
      let apart : w.run i ≢ d = λ same. not_both (sym (sections.running i ready).0 ∙ (ap w.used same ∙ may.unused)) in
      inr (record {
        loaded = ready;
        stage = sym (upd_other w.stage d (w.run i) 0 apart) ∙ at;
        request = upd_other w.request d (w.run i) n apart;
        hand = refl;
      }))
      (λ i seen is own replied t. record {
        idle = upd_other w.published r i (suc d) (λ same. replied_clash w.look i seen is replied (ap (λ k. is_replied (w.look k)) same ∙ may.settled)) ∙ t.idle;
        unknown = t.unknown;
        unstamped = t.unstamped;
        replied = t.replied;
      })

  pub over_reads : (r : ℕ) → ReadsAreSound c w → ReadsAreSound c (after c w (Over r))
  over_reads r = beside _ refl refl refl refl refl (same_runs _ refl refl refl refl refl)
      (λ i seen is own replied t. record { idle = gone i t.idle; unknown = t.unknown; unstamped = t.unstamped; replied = t.replied })
    where
      gone : (i : ℕ) → w.published i ≡ 0 → upd w.published r 0 i ≡ 0
      gone i idle = grind arith

  pub load_reads : (r d : ℕ) → SectionsAreSound c w → ReadsAreSound c w → ReadsAreSound c (after c w (LoadClock r d))
  load_reads r d sections = plain _ refl refl refl refl refl refl (λ k e is. is) (omega arith) runs
    where
      runs : RunsGoOn w (after c w (LoadClock r d))
      runs i ready at = dite (ℕ_discrete i r)
          (λ own. inl (subst (λ h. w.clock ≤ h) (sym (upd_same w.hand r i w.clock own)) (omega arith)))
          (λ other.
          let here = upd_other w.run r i d other in
          let before = sym (upd_other w.loaded r i true other) ∙ ready in
          let run = (sections.running i before).1 in
          inr (record {
            loaded = before;
            stage = still (w.run i) run (subst (λ e. upd w.stage d (max (w.stage d) 1) e ≡ 1) here at);
            request = ap w.request here;
            hand = upd_other w.hand r i w.clock other;
          }))
        where
          still : (e : ℕ) → 1 ≤ w.stage e → upd w.stage d (max (w.stage d) 1) e ≡ 1 → w.stage e ≡ 1
          still e low at = grind arith

  pub late_reads : (r : ℕ) → ReadsAreSound c w → ReadsAreSound c (record w { loaded = upd w.loaded r false })
  late_reads r = plain _ refl refl refl refl refl refl (λ k e is. is) (omega arith)
      (λ i ready at. inr (record { loaded = still i ready; stage = at; request = refl; hand = refl }))
    where
      still : (i : ℕ) → upd w.loaded r false i ≡ true → w.loaded i ≡ true
      still i ready = grind arith

  pub raise_reads : (d : ℕ) → ReadsAreSound c w → ReadsAreSound c (after c w (RaiseClock d))
  raise_reads d = plain _ refl refl refl refl refl refl (λ k e is. is) (higher w.clock (w.stamp (w.request d) / 2))
      (comes_runs d 3 (omega arith) (max w.clock (w.stamp (w.request d) / 2)) w.reply)
    where
      higher : (a b : ℕ) → a ≤ max a b
      higher a b = grind arith

  pub write_reads : (d : ℕ) → w.used d ≡ true → 3 ≤ w.stage d → StampsAreSound c w → ReadsAreSound c w → ReadsAreSound c (after c w (WriteReply d))
  write_reads d used far stamps = beside _ refl refl refl refl refl
      (comes_runs d 4 (omega arith) w.clock (upd w.reply (w.request d) (written_once (w.reply (w.request d)) (w.answer d))))
      (λ i seen is own replied t. record {
        idle = t.idle;
        unknown = t.unknown;
        unstamped = t.unstamped;
        replied = upd_other w.reply (w.request d) seen.number _
            (λ same. (stamps.stamped d used (omega arith)).0 (ap w.stamp (sym same) ∙ t.unstamped)) ∙ t.replied;
      })

  pub set_done_reads : (d : ℕ) → ReadsAreSound c w → ReadsAreSound c (after c w (SetDone d))
  set_done_reads d = plain _ refl refl refl refl refl refl (λ k e is. is) (omega arith) (same_runs _ refl refl refl refl refl)

  pub learn_reads : (r n : ℕ) → w.stamp n ≢ 0 → ReadsAreSound c w → ReadsAreSound c (after c w (Learn r n))
  learn_reads r n some = beside _ refl refl refl refl refl (same_runs _ refl refl refl refl refl)
      (λ i seen is own replied t. record {
        idle = t.idle;
        unknown = still i seen.number (λ same. some (ap w.stamp (sym same) ∙ t.unstamped)) t.unknown;
        unstamped = t.unstamped;
        replied = t.replied;
      })
    where
      still : (i k : ℕ) → k ≢ n → w.known i k ≡ false → upd w.known r (upd (w.known r) n true) i k ≡ false
      still i k other not = grind arith

  pub free_reads : (d : ℕ) → StampsAreSound c w → ReadsAreSound c w → ReadsAreSound c (after c w (Free d))
  free_reads d stamps = plain _ refl refl refl refl refl refl (λ k e is. (by_still c w d stamps k e is).0) (omega arith)
      (same_runs _ refl refl refl refl refl)

  -- a stamp is written
  module _ (r : ℕ) (lead : IsLead c w r) (may : MayStamp c w r) (clock : ClockIsSound c w) (h : HistoryIsSound c w) (reads : ReadsAreSound c w) where
    abbrev n : ℕ
    n = w.request (w.run r)

    -- where its entry comes before what a worker has seen, it has no key in common with that
    seen_apart : (i : ℕ) (seen : Seen) → LookIsSound c w i seen → c.is_map ≡ true
        → is_earlier (entry c w r) (entry_seen c seen) ≡ true → HaveNoCommonKey (c.op n) (c.op seen.number)
    seen_apart i seen l map early key a b =
        let low = l.keys map r key lead.loaded lead.stage b a in
        let first : is_earlier (entry_seen c seen) (entry c w r) ≡ true =
        before_by_stamp (turn_of (entry_seen c seen)) (turn_of (entry c w r)) (earlier_by seen.clock (w.hand r) low) in
        not_both (sym early ∙ before_turns (turn_of (entry_seen c seen)) (turn_of (entry c w r)) first)
      where
        earlier_by : (a b : ℕ) → a ≤ b → read_stamp_by a < stamp_by b
        earlier_by a b low = omega arith

    stamped_keys : (i : ℕ) (seen : Seen) → LookIsSound c w i seen → c.is_map ≡ true → (i' key : ℕ) → upd w.loaded r false i' ≡ true
        → upd w.stage (w.run r) (max (w.stage (w.run r)) 2) (w.run i') ≡ 1
        → DependsOn (c.op seen.number) key → DependsOn (c.op (w.request (w.run i'))) key → seen.clock ≤ w.hand i'
    stamped_keys i seen l map i' key ready at a b =
        let before : w.loaded i' ≡ true = grind arith in
        let far : w.stage (w.run i') ≡ 1 = grind arith in
        l.keys map i' key before far a b

    stamped_between : (i : ℕ) (seen : Seen) → c.worker seen.number ≡ i → IsToStamp c w i seen → IsToStamp c (stamped c w r) i seen
    stamped_between i seen own t = record {
      idle = t.idle;
      unknown = t.unknown;
      unstamped = upd_other w.stamp n seen.number (stamp_by (w.hand r)) (λ same. no_link (w.run r)
          (sym t.idle ∙ (ap w.published (sym own ∙ ap c.worker same) ∙ lead.published))) ∙ t.unstamped;
      replied = t.replied;
    }

    stamped_look : (i : ℕ) (seen : Seen) → LookIsSound c w i seen → LookIsSound c (stamped c w r) i seen
    stamped_look i seen l = record {
      own = l.own;
      positive = l.positive;
      clock = l.clock;
      known = λ k knew.
          let before = l.known k knew in
          subst (λ s. (s ≢ 0) × (s / 2 ≤ seen.clock))
          (sym (upd_other w.stamp n k (stamp_by (w.hand r)) (λ same. before.0 (ap w.stamp same ∙ lead.unstamped)))) before;
      earlier = l.earlier;
      keys = stamped_keys i seen l;
      answers = l.answers;
      reply = λ map. reply-put_in (entry_seen c seen) (entry c w r) w.history (last c w r lead clock h map) (seen_apart i seen l map) (l.reply map);
      still = λ map. still-put_in (entry_seen c seen) (entry c w r) w.history (last c w r lead clock h map) (seen_apart i seen l map) (l.still map);
      between = λ replied. stamped_between i seen l.own (l.between replied);
    }

    -- and so it is for the entries that change nothing at their turns
    still_stands : c.is_map ≡ true → (e : Stamped) → Contains w.history e → IsStill e w.history → IsStill e (put_in (entry c w r) w.history)
    still_stands map e at still = still-put_in e (entry c w r) w.history (last c w r lead clock h map)
        (λ early key a b. All-contains (λ x. is_earlier x (entry c w r) ≡ false → HaveNoCommonKey x.op (c.op n)) w.history e (last c w r lead clock h map) at
        (before_turns (turn_of (entry c w r)) (turn_of e) early) key b a) still

    pub stamped_reads : ReadsAreSound c (stamped c w r)
    stamped_reads = record {
      looks = λ i seen is. stamped_look i seen (reads.looks i seen is);
      even = λ k d by. dite (ℕ_discrete k n)
          (λ own. let now = upd_same w.stamp n k (stamp_by (w.hand r)) own in omega arith)
          (λ other. subst (λ s. s % 2 ≡ 0) (sym (upd_other w.stamp n k (stamp_by (w.hand r)) other))
          (reads.even k d (sym (upd_other w.by n k (suc (w.run r)) other) ∙ by)));
      still = λ map e at odd. ⊎_elim
          (λ new. absurd (let is = ap (λ x. x.stamp) new in let twice = odd in omega arith))
          (λ old. still_stands map e old (reads.still map e old odd))
          (in-put_in (entry c w r) e w.history at);
    }
