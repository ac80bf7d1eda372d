-- What the joined states say, in the words of the machine.
use Rattle.std.specs.Prelude.{◌/◌, ◌%◌, Bool, true, false}
use Rattle.std.proofs.Common.{◌≡◌, ◌≢◌, ℕ, suc, ◌<◌, ◌≤◌, List, length, inl, inr, refl, sym, ap, ◌∙◌, subst, ⊎_elim, arith, Option, Some, None}
use Rattle.std.proofs.lemmas.Bool.{cases_lt}
use Rattle.machine_states.specs.map_history.specs.declared.op.Request.{Request}
use Rattle.history_orders.specs.Stamped.{IsHistoryOf}
use Rattle.history_orders.specs.Turns.{Follows}
use Rattle.machine_states.specs.body_terms.specs.Line.{is_end, line, micro_at}
use Rattle.machine_states.specs.body_terms.specs.Word.{value_of, held_word}
use Rattle.machine_states.specs.body_terms.specs.declared.thunk.Thunk.{Thunk}
use Rattle.machine_states.specs.body_terms.specs.declared.micro.Micro.{Micro}
use Rattle.machine_states.specs.body_terms.specs.declared.micro.Micro.TheVariants as micros
use Rattle.machine_states.specs.body_terms.specs.declared.micro.Source.{Source}
use Rattle.still_reads.specs.agreement_core.specs.section_lines.specs.Line.{IsLine, phase}
use Rattle.machine_states.specs.table_words.specs.declared.layout.Layout.{Layout}
use Rattle.machine_states.specs.table_words.specs.declared.spot.Spot.TheVariants.{Cell, Clock, Stamp, Reply}
use Rattle.machine_states.specs.table_words.specs.Limits.{IsWithinLimits}
use Rattle.machine_states.specs.structure_laws.specs.Scene.{Cells}
use Rattle.machine_states.specs.structure_laws.specs.Meaning.{Meaning}
use Rattle.machine_states.specs.structure_laws.specs.Laws.{Laws}
use Rattle.machine_states.specs.runner_parts.specs.declared.entries.Look.{Look}
use Rattle.machine_states.specs.runner_parts.specs.declared.entries.Published.{Published}
use Rattle.machine_states.specs.runner_parts.specs.Tests.{is_replied, is_between}
use Rattle.machine_states.specs.runner_parts.specs.State.{RunState}
use Rattle.machine_states.specs.runner_steps.specs.Sections.{is_open_run, next_of}
use Rattle.still_reads.specs.agreement_core.specs.State.{AgreementState}
use Rattle.still_reads.specs.agreement_core.proofs.Words.{value_held}
use Rattle.machine_states.specs.epoch_core.specs.History.{is_out}
use Rattle.machine_history.specs.history_core.specs.State.{Requests, Seen, HistoryState, has_replied}
use Rattle.machine_history.specs.history_core.specs.State as history_states
use Rattle.machine_history.specs.history_core.proofs.Looks.{replied_parts}
use Rattle.machine_states.specs.Sight.{Sight}
use Rattle.machine_facts.specs.machine_agreement.specs.machine_epochs.specs.Entries.{counts_of}
use Rattle.machine_facts.specs.machine_agreement.specs.machine_epochs.proofs.RunPlaces.{open_run}
use Rattle.machine_history.specs.Tied.{rank, AreTied}
use Rattle.machine_history.specs.Laws.{HistoryStands, AreAllClosed}
use Rattle.machine_history.proofs.Joining.{joined_stands}
use Rattle.machine_facts.specs.machine_agreement.proofs.RunPlaces.{run_here, before}
use Rattle.machine_facts.specs.machine_invariant.specs.After.{AreAllowed}
use Rattle.machine_facts.specs.machine_invariant.specs.Sections.{IsAnswered}
use Rattle.machine_facts.specs.machine_invariant.specs.Trails.{step_at}
use Rattle.machine_facts.specs.machine_invariant.specs.Whole.{Beside, states_of}
use Rattle.reached_histories.specs.Requests.{requests_of}
use Rattle.reached_histories.specs.Kept.{link_of}
use Rattle.reached_histories.specs.Sections.{HasPublished, HasOpen, IsToStamp}
use Rattle.reached_histories.specs.History.{request_in, IsLegalHistory, CameBefore, ClockStands, RequestsStand, NoLockNames, IsClosed}
use Rattle.reached_histories.proofs.Quietly.{with_history, loading}
use Rattle.reached_histories.proofs.Steps.{Stands}
use Rattle.reached_histories.proofs.Onward.{StandsSeen}

ends : (x : Micro) → is_end x ≡ true → x ≡ micros.End
ends micros.End e = refl
ends _ e = absurd (let z = e in cc)

module _ (m : Meaning) (laws : Laws m) (l : Layout) (limits : IsWithinLimits l) (rs : List Request) (allowed : AreAllowed rs) (s : Sight)
    (all : StandsSeen m laws l limits rs allowed s) where
  abbrev at : Stands m laws l limits rs allowed s
  at = all.core

  abbrev requests : Requests
  requests = requests_of m l rs

  abbrev g : Beside
  g = at.beside

  abbrev a : AgreementState
  a = g.agreement

  abbrev w : HistoryState
  w = at.history

  abbrev tied : AreTied requests (states_of g s) w
  tied = at.joined.tied

  stands : HistoryStands m l (counts_of m l) requests (with_history m laws l limits rs (states_of g s) w)
  stands = joined_stands m laws l limits (counts_of m l) refl requests (with_history m laws l limits rs (states_of g s) w) at.joined

  -- the words
  clock_is : w.clock ≡ s.word Clock
  clock_is = tied.clock ∙ at.whole.sections.words.clock

  pub stamp_is : (n : ℕ) → w.stamp n ≡ s.word (Stamp n)
  stamp_is n = tied.stamp n ∙ at.whole.sections.words.stamp n

  stamps_are : w.stamp ≡ (λ n. s.word (Stamp n))
  stamps_are = λ i n. stamp_is n i

  pub reply_is : (n : ℕ) → w.reply n ≡ s.word (Reply n)
  reply_is n = tied.reply n ∙ at.whole.sections.words.reply n

  some_stamp : (n : ℕ) → s.word (Stamp n) ≢ 0 → w.stamp n ≢ 0
  some_stamp n some none = some (sym (stamp_is n) ∙ none)

  some_reply : (n : ℕ) → s.word (Reply n) ≢ 0 → w.reply n ≢ 0
  some_reply n some none = some (sym (reply_is n) ∙ none)

  word_stamp : (n : ℕ) → w.stamp n ≢ 0 → s.word (Stamp n) ≢ 0
  word_stamp n some none = some (stamp_is n ∙ none)

  below : (k n : ℕ) → w.stamp k < w.stamp n → s.word (Stamp k) < s.word (Stamp n)
  below k n lt = let a = stamp_is k in let b = stamp_is n in omega arith

  -- a section's line and its request
  code_at : (d : ℕ) → a.used d ≡ true → (i : ℕ) → (a.section d).code i ≡ step_at m a s d i
  code_at d used i = (at.whole.kept.thunks d used).code i ∙ ap (λ (t : Thunk). micro_at (line (m.body t)) i) (at.whole.tied.thunk d used)

  request_at : (d : ℕ) → a.used d ≡ true → w.request d ≡ request_in m l rs g s d
  request_at d used = (tied.sections d used).request ∙ ((at.whole.kept.thunks d used).request ∙ ap (λ (t : Thunk). t.request) (at.whole.tied.thunk d used))

  used_at : (d : ℕ) → a.used d ≡ true → w.used d ≡ true
  used_at d used = tied.used d ∙ used

  line_at : (d : ℕ) → a.used d ≡ true → IsLine m.is_lock l.version_max (a.section d).lock (a.section d).code (a.section d).slot
  line_at d used = (at.whole.sections.sound.sections d used).published.line

  -- how far it has come, by a step that it has passed
  far_by : (d i k : ℕ) (x : Micro) → a.used d ≡ true → (a.section d).code i ≡ x → rank x ≡ k → 1 ≤ k → i < (a.section d).edge → k ≤ w.stage d
  far_by d i k x used is ranked some lt =
      let far = (tied.sections d used).passed i (λ none. let e = sym ranked ∙ (ap rank (sym is) ∙ none) in omega arith) lt in
      let same = ap rank is ∙ ranked in omega arith

  half_by : (d : ℕ) (used : a.used d ≡ true) → w.stamp (w.request d) / 2 ≤ w.clock → s.word (Stamp (request_in m l rs g s d)) / 2 ≤ s.word Clock
  half_by d used h = subst (λ n. n / 2 ≤ s.word Clock) (stamp_is (w.request d) ∙ ap (λ n. s.word (Stamp n)) (request_at d used))
      (subst (λ n. w.stamp (w.request d) / 2 ≤ n) clock_is h)

  follows : (k n : ℕ) → Follows (w.stamp k) (w.stamp n) → Follows (s.word (Stamp k)) (s.word (Stamp n))
  follows k n h = subst (λ a. Follows a (s.word (Stamp n))) (stamp_is k) (subst (λ b. Follows (w.stamp k) b) (stamp_is n) h)

  -- the worker is between the two words of a read
  to_stamp : (n : ℕ) → has_replied (w.look (requests.worker n)) n ≡ true → IsToStamp s (requests.worker n) n
  to_stamp n is =
      let p = replied_parts (w.look (requests.worker n)) n is in
      let h = all.looks.only (requests.worker n) p.0 p.1 in
      record { look = h.look; looked = h.looked; replied = by h.look h.looked p.0 p.1 p.2 (is_replied h.look.stage) refl; request = h.request ∙ p.3 }
    where
      by : (x : Look) → (s.part (requests.worker n)).reads.look ≡ Some x → (seen : Seen) → w.look (requests.worker n) ≡ Some seen → seen.replied ≡ true
          → (b : Bool) → is_replied x.stage ≡ b → is_replied x.stage ≡ true
      by x looked seen there replied true is = is
      by x looked seen there replied false is = absurd (
          let settled = all.looks.settled (requests.worker n) (ap is_between looked ∙ is) in
          let clash : true ≡ false = sym (ap history_states.is_replied there ∙ replied) ∙ settled in cc)

  pub legal_history : IsLegalHistory m l rs g s w.history w.pairs
  legal_history = record {
    entries = subst (λ (f : ℕ → ℕ). IsHistoryOf requests.op f w.history) stamps_are stands.legal.history;
    legal = stands.legal.legal;
    map = stands.legal.map;
    memory = stands.memory;
    answers = λ map d i answer e has replies there number.
        sym ((tied.sections d has.used).answer i answer (code_at d has.used i ∙ replies))
        ∙ stands.legal.answers map d e (used_at d has.used)
        (far_by d has.place 2 micros.StampExchange has.used (code_at d has.used has.place ∙ has.stamps) refl (omega arith) has.passed)
        there (number ∙ sym (request_at d has.used));
    replies = λ map e there some. sym (reply_is e.number) ∙ stands.legal.replies map e there (some_reply e.number some);
    stamped = λ n some. ⊎_elim (λ there. inl (word_stamp n there)) (λ between. inr (to_stamp n between))
        (stands.legal.stamped n (some_reply n some));
    rising = λ k n lt same some. let h = stands.legal.rising k n lt same (some_stamp n some) in (word_stamp k h.0, follows k n h.1);
    only = λ map other is replayed. stands.legal.only map other
        (subst (λ (f : ℕ → ℕ). IsHistoryOf requests.op f other) (sym stamps_are) is) replayed;
  }

  -- the raise of the clock comes before each Store
  store_raised : (d i place log : ℕ) (value : Source) → a.used d ≡ true → i < (a.section d).edge
      → step_at m a s d i ≡ micros.ExchangeCell place log value → 3 ≤ w.stage d
  store_raised d i place log value used lt is =
      let line = line_at d used in
      let raise = line.ordered.stamp_next line.stamped.stamp (suc line.stamped.stamp) line.stamped.stamps refl in
      far_by d (suc line.stamped.stamp) 3 micros.ClockRaise used raise refl (omega arith) (⊎_elim
      (λ low. let order : suc line.stamped.stamp < (a.section d).edge = omega arith in order)
      (λ high. absurd (
      let phases = line.in_phases.phases i (suc line.stamped.stamp) high in
      let three = ap phase raise in
      let four = ap phase (code_at d used i ∙ is) in omega arith))
      (cases_lt (suc line.stamped.stamp) i))

  -- a section that has answered has written its reply
  answered_replied : (d : ℕ) → IsAnswered m a s d → 4 ≤ w.stage d
  answered_replied d is =
      let line = line_at d is.used in
      let six = ap phase line.stamped.answers in
      let seven = ap phase (code_at d is.used ((a.section d).edge) ∙ ends _ is.ended) in
      far_by d line.stamped.answer 4 (micros.ReplyExchange line.stamped.reply) is.used line.stamped.answers refl (omega arith) (⊎_elim
      (λ low. low)
      (λ high. absurd (let phases = line.in_phases.phases ((a.section d).edge) line.stamped.answer high in omega arith))
      (cases_lt line.stamped.answer ((a.section d).edge)))

  -- a run that stands before the exchange of its stamp
  module _ (r : ℕ) (q : RunState) (is : (s.part r).run ≡ Some q) (opened : is_open_run q ≡ true) (next : next_of m q ≡ micros.StampExchange) where
    loaded : w.loaded r ≡ true
    loaded = tied.loaded r ∙ loading a r
        (before m l a s at.whole.sections r q is (open_run q opened) micros.StampExchange refl refl next)

    run_is : w.run r ≡ q.descriptor
    run_is = (tied.runs r (sym (tied.loaded r) ∙ loaded)).run ∙ (run_here m l a s at.whole.sections r q is).descriptor

    hand_is : w.hand r ≡ q.word
    hand_is = (tied.runs r (sym (tied.loaded r) ∙ loaded)).hand ∙ (run_here m l a s at.whole.sections r q is).word

    hand_low : q.word ≤ s.word Clock
    hand_low = let h = (stands.clock.hand r loaded).1 in let a = hand_is in let b = clock_is in omega arith

    hand_high : w.floor q.descriptor ≤ q.word
    hand_high = subst (λ d. w.floor d ≤ q.word) run_is (let h = (stands.clock.hand r loaded).0 in let a = hand_is in omega arith)

  -- what came before a published section for its worker was known at the publication
  knew_of : (r n : ℕ) (x : Published) → HasPublished s r x → CameBefore m l rs g s r x n → w.knew x.descriptor n ≡ true
  knew_of r n x is came = ⊎_elim
      (λ knew. (at.publications r x is).knew n ∙ knew)
      (λ other. (at.publications r x is).others n other.0 (some_stamp n other.1) other.2)
      came

  used_of : (r : ℕ) (x : Published) → HasPublished s r x → a.used x.descriptor ≡ true
  used_of r x is = at.whole.tied.used x.descriptor ∙ ap is_out ((at.whole.slots.tied r).published x is)

  published_used : (r : ℕ) (x : Published) → HasPublished s r x → w.used x.descriptor ≡ true
  published_used r x is = used_at x.descriptor (used_of r x is)

  pub clock_stands : ClockStands m l rs g s (length w.history)
  clock_stands = record {
    stores = λ d i place log value used lt is.
        half_by d used (stands.clock.raised d (used_at d used) (store_raised d i place log value used lt is));
    answered = λ d is. half_by d is.used (stands.clock.raised d (used_at d is.used)
        (let far = answered_replied d is in omega arith));
    small = subst (λ n. n ≤ length w.history) clock_is stands.clock.small;
    half = λ n. subst (λ k. k / 2 ≤ length w.history) (stamp_is n) (stands.clock.half n);
    loaded = λ r q is opened next. hand_low r q is opened next;
    before = λ r q is opened next i n x has same came.
        let floor = (at.joined.sound.order.knew x.descriptor n (published_used i x has) (knew_of i n x has came)).1 in
        let high = subst (λ d. w.floor d ≤ q.word) (sym same) (hand_high r q is opened next) in
        subst (λ k. k / 2 ≤ q.word) (stamp_is n) (omega arith);
  }

  -- the published section that isn't run to its end
  pub open_of : (r n d : ℕ) → w.published r ≡ suc d → w.request d ≡ n → HasOpen s r n
  open_of r n d own request = by (s.part r).published refl (sym (at.kept.published r) ∙ own)
    where
      linked : (k : ℕ) → suc k ≡ suc d → k ≡ d
      linked k e = omega arith

      by : (o : Option Published) → (s.part r).published ≡ o → link_of (s.part r).published ≡ suc d → HasOpen s r n
      by None none e = absurd (let clash : 0 ≡ suc d = sym (ap link_of none) ∙ e in cc)
      by (Some x) some e = let h = linked x.descriptor (sym (ap link_of some) ∙ e) in record {
        section = x;
        published = some;
        request = sym (at.publications r x some).request ∙ (ap w.request h ∙ request);
      }

  pub requests_stand : RequestsStand m l rs g s w.history
  requests_stand = record {
    answered = λ n some. ⊎_elim
        (λ known. inl (sym (at.kept.known (requests.worker n) n) ∙ known))
        (λ h. inr (open_of (requests.worker n) n h.0 h.1 h.2))
        (stands.known.told n (some_stamp n some));
    before = λ r n x is some came.
        let own = at.publications r x is in
        let h = stands.known.knew x.descriptor n (published_used r x is) (own.stamped (some_stamp x.thunk.request some)) (knew_of r n x is came) in (
          word_stamp n h.0,
          below n x.thunk.request (subst (λ q. w.stamp n < w.stamp q) own.request h.1),
        );
    even = λ r x is some.
        let own = at.publications r x is in
        subst (λ n. n % 2 ≡ 0) (ap w.stamp own.request ∙ stamp_is x.thunk.request)
        (stands.reads.even x.descriptor (published_used r x is) (own.stamped (some_stamp x.thunk.request some)));
    known = λ r n is. let h = stands.known.known r n (at.kept.known r n ∙ is) in record {
      place = h.2.place;
      entry = h.2.entry;
      here = h.2.here;
      number = h.2.number;
      some = word_stamp n h.0;
      stamp = h.2.stamp ∙ stamp_is n;
      reply = λ map. sym (reply_is n) ∙ h.2.reply map h.1;
      once = h.2.once;
    };
  }

  -- an open section's outer lock names it
  module _ (none : NoLockNames m l rs g s) where
    all_closed : AreAllClosed (with_history m laws l limits rs (states_of g s) w)
    all_closed d is =
        let sound = at.whole.sections.sound.sections d is.used in
        let lock = (a.section d).lock in
        let held : a.shared.cells lock ≡ held_word d (a.section d).word = sound.section.in_locks.outer_held is.undone in
        let names : value_of (s.word (Cell lock)) ≡ suc d =
        ap value_of (sym (at.whole.sections.words.cells lock) ∙ held) ∙ value_held d (a.section d).word sound.published.link in
        let free = none lock sound.published.line.placed.outer_lock in omega arith

    pub closed_stands : IsClosed m l rs g s w.history w.pairs
    closed_stands =
        let closed = stands.answered all_closed in record {
          done = λ d used zero. all_closed d (record { used = used; undone = (at.whole.sections.sections d).done ∙ zero });
          replied = λ n some zero. closed.replied n (some_stamp n some) (reply_is n ∙ zero);
          replies = λ map e there. sym (reply_is e.number) ∙ closed.replies map e there;
          settled = subst (λ (cells : Cells). m.stands l cells w.pairs) (λ i p. at.whole.sections.words.cells p i) (stands.settled all_closed);
        }
