-- What an event adds to the history belongs to an open section.
use Rattle.std.proofs.Common.{◌≡◌, ◌≢◌, ℕ, suc, ◌<◌, ◌≤◌, Bool, true, false, refl, sym, ap, ◌∙◌, subst, inl, inr, ⊎_elim, arith}
use Rattle.std.proofs.lemmas.Bool.{cases_lt, cases_eq}
use Rattle.std.specs.Prelude.{◌⊎◌}
use Rattle.section_lines.specs.structure_laws.specs.body_terms.specs.Update.{upd}
use Rattle.section_lines.specs.structure_laws.specs.body_terms.specs.Line.{is_event, is_commit}
use Rattle.section_lines.specs.structure_laws.specs.body_terms.specs.Run.{written_once}
use Rattle.section_lines.specs.structure_laws.specs.body_terms.specs.Word.{version_of}
use Rattle.section_lines.specs.structure_laws.specs.body_terms.specs.declared.micro.Source.{Source}
use Rattle.section_lines.specs.structure_laws.specs.body_terms.specs.declared.micro.Micro.{Micro}
use Rattle.agreement_core.specs.State.{CellRules, Section, Run, AgreementState, section_of, IsOpen}
use Rattle.agreement_core.specs.Checks.{is_stop, came, is_stamp_exchange, is_reply_exchange}
use Rattle.agreement_core.specs.Events.{Event, Enabled, step_of, after}
use Rattle.agreement_core.specs.Events.{Publish, Free, StoreLog, StoreDone, Pass, SetDone, LoadCell, Commit, NestedLoad, NestedCommit, NestedHold, OutcomeLoad, OutcomeCommit, PrivateLoad, PrivateStore, MakeCommit, ClockLoad, StampExchange, ClockRaise, ExchangeCell, EpochForRetire, RetireCommit, ReplyExchange, ReadReply, ReadStamp}
use Rattle.section_lines.specs.Line.{IsCounted}
use Rattle.agreement_core.specs.Sound.{IsOf, IsSound}
use Rattle.agreement_core.specs.Late.{IsLate}
use Rattle.agreement_core.specs.Continuing.{SectionsGoOn, DoneStand, EndsAreOld}
use Rattle.agreement_core.specs.History.{History, noted, IsExact}
use Rattle.agreement_core.specs.Closed.{IsClosed, ClosedStay, NumbersStay}
use Rattle.agreement_core.proofs.Frame.{zero_unless, not_both}
use Rattle.agreement_core.proofs.Committing.{upd_here, upd_else}
use Rattle.agreement_core.proofs.Moving.{upd_split}
use Rattle.agreement_core.proofs.Lines.{event_goes, pass_goes, passes_same}
use Rattle.agreement_core.proofs.Late.{goes_section, agrees_section}
use Rattle.agreement_core.proofs.LineEvents.{store_misses}
use Rattle.agreement_core.proofs.Exactly.{won_not, two_split}
use Rattle.agreement_core.proofs.Continuing.{goes_on_all}

some_not : (n : ℕ) → 0 < n → n ≢ 0
some_not n some e = grind arith

-- a section that isn't open stays so, where no descriptor comes to be used
stays_closed : (w w' : AgreementState) (h h' : History) (n d : ℕ) → IsClosed w h n → SectionsGoOn w w' → w.used d ≡ true
    → h'.section d ≡ h.section d → (w'.section d).done ≡ 0 → h'.section d ≢ n
stays_closed w w' h h' n d closed goes used same undone e =
    let was : (w.section d).done ≡ 0 = zero_unless _ (λ ne. ne (sym ((goes d used).done ne) ∙ undone)) in
    closed d (record { used = used; undone = was }) (sym same ∙ e)

was_used : (used : ℕ → Bool) (d d' : ℕ) → upd used d false d' ≡ true → used d' ≡ true
was_used used d d' h = grind arith

module _ (c : CellRules) (w : AgreementState) (h : History) (e : Event) (ok : Enabled c w e) where
  -- nothing is published, and to what sections changed nothing is added
  record AddsNothing : Type 0 where
    used : (d : ℕ) → (after w e).used d ≡ true → w.used d ≡ true
    section : (d : ℕ) → (noted w h e).section d ≡ h.section d
    moved : (n i : ℕ) → (noted w h e).moved n i ≡ h.moved n i
    stamped : (n : ℕ) → (noted w h e).stamped n ≡ h.stamped n
    replied : (n : ℕ) → (noted w h e).replied n ≡ h.replied n

  nothing_closed : AddsNothing → ClosedStay w (after w e) h (noted w h e)
  nothing_closed adds = record {
    moved = λ n i closed. adds.moved n i;
    stamped = λ n closed. adds.stamped n;
    replied = λ n closed. adds.replied n;
    closed = λ n le closed d is_open. stays_closed w (after w e) h (noted w h e) n d closed (goes_on_all c w e ok)
        (adds.used d is_open.used) (adds.section d) is_open.undone;
  }

  -- an event by which nothing is published, stored, stamped or replied
  quiet_closed : ((d : ℕ) → (after w e).used d ≡ true → w.used d ≡ true) → noted w h e ≡ h → ClosedStay w (after w e) h (noted w h e)
  quiet_closed used same = nothing_closed (record {
    used = used;
    section = λ d. ap (λ (x : History). x.section d) same;
    moved = λ n i. ap (λ (x : History). x.moved n i) same;
    stamped = λ n. ap (λ (x : History). x.stamped n) same;
    replied = λ n. ap (λ (x : History). x.replied n) same;
  })

module _ (c : CellRules) (w : AgreementState) (old : IsSound c w) (h : History) (exact : IsExact w h) (r : ℕ) where
  abbrev q : Run
  q = w.run r

  abbrev s : Section
  s = section_of w r

  -- a run that stands before a step of its line is behind its section's edge, or the section is open
  open_or_late : q.running ≡ true → is_event (step_of w r) ≡ true → IsOpen w q.descriptor ⊎ (q.at < s.edge)
  open_or_late running event = ⊎_elim
      (λ undone. inl (record { used = old.running_used r running; undone = undone }))
      (λ done. inr (⊎_elim (λ lt. lt)
      (λ ge. let at : q.at ≡ s.edge = let b = (old.runs r running).in_trail.behind in omega arith in
      absurd (not_both _ ((old.sections q.descriptor (old.running_used r running)).section.in_log.stops done)
      (ap (λ i. is_stop c q.descriptor s.log (s.code i)) (sym at) ∙ event_goes c q.descriptor s.log (s.code q.at) event)))
      (cases_lt q.at s.edge)))
      (cases_eq s.done 0)

  same_closed : (e : Event) → Enabled c w e → ((d : ℕ) → (after w e).used d ≡ w.used d) → ((d : ℕ) → (noted w h e).section d ≡ h.section d)
      → (n : ℕ) → n ≤ h.published → IsClosed w h n → IsClosed (after w e) (noted w h e) n
  same_closed e ok used same n le closed d is_open =
      stays_closed w (after w e) h (noted w h e) n d closed (goes_on_all c w e ok) (sym (used d) ∙ is_open.used) (same d) is_open.undone

  exchange_closed : (place log : ℕ) (v : Source) → (ok : Enabled c w (ExchangeCell r place log v))
      → ClosedStay w (after w (ExchangeCell r place log v)) h (noted w h (ExchangeCell r place log v))
  exchange_closed place log v ok = record {
    moved = two_split h.moved (h.section q.descriptor) q.at _ (λ n i xs. IsClosed w h n → xs ≡ h.moved n i)
        (λ closed. ⊎_elim (λ is_open. absurd (closed q.descriptor is_open refl))
        (λ lt. won_not _ _ _ _ (store_misses c w old r place log v ok.running ok.next lt))
        (open_or_late ok.running (ap is_event ok.next)))
        (λ n i closed. refl);
    stamped = λ n closed. refl;
    replied = λ n closed. refl;
    closed = same_closed (ExchangeCell r place log v) ok (λ d. refl) (λ d. refl);
  }

  stamp_closed : (ok : Enabled c w (StampExchange r)) → ClosedStay w (after w (StampExchange r)) h (noted w h (StampExchange r))
  stamp_closed ok = record {
    moved = λ n i closed. refl;
    stamped = upd_split h.stamped (h.section q.descriptor) _ (λ n xs. IsClosed w h n → xs ≡ h.stamped n)
        (λ closed. ⊎_elim (λ is_open. absurd (closed q.descriptor is_open refl))
        (λ lt. won_not _ _ _ _ (some_not _ ((old.sections q.descriptor (old.running_used r ok.running)).section.in_request.stamped q.at lt
        (ap is_stamp_exchange ok.next))))
        (open_or_late ok.running (ap is_event ok.next)))
        (λ n ne closed. refl);
    replied = λ n closed. refl;
    closed = same_closed (StampExchange r) ok (λ d. refl) (λ d. refl);
  }

  reply_closed : (reply : ℕ) (ok : Enabled c w (ReplyExchange r reply))
      → ClosedStay w (after w (ReplyExchange r reply)) h (noted w h (ReplyExchange r reply))
  reply_closed reply ok = record {
    moved = λ n i closed. refl;
    stamped = λ n closed. refl;
    replied = upd_split h.replied (h.section q.descriptor) _ (λ n xs. IsClosed w h n → xs ≡ h.replied n)
        (λ closed. ⊎_elim (λ is_open. absurd (closed q.descriptor is_open refl))
        (λ lt. won_not _ _ _ _ (some_not _ ((old.sections q.descriptor (old.running_used r ok.running)).section.in_request.replied q.at lt
        (ap is_reply_exchange ok.next))))
        (open_or_late ok.running (ap is_event ok.next)))
        (λ n ne closed. refl);
    closed = same_closed (ReplyExchange r reply) ok (λ d. refl) (λ d. refl);
  }

-- once a section is done, its log and how far its runs have come stand
module _ (c : CellRules) (w : AgreementState) (old : IsSound c w) where
  -- one section changes: another one, or this one as little as a late run does
  module _ (r : ℕ) (running : (w.run r).running ≡ true) (s' : Section)
      (goes : (w.run r).at ≡ (section_of w r).edge → is_stop c ((w.run r).descriptor) ((section_of w r).log) (step_of w r) ≡ false)
      (late : IsLate w r → (d : ℕ) → upd w.section ((w.run r).descriptor) s' d ≡ w.section d) where
    by_run : (d : ℕ) → (w.section d).done ≢ 0 → upd w.section ((w.run r).descriptor) s' d ≡ w.section d
    by_run d done = ⊎_elim (λ lt. late lt d)
        (λ ge. let at : (w.run r).at ≡ (section_of w r).edge = let b = (old.runs r running).in_trail.behind in omega arith in
        upd_else w.section ((w.run r).descriptor) d s' (λ e. not_both _
        ((old.sections ((w.run r).descriptor) (old.running_used r running)).section.in_log.stops (subst (λ n. (w.section n).done ≢ 0) e done))
        (ap (λ i. is_stop c ((w.run r).descriptor) ((section_of w r).log) ((section_of w r).code i)) (sym at) ∙ goes at)))
        (cases_lt ((w.run r).at) ((section_of w r).edge))

  -- an event of a run's line, by what it does to the section
  module _ (r : ℕ) (running : (w.run r).running ≡ true) (event : is_event (step_of w r) ≡ true) where
    going : (d : ℕ) → (w.section d).done ≢ 0
        → upd w.section ((w.run r).descriptor) (came (section_of w r) (suc ((w.run r).at))) d ≡ w.section d
    going = by_run r running _ (λ at. event_goes c _ _ _ event) (λ lt. goes_section c w old r running lt)

    agreeing : (w.run r).ended ≡ false → (log proposal : ℕ) → log ≡ (section_of w r).slot ((w.run r).at) → is_commit (step_of w r) ≡ true
        → (d : ℕ) → (w.section d).done ≢ 0
        → upd w.section ((w.run r).descriptor) (came (record (section_of w r) {
          log = upd ((section_of w r).log) log (written_once ((section_of w r).log log) proposal);
        }) (suc ((w.run r).at))) d ≡ w.section d
    agreeing ends log proposal here commit =
        by_run r running _ (λ at. event_goes c _ _ _ event) (λ lt. agrees_section c w old r running lt ends log proposal here commit)

  counted : (r : ℕ) → (w.run r).running ≡ true → IsCounted (section_of w r).code (section_of w r).slot
  counted r running = (old.sections ((w.run r).descriptor) (old.running_used r running)).published.line.counted

  pass_going : (r : ℕ) → Enabled c w (Pass r) → (d : ℕ) → (w.section d).done ≢ 0
      → upd w.section ((w.run r).descriptor) (came (section_of w r) (suc ((w.run r).at))) d ≡ w.section d
  pass_going r ok =
      let q = w.run r in
      let s = section_of w r in
      let run = old.runs r ok.0 in
      let line = (old.sections q.descriptor (old.running_used r ok.0)).published.line in
      by_run r ok.0 _ (λ at. pass_goes c q.descriptor s.log (s.code q.at)
      (sym (passes_same c s.lock s.code s.slot line q.descriptor q.at q.trail s.log
      (λ k lt. run.in_trail.agreed k (let e = run.in_trail.counted in omega arith))) ∙ ok.2))
      (λ lt. goes_section c w old r ok.0 lt)

  -- the section as it was, of a done one
  same_stand : (w' : AgreementState) → ((d : ℕ) → (w.section d).done ≢ 0 → w'.section d ≡ w.section d) → DoneStand w w'
  same_stand w' same = record {
    edge = λ d used done. ap (λ (s : Section). s.edge) (same d done);
    log = λ d k used done. ap (λ (s : Section). s.log k) (same d done);
  }

  -- another descriptor's section changes
  unused_stand : (w' : AgreementState) (d : ℕ) (s' : Section) → w'.section ≡ upd w.section d s' → w.used d ≡ false → DoneStand w w'
  unused_stand w' d s' is unused =
      let else : (d' : ℕ) → w.used d' ≡ true → w'.section d' ≡ w.section d' = λ d' used. ap (λ (f : ℕ → Section). f d') is
      ∙ upd_else w.section d d' s' (λ e. not_both _ used (ap w.used e ∙ unused)) in
      record {
        edge = λ d' used done. ap (λ (s : Section). s.edge) (else d' used);
        log = λ d' k used done. ap (λ (s : Section). s.log k) (else d' used);
      }

  pub done_stand : (e : Event) → Enabled c w e → DoneStand w (after w e)
  done_stand (Publish d lock word request code slot) ok = unused_stand _ d _ refl ok.0
  done_stand (StoreLog d log word) ok = unused_stand _ d _ refl ok
  done_stand (StoreDone d word) ok = unused_stand _ d _ refl ok
  done_stand (SetDone r) ok = record {
    edge = λ d used done. upd_split w.section ((w.run r).descriptor) _ (λ d' s. s.edge ≡ (w.section d').edge) refl (λ d' ne. refl) d;
    log = λ d k used done. upd_split w.section ((w.run r).descriptor) _ (λ d' s. s.log k ≡ (w.section d').log k) refl (λ d' ne. refl) d;
  }
  done_stand (Pass r) ok = same_stand _ (pass_going r ok)
  done_stand (LoadCell r place log) ok = same_stand _ (going r (ok.0).running (ap is_event (ok.0).next))
  done_stand (Commit r place log) ok = let at = ok in same_stand _ (agreeing r at.running (ap is_event at.next) at.going log _
      ((counted r at.running).commit_log _ place log at.next) (ap is_commit at.next))
  done_stand (NestedLoad r place log) ok = same_stand _ (going r ok.running (ap is_event ok.next))
  done_stand (NestedCommit r place log) ok = let at = ok in same_stand _ (agreeing r at.running (ap is_event at.next) at.going log _
      ((counted r at.running).nested_log _ place log at.next) (ap is_commit at.next))
  done_stand (NestedHold r place free) ok = same_stand _ (going r ok.running (ap is_event ok.next))
  done_stand (OutcomeLoad r place log) ok = same_stand _ (going r ok.running (ap is_event ok.next))
  done_stand (OutcomeCommit r place log) ok = let at = ok in same_stand _ (agreeing r at.running (ap is_event at.next) at.going log _
      ((counted r at.running).outcome_log _ place log at.next) (ap is_commit at.next))
  done_stand (PrivateLoad r cell log place) ok = same_stand _ (going r ok.running (ap is_event ok.next))
  done_stand (PrivateStore r cell log value place word) ok = same_stand _ (going r (ok.0).running (ap is_event (ok.0).next))
  done_stand (MakeCommit r log proposal) ok = let at = ok.0 in same_stand _ (agreeing r at.running (ap is_event at.next) at.going log proposal
      ((counted r at.running).make_log _ log at.next) (ap is_commit at.next))
  done_stand (ClockLoad r) ok = same_stand _ (going r ok.running (ap is_event ok.next))
  done_stand (StampExchange r) ok = same_stand _ (going r ok.running (ap is_event ok.next))
  done_stand (ClockRaise r) ok = same_stand _ (going r ok.running (ap is_event ok.next))
  done_stand (ExchangeCell r place log value) ok = same_stand _ (going r ok.running (ap is_event ok.next))
  done_stand (EpochForRetire r slot log epoch) ok = same_stand _ (going r ok.running (ap is_event ok.next))
  done_stand (RetireCommit r slot log) ok = let at = ok in same_stand _ (agreeing r at.running (ap is_event at.next) at.going log _
      ((counted r at.running).retire_log _ slot log at.next) (ap is_commit at.next))
  done_stand (ReplyExchange r reply) ok = same_stand _ (going r ok.running (ap is_event ok.next))
  done_stand e ok = same_stand _ (λ d done. refl)

  -- no section is published of which a run came to its end before: its lock would be past the free word
  not_published : (d lock word request : ℕ) (code : ℕ → Micro) (slot : ℕ → ℕ) → Enabled c w (Publish d lock word request code slot)
      → (d' r i : ℕ) → i < w.finishes r → IsOf (w.finished r i) ((after w (Publish d lock word request code slot)).section d') → d' ≢ d
  not_published d lock word request code slot ok d' r i lt is here =
      let at : (after w (Publish d lock word request code slot)).section d' ≡ _ =
      ap (after w (Publish d lock word request code slot)).section here ∙ upd_here w.section d _ in
      let same_lock : (w.finished r i).lock ≡ lock = is.lock ∙ ap (λ (s : Section). s.lock) at in
      let same_word : (w.finished r i).word ≡ word = is.word ∙ ap (λ (s : Section). s.word) at in
      let past = old.finished.past r i lt in
      let stands : w.shared.cells ((w.finished r i).lock) ≡ (w.finished r i).word = ap w.shared.cells same_lock ∙ ok.1 ∙ sym same_word in
      let less : version_of ((w.finished r i).word) < version_of ((w.finished r i).word)
      = subst (λ n. version_of ((w.finished r i).word) < version_of n) stands past in omega arith

  same_ends : (e : Event) → Enabled c w e → ((d : ℕ) → (after w e).used d ≡ true → w.used d ≡ true) → EndsAreOld w (after w e)
  same_ends e ok used = record {
    used = λ d r i lt u is. used d u;
    same = λ d r i lt u is. let goes = goes_on_all c w e ok d (used d u) in record { lock = is.lock ∙ goes.lock; word = is.word ∙ goes.word };
  }

  pub ends_are_old : (e : Event) → Enabled c w e → EndsAreOld w (after w e)
  ends_are_old (Publish d lock word request code slot) ok =
      let e = Publish d lock word request code slot in
      let else : (d' r i : ℕ) → i < w.finishes r → IsOf (w.finished r i) ((after w e).section d') → d' ≢ d
      = not_published d lock word request code slot ok in
      record {
        used = λ d' r i lt u is. sym (upd_else w.used d d' true (else d' r i lt is)) ∙ u;
        same = λ d' r i lt u is. let same = upd_else w.section d d' _ (else d' r i lt is) in
            record { lock = is.lock ∙ ap (λ (s : Section). s.lock) same; word = is.word ∙ ap (λ (s : Section). s.word) same };
      }
  ends_are_old (Free d) ok = same_ends (Free d) ok (was_used w.used d)
  ends_are_old e ok = same_ends e ok (λ d used. used)

-- a publication has the next number
publish_closed : (c : CellRules) (w : AgreementState) (h : History) (d lock word request : ℕ) (code : ℕ → Micro) (slot : ℕ → ℕ)
    → (ok : Enabled c w (Publish d lock word request code slot))
    → ClosedStay w (after w (Publish d lock word request code slot)) h (noted w h (Publish d lock word request code slot))
publish_closed c w h d lock word request code slot ok =
    let e = Publish d lock word request code slot in
    record {
      moved = λ n i closed. refl;
      stamped = λ n closed. refl;
      replied = λ n closed. refl;
      closed = λ n le closed d' is_open. ⊎_elim
          (λ here is. let f : suc h.published ≡ n = sym (upd_here h.section d (suc h.published)) ∙ ap (upd h.section d (suc h.published)) (sym here)
          ∙ is in omega arith)
          (λ ne. stays_closed w (after w e) h (noted w h e) n d' closed (goes_on_all c w e ok)
          (sym (upd_else w.used d d' true ne) ∙ is_open.used) (upd_else h.section d d' (suc h.published) ne) is_open.undone)
          (cases_eq d' d);
    }

pub closed_stay : (c : CellRules) (w : AgreementState) (h : History) (e : Event) → Enabled c w e → IsSound c w → IsExact w h
    → ClosedStay w (after w e) h (noted w h e)
closed_stay c w h (Publish d lock word request code slot) ok old exact = publish_closed c w h d lock word request code slot ok
closed_stay c w h (Free d) ok old exact = quiet_closed c w h (Free d) ok (was_used w.used d) refl
closed_stay c w h (ExchangeCell r place log v) ok old exact = exchange_closed c w old h exact r place log v ok
closed_stay c w h (StampExchange r) ok old exact = stamp_closed c w old h exact r ok
closed_stay c w h (ReplyExchange r reply) ok old exact = reply_closed c w old h exact r reply ok
closed_stay c w h (ReadReply request reply) ok old exact = nothing_closed c w h (ReadReply request reply) ok (record {
  used = λ d used. used;
  section = λ d. refl;
  moved = λ n i. refl;
  stamped = λ n. refl;
  replied = λ n. refl;
})
closed_stay c w h (ReadStamp request stamp) ok old exact = nothing_closed c w h (ReadStamp request stamp) ok (record {
  used = λ d used. used;
  section = λ d. refl;
  moved = λ n i. refl;
  stamped = λ n. refl;
  replied = λ n. refl;
})
closed_stay c w h e ok old exact = quiet_closed c w h e ok (λ d used. used) refl

pub numbers_stay : (c : CellRules) (w : AgreementState) (h : History) (e : Event) → Enabled c w e → NumbersStay w (after w e) h (noted w h e)
numbers_stay c w h (Publish d lock word request code slot) ok = record {
  next = inr (refl, (d, ok.0, upd_here w.used d true, upd_here h.section d (suc h.published)));
  same = λ d' used. upd_else h.section d d' (suc h.published) (λ is. not_both _ used (ap w.used is ∙ ok.0));
}
numbers_stay c w h e ok = record { next = inl refl; same = λ d used. refl }
