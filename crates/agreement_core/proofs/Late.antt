-- Late runs change nothing; nobody changes a lock that an open section holds.
use Rattle.std.proofs.Common.{◌≡◌, ℕ, suc, ◌/◌, ◌<◌, ◌≤◌, true, false, refl, sym, ap, ◌∙◌, subst, inl, inr, ⊎_elim, arith, Option, Some, None}
use Rattle.std.proofs.lemmas.Bool.{cases_eq}
use Rattle.std.specs.Prelude.{max, ◌⊎◌}
use mathlib.Core.Path.{fun_ext}
use Rattle.section_lines.specs.small_lemmas.proofs.Lists.{same_number as same_runner}
use Rattle.section_lines.specs.structure_laws.specs.body_terms.specs.Update.{upd}
use Rattle.section_lines.specs.structure_laws.specs.body_terms.specs.Run.{written_once}
use Rattle.section_lines.specs.structure_laws.specs.body_terms.specs.Line.{is_commit}
use Rattle.section_lines.specs.structure_laws.specs.body_terms.specs.Word.{value_of, held_word}
use Rattle.section_lines.specs.structure_laws.specs.body_terms.specs.declared.micro.Source.{Source}
use Rattle.section_lines.specs.Line.{is_clock_raise}
use Rattle.agreement_core.specs.State.{CellRules, Section, Run, AgreementState, section_of}
use Rattle.agreement_core.specs.Checks.{came, exchanged, is_stamp_exchange, is_reply_exchange}
use Rattle.agreement_core.specs.Events.{Event, Enabled, after, agrees}
use Rattle.agreement_core.specs.Events.{Publish, RetireDescriptor, Free, StoreLog, StoreDone, Read, Open, Pass, SetDone, Release, Finish, LoadCell, Commit, NestedLoad, NestedCommit, NestedHold, OutcomeLoad, OutcomeCommit, PrivateLoad, PrivateStore, MakeCommit, ClockLoad, StampExchange, ClockRaise, ExchangeCell, EpochForRetire, RetireCommit, ReplyExchange, ReadReply, ReadStamp}
use Rattle.agreement_core.specs.Sound.{UsedIsSound, IsSound}
use Rattle.agreement_core.specs.Late.{IsReleaseOf, LocksLeave, stepper, IsLate, IsUnchanged, LocksStay}
use Rattle.agreement_core.proofs.Frame.{not_both}
use Rattle.agreement_core.proofs.Committing.{upd_else}
use Rattle.agreement_core.proofs.Changing.{exchange_fails, upd_found}
use Rattle.agreement_core.proofs.Stepping.{late_edge, found_late}
use Rattle.agreement_core.proofs.EndEvents.{upd_same_at}
use Rattle.agreement_core.proofs.LineEvents.{store_misses, above}
use Rattle.agreement_core.proofs.Words.{value_held, free_value}
use Rattle.agreement_core.proofs.Lines.{hold_free, exchange_unlocked}

no_raise : (clock n : ℕ) → n ≤ clock → max clock n ≡ clock
no_raise clock n le = grind arith

written : (found word : ℕ) → 0 < found → written_once found word ≡ found
written found word some = grind arith

none_some : (r : ℕ) → ◌≡◌ {A = Option ℕ} None (Some r) → ⊥
none_some r e = cc

module _ (c : CellRules) (w : AgreementState) (old : IsSound c w) (r : ℕ) (running : (w.run r).running ≡ true) (late : IsLate w r) where
  abbrev q : Run
  q = w.run r

  abbrev s : Section
  s = section_of w r

  own : UsedIsSound c w.shared (w.live q.descriptor) (w.over q.descriptor) q.descriptor s
  own = old.sections q.descriptor (old.running_used r running)

  same_edge : (log : ℕ → ℕ) → log ≡ s.log → came (record s { log = log }) (suc q.at) ≡ s
  same_edge log same = λ i. record s { log = same i; edge = late_edge s.edge q.at late i }

  pub goes_section : (d : ℕ) → upd w.section q.descriptor (came s (suc q.at)) d ≡ w.section d
  goes_section = upd_same_at w.section q.descriptor (came s (suc q.at)) (same_edge s.log refl)

  pub agrees_section : q.ended ≡ false → (log proposal : ℕ) → log ≡ s.slot q.at → is_commit (s.code q.at) ≡ true
      → (d : ℕ) → upd w.section q.descriptor (came (record s { log = upd s.log log (written_once (s.log log) proposal) })
      (suc q.at)) d ≡ w.section d
  agrees_section going log proposal here commit = upd_same_at w.section q.descriptor _
      (same_edge _ (fun_ext (upd_found s.log log _ (found_late c w old r running going log proposal here commit late))))

  -- a step that changes no shared word
  goes_nothing : (word : ℕ)
      → IsUnchanged w (record w {
        section = upd w.section q.descriptor (came s (suc q.at));
        run = upd w.run r (record q { at = suc q.at; word = word });
      })
  goes_nothing word = record { cells = λ p. refl; clock = refl; stamp = λ n. refl; reply = λ n. refl; section = goes_section }

  hold_nothing : (place free : ℕ) → Enabled c w (NestedHold r place free) → IsUnchanged w (after w (NestedHold r place free))
  hold_nothing place free ok =
      let past = own.section.in_locks.nested_past q.at place free late ok.next in
      record {
        cells = upd_found w.shared.cells place _ (exchange_fails _ free _ (above _ _ past));
        clock = refl;
        stamp = λ n. refl;
        reply = λ n. refl;
        section = goes_section;
      }

  store_nothing : (place log : ℕ) (v : Source) → Enabled c w (ExchangeCell r place log v)
      → IsUnchanged w (after w (ExchangeCell r place log v))
  store_nothing place log v ok = record {
    cells = upd_found w.shared.cells place _ (exchange_fails _ _ _ (store_misses c w old r place log v running ok.next late));
    clock = refl;
    stamp = λ n. refl;
    reply = λ n. refl;
    section = goes_section;
  }

  stamp_nothing : Enabled c w (StampExchange r) → IsUnchanged w (after w (StampExchange r))
  stamp_nothing ok =
      let some = own.section.in_request.stamped q.at late (ap is_stamp_exchange ok.next) in
      record {
        cells = λ p. refl;
        clock = refl;
        stamp = upd_found w.shared.stamp s.request _ (written _ _ some);
        reply = λ n. refl;
        section = goes_section;
      }

  reply_nothing : (reply : ℕ) → Enabled c w (ReplyExchange r reply) → IsUnchanged w (after w (ReplyExchange r reply))
  reply_nothing reply ok =
      let some = own.section.in_request.replied q.at late (ap is_reply_exchange ok.next) in
      record {
        cells = λ p. refl;
        clock = refl;
        stamp = λ n. refl;
        reply = upd_found w.shared.reply s.request _ (written _ _ some);
        section = goes_section;
      }

  raise_nothing : Enabled c w (ClockRaise r) → IsUnchanged w (after w (ClockRaise r))
  raise_nothing ok =
      let raised = own.section.in_request.raised q.at late (ap is_clock_raise ok.next) in
      let word : q.word ≡ w.shared.stamp s.request = (old.runs r running).in_word.stamp_agreed (ap is_clock_raise ok.next) in
      record {
        cells = λ p. refl;
        clock = no_raise w.shared.clock (q.word / 2) (subst (λ n. n / 2 ≤ w.shared.clock) (sym word) raised);
        stamp = λ n. refl;
        reply = λ n. refl;
        section = goes_section;
      }

  -- a step that goes on, and has read a cell
  plain_nothing : (w' : AgreementState) → ((p : ℕ) → w'.shared.cells p ≡ w.shared.cells p) → w'.shared.clock ≡ w.shared.clock
      → ((n : ℕ) → w'.shared.stamp n ≡ w.shared.stamp n) → ((n : ℕ) → w'.shared.reply n ≡ w.shared.reply n)
      → w'.section ≡ upd w.section q.descriptor (came s (suc q.at)) → IsUnchanged w w'
  plain_nothing w' cells clock stamp reply section =
      record {
        cells = cells;
        clock = clock;
        stamp = stamp;
        reply = reply;
        section = λ d. ap (λ (f : ℕ → Section). f d) section ∙ goes_section d;
      }

  commit_nothing : q.ended ≡ false → (log proposal : ℕ) → log ≡ s.slot q.at → is_commit (s.code q.at) ≡ true
      → IsUnchanged w (agrees w r log proposal)
  commit_nothing going log proposal here commit =
      record {
        cells = λ p. refl;
        clock = refl;
        stamp = λ n. refl;
        reply = λ n. refl;
        section = agrees_section going log proposal here commit;
      }

module _ (c : CellRules) where
  -- the places in the log of the commits of a line
  own_line : (w : AgreementState) → IsSound c w → (r : ℕ) → (w.run r).running ≡ true
      → UsedIsSound c w.shared (w.live ((w.run r).descriptor)) (w.over ((w.run r).descriptor)) ((w.run r).descriptor) (section_of w r)
  own_line w old r running = old.sections ((w.run r).descriptor) (old.running_used r running)

  own_late : (w : AgreementState) (r0 r : ℕ) → Some r0 ≡ Some r → IsLate w r → IsLate w r0
  own_late w r0 r e late = subst (IsLate w) (sym (same_runner r0 r e)) late

  pub by_stepper : (w : AgreementState) (e : Event) → Enabled c w e → IsSound c w → (r : ℕ) → stepper e ≡ Some r → IsLate w r
      → IsUnchanged w (after w e)
  by_stepper w (LoadCell r0 place log) ok old r e late = plain_nothing c w old r0 (ok.0).running (own_late w r0 r e late) _ (λ p. refl) refl
      (λ n. refl) (λ n. refl) refl
  by_stepper w (Commit r0 place log) ok old r e late = let at = ok in
      commit_nothing c w old r0 at.running (own_late w r0 r e late) at.going log ((w.run r0).word)
      ((own_line w old r0 at.running).published.line.counted.commit_log ((w.run r0).at) place log at.next) (ap is_commit at.next)
  by_stepper w (NestedLoad r0 place log) ok old r e late = plain_nothing c w old r0 ok.running (own_late w r0 r e late) _ (λ p. refl) refl
      (λ n. refl) (λ n. refl) refl
  by_stepper w (NestedCommit r0 place log) ok old r e late = let at = ok in
      commit_nothing c w old r0 at.running (own_late w r0 r e late) at.going log ((w.run r0).word)
      ((own_line w old r0 at.running).published.line.counted.nested_log ((w.run r0).at) place log at.next) (ap is_commit at.next)
  by_stepper w (NestedHold r0 place free) ok old r e late = hold_nothing c w old r0 ok.running (own_late w r0 r e late) place free ok
  by_stepper w (OutcomeLoad r0 place log) ok old r e late = plain_nothing c w old r0 ok.running (own_late w r0 r e late) _ (λ p. refl) refl
      (λ n. refl) (λ n. refl) refl
  by_stepper w (OutcomeCommit r0 place log) ok old r e late = let at = ok in
      commit_nothing c w old r0 at.running (own_late w r0 r e late) at.going log ((w.run r0).word)
      ((own_line w old r0 at.running).published.line.counted.outcome_log ((w.run r0).at) place log at.next) (ap is_commit at.next)
  by_stepper w (PrivateLoad r0 cell log place) ok old r e late = plain_nothing c w old r0 ok.running (own_late w r0 r e late) _
      (λ p. refl) refl (λ n. refl) (λ n. refl) refl
  by_stepper w (MakeCommit r0 log proposal) ok old r e late = let at = ok.0 in
      commit_nothing c w old r0 at.running (own_late w r0 r e late) at.going log proposal
      ((own_line w old r0 at.running).published.line.counted.make_log ((w.run r0).at) log at.next) (ap is_commit at.next)
  by_stepper w (ClockLoad r0) ok old r e late = plain_nothing c w old r0 ok.running (own_late w r0 r e late) _ (λ p. refl) refl (λ n. refl)
      (λ n. refl) refl
  by_stepper w (StampExchange r0) ok old r e late = stamp_nothing c w old r0 ok.running (own_late w r0 r e late) ok
  by_stepper w (ClockRaise r0) ok old r e late = raise_nothing c w old r0 ok.running (own_late w r0 r e late) ok
  by_stepper w (ExchangeCell r0 place log value) ok old r e late = store_nothing c w old r0 ok.running
      (own_late w r0 r e late) place log value ok
  by_stepper w (EpochForRetire r0 slot log epoch) ok old r e late = plain_nothing c w old r0 ok.running (own_late w r0 r e late) _
      (λ p. refl) refl (λ n. refl) (λ n. refl) refl
  by_stepper w (RetireCommit r0 slot log) ok old r e late = let at = ok in
      commit_nothing c w old r0 at.running (own_late w r0 r e late) at.going log (suc slot)
      ((own_line w old r0 at.running).published.line.counted.retire_log ((w.run r0).at) slot log at.next) (ap is_commit at.next)
  by_stepper w (ReplyExchange r0 reply) ok old r e late = reply_nothing c w old r0 ok.running (own_late w r0 r e late) reply ok
  by_stepper w (Publish d lock word request code slot) ok old r e late = absurd (none_some r e)
  by_stepper w (RetireDescriptor d) ok old r e late = absurd (none_some r e)
  by_stepper w (Free d) ok old r e late = absurd (none_some r e)
  by_stepper w (StoreLog d log word) ok old r e late = absurd (none_some r e)
  by_stepper w (StoreDone d word) ok old r e late = absurd (none_some r e)
  by_stepper w (Read place) ok old r e late = absurd (none_some r e)
  by_stepper w (Open r0 d) ok old r e late = absurd (none_some r e)
  by_stepper w (Pass r0) ok old r e late = absurd (none_some r e)
  by_stepper w (SetDone r0) ok old r e late = absurd (none_some r e)
  by_stepper w (Release r0 place word) ok old r e late = absurd (none_some r e)
  by_stepper w (Finish r0) ok old r e late = absurd (none_some r e)
  by_stepper w (PrivateStore r0 cell log value place word) ok old r e late = absurd (none_some r e)
  by_stepper w (ReadReply request reply) ok old r e late = absurd (none_some r e)
  by_stepper w (ReadStamp request stamp) ok old r e late = absurd (none_some r e)

  -- the lock of an exchange from a free word isn't one that a section holds
  lock_else : (w : AgreementState) (place free d p new : ℕ) → value_of free ≡ 0 → w.shared.cells place ≡ free
      → value_of (w.shared.cells p) ≡ suc d
      → upd w.shared.cells place new p ≡ w.shared.cells p
  lock_else w place free d p new zero_value is names =
      upd_else w.shared.cells place p new (λ e. let z : suc d ≡ 0 = sym names ∙ ap (λ n. value_of (w.shared.cells n)) e ∙ ap value_of is
      ∙ zero_value in omega arith)

  -- an exchange from one word leaves a cell with another one
  exchange_else : (w : AgreementState) (place old new p : ℕ) → (p ≡ place → w.shared.cells place ≡ old → ⊥)
      → upd w.shared.cells place (exchanged (w.shared.cells place) old new) p ≡ w.shared.cells p
  exchange_else w place old new p never = ⊎_elim
      (λ e. ⊎_elim (λ is. absurd (never e is)) (λ ne. upd_found w.shared.cells place _ (exchange_fails _ old new ne) p)
      (cases_eq (w.shared.cells place) old))
      (λ ne. upd_else w.shared.cells place p _ ne) (cases_eq p place)

  -- a release of this lock, or of another word
  release_leaves : (w : AgreementState) (r place word : ℕ) → Enabled c w (Release r place word) → IsSound c w → (d p : ℕ)
      → value_of (w.shared.cells p) ≡ suc d
      → ((after w (Release r place word)).shared.cells p ≡ w.shared.cells p) ⊎ IsReleaseOf w (Release r place word) d p
  release_leaves w r place word ok old d p names =
      let d0 = (w.run r).descriptor in
      let o = own_line w old r ok.0 in
      ⊎_elim
      (λ e. ⊎_elim
      (λ is.
      let z : suc d ≡ suc d0 = sym names ∙ ap (λ n. value_of (w.shared.cells n)) e ∙ ap value_of is ∙ value_held d0 word o.published.link in
      inr (r, word, ap (λ n. Release r n word) (sym e), ok.0, (let same : d0 ≡ d = omega arith in same)))
      (λ ne. inl (exchange_else w place (held_word d0 word) _ p (λ e' is. ne is)))
      (cases_eq (w.shared.cells place) (held_word d0 word)))
      (λ ne. inl (exchange_else w place (held_word d0 word) _ p (λ e is. ne e)))
      (cases_eq p place)

  pub locks_leave : (w : AgreementState) (e : Event) → Enabled c w e → IsSound c w → LocksLeave c w e (after w e)
  locks_leave w (Publish d0 lock word request code slot) ok old d p lock' names = inl (lock_else w lock word d p (held_word d0 word)
      (free_value word ok.2.free) ok.1 names)
  locks_leave w (Release r place word) ok old d p lock names = release_leaves w r place word ok old d p names
  locks_leave w (NestedHold r place free) ok old d p lock names =
      let o = own_line w old r ok.running in
      let s = section_of w r in
      inl (exchange_else w place free _ p (λ e is.
      let z : suc d ≡ 0 = sym names ∙ ap (λ n. value_of (w.shared.cells n)) e ∙ ap value_of is
      ∙ free_value free (hold_free c s.lock s.code s.slot o.published.line ((w.run r).at) place free ok.next) in
      omega arith))
  locks_leave w (PrivateStore r cell log value place word) ok old d p lock names =
      inl (upd_else w.shared.cells place p word (λ e. let z : suc d ≡ 0 = sym names ∙ ap (λ n. value_of (w.shared.cells n)) e
      ∙ ok.1.free_before (ap c.is_lock (sym e) ∙ lock) in omega arith))
  locks_leave w (ExchangeCell r place log value) ok old d p lock names =
      let o = own_line w old r ok.running in
      let s = section_of w r in
      inl (upd_else w.shared.cells place p _
      (λ e. not_both _ lock (ap c.is_lock e ∙ exchange_unlocked c s.lock s.code s.slot o.published.line
      ((w.run r).at) place log value ok.next)))
  locks_leave w e ok old d p lock names = inl refl

  -- only a run that has set its section done releases a lock
  pub locks_stay : (w : AgreementState) (e : Event) → Enabled c w e → IsSound c w → LocksStay c w (after w e)
  locks_stay w e ok old d p is_open lock names = ⊎_elim (λ same. same)
      (λ release.
      let (r, word, is, running, of_section) = release in
      let enabled = subst (Enabled c w) is ok in
      absurd ((old.runs r running).in_trail.ended_done enabled.1 (subst (λ n. (w.section n).done ≡ 0) (sym of_section) is_open.undone)))
      (locks_leave w e ok old d p lock names)
