-- The history is exact after every list of enabled events, and what stands in it stays.
use Rattle.std.proofs.Common.{◌≡◌, ℕ, suc, ◌<◌, ◌≤◌, Bool, true, false, List, [], ◌∷◌, refl, sym, ap, ◌∙◌, subst, ⊎_elim, arith}
use Rattle.std.proofs.lemmas.Bool.{cases_lt}
use Rattle.section_lines.specs.structure_laws.specs.body_terms.specs.Update.{upd}
use Rattle.section_lines.specs.structure_laws.specs.body_terms.specs.Run.{written_once}
use Rattle.section_lines.specs.structure_laws.specs.body_terms.specs.Line.{is_commit, is_check}
use Rattle.section_lines.specs.structure_laws.specs.body_terms.specs.declared.micro.Micro.{Micro}
use Rattle.agreement_core.specs.State.{CellRules, Shared, Section, Run, AgreementState, section_of}
use Rattle.agreement_core.specs.Checks.{came}
use Rattle.agreement_core.specs.Events.{Event, Enabled, after}
use Rattle.agreement_core.specs.Events.{Publish, RetireDescriptor, Free, StoreLog, StoreDone, Read, Open, Pass, SetDone, Release, Finish, LoadCell, Commit, NestedLoad, NestedCommit, NestedHold, OutcomeLoad, OutcomeCommit, PrivateLoad, PrivateStore, MakeCommit, ClockLoad, StampExchange, ClockRaise, ExchangeCell, EpochForRetire, RetireCommit, ReplyExchange, ReadReply, ReadStamp}
use Rattle.agreement_core.specs.Sound.{UsedIsSound, IsSound}
use Rattle.agreement_core.specs.Schedules.{first_state, AllEnabled, after_all}
use Rattle.agreement_core.specs.History.{History, no_history, noted, noted_all, IsExact}
use Rattle.agreement_core.proofs.Frame.{not_both}
use Rattle.agreement_core.proofs.Committing.{upd_else}
use Rattle.agreement_core.proofs.Stepping.{found_late}
use Rattle.agreement_core.proofs.LineSteps.{pass_checks}
use Rattle.agreement_core.proofs.LineEvents.{reply_is}
use Rattle.agreement_core.proofs.Keeping.{keeps}
use Rattle.agreement_core.proofs.Noting.{is_exchange, SectionLasts, lasts_same, lasts_came, lasts_then, lasts_logs, exact_same, one_lasts}
use Rattle.agreement_core.proofs.Exactly.{publish_exact, exchange_exact}
use Rattle.agreement_core.proofs.Writing.{stamp_exact, reply_exact, read_stamp_exact, read_reply_exact}

check_quiet : (m : Micro) → is_check m ≡ true → is_exchange m ≡ false
check_quiet m h = grind arith

commit_quiet : (m : Micro) → is_commit m ≡ true → is_exchange m ≡ false
commit_quiet m h = grind arith

written_same : (f : ℕ → ℕ) (k word i : ℕ) → word ≡ f k → upd f k word i ≡ f i
written_same f k word i e = grind arith

module _ (c : CellRules) where
  -- an event that changes no section, and neither stamps nor replies
  quiet_exact : (w : AgreementState) (h : History) (x' : Shared) (run : ℕ → Run) → ((q : ℕ) → x'.stamp q ≡ w.shared.stamp q)
      → ((q : ℕ) → x'.reply q ≡ w.shared.reply q) → IsExact w h → IsExact (record w { shared = x'; run = run }) h
  quiet_exact w h x' run stamp reply exact = exact_same w (record w { shared = x'; run = run }) h
      (record { stamp = stamp; reply = reply; was_used = λ d u. u; sections = λ d u. lasts_same (w.section d) }) exact

  -- a section of a descriptor that isn't used changes
  unused_exact : (w : AgreementState) (h : History) (d : ℕ) (s' : Section) → w.used d ≡ false → IsExact w h
      → IsExact (record w { section = upd w.section d s' }) h
  unused_exact w h d s' unused exact = exact_same w (record w { section = upd w.section d s' }) h (record {
    stamp = λ q. refl;
    reply = λ q. refl;
    was_used = λ d' u. u;
    sections = λ d' u. subst (SectionLasts (w.section d')) (sym (upd_else w.section d d' s' (λ e. not_both _ u (ap w.used e ∙ unused))))
        (lasts_same (w.section d'));
  }) exact

  was_used : (used : ℕ → Bool) (d d' : ℕ) → upd used d false d' ≡ true → used d' ≡ true
  was_used used d d' h = grind arith

  module _ (w : AgreementState) (old : IsSound c w) (h : History) (exact : IsExact w h) (r : ℕ) (running : (w.run r).running ≡ true) where
    abbrev q : Run
    q = w.run r

    abbrev s : Section
    s = w.section q.descriptor

    behind : q.at ≤ s.edge
    behind = (old.runs r running).in_trail.behind

    own : UsedIsSound c w.shared (w.live q.descriptor) (w.over q.descriptor) q.descriptor s
    own = old.sections q.descriptor (old.running_used r running)

    -- the section goes on so that its changes stay
    lasts_exact : (x' : Shared) (run : ℕ → Run) (s' : Section) → ((n : ℕ) → x'.stamp n ≡ w.shared.stamp n)
        → ((n : ℕ) → x'.reply n ≡ w.shared.reply n) → SectionLasts s s'
        → IsExact (record w { shared = x'; section = upd w.section q.descriptor s'; run = run }) h
    lasts_exact x' run s' stamp reply last = exact_same w (record w { shared = x'; section = upd w.section q.descriptor s'; run = run }) h
        (record { stamp = stamp; reply = reply; was_used = λ d u. u; sections = λ d u. one_lasts w.section q.descriptor s' last d }) exact

    goes_exact : (x' : Shared) (run : ℕ → Run) → ((n : ℕ) → x'.stamp n ≡ w.shared.stamp n) → ((n : ℕ) → x'.reply n ≡ w.shared.reply n)
        → is_exchange (s.code q.at) ≡ false
        → IsExact (record w { shared = x'; section = upd w.section q.descriptor (came s (suc q.at)); run = run }) h
    goes_exact x' run stamp reply quiet = lasts_exact x' run (came s (suc q.at)) stamp reply (lasts_came s q.at behind (λ e. quiet))

    -- the words that were agreed below the edge stand
    stands : (going : q.ended ≡ false) (log proposal : ℕ) → log ≡ s.slot q.at → is_commit (s.code q.at) ≡ true → (k : ℕ) → k < s.slot s.edge
        → upd s.log log (written_once (s.log log) proposal) k ≡ s.log k
    stands going log proposal here commit k lt = ⊎_elim
        (λ l. written_same s.log log _ k (found_late c w old r running going log proposal here commit l))
        (λ ge. let e : q.at ≡ s.edge = let b = behind in omega arith in
        upd_else s.log log k _ (let f : log ≡ s.slot s.edge = here ∙ ap s.slot e in omega arith))
        (cases_lt q.at s.edge)

    agrees_exact : (going : q.ended ≡ false) (run : ℕ → Run) (log proposal : ℕ) → log ≡ s.slot q.at → is_commit (s.code q.at) ≡ true
        → IsExact (record w {
          section = upd w.section q.descriptor
              (came (record s { log = upd s.log log (written_once (s.log log) proposal) }) (suc q.at));
          run = run;
        }) h
    agrees_exact going run log proposal here commit = lasts_exact w.shared run _ (λ n. refl) (λ n. refl)
        (lasts_then s (record s { log = upd s.log log (written_once (s.log log) proposal) }) _
        (lasts_logs c q.descriptor s own.published _ (stands going log proposal here commit))
        (lasts_came (record s { log = upd s.log log (written_once (s.log log) proposal) }) q.at behind (λ e. commit_quiet _ commit)))

  pub keeps_exact : (w : AgreementState) (h : History) (e : Event) → Enabled c w e → IsSound c w → IsExact w h
      → IsExact (after w e) (noted w h e)
  keeps_exact w h (Publish d lock word request code slot) ok old exact = publish_exact c w old h exact d lock word request code slot ok
  keeps_exact w h (RetireDescriptor d) ok old exact = exact_same w (after w (RetireDescriptor d)) h
      (record { stamp = λ q. refl; reply = λ q. refl; was_used = λ d u. u; sections = λ d u. lasts_same (w.section d) }) exact
  keeps_exact w h (Free d) ok old exact = exact_same w (after w (Free d)) h
      (record {
        stamp = λ q. refl;
        reply = λ q. refl;
        was_used = λ d' u. was_used w.used d d' u;
        sections = λ d u. lasts_same (w.section d);
      }) exact
  keeps_exact w h (StoreLog d log word) ok old exact = unused_exact w h d _ ok exact
  keeps_exact w h (StoreDone d word) ok old exact = unused_exact w h d _ ok exact
  keeps_exact w h (Read place) ok old exact = quiet_exact w h _ w.run (λ q. refl) (λ q. refl) exact
  keeps_exact w h (Open r d) ok old exact = quiet_exact w h w.shared _ (λ q. refl) (λ q. refl) exact
  keeps_exact w h (Pass r) ok old exact = goes_exact w old h exact r ok.0 w.shared _ (λ q. refl)
      (λ q. refl) (check_quiet _ (pass_checks c ((w.run r).descriptor) ((w.run r).trail) _ ok.2))
  keeps_exact w h (SetDone r) ok old exact = lasts_exact w old h exact r ok.0 w.shared _ _ (λ q. refl)
      (λ q. refl) (record { request = refl; code = refl; edge = omega arith; moves = λ i. refl })
  keeps_exact w h (Release r place word) ok old exact = quiet_exact w h _ _ (λ q. refl) (λ q. refl) exact
  keeps_exact w h (Finish r) ok old exact = exact_same w (after w (Finish r)) h
      (record { stamp = λ q. refl; reply = λ q. refl; was_used = λ d u. u; sections = λ d u. lasts_same (w.section d) }) exact
  keeps_exact w h (LoadCell r place log) ok old exact = let at = ok.0 in
      goes_exact w old h exact r at.running _ _ (λ q. refl) (λ q. refl) (ap is_exchange at.next)
  keeps_exact w h (Commit r place log) ok old exact = let s = section_of w r in
      agrees_exact w old h exact r ok.running ok.going _ log _
      ((old.sections _ (old.running_used r ok.running)).published.line.counted.commit_log ((w.run r).at) place log ok.next)
      (ap is_commit ok.next)
  keeps_exact w h (NestedLoad r place log) ok old exact = goes_exact w old h exact r ok.running _ _ (λ q. refl)
      (λ q. refl) (ap is_exchange ok.next)
  keeps_exact w h (NestedCommit r place log) ok old exact =
      agrees_exact w old h exact r ok.running ok.going _ log _
      ((old.sections _ (old.running_used r ok.running)).published.line.counted.nested_log ((w.run r).at) place log ok.next)
      (ap is_commit ok.next)
  keeps_exact w h (NestedHold r place word) ok old exact = goes_exact w old h exact r ok.running _ _ (λ q. refl)
      (λ q. refl) (ap is_exchange ok.next)
  keeps_exact w h (OutcomeLoad r place log) ok old exact = goes_exact w old h exact r ok.running _ _ (λ q. refl)
      (λ q. refl) (ap is_exchange ok.next)
  keeps_exact w h (OutcomeCommit r place log) ok old exact =
      agrees_exact w old h exact r ok.running ok.going _ log _
      ((old.sections _ (old.running_used r ok.running)).published.line.counted.outcome_log ((w.run r).at) place log ok.next)
      (ap is_commit ok.next)
  keeps_exact w h (PrivateLoad r cell log place) ok old exact = goes_exact w old h exact r ok.running _ _ (λ q. refl)
      (λ q. refl) (ap is_exchange ok.next)
  keeps_exact w h (PrivateStore r cell log value place word) ok old exact = let at = ok.0 in
      goes_exact w old h exact r at.running _ _ (λ q. refl) (λ q. refl) (ap is_exchange at.next)
  keeps_exact w h (MakeCommit r log proposal) ok old exact = let at = ok.0 in
      agrees_exact w old h exact r at.running at.going _ log _
      ((old.sections _ (old.running_used r at.running)).published.line.counted.make_log ((w.run r).at) log at.next)
      (ap is_commit at.next)
  keeps_exact w h (ClockLoad r) ok old exact = goes_exact w old h exact r ok.running _ _ (λ q. refl) (λ q. refl) (ap is_exchange ok.next)
  keeps_exact w h (StampExchange r) ok old exact = stamp_exact c w old h exact r ok.running ok.next
  keeps_exact w h (ClockRaise r) ok old exact = goes_exact w old h exact r ok.running _ _ (λ q. refl) (λ q. refl) (ap is_exchange ok.next)
  keeps_exact w h (ExchangeCell r place log value) ok old exact = exchange_exact c w old h exact r place log value ok
  keeps_exact w h (EpochForRetire r slot log epoch) ok old exact = goes_exact w old h exact r ok.running _ _ (λ q. refl)
      (λ q. refl) (ap is_exchange ok.next)
  keeps_exact w h (RetireCommit r slot log) ok old exact =
      agrees_exact w old h exact r ok.running ok.going _ log _
      ((old.sections _ (old.running_used r ok.running)).published.line.counted.retire_log ((w.run r).at) slot log ok.next)
      (ap is_commit ok.next)
  keeps_exact w h (ReplyExchange r reply) ok old exact = reply_exact c w old h exact r ok.running reply
      (reply_is c w old r reply ok) ok.next
  keeps_exact w h (ReadReply request reply) ok old exact = read_reply_exact w h exact request reply ok
  keeps_exact w h (ReadStamp request stamp) ok old exact = read_stamp_exact w h exact request stamp ok

  pub keeps_exact_all : (w : AgreementState) (h : History) (es : List Event) → AllEnabled c w es → IsSound c w → IsExact w h
      → IsExact (after_all c w es) (noted_all w h es)
  keeps_exact_all w h [] ok old exact = exact
  keeps_exact_all w h (e ∷ es) ok old exact = keeps_exact_all (after w e) (noted w h e) es ok.1 (keeps c w e ok.0 old)
      (keeps_exact w h e ok.0 old exact)

  pub first_exact : (cells : ℕ → ℕ) → IsExact (first_state cells) no_history
  first_exact cells = record {
    numbered = λ d. omega arith;
    named = λ d u. absurd (not_both _ u refl);
    apart = λ d d' le. absurd (omega arith);
    unborn_moved = λ n i lt. refl;
    unborn_stamped = λ n lt. refl;
    unborn_replied = λ n lt. refl;
    moved = λ d i u. absurd (not_both _ u refl);
    moved_once = λ n i. omega arith;
    stamps = λ q. refl;
    replies = λ q. refl;
    stamped_once = λ n. omega arith;
    replied_once = λ n. omega arith;
    unstamped = λ d u. absurd (not_both _ u refl);
    unreplied = λ d u. absurd (not_both _ u refl);
    stamped_late = λ d u. absurd (not_both _ u refl);
    replied_late = λ d u. absurd (not_both _ u refl);
  }
