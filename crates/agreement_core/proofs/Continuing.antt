-- Each event leaves every published section as it is, but for one more word, one more place, or the done word.
use Rattle.std.proofs.Common.{◌<◌, ◌≤◌, ◌≡◌, ◌≢◌, ℕ, suc, false, refl, sym, ap, ◌∙◌, subst, arith}
use Rattle.section_lines.specs.structure_laws.specs.body_terms.specs.Update.{upd}
use Rattle.section_lines.specs.structure_laws.specs.body_terms.specs.Run.{written_once}
use Rattle.agreement_core.specs.State.{CellRules, Section, Finished, AgreementState, section_of}
use Rattle.agreement_core.specs.Update.{upd2}
use Rattle.agreement_core.specs.Checks.{came}
use Rattle.agreement_core.specs.Events.{Event, Enabled, after}
use Rattle.agreement_core.specs.Events.{Publish, RetireDescriptor, Free, StoreLog, StoreDone, Read, Open, Pass, SetDone, Release, Finish, LoadCell, Commit, NestedLoad, NestedCommit, NestedHold, OutcomeLoad, OutcomeCommit, PrivateLoad, PrivateStore, MakeCommit, ClockLoad, StampExchange, ClockRaise, ExchangeCell, EpochForRetire, RetireCommit, ReplyExchange, ReadReply, ReadStamp}
use Rattle.agreement_core.specs.Continuing.{GoesOn, SectionsGoOn, RecordsStand, EntriesStand}
use Rattle.agreement_core.proofs.Frame.{not_both}
use Rattle.agreement_core.proofs.Committing.{upd_else}
use Rattle.agreement_core.proofs.Moving.{upd_split}
use Rattle.agreement_core.proofs.Reading.{stays}
use Rattle.agreement_core.proofs.Noting.{edge_rises}

same_section : (s : Section) → GoesOn s s
same_section s = record {
  lock = refl;
  word = refl;
  request = refl;
  code = refl;
  slot = refl;
  log = λ k some. refl;
  edge = omega arith;
  done = λ ne. refl;
}

-- one section changes
one_goes : (w : AgreementState) (d : ℕ) (s' : Section) → GoesOn (w.section d) s'
    → SectionsGoOn w (record w { section = upd w.section d s' })
one_goes w d s' goes d' used = upd_split w.section d s' (λ d' s. GoesOn (w.section d') s) goes (λ d' ne. same_section (w.section d')) d'

-- a section of which nothing is published changes
unused_goes : (w : AgreementState) (d : ℕ) (s' : Section) → w.used d ≡ false → SectionsGoOn w (record w { section = upd w.section d s' })
unused_goes w d s' unused d' used = subst (GoesOn (w.section d'))
    (sym (upd_else w.section d d' s' (λ e. not_both _ used (ap w.used e ∙ unused)))) (same_section (w.section d'))

done_stays : (n : ℕ) → n ≢ 0 → written_once n 1 ≡ n
done_stays n ne = grind arith

came_goes : (w : AgreementState) (r : ℕ) → SectionsGoOn w
    (record w { section = upd w.section ((w.run r).descriptor) (came (section_of w r) (suc ((w.run r).at))) })
came_goes w r = one_goes w _ _
    (record {
      lock = refl;
      word = refl;
      request = refl;
      code = refl;
      slot = refl;
      log = λ k some. refl;
      edge = edge_rises _ _;
      done = λ ne. refl;
    })

agrees_goes : (w : AgreementState) (r log proposal : ℕ) → SectionsGoOn w (record w {
  section = upd w.section ((w.run r).descriptor)
      (came (record (section_of w r) { log = upd ((section_of w r).log) log (written_once ((section_of w r).log log) proposal) })
      (suc ((w.run r).at)));
})
agrees_goes w r log proposal = one_goes w _ _
    (record {
      lock = refl;
      word = refl;
      request = refl;
      code = refl;
      slot = refl;
      log = λ k some. stays ((section_of w r).log) log proposal k some;
      edge = edge_rises _ _;
      done = λ ne. refl;
    })

module _ (c : CellRules) where
  pub goes_on_all : (w : AgreementState) (e : Event) → Enabled c w e → SectionsGoOn w (after w e)
  goes_on_all w (Publish d lock word request code slot) ok = unused_goes w d _ ok.0
  goes_on_all w (RetireDescriptor d) ok = λ d' u. same_section (w.section d')
  goes_on_all w (Free d) ok = λ d' u. same_section (w.section d')
  goes_on_all w (StoreLog d log word) ok = unused_goes w d _ ok
  goes_on_all w (StoreDone d word) ok = unused_goes w d _ ok
  goes_on_all w (Read place) ok = λ d' u. same_section (w.section d')
  goes_on_all w (Open r d) ok = λ d' u. same_section (w.section d')
  goes_on_all w (Pass r) ok = came_goes w r
  goes_on_all w (SetDone r) ok = one_goes w _ _
      (record {
        lock = refl;
        word = refl;
        request = refl;
        code = refl;
        slot = refl;
        log = λ k some. refl;
        edge = omega arith;
        done = λ ne. done_stays _ ne;
      })
  goes_on_all w (Release r place word) ok = λ d' u. same_section (w.section d')
  goes_on_all w (Finish r) ok = λ d' u. same_section (w.section d')
  goes_on_all w (LoadCell r place log) ok = came_goes w r
  goes_on_all w (Commit r place log) ok = agrees_goes w r log _
  goes_on_all w (NestedLoad r place log) ok = came_goes w r
  goes_on_all w (NestedCommit r place log) ok = agrees_goes w r log _
  goes_on_all w (NestedHold r place word) ok = came_goes w r
  goes_on_all w (OutcomeLoad r place log) ok = came_goes w r
  goes_on_all w (OutcomeCommit r place log) ok = agrees_goes w r log _
  goes_on_all w (PrivateLoad r cell log place) ok = came_goes w r
  goes_on_all w (PrivateStore r cell log value place word) ok = came_goes w r
  goes_on_all w (MakeCommit r log proposal) ok = agrees_goes w r log proposal
  goes_on_all w (ClockLoad r) ok = came_goes w r
  goes_on_all w (StampExchange r) ok = came_goes w r
  goes_on_all w (ClockRaise r) ok = came_goes w r
  goes_on_all w (ExchangeCell r place log value) ok = came_goes w r
  goes_on_all w (EpochForRetire r slot log epoch) ok = came_goes w r
  goes_on_all w (RetireCommit r slot log) ok = agrees_goes w r log _
  goes_on_all w (ReplyExchange r reply) ok = came_goes w r
  goes_on_all w (ReadReply request reply) ok = λ d' u. same_section (w.section d')
  goes_on_all w (ReadStamp request stamp) ok = λ d' u. same_section (w.section d')

-- no record is kept anew
none_kept : (w w' : AgreementState) → w'.finishes ≡ w.finishes → w'.finished ≡ w.finished → RecordsStand w w'
none_kept w w' count same = record {
  more = λ r. subst (λ (f : ℕ → ℕ). w.finishes r ≤ f r) (sym count) (omega arith);
  same = λ r i lt. ap (λ (f : ℕ → ℕ → Finished). f r i) same;
}

kept_more : (f : ℕ → ℕ) (r r' : ℕ) → f r' ≤ upd f r (suc (f r)) r'
kept_more f r r' = grind arith

kept_same : (finishes : ℕ → ℕ) (finished : ℕ → ℕ → Finished) (r : ℕ) (new : Finished) (r' i : ℕ) → i < finishes r'
    → upd2 finished r (finishes r) new r' i ≡ finished r' i
kept_same finishes finished r new r' i lt = grind arith

pub records_stand : (w : AgreementState) (e : Event) → RecordsStand w (after w e)
records_stand w (Finish r) = record { more = kept_more w.finishes r; same = kept_same w.finishes w.finished r _ }
records_stand w e = none_kept w (after w e) refl refl

pub entries_stand : (w : AgreementState) (e : Event) → EntriesStand w (after w e)
entries_stand w (StampExchange r) = record {
  stamp = λ q some. stays w.shared.stamp ((section_of w r).request) _ q some;
  reply = λ q some. refl;
}
entries_stand w (ReplyExchange r reply) = record {
  stamp = λ q some. refl;
  reply = λ q some. stays w.shared.reply ((section_of w r).request) _ q some;
}
entries_stand w (ReadReply request reply) = record {
  stamp = λ q some. refl;
  reply = λ q some. stays w.shared.reply request reply q some;
}
entries_stand w (ReadStamp request stamp) = record {
  stamp = λ q some. stays w.shared.stamp request stamp q some;
  reply = λ q some. refl;
}
entries_stand w e = record { stamp = λ q some. refl; reply = λ q some. refl }
