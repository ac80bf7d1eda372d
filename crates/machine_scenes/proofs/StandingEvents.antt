-- The section of a Retire for which an epoch is loaded stands before the Retire's commit, over each event of agreement.
use Rattle.std.proofs.Common.{◌≡◌, ◌≢◌, ℕ, suc, Bool, true, false, refl, sym, ap, ◌∙◌, subst}
use Rattle.agreement_core.specs.body_terms.specs.Update.{upd}
use Rattle.agreement_core.specs.body_terms.specs.Run.{written_once}
use Rattle.agreement_core.specs.body_terms.specs.declared.micro.Micro.{Micro}
use Rattle.agreement_core.specs.body_terms.specs.declared.micro.Micro.TheVariants as micros
use Rattle.agreement_core.specs.section_lines.specs.structure_laws.proofs.Changes.{upd_other}
use Rattle.agreement_core.specs.State.{CellRules, AgreementState}
use Rattle.agreement_core.specs.Checks.{is_stop, came}
use Rattle.agreement_core.specs.Events.{Event, Enabled, after, IsBefore}
use Rattle.agreement_core.specs.Events.{Publish, RetireDescriptor, Free, StoreLog, StoreDone, Read, Open, Pass, SetDone, Release, Finish, LoadCell, Commit, NestedLoad, NestedCommit, NestedHold, OutcomeLoad, OutcomeCommit, PrivateLoad, PrivateStore, MakeCommit, ClockLoad, StampExchange, ClockRaise, ExchangeCell, EpochForRetire, RetireCommit, ReplyExchange, ReadReply, ReadStamp}
use Rattle.agreement_core.specs.Sound.{IsSound}
use Rattle.epoch_core.specs.State.{Retiring}
use Rattle.machine_scenes.specs.Kinds.{is_publication, is_retire_commit}
use Rattle.machine_scenes.specs.Kept.{StandsAt}
use Rattle.machine_scenes.proofs.Events.{stops_of}
use Rattle.machine_scenes.proofs.Standing.{is_retire, no_pass, no_stop, stands_with, other_stands, run_stands, at_retire, step_stands}

module _ (c : CellRules) (w : AgreementState) (old : IsSound c w) (x : Retiring) (stands : StandsAt w x) where
  unused_other : (d : ℕ) → w.used d ≡ false → d ≢ x.descriptor
  unused_other d unused e = not_both stands.open_section.used (ap w.used (sym e) ∙ unused)
    where
      not_both : {b : Bool} → b ≡ true → b ≡ false → ⊥
      not_both e e' = cc

  before_step : (r : ℕ) (m : Micro) → IsBefore w r m → is_retire m ≡ false → (log : ℕ → ℕ) (v : Event)
      → (after w v).used (x.descriptor) ≡ w.used (x.descriptor)
      → (after w v).section (x.descriptor) ≡ upd w.section ((w.run r).descriptor)
      (came (record (w.section ((w.run r).descriptor)) { log = log }) (suc ((w.run r).at))) (x.descriptor) → StandsAt (after w v) x
  before_step r m before no_retire log v used same = step_stands c w old x stands r before.running log
      (ap is_retire before.next ∙ no_retire) (after w v) (used ∙ stands.open_section.used) same

  abbrev log_of : ℕ → ℕ → ℕ
  log_of r = (w.section ((w.run r).descriptor)).log

  abbrev agreed_log : ℕ → ℕ → ℕ → ℕ → ℕ
  agreed_log r log proposal = upd (log_of r) log (written_once (log_of r log) proposal)

  pub event_stands : (v : Event) → is_publication v ≡ false → is_retire_commit v ≡ false → Enabled c w v → StandsAt (after w v) x
  event_stands (Publish d lock word request code slot) a b ok = absurd (cc)
  event_stands (RetireDescriptor d) a b ok = stands_with c w old x stands (after w (RetireDescriptor d)) stands.open_section.used
      (w.section (x.descriptor)) refl stands.open_section.undone stands.next
  event_stands (Free d) a b ok = stands_with c w old x stands (after w (Free d))
      (upd_other w.used d (x.descriptor) false
      (λ e. not_both ((old.sections (x.descriptor) stands.open_section.used).open_live stands.open_section.undone)
      (ap w.live e ∙ ok.0)) ∙ stands.open_section.used)
      (w.section (x.descriptor)) refl stands.open_section.undone stands.next
    where
      not_both : {b : Bool} → b ≡ true → b ≡ false → ⊥
      not_both e e' = cc
  event_stands (StoreLog d log word) a b ok = other_stands c w old x stands (after w (StoreLog d log word)) stands.open_section.used d _
      (unused_other d ok) refl
  event_stands (StoreDone d word) a b ok = other_stands c w old x stands (after w (StoreDone d word)) stands.open_section.used d _
      (unused_other d ok) refl
  event_stands (Read place) a b ok = stands_with c w old x stands (after w (Read place)) stands.open_section.used
      (w.section (x.descriptor)) refl stands.open_section.undone stands.next
  event_stands (Open r d) a b ok = stands_with c w old x stands (after w (Open r d)) stands.open_section.used
      (w.section (x.descriptor)) refl stands.open_section.undone stands.next
  event_stands (Pass r) a b ok = step_stands c w old x stands r ok.0 (log_of r)
      (no_pass c ((w.run r).descriptor) ((w.run r).trail) _ ok.2) (after w (Pass r)) stands.open_section.used refl
  event_stands (SetDone r) a b ok = other_stands c w old x stands (after w (SetDone r)) stands.open_section.used ((w.run r).descriptor) _
      (λ e. no_stop c ((w.run r).descriptor) (log_of r) x.slot x.index
      (subst (λ y. is_stop c ((w.run r).descriptor) (log_of r) y ≡ true)
      (ap (λ d. (w.section d).code ((w.section d).edge)) e ∙ stands.next) (stops_of c w old r ok))) refl
  event_stands (Release r place word) a b ok = stands_with c w old x stands (after w (Release r place word)) stands.open_section.used
      (w.section (x.descriptor)) refl stands.open_section.undone stands.next
  event_stands (Finish r) a b ok = stands_with c w old x stands (after w (Finish r)) stands.open_section.used
      (w.section (x.descriptor)) refl stands.open_section.undone stands.next
  event_stands (LoadCell r place log) a b ok = before_step r (micros.LoadCell place log) ok.0 refl (log_of r)
      (LoadCell r place log) refl refl
  event_stands (Commit r place log) a b ok = before_step r (micros.Commit place log) ok refl (agreed_log r log ((w.run r).word))
      (Commit r place log) refl refl
  event_stands (NestedLoad r place log) a b ok = before_step r (micros.NestedLoad place log) ok refl (log_of r)
      (NestedLoad r place log) refl refl
  event_stands (NestedCommit r place log) a b ok = before_step r (micros.NestedCommit place log) ok refl
      (agreed_log r log ((w.run r).word)) (NestedCommit r place log) refl refl
  event_stands (NestedHold r place word) a b ok = before_step r (micros.NestedHold place word) ok refl (log_of r)
      (NestedHold r place word) refl refl
  event_stands (OutcomeLoad r place log) a b ok = before_step r (micros.OutcomeLoad place log) ok refl (log_of r)
      (OutcomeLoad r place log) refl refl
  event_stands (OutcomeCommit r place log) a b ok = before_step r (micros.OutcomeCommit place log) ok refl
      (agreed_log r log ((w.run r).word)) (OutcomeCommit r place log) refl refl
  event_stands (PrivateLoad r cell log place) a b ok = before_step r (micros.PrivateLoad cell log) ok refl (log_of r)
      (PrivateLoad r cell log place) refl refl
  event_stands (PrivateStore r cell log value place word) a b ok = before_step r (micros.PrivateStore cell log value) ok.0 refl
      (log_of r) (PrivateStore r cell log value place word) refl refl
  event_stands (MakeCommit r log proposal) a b ok = before_step r (micros.MakeCommit log) ok.0 refl (agreed_log r log proposal)
      (MakeCommit r log proposal) refl refl
  event_stands (ClockLoad r) a b ok = before_step r micros.ClockLoad ok refl (log_of r) (ClockLoad r) refl refl
  event_stands (StampExchange r) a b ok = before_step r micros.StampExchange ok refl (log_of r) (StampExchange r) refl refl
  event_stands (ClockRaise r) a b ok = before_step r micros.ClockRaise ok refl (log_of r) (ClockRaise r) refl refl
  event_stands (ExchangeCell r place log value) a b ok = before_step r (micros.ExchangeCell place log value) ok refl (log_of r)
      (ExchangeCell r place log value) refl refl
  event_stands (EpochForRetire r slot log epoch) a b ok = before_step r (micros.EpochForRetire slot log) ok refl (log_of r)
      (EpochForRetire r slot log epoch) refl refl
  event_stands (RetireCommit r slot log) a b ok = absurd (cc)
  event_stands (ReplyExchange r reply) a b ok = before_step r (micros.ReplyExchange reply) ok refl (log_of r)
      (ReplyExchange r reply) refl refl
  event_stands (ReadReply request reply) a b ok = stands_with c w old x stands (after w (ReadReply request reply))
      stands.open_section.used (w.section (x.descriptor)) refl stands.open_section.undone stands.next
  event_stands (ReadStamp request stamp) a b ok = stands_with c w old x stands (after w (ReadStamp request stamp))
      stands.open_section.used (w.section (x.descriptor)) refl stands.open_section.undone stands.next

  -- the commit of another Retire
  pub retire_stands : (r t log : ℕ) → Enabled c w (RetireCommit r t log) → ((w.run r).descriptor ≡ x.descriptor → log ≡ x.index → ⊥)
      → StandsAt (after w (RetireCommit r t log)) x
  retire_stands r t log ok other = run_stands c w old x stands r ok.running (agreed_log r log (suc t))
      (λ e at. other e (index_of t log x.slot x.index (sym ok.next ∙ at_retire c w old x stands r e at)))
      (after w (RetireCommit r t log)) stands.open_section.used refl
    where
      index_of : (t log t' log' : ℕ) → micros.RetireCommit t log ≡ micros.RetireCommit t' log' → log ≡ log'
      index_of t log t' log' e = cc

  -- a publication
  pub publish_stands : (d lock word request : ℕ) (code : ℕ → Micro) (slot : ℕ → ℕ) → w.used d ≡ false
      → StandsAt (after w (Publish d lock word request code slot)) x
  publish_stands d lock word request code slot unused = other_stands c w old x stands (after w (Publish d lock word request code slot))
      (upd_other w.used d (x.descriptor) true (λ e. unused_other d unused (sym e)) ∙ stands.open_section.used) d _
      (unused_other d unused) refl
