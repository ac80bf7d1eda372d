-- Which places of a section's line an event of agreement passes: none but that of the run's step.
use Rattle.std.proofs.Common.{◌≡◌, ◌≢◌, ℕ, suc, ◌<◌, Bool, true, false, cond, refl, sym, ap, ◌∙◌, subst, ⊎_elim, arith}
use Rattle.std.specs.Prelude.{nat_lt}
use Rattle.std.proofs.lemmas.Bool.{cases_eq, cases_lt}
use Rattle.epoch_core.specs.small_lemmas.proofs.Numbers.{later_edge as late_edge, last_or_before as last}
use Rattle.agreement_core.specs.body_terms.specs.Update.{upd}
use Rattle.agreement_core.specs.body_terms.specs.Run.{written_once}
use Rattle.agreement_core.specs.body_terms.specs.declared.micro.Micro.{Micro}
use Rattle.agreement_core.specs.body_terms.specs.declared.micro.Micro.TheVariants as micros
use Rattle.agreement_core.specs.section_lines.specs.structure_laws.proofs.Changes.{upd_same, upd_other}
use Rattle.agreement_core.specs.State.{CellRules, Section, AgreementState}
use Rattle.agreement_core.specs.Checks.{came}
use Rattle.agreement_core.specs.Events.{Event, Enabled, after, IsBefore}
use Rattle.agreement_core.specs.Events.{Publish, RetireDescriptor, Free, StoreLog, StoreDone, Read, Open, Pass, SetDone, Release, Finish, LoadCell, Commit, NestedLoad, NestedCommit, NestedHold, OutcomeLoad, OutcomeCommit, PrivateLoad, PrivateStore, MakeCommit, ClockLoad, StampExchange, ClockRaise, ExchangeCell, EpochForRetire, RetireCommit, ReplyExchange, ReadReply, ReadStamp}
use Rattle.agreement_core.specs.Sound.{IsSound}
use Rattle.machine_scenes.specs.Kinds.{is_publication, is_retire_commit}
use Rattle.machine_scenes.specs.Kept.{RetiresNodes}
use Rattle.machine_scenes.proofs.Standing.{is_retire, no_pass}

lead_edge : (edge n : ℕ) → n ≡ edge → cond (nat_lt edge (suc n)) (suc n) edge ≡ suc edge
lead_edge edge n e = grind arith

module _ (c : CellRules) (w : AgreementState) (old : IsSound c w) (nodes : ℕ) (retired : RetiresNodes nodes w) where
  -- a section that is published as it was
  kept : (used : ℕ → Bool) (section : ℕ → Section) → ((d : ℕ) → used d ≡ true → w.used d ≡ true)
      → ((d : ℕ) → used d ≡ true → ((section d).code ≡ (w.section d).code) × ((section d).edge ≡ (w.section d).edge))
      → (d i t log : ℕ) → used d ≡ true → i < (section d).edge → (section d).code i ≡ micros.RetireCommit t log → t < nodes
  kept used section was same d i t log is low here =
      let this = same d is in
      retired d i t log (was d is) (subst (λ n. i < n) this.1 low) (ap (λ (f : ℕ → Micro). f i) (sym this.0) ∙ here)

  -- one section changes that isn't published
  unused : (d : ℕ) (s' : Section) → w.used d ≡ false → (e i t log : ℕ) → w.used e ≡ true → i < (upd w.section d s' e).edge
      → (upd w.section d s' e).code i ≡ micros.RetireCommit t log → t < nodes
  unused d s' none = kept w.used (upd w.section d s') (λ e is. is)
      (λ e is. let ne : e ≢ d = (λ same. not_both is (ap w.used same ∙ none)) in
      (ap (λ (s : Section). s.code) (upd_other w.section d e s' ne), ap (λ (s : Section). s.edge) (upd_other w.section d e s' ne)))
    where
      not_both : {b : Bool} → b ≡ true → b ≡ false → ⊥
      not_both e e' = cc

  -- a run comes one place further, behind a step that is no commit of a Retire but of a node slot
  further : (r : ℕ) → (w.run r).running ≡ true → (log' : ℕ → ℕ)
      → ((t log : ℕ) → (w.section ((w.run r).descriptor)).code ((w.run r).at) ≡ micros.RetireCommit t log → t < nodes)
      → (d i t log : ℕ) → w.used d ≡ true
      → i < (upd w.section ((w.run r).descriptor)
      (came (record (w.section ((w.run r).descriptor)) { log = log' }) (suc ((w.run r).at))) d).edge
      → (upd w.section ((w.run r).descriptor) (came (record (w.section ((w.run r).descriptor)) { log = log' }) (suc ((w.run r).at)))
      d).code i ≡ micros.RetireCommit t log → t < nodes
  further r running log' this d i t log used low here = ⊎_elim
      (λ same. let is = upd_same w.section own d new same in
      in_own (subst (λ n. i < n) (ap (λ (s : Section). s.edge) is) low) (ap (λ (s : Section). s.code i) (sym is) ∙ here))
      (λ ne. let is = upd_other w.section own d new ne in
      retired d i t log used (subst (λ n. i < n) (ap (λ (s : Section). s.edge) is) low) (ap (λ (s : Section). s.code i) (sym is) ∙ here))
      (cases_eq d own)
    where
      own : ℕ
      own = (w.run r).descriptor

      s : Section
      s = w.section own

      new : Section
      new = came (record s { log = log' }) (suc ((w.run r).at))

      in_own : i < cond (nat_lt s.edge (suc ((w.run r).at))) (suc ((w.run r).at)) s.edge → s.code i ≡ micros.RetireCommit t log → t < nodes
      in_own low here = ⊎_elim
          (λ lt. retired own i t log (old.running_used r running) (subst (λ n. i < n) (late_edge s.edge ((w.run r).at) lt) low) here)
          (λ le. let at : (w.run r).at ≡ s.edge = (let most = (old.runs r running).in_trail.behind in omega arith) in ⊎_elim
          (λ lt. retired own i t log (old.running_used r running) lt here)
          (λ edge. this t log (ap s.code (at ∙ sym edge) ∙ here))
          (last i s.edge (subst (λ n. i < n) (lead_edge s.edge ((w.run r).at) at) low)))
          (cases_lt ((w.run r).at) s.edge)

  no_commit : {x : Micro} {t log : ℕ} {A : Type 0} → is_retire x ≡ false → x ≡ micros.RetireCommit t log → A
  no_commit none e = absurd (cc)

  step : (r : ℕ) → (w.run r).running ≡ true → (log' : ℕ → ℕ) → is_retire ((w.section ((w.run r).descriptor)).code ((w.run r).at)) ≡ false
      → (d i t log : ℕ) → w.used d ≡ true
      → i < (upd w.section ((w.run r).descriptor)
      (came (record (w.section ((w.run r).descriptor)) { log = log' }) (suc ((w.run r).at))) d).edge
      → (upd w.section ((w.run r).descriptor) (came (record (w.section ((w.run r).descriptor)) { log = log' }) (suc ((w.run r).at)))
      d).code i ≡ micros.RetireCommit t log → t < nodes
  step r running log' none = further r running log' (λ t log is. no_commit none is)

  before : (r : ℕ) (x : Micro) → IsBefore w r x → is_retire x ≡ false → (log' : ℕ → ℕ)
      → (d i t log : ℕ) → w.used d ≡ true
      → i < (upd w.section ((w.run r).descriptor)
      (came (record (w.section ((w.run r).descriptor)) { log = log' }) (suc ((w.run r).at))) d).edge
      → (upd w.section ((w.run r).descriptor) (came (record (w.section ((w.run r).descriptor)) { log = log' }) (suc ((w.run r).at)))
      d).code i ≡ micros.RetireCommit t log → t < nodes
  before r x is none log' = step r is.running log' (ap is_retire is.next ∙ none)

  abbrev log_of : ℕ → ℕ → ℕ
  log_of r = (w.section ((w.run r).descriptor)).log

  abbrev agreed_log : ℕ → ℕ → ℕ → ℕ → ℕ
  agreed_log r log proposal = upd (log_of r) log (written_once (log_of r log) proposal)

  pub event_retires : (v : Event) → is_publication v ≡ false → is_retire_commit v ≡ false → Enabled c w v → RetiresNodes nodes (after w v)
  event_retires (Publish d lock word request code slot) a b ok = absurd (cc)
  event_retires (RetireDescriptor d) a b ok = retired
  event_retires (Free d) a b ok = kept (upd w.used d false) w.section (λ e is. was e is) (λ e is. (refl, refl))
    where
      was : (e : ℕ) → upd w.used d false e ≡ true → w.used e ≡ true
      was e is = ⊎_elim (λ same. absurd (not_both (sym (upd_same w.used d e false same) ∙ is)))
          (λ ne. sym (upd_other w.used d e false ne) ∙ is) (cases_eq e d)
        where
          not_both : false ≡ true → ⊥
          not_both e = cc
  event_retires (StoreLog d log word) a b ok = unused d _ ok
  event_retires (StoreDone d word) a b ok = unused d _ ok
  event_retires (Read place) a b ok = retired
  event_retires (Open r d) a b ok = retired
  event_retires (Pass r) a b ok = step r ok.0 (log_of r) (no_pass c ((w.run r).descriptor) ((w.run r).trail) _ ok.2)
  event_retires (SetDone r) a b ok = kept w.used
      (upd w.section own (record (w.section own) { done = written_once ((w.section own).done) 1 })) (λ e is. is) (λ e is. same e)
    where
      own : ℕ
      own = (w.run r).descriptor

      same : (e : ℕ) → ((upd w.section own (record (w.section own) { done = written_once ((w.section own).done) 1 }) e).code
          ≡ (w.section e).code)
          × ((upd w.section own (record (w.section own) { done = written_once ((w.section own).done) 1 }) e).edge ≡ (w.section e).edge)
      same e = ⊎_elim
          (λ q. let is = upd_same w.section own e (record (w.section own) { done = written_once ((w.section own).done) 1 }) q in (
            ap (λ (s : Section). s.code) is ∙ ap (λ n. (w.section n).code) (sym q),
            ap (λ (s : Section). s.edge) is
                ∙ ap (λ n. (w.section n).edge) (sym q),
          ))
          (λ ne. let is = upd_other w.section own e (record (w.section own) { done = written_once ((w.section own).done) 1 }) ne in
          (ap (λ (s : Section). s.code) is, ap (λ (s : Section). s.edge) is)) (cases_eq e own)
  event_retires (Release r place word) a b ok = retired
  event_retires (Finish r) a b ok = retired
  event_retires (LoadCell r place log) a b ok = before r (micros.LoadCell place log) ok.0 refl (log_of r)
  event_retires (Commit r place log) a b ok = before r (micros.Commit place log) ok refl (agreed_log r log ((w.run r).word))
  event_retires (NestedLoad r place log) a b ok = before r (micros.NestedLoad place log) ok refl (log_of r)
  event_retires (NestedCommit r place log) a b ok = before r (micros.NestedCommit place log) ok refl (agreed_log r log ((w.run r).word))
  event_retires (NestedHold r place word) a b ok = before r (micros.NestedHold place word) ok refl (log_of r)
  event_retires (OutcomeLoad r place log) a b ok = before r (micros.OutcomeLoad place log) ok refl (log_of r)
  event_retires (OutcomeCommit r place log) a b ok = before r (micros.OutcomeCommit place log) ok refl (agreed_log r log ((w.run r).word))
  event_retires (PrivateLoad r cell log place) a b ok = before r (micros.PrivateLoad cell log) ok refl (log_of r)
  event_retires (PrivateStore r cell log value place word) a b ok = before r (micros.PrivateStore cell log value) ok.0 refl (log_of r)
  event_retires (MakeCommit r log proposal) a b ok = before r (micros.MakeCommit log) ok.0 refl (agreed_log r log proposal)
  event_retires (ClockLoad r) a b ok = before r micros.ClockLoad ok refl (log_of r)
  event_retires (StampExchange r) a b ok = before r micros.StampExchange ok refl (log_of r)
  event_retires (ClockRaise r) a b ok = before r micros.ClockRaise ok refl (log_of r)
  event_retires (ExchangeCell r place log value) a b ok = before r (micros.ExchangeCell place log value) ok refl (log_of r)
  event_retires (EpochForRetire r slot log epoch) a b ok = before r (micros.EpochForRetire slot log) ok refl (log_of r)
  event_retires (RetireCommit r slot log) a b ok = absurd (cc)
  event_retires (ReplyExchange r reply) a b ok = before r (micros.ReplyExchange reply) ok refl (log_of r)
  event_retires (ReadReply request reply) a b ok = retired
  event_retires (ReadStamp request stamp) a b ok = retired

  -- the commit of a Retire of a node slot
  pub commit_retires : (r t log : ℕ) → t < nodes → Enabled c w (RetireCommit r t log) → RetiresNodes nodes (after w (RetireCommit r t log))
  commit_retires r t log low ok = further r ok.running (agreed_log r log (suc t))
      (λ t' log' is. subst (λ n. n < nodes) (slot_of t log t' log' (sym ok.next ∙ is)) low)
    where
      slot_of : (t log t' log' : ℕ) → micros.RetireCommit t log ≡ micros.RetireCommit t' log' → t ≡ t'
      slot_of t log t' log' e = cc

  -- a publication
  pub publish_retires : (d lock word request : ℕ) (code : ℕ → Micro) (slot : ℕ → ℕ)
      → RetiresNodes nodes (after w (Publish d lock word request code slot))
  publish_retires d lock word request code slot e i t log used low here = ⊎_elim
      (λ same. absurd (let none : i < 0 = subst (λ n. i < n) (ap (λ (s : Section). s.edge) (upd_same w.section d e new same)) low in
      omega arith))
      (λ ne. retired e i t log (sym (upd_other w.used d e true ne) ∙ used)
      (subst (λ n. i < n) (ap (λ (s : Section). s.edge) (upd_other w.section d e new ne)) low)
      (ap (λ (s : Section). s.code i) (sym (upd_other w.section d e new ne)) ∙ here))
      (cases_eq e d)
    where
      new : Section
      new = record (w.section d) { lock = lock; word = word; request = request; code = code; slot = slot; log = λ k. 0; edge = 0 }
