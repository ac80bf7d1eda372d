-- What each event of agreement leaves of the published sections: those that are open were open, and each stays that of its thunk.
use Rattle.std.proofs.Common.{◌≡◌, ◌≢◌, ℕ, suc, ◌<◌, Bool, true, false, sym, ap, ◌∙◌, ⊎_elim, arith}
use Rattle.std.proofs.lemmas.Bool.{cases_eq, cases_lt, both_ways}
use Rattle.epoch_core.specs.small_lemmas.proofs.Numbers.{later_edge as late_edge}
use Rattle.agreement_core.specs.body_terms.specs.Update.{upd}
use Rattle.agreement_core.specs.body_terms.specs.declared.micro.Micro.{Micro}
use Rattle.agreement_core.specs.body_terms.specs.declared.micro.Micro.TheVariants as micros
use Rattle.agreement_core.specs.section_lines.specs.structure_laws.specs.Meaning.{Meaning}
use Rattle.agreement_core.specs.section_lines.specs.structure_laws.proofs.Changes.{upd_same, upd_other}
use Rattle.agreement_core.specs.State.{CellRules, Section, AgreementState, IsOpen}
use Rattle.agreement_core.specs.Checks.{passes, is_stop, came}
use Rattle.agreement_core.specs.Events.{Event, Enabled, after}
use Rattle.agreement_core.specs.Events.{Publish, Free}
use Rattle.agreement_core.specs.Sound.{IsSound}
use Rattle.agreement_core.proofs.Continuing.{goes_on_all}
use Rattle.agreement_core.proofs.Frame.{zero_unless}
use Rattle.epoch_core.specs.State.{Retiring}
use Rattle.machine_scenes.specs.Shown.{Publications, AreOfThunks}
use Rattle.machine_scenes.specs.Kinds.{is_publication}
use Rattle.machine_scenes.specs.Kept.{StandsAt}

module _ (c : CellRules) (w : AgreementState) where
  -- but for a publication, what is published was so before
  pub was_used : (v : Event) → is_publication v ≡ false → (d : ℕ) → (after w v).used d ≡ true → w.used d ≡ true
  was_used (Publish d lock word request code slot) other i used = cc
  was_used (Free d) other i used = ⊎_elim (λ e. absurd (both_ways _ (upd_same w.used d i false e) used))
      (λ ne. sym (upd_other w.used d i false ne) ∙ used) (cases_eq i d)
  was_used v other i used = used

  pub was_open : (v : Event) → is_publication v ≡ false → Enabled c w v → (d : ℕ) → IsOpen (after w v) d → IsOpen w d
  was_open v other ok d open_section = record {
    used = was_used v other d open_section.used;
    undone = zero_unless ((w.section d).done)
        (λ ne. ne ((sym ((goes_on_all c w v ok d (was_used v other d open_section.used)).done ne)) ∙ open_section.undone));
  }

  -- each published section stays that of its thunk
  pub thunks_stay : (m : Meaning) (p : Publications) → AreOfThunks m p w → (v : Event) → is_publication v ≡ false → Enabled c w v
      → AreOfThunks m p (after w v)
  thunks_stay m p of_thunks v other ok d used =
      let before = was_used v other d used in let is = of_thunks d before in let goes = goes_on_all c w v ok d before in record {
        lock = goes.lock ∙ is.lock;
        word = goes.word ∙ is.word;
        request = goes.request ∙ is.request;
        code = λ i. ap (λ (f : ℕ → Micro). f i) goes.code ∙ is.code i;
        slot = λ i. ap (λ (f : ℕ → ℕ). f i) goes.slot ∙ is.slot i;
      }

-- the commit of a Retire
abbrev pub is_retire : Micro → Bool
is_retire (micros.RetireCommit slot log) = true
is_retire _ = false

pub no_pass : (c : CellRules) (d : ℕ) (log : ℕ → ℕ) (x : Micro) → passes c d log x ≡ true → is_retire x ≡ false
no_pass c d log (micros.RetireCommit slot k) pass = cc
no_pass c d log x pass = grind arith

pub no_stop : (c : CellRules) (d : ℕ) (log : ℕ → ℕ) (slot k : ℕ) → is_stop c d log (micros.RetireCommit slot k) ≡ true → ⊥
no_stop c d log slot k stop = cc

module _ (c : CellRules) (w : AgreementState) (old : IsSound c w) (x : Retiring) (stands : StandsAt w x) where
  -- it stands where these are its section and whether it is published
  pub stands_with : (w' : AgreementState) → w'.used (x.descriptor) ≡ true → (s' : Section) → w'.section (x.descriptor) ≡ s' → s'.done ≡ 0
      → s'.code s'.edge ≡ micros.RetireCommit x.slot x.index → StandsAt w' x
  stands_with w' used s' same undone next = record {
    open_section = record { used = used; undone = ap (λ (s : Section). s.done) same ∙ undone };
    next = ap (λ (s : Section). s.code s.edge) same ∙ next;
  }

  -- another section changes
  pub other_stands : (w' : AgreementState) → w'.used (x.descriptor) ≡ true → (d : ℕ) (s' : Section) → d ≢ x.descriptor
      → w'.section (x.descriptor) ≡ upd w.section d s' (x.descriptor) → StandsAt w' x
  other_stands w' used d s' ne same = stands_with w' used (w.section (x.descriptor))
      (same ∙ upd_other w.section d (x.descriptor) s' (λ e. ne (sym e))) stands.open_section.undone stands.next

  -- a run of a section comes one place further, but not of this section from its edge
  pub run_stands : (r : ℕ) → (w.run r).running ≡ true → (log : ℕ → ℕ)
      → ((w.run r).descriptor ≡ x.descriptor → (w.run r).at ≡ (w.section ((w.run r).descriptor)).edge → ⊥) → (w' : AgreementState)
      → w'.used (x.descriptor) ≡ true
      → w'.section (x.descriptor) ≡ upd w.section ((w.run r).descriptor)
      (came (record (w.section ((w.run r).descriptor)) { log = log }) (suc ((w.run r).at))) (x.descriptor) → StandsAt w' x
  run_stands r running log lead w' used same = ⊎_elim
      (λ e. let s = w.section ((w.run r).descriptor) in
      let late : (w.run r).at < s.edge = behind r running (lead e) in
      let this : s ≡ w.section (x.descriptor) = ap w.section e in
      stands_with w' used (came (record s { log = log }) (suc ((w.run r).at)))
      (same ∙ upd_same w.section ((w.run r).descriptor) (x.descriptor) (came (record s { log = log }) (suc ((w.run r).at))) (sym e))
      (ap (λ (s : Section). s.done) this ∙ stands.open_section.undone)
      (ap s.code (late_edge s.edge ((w.run r).at) late) ∙ (ap (λ (s : Section). s.code s.edge) this ∙ stands.next)))
      (λ ne. other_stands w' used ((w.run r).descriptor)
      (came (record (w.section ((w.run r).descriptor)) { log = log }) (suc ((w.run r).at))) ne same)
      (cases_eq ((w.run r).descriptor) (x.descriptor))
    where
      behind : (r : ℕ) → (w.run r).running ≡ true → ((w.run r).at ≡ (w.section ((w.run r).descriptor)).edge → ⊥)
          → (w.run r).at < (w.section ((w.run r).descriptor)).edge
      behind r running ne = ⊎_elim (λ lt. lt) (λ le. absurd (ne (let most = (old.runs r running).in_trail.behind in omega arith)))
          (cases_lt ((w.run r).at) ((w.section ((w.run r).descriptor)).edge))

  -- a run at the edge of this section stands before the Retire's commit
  pub at_retire : (r : ℕ) → (w.run r).descriptor ≡ x.descriptor → (w.run r).at ≡ (w.section ((w.run r).descriptor)).edge
      → (w.section ((w.run r).descriptor)).code ((w.run r).at) ≡ micros.RetireCommit x.slot x.index
  at_retire r e at = ap ((w.section ((w.run r).descriptor)).code) at ∙ (ap (λ d. (w.section d).code ((w.section d).edge)) e ∙ stands.next)

  -- a step of a run that is no commit of a Retire
  pub step_stands : (r : ℕ) → (w.run r).running ≡ true → (log : ℕ → ℕ)
      → is_retire ((w.section ((w.run r).descriptor)).code ((w.run r).at)) ≡ false → (w' : AgreementState) → w'.used (x.descriptor) ≡ true
      → w'.section (x.descriptor) ≡ upd w.section ((w.run r).descriptor)
      (came (record (w.section ((w.run r).descriptor)) { log = log }) (suc ((w.run r).at))) (x.descriptor) → StandsAt w' x
  step_stands r running log no_retire w' used same = run_stands r running log
      (λ e at. both_ways _ no_retire (ap is_retire (at_retire r e at))) w' used same
