-- Each event raises versions by one at most.
use Rattle.std.proofs.Common.{◌≡◌, ℕ, suc, refl, sym, ap, ◌∙◌, inl, inr, ⊎_elim, arith}
use Rattle.std.proofs.lemmas.Bool.{cases_eq}
use Rattle.std.specs.Prelude.{◌⊎◌}
use Rattle.section_lines.specs.structure_laws.specs.body_terms.specs.Update.{upd}
use Rattle.section_lines.specs.structure_laws.specs.body_terms.specs.Word.{version_of, held_word}
use Rattle.agreement_core.specs.State.{CellRules, AgreementState, section_of}
use Rattle.agreement_core.specs.Checks.{exchanged}
use Rattle.agreement_core.specs.Events.{Event, Enabled, after}
use Rattle.agreement_core.specs.Events.{Publish, RetireDescriptor, Free, StoreLog, StoreDone, Read, Open, Pass, SetDone, Release, Finish, LoadCell, Commit, NestedLoad, NestedCommit, NestedHold, OutcomeLoad, OutcomeCommit, PrivateLoad, PrivateStore, MakeCommit, ClockLoad, StampExchange, ClockRaise, ExchangeCell, EpochForRetire, RetireCommit, ReplyExchange, ReadReply, ReadStamp}
use Rattle.agreement_core.specs.Sound.{IsSound}
use Rattle.agreement_core.specs.Rising.{RiseByOne}
use Rattle.agreement_core.proofs.Committing.{upd_here, upd_else}
use Rattle.agreement_core.proofs.Changing.{exchange_wins, exchange_fails}
use Rattle.agreement_core.proofs.Words.{version_held, version_next}
use Rattle.agreement_core.proofs.Lines.{version_stored}

-- one cell changes, and its version rises by one
put_rises : (cells : ℕ → ℕ) (place new : ℕ) → (new ≡ cells place) ⊎ (version_of new ≡ suc (version_of (cells place))) → (p : ℕ)
    → (upd cells place new p ≡ cells p) ⊎ (version_of (upd cells place new p) ≡ suc (version_of (cells p)))
put_rises cells place new h p = ⊎_elim
    (λ e. ⊎_elim (λ same. inl (ap (upd cells place new) e ∙ upd_here cells place new ∙ same ∙ ap cells (sym e)))
    (λ up. inr (ap version_of (ap (upd cells place new) e ∙ upd_here cells place new) ∙ up ∙ ap
    (λ n. suc (version_of (cells n))) (sym e))) h)
    (λ ne. inl (upd_else cells place p new ne)) (cases_eq p place)

-- an exchange to a word with the next version
exchange_rises : (cells : ℕ → ℕ) (place old new : ℕ) → version_of new ≡ suc (version_of old)
    → (exchanged (cells place) old new ≡ cells place) ⊎ (version_of (exchanged (cells place) old new) ≡ suc (version_of (cells place)))
exchange_rises cells place old new up = ⊎_elim
    (λ e. inr (ap version_of (exchange_wins _ _ _ e) ∙ up ∙ ap (λ n. suc (version_of n)) (sym e)))
    (λ ne. inl (exchange_fails _ _ _ ne)) (cases_eq (cells place) old)

module _ (c : CellRules) where
  pub rises : (w : AgreementState) (e : Event) → Enabled c w e → IsSound c w → RiseByOne w (after w e)
  rises w (Publish d lock word request code slot) ok old = put_rises w.shared.cells lock (held_word d word)
      (inr (version_held d word ok.2.link ∙ ap (λ n. suc (version_of n)) (sym ok.1)))
  rises w (RetireDescriptor d) ok old = λ p. inl refl
  rises w (Free d) ok old = λ p. inl refl
  rises w (StoreLog d log word) ok old = λ p. inl refl
  rises w (StoreDone d word) ok old = λ p. inl refl
  rises w (Read place) ok old = λ p. inl refl
  rises w (Open r d) ok old = λ p. inl refl
  rises w (Pass r) ok old = λ p. inl refl
  rises w (SetDone r) ok old = λ p. inl refl
  rises w (Release r place word) ok old = put_rises w.shared.cells place _
      (exchange_rises w.shared.cells place (held_word ((w.run r).descriptor) word) _
      (version_next (held_word ((w.run r).descriptor) word) 0 (omega arith)))
  rises w (Finish r) ok old = λ p. inl refl
  rises w (LoadCell r place log) ok old = λ p. inl refl
  rises w (Commit r place log) ok old = λ p. inl refl
  rises w (NestedLoad r place log) ok old = λ p. inl refl
  rises w (NestedCommit r place log) ok old = λ p. inl refl
  rises w (NestedHold r place word) ok old = put_rises w.shared.cells place _
      (exchange_rises w.shared.cells place word _ (version_held ((w.run r).descriptor) word
      (old.sections _ (old.running_used r ok.running)).published.link))
  rises w (OutcomeLoad r place log) ok old = λ p. inl refl
  rises w (OutcomeCommit r place log) ok old = λ p. inl refl
  rises w (PrivateLoad r cell log place) ok old = λ p. inl refl
  rises w (PrivateStore r cell log value place word) ok old = put_rises w.shared.cells place word (inr ok.1.rises)
  rises w (MakeCommit r log proposal) ok old = λ p. inl refl
  rises w (ClockLoad r) ok old = λ p. inl refl
  rises w (StampExchange r) ok old = λ p. inl refl
  rises w (ClockRaise r) ok old = λ p. inl refl
  rises w (ExchangeCell r place log value) ok old =
      let s = section_of w r in
      let o = (old.sections _ (old.running_used r ok.running)).published in
      put_rises w.shared.cells place _ (exchange_rises w.shared.cells place ((w.run r).trail log) _
      (version_stored c s.lock s.code s.slot o.line o.whole ((w.run r).at) place log value ((w.run r).trail) ok.next))
  rises w (EpochForRetire r slot log epoch) ok old = λ p. inl refl
  rises w (RetireCommit r slot log) ok old = λ p. inl refl
  rises w (ReplyExchange r reply) ok old = λ p. inl refl
  rises w (ReadReply request reply) ok old = λ p. inl refl
  rises w (ReadStamp request stamp) ok old = λ p. inl refl
