-- What each event of agreement leaves of the links.
use Rattle.std.proofs.Common.{◌≡◌, ℕ, true, refl, sym, ap, subst}
use Rattle.std.specs.Prelude.{Option}
use Rattle.agreement_core.specs.body_terms.specs.Update.{upd}
use Rattle.agreement_core.specs.body_terms.specs.Word.{held_word, next_word}
use Rattle.agreement_core.specs.body_terms.specs.Line.{is_event}
use Rattle.agreement_core.specs.body_terms.specs.declared.micro.Source.{Source}
use Rattle.agreement_core.specs.body_terms.specs.declared.micro.Micro.TheVariants as micros
use Rattle.agreement_core.specs.table_words.specs.declared.layout.Layout.{Layout}
use Rattle.agreement_core.specs.table_words.specs.Limits.{IsWithinLimits}
use Rattle.agreement_core.specs.section_lines.specs.structure_laws.specs.Scene.{Readings, Status}
use Rattle.agreement_core.specs.section_lines.specs.structure_laws.specs.Scene as scenes
use Rattle.agreement_core.specs.section_lines.specs.structure_laws.specs.Meaning.{Meaning}
use Rattle.agreement_core.specs.section_lines.specs.structure_laws.specs.Laws.{Laws}
use Rattle.agreement_core.specs.State.{AgreementState}
use Rattle.agreement_core.specs.Checks.{exchanged, stored_word}
use Rattle.agreement_core.specs.Events.{Event, Enabled, after, IsBefore}
use Rattle.agreement_core.specs.Events.{Publish, Release, NestedHold, PrivateStore, MakeCommit, ExchangeCell, RetireCommit}
use Rattle.agreement_core.specs.Sound.{IsSound}
use Rattle.agreement_core.proofs.Lines.{hold_lock}
use Rattle.agreement_core.proofs.Releasing.{taken_lock}
use Rattle.machine_scenes.specs.Shown.{Publications, AreOfThunks, rules_of}
use Rattle.machine_scenes.specs.Kinds.{is_plain}
use Rattle.machine_scenes.specs.Cells.{LeavesLinks}
use Rattle.machine_scenes.proofs.Shown.{shown}
use Rattle.machine_scenes.proofs.Running.{by_place, event_open, here}
use Rattle.machine_scenes.proofs.RunSteps.{scene, Lawful, late_store, store_at, store_word}
use Rattle.machine_scenes.proofs.SlotSteps.{at_now}
use Rattle.machine_scenes.proofs.Links.{same_leaves, exchange_leaves, store_leaves}

module _ (m : Meaning) (laws : Laws m) (layout : Layout) (limits : IsWithinLimits layout) (p : Publications)
    (epoch : ℕ) (status : ℕ → Status) (reader : ℕ → Option Readings) (w : AgreementState) (old : IsSound (rules_of m layout) w)
    (of_thunks : AreOfThunks m p w)
    (lawful : Lawful m laws layout limits p epoch status reader w.shared.cells (λ d. shown m p w.used w.section d)) where
  abbrev now : scenes.Scene
  now = scene m laws layout limits p epoch status reader w.shared.cells (λ d. shown m p w.used w.section d)

  abbrev Leaves : (ℕ → ℕ) → Type 0
  Leaves cells = LeavesLinks m now cells

  same : Leaves w.shared.cells
  same = same_leaves m laws layout limits now lawful w.shared.cells refl

  store : (r place log : ℕ) (value : Source) → IsBefore w r (micros.ExchangeCell place log value)
      → Leaves (upd w.shared.cells place (exchanged (w.shared.cells place) ((w.run r).trail log) (stored_word ((w.run r).trail) log value)))
  store r place log value ok = by_place m layout p w old of_thunks r ok.running ok.going
      (λ lt. same_leaves m laws layout limits now lawful
      (upd w.shared.cells place (exchanged (w.shared.cells place) ((w.run r).trail log) (stored_word ((w.run r).trail) log value)))
      (late_store m laws layout limits p epoch status reader w old of_thunks lawful r ok.running ok.going place log value ok.next lt))
      (λ at.
      let un = event_open m layout p w old of_thunks r ok.running ok.going (ap is_event ok.next) at in
      let step = store_at m laws layout limits p epoch status reader w old of_thunks lawful r ok.running ok.going place log value ok.next
      at un in
      subst (λ n. Leaves (upd w.shared.cells place n))
      (sym (store_word m laws layout limits p epoch status reader w old of_thunks lawful r ok.running ok.going place log value
      ok.next at un))
      (store_leaves m laws layout limits now lawful ((w.run r).descriptor) step.load place step.reg
      (at_now m laws layout limits p epoch status reader w old of_thunks lawful r ok.running ok.going) step.value
      (here m layout p w old of_thunks r ok.running ok.going un) step.here step.loads))

  pub plain_leaves : (v : Event) → is_plain v ≡ true → Enabled (rules_of m layout) w v → Leaves ((after w v).shared.cells)
  plain_leaves (Publish d lock word request code slot) plain ok = absurd (cc)
  plain_leaves (PrivateStore r cell log value place word) plain ok = absurd (cc)
  plain_leaves (MakeCommit r log proposal) plain ok = absurd (cc)
  plain_leaves (RetireCommit r slot log) plain ok = absurd (cc)
  plain_leaves (Release r place word) plain ok =
      exchange_leaves m laws layout limits now lawful place (held_word ((w.run r).descriptor) word)
      (next_word (held_word ((w.run r).descriptor) word) 0)
      (taken_lock (rules_of m layout) ((w.run r).descriptor) (w.section ((w.run r).descriptor))
      (old.sections ((w.run r).descriptor) (old.running_used r ok.0)).published ((w.run r).at) place word ok.2)
  plain_leaves (NestedHold r place word) plain ok =
      let s = w.section ((w.run r).descriptor) in
      exchange_leaves m laws layout limits now lawful place word (held_word ((w.run r).descriptor) word)
      (hold_lock (rules_of m layout) s.lock s.code s.slot
      (old.sections ((w.run r).descriptor) (old.running_used r ok.running)).published.line ((w.run r).at) place word ok.next)
  plain_leaves (ExchangeCell r place log value) plain ok = store r place log value ok
  plain_leaves v plain ok = same
