-- Each event of agreement that changes nothing of the slots leads from a lawful scene to a lawful scene.
use Rattle.std.proofs.Common.{◌≡◌, ◌≢◌, ℕ, suc, Bool, true, false, refl, sym, ap, ◌∙◌, subst, ⊎_elim, arith}
use Rattle.std.specs.Prelude.{Option, None}
use Rattle.std.proofs.lemmas.Bool.{cases_eq, both_ways}
use mathlib.Core.Path.{fun_ext}
use Rattle.agreement_core.specs.body_terms.specs.Update.{upd}
use Rattle.agreement_core.specs.body_terms.specs.Line.{is_event}
use Rattle.agreement_core.specs.body_terms.specs.Run.{written_once}
use Rattle.agreement_core.specs.body_terms.specs.declared.micro.Micro.{Micro}
use Rattle.agreement_core.specs.body_terms.specs.declared.micro.Micro.TheVariants as micros
use Rattle.agreement_core.specs.table_words.specs.declared.layout.Layout.{Layout}
use Rattle.agreement_core.specs.table_words.specs.Limits.{IsWithinLimits}
use Rattle.agreement_core.specs.section_lines.specs.structure_laws.specs.Scene.{Readings, Status}
use Rattle.agreement_core.specs.section_lines.specs.structure_laws.specs.Scene as scenes
use Rattle.agreement_core.specs.section_lines.specs.structure_laws.specs.Meaning.{Meaning}
use Rattle.agreement_core.specs.section_lines.specs.structure_laws.specs.Laws.{Laws}
use Rattle.agreement_core.specs.section_lines.proofs.Moves.{is_within}
use Rattle.agreement_core.specs.State.{CellRules, Section, AgreementState}
use Rattle.agreement_core.specs.Checks.{is_stop, came}
use Rattle.agreement_core.specs.Events.{Event, Enabled, after, IsBefore, step_of}
use Rattle.agreement_core.specs.Events.{Publish, RetireDescriptor, Free, StoreLog, StoreDone, Read, Open, Pass, SetDone, Release, Finish, LoadCell, Commit, NestedLoad, NestedCommit, NestedHold, OutcomeLoad, OutcomeCommit, PrivateLoad, PrivateStore, MakeCommit, ClockLoad, StampExchange, ClockRaise, ExchangeCell, EpochForRetire, RetireCommit, ReplyExchange, ReadReply, ReadStamp}
use Rattle.agreement_core.specs.Sound.{IsSound}
use Rattle.agreement_core.proofs.LineSteps.{pass_checks}
use Rattle.agreement_core.proofs.Keeping.{keeps}
use Rattle.agreement_core.specs.section_lines.specs.structure_laws.proofs.Changes.{upd_same, upd_other}
use Rattle.machine_scenes.specs.Shown.{Publications, AreOfThunks, rules_of, section_of}
use Rattle.machine_scenes.specs.Kinds.{is_plain}
use Rattle.machine_scenes.proofs.Shown.{shown, shown_same, shown_unused, shown_done}
use Rattle.machine_scenes.proofs.Running.{event_open}
use Rattle.machine_scenes.proofs.RunSteps.{Lawful, with_sections, within_lawful, commit_lawful, nested_commit_lawful, outcome_commit_lawful, stamp_lawful, answer_lawful, check_lawful, nested_hold_lawful, release_lawful, store_lawful, done_lawful}

-- where a run stops, its section's log stops it
pub stops_of : (c : CellRules) (w : AgreementState) → IsSound c w → (r : ℕ) → Enabled c w (SetDone r)
    → is_stop c ((w.run r).descriptor) ((w.section ((w.run r).descriptor)).log)
    ((w.section ((w.run r).descriptor)).code ((w.section ((w.run r).descriptor)).edge)) ≡ true
stops_of c w old r ok =
    let d = (w.run r).descriptor in
    let s' : Section = record (w.section d) { done = written_once ((w.section d).done) 1 } in
    let next = (keeps c w (SetDone r) ok old).sections d (old.running_used r ok.0) in
    subst (λ (x : Section). x.done ≢ 0 → is_stop c d x.log (x.code x.edge) ≡ true)
    (upd_same w.section d d s' refl) next.section.in_log.stops (some_done ((w.section d).done))
  where
    some_done : (n : ℕ) → written_once n 1 ≢ 0
    some_done n e = grind arith

module _ (m : Meaning) (laws : Laws m) (layout : Layout) (limits : IsWithinLimits layout) (p : Publications)
    (epoch : ℕ) (status : ℕ → Status) (reader : ℕ → Option Readings) where
  abbrev c : CellRules
  c = rules_of m layout

  abbrev all : AgreementState → ℕ → Option scenes.Section
  all w i = shown m p w.used w.section i

  abbrev pub IsLawfulAt : AgreementState → Type 0
  IsLawfulAt w = Lawful m laws layout limits p epoch status reader w.shared.cells (all w)

  module _ (w : AgreementState) (old : IsSound c w) (of_thunks : AreOfThunks m p w) (lawful : IsLawfulAt w) where
    -- a section changes that isn't published
    unused_lawful : (d : ℕ) (x : Section) → w.used d ≡ false
        → Lawful m laws layout limits p epoch status reader w.shared.cells (λ i. shown m p w.used (upd w.section d x) i)
    unused_lawful d x unused = with_sections m laws layout limits p epoch status reader w.shared.cells
        (λ i. shown m p w.used (upd w.section d x) i) (all w)
        (shown_same m p w.used w.section d x (shown_unused m p d (w.used d) x unused
        ∙ sym (shown_unused m p d (w.used d) (w.section d) unused))) lawful

    -- a retired descriptor's section isn't shown, so that nothing changes where it is free again
    free_lawful : (d : ℕ) → w.live d ≡ false → IsLawfulAt (after w (Free d))
    free_lawful d retired = with_sections m laws layout limits p epoch status reader w.shared.cells (all (after w (Free d))) (all w)
        (fun_ext at) lawful
      where
        closed : (b : Bool) → w.used d ≡ b → all w d ≡ None
        closed true is = shown_done m p d (w.used d) (w.section d) (λ un. both_ways _ retired ((old.sections d is).open_live un))
        closed false is = shown_unused m p d (w.used d) (w.section d) is

        at : (i : ℕ) → all (after w (Free d)) i ≡ all w i
        at i = ⊎_elim
            (λ e. shown_unused m p i (upd w.used d false i) (w.section i) (upd_same w.used d i false e)
            ∙ (sym (closed (w.used d) refl) ∙ ap (all w) (sym e)))
            (λ ne. ap (λ b. section_of m p i b (w.section i)) (upd_other w.used d i false ne)) (cases_eq i d)

    -- a step within a step of the body
    within : (r : ℕ) (x : Micro) → IsBefore w r x → is_within x ≡ true → is_event x ≡ true
        → Lawful m laws layout limits p epoch status reader w.shared.cells
        (λ i. shown m p w.used (upd w.section ((w.run r).descriptor) (came (w.section ((w.run r).descriptor)) (suc ((w.run r).at)))) i)
    within r x before is event = within_lawful m laws layout limits p epoch status reader w old of_thunks lawful r before.running
        before.going x before.next is
        (event_open m layout p w old of_thunks r before.running before.going (ap is_event before.next ∙ event))

    pub plain_lawful : (e : Event) → is_plain e ≡ true → Enabled c w e → IsLawfulAt (after w e)
    plain_lawful (Publish d lock word request code slot) plain ok = absurd (cc)
    plain_lawful (RetireDescriptor d) plain ok = lawful
    plain_lawful (Free d) plain ok = free_lawful d ok.0
    plain_lawful (StoreLog d log word) plain ok = unused_lawful d _ ok
    plain_lawful (StoreDone d word) plain ok = unused_lawful d _ ok
    plain_lawful (Read place) plain ok = lawful
    plain_lawful (Open r d) plain ok = lawful
    plain_lawful (Pass r) plain ok = check_lawful m laws layout limits p epoch status reader w old of_thunks lawful r ok.0 ok.1
        (step_of w r) refl ok.2
        (pass_checks c ((w.run r).descriptor) ((w.run r).trail) (step_of w r) ok.2)
    plain_lawful (SetDone r) plain ok = done_lawful m laws layout limits p epoch status reader w old of_thunks lawful r ok.0 ok.1
        (stops_of c w old r ok)
    plain_lawful (Release r place word) plain ok = release_lawful m laws layout limits p epoch status reader w old (all w) lawful
        ((w.run r).descriptor) ((w.run r).at) place word
        (old.running_used r ok.0) ok.2
    plain_lawful (Finish r) plain ok = lawful
    plain_lawful (LoadCell r place log) plain ok = within r (micros.LoadCell place log) ok.0 refl refl
    plain_lawful (Commit r place log) plain ok = commit_lawful m laws layout limits p epoch status reader w old of_thunks lawful r
        ok.running ok.going place log ok.next
    plain_lawful (NestedLoad r place log) plain ok = within r (micros.NestedLoad place log) ok refl refl
    plain_lawful (NestedCommit r place log) plain ok = nested_commit_lawful m laws layout limits p epoch status reader w old of_thunks
        lawful r ok.running ok.going place log ok.next
    plain_lawful (NestedHold r place word) plain ok = nested_hold_lawful m laws layout limits p epoch status reader w old of_thunks
        lawful r ok.running ok.going place word ok.next
    plain_lawful (OutcomeLoad r place log) plain ok = within r (micros.OutcomeLoad place log) ok refl refl
    plain_lawful (OutcomeCommit r place log) plain ok = outcome_commit_lawful m laws layout limits p epoch status reader w old of_thunks
        lawful r ok.running ok.going place log ok.next
    plain_lawful (PrivateLoad r cell log place) plain ok = within r (micros.PrivateLoad cell log) ok refl refl
    plain_lawful (PrivateStore r cell log value place word) plain ok = absurd (cc)
    plain_lawful (MakeCommit r log proposal) plain ok = absurd (cc)
    plain_lawful (ClockLoad r) plain ok = within r micros.ClockLoad ok refl refl
    plain_lawful (StampExchange r) plain ok = within r micros.StampExchange ok refl refl
    plain_lawful (ClockRaise r) plain ok = stamp_lawful m laws layout limits p epoch status reader w old of_thunks lawful r ok.running
        ok.going ok.next
    plain_lawful (ExchangeCell r place log value) plain ok = store_lawful m laws layout limits p epoch status reader w old of_thunks
        lawful r ok.running ok.going place log value ok.next
    plain_lawful (EpochForRetire r slot log epoch) plain ok = within r (micros.EpochForRetire slot log) ok refl refl
    plain_lawful (RetireCommit r slot log) plain ok = absurd (cc)
    plain_lawful (ReplyExchange r reply) plain ok = answer_lawful m laws layout limits p epoch status reader w old of_thunks lawful r
        ok.running ok.going reply ok.next
    plain_lawful (ReadReply request reply) plain ok = lawful
    plain_lawful (ReadStamp request stamp) plain ok = lawful
