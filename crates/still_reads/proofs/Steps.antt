-- Each step of the joint states keeps that what was read behind a free lock stands.
use Rattle.std.proofs.Common.{◌≡◌, ℕ, zero, suc, List, ◌<◌, ◌≤◌, Bool, true, false, refl, sym, ap, ◌∙◌, subst, ⊎_elim, arith}
use Rattle.std.specs.Prelude.{◌++◌, [], ◌∷◌, Option, Some, slice_get}
use Rattle.std.proofs.lemmas.Bool.{cases_eq}
use Rattle.agreement_core.specs.body_terms.specs.Update.{upd}
use Rattle.agreement_core.specs.body_terms.specs.Word.{held_word, is_free}
use Rattle.agreement_core.specs.body_terms.specs.Line.{is_event}
use Rattle.agreement_core.specs.body_terms.specs.declared.micro.Source.{Source}
use Rattle.agreement_core.specs.body_terms.specs.declared.micro.Micro.TheVariants as micros
use Rattle.agreement_core.specs.table_words.specs.declared.layout.Layout.{Layout}
use Rattle.agreement_core.specs.table_words.specs.Limits.{IsWithinLimits}
use Rattle.agreement_core.specs.section_lines.specs.structure_laws.specs.Scene.{Readings, Status}
use Rattle.agreement_core.specs.section_lines.specs.structure_laws.specs.Scene as scenes
use Rattle.agreement_core.specs.section_lines.specs.structure_laws.specs.Meaning.{Meaning}
use Rattle.agreement_core.specs.section_lines.specs.structure_laws.specs.Cells.{cell_of}
use Rattle.agreement_core.specs.section_lines.specs.structure_laws.specs.Laws.{Laws}
use Rattle.agreement_core.specs.section_lines.specs.structure_laws.proofs.Changes.{upd_same, upd_other}
use Rattle.agreement_core.specs.State.{AgreementState}
use Rattle.agreement_core.specs.Checks.{exchanged, stored_word}
use Rattle.agreement_core.specs.Events as agreement
use Rattle.agreement_core.specs.Events.{Event, IsBefore}
use Rattle.agreement_core.specs.Events.{PrivateStore, Release, NestedHold, MakeCommit, ExchangeCell, RetireCommit}
use Rattle.agreement_core.proofs.Lines.{hold_lock}
use Rattle.agreement_core.proofs.Releasing.{taken_lock}
use Rattle.agreement_core.proofs.Rising.{rises}
use Rattle.agreement_core.proofs.Words.{free_value}
use Rattle.epoch_core.specs.declared.stage.Stage.TheVariants as stages
use Rattle.epoch_core.specs.State.{Counts, EpochState, is_entered}
use Rattle.read_answers.specs.Looks.{ReadsStand}
use Rattle.machine_scenes.specs.Shown.{Publications, States, rules_of, reader_of, status_of, scene_of}
use Rattle.machine_scenes.specs.Kinds.{is_plain}
use Rattle.machine_scenes.specs.Steps.{Step, Agreement, Epochs, Enter, Read, Leave, Publish, Fill, Make, LoadEpoch, Retire, after, Enabled}
use Rattle.machine_scenes.specs.Kept.{IsKept}
use Rattle.machine_scenes.proofs.Readers.{entered_reads}
use Rattle.machine_scenes.proofs.Takes.{holder_named}
use Rattle.machine_scenes.proofs.Running.{by_place, event_open, here}
use Rattle.machine_scenes.proofs.RunSteps.{late_store, store_at, store_word}
use Rattle.machine_scenes.proofs.SlotSteps.{at_now}
use Rattle.machine_scenes.proofs.Links.{true_false}
use Rattle.machine_scenes.proofs.Entries.{get_push, was_entered}
use Rattle.machine_scenes.proofs.JointSteps.{hand_status}
use Rattle.still_reads.specs.Standing.{WalksStand, WalksBegin}
use Rattle.still_reads.proofs.Changes.{LeavesReads, FreeAreUnheld, still_stands, same_reads, lock_reads, hand_reads, store_reads}

weaker : (a b : ℕ) → a < b → a ≤ b
weaker a b lt = omega (arith, lt)

-- nothing was read
none_stands : (m : Meaning) (cells : ℕ → ℕ) → ReadsStand m cells []
none_stands m cells i j lock free place word lt at_lock at_place locks frees here plain guards = absurd (cc)

pub walks_begin : (m : Meaning) → WalksBegin m
walks_begin m location p r entered = none_stands m _

-- one more place was read, as it stands
read_stands : (m : Meaning) (cells : ℕ → ℕ) (walk : Readings) (place : ℕ) → ReadsStand m cells walk → ReadsStand m cells (walk ++ (place, cells place) ∷ [])
read_stands m cells walk q old i j lock free place word lt at_lock at_place locks frees here plain guards = ⊎_elim
    (λ earlier. old i j lock free place word lt (first earlier) earlier locks frees here plain guards)
    (λ last. ap cells (sym (ap (λ (x : ℕ × ℕ). x.0) last)) ∙ ap (λ (x : ℕ × ℕ). x.1) last)
    (get_push walk (q, cells q) (place, word) j at_place)
  where
    -- what stands before one of the list is one of the list
    before : {A : Type 0} (xs : List A) (y v w : A) (i j : ℕ) → i < j → slice_get (xs ++ y ∷ []) i ≡ Some v → slice_get xs j ≡ Some w → slice_get xs i ≡ Some v
    before [] y v w i j lt at later = absurd (cc)
    before (x ∷ xs) y v w zero j lt at later = at
    before (x ∷ xs) y v w (suc i) zero lt at later = absurd (omega (arith, lt))
    before (x ∷ xs) y v w (suc i) (suc j) lt at later = before xs y v w i j (omega (arith, lt)) at later

    first : slice_get walk j ≡ Some (place, word) → slice_get walk i ≡ Some (lock, free)
    first earlier = before walk (q, cells q) (lock, free) (place, word) i j lt at_lock earlier

module _ (m : Meaning) (laws : Laws m) (layout : Layout) (limits : IsWithinLimits layout) (c : Counts) (j : States) (kept : IsKept m layout c j) where
  abbrev a : AgreementState
  a = j.agreement

  abbrev e : EpochState
  e = j.epochs

  abbrev p : Publications
  p = j.publications

  abbrev scene : scenes.Scene
  scene = scene_of m c j

  abbrev status : ℕ → Status
  status t = status_of c e.location t

  abbrev reader : ℕ → Option Readings
  reader r = reader_of e j.walk r

  abbrev Leaves : (ℕ → ℕ) → Type 0
  Leaves cells = LeavesReads m scene cells

  -- a lock that an open section holds names the section, so it isn't free
  unheld : FreeAreUnheld m scene
  unheld d l x at holds = by (is_free (a.shared.cells l)) refl
    where
      by : (b : Bool) → is_free (a.shared.cells l) ≡ b → b ≡ false
      by true free = absurd (let none : suc d ≡ 0 = sym (holder_named m layout p a kept.agreement kept.thunks d l x at holds)
          ∙ free_value (a.shared.cells l) free in omega (arith, none))
      by false free = refl

  same : Leaves a.shared.cells
  same = same_reads m laws layout limits scene kept.lawful a.shared.cells refl

  store : (r place log : ℕ) (value : Source) → IsBefore a r (micros.ExchangeCell place log value)
      → Leaves (upd a.shared.cells place (exchanged (a.shared.cells place) ((a.run r).trail log) (stored_word ((a.run r).trail) log value)))
  store r place log value ok = by_place m layout p a kept.agreement kept.thunks r ok.running ok.going
      (λ lt. same_reads m laws layout limits scene kept.lawful
      (upd a.shared.cells place (exchanged (a.shared.cells place) ((a.run r).trail log) (stored_word ((a.run r).trail) log value)))
      (late_store m laws layout limits p e.epoch status reader a kept.agreement kept.thunks kept.lawful r ok.running ok.going place log value ok.next lt))
      (λ at.
      let un = event_open m layout p a kept.agreement kept.thunks r ok.running ok.going (ap is_event ok.next) at in
      let step = store_at m laws layout limits p e.epoch status reader a kept.agreement kept.thunks kept.lawful r ok.running ok.going place log value
      ok.next at un in
      subst (λ n. Leaves (upd a.shared.cells place n))
      (sym (store_word m laws layout limits p e.epoch status reader a kept.agreement kept.thunks kept.lawful r ok.running ok.going place log value
      ok.next at un))
      (store_reads m laws layout limits scene kept.lawful unheld ((a.run r).descriptor) step.load place step.reg
      (at_now m laws layout limits p e.epoch status reader a kept.agreement kept.thunks kept.lawful r ok.running ok.going) step.value
      (here m layout p a kept.agreement kept.thunks r ok.running ok.going un) step.here (weaker _ _ step.earlier) step.loads))

  plain_reads : (v : Event) → is_plain v ≡ true → agreement.Enabled (rules_of m layout) a v → Leaves ((agreement.after a v).shared.cells)
  plain_reads (agreement.Publish d lock word request code slot) plain ok = absurd (cc)
  plain_reads (PrivateStore r cell log value place word) plain ok = absurd (cc)
  plain_reads (MakeCommit r log proposal) plain ok = absurd (cc)
  plain_reads (RetireCommit r slot log) plain ok = absurd (cc)
  plain_reads (Release r place word) plain ok = lock_reads m laws layout limits scene kept.lawful place _
      (taken_lock (rules_of m layout) ((a.run r).descriptor) (a.section ((a.run r).descriptor))
      (kept.agreement.sections ((a.run r).descriptor) (kept.agreement.running_used r ok.0)).published ((a.run r).at) place word ok.2)
  plain_reads (NestedHold r place word) plain ok =
      let s = a.section ((a.run r).descriptor) in
      lock_reads m laws layout limits scene kept.lawful place _
      (hold_lock (rules_of m layout) s.lock s.code s.slot
      (kept.agreement.sections ((a.run r).descriptor) (kept.agreement.running_used r ok.running)).published.line ((a.run r).at) place word ok.next)
  plain_reads (ExchangeCell r place log value) plain ok = store r place log value ok
  plain_reads v plain ok = same

  module _ (stands : WalksStand m j) where
    -- an entered runner's readings stand in cells that change so
    by_cells : (v : Event) → agreement.Enabled (rules_of m layout) a v → Leaves ((agreement.after a v).shared.cells) → (r : ℕ)
        → is_entered (e.stage r) ≡ true → ReadsStand m ((agreement.after a v).shared.cells) (j.walk r)
    by_cells v ok leaves r entered = still_stands m scene ((agreement.after a v).shared.cells) leaves (rises (rules_of m layout) a v ok kept.agreement)
        (j.walk r) (kept.lawful.sound.readers r (j.walk r) (entered_reads (e.stage r) (j.walk r) entered)) (stands r entered)

    pub walks_after : (step : Step) → Enabled m layout c j step → WalksStand m (after m layout c j step)
    walks_after (Agreement v) ok = by_cells v ok.1 (plain_reads v ok.0 ok.1)
    walks_after (Epochs v) ok = λ r entered. stands r (was_entered c e v ok.0 ok.1 r entered)
    walks_after (Enter r) ok = λ i entered. ⊎_elim
        (λ own. subst (ReadsStand m a.shared.cells) (sym (upd_same j.walk r i [] own)) (none_stands m a.shared.cells))
        (λ ne. subst (ReadsStand m a.shared.cells) (sym (upd_other j.walk r i [] ne))
        (stands i (sym (ap is_entered (upd_other e.stage r i (stages.Entered e.epoch) ne)) ∙ entered)))
        (cases_eq i r)
    walks_after (Read r place) ok = λ i entered. ⊎_elim
        (λ own. subst (ReadsStand m a.shared.cells) (sym (upd_same j.walk r i (j.walk r ++ (place, a.shared.cells place) ∷ []) own))
        (read_stands m a.shared.cells (j.walk r) place (stands r ok.entered)))
        (λ ne. subst (ReadsStand m a.shared.cells) (sym (upd_other j.walk r i (j.walk r ++ (place, a.shared.cells place) ∷ []) ne)) (stands i entered))
        (cases_eq i r)
    walks_after (Leave r) ok = λ i entered. ⊎_elim
        (λ own. absurd (true_false entered (ap is_entered (upd_same e.stage r i stages.Idle own))))
        (λ ne. stands i (sym (ap is_entered (upd_other e.stage r i stages.Idle ne)) ∙ entered))
        (cases_eq i r)
    walks_after (Publish r d lock word request code slot op thunk) ok =
        by_cells (agreement.Publish d lock word request code slot) ok.enabled
        (lock_reads m laws layout limits scene kept.lawful lock (held_word d word) ok.enabled.2.line.placed.outer_lock)
    walks_after (Fill r cell log value t word) ok =
        by_cells (PrivateStore r cell log value (cell_of m t cell) word) ok.0
        (hand_reads m laws layout limits scene kept.lawful t cell word (hand_status c e.location t ok.1.0 ok.1.1) ok.2)
    walks_after (Make r log t worn) ok = stands
    walks_after (LoadEpoch r log t) ok = stands
    walks_after (Retire r log t) ok = stands
