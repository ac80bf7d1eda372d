-- Each step of the joined states leads from a lawful scene to a lawful scene.
use Rattle.std.proofs.Common.{◌≡◌, ℕ, suc, ◌+◌, ◌<◌, ◌≤◌, Bool, true, false, cond, refl, sym, ap, ◌∙◌, subst, arith}
use Rattle.std.specs.Prelude.{nat_lt, Option}
use Rattle.std.proofs.lemmas.Bool.Decides.{nat_tests}
use Rattle.agreement_core.specs.body_terms.specs.Update.{upd}
use Rattle.agreement_core.specs.body_terms.specs.Word.{value_of}
use Rattle.agreement_core.specs.body_terms.specs.Line.{is_commit, is_event}
use Rattle.agreement_core.specs.body_terms.specs.declared.step.Step.TheVariants as body_steps
use Rattle.agreement_core.specs.body_terms.specs.declared.value.Init.{Init}
use Rattle.agreement_core.specs.body_terms.specs.declared.micro.Source.{Source}
use Rattle.agreement_core.specs.body_terms.specs.declared.micro.Source.TheVariants.{Fixed, Agreed}
use Rattle.agreement_core.specs.body_terms.specs.declared.micro.Micro.TheVariants as micros
use Rattle.agreement_core.specs.table_words.specs.declared.layout.Layout.{Layout}
use Rattle.agreement_core.specs.table_words.specs.Limits.{IsWithinLimits}
use Rattle.agreement_core.specs.section_lines.specs.structure_laws.specs.Scene.{Readings, Status, Free, Retired}
use Rattle.agreement_core.specs.section_lines.specs.structure_laws.specs.Scene as scenes
use Rattle.agreement_core.specs.section_lines.specs.structure_laws.specs.Meaning.{Meaning}
use Rattle.agreement_core.specs.section_lines.specs.structure_laws.specs.Sections.{IsStep}
use Rattle.agreement_core.specs.section_lines.specs.structure_laws.specs.Cells.{cell_of, slots, Links}
use Rattle.agreement_core.specs.section_lines.specs.structure_laws.specs.Laws.{Laws}
use Rattle.agreement_core.specs.section_lines.specs.structure_laws.specs.Keeps.{IsPrepared}
use Rattle.agreement_core.specs.section_lines.specs.structure_laws.specs.Lawful.{IsLawful}
use Rattle.agreement_core.specs.section_lines.specs.Progress.{source_word}
use Rattle.agreement_core.specs.section_lines.proofs.Moves.{make_fills}
use Rattle.agreement_core.specs.State.{Section, AgreementState}
use Rattle.agreement_core.specs.Checks.{source_in}
use Rattle.epoch_core.specs.declared.location.Location.{Location}
use Rattle.epoch_core.specs.declared.location.Location.TheVariants as locations
use Rattle.epoch_core.specs.State.{Counts, EpochState}
use Rattle.epoch_core.specs.Moves.{made, tested, retired}
use Rattle.machine_scenes.specs.Shown.{Publications, States, status_at, status_of, reader_of, sections_of, scene_of}
use Rattle.machine_scenes.specs.Steps.{Step, Agreement, Epochs, Enter, Read, Leave, Publish, Fill, Make, LoadEpoch, Retire, after, Enabled, descriptor_of, MayMake, MayRetire}
use Rattle.machine_scenes.specs.Kept.{IsKept}
use Rattle.machine_scenes.proofs.Running.{own, by_place, at_edge, event_open, here}
use Rattle.machine_scenes.proofs.Events.{plain_lawful}
use Rattle.machine_scenes.proofs.Publishing.{publish_lawful}
use Rattle.machine_scenes.proofs.SlotSteps.{at_now, private_store_lawful, late_make_lawful, late_retire_lawful, lead_make_lawful, lead_retire_lawful}
use Rattle.machine_scenes.proofs.Readers.{entered_reads}
use Rattle.machine_scenes.proofs.EpochEvents.{status_same, status_change, enters_lawful, reads_lawful, leaves_lawful, alone_lawful}

-- a slot in a hand
pub hand_status : (c : Counts) (location : ℕ → Location) (t r : ℕ) → location t ≡ locations.Hand r → status_of c location t ≡ Free
hand_status c location t r is = either (nat_lt t c.nodes) (status_at (location t)) (ap status_at is)
  where
    either : (b : Bool) (x : Status) → x ≡ Free → cond b x Free ≡ Free
    either true x e = e
    either false x e = refl

won : (found : ℕ) (r : ℕ) (worn : Bool) → found ≡ 0 → made found r worn ≡ locations.Live
won found r worn e = grind (arith, nat_tests)

lost : (found : ℕ) (r : ℕ) (worn : Bool) → 0 < found → made found r worn ≡ tested worn r
lost found r worn some = grind (arith, nat_tests)

won_retire : (found r y : ℕ) (l : Location) → found ≡ 0 → retired found r y l ≡ locations.Limbo r y
won_retire found r y l e = grind (arith, nat_tests)

lost_retire : (found r y : ℕ) (l : Location) → 0 < found → retired found r y l ≡ l
lost_retire found r y l some = grind (arith, nat_tests)

tested_free : (worn : Bool) (r : ℕ) → status_at (tested worn r) ≡ Free
tested_free true r = refl
tested_free false r = refl

module _ (m : Meaning) (laws : Laws m) (layout : Layout) (limits : IsWithinLimits layout) (c : Counts) (nodes : c.nodes ≡ slots m layout)
    (j : States) (kept : IsKept m layout c j) where
  abbrev a : AgreementState
  a = j.agreement

  abbrev e : EpochState
  e = j.epochs

  abbrev p : Publications
  p = j.publications

  abbrev status : ℕ → Status
  status t = status_of c e.location t

  abbrev reader : ℕ → Option Readings
  reader r = reader_of e j.walk r

  abbrev sections : ℕ → Option scenes.Section
  sections d = sections_of m p a d

  abbrev section : ℕ → Section
  section r = a.section ((a.run r).descriptor)

  -- the log word of a commit behind the edge is agreed, and that of one at the edge isn't
  full : (r log : ℕ) (ok : (a.run r).running ≡ true) → is_commit ((section r).code ((a.run r).at)) ≡ true
      → log ≡ (section r).slot ((a.run r).at) → (a.run r).at < (section r).edge → 0 < (section r).log log
  full r log ok commit at lt =
      let own = kept.agreement.sections ((a.run r).descriptor) (kept.agreement.running_used r ok) in
      let more = own.published.line.counted.slot_commit ((a.run r).at) commit in
      let most = own.published.line.counted.slot_rises (suc ((a.run r).at)) ((section r).edge) lt in
      own.section.in_log.full log (omega arith)

  pub empty : (r log : ℕ) (ok : (a.run r).running ≡ true) → log ≡ (section r).slot ((a.run r).at) → (a.run r).at ≡ (section r).edge
      → (section r).log log ≡ 0
  empty r log ok at edge =
      let own = kept.agreement.sections ((a.run r).descriptor) (kept.agreement.running_used r ok) in
      own.section.in_log.empty log (let e : log ≡ (section r).slot ((section r).edge) = at ∙ ap (section r).slot edge in omega arith)

  -- the slot of a Make whose run stands at the edge is prepared
  prepared : (r log t : ℕ) (worn : Bool) (ok : MayMake m layout c j r log t worn) → (a.run r).at ≡ (section r).edge
      → (init : Init) (into : ℕ)
      → IsStep m (at_now m laws layout limits p e.epoch status reader a kept.agreement kept.thunks kept.lawful r ok.enabled.0.running
      ok.enabled.0.going)
      ((at_now m laws layout limits p e.epoch status reader a kept.agreement kept.thunks kept.lawful r ok.enabled.0.running
      ok.enabled.0.going).at) (body_steps.Make init into)
      → IsPrepared m layout (scene_of m c j) (at_now m laws layout limits p e.epoch status reader a kept.agreement kept.thunks
      kept.lawful r ok.enabled.0.running ok.enabled.0.going) t init
  prepared r log t worn ok at init into step = record {
    in_hand = hand_status c e.location t r ok.takes.2;
    within = subst (λ n. t < n) nodes ok.node;
    cells = λ i v low fill.
        let running = ok.enabled.0.running in let going = ok.enabled.0.going in
        let d = (a.run r).descriptor in let s = section r in
        let code : s.code ((a.run r).at) ≡ micros.MakeCommit log = ok.enabled.0.next in
        let un = event_open m layout p a kept.agreement kept.thunks r running going (ap is_event code) at in
        let shaped = kept.lawful.shaped d (at_now m laws layout limits p e.epoch status reader a kept.agreement kept.thunks kept.lawful r
        running going) (here m layout p a kept.agreement kept.thunks r running going un) in
        let fills = make_fills (m.body (p.thunk d)) shaped.shape (p.op d) (p.thunk d) (p.readings d) s.log s.edge log
        (at_edge m layout p a kept.agreement kept.thunks r running going (micros.MakeCommit log) code at) init into step i v low fill in
        let stores : s.code fills.at ≡ micros.PrivateStore i log
        fills.source = (kept.thunks d (kept.agreement.running_used r running)).code fills.at ∙ fills.stores in
        ok.filled i fills.at fills.source low stores
        ∙ (source_agreed r running fills.at i log fills.source (let b = fills.below in omega arith) stores ∙ sym fills.word);
  }
    where
      source_of : (trail words : ℕ → ℕ) (v : Source) → ((k : ℕ) → v ≡ Agreed k → trail k ≡ words k)
          → source_in trail v ≡ source_word words v
      source_of trail words (Fixed number) same = refl
      source_of trail words (Agreed k) same = ap value_of (same k refl)

      source_agreed : (r : ℕ) (running : (a.run r).running ≡ true) (at cell log : ℕ) (v : Source) → at ≤ (a.run r).at
          → (section r).code at ≡ micros.PrivateStore cell log v
          → source_in ((a.run r).trail) v ≡ source_word ((section r).log) v
      source_agreed r running at cell log v below is = source_of ((a.run r).trail) ((section r).log) v (λ k uses.
          let own = kept.agreement.sections ((a.run r).descriptor) (kept.agreement.running_used r running) in
          let run = kept.agreement.runs r running in
          let before = own.published.line.resolved.fill_source at cell log v is k uses in
          let rises = own.published.line.counted.slot_rises at ((a.run r).at) below in
          run.in_trail.agreed k (let counts = run.in_trail.counted in omega arith))

  make_lawful : (r log t : ℕ) (worn : Bool) → MayMake m layout c j r log t worn
      → IsLawful m layout (scene_of m c (after m layout c j (Make r log t worn)))
  make_lawful r log t worn ok = by_place m layout p a kept.agreement kept.thunks r running going late lead
    where
      running : (a.run r).running ≡ true
      running = ok.enabled.0.running

      going : (a.run r).ended ≡ false
      going = ok.enabled.0.going

      at_slot : log ≡ (section r).slot ((a.run r).at)
      at_slot = (own m layout p a kept.agreement kept.thunks r running going).published.line.counted.make_log
          ((a.run r).at) log ok.enabled.0.next

      late : (a.run r).at < (section r).edge → IsLawful m layout (scene_of m c (after m layout c j (Make r log t worn)))
      late lt =
          let some = full r log running (ap is_commit ok.enabled.0.next) at_slot lt in
          subst (λ s. IsLawful m layout (record (scene_of m c (after m layout c j (Make r log t worn))) { status = s }))
          (sym (status_same c e.location t (made (e.log (descriptor_of j r) log) r worn)
          (λ low. ap status_at (lost (e.log (descriptor_of j r) log) r worn (subst (λ n. 0 < n) (sym ok.word) some))
          ∙ (tested_free worn r ∙ sym (ap status_at ok.takes.2)))))
          (late_make_lawful m laws layout limits p e.epoch status reader a kept.agreement kept.thunks kept.lawful r running going log
          (suc t) ok.enabled.0.next lt)

      lead : (a.run r).at ≡ (section r).edge → IsLawful m layout (scene_of m c (after m layout c j (Make r log t worn)))
      lead at =
          let none = empty r log running at_slot at in
          subst (λ s. IsLawful m layout (record (scene_of m c (after m layout c j (Make r log t worn))) { status = s }))
          (sym (status_change c e.location t (made (e.log (descriptor_of j r) log) r worn) ok.node
          ∙ ap (λ l. upd status t (status_at l)) (won (e.log (descriptor_of j r) log) r worn (ok.word ∙ none))))
          (lead_make_lawful m laws layout limits p e.epoch status reader a kept.agreement kept.thunks kept.lawful r running going log t
          ok.enabled.0.next at (prepared r log t worn ok at))

  retire_lawful : (r log t : ℕ) → MayRetire m layout c j r log t → IsLawful m layout (scene_of m c (after m layout c j (Retire r log t)))
  retire_lawful r log t ok = by_place m layout p a kept.agreement kept.thunks r running going late lead
    where
      running : (a.run r).running ≡ true
      running = ok.enabled.running

      going : (a.run r).ended ≡ false
      going = ok.enabled.going

      at_slot : log ≡ (section r).slot ((a.run r).at)
      at_slot = (own m layout p a kept.agreement kept.thunks r running going).published.line.counted.retire_log
          ((a.run r).at) t log ok.enabled.next

      word : e.log ((e.retire r).descriptor) ((e.retire r).index) ≡ (section r).log log
      word = ap (λ d. e.log d ((e.retire r).index)) ok.descriptor ∙ (ap (e.log (descriptor_of j r)) ok.index ∙ ok.word)

      late : (a.run r).at < (section r).edge → IsLawful m layout (scene_of m c (after m layout c j (Retire r log t)))
      late lt =
          let some = full r log running (ap is_commit ok.enabled.next) at_slot lt in
          subst (λ s. IsLawful m layout (record (scene_of m c (after m layout c j (Retire r log t))) { status = s }))
          (sym (status_same c e.location ((e.retire r).slot)
          (retired (e.log ((e.retire r).descriptor) ((e.retire r).index)) r ((e.retire r).epoch) (e.location ((e.retire r).slot)))
          (λ low. ap status_at (lost_retire (e.log ((e.retire r).descriptor) ((e.retire r).index)) r ((e.retire r).epoch)
          (e.location ((e.retire r).slot)) (subst (λ n. 0 < n) (sym word) some)))))
          (late_retire_lawful m laws layout limits p e.epoch status reader a kept.agreement kept.thunks kept.lawful r running going log t
          ok.enabled.next lt)

      lead : (a.run r).at ≡ (section r).edge → IsLawful m layout (scene_of m c (after m layout c j (Retire r log t)))
      lead at =
          let none = empty r log running at_slot at in
          let entered = kept.epochs.holder r (c.nodes + (e.retire r).descriptor) (kept.epochs.retire_held r ok.loaded) in
          let least = kept.epochs.entered_least r entered in
          let recent = kept.retires.recent r ok.loaded in
          subst (λ s. IsLawful m layout (record (scene_of m c (after m layout c j (Retire r log t))) { status = s }))
          (sym (status_change c e.location ((e.retire r).slot)
          (retired (e.log ((e.retire r).descriptor) ((e.retire r).index)) r ((e.retire r).epoch) (e.location ((e.retire r).slot)))
          (kept.epochs.retire_node r ok.loaded)
          ∙ (ap (λ l. upd status ((e.retire r).slot) (status_at l))
          (won_retire (e.log ((e.retire r).descriptor) ((e.retire r).index)) r ((e.retire r).epoch) (e.location ((e.retire r).slot))
          (word ∙ none))
          ∙ ap (λ n. upd status n (Retired ((e.retire r).epoch))) ok.slot)))
          (lead_retire_lawful m laws layout limits p e.epoch status reader a kept.agreement kept.thunks kept.lawful r running going log t
          ((e.retire r).epoch) ok.enabled.next at
          (kept.epochs.retire_most r ok.loaded) (omega arith)
          (λ u z i low retired links. kept.retires.linked r (ok.loaded, word ∙ none) u z i low retired
          (subst (λ n. Links m (scene_of m c j) (cell_of m u i) n) (sym ok.slot) links)))

  pub step_lawful : (step : Step) → Enabled m layout c j step → IsLawful m layout (scene_of m c (after m layout c j step))
  step_lawful (Agreement v) ok = plain_lawful m laws layout limits p e.epoch status reader a kept.agreement kept.thunks kept.lawful v
      ok.0 ok.1
  step_lawful (Epochs v) ok = alone_lawful m laws layout limits c a.shared.cells p.runner sections e j.walk kept.epochs kept.lawful v
      ok.0 ok.1 kept.met kept.publishers
  step_lawful (Enter r) ok = enters_lawful m laws layout limits c a.shared.cells p.runner sections e j.walk kept.epochs kept.lawful r
  step_lawful (Read r place) ok = reads_lawful m laws layout limits c a.shared.cells p.runner sections e j.walk kept.epochs kept.lawful r
      place ok.entered ok.loadable
  step_lawful (Leave r) ok = leaves_lawful m laws layout limits c a.shared.cells p.runner sections e j.walk kept.epochs kept.lawful r
  step_lawful (Publish r d lock word request code slot op thunk) ok =
      publish_lawful m laws layout limits p e.epoch status reader a kept.agreement kept.thunks kept.lawful d lock word request code slot
      ok.enabled op thunk (j.walk r) r
      (entered_reads (e.stage r) (j.walk r) ok.entered) ok.allowed ok.fits ok.of_thunk.lock ok.of_thunk.word
  step_lawful (Fill r cell log value t word) ok = private_store_lawful m laws layout limits p e.epoch status reader a kept.agreement
      kept.thunks kept.lawful r ok.0.0.running ok.0.0.going
      cell log t word value ok.0.0.next (hand_status c e.location t ok.1.0 ok.1.1) ok.2 ok.0.1.rises
  step_lawful (Make r log t worn) ok = make_lawful r log t worn ok
  step_lawful (LoadEpoch r log t) ok = kept.lawful
  step_lawful (Retire r log t) ok = retire_lawful r log t ok
