-- The cells of the slot that a Make fills hold what it has stored there.
use Rattle.std.proofs.Common.{◌≡◌, ℕ, suc, ◌<◌, true, refl, sym, ap, ◌∙◌, subst, ⊎_elim, arith}
use Rattle.std.specs.Prelude.{Option, Some, None}
use Rattle.epoch_core.specs.small_lemmas.proofs.Numbers.{last_or_before as last_or}
use Rattle.agreement_core.specs.body_terms.specs.Update.{upd}
use Rattle.agreement_core.specs.body_terms.specs.Word.{value_of}
use Rattle.agreement_core.specs.body_terms.specs.declared.micro.Source.{Source}
use Rattle.agreement_core.specs.body_terms.specs.declared.micro.Micro.{Micro}
use Rattle.agreement_core.specs.body_terms.specs.declared.micro.Micro.TheVariants as micros
use Rattle.agreement_core.specs.table_words.specs.declared.layout.Layout.{Layout}
use Rattle.agreement_core.specs.table_words.specs.Limits.{IsWithinLimits}
use Rattle.agreement_core.specs.section_lines.specs.structure_laws.specs.Meaning.{Meaning}
use Rattle.agreement_core.specs.section_lines.specs.structure_laws.specs.Cells.{cell_of, slots}
use Rattle.agreement_core.specs.section_lines.specs.structure_laws.specs.Laws.{Laws}
use Rattle.agreement_core.specs.section_lines.specs.structure_laws.proofs.Changes.{upd_same, upd_other}
use Rattle.agreement_core.specs.State.{Run, AgreementState, section_of}
use Rattle.agreement_core.specs.Checks.{source_in}
use Rattle.agreement_core.specs.Events.{IsBefore}
use Rattle.agreement_core.specs.Events as agreement
use Rattle.epoch_core.specs.declared.location.Location.TheVariants as locations
use Rattle.epoch_core.specs.State.{Counts, EpochState}
use Rattle.machine_scenes.specs.Shown.{States}
use Rattle.machine_scenes.specs.Kinds.{is_plain}
use Rattle.machine_scenes.specs.Steps.{Step, Agreement, Epochs, Enter, Read, Leave, Publish, Fill, Make, LoadEpoch, Retire, after, Enabled}
use Rattle.machine_scenes.specs.Kept.{IsKept}
use Rattle.machine_scenes.proofs.JointSteps.{hand_status}
use Rattle.machine_slots.specs.Hands.{Made, IsNoFill, LocksAreHeld, AreInHand, SlotsAreFilled, LooksAt, MadeGoes}
use Rattle.machine_slots.proofs.Cells.{hands_stand}
use Rattle.machine_slots.proofs.Runs.{is_shared, FillsRun, fill_low, fill_place, fill_same, load_before, fills_all, one_run, make_fills, event_fills}

same_slot : (t u : ℕ) (x : Option ℕ) → x ≡ Some t → x ≡ Some u → t ≡ u
same_slot t u x e e' = cc

none_some : (t : ℕ) (x : Option ℕ) → x ≡ None → x ≡ Some t → ⊥
none_some t x e e' = cc

same_hand : (r r' : ℕ) → locations.Hand r ≡ locations.Hand r' → r ≡ r'
same_hand r r' e = cc

load_store : (x : Micro) (cell log cell' log' : ℕ) (value : Source) → x ≡ micros.PrivateLoad cell log → x ≡ micros.PrivateStore cell' log' value → ⊥
load_store x cell log cell' log' value e e' = cc

one_load : (x : Micro) (cell log cell' log' : ℕ) → x ≡ micros.PrivateLoad cell log → x ≡ micros.PrivateLoad cell' log' → cell ≡ cell'
one_load x cell log cell' log' e e' = cc

one_store : (x : Micro) (cell log cell' log' : ℕ) (v w : Source) → x ≡ micros.PrivateStore cell log v → x ≡ micros.PrivateStore cell' log' w
    → (cell ≡ cell') × (v ≡ w)
one_store x cell log cell' log' v w e e' = (cc, cc)

module _ (m : Meaning) (laws : Laws m) (layout : Layout) (limits : IsWithinLimits layout) (c : Counts) (nodes : c.nodes ≡ slots m layout)
    (j : States) (kept : IsKept m layout c j) (held : LocksAreHeld m c j)
    (made : Made) (was : SlotsAreFilled m c j made) (in_hand : AreInHand m c j made) where
  abbrev a : AgreementState
  a = j.agreement

  abbrev e : EpochState
  e = j.epochs

  -- a cell of the slot that a Make fills stands over a step that doesn't store there
  stands : (step : Step) → Enabled m layout c j step → (r t i : ℕ) → (a.run r).running ≡ true → made r ≡ Some t → i < 5 → IsNoFill step t i
      → (after m layout c j step).agreement.shared.cells (cell_of m t i) ≡ a.shared.cells (cell_of m t i)
  stands step ok r t i running is five no_fill = hands_stand m laws layout limits c nodes j kept held t i (in_hand.node r t running is) five
      (hand_status c e.location t r (in_hand.here r t running is)) step ok no_fill

  module _ (made' : Made) where
    -- nothing of agreement changes
    same_filled : (j' : States) → j'.agreement ≡ a → ((i : ℕ) → made' i ≡ made i) → SlotsAreFilled m c j' made'
    same_filled j' same goes = subst (λ (w : AgreementState). SlotsAreFilled m c (record j' { agreement = w }) made') (sym same) (record {
      filled = λ r i cell log value running below stores here.
          let f = was.filled r i cell log value running below stores here in (f.0, goes r ∙ f.1, f.2);
      looked = λ r cell log value is. let f = was.looked r cell log value is in (f.0, goes r ∙ f.1, f.2);
    })

    -- the runner loads a cell of the slot that its Make fills
    module _ (r0 cell log place : ℕ) (ok : IsBefore a r0 (micros.PrivateLoad cell log)) (at : LooksAt m c j made made' r0 cell place) where
      abbrev q : Run
      q = a.run r0

      now : made' r0 ≡ Some at.slot
      now = at.after r0 ∙ upd_same made r0 r0 (Some at.slot) refl

      load_run : FillsRun m layout c j kept a.shared.cells (made' r0) (record q { at = suc q.at; word = a.shared.cells place })
      load_run = record {
        used = kept.agreement.running_used r0;
        filled = λ i cell' log' value running below stores here. ⊎_elim
            (λ lt. let f = was.filled r0 i cell' log' value running lt stores here in (
              f.0,
              ⊎_elim (λ none. absurd (none_some f.0 (made r0) none f.1)) (λ some. now ∙ (sym some ∙ f.1)) at.before,
              f.2,
            ))
            (λ last. absurd (load_store (agreement.step_of a r0) cell log cell' log' value ok.next
            (ap ((section_of a r0).code) (sym last) ∙ stores)))
            (last_or i q.at below);
        looked = λ cell' log' value running going next.
            let before = load_before m layout c j kept q.descriptor q.at cell' log' value (kept.agreement.running_used r0 running) next in
            let same = one_load (agreement.step_of a r0) cell log cell' log' ok.next before in
            (at.slot, now, ap a.shared.cells (at.place_is ∙ ap (cell_of m at.slot) same));
      }

      load_filled : SlotsAreFilled m c (after m layout c j (Agreement (agreement.PrivateLoad r0 cell log place))) made'
      load_filled = fills_all m layout c j kept (agreement.PrivateLoad r0 cell log place) ok made'
          (one_run m layout c j kept made was a.shared.cells made' r0 (record q { at = suc q.at; word = a.shared.cells place }) load_run
          (λ r ne t i running is five. refl) (λ r ne. at.after r ∙ upd_other made r0 r (Some at.slot) ne))
          (after m layout c j (Agreement (agreement.PrivateLoad r0 cell log place))) refl

    -- it stores to that cell
    module _ (r0 cell log : ℕ) (value : Source) (t word : ℕ) (ok : Enabled m layout c j (Fill r0 cell log value t word))
        (goes : MadeGoes m c j (Fill r0 cell log value t word) made made') where
      abbrev s : Run
      s = a.run r0

      abbrev cells : ℕ → ℕ
      cells = upd a.shared.cells (cell_of m t cell) word

      store_run : FillsRun m layout c j kept cells (made' r0) (record s { at = suc s.at; word = s.word })
      store_run = record {
        used = kept.agreement.running_used r0;
        filled = λ i cell' log' value' running below stores here. ⊎_elim
            (λ lt. let f = was.filled r0 i cell' log' value' running lt stores here in
            let used = kept.agreement.running_used r0 running in (
              f.0,
              goes.2 r0 ∙ f.1,
              ap value_of (stands (Fill r0 cell log value t word) ok r0 f.0 cell' running f.1
                  (fill_low m layout c j kept s.descriptor i cell' log' value' used stores)
                  (λ slot same. other i cell' log' value' used lt stores here same)) ∙ f.2,
            ))
            (λ last. let same = one_store (agreement.step_of a r0) cell log cell' log' value value' ok.0.0.next
            (ap ((section_of a r0).code) (sym last) ∙ stores) in (
              t,
              goes.2 r0 ∙ goes.0,
              ap value_of (upd_same a.shared.cells (cell_of m t cell) (cell_of m t cell') word (ap (cell_of m t) (sym same.0)))
                  ∙ (goes.1 ∙ ap (source_in s.trail) same.1),
            ))
            (last_or i s.at below);
        looked = λ cell' log' value' running going next. absurd (load_store (agreement.step_of a r0) cell' log' cell log value
            (load_before m layout c j kept s.descriptor s.at cell' log' value' (kept.agreement.running_used r0 running) next) ok.0.0.next);
      }
        where
          -- an earlier store of the same Make is to another cell
          other : (i cell' log' : ℕ) (value' : Source) → a.used s.descriptor ≡ true → i < s.at
              → (a.section s.descriptor).code i ≡ micros.PrivateStore cell' log' value' → log' ≡ s.count → cell ≡ cell' → ⊥
          other i cell' log' value' used lt stores here same =
              let place = fill_place m layout c j kept s.descriptor s.at cell log value used ok.0.0.next in
              let counted = (kept.agreement.runs r0 ok.0.0.running).in_trail.counted in
              let one : log ≡ log' = omega arith in
              let at = fill_same m layout c j kept s.descriptor i s.at cell' log' value' value used stores
              (ok.0.0.next ∙ (ap (λ n. micros.PrivateStore n log value) same ∙ ap (λ n. micros.PrivateStore cell' n value) one)) in
              omega arith

      store_filled : SlotsAreFilled m c (after m layout c j (Fill r0 cell log value t word)) made'
      store_filled = fills_all m layout c j kept (agreement.PrivateStore r0 cell log value (cell_of m t cell) word) ok.0 made'
          (one_run m layout c j kept made was cells made' r0 (record s { at = suc s.at; word = s.word }) store_run
          (λ r ne u i running is five. stands (Fill r0 cell log value t word) ok r u i running is five
          (λ slot same. ne (same_hand r r0 (sym (in_hand.here r u running is)
          ∙ (ap e.location (sym slot) ∙ in_hand.here r0 t ok.0.0.running goes.0)))))
          (λ r ne. goes.2 r))
          (after m layout c j (Fill r0 cell log value t word)) refl

    shared_filled : (v : agreement.Event) → is_shared v ≡ true → (ok : Enabled m layout c j (Agreement v)) → ((i : ℕ) → made' i ≡ made i)
        → SlotsAreFilled m c (after m layout c j (Agreement v)) made'
    shared_filled v shared ok goes = fills_all m layout c j kept v ok.1 made'
        (event_fills m layout c j kept made was ((agreement.after a v).shared.cells) made'
        (λ r t i running is five. stands (Agreement v) ok r t i running is five tt) v shared ok.1 goes)
        (after m layout c j (Agreement v)) refl

    event_filled : (v : agreement.Event) → (ok : Enabled m layout c j (Agreement v)) → MadeGoes m c j (Agreement v) made made'
        → SlotsAreFilled m c (after m layout c j (Agreement v)) made'
    event_filled (agreement.PrivateLoad r cell log place) ok goes = load_filled r cell log place ok.1 goes
    event_filled (agreement.PrivateStore r cell log value place word) ok goes = absurd (plainly ok.0)
      where
        plainly : is_plain (agreement.PrivateStore r cell log value place word) ≡ true → ⊥
        plainly e = cc
    event_filled v ok goes = shared_filled v refl ok goes

    -- each step keeps it
    pub filled_after : (step : Step) → Enabled m layout c j step → MadeGoes m c j step made made' → SlotsAreFilled m c (after m layout c j step) made'
    filled_after (Agreement v) ok goes = event_filled v ok goes
    filled_after (Epochs v) ok goes = same_filled (after m layout c j (Epochs v)) refl goes
    filled_after (Enter r) ok goes = same_filled (after m layout c j (Enter r)) refl goes
    filled_after (Read r place) ok goes = same_filled (after m layout c j (Read r place)) refl goes
    filled_after (Leave r) ok goes = same_filled (after m layout c j (Leave r)) refl goes
    filled_after (Publish r d lock word request code slot op thunk) ok goes =
        fills_all m layout c j kept (agreement.Publish d lock word request code slot) ok.enabled made'
        (event_fills m layout c j kept made was ((agreement.after a (agreement.Publish d lock word request code slot)).shared.cells) made'
        (λ r' t i running is five. stands (Publish r d lock word request code slot op thunk) ok r' t i running is five tt)
        (agreement.Publish d lock word request code slot) refl ok.enabled goes)
        (after m layout c j (Publish r d lock word request code slot op thunk)) refl
    filled_after (Fill r cell log value t word) ok goes = store_filled r cell log value t word ok goes
    filled_after (Make r log t worn) ok goes = fills_all m layout c j kept (agreement.MakeCommit r log (suc t)) ok.enabled made'
        (make_fills m layout c j kept made was a.shared.cells made' (λ r' t' i running is five. refl) r log (suc t) ok.enabled goes)
        (after m layout c j (Make r log t worn)) refl
    filled_after (LoadEpoch r log t) ok goes = same_filled (after m layout c j (LoadEpoch r log t)) refl goes
    filled_after (Retire r log t) ok goes = fills_all m layout c j kept (agreement.RetireCommit r t log) ok.enabled made'
        (event_fills m layout c j kept made was a.shared.cells made' (λ r' t' i running is five. refl)
        (agreement.RetireCommit r t log) refl ok.enabled goes)
        (after m layout c j (Retire r log t)) refl
