-- Each step keeps the invariant of the joined states.
use Rattle.std.proofs.Common.{◌≡◌, ◌≢◌, ℕ, suc, Bool, true, false, refl, sym, ap, ◌∙◌, subst, inl, inr, ⊎_elim}
use Rattle.std.specs.Prelude.{Some, [], ◌∷◌, ◌++◌, slice_get}
use Rattle.std.proofs.lemmas.Bool.{cases_eq}
use Rattle.agreement_core.specs.map_history.specs.declared.op.Op.{Op}
use Rattle.agreement_core.specs.body_terms.specs.declared.micro.Micro.{Micro}
use Rattle.agreement_core.specs.body_terms.specs.declared.thunk.Thunk.{Thunk}
use Rattle.agreement_core.specs.body_terms.specs.Update.{upd}
use Rattle.agreement_core.specs.body_terms.specs.Word.{value_of, held_word}
use Rattle.agreement_core.specs.table_words.specs.declared.layout.Layout.{Layout}
use Rattle.agreement_core.specs.table_words.specs.Limits.{IsWithinLimits}
use Rattle.agreement_core.specs.section_lines.specs.structure_laws.specs.Scene.{Readings}
use Rattle.agreement_core.specs.section_lines.specs.structure_laws.specs.Scene as scenes
use Rattle.agreement_core.specs.section_lines.specs.structure_laws.specs.Meaning.{Meaning}
use Rattle.agreement_core.specs.section_lines.specs.structure_laws.specs.Cells.{cell_of, IsCellOf, IsOutside, slots}
use Rattle.agreement_core.specs.section_lines.specs.structure_laws.specs.Laws.{Laws}
use Rattle.agreement_core.specs.section_lines.specs.structure_laws.proofs.Changes.{upd_same, upd_other}
use Rattle.agreement_core.specs.State.{Section, AgreementState, IsOpen}
use Rattle.agreement_core.specs.Events as agreement
use Rattle.agreement_core.specs.Sound as agreement_sound
use Rattle.agreement_core.proofs.Keeping as agreement_keeping
use Rattle.epoch_core.specs.declared.stage.Stage.TheVariants as stages
use Rattle.epoch_core.specs.State.{Counts, EpochState, is_entered}
use Rattle.epoch_core.specs.Events as epochs
use Rattle.epoch_core.specs.Sound as epochs_sound
use Rattle.epoch_core.proofs.Keeping as epochs_keeping
use Rattle.machine_scenes.specs.Shown.{Publications, States, AreOfThunks, rules_of, reader_of, status_of, section_with, sections_of, scene_of, publishes}
use Rattle.machine_scenes.specs.Kinds.{is_plain, is_publication}
use Rattle.machine_scenes.specs.Readers.{Meets, HoldMet, HasRead, HavePublishers}
use Rattle.machine_scenes.specs.Cells.{LeavesLinks}
use Rattle.machine_scenes.specs.Steps.{Step, Agreement, Epochs, Enter, Read, Leave, Publish, Fill, Make, LoadEpoch, Retire, after, Enabled, descriptor_of, published, MayRead}
use Rattle.machine_scenes.specs.Kept.{IsKept}
use Rattle.machine_scenes.proofs.Shown.{shown_open, shown_some}
use Rattle.machine_scenes.proofs.Publishing.{publish_of_thunks}
use Rattle.machine_scenes.proofs.Readers.{entered_reads}
use Rattle.machine_scenes.proofs.Links.{true_false, same_leaves, put_leaves, hand_leaves, outside_used}
use Rattle.machine_scenes.proofs.CellEvents.{plain_leaves}
use Rattle.machine_scenes.proofs.Standing.{was_open, thunks_stay}
use Rattle.machine_scenes.proofs.Entries.{get_push, get_more, was_entered, stays_entered, stays_held, others_hold}
use Rattle.machine_scenes.proofs.JointSteps.{hand_status}

plain_unpublished : (v : agreement.Event) → is_plain v ≡ true → is_publication v ≡ false
plain_unpublished (agreement.Publish d lock word request code slot) plain = cc
plain_unpublished v plain = refl

module _ (m : Meaning) (laws : Laws m) (layout : Layout) (limits : IsWithinLimits layout) (c : Counts) (nodes : c.nodes ≡ slots m layout)
    (j : States) (kept : IsKept m layout c j) where
  abbrev a : AgreementState
  a = j.agreement

  abbrev e : EpochState
  e = j.epochs

  abbrev p : Publications
  p = j.publications

  abbrev pub scene : scenes.Scene
  scene = scene_of m c j

  -- agreement stays sound
  pub agreement_after : (step : Step) → Enabled m layout c j step
      → agreement_sound.IsSound (rules_of m layout) (after m layout c j step).agreement
  agreement_after (Agreement v) ok = agreement_keeping.keeps (rules_of m layout) a v ok.1 kept.agreement
  agreement_after (Epochs v) ok = kept.agreement
  agreement_after (Enter r) ok = kept.agreement
  agreement_after (Read r place) ok = kept.agreement
  agreement_after (Leave r) ok = kept.agreement
  agreement_after (Publish r d lock word request code slot op thunk) ok = agreement_keeping.keeps (rules_of m layout) a
      (agreement.Publish d lock word request code slot) ok.enabled kept.agreement
  agreement_after (Fill r cell log value t word) ok = agreement_keeping.keeps (rules_of m layout) a
      (agreement.PrivateStore r cell log value (cell_of m t cell) word) ok.0 kept.agreement
  agreement_after (Make r log t worn) ok = agreement_keeping.keeps (rules_of m layout) a
      (agreement.MakeCommit r log (suc t)) ok.enabled kept.agreement
  agreement_after (LoadEpoch r log t) ok = kept.agreement
  agreement_after (Retire r log t) ok = agreement_keeping.keeps (rules_of m layout) a
      (agreement.RetireCommit r t log) ok.enabled kept.agreement

  -- so do epochs and slots
  pub epochs_after : (step : Step) → Enabled m layout c j step → epochs_sound.IsSound c (after m layout c j step).epochs
  epochs_after (Agreement v) ok = kept.epochs
  epochs_after (Epochs v) ok = epochs_keeping.keeps c e v ok.1 kept.epochs
  epochs_after (Enter r) ok = epochs_keeping.keeps c e (epochs.EnterAgain r) ok kept.epochs
  epochs_after (Read r place) ok = kept.epochs
  epochs_after (Leave r) ok = epochs_keeping.keeps c e (epochs.Exit r) ok.0 kept.epochs
  epochs_after (Publish r d lock word request code slot op thunk) ok = kept.epochs
  epochs_after (Fill r cell log value t word) ok = kept.epochs
  epochs_after (Make r log t worn) ok = epochs_keeping.keeps c e (epochs.MakeCommit r (descriptor_of j r) log t worn) ok.takes kept.epochs
  epochs_after (LoadEpoch r log t) ok = epochs_keeping.keeps c e (epochs.RetireEpoch r (descriptor_of j r) log t) ok.enabled kept.epochs
  epochs_after (Retire r log t) ok = epochs_keeping.keeps c e (epochs.RetireCommit r) ok.loaded kept.epochs

  -- each published section stays that of its thunk
  pub thunks_after : (step : Step) → Enabled m layout c j step
      → AreOfThunks m (after m layout c j step).publications (after m layout c j step).agreement
  thunks_after (Agreement v) ok = thunks_stay (rules_of m layout) a m p kept.thunks v (plain_unpublished v ok.0) ok.1
  thunks_after (Epochs v) ok = kept.thunks
  thunks_after (Enter r) ok = kept.thunks
  thunks_after (Read r place) ok = kept.thunks
  thunks_after (Leave r) ok = kept.thunks
  thunks_after (Publish r d lock word request code slot op thunk) ok =
      publish_of_thunks m laws layout limits p e.epoch (λ t. status_of c e.location t)
      (λ r. reader_of e j.walk r) a kept.agreement kept.thunks kept.lawful
      d lock word request code slot ok.enabled op thunk (j.walk r) r ok.of_thunk
  thunks_after (Fill r cell log value t word) ok = thunks_stay (rules_of m layout) a m p kept.thunks
      (agreement.PrivateStore r cell log value (cell_of m t cell) word) refl ok.0
  thunks_after (Make r log t worn) ok = thunks_stay (rules_of m layout) a m p kept.thunks
      (agreement.MakeCommit r log (suc t)) refl ok.enabled
  thunks_after (LoadEpoch r log t) ok = kept.thunks
  thunks_after (Retire r log t) ok = thunks_stay (rules_of m layout) a m p kept.thunks (agreement.RetireCommit r t log) refl ok.enabled

  -- what each step leaves of the links
  pub leaves : (step : Step) → Enabled m layout c j step → LeavesLinks m scene ((after m layout c j step).agreement.shared.cells)
  leaves (Agreement v) ok = plain_leaves m laws layout limits p e.epoch (λ t. status_of c e.location t)
      (λ r. reader_of e j.walk r) a kept.agreement kept.thunks kept.lawful v ok.0 ok.1
  leaves (Epochs v) ok = same_leaves m laws layout limits scene kept.lawful a.shared.cells refl
  leaves (Enter r) ok = same_leaves m laws layout limits scene kept.lawful a.shared.cells refl
  leaves (Read r place) ok = same_leaves m laws layout limits scene kept.lawful a.shared.cells refl
  leaves (Leave r) ok = same_leaves m laws layout limits scene kept.lawful a.shared.cells refl
  leaves (Publish r d lock word request code slot op thunk) ok = put_leaves m laws layout limits scene kept.lawful lock
      (held_word d word) ok.enabled.2.line.placed.outer_lock
  leaves (Fill r cell log value t word) ok = hand_leaves m laws layout limits scene kept.lawful t cell word
      (hand_status c e.location t ok.1.0 ok.1.1) ok.2
  leaves (Make r log t worn) ok = same_leaves m laws layout limits scene kept.lawful a.shared.cells refl
  leaves (LoadEpoch r log t) ok = same_leaves m laws layout limits scene kept.lawful a.shared.cells refl
  leaves (Retire r log t) ok = same_leaves m laws layout limits scene kept.lawful a.shared.cells refl

  -- what an entered runner has met by the cells after, it has met before
  was_met : (cells : ℕ → ℕ) → LeavesLinks m scene cells → (r t : ℕ) → is_entered (e.stage r) ≡ true → Meets m cells (j.walk r) t
      → Meets m a.shared.cells (j.walk r) t
  was_met cells leaves r t entered meets = record {
    index = meets.index;
    place = meets.place;
    word = meets.word;
    read = meets.read;
    by = ⊎_elim (λ link. inl (
      sym (leaves.steady meets.place
          (outside_used m laws layout limits scene kept.lawful meets.place outside (unlocked link.0))) ∙ link.0,
      link.1,
    )) inr meets.by;
  }
    where
      outside : IsOutside m scene meets.place
      outside = (kept.lawful.sound.readers r (j.walk r) (entered_reads (e.stage r) (j.walk r) entered)).outside meets.index meets.place
          meets.word meets.read

      lock_case : (b : Bool) → m.is_lock meets.place ≡ b → m.is_link cells meets.place ≡ true → m.is_lock meets.place ≡ false
      lock_case true lock link = absurd (true_false link (laws.unlinked_lock cells meets.place lock))
      lock_case false lock link = lock

      unlocked : m.is_link cells meets.place ≡ true → m.is_lock meets.place ≡ false
      unlocked = lock_case (m.is_lock meets.place) refl

  met_cells : (cells : ℕ → ℕ) → LeavesLinks m scene cells → HoldMet m c cells e j.walk
  met_cells cells leaves r t entered low meets = kept.met r t entered low (was_met cells leaves r t entered meets)

  no_reading : {A : Type 0} (i : ℕ) (x : ℕ × ℕ) → slice_get [] i ≡ Some x → A
  no_reading i x h = absurd (cc)

  met_enter : (r : ℕ) → epochs.Enabled c e (epochs.EnterAgain r)
      → HoldMet m c a.shared.cells (epochs.after c e (epochs.EnterAgain r)) (upd j.walk r [])
  met_enter r ok i t entered low meets = ⊎_elim
      (λ same. no_reading meets.index (meets.place, meets.word)
      (subst (λ list. slice_get list meets.index ≡ Some (meets.place, meets.word)) (upd_same j.walk r i [] same) meets.read))
      (λ ne. kept.met i t (sym (ap is_entered (upd_other e.stage r i (stages.Entered e.epoch) ne)) ∙ entered) low
      (subst (λ list. Meets m a.shared.cells list t) (upd_other j.walk r i [] ne) meets)) (cases_eq i r)

  met_read : (r place : ℕ) → MayRead m layout c j r place
      → HoldMet m c a.shared.cells e (upd j.walk r (j.walk r ++ (place, a.shared.cells place) ∷ []))
  met_read r place ok i t entered low meets = ⊎_elim
      (λ same. here same (subst (λ list. Meets m a.shared.cells list t)
      (upd_same j.walk r i (j.walk r ++ (place, a.shared.cells place) ∷ []) same) meets))
      (λ ne. kept.met i t entered low (subst (λ list. Meets m a.shared.cells list t)
      (upd_other j.walk r i (j.walk r ++ (place, a.shared.cells place) ∷ []) ne) meets)) (cases_eq i r)
    where
      place_of : {q q' v v' : ℕ} → ◌≡◌ {A = ℕ × ℕ} (q, v) (q', v') → (q ≡ q') × (v ≡ v')
      place_of same = (ap (λ (x : ℕ × ℕ). x.0) same, ap (λ (x : ℕ × ℕ). x.1) same)

      here : i ≡ r → Meets m a.shared.cells (j.walk r ++ (place, a.shared.cells place) ∷ []) t → e.holds i t ≡ true
      here same meets = ap (λ n. e.holds n t) same ∙ ⊎_elim
          (λ old. kept.met r t ok.entered low (record
          { index = meets.index; place = meets.place; word = meets.word; read = old; by = meets.by }))
          (λ new. let is = place_of new in ok.holds t low (⊎_elim
          (λ link. inl (subst (λ q. m.is_link a.shared.cells q ≡ true) (sym is.0) link.0, ap value_of is.1 ∙ link.1))
          (λ cell. inr (ap m.is_lock is.0 ∙ cell.0, subst (IsCellOf m t) (sym is.0) cell.1)) meets.by))
          (get_push (j.walk r) (place, a.shared.cells place) (meets.place, meets.word) meets.index meets.read)

  met_leave : (r : ℕ) → HoldMet m c a.shared.cells (epochs.after c e (epochs.Exit r)) j.walk
  met_leave r i t entered low meets = ⊎_elim
      (λ same. absurd (true_false entered (ap is_entered (upd_same e.stage r i stages.Idle same))))
      (λ ne. others_hold c e r i t ne (kept.met i t (sym (ap is_entered (upd_other e.stage r i stages.Idle ne)) ∙ entered) low meets))
      (cases_eq i r)

  -- each entered runner holds what it meets
  pub met_after : (step : Step) → (ok : Enabled m layout c j step)
      → HoldMet m c (after m layout c j step).agreement.shared.cells (after m layout c j step).epochs (after m layout c j step).walk
  met_after (Agreement v) ok = met_cells _ (leaves (Agreement v) ok)
  met_after (Epochs v) ok = λ r t entered low meets. stays_held c e v ok.0 r t low
      (kept.met r t (was_entered c e v ok.0 ok.1 r entered) low meets)
  met_after (Enter r) ok = met_enter r ok
  met_after (Read r place) ok = met_read r place ok
  met_after (Leave r) ok = met_leave r
  met_after (Publish r d lock word request code slot op thunk) ok = met_cells _
      (leaves (Publish r d lock word request code slot op thunk) ok)
  met_after (Fill r cell log value t word) ok = met_cells _ (leaves (Fill r cell log value t word) ok)
  met_after (Make r log t worn) ok = kept.met
  met_after (LoadEpoch r log t) ok = kept.met
  met_after (Retire r log t) ok = kept.met

  -- the readings of an open section are those of its publisher when it published it
  open_read : (d : ℕ) → IsOpen a d → HasRead e j.walk (p.runner d) (p.readings d)
  open_read d is = kept.publishers d (section_with m p d ((a.section d).log) ((a.section d).edge))
      (shown_open m p d (a.used d) (a.section d) is.used is.undone)

  -- it is enough to speak of the open sections
  by_open : (a' : AgreementState) (p' : Publications) (e' : EpochState) (walk' : ℕ → Readings)
      → ((d : ℕ) → IsOpen a' d → HasRead e' walk' (p'.runner d) (p'.readings d))
      → HavePublishers e' walk' p'.runner (λ d. sections_of m p' a' d)
  by_open a' p' e' walk' reads d x here =
      let is = shown_some m p' d (a'.used d) (a'.section d) x here in
      subst (HasRead e' walk' (p'.runner d)) (sym (ap (λ (y : scenes.Section). y.readings) is.same))
      (reads d (record { used = is.used; undone = is.undone }))

  published_event : (v : agreement.Event) → is_publication v ≡ false → agreement.Enabled (rules_of m layout) a v
      → HavePublishers e j.walk p.runner (λ d. sections_of m p (agreement.after a v) d)
  published_event v other ok = by_open (agreement.after a v) p e j.walk
      (λ d is. open_read d (was_open (rules_of m layout) a v other ok d is))

  published_enter : (r : ℕ) → epochs.Enabled c e (epochs.EnterAgain r)
      → HavePublishers (epochs.after c e (epochs.EnterAgain r)) (upd j.walk r []) p.runner (λ d. sections_of m p a d)
  published_enter r ok d x here =
      let by = kept.publishers d x here in
      let ne : p.runner d ≢ r = λ same. true_false by.entered (ap (λ n. is_entered (e.stage n)) same ∙ ap is_entered ok) in
      record {
        entered = ap is_entered (upd_other e.stage r (p.runner d) (stages.Entered e.epoch) ne) ∙ by.entered;
        read = λ i place word there. subst (λ list. slice_get list i ≡ Some (place, word)) (sym (upd_other j.walk r (p.runner d) [] ne))
            (by.read i place word there);
      }

  published_read : (r place : ℕ) → HavePublishers e (upd j.walk r (j.walk r ++ (place, a.shared.cells place) ∷ [])) p.runner
      (λ d. sections_of m p a d)
  published_read r q d x here = let by = kept.publishers d x here in record {
    entered = by.entered;
    read = λ i place word there. ⊎_elim
        (λ same. subst (λ list. slice_get list i ≡ Some (place, word))
        (sym (upd_same j.walk r (p.runner d) (j.walk r ++ (q, a.shared.cells q) ∷ []) same))
        (get_more (j.walk r) ((q, a.shared.cells q) ∷ []) (place, word) i
        (subst (λ n. slice_get (j.walk n) i ≡ Some (place, word)) same (by.read i place word there))))
        (λ ne. subst (λ list. slice_get list i ≡ Some (place, word))
        (sym (upd_other j.walk r (p.runner d) (j.walk r ++ (q, a.shared.cells q) ∷ []) ne)) (by.read i place word there))
        (cases_eq (p.runner d) r);
  }

  published_leave : (r : ℕ) → ((d : ℕ) → IsOpen a d → p.runner d ≢ r)
      → HavePublishers (epochs.after c e (epochs.Exit r)) j.walk p.runner (λ d. sections_of m p a d)
  published_leave r none d x here =
      let by = kept.publishers d x here in let is = shown_some m p d (a.used d) (a.section d) x here in
      record {
        entered = ap is_entered (upd_other e.stage r (p.runner d) stages.Idle (none d (record { used = is.used; undone = is.undone })))
            ∙ by.entered;
        read = by.read;
      }

  published_new : (r d lock word request : ℕ) (code : ℕ → Micro) (slot : ℕ → ℕ) (op : Op) (thunk : Thunk) → is_entered (e.stage r) ≡ true
      → HavePublishers e j.walk (upd p.runner d r)
      (λ i. sections_of m (publishes p d r op thunk (j.walk r)) (agreement.after a (agreement.Publish d lock word request code slot)) i)
  published_new r d lock word request code slot op thunk entered =
      by_open (agreement.after a (agreement.Publish d lock word request code slot)) (publishes p d r op thunk (j.walk r)) e j.walk
      (λ i is. ⊎_elim
      (λ same. subst (λ n. HasRead e j.walk n (upd p.readings d (j.walk r) i)) (sym (upd_same p.runner d i r same))
      (subst (HasRead e j.walk r) (sym (upd_same p.readings d i (j.walk r) same))
      (record { entered = entered; read = λ k place word there. there })))
      (λ ne. subst (λ n. HasRead e j.walk n (upd p.readings d (j.walk r) i)) (sym (upd_other p.runner d i r ne))
      (subst (HasRead e j.walk (p.runner i)) (sym (upd_other p.readings d i (j.walk r) ne))
      (open_read i (record {
        used = sym (upd_other a.used d i true ne) ∙ is.used;
        undone = sym (ap (λ (s : Section). s.done) (upd_other a.section d i (published a d lock word request code slot) ne)) ∙ is.undone;
      }))))
      (cases_eq i d))

  -- each open section's publisher is still in the entry in which it published it
  pub publishers_after : (step : Step) → Enabled m layout c j step
      → HavePublishers (after m layout c j step).epochs (after m layout c j step).walk (after m layout c j step).publications.runner
      (λ d. sections_of m (after m layout c j step).publications (after m layout c j step).agreement d)
  publishers_after (Agreement v) ok = published_event v (plain_unpublished v ok.0) ok.1
  publishers_after (Epochs v) ok = λ d x here. let by = kept.publishers d x here in
      record { entered = stays_entered c e v ok.0 ok.1 (p.runner d) by.entered; read = by.read }
  publishers_after (Enter r) ok = published_enter r ok
  publishers_after (Read r place) ok = published_read r place
  publishers_after (Leave r) ok = published_leave r ok.1
  publishers_after (Publish r d lock word request code slot op thunk) ok = published_new r d lock word request code slot op thunk ok.entered
  publishers_after (Fill r cell log value t word) ok = published_event
      (agreement.PrivateStore r cell log value (cell_of m t cell) word) refl ok.0
  publishers_after (Make r log t worn) ok = λ d x here. let by = published_event
      (agreement.MakeCommit r log (suc t)) refl ok.enabled d x here in record { entered = by.entered; read = by.read }
  publishers_after (LoadEpoch r log t) ok = λ d x here. let by = kept.publishers d x here in record { entered = by.entered; read = by.read }
  publishers_after (Retire r log t) ok = λ d x here. let by = published_event
      (agreement.RetireCommit r t log) refl ok.enabled d x here in record { entered = by.entered; read = by.read }
