-- The publishers of sections hold the slots in which the sections' locks stand, so a lock in a free slot is free.
use Rattle.std.proofs.Common.{◌≡◌, ℕ, zero, suc, ◌<◌, ◌≤◌, Bool, true, false, refl, sym, ap, ◌∙◌, subst, inl, inr, ⊎_elim, arith}
use Rattle.std.specs.Prelude.{cond, nat_lt, [], ◌∷◌, ◌++◌}
use Rattle.std.proofs.lemmas.Bool.{cases_eq, cases_lt}
use Rattle.std.proofs.lemmas.Bool.Decides.{nat_tests}
use Rattle.agreement_core.specs.map_history.specs.declared.op.Op.{Op}
use Rattle.agreement_core.specs.body_terms.specs.Update.{upd}
use Rattle.agreement_core.specs.body_terms.specs.Word.{value_of}
use Rattle.agreement_core.specs.body_terms.specs.declared.micro.Micro.{Micro}
use Rattle.agreement_core.specs.body_terms.specs.declared.micro.Micro.TheVariants as micros
use Rattle.agreement_core.specs.body_terms.specs.declared.thunk.Thunk.{Thunk}
use Rattle.agreement_core.specs.table_words.specs.declared.layout.Layout.{Layout}
use Rattle.agreement_core.specs.table_words.specs.Limits.{IsWithinLimits}
use Rattle.agreement_core.specs.section_lines.specs.structure_laws.specs.Scene.{Readings, Status, Free, Live}
use Rattle.agreement_core.specs.section_lines.specs.structure_laws.specs.Meaning.{Meaning}
use Rattle.agreement_core.specs.section_lines.specs.structure_laws.specs.Cells.{cell_of, slots, IsKnown}
use Rattle.agreement_core.specs.section_lines.specs.structure_laws.specs.Laws.{Laws}
use Rattle.agreement_core.specs.section_lines.specs.structure_laws.specs.Shape.{Shaped}
use Rattle.agreement_core.specs.section_lines.specs.structure_laws.proofs.Changes.{upd_same, upd_other}
use Rattle.agreement_core.specs.section_lines.proofs.Sources.{of_take}
use Rattle.agreement_core.specs.State.{Section, AgreementState}
use Rattle.agreement_core.specs.Continuing.{GoesOn}
use Rattle.agreement_core.specs.Events as agreement
use Rattle.agreement_core.specs.Sections.{HoldsWith}
use Rattle.agreement_core.proofs.Continuing.{goes_on_all}
use Rattle.epoch_core.specs.declared.location.Location.{Location}
use Rattle.epoch_core.specs.declared.location.Location.TheVariants as locations
use Rattle.epoch_core.specs.declared.stage.Stage.{Stage}
use Rattle.epoch_core.specs.declared.stage.Stage.TheVariants as stages
use Rattle.epoch_core.specs.State.{Counts, EpochState, is_entered}
use Rattle.epoch_core.specs.State as epochs
use Rattle.epoch_core.specs.Events as events
use Rattle.epoch_core.specs.Sound as epochs_sound
use Rattle.machine_scenes.specs.Shown.{States, rules_of, status_at, status_of, scene_of}
use Rattle.machine_scenes.specs.Kinds.{is_publication}
use Rattle.machine_scenes.specs.Steps.{Step, Agreement, Epochs, Enter, Read, Leave, Publish, Fill, Make, LoadEpoch, Retire, after, Enabled, published, descriptor_of, MayPublish}
use Rattle.machine_scenes.specs.Kept.{IsKept}
use Rattle.machine_scenes.proofs.Readers.{entered_reads}
use Rattle.machine_scenes.proofs.Links.{one_slot, no_slot}
use Rattle.machine_scenes.proofs.Entries.{stays_entered, stays_held, others_hold}
use Rattle.machine_scenes.proofs.Retiring.{plain_unpublished}
use Rattle.machine_scenes.proofs.Kept.{step_kept}
use Rattle.machine_scenes.proofs.Supplies.{supplies_epochs}
use Rattle.machine_slots.specs.Hands.{IsLockOf, IsHeldBack, LocksAreHeld, LocksAreFree}

-- a slot that may be held isn't free
kept_used : (l : Location) (entry : ℕ) → epochs.IsKept l entry → status_at l ≡ Free → ⊥
kept_used locations.Fixed entry kept free = cc
kept_used locations.Live entry kept free = cc
kept_used (locations.Limbo r y) entry kept free = cc
kept_used (locations.Hand r) entry kept free = kept
kept_used (locations.Free r) entry kept free = kept
kept_used (locations.Worn r) entry kept free = kept
kept_used (locations.OnBoard i) entry kept free = kept

-- the status of a node slot
inside : (c : Counts) (location : ℕ → Location) (t : ℕ) → t < c.nodes → status_of c location t ≡ status_at (location t)
inside c location t low = below t c.nodes (status_at (location t)) low
  where
    below : (t n : ℕ) (x : Status) → t < n → cond (nat_lt t n) x Free ≡ x
    below t n x lt = grind (arith, nat_tests)

-- a held node slot isn't free
pub held_used : (c : Counts) (e : EpochState) → epochs_sound.IsSound c e → (r t : ℕ) → e.holds r t ≡ true → t < c.nodes
    → status_of c e.location t ≡ Free → ⊥
held_used c e sound r t held low free =
    kept_used (e.location t) (epochs.entry_of (e.stage r)) (sound.held r t held) (sym (inside c e.location t low) ∙ free)

live_free : Live ≡ Free → ⊥
live_free e = cc

-- a lock that a section holds is one of its locks
pub lock_held : (d : ℕ) (s : Section) (place word : ℕ) → HoldsWith d s place word → IsLockOf s place
lock_held d s place word holds = ⊎_elim (λ outer. inl outer.0) (λ nested. inr (nested.0, nested.1, nested.3)) holds

-- a section that goes on has the locks that it had
lock_before : (s s' : Section) → GoesOn s s' → (place : ℕ) → IsLockOf s' place → IsLockOf s place
lock_before s s' goes place lock = ⊎_elim (λ outer. inl (outer ∙ goes.lock))
    (λ nested. inr (nested.0, nested.1, ap (λ (f : ℕ → Micro). f nested.0) (sym goes.code) ∙ nested.2)) lock

-- but for a publication, a section that isn't retired was so before
event_live : (w : AgreementState) (v : agreement.Event) → is_publication v ≡ false → (d : ℕ) → (agreement.after w v).live d ≡ true
    → w.live d ≡ true
event_live w (agreement.Publish d lock word request code slot) other i live = cc
event_live w (agreement.RetireDescriptor d) other i live = ⊎_elim
    (λ same. absurd (neither (w.live i) live (upd_same w.live d i false same)))
    (λ ne. sym (upd_other w.live d i false ne) ∙ live) (cases_eq i d)
  where
    neither : (b : Bool) → upd w.live d false i ≡ true → upd w.live d false i ≡ false → ⊥
    neither b e e' = cc
event_live w v other i live = live

module _ (m : Meaning) (laws : Laws m) (layout : Layout) (limits : IsWithinLimits layout) (c : Counts) (nodes : c.nodes ≡ slots m layout) where
  -- a free slot is none of the structure's fixed ones
  pub unfixed : (j : States) → IsKept m layout c j → (t : ℕ) → status_of c j.epochs.location t ≡ Free → m.fixed_slots ≤ t
  unfixed j kept t free = ⊎_elim (λ lt. absurd (live_free (sym (kept.lawful.sound.fixed t lt) ∙ free))) (λ le. le) (cases_lt t m.fixed_slots)

  -- a lock of a section that isn't retired stands in no free slot
  pub lock_used : (j : States) → IsKept m layout c j → LocksAreHeld m c j → (d t i : ℕ) → j.agreement.live d ≡ true → t < c.nodes → i < 5
      → IsLockOf (j.agreement.section d) (cell_of m t i) → status_of c j.epochs.location t ≡ Free → ⊥
  lock_used j kept held d t i live low five lock free = held_used c j.epochs kept.epochs (j.publications.runner d) t
      (held.held d t i live five low (unfixed j kept t free) lock) low free

  -- so a lock in a free slot names no section
  pub locks_free : (j : States) → IsKept m layout c j → LocksAreHeld m c j → LocksAreFree m c j
  locks_free j kept held t i low five free lock = by_value (value_of (j.agreement.shared.cells (cell_of m t i))) refl
    where
      by_value : (v : ℕ) → value_of (j.agreement.shared.cells (cell_of m t i)) ≡ v → v ≡ 0
      by_value zero is = refl
      by_value (suc d) is =
          let live = kept.agreement.named (cell_of m t i) d lock is in
          let own = kept.agreement.sections d (kept.agreement.live_used d live) in
          absurd (lock_used j kept held d t i live low five
          (lock_held d (j.agreement.section d) (cell_of m t i) (j.agreement.shared.cells (cell_of m t i))
          (own.section.in_locks.held (cell_of m t i) lock is)) free)

  module _ (j : States) (kept : IsKept m layout c j) where
    abbrev a : AgreementState
    a = j.agreement

    abbrev e : EpochState
    e = j.epochs

    -- a section that isn't retired was so before, with the same locks and publisher, and its publisher stays entered and holds what it held
    record Stays (j' : States) (d : ℕ) : Type 0 where
      live : a.live d ≡ true
      lock : (place : ℕ) → IsLockOf (j'.agreement.section d) place → IsLockOf (a.section d) place
      runner : j'.publications.runner d ≡ j.publications.runner d
      entered : is_entered (e.stage (j.publications.runner d)) ≡ true → is_entered (j'.epochs.stage (j.publications.runner d)) ≡ true
      holds : (t : ℕ) → t < c.nodes → e.holds (j.publications.runner d) t ≡ true → j'.epochs.holds (j.publications.runner d) t ≡ true

    stays_locked : (j' : States) → LocksAreHeld m c j → ((d : ℕ) → j'.agreement.live d ≡ true → Stays j' d) → LocksAreHeld m c j'
    stays_locked j' held stays = record {
      entered = λ d live. let s = stays d live in ap (λ r. is_entered (j'.epochs.stage r)) s.runner ∙ s.entered (held.entered d s.live);
      held = λ d t i live five low high lock. let s = stays d live in
          ap (λ r. j'.epochs.holds r t) s.runner ∙ s.holds t low (held.held d t i s.live five low high (s.lock (cell_of m t i) lock));
    }

    -- an event of agreement, and epochs and slots in which nobody leaves
    event_locks : (v : agreement.Event) → is_publication v ≡ false → agreement.Enabled (rules_of m layout) a v → (e' : EpochState)
        → e'.stage ≡ e.stage → e'.holds ≡ e.holds → LocksAreHeld m c j
        → LocksAreHeld m c (record j { agreement = agreement.after a v; epochs = e' })
    event_locks v other ok e' stage holds held = stays_locked (record j { agreement = agreement.after a v; epochs = e' }) held
        (λ d live'. let live = event_live a v other d live' in record {
          live = live;
          lock = lock_before (a.section d) ((agreement.after a v).section d)
              (goes_on_all (rules_of m layout) a v ok d (kept.agreement.live_used d live));
          runner = refl;
          entered = λ h. ap (λ (f : ℕ → Stage). is_entered (f (j.publications.runner d))) stage ∙ h;
          holds = λ t low h. ap (λ (f : ℕ → ℕ → Bool). f (j.publications.runner d) t) holds ∙ h;
        })

    -- the same sections, and stages and holdings that stay for the publishers
    epoch_locks : (e' : EpochState) (walk' : ℕ → Readings) → LocksAreHeld m c j
        → ((d : ℕ) → a.live d ≡ true → is_entered (e.stage (j.publications.runner d)) ≡ true
        → is_entered (e'.stage (j.publications.runner d)) ≡ true)
        → ((d t : ℕ) → a.live d ≡ true → t < c.nodes → e.holds (j.publications.runner d) t ≡ true
        → e'.holds (j.publications.runner d) t ≡ true)
        → LocksAreHeld m c (record j { epochs = e'; walk = walk' })
    epoch_locks e' walk' held entered holds = stays_locked (record j { epochs = e'; walk = walk' }) held (λ d live. record {
      live = live;
      lock = λ place lock. lock;
      runner = refl;
      entered = entered d live;
      holds = λ t low. holds d t live low;
    })

    -- a place that an entered runner's readings give, and that is a cell of a slot which isn't fixed, is one of a slot that it holds
    pub known_held : (r t i : ℕ) → is_entered (e.stage r) ≡ true → t < c.nodes → i < 5 → m.fixed_slots ≤ t
        → IsKnown m (j.walk r) (cell_of m t i) → e.holds r t ≡ true
    known_held r t i entered low five high known = ⊎_elim
        (λ fixed. absurd (no_slot m.fixed_cells t i (cell_of m t i) fixed refl))
        (λ slot. let same = one_slot m.fixed_cells slot.0 t slot.1.0 i (cell_of m t i) slot.1.1 five slot.1.2 refl in ⊎_elim
        (λ fixed. absurd (omega arith))
        (λ reaches. (supplies_epochs m laws layout limits c nodes j kept).reached r t entered low
        (subst (λ n. m.reaches (j.walk r) n ≡ true) same reaches)) slot.2) known

    -- a new section
    module _ (r d lock word request : ℕ) (code : ℕ → Micro) (slot : ℕ → ℕ) (op : Op) (thunk : Thunk)
        (ok : MayPublish m layout c j r d lock word request code slot op thunk) where
      abbrev new : Section
      new = published a d lock word request code slot

      new_shaped : Shaped m layout (j.walk r) thunk
      new_shaped = (laws.over layout limits).shape (scene_of m c j) kept.lawful.sound kept.lawful.kept r (j.walk r) op thunk
          (entered_reads (e.stage r) (j.walk r) ok.entered) ok.allowed ok.fits

      -- its locks are places that its publisher's readings give
      pub new_known : (place : ℕ) → IsLockOf new place → IsKnown m (j.walk r) place
      new_known place is = ⊎_elim
          (λ outer. subst (IsKnown m (j.walk r)) (sym (outer ∙ ok.of_thunk.lock)) new_shaped.outer_known)
          (λ nested.
          let s = of_take (m.body thunk) nested.0 (micros.NestedHold place nested.1) (sym (ok.of_thunk.code nested.0) ∙ nested.2) refl in
          let f = s.2.from in
          let same : micros.NestedHold place nested.1 ≡ micros.NestedHold s.0 s.1 = s.2.same in
          let there : s.0 ≡ place = cc in
          subst (IsKnown m (j.walk r)) there (new_shaped.take_known f.n s.0 s.1 f.here)) is

      publish_locks : LocksAreHeld m c j → LocksAreHeld m c (after m layout c j (Publish r d lock word request code slot op thunk))
      publish_locks held = record {
        entered = λ i live. ⊎_elim
            (λ same. ap (λ n. is_entered (e.stage n)) (upd_same j.publications.runner d i r same) ∙ ok.entered)
            (λ ne. ap (λ n. is_entered (e.stage n)) (upd_other j.publications.runner d i r ne)
            ∙ held.entered i (sym (upd_other a.live d i true ne) ∙ live)) (cases_eq i d);
        held = λ i t k live five low high lock'. ⊎_elim
            (λ same. ap (λ n. e.holds n t) (upd_same j.publications.runner d i r same)
            ∙ known_held r t k ok.entered low five high
            (new_known (cell_of m t k) (subst (λ s. IsLockOf s (cell_of m t k)) (upd_same a.section d i new same) lock')))
            (λ ne. ap (λ n. e.holds n t) (upd_other j.publications.runner d i r ne)
            ∙ held.held i t k (sym (upd_other a.live d i true ne) ∙ live) five low high
            (subst (λ s. IsLockOf s (cell_of m t k)) (upd_other a.section d i new ne) lock')) (cases_eq i d);
      }

    -- each step keeps it, but where the publisher of a section that isn't retired leaves
    pub locks_held_after : (step : Step) → Enabled m layout c j step → IsHeldBack j step → LocksAreHeld m c j
        → LocksAreHeld m c (after m layout c j step)
    locks_held_after (Agreement v) ok back held = event_locks v (plain_unpublished v ok.0) ok.1 e refl refl held
    locks_held_after (Epochs v) ok back held = epoch_locks (events.after c e v) j.walk held
        (λ d live. stays_entered c e v ok.0 ok.1 (j.publications.runner d))
        (λ d t live low. stays_held c e v ok.0 (j.publications.runner d) t low)
    locks_held_after (Enter r) ok back held = epoch_locks (events.after c e (events.EnterAgain r)) (upd j.walk r []) held
        (λ d live entered. enters r (j.publications.runner d) entered) (λ d t live low h. h)
      where
        enters : (r i : ℕ) → is_entered (e.stage i) ≡ true → is_entered (upd e.stage r (stages.Entered e.epoch) i) ≡ true
        enters r i entered = ⊎_elim (λ same. ap is_entered (upd_same e.stage r i (stages.Entered e.epoch) same))
            (λ ne. ap is_entered (upd_other e.stage r i (stages.Entered e.epoch) ne) ∙ entered) (cases_eq i r)
    locks_held_after (Read r place) ok back held = epoch_locks e (upd j.walk r (j.walk r ++ (place, a.shared.cells place) ∷ [])) held
        (λ d live entered. entered) (λ d t live low h. h)
    locks_held_after (Leave r) ok back held = epoch_locks (events.after c e (events.Exit r)) j.walk held
        (λ d live entered. ap is_entered (upd_other e.stage r (j.publications.runner d) stages.Idle (back d live)) ∙ entered)
        (λ d t live low. others_hold c e r (j.publications.runner d) t (back d live))
    locks_held_after (Publish r d lock word request code slot op thunk) ok back held =
        publish_locks r d lock word request code slot op thunk ok held
    locks_held_after (Fill r cell log value t word) ok back held =
        event_locks (agreement.PrivateStore r cell log value (cell_of m t cell) word) refl ok.0 e refl refl held
    locks_held_after (Make r log t worn) ok back held = event_locks (agreement.MakeCommit r log (suc t)) refl ok.enabled
        (events.after c e (events.MakeCommit r (descriptor_of j r) log t worn)) refl refl held
    locks_held_after (LoadEpoch r log t) ok back held = epoch_locks
        (events.after c e (events.RetireEpoch r (descriptor_of j r) log t)) j.walk held
        (λ d live entered. entered) (λ d t live low h. h)
    locks_held_after (Retire r log t) ok back held = event_locks (agreement.RetireCommit r t log) refl ok.enabled
        (events.after c e (events.RetireCommit r)) refl refl held

    -- and a lock in a free slot stays free
    pub locks_free_after : (step : Step) → Enabled m layout c j step → IsHeldBack j step → LocksAreHeld m c j
        → LocksAreFree m c (after m layout c j step)
    locks_free_after step ok back held = locks_free (after m layout c j step)
        (step_kept m laws layout limits c nodes j step ok kept) (locks_held_after step ok back held)
