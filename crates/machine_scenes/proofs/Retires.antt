-- The Retires for which an epoch is loaded, over each event of epochs and slots.
use Rattle.std.proofs.Common.{◌≡◌, ◌≢◌, ℕ, suc, ◌<◌, ◌≤◌, Bool, true, refl, sym, ap, ◌∙◌, subst, ⊎_elim, arith}
use Rattle.std.proofs.lemmas.Bool.{cases_eq, both_ways}
use Rattle.std.proofs.lemmas.Bool.Decides.{nat_tests}
use Rattle.agreement_core.specs.section_lines.specs.structure_laws.proofs.Changes.{upd_same, upd_other}
use Rattle.epoch_core.specs.Update.{upd, upd2, upd_row}
use Rattle.epoch_core.specs.declared.stage.Stage.{Stage}
use Rattle.epoch_core.specs.declared.stage.Stage.TheVariants as stages
use Rattle.epoch_core.specs.declared.location.Location.TheVariants as locations
use Rattle.epoch_core.specs.State.{Counts, EpochState, Retiring, is_entered, entry_of, IsPending, IsKept, no_retire}
use Rattle.epoch_core.specs.Moves.{written_once}
use Rattle.epoch_core.specs.Events.{Event, Enabled, after, slot_of}
use Rattle.epoch_core.specs.Events as events
use Rattle.epoch_core.specs.Sound.{IsSound}
use Rattle.machine_scenes.specs.Kinds.{is_alone}

pair_same : (f : ℕ → ℕ → ℕ) (d k v i j : ℕ) → i ≡ d → j ≡ k → upd2 f d k v i j ≡ v
pair_same f d k v i j e e' = grind (arith, nat_tests)

pair_other : (f : ℕ → ℕ → ℕ) (d k v i j : ℕ) → j ≢ k → upd2 f d k v i j ≡ f i j
pair_other f d k v i j ne = grind (arith, nat_tests)

row_other : (f : ℕ → ℕ → ℕ) (d k v i j : ℕ) → i ≢ d → upd2 f d k v i j ≡ f i j
row_other f d k v i j ne = grind (arith, nat_tests)

all_row_other : (f : ℕ → ℕ → ℕ) (d : ℕ) (row : ℕ → ℕ) (i j : ℕ) → i ≢ d → upd_row f d row i j ≡ f i j
all_row_other f d row i j ne = grind (arith, nat_tests)

was_zero : (found v : ℕ) → written_once found v ≡ 0 → found ≡ 0
was_zero found v e = grind (arith, nat_tests)

some_written : (found v : ℕ) → 0 < v → written_once found v ≢ 0
some_written found v some e = grind (arith, nat_tests)

-- a log word that is 0 after one was written was 0 before
pub written_zero : (f : ℕ → ℕ → ℕ) (d k v i j : ℕ) → upd2 f d k (written_once (f d k) v) i j ≡ 0 → f i j ≡ 0
written_zero f d k v i j zero = ⊎_elim
    (λ e. ⊎_elim
    (λ e'. ap (λ n. f n j) e ∙ (ap (f d) e' ∙ was_zero (f d k) v (sym (pair_same f d k (written_once (f d k) v) i j e e') ∙ zero)))
    (λ ne. sym (pair_other f d k (written_once (f d k) v) i j ne) ∙ zero) (cases_eq j k))
    (λ ne. sym (row_other f d k (written_once (f d k) v) i j ne) ∙ zero) (cases_eq i d)

-- and where a word that isn't 0 was written, that is another one
pub written_other : (f : ℕ → ℕ → ℕ) (d k v i j : ℕ) → 0 < v → upd2 f d k (written_once (f d k) v) i j ≡ 0 → i ≡ d → j ≡ k → ⊥
written_other f d k v i j some zero e e' = some_written (f d k) v some (sym (pair_same f d k (written_once (f d k) v) i j e e') ∙ zero)

module _ (c : Counts) (e : EpochState) (old : IsSound c e) where
  -- each loaded epoch is no earlier than the entry of the runner that loaded it
  abbrev pub AreRecent : EpochState → Type 0
  AreRecent e = (r : ℕ) → (e.retire r).loaded ≡ true → entry_of (e.stage r) ≤ (e.retire r).epoch

  -- who has loaded an epoch for a Retire is entered
  pub loaded_entered : (r : ℕ) → (e.retire r).loaded ≡ true → is_entered (e.stage r) ≡ true
  loaded_entered r loaded = old.holder r (slot_of c ((e.retire r).descriptor)) (old.retire_held r loaded)

  module _ (recent : AreRecent e) where
    stage_changes : (r : ℕ) (stage : Stage) → ((e.retire r).loaded ≡ true → entry_of stage ≤ (e.retire r).epoch) → (i : ℕ)
        → (e.retire i).loaded ≡ true → entry_of (upd e.stage r stage i) ≤ (e.retire i).epoch
    stage_changes r stage here i loaded = ⊎_elim
        (λ same. subst (λ x. entry_of x ≤ (e.retire i).epoch) (sym (upd_same e.stage r i stage same))
        (subst (λ n. entry_of stage ≤ (e.retire n).epoch) (sym same) (here (subst (λ n. (e.retire n).loaded ≡ true) same loaded))))
        (λ ne. subst (λ x. entry_of x ≤ (e.retire i).epoch) (sym (upd_other e.stage r i stage ne)) (recent i loaded)) (cases_eq i r)

    idle : (r : ℕ) (stage : Stage) → entry_of stage ≡ 0 → (i : ℕ) → (e.retire i).loaded ≡ true
        → entry_of (upd e.stage r stage i) ≤ (e.retire i).epoch
    idle r stage zero = stage_changes r stage (λ loaded. omega arith)

    retire_changes : (r : ℕ) (x : Retiring) → (x.loaded ≡ true → entry_of (e.stage r) ≤ x.epoch) → (i : ℕ)
        → (upd e.retire r x i).loaded ≡ true → entry_of (e.stage i) ≤ (upd e.retire r x i).epoch
    retire_changes r x here i loaded = ⊎_elim
        (λ same. let is = upd_same e.retire r i x same in
        subst (λ (y : Retiring). entry_of (e.stage i) ≤ y.epoch) (sym is)
        (subst (λ n. entry_of (e.stage n) ≤ x.epoch) (sym same) (here (sym (ap (λ (y : Retiring). y.loaded) is) ∙ loaded))))
        (λ ne. let is = upd_other e.retire r i x ne in
        subst (λ (y : Retiring). entry_of (e.stage i) ≤ y.epoch) (sym is) (recent i (sym (ap (λ (y : Retiring). y.loaded) is) ∙ loaded)))
        (cases_eq i r)

    pub recent_after : (v : Event) → Enabled c e v → AreRecent (after c e v)
    recent_after (events.EnterLoad r) ok = idle r (stages.Loaded e.epoch) refl
    recent_after (events.Announce r g) ok = idle r stages.Announced refl
    recent_after (events.EnterAgain r) ok = stage_changes r (stages.Entered e.epoch)
        (λ loaded. absurd (both_ways _ (ap is_entered ok) (loaded_entered r loaded)))
    recent_after (events.Exit r) ok = idle r stages.Idle refl
    recent_after (events.ScanEpoch r) ok = idle r (stages.Scanning e.epoch 0 true) refl
    recent_after (events.ScanOne r x n b) ok = idle r _ refl
    recent_after (events.ScanLast r x n b) ok = idle r stages.Idle refl
    recent_after (events.Advance r x n) ok = idle r stages.Idle refl
    recent_after (events.Test r s worn) ok = recent
    recent_after (events.TakeSlot r s) ok = recent
    recent_after (events.GiveBoard r s i) ok = recent
    recent_after (events.TakeBoard r s i) ok = recent
    recent_after (events.MakeCommit r d k s worn) ok = recent
    recent_after (events.RetireEpoch r d k s) ok = retire_changes r
        (record { loaded = true; descriptor = d; index = k; slot = s; epoch = e.epoch })
        (λ loaded. old.entered_most r (old.holder r (slot_of c d) ok.1))
    recent_after (events.RetireCommit r) ok = retire_changes r no_retire (λ loaded. absurd (both_ways _ refl loaded))
    recent_after (events.WordCommit r d k word) ok = recent
    recent_after (events.StoreLog r d k word) ok = recent
    recent_after (events.Reach r slots) ok = recent
    recent_after (events.Publish r d roles) ok = recent
    recent_after (events.RetireDescriptor r d) ok = recent
    recent_after (events.Unguard r) ok = recent
    recent_after (events.Sweep r descriptors) ok = recent

  -- a store into the log of a free descriptor is into no log of a Retire for which an epoch is loaded
  store_other : (r d k word i : ℕ) → e.location (slot_of c d) ≡ locations.Free r → (e.retire i).loaded ≡ true → (e.retire i).descriptor ≢ d
  store_other r d k word i free loaded same =
      let held = old.held i (slot_of c ((e.retire i).descriptor)) (old.retire_held i loaded) in
      subst (λ l. IsKept l (entry_of (e.stage i))) (ap (λ n. e.location (slot_of c n)) same ∙ free) held

  -- but for an event of a Retire, a Retire that isn't agreed wasn't so before
  pub was_pending : (v : Event) → is_alone v ≡ true → Enabled c e v → (i : ℕ) → IsPending (after c e v) i → IsPending e i
  was_pending (events.EnterLoad r) alone ok i pending = pending
  was_pending (events.Announce r g) alone ok i pending = pending
  was_pending (events.EnterAgain r) alone ok i pending = pending
  was_pending (events.Exit r) alone ok i pending = pending
  was_pending (events.ScanEpoch r) alone ok i pending = pending
  was_pending (events.ScanOne r x n b) alone ok i pending = pending
  was_pending (events.ScanLast r x n b) alone ok i pending = pending
  was_pending (events.Advance r x n) alone ok i pending = pending
  was_pending (events.Test r s worn) alone ok i pending = pending
  was_pending (events.TakeSlot r s) alone ok i pending = pending
  was_pending (events.GiveBoard r s n) alone ok i pending = pending
  was_pending (events.TakeBoard r s n) alone ok i pending = pending
  was_pending (events.MakeCommit r d k s worn) alone ok i pending = absurd (cc)
  was_pending (events.RetireEpoch r d k s) alone ok i pending = absurd (cc)
  was_pending (events.RetireCommit r) alone ok i pending = absurd (cc)
  was_pending (events.WordCommit r d k word) alone ok i
      pending = (pending.0, written_zero e.log d k word ((e.retire i).descriptor) ((e.retire i).index) pending.1)
  was_pending (events.StoreLog r d k word) alone ok i pending = (
    pending.0,
    sym (row_other e.log d k word ((e.retire i).descriptor) ((e.retire i).index) (store_other r d k word i ok pending.0)) ∙ pending.1,
  )
  was_pending (events.Reach r slots) alone ok i pending = pending
  was_pending (events.Publish r d roles) alone ok i pending = (
    pending.0,
    sym (all_row_other e.log d (λ k. 0) ((e.retire i).descriptor) ((e.retire i).index) (store_other r d 0 0 i ok.1 pending.0)) ∙ pending.1,
  )
  was_pending (events.RetireDescriptor r d) alone ok i pending = pending
  was_pending (events.Unguard r) alone ok i pending = pending
  was_pending (events.Sweep r descriptors) alone ok i pending = pending

  -- the retire in an event alone stands
  pub retire_alone : (v : Event) → is_alone v ≡ true → (i : ℕ) → (after c e v).retire i ≡ e.retire i
  retire_alone (events.RetireEpoch r d k s) alone i = absurd (cc)
  retire_alone (events.RetireCommit r) alone i = absurd (cc)
  retire_alone v alone i = refl

  -- over the commit of a Make
  pub was_pending_make : (r d k s : ℕ) (worn : Bool) (i : ℕ) → IsPending (after c e (events.MakeCommit r d k s worn)) i → IsPending e i
  was_pending_make r d k s worn i pending = (
    pending.0,
    written_zero e.log d k (suc s) ((e.retire i).descriptor)
        ((e.retire i).index) pending.1,
  )

  -- over the commit of a Retire those of others remain
  pub record IsOther (r i : ℕ) : Type 0 where
    pub same : (after c e (events.RetireCommit r)).retire i ≡ e.retire i
    pub before : IsPending e i
    pub apart : (e.retire r).descriptor ≡ (e.retire i).descriptor → (e.retire r).index ≡ (e.retire i).index → ⊥

  pub was_pending_retire : (r i : ℕ) → IsPending (after c e (events.RetireCommit r)) i → IsOther r i
  was_pending_retire r i pending = ⊎_elim
      (λ same. absurd (both_ways _ refl (sym (ap (λ (x : Retiring). x.loaded) (upd_same e.retire r i no_retire same)) ∙ pending.0)))
      (λ ne.
      let is = upd_other e.retire r i no_retire ne in
      let log : ℕ → ℕ → ℕ = upd2 e.log ((e.retire r).descriptor) ((e.retire r).index)
      (written_once (e.log ((e.retire r).descriptor) ((e.retire r).index)) (suc ((e.retire r).slot))) in
      let zero : log ((e.retire i).descriptor) ((e.retire i).index) ≡ 0 = sym (ap (λ (x : Retiring). log x.descriptor x.index) is)
      ∙ pending.1 in
      record {
        same = is;
        before = (
          sym (ap (λ (x : Retiring). x.loaded) is) ∙ pending.0,
          written_zero e.log ((e.retire r).descriptor) ((e.retire r).index) (suc ((e.retire r).slot)) ((e.retire i).descriptor)
              ((e.retire i).index) zero,
        );
        apart = λ f g. written_other e.log ((e.retire r).descriptor) ((e.retire r).index) (suc ((e.retire r).slot))
            ((e.retire i).descriptor) ((e.retire i).index) (omega arith) zero (sym f) (sym g);
      })
      (cases_eq i r)

  -- the loading of an epoch
  pub was_pending_load : (r d k s i : ℕ) → i ≢ r → IsPending (after c e (events.RetireEpoch r d k s)) i → IsPending e i
  was_pending_load r d k s i ne pending =
      let is = upd_other e.retire r i (record { loaded = true; descriptor = d; index = k; slot = s; epoch = e.epoch }) ne in
      (sym (ap (λ (x : Retiring). x.loaded) is) ∙ pending.0, sym (ap (λ (x : Retiring). e.log x.descriptor x.index) is) ∙ pending.1)
