-- The kinds of step that change the epoch, an announcement or a stage, as events of the component.
use Rattle.std.specs.Prelude.{◌==◌, ◌&&◌, cond, Bool, true, false}
use Rattle.std.proofs.Common.{◌≡◌, ℕ, suc, ◌+◌, ◌<◌, ◌≤◌, refl, sym, ap, ◌∙◌}
use Rattle.machine_states.specs.table_words.specs.declared.layout.Layout.{Layout}
use Rattle.machine_states.specs.table_words.specs.declared.spot.Spot.{Spot}
use Rattle.machine_states.specs.table_words.specs.declared.spot.Spot.TheVariants.{Epoch, Announcement}
use Rattle.machine_states.specs.table_words.specs.Access.{exchanged}
use Rattle.machine_states.specs.table_words.specs.Seen.{upd, put}
use Rattle.machine_states.specs.structure_laws.specs.Meaning.{Meaning}
use Rattle.machine_states.specs.epoch_core.specs.declared.stage.Stage.{Stage}
use Rattle.machine_states.specs.epoch_core.specs.declared.stage.Stage.TheVariants.{Idle, Loaded, Announced, Entered, Scanning}
use Rattle.machine_states.specs.runner_parts.specs.State.{PartState}
use Rattle.machine_states.specs.epoch_core.specs.Moves.{is_clear, is_over, advanced}
use Rattle.machine_states.specs.epoch_core.specs.State.{Counts, EpochState, last_epoch, is_entered}
use Rattle.machine_states.specs.epoch_core.specs.Events as events
use Rattle.machine_states.specs.epoch_core.specs.Events.{Enabled, after}
use Rattle.machine_states.specs.Sight.{Sight}
use Rattle.machine_states.proofs.Updates.{map_cond, put_same}
use Rattle.machine_epochs.specs.Entries.{counts_of}
use Rattle.machine_epochs.specs.Slots.{ShowsEntries}

-- what one function is at each place, another is after both have changed at one place
pub changed : {A B : Type 0} → (f : ℕ → A) (g : ℕ → B) (h : B → A) (r : ℕ) (a : A) (b : B) → a ≡ h b → ((i : ℕ) → f i ≡ h (g i)) → (i : ℕ) → upd f r a i ≡ h (upd g r b i)
changed f g h r a b e each i = (λ j. cond (i == r) (e j) (each i j)) ∙ sym (map_cond h (i == r) b (g i))

module _ (m : Meaning) (l : Layout) (w : EpochState) (s : Sight) (shows : ShowsEntries w s) (r : ℕ) (p : PartState) where
  abbrev c : Counts
  c = counts_of m l

  -- an event of the component that may come, after which it has the machine's entries
  abbrev Enters : events.Event → (Spot → ℕ) → Type 0
  Enters e f = Enabled c w e × ShowsEntries (after c w e) (record { word = f; part = upd s.part r p })

  is_at : (st : Stage) → (s.part r).stage ≡ st → w.stage r ≡ st
  is_at st e = shows.stage r ∙ e

  stages : (a : Stage) (st : Stage) → a ≡ st → p.stage ≡ st → (i : ℕ) → upd w.stage r a i ≡ (upd s.part r p i).stage
  stages a st e is i = changed w.stage s.part (λ (q : PartState). q.stage) r a p (e ∙ sym is) shows.stage i

  announced : (v v' : ℕ) → v ≡ v' → (i : ℕ) → upd w.announced r v i ≡ put s.word (Announcement r) v' (Announcement i)
  announced v v' e i = λ j. cond (i == r) (e j) (shows.announced i j)

  pub enter_load : (s.part r).stage ≡ Idle → p.stage ≡ Loaded (s.word Epoch) → Enters (events.EnterLoad r) (put s.word Epoch (s.word Epoch))
  enter_load was is = (is_at Idle was, record { epoch = shows.epoch; announced = shows.announced; stage = stages _ _ (ap Loaded shows.epoch) is })

  pub announce : (e : ℕ) → r ≤ l.runners → (s.part r).stage ≡ Loaded e → p.stage ≡ Announced → Enters (events.Announce r e) (put s.word (Announcement r) e)
  announce e some was is = ((some, is_at (Loaded e) was), record { epoch = shows.epoch; announced = announced e e refl; stage = stages _ _ refl is })

  pub enter_again : (s.part r).stage ≡ Announced → p.stage ≡ Entered (s.word Epoch) → Enters (events.EnterAgain r) (put s.word Epoch (s.word Epoch))
  enter_again was is = (is_at Announced was, record { epoch = shows.epoch; announced = shows.announced; stage = stages _ _ (ap Entered shows.epoch) is })

  pub exit : (g : ℕ) → (w.retire r).loaded ≡ false → (s.part r).stage ≡ Entered g → p.stage ≡ Idle → Enters (events.Exit r) (put s.word (Announcement r) 0)
  exit g unloaded was is = ((ap is_entered (is_at (Entered g) was), unloaded), record { epoch = shows.epoch; announced = announced 0 0 refl; stage = stages _ _ refl is })

  pub scan_epoch : (s.part r).stage ≡ Idle → p.stage ≡ Scanning (s.word Epoch) 0 true → Enters (events.ScanEpoch r) (put s.word Epoch (s.word Epoch))
  scan_epoch was is = (is_at Idle was, record { epoch = shows.epoch; announced = shows.announced; stage = stages _ _ (ap (λ e. Scanning e 0 true) shows.epoch) is })

  -- the next announcement of a scan; `still` says whether it is clear with it
  module _ (x n : ℕ) (clear : Bool) (some : n ≤ l.runners) (was : (s.part r).stage ≡ Scanning x n clear) where
    abbrev still : Bool
    still = clear && is_clear x (s.word (Announcement n))

    seen_still : clear && is_clear x (w.announced n) ≡ still
    seen_still = ap (λ a. clear && is_clear x a) (shows.announced n)

    loads : (i : ℕ) → w.announced i ≡ put s.word (Announcement n) (s.word (Announcement n)) (Announcement i)
    loads i = shows.announced i ∙ sym (ap (λ (g : Spot → ℕ). g (Announcement i)) (put_same s.word (Announcement n)))

    pub scan_one : is_over l.runners x n still ≡ false → p.stage ≡ Scanning x (suc n) still → Enters (events.ScanOne r x n clear) (put s.word (Announcement n) (s.word (Announcement n)))
    scan_one over is = (
      (is_at (Scanning x n clear) was, some, ap (is_over l.runners x n) seen_still ∙ over),
      record { epoch = shows.epoch; announced = loads; stage = stages _ _ (ap (Scanning x (suc n)) seen_still) is },
    )

    pub scan_last : is_over l.runners x n still ≡ true → p.stage ≡ Idle → Enters (events.ScanLast r x n clear) (put s.word (Announcement n) (s.word (Announcement n)))
    scan_last over is = ((is_at (Scanning x n clear) was, ap (is_over l.runners x n) seen_still ∙ over), record { epoch = shows.epoch; announced = loads; stage = stages _ _ refl is })

  pub advance : (x next : ℕ) → (s.part r).stage ≡ Scanning x next true → l.runners < next → x < last_epoch → p.stage ≡ Idle → Enters (events.Advance r x next) (put s.word Epoch (exchanged (s.word Epoch) x (x + 1)))
  advance x next was past some is = ((is_at (Scanning x next true) was, past, some), record { epoch = ap (λ e. advanced e x) shows.epoch; announced = shows.announced; stage = stages _ _ refl is })
