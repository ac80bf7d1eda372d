-- What is said of the epochs holds in every state that the machine reaches.
use Rattle.std.specs.Prelude.{cond, Bool, true, false, nat_lt, ◌==◌}
use Rattle.std.proofs.Common.{◌≡◌, ℕ, ◌+◌, ◌≤◌, List, [], ◌∷◌, sym, refl, ap, subst, ◌∙◌, Option, Some, None}
use Rattle.machine_states.specs.map_history.specs.declared.op.Request.{Request}
use Rattle.machine_states.specs.table_words.specs.declared.layout.Layout.{Layout}
use Rattle.machine_states.specs.table_words.specs.declared.spot.Spot.TheVariants.{Epoch, Announcement}
use Rattle.machine_states.specs.structure_laws.specs.Meaning.{Meaning}
use Rattle.machine_states.specs.epoch_core.specs.declared.stage.Stage.{Stage}
use Rattle.machine_states.specs.epoch_core.specs.declared.stage.Stage.TheVariants.{Idle, Loaded, Announced, Entered, Scanning}
use Rattle.machine_states.specs.runner_parts.specs.declared.event.Event.{Event}
use Rattle.machine_states.specs.runner_parts.specs.State.{PartState}
use Rattle.machine_states.specs.epoch_core.specs.State.{EpochState, last_epoch, is_entered, entry_of, is_announcing}
use Rattle.machine_states.specs.epoch_core.specs.Sound.{IsSound}
use Rattle.machine_states.specs.epoch_core.specs.Schedules.{first_state}
use Rattle.machine_states.specs.epoch_core.specs.Starts.{all_free}
use Rattle.machine_states.specs.epoch_core.proofs.Keeping.{first}
use Rattle.machine_states.specs.World.{World, happens, then_run, run}
use Rattle.machine_states.specs.First.{IsFirst, first_part, keeper_part, worker_part}
use Rattle.machine_states.specs.Sight.{Sight, sight, IsWhole}
use Rattle.machine_states.proofs.Steps.{some_same}
use Rattle.machine_states.proofs.Sights.{some_none, happens_steps}
use Rattle.machine_states.proofs.FirstSights.{first_part_of, first_parts, unannounced, first_whole}
use Rattle.machine_epochs.specs.Entries.{counts_of}
use Rattle.machine_epochs.specs.Scans.{Found, nothing_found, found_more, then_found, found_after}
use Rattle.machine_epochs.specs.Epochs.{EpochsAreSound, SoundAfter}
use Rattle.machine_epochs.specs.Descriptors.{DescriptorsSoundAfter}
use Rattle.machine_epochs.proofs.Entries.{Entries, entries_step}
use Rattle.machine_epochs.proofs.Owning.{Owns, owns_step, first_owns, descriptors_sound}

module _ (m : Meaning) (l : Layout) (rs : List Request) where
  abbrev Stands : Found → World → Type 0
  Stands found w = IsWhole m l rs w × Entries m l found (sight m l rs w) × Owns m l (sight m l rs w)

  one_more : (w v : World) (e : Event) (found : Found) → happens m l rs w e ≡ Some v → Stands found w → Stands (found_more found (sight m l rs w) e.runner e.kind) v
  one_more w v e found h old =
      let step = happens_steps m l rs w v e old.0 h in
      (step.1, entries_step m l rs found (sight m l rs w) (sight m l rs v) e.runner e.kind step.0 old.1, owns_step m l rs found (sight m l rs w) (sight m l rs v) e.runner e.kind step.0 old.1 old.2)

  then_stands : (o : Option World) (found : Found) (f : World → Option World) (h : World → Found) (v : World)
      → ((u : World) → o ≡ Some u → f u ≡ Some v → Stands (h u) v) → then_run o f ≡ Some v → Stands (then_found o found h) v
  then_stands None found f h v each e = some_none v e
  then_stands (Some u) found f h v each e = each u refl e

  run_stands : (es : List Event) (w v : World) (found : Found) → Stands found w → run m l rs w es ≡ Some v → Stands (found_after m l rs w found es) v
  run_stands [] w v found old e = subst (Stands found) (some_same w v e) old
  run_stands (e ∷ es) w v found old so_far =
      then_stands (happens m l rs w e) found (λ u. run m l rs u es) (λ u. found_after m l rs u (found_more found (sight m l rs w) e.runner e.kind) es) v
      (λ u h goes. run_stands es u v (found_more found (sight m l rs w) e.runner e.kind) (one_more w u e found h old) goes) so_far

  first_stage : (r : ℕ) → (first_part_of m l r).stage ≡ Idle
  first_stage r = by_test (r == l.runners) (nat_lt r l.runners)
    where
      by_test : (b b' : Bool) → (cond b (keeper_part m l) (cond b' (worker_part m l r) (first_part [] [] []))).stage ≡ Idle
      by_test true b' = refl
      by_test false true = refl
      by_test false false = refl

  first_stands : (w : World) → IsFirst m l rs w → Stands nothing_found w
  first_stands w start = (
    first_whole m l rs w start,
    record {
      state = first_state all_free;
      sound = first (counts_of m l) all_free (record { unused = λ s. refl; for_nodes = λ s e. absurd (let x = e in cc) });
      shows = record {
        epoch = sym (start.words.seen Epoch tt);
        announced = λ r. sym (unannounced m l rs w start r);
        stage = λ r. sym (ap (λ (p : PartState). p.stage) (first_parts m l w.parts start.parts r) ∙ first_stage r);
      };
      unloaded = λ r. refl;
      clear = λ r r' x n b is. refl;
      unclear = λ r x n is. absurd (let y = sym (ap (λ (p : PartState). p.stage) (first_parts m l w.parts start.parts r) ∙ first_stage r) ∙ is in cc);
    },
    first_owns m l rs w start,
  )

-- what the component says, in the machine's own words
module _ (m : Meaning) (l : Layout) (found : Found) (s : Sight) (entries : Entries m l found s) where
  abbrev w : EpochState
  w = entries.state

  abbrev old : IsSound (counts_of m l) w
  old = entries.sound

  epoch : w.epoch ≡ s.word Epoch
  epoch = entries.shows.epoch

  sees : (r : ℕ) (stage : Stage) → (s.part r).stage ≡ stage → w.stage r ≡ stage
  sees r stage e = entries.shows.stage r ∙ e

  enters : (r g : ℕ) → (s.part r).stage ≡ Entered g → (is_entered (w.stage r) ≡ true) × (entry_of (w.stage r) ≡ g)
  enters r g e = (ap is_entered (sees r (Entered g) e), ap entry_of (sees r (Entered g) e))

  silent : (r : ℕ) (stage : Stage) → (s.part r).stage ≡ stage → is_announcing stage ≡ false → s.word (Announcement r) ≡ 0
  silent r stage e out = sym (entries.shows.announced r) ∙ old.unannounced r (ap is_announcing (sees r stage e) ∙ out)

  speaking : (r : ℕ) (stage : Stage) → (s.part r).stage ≡ stage → is_announcing stage ≡ true → 1 ≤ s.word (Announcement r)
  speaking r stage e out = subst (λ n. 1 ≤ n) (entries.shows.announced r) (old.announced_some r (ap is_announcing (sees r stage e) ∙ out))

  at_most : (n : ℕ) → n ≤ w.epoch → n ≤ s.word Epoch
  at_most n h = subst (λ e. n ≤ e) epoch h

  pub in_its_words : EpochsAreSound s found
  in_its_words = record {
    some = at_most 1 old.some;
    bounded = subst (λ e. e ≤ last_epoch) epoch old.bounded;
    announced_most = λ r. subst (λ n. n ≤ s.word Epoch) (entries.shows.announced r) (at_most (w.announced r) (old.announced_most r));
    idle = λ r e. silent r Idle e refl;
    unannounced = λ r x e. silent r (Loaded x) e refl;
    unannounced_scan = λ r x n b e. silent r (Scanning x n b) e refl;
    announced_some = λ r e. speaking r Announced e refl;
    entered_some = λ r g e. speaking r (Entered g) e refl;
    loaded_some = λ r x e. old.loaded_some r x (sees r (Loaded x) e);
    loaded_most = λ r x e. at_most x (old.loaded_most r x (sees r (Loaded x) e));
    entered_most = λ r g e. let h = enters r g e in subst (λ n. n ≤ s.word Epoch) h.1 (at_most (entry_of (w.stage r)) (old.entered_most r h.0));
    entered_least = λ r g e. let h = enters r g e in subst (λ n. s.word Epoch ≤ n + 1) h.1 (subst (λ n. n ≤ entry_of (w.stage r) + 1) epoch (old.entered_least r h.0));
    entered_announced = λ r g e. let h = enters r g e in subst (λ n. s.word (Announcement r) ≤ n) h.1 (subst (λ n. n ≤ entry_of (w.stage r)) (entries.shows.announced r) (old.entered_announced r h.0));
    scan_some = λ r x n b e. old.scan_some r x n b (sees r (Scanning x n b) e);
    scan_most = λ r x n b e. at_most x (old.scan_most r x n b (sees r (Scanning x n b) e));
    scanned = λ r r' x n g b e cl same e'. let h = enters r' g e' in
        sym h.1 ∙ old.scanned r x n r' b (sees r (Scanning x n b) e) (entries.clear r r' x n b e ∙ cl) (epoch ∙ same) h.0;
    scan_clear = λ r r' x n e below. sym (entries.clear r r' x n true e) ∙ old.scan_clear r x n r' (sees r (Scanning x n true) e) below;
    scan_unclear = λ r x n e. entries.unclear r x n e;
  }

pub sound_after : (m : Meaning) (l : Layout) (rs : List Request) (es : List Event) (w : World) → SoundAfter m l rs es w
sound_after m l rs es w after =
    in_its_words m l (found_after m l rs after.start nothing_found es) (sight m l rs w) (run_stands m l rs es after.start w nothing_found (first_stands m l rs after.start after.first) after.runs).1

pub descriptors_after : (m : Meaning) (l : Layout) (rs : List Request) (es : List Event) (w : World) → DescriptorsSoundAfter m l rs es w
descriptors_after m l rs es w after =
    descriptors_sound m l (sight m l rs w) (run_stands m l rs es after.start w nothing_found (first_stands m l rs after.start after.first) after.runs).2
