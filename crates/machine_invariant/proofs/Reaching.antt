-- To come to hold more node slots keeps the whole invariant.
use Rattle.std.specs.Prelude.{◌||◌, Bool, true, false}
use Rattle.std.proofs.Common.{◌≡◌, ℕ, refl, sym, ◌∙◌, arith}
use Rattle.std.proofs.lemmas.Bool.Decides.{nat_tests}
use Rattle.machine_states.specs.table_words.specs.declared.layout.Layout.{Layout}
use Rattle.machine_states.specs.table_words.specs.Limits.{IsWithinLimits}
use Rattle.machine_states.specs.structure_laws.specs.Meaning.{Meaning}
use Rattle.machine_states.specs.structure_laws.specs.Laws.{Laws}
use Rattle.machine_states.specs.epoch_core.specs.Update.{upd_row}
use Rattle.machine_states.specs.epoch_core.specs.State.{EpochState}
use Rattle.machine_states.specs.epoch_core.specs.Events.{Reach, Enabled, after, slot_of}
use Rattle.machine_states.specs.epoch_core.proofs.Keeping.{keeps}
use Rattle.machine_states.specs.epoch_core.proofs.Listing.{lists_follow}
use Rattle.machine_states.specs.Sight.{Sight}
use Rattle.machine_blocks.specs.machine_guards.specs.machine_agreement.specs.machine_epochs.specs.Entries.{counts_of}
use Rattle.machine_blocks.specs.machine_guards.specs.machine_agreement.specs.machine_epochs.specs.Slots.{lists_of}
use Rattle.machine_blocks.specs.machine_guards.specs.machine_agreement.specs.machine_epochs.specs.Joined.{IsJoinedToEpochs}
use Rattle.machine_blocks.specs.machine_guards.specs.machine_agreement.specs.machine_epochs.proofs.Joining.{still_tied}
use Rattle.machine_blocks.specs.machine_guards.specs.machine_agreement.specs.machine_scenes.specs.Steps.{Epochs}
use Rattle.machine_blocks.specs.machine_guards.specs.machine_agreement.specs.machine_scenes.proofs.Kept.{step_kept}
use Rattle.machine_slots.specs.Hands.{LocksAreHeld}
use Rattle.machine_slots.proofs.Locks.{locks_held_after}
use Rattle.machine_blocks.specs.machine_guards.specs.machine_agreement.specs.machine_scenes.specs.Kept.{IsKept}
use Rattle.machine_blocks.specs.machine_guards.proofs.First.{stands_by_places}
use Rattle.machine_invariant.specs.Whole.{Beside, states_of, IsWhole}

-- what a runner comes to hold it holds
pub now_held : (f : ℕ → ℕ → Bool) (slots : ℕ → Bool) (r t : ℕ) → slots t ≡ true → upd_row f r (λ u. f r u || slots u) r t ≡ true
now_held f slots r t h = grind (arith, nat_tests)

-- what was held still is, and of what isn't among these slots nothing more is held
row_kept : (f : ℕ → ℕ → Bool) (slots : ℕ → Bool) (r i t : ℕ) → f i t ≡ true → upd_row f r (λ u. f r u || slots u) i t ≡ true
row_kept f slots r i t h = grind (arith, nat_tests)

row_same : (f : ℕ → ℕ → Bool) (r i t : ℕ) (b : Bool) → b ≡ false → upd_row f r (λ u. f r u || b) i t ≡ f i t
row_same f r i t b e = grind (arith, nat_tests)

-- to come to hold node slots leaves the join as it was
module _ (m : Meaning) (l : Layout) (w : EpochState) (r : ℕ) (slots : ℕ → Bool) (apart : (d : ℕ) → slots (slot_of (counts_of m l) d) ≡ false) where
  reach_joined : (s : Sight) → IsJoinedToEpochs m l w s → Enabled (counts_of m l) w (Reach r slots)
      → IsJoinedToEpochs m l (after (counts_of m l) w (Reach r slots)) s
  reach_joined s old ok = record {
    sound = keeps (counts_of m l) w (Reach r slots) ok old.sound;
    listed = lists_follow (counts_of m l) w (λ i. lists_of (s.part i)) (Reach r slots) ok old.sound old.listed;
    entries = record { epoch = old.entries.epoch; announced = old.entries.announced; stage = old.entries.stage };
    board = record { word = old.board.word; slot = old.board.slot };
    roles = old.roles;
    published_once = old.published_once;
    tied = λ i. still_tied m l w (after (counts_of m l) w (Reach r slots)) s.word s.word i (s.part i) (record {
      holds = λ t h. row_kept w.holds slots r i t h;
      alone = λ d h. sym (row_same w.holds r i (slot_of (counts_of m l) d) (slots (slot_of (counts_of m l) d)) (apart d)) ∙ h;
      words = λ d j h. refl;
      hand = λ t h. h;
      retire = refl;
      live = λ x e h. h;
      entered = λ h. h;
      stored = λ d j h. refl;
    }) (old.tied i);
  }

module _ (m : Meaning) (laws : Laws m) (l : Layout) (limits : IsWithinLimits l) (g : Beside) (s : Sight) (i : ℕ) (slots : ℕ → Bool)
    (apart : (d : ℕ) → slots (slot_of (counts_of m l) d) ≡ false) where
  -- the states after the runner has come to hold these slots
  abbrev pub reached : Beside
  reached = record g { epochs = after (counts_of m l) g.epochs (Reach i slots) }

  module _ (whole : IsWhole m l g s) (ok : Enabled (counts_of m l) g.epochs (Reach i slots)) where
    kept_after : IsKept m l (counts_of m l) (states_of reached s)
    kept_after = step_kept m laws l limits (counts_of m l) refl (states_of g s) (Epochs (Reach i slots)) (refl, ok) whole.kept

    held_after : LocksAreHeld m (counts_of m l) (states_of reached s)
    held_after =
        locks_held_after m laws l limits (counts_of m l) refl (states_of g s) whole.kept (Epochs (Reach i slots)) (refl, ok) tt whole.held

    pub whole_reached : IsWhole m l reached s
    whole_reached = record {
      sections = whole.sections;
      slots = reach_joined m l g.epochs i slots apart s whole.slots ok;
      tied = record {
        used = whole.tied.used;
        live = whole.tied.live;
        is_live = whole.tied.is_live;
        within = whole.tied.within;
        publisher = whole.tied.publisher;
        op = whole.tied.op;
        thunk = whole.tied.thunk;
      };
      kept = kept_after;
      held = held_after;
      filled = record { filled = whole.filled.filled; looked = whole.filled.looked };
      logs = record {
        chain = whole.logs.chain;
        guards = stands_by_places m l whole.logs.chain g.agreement g.agreement g.epochs (after (counts_of m l) g.epochs (Reach i slots)) s (λ d. refl) (λ d. refl) whole.logs.guards;
        stands = record {
          same = whole.logs.stands.same;
          own = whole.logs.stands.own;
          rest = whole.logs.stands.rest;
          logs = whole.logs.stands.logs;
          agreed = whole.logs.stands.agreed;
          emptied = whole.logs.stands.emptied;
          begun = whole.logs.stands.begun;
          most = whole.logs.stands.most;
        };
        beyond = whole.logs.beyond;
      };
    }
