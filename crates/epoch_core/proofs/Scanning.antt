-- Each event keeps the invariant: scans and the advance.
use Rattle.std.proofs.Common.{◌≡◌, ℕ, suc, ◌<◌, ◌≤◌, Bool, true, arith, refl}
use Rattle.epoch_core.specs.State.{Counts, EpochState}
use Rattle.epoch_core.specs.Events.{ScanEpoch, ScanOne, ScanLast, Advance, after, Enabled}
use Rattle.epoch_core.specs.Sound.{IsSound}
use Rattle.std.specs.Prelude.{◌&&◌}
use Rattle.epoch_core.specs.declared.stage.Stage.{Stage}
use Rattle.epoch_core.specs.declared.stage.Stage.TheVariants as stages
use Rattle.epoch_core.specs.declared.stage.Stage.TheVariants.{Scanning}
use Rattle.epoch_core.specs.Update.{upd, upd2}
use Rattle.epoch_core.specs.Moves.{is_clear}
use Rattle.epoch_core.specs.State.{is_entered, is_announcing, entry_of}
use Rattle.std.proofs.lemmas.Bool.Decides.{nat_tests}

-- who is entered has an announcement
entered_announces : (s : Stage) → is_entered s ≡ true → is_announcing s ≡ true
entered_announces stages.Idle h = cc
entered_announces (stages.Loaded e) h = cc
entered_announces stages.Announced h = refl
entered_announces (stages.Entered e) h = refl
entered_announces (stages.Scanning x n b) h = cc

-- an announcement of at least 1 that doesn't stand in the way is the scan's epoch
clear_epoch : (x found g epoch : ℕ) → is_clear x found ≡ true → epoch ≡ x → 1 ≤ found → found ≤ g → g ≤ epoch → g ≡ x
clear_epoch x found g epoch h e some most below = grind (arith, nat_tests)

-- what a clear scan has found, after one more announcement
clear_more : (stage : ℕ → Stage) (clear : ℕ → ℕ → Bool) (r x n : ℕ) (b t : Bool) → stage r ≡ Scanning x n b
    → ((r1 x1 n1 r2 : ℕ) → stage r1 ≡ Scanning x1 n1 true → r2 < n1 → clear r1 r2 ≡ true)
    → (r1 x1 n1 r2 : ℕ) → upd stage r (Scanning x (suc n) (b && t)) r1 ≡ Scanning x1 n1 true → r2 < n1 → upd2 clear r n t r1 r2 ≡ true
clear_more stage clear r x n b t here old r1 x1 n1 r2 e lt =
    let before = old r1 x1 n1 r2 in let own = old r x n r2 in grind arith

-- the epochs of the runners whose announcements were found so, after one more announcement
scanned_more : (stage : ℕ → Stage) (clear : ℕ → ℕ → Bool) (r x n epoch : ℕ) (b b' t : Bool) → stage r ≡ Scanning x n b
    → ((r1 x1 n1 r2 : ℕ) (b1 : Bool) → stage r1 ≡ Scanning x1 n1 b1 → clear r1 r2 ≡ true → epoch ≡ x1 → is_entered (stage r2) ≡ true → entry_of (stage r2) ≡ x1)
    → (t ≡ true → epoch ≡ x → is_entered (stage n) ≡ true → entry_of (stage n) ≡ x)
    → (r1 x1 n1 r2 : ℕ) (b1 : Bool) → upd stage r (Scanning x (suc n) b') r1 ≡ Scanning x1 n1 b1 → upd2 clear r n t r1 r2 ≡ true → epoch ≡ x1
    → is_entered (upd stage r (Scanning x (suc n) b') r2) ≡ true → entry_of (upd stage r (Scanning x (suc n) b') r2) ≡ x1
scanned_more stage clear r x n epoch b b' t here old new r1 x1 n1 r2 b1 e cl ep isin =
    let before = old r1 x1 n1 r2 b1 in let own = old r x n r2 b in grind arith

pub scan_epoch : (c : Counts) (w : EpochState) (r : ℕ) → Enabled c w (ScanEpoch r) → IsSound c w → IsSound c (after c w (ScanEpoch r))
scan_epoch c w r ok old =
    record {
      some = grind arith;
      bounded = grind arith;
      announced_most = grind arith;
      unannounced = grind arith;
      announced_some = grind arith;
      numbered = grind arith;
      loaded_some = grind arith;
      loaded_most = grind arith;
      entered_most = grind arith;
      entered_least = grind arith;
      entered_announced = grind arith;
      scan_some = grind arith;
      scan_most = grind arith;
      scan_clear = λ r1 x1 n1 r2 e lt. let before = old.scan_clear r1 x1 n1 r2 in grind arith;
      scanned = λ r1 x1 n1 r2 b1 e cl ep isin. let before = old.scanned r1 x1 n1 r2 b1 in grind arith;
      for_nodes = grind arith;
      limbo_most = grind arith;
      holder = grind arith;
      held = grind arith;
      retire_held = grind arith;
      retire_role = grind arith;
      retire_node = grind arith;
      retire_most = grind arith;
      retire_live = grind arith;
      retire_once = grind arith;
      retire_holders = grind arith;
      logged = λ d1 k1 out. let before = old.logged d1 k1 in grind arith;
    }

pub scan_one : (c : Counts) (w : EpochState) (r : ℕ) (x : ℕ) (n : ℕ) (b : Bool) → Enabled c w (ScanOne r x n b) → IsSound c w → IsSound c (after c w (ScanOne r x n b))
scan_one c w r x n b ok old =
    record {
      some = grind arith;
      bounded = grind arith;
      announced_most = grind arith;
      unannounced = grind arith;
      announced_some = grind arith;
      numbered = grind arith;
      loaded_some = grind arith;
      loaded_most = grind arith;
      entered_most = grind arith;
      entered_least = grind arith;
      entered_announced = grind arith;
      scan_some = grind arith;
      scan_most = grind arith;
      scan_clear = clear_more w.stage w.clear r x n b (is_clear x (w.announced n)) ok.0 old.scan_clear;
      scanned = scanned_more w.stage w.clear r x n w.epoch b (b && is_clear x (w.announced n)) (is_clear x (w.announced n)) ok.0 old.scanned
          (λ t e h. clear_epoch x (w.announced n) (entry_of (w.stage n)) w.epoch t e (old.announced_some n (entered_announces (w.stage n) h)) (old.entered_announced n h) (old.entered_most n h));
      for_nodes = grind arith;
      limbo_most = grind arith;
      holder = grind arith;
      held = grind arith;
      retire_held = grind arith;
      retire_role = grind arith;
      retire_node = grind arith;
      retire_most = grind arith;
      retire_live = grind arith;
      retire_once = grind arith;
      retire_holders = grind arith;
      logged = λ d1 k1 out. let before = old.logged d1 k1 in grind arith;
    }

pub scan_last : (c : Counts) (w : EpochState) (r : ℕ) (x : ℕ) (n : ℕ) (b : Bool) → Enabled c w (ScanLast r x n b) → IsSound c w → IsSound c (after c w (ScanLast r x n b))
scan_last c w r x n b ok old =
    record {
      some = grind arith;
      bounded = grind arith;
      announced_most = grind arith;
      unannounced = grind arith;
      announced_some = grind arith;
      numbered = grind arith;
      loaded_some = grind arith;
      loaded_most = grind arith;
      entered_most = grind arith;
      entered_least = grind arith;
      entered_announced = grind arith;
      scan_some = grind arith;
      scan_most = grind arith;
      scan_clear = λ r1 x1 n1 r2 e lt. let before = old.scan_clear r1 x1 n1 r2 in grind arith;
      scanned = λ r1 x1 n1 r2 b1 e cl ep isin. let before = old.scanned r1 x1 n1 r2 b1 in grind arith;
      for_nodes = grind arith;
      limbo_most = grind arith;
      holder = grind arith;
      held = grind arith;
      retire_held = grind arith;
      retire_role = grind arith;
      retire_node = grind arith;
      retire_most = grind arith;
      retire_live = grind arith;
      retire_once = grind arith;
      retire_holders = grind arith;
      logged = λ d1 k1 out. let before = old.logged d1 k1 in grind arith;
    }

pub advance : (c : Counts) (w : EpochState) (r : ℕ) (x : ℕ) (n : ℕ) → Enabled c w (Advance r x n) → IsSound c w → IsSound c (after c w (Advance r x n))
advance c w r x n ok old =
    record {
      some = grind arith;
      bounded = grind arith;
      announced_most = grind arith;
      unannounced = grind arith;
      announced_some = grind arith;
      numbered = grind arith;
      loaded_some = grind arith;
      loaded_most = grind arith;
      entered_most = grind arith;
      entered_least = grind arith;
      entered_announced = grind arith;
      scan_some = grind arith;
      scan_most = grind arith;
      scan_clear = λ r1 x1 n1 r2 e lt. let before = old.scan_clear r1 x1 n1 r2 in grind arith;
      scanned = λ r1 x1 n1 r2 b1 e cl ep isin. let before = old.scanned r1 x1 n1 r2 b1 in grind arith;
      for_nodes = grind arith;
      limbo_most = grind arith;
      holder = grind arith;
      held = grind arith;
      retire_held = grind arith;
      retire_role = grind arith;
      retire_node = grind arith;
      retire_most = grind arith;
      retire_live = grind arith;
      retire_once = grind arith;
      retire_holders = grind arith;
      logged = λ d1 k1 out. let before = old.logged d1 k1 in grind arith;
    }
