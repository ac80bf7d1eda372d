-- Each event keeps the invariant: entering and leaving.
use Rattle.std.proofs.Common.{ℕ, arith}
use Rattle.epoch_core.specs.State.{Counts, EpochState}
use Rattle.epoch_core.specs.Events.{EnterLoad, Announce, EnterAgain, Exit, after, Enabled}
use Rattle.epoch_core.specs.Sound.{IsSound}

pub enter_load : (c : Counts) (w : EpochState) (r : ℕ) → Enabled c w (EnterLoad r) → IsSound c w → IsSound c (after c w (EnterLoad r))
enter_load c w r ok old =
    record {
      some = grind arith;
      bounded = grind arith;
      announced_most = grind arith;
      unannounced = grind arith;
      announced_some = grind arith;
      numbered = grind arith;
      loaded_some = grind arith;
      loaded_most = grind arith;
      entered_most = grind arith;
      entered_least = grind arith;
      entered_announced = grind arith;
      scan_some = grind arith;
      scan_most = grind arith;
      scan_clear = λ r1 x1 n1 r2 e lt. let before = old.scan_clear r1 x1 n1 r2 in grind arith;
      scanned = λ r1 x1 n1 r2 b1 e cl ep isin. let before = old.scanned r1 x1 n1 r2 b1 in grind arith;
      for_nodes = grind arith;
      limbo_most = grind arith;
      holder = grind arith;
      held = grind arith;
      retire_held = grind arith;
      retire_role = grind arith;
      retire_node = grind arith;
      retire_most = grind arith;
      retire_live = grind arith;
      retire_once = grind arith;
      retire_holders = grind arith;
      logged = λ d1 k1 out. let before = old.logged d1 k1 in grind arith;
    }

pub announce : (c : Counts) (w : EpochState) (r : ℕ) (e : ℕ) → Enabled c w (Announce r e) → IsSound c w → IsSound c (after c w (Announce r e))
announce c w r e ok old =
    record {
      some = grind arith;
      bounded = grind arith;
      announced_most = grind arith;
      unannounced = grind arith;
      announced_some = grind arith;
      numbered = grind arith;
      loaded_some = grind arith;
      loaded_most = grind arith;
      entered_most = grind arith;
      entered_least = grind arith;
      entered_announced = grind arith;
      scan_some = grind arith;
      scan_most = grind arith;
      scan_clear = λ r1 x1 n1 r2 e lt. let before = old.scan_clear r1 x1 n1 r2 in grind arith;
      scanned = λ r1 x1 n1 r2 b1 e cl ep isin. let before = old.scanned r1 x1 n1 r2 b1 in grind arith;
      for_nodes = grind arith;
      limbo_most = grind arith;
      holder = grind arith;
      held = grind arith;
      retire_held = grind arith;
      retire_role = grind arith;
      retire_node = grind arith;
      retire_most = grind arith;
      retire_live = grind arith;
      retire_once = grind arith;
      retire_holders = grind arith;
      logged = λ d1 k1 out. let before = old.logged d1 k1 in grind arith;
    }

pub enter_again : (c : Counts) (w : EpochState) (r : ℕ) → Enabled c w (EnterAgain r) → IsSound c w → IsSound c (after c w (EnterAgain r))
enter_again c w r ok old =
    record {
      some = grind arith;
      bounded = grind arith;
      announced_most = grind arith;
      unannounced = grind arith;
      announced_some = grind arith;
      numbered = grind arith;
      loaded_some = grind arith;
      loaded_most = grind arith;
      entered_most = grind arith;
      entered_least = grind arith;
      entered_announced = grind arith;
      scan_some = grind arith;
      scan_most = grind arith;
      scan_clear = λ r1 x1 n1 r2 e lt. let before = old.scan_clear r1 x1 n1 r2 in grind arith;
      scanned = λ r1 x1 n1 r2 b1 e cl ep isin. let before = old.scanned r1 x1 n1 r2 b1 in grind arith;
      for_nodes = grind arith;
      limbo_most = grind arith;
      holder = grind arith;
      held = grind arith;
      retire_held = grind arith;
      retire_role = grind arith;
      retire_node = grind arith;
      retire_most = grind arith;
      retire_live = grind arith;
      retire_once = grind arith;
      retire_holders = grind arith;
      logged = λ d1 k1 out. let before = old.logged d1 k1 in grind arith;
    }

pub exit : (c : Counts) (w : EpochState) (r : ℕ) → Enabled c w (Exit r) → IsSound c w → IsSound c (after c w (Exit r))
exit c w r ok old =
    record {
      some = grind arith;
      bounded = grind arith;
      announced_most = grind arith;
      unannounced = grind arith;
      announced_some = grind arith;
      numbered = grind arith;
      loaded_some = grind arith;
      loaded_most = grind arith;
      entered_most = grind arith;
      entered_least = grind arith;
      entered_announced = grind arith;
      scan_some = grind arith;
      scan_most = grind arith;
      scan_clear = λ r1 x1 n1 r2 e lt. let before = old.scan_clear r1 x1 n1 r2 in grind arith;
      scanned = λ r1 x1 n1 r2 b1 e cl ep isin. let before = old.scanned r1 x1 n1 r2 b1 in grind arith;
      for_nodes = grind arith;
      limbo_most = grind arith;
      holder = grind arith;
      held = grind arith;
      retire_held = grind arith;
      retire_role = grind arith;
      retire_node = grind arith;
      retire_most = grind arith;
      retire_live = grind arith;
      retire_once = grind arith;
      retire_holders = grind arith;
      logged = λ d1 k1 out. let before = old.logged d1 k1 in grind arith;
    }
