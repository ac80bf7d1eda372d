-- Each event keeps the invariant: logs, holders and descriptors.
use Rattle.std.proofs.Common.{ℕ, Bool, arith}
use Rattle.epoch_core.specs.State.{Counts, Role, EpochState}
use Rattle.epoch_core.specs.Events.{WordCommit, StoreLog, Reach, Publish, RetireDescriptor, after, Enabled}
use Rattle.epoch_core.specs.Sound.{IsSound}

pub word_commit : (c : Counts) (w : EpochState) (r : ℕ) (d : ℕ) (k : ℕ) (v : ℕ) → Enabled c w (WordCommit r d k v) → IsSound c w → IsSound c (after c w (WordCommit r d k v))
word_commit c w r d k v ok old =
    record {
      some = grind arith;
      bounded = grind arith;
      announced_most = grind arith;
      unannounced = grind arith;
      announced_some = grind arith;
      numbered = grind arith;
      loaded_some = grind arith;
      loaded_most = grind arith;
      entered_most = grind arith;
      entered_least = grind arith;
      entered_announced = grind arith;
      scan_some = grind arith;
      scan_most = grind arith;
      scan_clear = λ r1 x1 n1 r2 e lt. let before = old.scan_clear r1 x1 n1 r2 in grind arith;
      scanned = λ r1 x1 n1 r2 b1 e cl ep isin. let before = old.scanned r1 x1 n1 r2 b1 in grind arith;
      for_nodes = grind arith;
      limbo_most = grind arith;
      holder = grind arith;
      held = grind arith;
      retire_held = grind arith;
      retire_role = grind arith;
      retire_node = grind arith;
      retire_most = grind arith;
      retire_live = grind arith;
      retire_once = grind arith;
      retire_holders = grind arith;
      logged = λ d1 k1 out. let before = old.logged d1 k1 in grind arith;
    }

pub store_log : (c : Counts) (w : EpochState) (r : ℕ) (d : ℕ) (k : ℕ) (v : ℕ) → Enabled c w (StoreLog r d k v) → IsSound c w → IsSound c (after c w (StoreLog r d k v))
store_log c w r d k v ok old =
    record {
      some = grind arith;
      bounded = grind arith;
      announced_most = grind arith;
      unannounced = grind arith;
      announced_some = grind arith;
      numbered = grind arith;
      loaded_some = grind arith;
      loaded_most = grind arith;
      entered_most = grind arith;
      entered_least = grind arith;
      entered_announced = grind arith;
      scan_some = grind arith;
      scan_most = grind arith;
      scan_clear = λ r1 x1 n1 r2 e lt. let before = old.scan_clear r1 x1 n1 r2 in grind arith;
      scanned = λ r1 x1 n1 r2 b1 e cl ep isin. let before = old.scanned r1 x1 n1 r2 b1 in grind arith;
      for_nodes = grind arith;
      limbo_most = grind arith;
      holder = grind arith;
      held = grind arith;
      retire_held = grind arith;
      retire_role = grind arith;
      retire_node = grind arith;
      retire_most = grind arith;
      retire_live = grind arith;
      retire_once = grind arith;
      retire_holders = grind arith;
      logged = λ d1 k1 out. let before = old.logged d1 k1 in grind arith;
    }

pub reach : (c : Counts) (w : EpochState) (r : ℕ) (s : ℕ → Bool) → Enabled c w (Reach r s) → IsSound c w → IsSound c (after c w (Reach r s))
reach c w r s ok old =
    record {
      some = grind arith;
      bounded = grind arith;
      announced_most = grind arith;
      unannounced = grind arith;
      announced_some = grind arith;
      numbered = grind arith;
      loaded_some = grind arith;
      loaded_most = grind arith;
      entered_most = grind arith;
      entered_least = grind arith;
      entered_announced = grind arith;
      scan_some = grind arith;
      scan_most = grind arith;
      scan_clear = λ r1 x1 n1 r2 e lt. let before = old.scan_clear r1 x1 n1 r2 in grind arith;
      scanned = λ r1 x1 n1 r2 b1 e cl ep isin. let before = old.scanned r1 x1 n1 r2 b1 in grind arith;
      for_nodes = grind arith;
      limbo_most = grind arith;
      holder = grind arith;
      held = grind arith;
      retire_held = grind arith;
      retire_role = grind arith;
      retire_node = grind arith;
      retire_most = grind arith;
      retire_live = grind arith;
      retire_once = grind arith;
      retire_holders = grind arith;
      logged = λ d1 k1 out. let before = old.logged d1 k1 in grind arith;
    }

pub publish : (c : Counts) (w : EpochState) (r : ℕ) (d : ℕ) (roles : ℕ → Role) → Enabled c w (Publish r d roles) → IsSound c w → IsSound c (after c w (Publish r d roles))
publish c w r d roles ok old =
    record {
      some = grind arith;
      bounded = grind arith;
      announced_most = grind arith;
      unannounced = grind arith;
      announced_some = grind arith;
      numbered = grind arith;
      loaded_some = grind arith;
      loaded_most = grind arith;
      entered_most = grind arith;
      entered_least = grind arith;
      entered_announced = grind arith;
      scan_some = grind arith;
      scan_most = grind arith;
      scan_clear = λ r1 x1 n1 r2 e lt. let before = old.scan_clear r1 x1 n1 r2 in grind arith;
      scanned = λ r1 x1 n1 r2 b1 e cl ep isin. let before = old.scanned r1 x1 n1 r2 b1 in grind arith;
      for_nodes = grind arith;
      limbo_most = grind arith;
      holder = grind arith;
      held = grind arith;
      retire_held = grind arith;
      retire_role = grind arith;
      retire_node = grind arith;
      retire_most = grind arith;
      retire_live = grind arith;
      retire_once = grind arith;
      retire_holders = grind arith;
      logged = λ d1 k1 out. let before = old.logged d1 k1 in grind arith;
    }

pub retire_descriptor : (c : Counts) (w : EpochState) (r : ℕ) (d : ℕ) → Enabled c w (RetireDescriptor r d) → IsSound c w → IsSound c (after c w (RetireDescriptor r d))
retire_descriptor c w r d ok old =
    record {
      some = grind arith;
      bounded = grind arith;
      announced_most = grind arith;
      unannounced = grind arith;
      announced_some = grind arith;
      numbered = grind arith;
      loaded_some = grind arith;
      loaded_most = grind arith;
      entered_most = grind arith;
      entered_least = grind arith;
      entered_announced = grind arith;
      scan_some = grind arith;
      scan_most = grind arith;
      scan_clear = λ r1 x1 n1 r2 e lt. let before = old.scan_clear r1 x1 n1 r2 in grind arith;
      scanned = λ r1 x1 n1 r2 b1 e cl ep isin. let before = old.scanned r1 x1 n1 r2 b1 in grind arith;
      for_nodes = grind arith;
      limbo_most = grind arith;
      holder = grind arith;
      held = grind arith;
      retire_held = grind arith;
      retire_role = grind arith;
      retire_node = grind arith;
      retire_most = grind arith;
      retire_live = grind arith;
      retire_once = grind arith;
      retire_holders = grind arith;
      logged = λ d1 k1 out. let before = old.logged d1 k1 in grind arith;
    }
