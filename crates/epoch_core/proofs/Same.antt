-- A state that is the same everywhere meets the same facts.
use Rattle.std.proofs.Common.{arith}
use Rattle.epoch_core.specs.State.{Counts, EpochState}
use Rattle.epoch_core.specs.Sound.{IsSound}
use Rattle.epoch_core.specs.Frame.{IsSame}
use Rattle.epoch_core.specs.History.{History, IsExact}

pub same_sound : (c : Counts) (w w' : EpochState) → IsSame w w' → IsSound c w → IsSound c w'
same_sound c w w' same old =
    record {
      some = grind arith;
      bounded = grind arith;
      announced_most = grind arith;
      unannounced = grind arith;
      announced_some = grind arith;
      numbered = grind arith;
      loaded_some = grind arith;
      loaded_most = grind arith;
      entered_most = grind arith;
      entered_least = grind arith;
      entered_announced = grind arith;
      scan_some = grind arith;
      scan_most = grind arith;
      scan_clear = λ r1 x1 n1 r2 e lt. let before = old.scan_clear r1 x1 n1 r2 in grind arith;
      scanned = λ r1 x1 n1 r2 b1 e cl ep isin. let before = old.scanned r1 x1 n1 r2 b1 in grind arith;
      for_nodes = grind arith;
      limbo_most = grind arith;
      holder = grind arith;
      held = grind arith;
      retire_held = grind arith;
      retire_role = grind arith;
      retire_node = grind arith;
      retire_most = grind arith;
      retire_live = grind arith;
      retire_once = grind arith;
      retire_holders = grind arith;
      logged = λ d1 k1 out. let before = old.logged d1 k1 in grind arith;
    }

pub same_exact : (c : Counts) (w w' : EpochState) (h : History) → IsSame w w' → IsExact c w h → IsExact c w' h
same_exact c w w' h same old =
    record {
      numbered = grind arith;
      named = grind arith;
      apart = grind arith;
      unborn_made = grind arith;
      unborn_retired = grind arith;
      made = grind arith;
      retired = grind arith;
      made_once = grind arith;
      retired_once = grind arith;
    }
