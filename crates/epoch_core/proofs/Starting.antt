-- A first state with its lists.
use Rattle.std.proofs.Common.{◌≡◌, ℕ, zero, suc, ◌<◌, ◌≤◌, arith}
use mathlib.Core.Logic.{dite}
use native.Mathlib.Decide.{ℕ_discrete}
use Rattle.epoch_core.specs.State.{Counts}
use Rattle.epoch_core.specs.Lists.{times}
use Rattle.epoch_core.specs.Starts.{below, Starts}

times-above : (s n : ℕ) → n ≤ s → times s (below n) ≡ 0
times-above s zero le = grind arith
times-above s (suc n) le = let rest = times-above s n (omega arith) in grind arith

times-below : (s n : ℕ) → s < n → times s (below n) ≡ 1
times-below s zero lt = absurd (omega arith)
times-below s (suc n) lt =
    dite (ℕ_discrete n s)
    (λ same. let rest = times-above s n (omega arith) in grind arith)
    (λ other. let rest = times-below s n (omega arith) in grind arith)

pub starts : (c : Counts) → Starts c
starts c =
    record {
      first = record { unused = grind arith; for_nodes = grind arith };
      listed =
          record {
            hand = λ r s lt. grind arith;
            free = λ r s lt. let once = times-below s c.nodes lt in grind arith;
            worn = λ r s lt. grind arith;
            limbo = λ r s y lt. grind arith;
            free_descriptors = λ r d lt. let once = times-below d c.descriptors lt in grind arith;
            limbo_descriptors = λ r d lt. grind arith;
            hand_nodes = λ r s ge. grind arith;
            free_nodes = λ r s ge. let none = times-above s c.nodes ge in grind arith;
            worn_nodes = λ r s ge. grind arith;
            limbo_nodes = λ r s y ge. grind arith;
          };
    }
