-- A state that is the same everywhere meets the same facts.
use Rattle.std.proofs.Common.{ap, arith}
use Rattle.guard_core.specs.State.{Counts, GuardState}
use Rattle.guard_core.specs.Sound.{is_under, IsSound}
use Rattle.guard_core.specs.Frame.{IsSame}
use Rattle.guard_core.proofs.Counting.{count_same}

pub same_sound : (c : Counts) (w w' : GuardState) → IsSame w w' → IsSound c w → IsSound c w'
same_sound c w w' same old =
    record {
      idle = λ r1 h. let e1 = same.entered r1 in let e2 = same.guard r1 in let before = old.idle r1 in grind arith;
      numbered = grind arith;
      running = grind arith;
      kept = grind arith;
      owner = λ r1 d1 at. let before = old.owner r1 d1 in let e1 = same.descriptor d1 in grind arith;
      own = grind arith;
      ended_own = grind arith;
      held = grind arith;
      held_live = grind arith;
      held_limbo = grind arith;
      winner = grind arith;
      won = grind arith;
      ended = grind arith;
      fresh = grind arith;
      sweeping = grind arith;
      looked_most = grind arith;
      swept = grind arith;
      swept_block = grind arith;
      others = grind arith;
      once = λ d1 b1. let before = old.once d1 b1 in let e1 = same.linked d1 in grind arith;
      few = grind arith;
      eight = λ r1 d1. let before = old.eight r1 d1 in
          let equal = count_same (λ b. is_under r1 d1 (w'.block b)) (λ b. is_under r1 d1 (w.block b)) c.blocks
          (λ b. ap (is_under r1 d1) (same.block b)) in grind arith;
    }
