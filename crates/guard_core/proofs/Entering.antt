-- Each event keeps the invariant: entering, leaving and the guard word.
use Rattle.std.proofs.Common.{ℕ, arith}
use Rattle.guard_core.specs.State.{Counts, GuardState}
use Rattle.guard_core.specs.Sound.{IsSound}
use Rattle.guard_core.specs.Events.{Enter, Exit, StoreGuard, ClearGuard, after, Enabled}

pub enter : (c : Counts) (w : GuardState) (r : ℕ) → Enabled c w (Enter r) → IsSound c w → IsSound c (after w (Enter r))
enter c w r ok old =
    record {
      idle = grind arith;
      numbered = grind arith;
      running = grind arith;
      kept = grind arith;
      owner = grind arith;
      own = λ r1 d1 e1 at. old.own r1 d1 e1 at;
      ended_own = λ r1 d1 e1 at. old.ended_own r1 d1 e1 at;
      held = grind arith;
      held_live = grind arith;
      held_limbo = grind arith;
      winner = grind arith;
      won = grind arith;
      ended = grind arith;
      fresh = grind arith;
      sweeping = grind arith;
      looked_most = grind arith;
      swept = grind arith;
      swept_block = grind arith;
      others = λ r1. let before = old.others r1 in grind arith;
      once = λ d1 b1. old.once d1 b1;
      few = λ d1. old.few d1;
      eight = λ r1 d1. old.eight r1 d1;
    }

pub exit : (c : Counts) (w : GuardState) (r : ℕ) → Enabled c w (Exit r) → IsSound c w → IsSound c (after w (Exit r))
exit c w r ok old =
    record {
      idle = grind arith;
      numbered = grind arith;
      running = grind arith;
      kept = grind arith;
      owner = grind arith;
      own = λ r1 d1 e1 at. old.own r1 d1 e1 at;
      ended_own = λ r1 d1 e1 at. old.ended_own r1 d1 e1 at;
      held = grind arith;
      held_live = grind arith;
      held_limbo = grind arith;
      winner = grind arith;
      won = grind arith;
      ended = grind arith;
      fresh = grind arith;
      sweeping = grind arith;
      looked_most = λ r1. old.looked_most r1;
      swept = grind arith;
      swept_block = grind arith;
      others = λ r1. old.others r1;
      once = λ d1 b1. old.once d1 b1;
      few = λ d1. old.few d1;
      eight = λ r1 d1. old.eight r1 d1;
    }

pub store_guard : (c : Counts) (w : GuardState) (r : ℕ) (d : ℕ) → Enabled c w (StoreGuard r d) → IsSound c w
    → IsSound c (after w (StoreGuard r d))
store_guard c w r d ok old =
    record {
      idle = grind arith;
      numbered = grind arith;
      running = grind arith;
      kept = grind arith;
      owner = λ r1 d1 at. let before = old.owner r1 d1 at in let none = ok.2.1 d1 in grind arith;
      own = λ r1 d1 e1 at. old.own r1 d1 e1 at;
      ended_own = λ r1 d1 e1 at. old.ended_own r1 d1 e1 at;
      held = grind arith;
      held_live = grind arith;
      held_limbo = grind arith;
      winner = grind arith;
      won = grind arith;
      ended = grind arith;
      fresh = grind arith;
      sweeping = grind arith;
      looked_most = λ r1. old.looked_most r1;
      swept = grind arith;
      swept_block = grind arith;
      others = λ r1. old.others r1;
      once = λ d1 b1. old.once d1 b1;
      few = λ d1. old.few d1;
      eight = λ r1 d1. old.eight r1 d1;
    }

pub clear_guard : (c : Counts) (w : GuardState) (r : ℕ) → Enabled c w (ClearGuard r) → IsSound c w
    → IsSound c (after w (ClearGuard r))
clear_guard c w r ok old =
    record {
      idle = grind arith;
      numbered = grind arith;
      running = grind arith;
      kept = grind arith;
      owner = λ r1 d1 at. let before = old.owner r1 d1 at in let none = ok.1 d1 in grind arith;
      own = λ r1 d1 e1 at. old.own r1 d1 e1 at;
      ended_own = λ r1 d1 e1 at. old.ended_own r1 d1 e1 at;
      held = grind arith;
      held_live = grind arith;
      held_limbo = grind arith;
      winner = grind arith;
      won = grind arith;
      ended = grind arith;
      fresh = grind arith;
      sweeping = grind arith;
      looked_most = λ r1. old.looked_most r1;
      swept = grind arith;
      swept_block = grind arith;
      others = λ r1. old.others r1;
      once = λ d1 b1. old.once d1 b1;
      few = λ d1. old.few d1;
      eight = λ r1 d1. old.eight r1 d1;
    }
