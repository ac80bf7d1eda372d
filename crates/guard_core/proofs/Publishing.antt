-- Each event keeps the invariant: becoming sure of a descriptor.
use Rattle.std.proofs.Common.{◌≡◌, ℕ, true, ◌≤◌, arith}
use Rattle.guard_core.specs.State.{Counts, Location, Free, Live, Limbo, GuardState, IsSureOf}
use Rattle.guard_core.specs.Sound.{is_under, IsSound}
use Rattle.guard_core.specs.Events.{Validate, Publish, after, Enabled}
use mathlib.Core.Logic.{dite}
use native.Mathlib.Decide.{ℕ_discrete}
use Rattle.guard_core.specs.Update.{count}
use Rattle.guard_core.specs.Moves.{given_back}
use Rattle.guard_core.proofs.Moving.{given_free, given_live, given_limbo}
use Rattle.guard_core.proofs.Counting.{count_more}

-- no limbo grows where blocks are given back
under_less : (r d r1 d1 : ℕ) (x : Location) → is_under r1 d1 (given_back r d x) ≡ true → is_under r1 d1 x ≡ true
under_less r d r1 d1 (Free q) at = at
under_less r d r1 d1 (Live q) at = at
under_less r d r1 d1 (Limbo q e) at = grind arith

eight_less : (r d r1 d1 n : ℕ) (block : ℕ → Location) → count (λ b. is_under r1 d1 (block b)) n ≤ 8
    → count (λ b. is_under r1 d1 (given_back r d (block b))) n ≤ 8
eight_less r d r1 d1 n block old =
    let less = count_more (λ b. is_under r1 d1 (given_back r d (block b))) (λ b. is_under r1 d1 (block b)) n
    (λ b at. under_less r d r1 d1 (block b) at) in omega arith

-- whoever is sure of a descriptor when a runner becomes sure of it: somebody was so before, its publisher if nobody
-- else
was_sure : (c : Counts) (w : GuardState) (r d : ℕ) → Enabled c w (Validate r d) → IsSound c w → (r1 d1 : ℕ)
    → IsSureOf (after w (Validate r d)) r1 d1 → (p : ℕ) × IsSureOf w p d1
was_sure c w r d ok old r1 d1 s =
    dite (ℕ_discrete r1 r)
    (λ own. (ok.3.0, let owner = old.owner ok.3.0 d ok.3.1 in let same : d1 ≡ d = grind arith in grind arith))
    (λ other. (r1, grind arith))

pub validate : (c : Counts) (w : GuardState) (r : ℕ) (d : ℕ) → Enabled c w (Validate r d) → IsSound c w
    → IsSound c (after w (Validate r d))
validate c w r d ok old =
    record {
      idle = grind arith;
      numbered = grind arith;
      running = grind arith;
      kept = grind arith;
      owner = λ r1 d1 at. let before = old.owner r1 d1 at in grind arith;
      own = λ r1 d1 e1 at. old.own r1 d1 e1 at;
      ended_own = λ r1 d1 e1 at. old.ended_own r1 d1 e1 at;
      held = λ r1 d1 b1 q1 s l at. let p = was_sure c w r d ok old r1 d1 s in
          let moved = given_free r d q1 (w.block b1) at in let free = old.held p.0 d1 b1 q1 p.1 l in
          let limbo = old.held_limbo p.0 d1 b1 r d p.1 l in let ended = old.ended b1 r d in grind arith;
      held_live = λ r1 d1 b1 q1 s l at. let p = was_sure c w r d ok old r1 d1 s in
          old.held_live p.0 d1 b1 q1 p.1 l (given_live r d q1 (w.block b1) at);
      held_limbo = λ r1 d1 b1 q1 e1 s l at. let p = was_sure c w r d ok old r1 d1 s in
          let moved = given_limbo r d q1 e1 (w.block b1) at in old.held_limbo p.0 d1 b1 q1 e1 p.1 l moved.0;
      winner = λ b1 r1 at. let moved = given_live r d r1 (w.block b1) at in grind arith;
      won = λ b1 r1 d1 at run. let moved = given_live r d r1 (w.block b1) at in grind arith;
      ended = λ b1 r1 d1 at l. let moved = given_limbo r d r1 d1 (w.block b1) at in grind arith;
      fresh = λ b1 r1 d1 at s. let moved = given_limbo r d r1 d1 (w.block b1) at in grind arith;
      sweeping = grind arith;
      looked_most = λ r1. old.looked_most r1;
      swept = grind arith;
      swept_block = λ r1 p1 d1 b1 lt no s at. let moved = given_limbo r d r1 d1 (w.block b1) at in
          let before = old.swept_block r1 p1 d1 b1 lt no in grind arith;
      others = λ r1. old.others r1;
      once = λ d1 b1. old.once d1 b1;
      few = λ d1. old.few d1;
      eight = λ r1 d1. eight_less r d r1 d1 c.blocks w.block (old.eight r1 d1);
    }

pub publish : (c : Counts) (w : GuardState) (r : ℕ) (d : ℕ) → Enabled c w (Publish r d) → IsSound c w
    → IsSound c (after w (Publish r d))
publish c w r d ok old =
    record {
      idle = grind arith;
      numbered = grind arith;
      running = grind arith;
      kept = grind arith;
      owner = λ r1 d1 at. let before = old.owner r1 d1 in grind arith;
      own = grind arith;
      ended_own = grind arith;
      held = λ r1 d1 b1 q1 s l at. let moved = given_free r d q1 (w.block b1) at in grind arith;
      held_live = λ r1 d1 b1 q1 s l at. let moved = given_live r d q1 (w.block b1) at in grind arith;
      held_limbo = λ r1 d1 b1 q1 e1 s l at. let moved = given_limbo r d q1 e1 (w.block b1) at in grind arith;
      winner = λ b1 r1 at. let moved = given_live r d r1 (w.block b1) at in grind arith;
      won = λ b1 r1 d1 at run. let moved = given_live r d r1 (w.block b1) at in grind arith;
      ended = λ b1 r1 d1 at l. let moved = given_limbo r d r1 d1 (w.block b1) at in grind arith;
      fresh = λ b1 r1 d1 at s. let moved = given_limbo r d r1 d1 (w.block b1) at in grind arith;
      sweeping = grind arith;
      looked_most = λ r1. old.looked_most r1;
      swept = grind arith;
      swept_block = λ r1 p1 d1 b1 lt no s at. let moved = given_limbo r d r1 d1 (w.block b1) at in
          let before = old.swept_block r1 p1 d1 b1 lt no in grind arith;
      others = λ r1. old.others r1;
      once = λ d1 b1. let before = old.once d1 b1 in grind arith;
      few = grind arith;
      eight = λ r1 d1. eight_less r d r1 d1 c.blocks w.block (old.eight r1 d1);
    }
