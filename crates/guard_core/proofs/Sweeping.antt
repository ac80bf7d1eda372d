-- Each event keeps the invariant: sweeps of the guard words.
use Rattle.std.proofs.Common.{◌≡◌, ℕ, suc, true, false, List, [], ◌∷◌, length, inl, inr, subst, arith, length-append}
use Rattle.std.specs.Prelude.{◌⊎◌}
use Rattle.guard_core.specs.State.{Counts, Location, Free, Live, Limbo, GuardState, IsSureOf}
use Rattle.guard_core.specs.Sound.{is_under, IsSound}
use Rattle.guard_core.specs.Events.{LoadGuard, LoadLast, with_next, after, Enabled}
use Rattle.guard_core.specs.State.{word_of}
use Rattle.guard_core.specs.Update.{has}
use Rattle.guard_core.specs.Moves.{swept}
use Rattle.guard_core.proofs.Moving.{swept_free, swept_live, swept_limbo}
use Rattle.guard_core.proofs.Counting.{has-append, named-append, count_more}

pub load_guard : (c : Counts) (w : GuardState) (r : ℕ) → Enabled c w (LoadGuard r) → IsSound c w
    → IsSound c (after w (LoadGuard r))
load_guard c w r ok old =
    record {
      idle = grind arith;
      numbered = grind arith;
      running = grind arith;
      kept = grind arith;
      owner = grind arith;
      own = λ r1 d1 e1 at. old.own r1 d1 e1 at;
      ended_own = λ r1 d1 e1 at. old.ended_own r1 d1 e1 at;
      held = grind arith;
      held_live = grind arith;
      held_limbo = grind arith;
      winner = grind arith;
      won = grind arith;
      ended = grind arith;
      fresh = grind arith;
      sweeping = grind arith;
      looked_most = λ r1. let before = old.looked_most r1 in
          let longer = length-append (w.looked r) (word_of (w.guard (length (w.looked r))) ∷ []) in grind arith;
      swept = λ r1 p1 d1 lt no s at. let l = w.looked r in let x = word_of (w.guard (length l)) in
          let more = has-append l (x ∷ []) (suc d1) in let longer = length-append l (x ∷ []) in
          let before = old.swept r1 p1 d1 in grind arith;
      swept_block = λ r1 p1 d1 b1 lt no s at. let l = w.looked r in let x = word_of (w.guard (length l)) in
          let more = has-append l (x ∷ []) (suc d1) in let longer = length-append l (x ∷ []) in
          let before = old.swept_block r1 p1 d1 b1 in grind arith;
      others = λ r1. let before = old.others r1 in let l = w.looked r in let x = word_of (w.guard (length l)) in
          let longer = length-append l (x ∷ []) in let more = named-append l (x ∷ []) in let idle = old.idle r in
          grind arith;
      once = λ d1 b1. old.once d1 b1;
      few = λ d1. old.few d1;
      eight = λ r1 d1. old.eight r1 d1;
    }

-- no limbo grows in a sweep
under_less : (r r1 d1 : ℕ) (words : List ℕ) (x : Location) → is_under r1 d1 (swept r words x) ≡ true
    → is_under r1 d1 x ≡ true
under_less r r1 d1 words (Free q) at = at
under_less r r1 d1 words (Live q) at = at
under_less r r1 d1 words (Limbo q e) at = grind arith

-- when the last word is read: of a descriptor that no word names nobody is sure where it lies in the sweeper's
-- limbo, and
-- no block in that limbo under it is linked in it
pub unheld : (c : Counts) (w : GuardState) (r : ℕ) → Enabled c w (LoadLast r) → IsSound c w → (p d : ℕ) → IsSureOf w p d
    → (has (with_next w r) (suc d) ≡ false → w.descriptor d ≡ Limbo r d → ⊥)
    × (has (with_next w r) (suc d) ≡ false → (b : ℕ) → has (w.linked d) b ≡ true → w.block b ≡ Limbo r d → ⊥)
unheld c w r ok old p d s =
    let l = w.looked r in let more = has-append l (word_of (w.guard (length l)) ∷ []) (suc d) in
    let most = old.numbered p d s.0 in (
      (λ no at. let before = old.swept r p d in grind arith),
      (λ no b linked at. let before = old.swept_block r p d b in grind arith),
    )

-- what is free behind a sweep was free before it, or lay in limbo under a descriptor that no word names
kept_swept : (r d q : ℕ) (words : List ℕ) (x : Location) → (x ≡ Free q)
    ⊎ ((e : ℕ) × (x ≡ Limbo r e) × (has words (suc e) ≡ false))
    → (x ≡ Free q → ⊥) → ((e : ℕ) → x ≡ Limbo r e → e ≡ d) → (has words (suc d) ≡ false → x ≡ Limbo r d → ⊥) → ⊥
kept_swept r d q words x (inl free) before same none = before free
kept_swept r d q words x (inr h) before same none =
    let e = same h.0 h.1 in none (subst (λ (n : ℕ). has words (suc n) ≡ false) e h.2) (subst
    (λ (n : ℕ). x ≡ Limbo r n) e h.1)

pub load_last : (c : Counts) (w : GuardState) (r : ℕ) → Enabled c w (LoadLast r) → IsSound c w
    → IsSound c (after w (LoadLast r))
load_last c w r ok old =
    record {
      idle = grind arith;
      numbered = grind arith;
      running = grind arith;
      kept = λ r1 d1 q1 s at. let moved = swept_free r q1 (with_next w r) (w.descriptor d1) at in
          let before = old.kept r1 d1 q1 s in let none = unheld c w r ok old r1 d1 s in
          kept_swept r d1 q1 (with_next w r) (w.descriptor d1) moved before (old.own r d1) none.0;
      owner = λ r1 d1 at. let moved = swept_live r r1 (with_next w r) (w.descriptor d1) at in old.owner r1 d1 moved;
      own = λ r1 d1 e1 at. let moved = swept_limbo r r1 e1 (with_next w r) (w.descriptor d1) at in
          old.own r1 d1 e1 moved.0;
      ended_own = λ r1 d1 e1 at. let moved = swept_limbo r r1 e1 (with_next w r) (w.descriptor d1) at in
          old.ended_own r1 d1 e1 moved.0;
      held = λ r1 d1 b1 q1 s l at. let moved = swept_free r q1 (with_next w r) (w.block b1) at in
          let before = old.held r1 d1 b1 q1 s l in let none = unheld c w r ok old r1 d1 s in
          kept_swept r d1 q1 (with_next w r) (w.block b1) moved before (λ e. old.held_limbo r1 d1 b1 r e s l)
          (λ no in_limbo. none.1 no b1 l in_limbo);
      held_live = λ r1 d1 b1 q1 s l at. let moved = swept_live r q1 (with_next w r) (w.block b1) at in
          old.held_live r1 d1 b1 q1 s l moved;
      held_limbo = λ r1 d1 b1 q1 e1 s l at. let moved = swept_limbo r q1 e1 (with_next w r) (w.block b1) at in
          old.held_limbo r1 d1 b1 q1 e1 s l moved.0;
      winner = λ b1 r1 at. let moved = swept_live r r1 (with_next w r) (w.block b1) at in old.winner b1 r1 moved;
      won = λ b1 r1 d1 at run. let moved = swept_live r r1 (with_next w r) (w.block b1) at in
          old.won b1 r1 d1 moved run;
      ended = λ b1 r1 d1 at l. let moved = swept_limbo r r1 d1 (with_next w r) (w.block b1) at in
          old.ended b1 r1 d1 moved.0 l;
      fresh = λ b1 r1 d1 at s. let moved = swept_limbo r r1 d1 (with_next w r) (w.block b1) at in
          old.fresh b1 r1 d1 moved.0 s;
      sweeping = grind arith;
      looked_most = λ r1. let before = old.looked_most r1 in grind arith;
      swept = λ r1 p1 d1 lt no s at. let moved = swept_limbo r r1 d1 (with_next w r) (w.descriptor d1) at in
          let before = old.swept r1 p1 d1 in grind arith;
      swept_block = λ r1 p1 d1 b1 lt no s at. let moved = swept_limbo r r1 d1 (with_next w r) (w.block b1) at in
          let before = old.swept_block r1 p1 d1 b1 in grind arith;
      others = λ r1. let before = old.others r1 in grind arith;
      once = λ d1 b1. old.once d1 b1;
      few = λ d1. old.few d1;
      eight = λ r1 d1. let less = count_more (λ i. is_under r1 d1 (swept r (with_next w r) (w.block i)))
          (λ i. is_under r1 d1 (w.block i)) c.blocks (λ i at. under_less r r1 d1 (with_next w r) (w.block i) at) in
          let before = old.eight r1 d1 in omega arith;
    }
