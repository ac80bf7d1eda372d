-- Each event keeps the invariant: runs of a section.
use Rattle.std.proofs.Common.{◌≡◌, ℕ, true, ◌≤◌, [], ◌∷◌, arith, length-append}
use Rattle.guard_core.specs.State.{Counts, Location, Free, Live, Limbo, GuardState}
use Rattle.guard_core.specs.Sound.{is_under, IsSound}
use mathlib.Core.Logic.{dite}
use native.Mathlib.Decide.{ℕ_discrete}
use Rattle.std.proofs.lemmas.Bool.Decides.{nat_tests}
use Rattle.guard_core.specs.Events.{Begin, Link, Finish, after, Enabled}
use Rattle.guard_core.specs.Update.{upd, count, times}
use Rattle.guard_core.specs.Moves.{retired}
use Rattle.guard_core.proofs.Moving.{retired_free, retired_live, retired_limbo}
use Rattle.guard_core.proofs.Counting.{has-append, times-append, times-none, count_more, count_listed}

-- what lies under a descriptor in a runner's limbo
under : (r d : ℕ) (x : Location) → is_under r d x ≡ true → x ≡ Limbo r d
under r d (Free q) at = grind arith
under r d (Live q) at = grind arith
under r d (Limbo q e) at = grind (arith, nat_tests)

-- what a run leaves in another limbo, or under another descriptor, was there before
stays : (r d r1 d1 : ℕ) (x : Location) → (r1 ≡ r → d1 ≡ d → ⊥) → is_under r1 d1 (retired r d x) ≡ true
    → is_under r1 d1 x ≡ true
stays r d r1 d1 (Free q) apart at = at
stays r d r1 d1 (Live q) apart at = grind (arith, nat_tests)
stays r d r1 d1 (Limbo q e) apart at = at

pub begin : (c : Counts) (w : GuardState) (r : ℕ) (d : ℕ) → Enabled c w (Begin r d) → IsSound c w
    → IsSound c (after w (Begin r d))
begin c w r d ok old =
    record {
      idle = grind arith;
      numbered = grind arith;
      running = grind arith;
      kept = grind arith;
      owner = grind arith;
      own = λ r1 d1 e1 at. old.own r1 d1 e1 at;
      ended_own = λ r1 d1 e1 at. old.ended_own r1 d1 e1 at;
      held = grind arith;
      held_live = grind arith;
      held_limbo = grind arith;
      winner = grind arith;
      won = grind arith;
      ended = grind arith;
      fresh = grind arith;
      sweeping = grind arith;
      looked_most = λ r1. old.looked_most r1;
      swept = grind arith;
      swept_block = grind arith;
      others = λ r1. old.others r1;
      once = λ d1 b1. old.once d1 b1;
      few = λ d1. old.few d1;
      eight = λ r1 d1. old.eight r1 d1;
    }

-- a free block isn't linked in a descriptor that the runner runs
unlinked : (c : Counts) (w : GuardState) (r d b : ℕ) → Enabled c w (Link r d b) → IsSound c w → times b (w.linked d) ≡ 0
unlinked c w r d b ok old =
    let sure = old.running r d ok.0 in times-none b (w.linked d) (λ linked. old.held r d b r sure linked ok.1)

pub link : (c : Counts) (w : GuardState) (r : ℕ) (d : ℕ) (b : ℕ) → Enabled c w (Link r d b) → IsSound c w
    → IsSound c (after w (Link r d b))
link c w r d b ok old =
    record {
      idle = grind arith;
      numbered = grind arith;
      running = grind arith;
      kept = grind arith;
      owner = grind arith;
      own = λ r1 d1 e1 at. old.own r1 d1 e1 at;
      ended_own = λ r1 d1 e1 at. old.ended_own r1 d1 e1 at;
      held = λ r1 d1 b1 q1 s l at. let more = has-append (w.linked d) (b ∷ []) b1 in
          let before = old.held r1 d1 b1 q1 s in grind arith;
      held_live = λ r1 d1 b1 q1 s l at. let more = has-append (w.linked d) (b ∷ []) b1 in
          let before = old.held_live r1 d1 b1 q1 s in grind arith;
      held_limbo = λ r1 d1 b1 q1 e1 s l at. let more = has-append (w.linked d) (b ∷ []) b1 in
          let before = old.held_limbo r1 d1 b1 q1 e1 s in grind arith;
      winner = grind arith;
      won = λ b1 r1 d1 at run. let more = has-append (w.linked d) (b ∷ []) b1 in let before = old.won b1 r1 d1 in
          grind arith;
      ended = λ b1 r1 d1 at l. let more = has-append (w.linked d) (b ∷ []) b1 in let before = old.ended b1 r1 d1 in
          grind arith;
      fresh = λ b1 r1 d1 at s. let more = has-append (w.linked d) (b ∷ []) b1 in let before = old.fresh b1 r1 d1 in
          grind arith;
      sweeping = grind arith;
      looked_most = λ r1. old.looked_most r1;
      swept = grind arith;
      swept_block = λ r1 p1 d1 b1 lt no s at. let more = has-append (w.linked d) (b ∷ []) b1 in
          let before = old.swept_block r1 p1 d1 b1 lt no s in grind arith;
      others = λ r1. old.others r1;
      once = λ d1 b1. let before = old.once d1 b1 in let more = times-append b1 (w.linked d) (b ∷ []) in
          let fresh = unlinked c w r d b ok old in grind arith;
      few = λ d1. let before = old.few d1 in let more = length-append (w.linked d) (b ∷ []) in grind arith;
      eight = λ r1 d1. let less = count_more (λ i. is_under r1 d1 (upd w.block b (Live r) i))
          (λ i. is_under r1 d1 (w.block i)) c.blocks (λ i at. grind arith) in let before = old.eight r1 d1 in
          omega arith;
    }

-- what lies in limbo of this runner under the descriptor that it ran is linked in it, and all else is as it was
eight_finished : (c : Counts) (w : GuardState) (r d : ℕ) → Enabled c w (Finish r d) → IsSound c w → (r1 d1 : ℕ)
    → count (λ b. is_under r1 d1 (retired r d (w.block b))) c.blocks ≤ 8
eight_finished c w r d ok old r1 d1 =
    dite (ℕ_discrete r1 r)
    (λ own. dite (ℕ_discrete d1 d)
    (λ same. let all = count_listed (λ b. is_under r1 d1 (retired r d (w.block b))) (w.linked d) c.blocks
    (λ b at. let place = under r1 d1 (retired r d (w.block b)) at in
    let moved = retired_limbo r d r1 d1 (w.block b) place in
    let sure = old.running r d ok in let fresh = old.fresh b r d in let won = old.won b r d in grind arith) in
    let few = old.few d in omega arith)
    (λ apart. let less = count_more (λ b. is_under r1 d1 (retired r d (w.block b)))
    (λ b. is_under r1 d1 (w.block b)) c.blocks
    (λ b at. stays r d r1 d1 (w.block b) (λ x y. apart y) at) in let before = old.eight r1 d1 in omega arith))
    (λ other. let less = count_more (λ b. is_under r1 d1 (retired r d (w.block b)))
    (λ b. is_under r1 d1 (w.block b)) c.blocks
    (λ b at. stays r d r1 d1 (w.block b) (λ x y. other x) at) in let before = old.eight r1 d1 in omega arith)

pub finish : (c : Counts) (w : GuardState) (r : ℕ) (d : ℕ) → Enabled c w (Finish r d) → IsSound c w
    → IsSound c (after w (Finish r d))
finish c w r d ok old =
    record {
      idle = grind arith;
      numbered = grind arith;
      running = grind arith;
      kept = λ r1 d1 q1 s at. let before = old.kept r1 d1 q1 in let moved = retired_free r d q1 (w.descriptor d) in
          grind arith;
      owner = λ r1 d1 at. let before = old.owner r1 d1 in let moved = retired_live r d r1 (w.descriptor d) in
          grind arith;
      own = λ r1 d1 e1 at. let before = old.own r1 d1 e1 in let moved = retired_limbo r d r1 e1 (w.descriptor d) in
          grind arith;
      ended_own = λ r1 d1 e1 at. let before = old.ended_own r1 d1 e1 in
          let moved = retired_limbo r d r1 e1 (w.descriptor d) in grind arith;
      held = λ r1 d1 b1 q1 s l at. let moved = retired_free r d q1 (w.block b1) at in grind arith;
      held_live = λ r1 d1 b1 q1 s l at. let moved = retired_live r d q1 (w.block b1) at in
          let before = old.held_live r1 d1 b1 q1 s l in grind arith;
      held_limbo = λ r1 d1 b1 q1 e1 s l at. let moved = retired_limbo r d q1 e1 (w.block b1) at in
          let live = old.held_live r1 d1 b1 r s l in let limbo = old.held_limbo r1 d1 b1 q1 e1 s l in grind arith;
      winner = λ b1 r1 at. let moved = retired_live r d r1 (w.block b1) at in let before = old.winner b1 r1 in
          grind arith;
      won = λ b1 r1 d1 at run. let moved = retired_live r d r1 (w.block b1) at in let before = old.won b1 r1 d1 in
          grind arith;
      ended = λ b1 r1 d1 at l. let moved = retired_limbo r d r1 d1 (w.block b1) at in
          let before = old.ended b1 r1 d1 in grind arith;
      fresh = λ b1 r1 d1 at s. let moved = retired_limbo r d r1 d1 (w.block b1) at in
          let before = old.fresh b1 r1 d1 in let won = old.won b1 r d in grind arith;
      sweeping = grind arith;
      looked_most = λ r1. old.looked_most r1;
      swept = λ r1 p1 d1 lt no s at. let before = old.swept r1 p1 d1 lt no s in
          let moved = retired_limbo r d r1 d1 (w.descriptor d) in let here = old.running r d ok in
          let none = old.sweeping r in let idle = old.idle r in grind arith;
      swept_block = λ r1 p1 d1 b1 lt no s at. let before = old.swept_block r1 p1 d1 b1 lt no s in
          let moved = retired_limbo r d r1 d1 (w.block b1) at in let here = old.running r d ok in
          let none = old.sweeping r in let idle = old.idle r in grind arith;
      others = λ r1. old.others r1;
      once = λ d1 b1. old.once d1 b1;
      few = λ d1. old.few d1;
      eight = λ r1 d1. eight_finished c w r d ok old r1 d1;
    }
