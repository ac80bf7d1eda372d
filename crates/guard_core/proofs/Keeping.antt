-- Every enabled event keeps the invariant.
use Rattle.std.proofs.Common.{◌≡◌, ℕ, zero, suc, true, false, refl, List, [], ◌∷◌, arith}
use Rattle.guard_core.specs.State.{Counts, Location, Free, Live, Limbo, GuardState}
use Rattle.guard_core.specs.Update.{count}
use Rattle.guard_core.specs.Events.{Event, Enter, Exit, StoreGuard, ClearGuard, Validate, Publish, Begin, Link, Finish}
use Rattle.guard_core.specs.Events.{LoadGuard, LoadLast, Enabled, after}
use Rattle.guard_core.specs.Sound.{is_under, IsSound}
use Rattle.guard_core.specs.Schedules.{is_free, IsFirst, first_state, AllEnabled, after_all}
use Rattle.guard_core.proofs.Entering.{enter, exit, store_guard, clear_guard}
use Rattle.guard_core.proofs.Publishing.{validate, publish}
use Rattle.guard_core.proofs.Running.{begin, link, finish}
use Rattle.guard_core.proofs.Sweeping.{load_guard, load_last}

pub keeps : (c : Counts) (w : GuardState) (e : Event) → Enabled c w e → IsSound c w → IsSound c (after w e)
keeps c w (Enter r) ok old = enter c w r ok old
keeps c w (Exit r) ok old = exit c w r ok old
keeps c w (StoreGuard r d) ok old = store_guard c w r d ok old
keeps c w (ClearGuard r) ok old = clear_guard c w r ok old
keeps c w (Validate r d) ok old = validate c w r d ok old
keeps c w (Publish r d) ok old = publish c w r d ok old
keeps c w (Begin r d) ok old = begin c w r d ok old
keeps c w (Link r d b) ok old = link c w r d b ok old
keeps c w (Finish r d) ok old = finish c w r d ok old
keeps c w (LoadGuard r) ok old = load_guard c w r ok old
keeps c w (LoadLast r) ok old = load_last c w r ok old

-- nothing lies in a limbo where all is free
none_under : (r d : ℕ) (x : Location) → is_free x ≡ true → is_under r d x ≡ false
none_under r d (Free q) at = refl
none_under r d (Live q) at = grind arith
none_under r d (Limbo q e) at = grind arith

none_counted : (r d n : ℕ) (block : ℕ → Location) → ((b : ℕ) → is_free (block b) ≡ true) → count
    (λ b. is_under r d (block b)) n ≡ 0
none_counted r d zero block all = refl
none_counted r d (suc n) block all =
    let rest = none_counted r d n block all in let here = none_under r d (block n) (all n) in grind arith

-- the first state meets it
pub first : (c : Counts) (descriptor block : ℕ → Location) → IsFirst descriptor block
    → IsSound c (first_state descriptor block)
first c descriptor block start =
    record {
      idle = grind arith;
      numbered = grind arith;
      running = grind arith;
      kept = λ r1 d1 q1 s at. grind arith;
      owner = λ r1 d1 at. let free = start.descriptors d1 in grind arith;
      own = λ r1 d1 e1 at. let free = start.descriptors d1 in grind arith;
      ended_own = λ r1 d1 e1 at. let free = start.descriptors d1 in grind arith;
      held = grind arith;
      held_live = grind arith;
      held_limbo = grind arith;
      winner = λ b1 r1 at. let free = start.blocks b1 in grind arith;
      won = λ b1 r1 d1 at run. let free = start.blocks b1 in grind arith;
      ended = grind arith;
      fresh = grind arith;
      sweeping = grind arith;
      looked_most = grind arith;
      swept = grind arith;
      swept_block = grind arith;
      others = grind arith;
      once = grind arith;
      few = grind arith;
      eight = λ r1 d1. let none = none_counted r1 d1 c.blocks block start.blocks in grind arith;
    }

-- so does every state that enabled events lead to
pub keeps_all : (c : Counts) (w : GuardState) (es : List Event) → AllEnabled c w es → IsSound c w
    → IsSound c (after_all w es)
keeps_all c w [] ok old = old
keeps_all c w (e ∷ es) ok old = keeps_all c (after w e) es ok.1 (keeps c w e ok.0 old)
