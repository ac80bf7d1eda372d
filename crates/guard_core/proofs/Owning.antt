-- No event moves anything to another runner's lists.
use Rattle.std.proofs.Common.{◌≡◌, ℕ, List, refl, inl, inr, arith}
use Rattle.std.specs.Prelude.{◌⊎◌}
use Rattle.std.proofs.lemmas.Bool.Decides.{nat_tests}
use Rattle.guard_core.specs.State.{Counts, Location, Free, Live, Limbo, GuardState}
use Rattle.guard_core.specs.Moves.{retired, given_back, swept}
use Rattle.guard_core.specs.Events.{Event, Enter, Exit, StoreGuard, ClearGuard, Validate, Publish, Begin, Link, Finish}
use Rattle.guard_core.specs.Events.{LoadGuard, LoadLast, Enabled, with_next, after}
use Rattle.guard_core.specs.Sound.{IsSound}
use Rattle.guard_core.specs.Owners.{owner_of, StaysWithOwner, GoesRound}
use Rattle.guard_core.proofs.Moving.{retired_free, retired_live, retired_limbo, given_live, given_limbo, swept_live}
use Rattle.guard_core.proofs.Moving.{swept_limbo}

retired_own : (r d : ℕ) (x : Location) → owner_of (retired r d x) ≡ owner_of x
retired_own r d (Free q) = refl
retired_own r d (Live q) = grind arith
retired_own r d (Limbo q e) = refl

given_own : (r d : ℕ) (x : Location) → owner_of (given_back r d x) ≡ owner_of x
given_own r d (Free q) = refl
given_own r d (Live q) = refl
given_own r d (Limbo q e) = grind arith

swept_own : (r : ℕ) (words : List ℕ) (x : Location) → owner_of (swept r words x) ≡ owner_of x
swept_own r words (Free q) = refl
swept_own r words (Live q) = refl
swept_own r words (Limbo q e) = grind arith

pub stays_with_owner : (c : Counts) (w : GuardState) (e : Event) → Enabled c w e → IsSound c w
    → StaysWithOwner w (after w e)
stays_with_owner c w (Enter r) ok sound = record { descriptor = λ d1. refl; block = λ b1. refl }
stays_with_owner c w (Exit r) ok sound = record { descriptor = λ d1. refl; block = λ b1. refl }
stays_with_owner c w (StoreGuard r d) ok sound = record { descriptor = λ d1. refl; block = λ b1. refl }
stays_with_owner c w (ClearGuard r) ok sound = record { descriptor = λ d1. refl; block = λ b1. refl }
stays_with_owner c w (Validate r d) ok sound =
    record {
      descriptor = λ d1. refl;
      block = λ b1. given_own r d (w.block b1);
    }
stays_with_owner c w (Publish r d) ok sound =
    record {
      descriptor = λ d1. grind arith;
      block = λ b1. given_own r d (w.block b1);
    }
stays_with_owner c w (Begin r d) ok sound = record { descriptor = λ d1. refl; block = λ b1. refl }
stays_with_owner c w (Link r d b) ok sound = record { descriptor = λ d1. refl; block = λ b1. grind arith }
stays_with_owner c w (Finish r d) ok sound =
    record {
      descriptor = λ d1. let here = retired_own r d (w.descriptor d) in grind arith;
      block = λ b1. retired_own r d (w.block b1);
    }
stays_with_owner c w (LoadGuard r) ok sound = record { descriptor = λ d1. refl; block = λ b1. refl }
stays_with_owner c w (LoadLast r) ok sound =
    record {
      descriptor = λ d1. swept_own r (with_next w r) (w.descriptor d1);
      block = λ b1. swept_own r (with_next w r) (w.block b1);
    }

-- what stands stays
same_round : (w w' : GuardState) → ((d : ℕ) → w'.descriptor d ≡ w.descriptor d) → ((b : ℕ) → w'.block b ≡ w.block b)
    → GoesRound w w'
same_round w w' descriptors blocks =
    record {
      free = λ d r at. let e = descriptors d in inl (grind arith);
      live = λ d r at. let e = descriptors d in inl (grind arith);
      limbo = λ d r f at. let e = descriptors d in inl (grind arith);
      free_block = λ b r at. let e = blocks b in inl (grind arith);
      live_block = λ b r at. let e = blocks b in inl (grind arith);
      limbo_block = λ b r d at. let e = blocks b in inl (grind arith);
    }

-- what was given back was in limbo
given_round : (r d q : ℕ) (x : Location) → given_back r d x ≡ Free q → (x ≡ Free q) ⊎ ((e : ℕ) × (x ≡ Limbo q e))
given_round r d q (Free p) at = inl at
given_round r d q (Live p) at = inl (grind arith)
given_round r d q (Limbo p e) at = inr (e, grind (arith, nat_tests))

swept_round : (r q : ℕ) (words : List ℕ) (x : Location) → swept r words x ≡ Free q → (x ≡ Free q)
    ⊎ ((e : ℕ) × (x ≡ Limbo q e))
swept_round r q words (Free p) at = inl at
swept_round r q words (Live p) at = inl (grind arith)
swept_round r q words (Limbo p e) at = inr (e, grind (arith, nat_tests))

-- a descriptor lies under itself
under_itself : (d q : ℕ) (x : Location) → ((e : ℕ) → x ≡ Limbo q e → e ≡ d) → (x ≡ Free q)
    ⊎ ((e : ℕ) × (x ≡ Limbo q e)) → (x ≡ Free q) ⊎ (x ≡ Limbo q d)
under_itself d q x own (inl free) = inl free
under_itself d q x own (inr h) = let same = own h.0 h.1 in let lies = h.1 in inr (grind arith)

pub goes_round : (c : Counts) (w : GuardState) (e : Event) → Enabled c w e → IsSound c w → GoesRound w (after w e)
goes_round c w (Enter r) ok sound = same_round w (after w (Enter r)) (λ i. refl) (λ i. refl)
goes_round c w (Exit r) ok sound = same_round w (after w (Exit r)) (λ i. refl) (λ i. refl)
goes_round c w (StoreGuard r d) ok sound = same_round w (after w (StoreGuard r d)) (λ i. refl) (λ i. refl)
goes_round c w (ClearGuard r) ok sound = same_round w (after w (ClearGuard r)) (λ i. refl) (λ i. refl)
goes_round c w (Validate r d) ok sound =
    record {
      free = λ d1 q at. inl at;
      live = λ d1 q at. inl at;
      limbo = λ d1 q f at. inl at;
      free_block = λ b1 q at. given_round r d q (w.block b1) at;
      live_block = λ b1 q at. inl (given_live r d q (w.block b1) at);
      limbo_block = λ b1 q f at. let moved = given_limbo r d q f (w.block b1) at in inl moved.0;
    }
goes_round c w (Publish r d) ok sound =
    record {
      free = λ d1 q at. inl (grind arith);
      live = λ d1 q at. grind arith;
      limbo = λ d1 q f at. inl (grind arith);
      free_block = λ b1 q at. given_round r d q (w.block b1) at;
      live_block = λ b1 q at. inl (given_live r d q (w.block b1) at);
      limbo_block = λ b1 q f at. let moved = given_limbo r d q f (w.block b1) at in inl moved.0;
    }
goes_round c w (Begin r d) ok sound = same_round w (after w (Begin r d)) (λ i. refl) (λ i. refl)
goes_round c w (Link r d b) ok sound =
    record {
      free = λ d1 q at. inl at;
      live = λ d1 q at. inl at;
      limbo = λ d1 q f at. inl at;
      free_block = λ b1 q at. inl (grind arith);
      live_block = λ b1 q at. grind arith;
      limbo_block = λ b1 q f at. inl (grind arith);
    }
goes_round c w (Finish r d) ok sound =
    record {
      free = λ d1 q at. let moved = retired_free r d q (w.descriptor d) in inl (grind arith);
      live = λ d1 q at. let moved = retired_live r d q (w.descriptor d) in inl (grind arith);
      limbo = λ d1 q f at. let moved = retired_limbo r d q f (w.descriptor d) in grind arith;
      free_block = λ b1 q at. inl (retired_free r d q (w.block b1) at);
      live_block = λ b1 q at. let moved = retired_live r d q (w.block b1) at in inl moved.0;
      limbo_block = λ b1 q f at. let moved = retired_limbo r d q f (w.block b1) at in grind arith;
    }
goes_round c w (LoadGuard r) ok sound = same_round w (after w (LoadGuard r)) (λ i. refl) (λ i. refl)
goes_round c w (LoadLast r) ok sound =
    record {
      free = λ d1 q at. under_itself d1 q (w.descriptor d1)
          (λ e. sound.own q d1 e) (swept_round r q (with_next w r) (w.descriptor d1) at);
      live = λ d1 q at. inl (swept_live r q (with_next w r) (w.descriptor d1) at);
      limbo = λ d1 q f at. let moved = swept_limbo r q f (with_next w r) (w.descriptor d1) at in inl moved.0;
      free_block = λ b1 q at. swept_round r q (with_next w r) (w.block b1) at;
      live_block = λ b1 q at. inl (swept_live r q (with_next w r) (w.block b1) at);
      limbo_block = λ b1 q f at. let moved = swept_limbo r q f (with_next w r) (w.block b1) at in inl moved.0;
    }
