-- What the invariant says of what is held.
use Rattle.std.proofs.Common.{◌≡◌, ◌≢◌, ℕ, true, false, refl, inl, inr, Some, arith}
use Rattle.std.specs.Prelude.{◌⊎◌}
use Rattle.guard_core.specs.State.{Counts, Location, Free, Live, Limbo, GuardState, IsSureOf}
use Rattle.guard_core.specs.Update.{has}
use Rattle.guard_core.specs.Sound.{IsSound}
use Rattle.guard_core.specs.Held.{IsKeptUnder, HeldAreSafe, GivenToNobody}

-- one of the three places
pub data Place (x : Location) : Type 0 where
  free : (q : ℕ) → x ≡ Free q → Place x
  live : (q : ℕ) → x ≡ Live q → Place x
  limbo : (q d : ℕ) → x ≡ Limbo q d → Place x

pub place : (x : Location) → Place x
place (Free q) = free q refl
place (Live q) = live q refl
place (Limbo q d) = limbo q d refl

-- a descriptor that is in no free list
out : (d : ℕ) (x : Location) → Place x → ((q : ℕ) → x ≢ Free q) → ((r e : ℕ) → x ≡ Limbo r e → e ≡ d)
    → ((q : ℕ) × (x ≡ Live q)) ⊎ ((q : ℕ) × (x ≡ Limbo q d))
out d x (free q at) unfree own = absurd (unfree q at)
out d x (live q at) unfree own = inl (q, at)
out d x (limbo q e at) unfree own = let same = own q e at in inr (q, grind arith)

-- a block that is linked in a descriptor of which somebody is sure
under : (c : Counts) (w : GuardState) → IsSound c w → (r d b : ℕ) → IsSureOf w r d → has (w.linked d) b ≡ true
    → Place (w.block b) → IsKeptUnder w d b
under c w sound r d b s l (free q at) = absurd (sound.held r d b q s l at)
under c w sound r d b s l (live q at) = inl (q, at, sound.held_live r d b q s l at)
under c w sound r d b s l (limbo q e at) = let same = sound.held_limbo r d b q e s l at in inr (q, grind arith)

-- it is kept under one descriptor alone
one : (w : GuardState) (d d' b : ℕ) → IsKeptUnder w d b → IsKeptUnder w d' b → d ≡ d'
one w d d' b (inl (q, at, run)) (inl (q', at', run')) = grind arith
one w d d' b (inl (q, at, run)) (inr (q', at')) = grind arith
one w d d' b (inr (q, at)) (inl (q', at', run')) = grind arith
one w d d' b (inr (q, at)) (inr (q', at')) = grind arith

-- where the section isn't over, the block is live
unended : (w : GuardState) (d b : ℕ) → IsKeptUnder w d b → ((r : ℕ) → w.block b ≡ Limbo r d → w.over d ≡ true)
    → w.over d ≡ false
    → (p : ℕ) × (w.block b ≡ Live p) × (w.run p ≡ Some d)
unended w d b (inl kept) ended not = kept
unended w d b (inr (q, at)) ended not = let over = ended q at in absurd (grind arith)

pub held_are_safe : (c : Counts) (w : GuardState) → IsSound c w → HeldAreSafe w
held_are_safe c w sound =
    record {
      kept = λ r d s. out d (w.descriptor d) (place (w.descriptor d)) (λ q. sound.kept r d q s)
          (λ q e. sound.own q d e);
      unfree = λ r d q s. sound.kept r d q s;
      held = λ r d b s l. under c w sound r d b s l (place (w.block b));
      held_unfree = λ r d b q s l. sound.held r d b q s l;
      apart = λ r d r' d' b s s' l l'.
          one w d d' b (under c w sound r d b s l (place (w.block b)))
          (under c w sound r' d' b s' l' (place (w.block b)));
      once = sound.once;
      running = λ r d run. sound.running r d run;
      owner = λ r d at. sound.owner r d at;
      unended = λ q d b at not l.
          unended w d b (under c w sound q d b (sound.owner q d at) l (place (w.block b)))
          (λ r lies. sound.ended b r d lies l) not;
      ended = λ b r d at l. sound.ended b r d at l;
    }

pub given_to_nobody : (c : Counts) (w : GuardState) → IsSound c w → GivenToNobody c w
given_to_nobody c w sound =
    record {
      descriptor = λ r d q s ok. sound.kept r d q s ok.1;
      block = λ r d b q e s l ok. sound.held r d b q s l ok.1;
    }
