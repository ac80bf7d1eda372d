-- Descriptors by guards: what a runner holds no more, and what a sweep frees.
use Rattle.std.specs.Prelude.{◌==◌, ◌&&◌, nat_le, cond}
use Rattle.std.proofs.Common.{◌≡◌, ℕ, ◌+◌, ◌-◌, ◌<◌, ◌≤◌, Bool, true, false, refl, sym, ap, ◌∙◌, subst, arith}
use Rattle.std.proofs.lemmas.Bool.Decides.{nat_tests}
use mathlib.Core.Logic.{dite}
use native.Mathlib.Decide.{ℕ_discrete}
use Rattle.epoch_core.specs.declared.location.Location.{Location}
use Rattle.epoch_core.specs.declared.location.Location.TheVariants.{Fixed, Live, Hand, Free, Worn, Limbo, OnBoard}
use Rattle.epoch_core.specs.Moves.{swept}
use Rattle.epoch_core.specs.State.{Counts, EpochState, IsKept, entry_of}
use Rattle.epoch_core.specs.Events.{Unguard, Sweep, after, Enabled, slot_of, is_among}
use Rattle.epoch_core.specs.History.{is_out}
use Rattle.epoch_core.specs.Sound.{IsSound, is_for_nodes}

-- what a sweep may leave of a place
pub swept_not : (b : Bool) (r : ℕ) (x : Location) → b ≡ false → swept b r x ≡ x
swept_not b r Fixed e = refl
swept_not b r Live e = refl
swept_not b r (Hand r') e = refl
swept_not b r (Free r') e = refl
swept_not b r (Worn r') e = refl
swept_not b r (OnBoard i) e = refl
swept_not b r (Limbo r' y) e = grind arith

pub swept_out : (b : Bool) (r : ℕ) (x : Location) → is_out (swept b r x) ≡ true → is_out x ≡ true
swept_out b r Fixed out = refl
swept_out b r Live out = refl
swept_out b r (Hand r') out = out
swept_out b r (Free r') out = out
swept_out b r (Worn r') out = out
swept_out b r (OnBoard i) out = out
swept_out b r (Limbo r' y) out = refl

pub swept_nodes : (b : Bool) (r : ℕ) (x : Location) → is_for_nodes (swept b r x) ≡ true → is_for_nodes x ≡ true
swept_nodes b r Fixed is = refl
swept_nodes b r Live is = is
swept_nodes b r (Hand r') is = refl
swept_nodes b r (Free r') is = is
swept_nodes b r (Worn r') is = refl
swept_nodes b r (OnBoard i) is = refl
swept_nodes b r (Limbo r' y) is = by (r' == r && b) is
  where
    by : (c : Bool) → is_for_nodes (cond c (Free r) (Limbo r' y)) ≡ true → is_for_nodes (Limbo r' y) ≡ true
    by true is = absurd (cc)
    by false is = is

pub swept_limbo : (b : Bool) (r q y : ℕ) (x : Location) → swept b r x ≡ Limbo q y → x ≡ Limbo q y
swept_limbo b r q y Fixed at = absurd (cc)
swept_limbo b r q y Live at = absurd (cc)
swept_limbo b r q y (Hand r') at = absurd (cc)
swept_limbo b r q y (Free r') at = absurd (cc)
swept_limbo b r q y (Worn r') at = absurd (cc)
swept_limbo b r q y (OnBoard i) at = absurd (cc)
swept_limbo b r q y (Limbo r' y') at = by (r' == r && b) at
  where
    by : (c : Bool) → cond c (Free r) (Limbo r' y') ≡ Limbo q y → Limbo r' y' ≡ Limbo q y
    by true at = absurd (cc)
    by false at = at

-- what isn't freed out of the own limbo stays
pub unfreed : (b : Bool) (r : ℕ) (x : Location) → ((y : ℕ) → b ≡ true → x ≡ Limbo r y → ⊥) → swept b r x ≡ x
unfreed b r Fixed none = refl
unfreed b r Live none = refl
unfreed b r (Hand r') none = refl
unfreed b r (Free r') none = refl
unfreed b r (Worn r') none = refl
unfreed b r (OnBoard i) none = refl
unfreed true r (Limbo r' y) none = dite (ℕ_discrete r' r)
    (λ own. absurd (none y refl (ap (λ n. Limbo n y) own)))
    (λ other. grind arith)
unfreed false r (Limbo r' y) none = grind arith

-- a node slot is no descriptor
pub not_among : (c : Counts) (ds : ℕ → Bool) (s : ℕ) → s < c.nodes → is_among c ds s ≡ false
not_among c ds s lt = by (nat_le c.nodes s) (ds (s - c.nodes)) (let no : nat_le c.nodes s ≡ false = grind (arith, nat_tests) in no)
  where
    by : (a b : Bool) → a ≡ false → (a && b) ≡ false
    by true b e = absurd (cc)
    by false b e = refl

-- whether a descriptor is among them
pub among_is : (c : Counts) (ds : ℕ → Bool) (d : ℕ) → is_among c ds (slot_of c d) ≡ ds d
among_is c ds d =
    ap (λ (b : Bool). b && ds (c.nodes + d - c.nodes)) (let yes : nat_le c.nodes (c.nodes + d) ≡ true = grind (arith, nat_tests) in yes)
    ∙ ap ds (let same : c.nodes + d - c.nodes ≡ d = omega arith in same)

-- what is among them is a descriptor
pub among_means : (c : Counts) (ds : ℕ → Bool) (s : ℕ) → is_among c ds s ≡ true → (d : ℕ) × (s ≡ slot_of c d) × (ds d ≡ true)
among_means c ds s e =
    let b = both (nat_le c.nodes s) (ds (s - c.nodes)) e in
    let le : c.nodes ≤ s = is_most c.nodes s b.0 in
    (s - c.nodes, (let same : s ≡ c.nodes + (s - c.nodes) = omega arith in same), b.1)
  where
    both : (a b : Bool) → (a && b) ≡ true → (a ≡ true) × (b ≡ true)
    both true b e = (refl, e)
    both false b e = absurd (cc)

    is_most : (a b : ℕ) → nat_le a b ≡ true → a ≤ b
    is_most a b e = grind (arith, nat_tests)

-- a held slot isn't freed
pub held_stays : (c : Counts) (w : EpochState) (r : ℕ) (ds : ℕ → Bool) → Enabled c w (Sweep r ds) → (q s : ℕ) → w.holds q s ≡ true
    → swept (is_among c ds s) r (w.location s) ≡ w.location s
held_stays c w r ds ok q s held = unfreed (is_among c ds s) r (w.location s) (λ y e at.
    let x = among_means c ds s e in
    let no = ok x.0 x.2 y q (ap w.location (sym x.1) ∙ at) in
    let yes : w.holds q (slot_of c x.0) ≡ true = ap (λ t. w.holds q t) (sym x.1) ∙ held in cc)

pub unguard : (c : Counts) (w : EpochState) (r : ℕ) → Enabled c w (Unguard r) → IsSound c w → IsSound c (after c w (Unguard r))
unguard c w r ok old =
    record {
      some = grind arith;
      bounded = grind arith;
      announced_most = grind arith;
      unannounced = grind arith;
      announced_some = grind arith;
      numbered = grind arith;
      loaded_some = grind arith;
      loaded_most = grind arith;
      entered_most = grind arith;
      entered_least = grind arith;
      entered_announced = grind arith;
      scan_some = grind arith;
      scan_most = grind arith;
      scan_clear = λ r1 x1 n1 r2 e lt. old.scan_clear r1 x1 n1 r2 e lt;
      scanned = λ r1 x1 n1 r2 b1 e cl ep isin. old.scanned r1 x1 n1 r2 b1 e cl ep isin;
      for_nodes = old.for_nodes;
      limbo_most = old.limbo_most;
      holder = λ q s h. old.holder q s (held q s h);
      held = λ q s h. old.held q s (held q s h);
      retire_held = λ q loaded. let before = old.retire_held q loaded in grind arith;
      retire_role = old.retire_role;
      retire_node = old.retire_node;
      retire_most = old.retire_most;
      retire_live = old.retire_live;
      retire_once = old.retire_once;
      retire_holders = λ q q' pending h. old.retire_holders q q' pending (held q' _ h);
      logged = old.logged;
    }
  where
    held : (q s : ℕ) → (after c w (Unguard r)).holds q s ≡ true → w.holds q s ≡ true
    held q s h = grind arith

pub sweep : (c : Counts) (w : EpochState) (r : ℕ) (ds : ℕ → Bool) → Enabled c w (Sweep r ds) → IsSound c w → IsSound c (after c w (Sweep r ds))
sweep c w r ds ok old =
    record {
      some = old.some;
      bounded = old.bounded;
      announced_most = old.announced_most;
      unannounced = old.unannounced;
      announced_some = old.announced_some;
      numbered = old.numbered;
      loaded_some = old.loaded_some;
      loaded_most = old.loaded_most;
      entered_most = old.entered_most;
      entered_least = old.entered_least;
      entered_announced = old.entered_announced;
      scan_some = old.scan_some;
      scan_most = old.scan_most;
      scan_clear = old.scan_clear;
      scanned = old.scanned;
      for_nodes = λ s is. old.for_nodes s (swept_nodes (is_among c ds s) r (w.location s) is);
      limbo_most = λ s q y at. old.limbo_most s q y (swept_limbo (is_among c ds s) r q y (w.location s) at);
      holder = old.holder;
      held = λ q s h. subst (λ (x : Location). IsKept x (entry_of (w.stage q))) (sym (held_stays c w r ds ok q s h)) (old.held q s h);
      retire_held = old.retire_held;
      retire_role = old.retire_role;
      retire_node = old.retire_node;
      retire_most = old.retire_most;
      retire_live = λ q pending. swept_not (is_among c ds ((w.retire q).slot)) r _ (not_among c ds _ (old.retire_node q pending.0)) ∙ old.retire_live q pending;
      retire_once = old.retire_once;
      retire_holders = old.retire_holders;
      logged = λ d k out. old.logged d k (swept_out (is_among c ds (slot_of c d)) r _ out);
    }
