-- Each event keeps the invariant: node slots.
use Rattle.std.proofs.Common.{◌≡◌, ◌≢◌, ℕ, ◌+◌, ◌<◌, ◌≤◌, Bool, true, false, refl, sym, ap, ◌∙◌, subst, arith}
use mathlib.Core.Logic.{dite}
use native.Mathlib.Decide.{ℕ_discrete}
use Rattle.epoch_core.specs.declared.location.Location.{Location}
use Rattle.epoch_core.specs.declared.location.Location.TheVariants.{Fixed, Live, Hand, Free, Worn, Limbo, OnBoard}
use Rattle.epoch_core.specs.Update.{upd}
use Rattle.epoch_core.specs.Moves.{tested}
use Rattle.epoch_core.specs.State.{Counts, Retires, EpochState, IsPending, IsKept, entry_of}
use Rattle.epoch_core.specs.Events.{Test, TakeSlot, GiveBoard, TakeBoard, MakeCommit, RetireEpoch, RetireCommit, after, Enabled}
use Rattle.epoch_core.specs.History.{is_out}
use Rattle.epoch_core.specs.Sound.{IsLogged, IsSound, is_for_nodes}

-- a change at a node slot leaves a descriptor where it is
pub out_before : (location : ℕ → Location) (nodes s d : ℕ) (x : Location) → s < nodes → is_out (upd location s x (nodes + d)) ≡ true → is_out (location (nodes + d)) ≡ true
out_before location nodes s d x lt out = grind arith

-- a node slot that wasn't given out, so that nobody holds it, goes to another place where it isn't given out
module _ (c : Counts) (w : EpochState) (s : ℕ) (x : Location) (node : s < c.nodes)
    (unheld : (g : ℕ) → IsKept (w.location s) g → ⊥) (unlive : w.location s ≢ Live)
    (in_no_limbo : (q y : ℕ) → x ≢ Limbo q y) (old : IsSound c w) where
  abbrev moved : ℕ → Location
  moved = upd w.location s x

  same : (t : ℕ) → t ≢ s → moved t ≡ w.location t
  same t ne = grind arith

  stays_held : (q t : ℕ) → w.holds q t ≡ true → IsKept (moved t) (entry_of (w.stage q))
  stays_held q t h = dite (ℕ_discrete t s)
      (λ here. absurd (unheld _ (subst (λ i. IsKept (w.location i) (entry_of (w.stage q))) here (old.held q t h))))
      (λ ne. subst (λ (i : Location). IsKept i (entry_of (w.stage q))) (sym (same t ne)) (old.held q t h))

  stays_young : (t q y : ℕ) → moved t ≡ Limbo q y → y ≤ w.epoch
  stays_young t q y at = dite (ℕ_discrete t s)
      (λ here. absurd (in_no_limbo q y (let e : moved t ≡ x = grind arith in sym e ∙ at)))
      (λ ne. old.limbo_most t q y (sym (same t ne) ∙ at))

  stays_node : (t : ℕ) → is_for_nodes (moved t) ≡ true → t < c.nodes
  stays_node t is = dite (ℕ_discrete t s)
      (λ here. subst (λ i. i < c.nodes) (sym here) node)
      (λ ne. old.for_nodes t (ap is_for_nodes (sym (same t ne)) ∙ is))

  stays_live : (q : ℕ) → IsPending w q → moved ((w.retire q).slot) ≡ Live
  stays_live q pending = let live = old.retire_live q pending in
      same ((w.retire q).slot) (λ here. unlive (ap w.location (sym here) ∙ live)) ∙ live

  pub moves_about : IsSound c (record w { location = moved })
  moves_about = record {
    some = old.some;
    bounded = old.bounded;
    announced_most = old.announced_most;
    unannounced = old.unannounced;
    announced_some = old.announced_some;
    numbered = old.numbered;
    loaded_some = old.loaded_some;
    loaded_most = old.loaded_most;
    entered_most = old.entered_most;
    entered_least = old.entered_least;
    entered_announced = old.entered_announced;
    scan_some = old.scan_some;
    scan_most = old.scan_most;
    scan_clear = old.scan_clear;
    scanned = old.scanned;
    for_nodes = stays_node;
    limbo_most = stays_young;
    holder = old.holder;
    held = stays_held;
    retire_held = old.retire_held;
    retire_role = old.retire_role;
    retire_node = old.retire_node;
    retire_most = old.retire_most;
    retire_live = stays_live;
    retire_once = old.retire_once;
    retire_holders = old.retire_holders;
    logged = λ d k out. old.logged d k (out_before w.location c.nodes s d x node out);
  }

-- the places between which it may go
in_list : (x : Location) → is_out x ≡ false → ((g : ℕ) → IsKept x g → ⊥) × (x ≢ Live) × ((q y : ℕ) → x ≢ Limbo q y)
in_list Fixed out = absurd (cc)
in_list Live out = absurd (cc)
in_list (Limbo q y) out = absurd (cc)
in_list (Hand q) out = (λ g kept. kept, (λ e. absurd (let z = e in cc)), λ r y e. absurd (let z = e in cc))
in_list (Free q) out = (λ g kept. kept, (λ e. absurd (let z = e in cc)), λ r y e. absurd (let z = e in cc))
in_list (Worn q) out = (λ g kept. kept, (λ e. absurd (let z = e in cc)), λ r y e. absurd (let z = e in cc))
in_list (OnBoard i) out = (λ g kept. kept, (λ e. absurd (let z = e in cc)), λ r y e. absurd (let z = e in cc))

goes : (c : Counts) (w : EpochState) (s : ℕ) (from x : Location) → w.location s ≡ from → is_out from ≡ false → is_out x ≡ false
    → s < c.nodes → IsSound c w → IsSound c (record w { location = upd w.location s x })
goes c w s from x at out out' node old = let here = in_list (w.location s) (ap is_out at ∙ out) in let there = in_list x out' in
    moves_about c w s x node here.0 here.1 there.2 old

pub test : (c : Counts) (w : EpochState) (r : ℕ) (s : ℕ) (b : Bool) → Enabled c w (Test r s b) → IsSound c w → IsSound c (after c w (Test r s b))
test c w r s b ok old = goes c w s (Hand r) (tested b r) ok refl (back_in b) (old.for_nodes s (ap is_for_nodes ok)) old
  where
    back_in : (b : Bool) → is_out (tested b r) ≡ false
    back_in true = refl
    back_in false = refl

pub take_slot : (c : Counts) (w : EpochState) (r : ℕ) (s : ℕ) → Enabled c w (TakeSlot r s) → IsSound c w → IsSound c (after c w (TakeSlot r s))
take_slot c w r s ok old = goes c w s (Free r) (Hand r) ok.0 refl refl ok.1 old

pub give_board : (c : Counts) (w : EpochState) (r s i : ℕ) → Enabled c w (GiveBoard r s i) → IsSound c w → IsSound c (after c w (GiveBoard r s i))
give_board c w r s i ok old = goes c w s (Free r) (OnBoard i) ok.0 refl refl ok.1 old

pub take_board : (c : Counts) (w : EpochState) (r s i : ℕ) → Enabled c w (TakeBoard r s i) → IsSound c w → IsSound c (after c w (TakeBoard r s i))
take_board c w r s i ok old = goes c w s (OnBoard i) (Free r) ok refl refl (old.for_nodes s (ap is_for_nodes ok)) old

pub make_commit : (c : Counts) (w : EpochState) (r : ℕ) (d : ℕ) (k : ℕ) (s : ℕ) (b : Bool) → Enabled c w (MakeCommit r d k s b) → IsSound c w → IsSound c (after c w (MakeCommit r d k s b))
make_commit c w r d k s b ok old =
    record {
      some = grind arith;
      bounded = grind arith;
      announced_most = grind arith;
      unannounced = grind arith;
      announced_some = grind arith;
      numbered = grind arith;
      loaded_some = grind arith;
      loaded_most = grind arith;
      entered_most = grind arith;
      entered_least = grind arith;
      entered_announced = grind arith;
      scan_some = grind arith;
      scan_most = grind arith;
      scan_clear = λ r1 x1 n1 r2 e lt. let before = old.scan_clear r1 x1 n1 r2 in grind arith;
      scanned = λ r1 x1 n1 r2 b1 e cl ep isin. let before = old.scanned r1 x1 n1 r2 b1 in grind arith;
      for_nodes = grind arith;
      limbo_most = grind arith;
      holder = grind arith;
      held = grind arith;
      retire_held = grind arith;
      retire_role = grind arith;
      retire_node = grind arith;
      retire_most = grind arith;
      retire_live = grind arith;
      retire_once = grind arith;
      retire_holders = grind arith;
      logged = λ d1 k1 out. let before = old.logged d1 k1 in grind arith;
    }

pub retire_epoch : (c : Counts) (w : EpochState) (r : ℕ) (d : ℕ) (k : ℕ) (s : ℕ) → Enabled c w (RetireEpoch r d k s) → IsSound c w → IsSound c (after c w (RetireEpoch r d k s))
retire_epoch c w r d k s ok old =
    record {
      some = grind arith;
      bounded = grind arith;
      announced_most = grind arith;
      unannounced = grind arith;
      announced_some = grind arith;
      numbered = grind arith;
      loaded_some = grind arith;
      loaded_most = grind arith;
      entered_most = grind arith;
      entered_least = grind arith;
      entered_announced = grind arith;
      scan_some = grind arith;
      scan_most = grind arith;
      scan_clear = λ r1 x1 n1 r2 e lt. let before = old.scan_clear r1 x1 n1 r2 in grind arith;
      scanned = λ r1 x1 n1 r2 b1 e cl ep isin. let before = old.scanned r1 x1 n1 r2 b1 in grind arith;
      for_nodes = grind arith;
      limbo_most = grind arith;
      holder = grind arith;
      held = grind arith;
      retire_held = grind arith;
      retire_role = grind arith;
      retire_node = grind arith;
      retire_most = grind arith;
      retire_live = grind arith;
      retire_once = grind arith;
      retire_holders = grind arith;
      logged = λ d1 k1 out. let before = old.logged d1 k1 in grind arith;
    }

-- after a Retire's commit the slot of each Retire of which nothing is agreed is live
live_still : (c : Counts) (w : EpochState) (r : ℕ) → (w.retire r).loaded ≡ true → ((r1 : ℕ) → IsPending w r1 → w.location ((w.retire r1).slot) ≡ Live)
    → ((r1 r2 : ℕ) → IsPending w r1 → IsPending w r2 → (w.retire r1).slot ≡ (w.retire r2).slot
    → ((w.retire r1).descriptor ≡ (w.retire r2).descriptor) × ((w.retire r1).index ≡ (w.retire r2).index))
    → (r1 : ℕ) → IsPending (after c w (RetireCommit r)) r1 → (after c w (RetireCommit r)).location (((after c w (RetireCommit r)).retire r1).slot) ≡ Live
live_still c w r ok live once r1 pending = grind arith

-- a Retire of which nothing is agreed then was one before
pending_before : (c : Counts) (w : EpochState) (r r1 : ℕ) → IsPending (after c w (RetireCommit r)) r1
    → IsPending w r1 × ((after c w (RetireCommit r)).retire r1 ≡ w.retire r1)
pending_before c w r r1 pending = ((grind arith, grind arith), grind arith)

-- the commit writes what its place allows
logged_still : (c : Counts) (w : EpochState) (r : ℕ) → w.role ((w.retire r).descriptor) ((w.retire r).index) ≡ Retires ((w.retire r).slot)
    → (d k : ℕ) → IsLogged c (w.role d k) (w.log d k) → IsLogged c (w.role d k) ((after c w (RetireCommit r)).log d k)
logged_still c w r retires d k old = grind arith

pub retire_commit : (c : Counts) (w : EpochState) (r : ℕ) → Enabled c w (RetireCommit r) → IsSound c w → IsSound c (after c w (RetireCommit r))
retire_commit c w r ok old =
    record {
      some = grind arith;
      bounded = grind arith;
      announced_most = grind arith;
      unannounced = grind arith;
      announced_some = grind arith;
      numbered = grind arith;
      loaded_some = grind arith;
      loaded_most = grind arith;
      entered_most = grind arith;
      entered_least = grind arith;
      entered_announced = grind arith;
      scan_some = grind arith;
      scan_most = grind arith;
      scan_clear = λ r1 x1 n1 r2 e lt. let before = old.scan_clear r1 x1 n1 r2 in grind arith;
      scanned = λ r1 x1 n1 r2 b1 e cl ep isin. let before = old.scanned r1 x1 n1 r2 b1 in grind arith;
      for_nodes = grind arith;
      limbo_most = grind arith;
      holder = grind arith;
      held = grind arith;
      retire_held = grind arith;
      retire_role = grind arith;
      retire_node = grind arith;
      retire_most = grind arith;
      retire_live = live_still c w r ok old.retire_live old.retire_once;
      retire_once = λ r1 r2 p1 p2 same.
          let before = pending_before c w r r1 p1 in let before' = pending_before c w r r2 p2 in
          let once = old.retire_once r1 r2 before.0 before'.0 (cc) in (cc, cc);
      retire_holders = grind arith;
      logged = λ d1 k1 out. let x = w.retire r in
          logged_still c w r (old.retire_role r ok) d1 k1
          (old.logged d1 k1 (out_before w.location c.nodes x.slot d1 _ (old.retire_node r ok) out));
    }
