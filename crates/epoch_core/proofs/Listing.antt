-- The lists of each runner stay tied to where the slots are.
use Rattle.std.proofs.Common.{◌≡◌, ◌≢◌, ℕ, ◌+◌, ◌<◌, Bool, true, false, List, [], ◌∷◌, ◌++◌, refl, sym, ap, ◌∙◌, subst, arith}
use Rattle.std.specs.Prelude.{nat_lt, not, cond}
use Rattle.std.specs.List.{filter}
use Rattle.std.proofs.lemmas.Bool.Decides.{nat_tests}
use mathlib.Core.Logic.{dite}
use native.Mathlib.Decide.{ℕ_discrete}
use Rattle.epoch_core.specs.declared.location.Location.{Location}
use Rattle.epoch_core.specs.declared.location.Location.TheVariants.{Fixed, Live, Hand, Free, Worn, Limbo, OnBoard}
use Rattle.epoch_core.specs.Update.{upd}
use Rattle.epoch_core.specs.Moves.{collected, swept, tested, made, retired}
use Rattle.epoch_core.specs.State.{Counts, EpochState}
use Rattle.epoch_core.specs.Events.{Event, EnterLoad, Announce, EnterAgain, Exit, ScanEpoch, ScanOne, ScanLast, Advance, Test, TakeSlot, GiveBoard, TakeBoard, MakeCommit, RetireEpoch, RetireCommit, WordCommit, StoreLog, Reach, Publish, RetireDescriptor, Unguard, Sweep, Enabled, after, slot_of, after_collect, is_among}
use Rattle.epoch_core.specs.Sound.{IsSound}
use Rattle.epoch_core.specs.Schedules.{AllEnabled, after_all}
use Rattle.epoch_core.specs.Lists.{Lists, IsListed, listed, listed_all, collect_lists, tested_lists, made_lists, retired_lists, swept_lists, without, old_slots, times, times_retired, in_hand, in_free, in_worn, in_limbo, in_any_limbo}
use Rattle.epoch_core.proofs.Times.{times-append, times-filter, times_retired-append, times-without, times_retired-young, times-old_none}
use Rattle.epoch_core.proofs.Collecting.{leaving, free_kept, worn_kept, limbo_young, descriptor_kept, hand_of_others, limbo_of_others}
use Rattle.epoch_core.proofs.Sweeping.{swept_not, not_among, among_is}
use Rattle.epoch_core.proofs.Keeping.{keeps}

-- a node slot after a collect
node_moved : (c : Counts) (location : ℕ → Location) (r e s : ℕ) → s < c.nodes → after_collect c location r e s ≡ collected true r e (location s)
node_moved c location r e s lt = let node : nat_lt s c.nodes ≡ true = grind (arith, nat_tests) in ap (λ (b : Bool). collected b r e (location s)) node

-- the lists after a collect
collects : (c : Counts) (w : EpochState) (l : ℕ → Lists) (r e : ℕ) → IsListed c w l → IsListed c (record w { location = after_collect c w.location r e }) (upd l r (collect_lists e (l r)))
collects c w l r e old =
    let place = after_collect c w.location r e in
    let l' = upd l r (collect_lists e (l r)) in
    record {
      hand = λ r1 s lt.
          let moved = node_moved c w.location r e s lt in
          dite (ℕ_discrete r1 r)
          (λ own.
          let e1 = ap (in_hand r) moved in let e2 = leaving r e s (w.location s) ((l r).limbo) (λ y. old.limbo r s y lt) in
          let e3 = times-append s ((l r).hand) (old_slots e ((l r).limbo)) in let e4 = old.hand r s lt in
          let P : ℕ → Type 0 = λ q. times s (l' q).hand ≡ in_hand q (place s) in
          let here : P r = grind arith in subst P (sym own) here)
          (λ other. let e1 = ap (in_hand r1) moved in let e2 = hand_of_others true r r1 e (w.location s) other in let e4 = old.hand r1 s lt in grind arith);
      free = λ r1 s lt. let e1 = ap (in_free r1) (node_moved c w.location r e s lt) in let e2 = free_kept r r1 e (w.location s) in let e4 = old.free r1 s lt in grind arith;
      worn = λ r1 s lt. let e1 = ap (in_worn r1) (node_moved c w.location r e s lt) in let e2 = worn_kept true r r1 e (w.location s) in let e4 = old.worn r1 s lt in grind arith;
      limbo = λ r1 s y lt.
          let moved = node_moved c w.location r e s lt in
          dite (ℕ_discrete r1 r)
          (λ own.
          let e1 = ap (in_limbo r y) moved in let e2 = limbo_young r e y (w.location s) in
          let e3 = times_retired-young s y e ((l r).limbo) in let e4 = old.limbo r s y lt in
          let P : ℕ → Type 0 = λ q. times_retired s y (l' q).limbo ≡ in_limbo q y (place s) in
          let here : P r = grind arith in subst P (sym own) here)
          (λ other. let e1 = ap (in_limbo r1 y) moved in let e2 = limbo_of_others true r r1 e y (w.location s) other in let e4 = old.limbo r1 s y lt in grind arith);
      free_descriptors = λ r1 d lt. let e1 = ap (in_free r1) (descriptor_kept c w.location r e d) in let e4 = old.free_descriptors r1 d lt in grind arith;
      limbo_descriptors = λ r1 d lt. let e1 = ap (in_any_limbo r1) (descriptor_kept c w.location r e d) in let e4 = old.limbo_descriptors r1 d lt in grind arith;
      hand_nodes = λ r1 s ge.
          let e3 = times-append s ((l r1).hand) (old_slots e ((l r1).limbo)) in let e4 = old.hand_nodes r1 s ge in
          let e5 = times-old_none s e ((l r1).limbo) (λ y. old.limbo_nodes r1 s y ge) in grind arith;
      free_nodes = λ r1 s ge. let e4 = old.free_nodes r1 s ge in grind arith;
      worn_nodes = λ r1 s ge. let e4 = old.worn_nodes r1 s ge in grind arith;
      limbo_nodes = λ r1 s y ge. let e3 = times_retired-young s y e ((l r1).limbo) in let e4 = old.limbo_nodes r1 s y ge in grind arith;
    }

-- a slot in the hand is free again, or worn
tests : (c : Counts) (w : EpochState) (l : ℕ → Lists) (r s : ℕ) (worn : Bool) → w.location s ≡ Hand r → s < c.nodes → IsListed c w l
    → IsListed c (record w { location = upd w.location s (tested worn r) }) (upd l r (tested_lists worn s (l r)))
tests c w l r s true at node old =
    record {
      hand = λ r1 t lt. let before = old.hand r1 t lt in let gone = times-without t s ((l r1).hand) in grind arith;
      free = λ r1 t lt. let before = old.free r1 t lt in grind arith;
      worn = λ r1 t lt. let before = old.worn r1 t lt in let more = times-append t ((l r1).worn) (s ∷ []) in grind arith;
      limbo = λ r1 t y1 lt. let before = old.limbo r1 t y1 lt in grind arith;
      free_descriptors = λ r1 d1 lt. let before = old.free_descriptors r1 d1 lt in grind arith;
      limbo_descriptors = λ r1 d1 lt. let before = old.limbo_descriptors r1 d1 lt in grind arith;
      hand_nodes = λ r1 t ge. let before = old.hand_nodes r1 t ge in let gone = times-without t s ((l r1).hand) in grind arith;
      free_nodes = λ r1 t ge. let before = old.free_nodes r1 t ge in grind arith;
      worn_nodes = λ r1 t ge. let before = old.worn_nodes r1 t ge in let more = times-append t ((l r1).worn) (s ∷ []) in grind arith;
      limbo_nodes = λ r1 t y1 ge. let before = old.limbo_nodes r1 t y1 ge in grind arith;
    }
tests c w l r s false at node old =
    record {
      hand = λ r1 t lt. let before = old.hand r1 t lt in let gone = times-without t s ((l r1).hand) in grind arith;
      free = λ r1 t lt. let before = old.free r1 t lt in let more = times-append t ((l r1).free) (s ∷ []) in grind arith;
      worn = λ r1 t lt. let before = old.worn r1 t lt in grind arith;
      limbo = λ r1 t y1 lt. let before = old.limbo r1 t y1 lt in grind arith;
      free_descriptors = λ r1 d1 lt. let before = old.free_descriptors r1 d1 lt in grind arith;
      limbo_descriptors = λ r1 d1 lt. let before = old.limbo_descriptors r1 d1 lt in grind arith;
      hand_nodes = λ r1 t ge. let before = old.hand_nodes r1 t ge in let gone = times-without t s ((l r1).hand) in grind arith;
      free_nodes = λ r1 t ge. let before = old.free_nodes r1 t ge in let more = times-append t ((l r1).free) (s ∷ []) in grind arith;
      worn_nodes = λ r1 t ge. let before = old.worn_nodes r1 t ge in grind arith;
      limbo_nodes = λ r1 t y1 ge. let before = old.limbo_nodes r1 t y1 ge in grind arith;
    }

-- a slot in the hand becomes live
becomes_live : (c : Counts) (w : EpochState) (l : ℕ → Lists) (r s : ℕ) → w.location s ≡ Hand r → s < c.nodes → IsListed c w l
    → IsListed c (record w { location = upd w.location s Live }) (upd l r (record (l r) { hand = without (l r).hand s }))
becomes_live c w l r s at node old =
    record {
      hand = λ r1 t lt. let before = old.hand r1 t lt in let gone = times-without t s ((l r1).hand) in grind arith;
      free = λ r1 t lt. let before = old.free r1 t lt in grind arith;
      worn = λ r1 t lt. let before = old.worn r1 t lt in grind arith;
      limbo = λ r1 t y1 lt. let before = old.limbo r1 t y1 lt in grind arith;
      free_descriptors = λ r1 d1 lt. let before = old.free_descriptors r1 d1 lt in grind arith;
      limbo_descriptors = λ r1 d1 lt. let before = old.limbo_descriptors r1 d1 lt in grind arith;
      hand_nodes = λ r1 t ge. let before = old.hand_nodes r1 t ge in let gone = times-without t s ((l r1).hand) in grind arith;
      free_nodes = λ r1 t ge. let before = old.free_nodes r1 t ge in grind arith;
      worn_nodes = λ r1 t ge. let before = old.worn_nodes r1 t ge in grind arith;
      limbo_nodes = λ r1 t y1 ge. let before = old.limbo_nodes r1 t y1 ge in grind arith;
    }

-- a free slot is taken into the hand
takes : (c : Counts) (w : EpochState) (l : ℕ → Lists) (r s : ℕ) → w.location s ≡ Free r → s < c.nodes → IsListed c w l
    → IsListed c (record w { location = upd w.location s (Hand r) }) (upd l r (record (l r) { free = without (l r).free s; hand = (l r).hand ++ s ∷ [] }))
takes c w l r s at node old =
    record {
      hand = λ r1 t lt. let before = old.hand r1 t lt in let more = times-append t ((l r1).hand) (s ∷ []) in grind arith;
      free = λ r1 t lt. let before = old.free r1 t lt in let gone = times-without t s ((l r1).free) in grind arith;
      worn = λ r1 t lt. let before = old.worn r1 t lt in grind arith;
      limbo = λ r1 t y1 lt. let before = old.limbo r1 t y1 lt in grind arith;
      free_descriptors = λ r1 d1 lt. let before = old.free_descriptors r1 d1 lt in grind arith;
      limbo_descriptors = λ r1 d1 lt. let before = old.limbo_descriptors r1 d1 lt in grind arith;
      hand_nodes = λ r1 t ge. let before = old.hand_nodes r1 t ge in let more = times-append t ((l r1).hand) (s ∷ []) in grind arith;
      free_nodes = λ r1 t ge. let before = old.free_nodes r1 t ge in let gone = times-without t s ((l r1).free) in grind arith;
      worn_nodes = λ r1 t ge. let before = old.worn_nodes r1 t ge in grind arith;
      limbo_nodes = λ r1 t y1 ge. let before = old.limbo_nodes r1 t y1 ge in grind arith;
    }

-- a free slot goes onto the board
gives : (c : Counts) (w : EpochState) (l : ℕ → Lists) (r s i : ℕ) → w.location s ≡ Free r → s < c.nodes → IsListed c w l
    → IsListed c (record w { location = upd w.location s (OnBoard i) }) (upd l r (record (l r) { free = without (l r).free s }))
gives c w l r s i at node old =
    record {
      hand = λ r1 t lt. let before = old.hand r1 t lt in grind arith;
      free = λ r1 t lt. let before = old.free r1 t lt in let gone = times-without t s ((l r1).free) in grind arith;
      worn = λ r1 t lt. let before = old.worn r1 t lt in grind arith;
      limbo = λ r1 t y1 lt. let before = old.limbo r1 t y1 lt in grind arith;
      free_descriptors = λ r1 d1 lt. let before = old.free_descriptors r1 d1 lt in grind arith;
      limbo_descriptors = λ r1 d1 lt. let before = old.limbo_descriptors r1 d1 lt in grind arith;
      hand_nodes = λ r1 t ge. let before = old.hand_nodes r1 t ge in grind arith;
      free_nodes = λ r1 t ge. let before = old.free_nodes r1 t ge in let gone = times-without t s ((l r1).free) in grind arith;
      worn_nodes = λ r1 t ge. let before = old.worn_nodes r1 t ge in grind arith;
      limbo_nodes = λ r1 t y1 ge. let before = old.limbo_nodes r1 t y1 ge in grind arith;
    }

-- a slot on the board is taken into a free list
takes_from_board : (c : Counts) (w : EpochState) (l : ℕ → Lists) (r s i : ℕ) → w.location s ≡ OnBoard i → s < c.nodes → IsListed c w l
    → IsListed c (record w { location = upd w.location s (Free r) }) (upd l r (record (l r) { free = (l r).free ++ s ∷ [] }))
takes_from_board c w l r s i at node old =
    record {
      hand = λ r1 t lt. let before = old.hand r1 t lt in grind arith;
      free = λ r1 t lt. let before = old.free r1 t lt in let more = times-append t ((l r1).free) (s ∷ []) in grind arith;
      worn = λ r1 t lt. let before = old.worn r1 t lt in grind arith;
      limbo = λ r1 t y1 lt. let before = old.limbo r1 t y1 lt in grind arith;
      free_descriptors = λ r1 d1 lt. let before = old.free_descriptors r1 d1 lt in grind arith;
      limbo_descriptors = λ r1 d1 lt. let before = old.limbo_descriptors r1 d1 lt in grind arith;
      hand_nodes = λ r1 t ge. let before = old.hand_nodes r1 t ge in grind arith;
      free_nodes = λ r1 t ge. let before = old.free_nodes r1 t ge in let more = times-append t ((l r1).free) (s ∷ []) in grind arith;
      worn_nodes = λ r1 t ge. let before = old.worn_nodes r1 t ge in grind arith;
      limbo_nodes = λ r1 t y1 ge. let before = old.limbo_nodes r1 t y1 ge in grind arith;
    }

-- a live slot goes into limbo
retires : (c : Counts) (w : EpochState) (l : ℕ → Lists) (r s y : ℕ) → w.location s ≡ Live → s < c.nodes → IsListed c w l
    → IsListed c (record w { location = upd w.location s (Limbo r y) }) (upd l r (record (l r) { limbo = (l r).limbo ++ record { slot = s; epoch = y } ∷ [] }))
retires c w l r s y at node old =
    record {
      hand = λ r1 t lt. let before = old.hand r1 t lt in grind arith;
      free = λ r1 t lt. let before = old.free r1 t lt in grind arith;
      worn = λ r1 t lt. let before = old.worn r1 t lt in grind arith;
      limbo = λ r1 t y1 lt. let before = old.limbo r1 t y1 lt in let more = times_retired-append t y1 ((l r1).limbo) (record { slot = s; epoch = y } ∷ []) in grind arith;
      free_descriptors = λ r1 d1 lt. let before = old.free_descriptors r1 d1 lt in grind arith;
      limbo_descriptors = λ r1 d1 lt. let before = old.limbo_descriptors r1 d1 lt in grind arith;
      hand_nodes = λ r1 t ge. let before = old.hand_nodes r1 t ge in grind arith;
      free_nodes = λ r1 t ge. let before = old.free_nodes r1 t ge in grind arith;
      worn_nodes = λ r1 t ge. let before = old.worn_nodes r1 t ge in grind arith;
      limbo_nodes = λ r1 t y1 ge. let before = old.limbo_nodes r1 t y1 ge in let more = times_retired-append t y1 ((l r1).limbo) (record { slot = s; epoch = y } ∷ []) in grind arith;
    }

-- a free descriptor is published
publishes : (c : Counts) (w : EpochState) (l : ℕ → Lists) (r d : ℕ) → w.location (slot_of c d) ≡ Free r → IsListed c w l
    → IsListed c (record w { location = upd w.location (slot_of c d) Live }) (upd l r (record (l r) { free_descriptors = without (l r).free_descriptors d }))
publishes c w l r d at old =
    record {
      hand = λ r1 t lt. let before = old.hand r1 t lt in grind arith;
      free = λ r1 t lt. let before = old.free r1 t lt in grind arith;
      worn = λ r1 t lt. let before = old.worn r1 t lt in grind arith;
      limbo = λ r1 t y1 lt. let before = old.limbo r1 t y1 lt in grind arith;
      free_descriptors = λ r1 d1 lt. let before = old.free_descriptors r1 d1 lt in let gone = times-without d1 d ((l r1).free_descriptors) in grind arith;
      limbo_descriptors = λ r1 d1 lt. let before = old.limbo_descriptors r1 d1 lt in grind arith;
      hand_nodes = λ r1 t ge. let before = old.hand_nodes r1 t ge in grind arith;
      free_nodes = λ r1 t ge. let before = old.free_nodes r1 t ge in grind arith;
      worn_nodes = λ r1 t ge. let before = old.worn_nodes r1 t ge in grind arith;
      limbo_nodes = λ r1 t y1 ge. let before = old.limbo_nodes r1 t y1 ge in grind arith;
    }

-- a published descriptor goes into limbo
retires_descriptor : (c : Counts) (w : EpochState) (l : ℕ → Lists) (r d y : ℕ) → w.location (slot_of c d) ≡ Live → IsListed c w l
    → IsListed c (record w { location = upd w.location (slot_of c d) (Limbo r y) }) (upd l r (record (l r) { limbo_descriptors = (l r).limbo_descriptors ++ d ∷ [] }))
retires_descriptor c w l r d y at old =
    record {
      hand = λ r1 t lt. let before = old.hand r1 t lt in grind arith;
      free = λ r1 t lt. let before = old.free r1 t lt in grind arith;
      worn = λ r1 t lt. let before = old.worn r1 t lt in grind arith;
      limbo = λ r1 t y1 lt. let before = old.limbo r1 t y1 lt in grind arith;
      free_descriptors = λ r1 d1 lt. let before = old.free_descriptors r1 d1 lt in grind arith;
      limbo_descriptors = λ r1 d1 lt.
          let before = old.limbo_descriptors r1 d1 lt in let more = times-append d1 ((l r1).limbo_descriptors) (d ∷ []) in
          dite (ℕ_discrete d1 d)
          (λ own.
          let live : w.location (slot_of c d1) ≡ Live = grind arith in let none = ap (in_any_limbo r1) live in
          let there : upd w.location (slot_of c d) (Limbo r y) (slot_of c d1) ≡ Limbo r y = grind arith in let one = ap (in_any_limbo r1) there in grind arith)
          (λ other.
          let same : upd w.location (slot_of c d) (Limbo r y) (slot_of c d1) ≡ w.location (slot_of c d1) = grind arith in
          let stays = ap (in_any_limbo r1) same in grind arith);
      hand_nodes = λ r1 t ge. let before = old.hand_nodes r1 t ge in grind arith;
      free_nodes = λ r1 t ge. let before = old.free_nodes r1 t ge in grind arith;
      worn_nodes = λ r1 t ge. let before = old.worn_nodes r1 t ge in grind arith;
      limbo_nodes = λ r1 t y1 ge. let before = old.limbo_nodes r1 t y1 ge in grind arith;
    }

-- where a descriptor is after this runner's sweep
free_then : (b : Bool) (r : ℕ) (x : Location) → in_free r (swept b r x) ≡ in_free r x + cond b (in_any_limbo r x) 0
free_then b r Fixed = grind arith
free_then b r Live = grind arith
free_then b r (Hand r') = grind arith
free_then b r (Free r') = grind arith
free_then b r (Worn r') = grind arith
free_then b r (OnBoard i) = grind arith
free_then b r (Limbo r' y) = grind arith

limbo_then : (b : Bool) (r : ℕ) (x : Location) → in_any_limbo r (swept b r x) ≡ cond (not b) (in_any_limbo r x) 0
limbo_then b r Fixed = grind arith
limbo_then b r Live = grind arith
limbo_then b r (Hand r') = grind arith
limbo_then b r (Free r') = grind arith
limbo_then b r (Worn r') = grind arith
limbo_then b r (OnBoard i) = grind arith
limbo_then b r (Limbo r' y) = grind arith

-- and after the sweep of another one
free_else : (b : Bool) (r q : ℕ) (x : Location) → q ≢ r → in_free q (swept b r x) ≡ in_free q x
free_else b r q Fixed ne = refl
free_else b r q Live ne = refl
free_else b r q (Hand r') ne = refl
free_else b r q (Free r') ne = refl
free_else b r q (Worn r') ne = refl
free_else b r q (OnBoard i) ne = refl
free_else b r q (Limbo r' y) ne = grind arith

limbo_else : (b : Bool) (r q : ℕ) (x : Location) → q ≢ r → in_any_limbo q (swept b r x) ≡ in_any_limbo q x
limbo_else b r q Fixed ne = refl
limbo_else b r q Live ne = refl
limbo_else b r q (Hand r') ne = refl
limbo_else b r q (Free r') ne = refl
limbo_else b r q (Worn r') ne = refl
limbo_else b r q (OnBoard i) ne = refl
limbo_else b r q (Limbo r' y) ne = grind arith

-- the lists after a sweep
sweeps : (c : Counts) (w : EpochState) (l : ℕ → Lists) (r : ℕ) (ds : ℕ → Bool) → IsListed c w l
    → IsListed c (after c w (Sweep r ds)) (upd l r (swept_lists ds (l r)))
sweeps c w l r ds old =
    let l' = upd l r (swept_lists ds (l r)) in
    record {
      hand = λ q s lt. let e = ap (in_hand q) (node s lt) in let before = old.hand q s lt in grind arith;
      free = λ q s lt. let e = ap (in_free q) (node s lt) in let before = old.free q s lt in grind arith;
      worn = λ q s lt. let e = ap (in_worn q) (node s lt) in let before = old.worn q s lt in grind arith;
      limbo = λ q s y lt. let e = ap (in_limbo q y) (node s lt) in let before = old.limbo q s y lt in grind arith;
      free_descriptors = λ q d lt.
          let e = ap (in_free q) (place d) in
          dite (ℕ_discrete q r)
          (λ own.
          let e' = ap (in_free r) (place d) in
          let e1 = times-append d ((l r).free_descriptors) (filter ds ((l r).limbo_descriptors)) in let e2 = times-filter d ds ((l r).limbo_descriptors) in
          let e3 = old.free_descriptors r d lt in let e4 = old.limbo_descriptors r d lt in
          let e5 = free_then (ds d) r (w.location (slot_of c d)) in
          let P : ℕ → Type 0 = λ i. times d (l' i).free_descriptors ≡ in_free i ((after c w (Sweep r ds)).location (slot_of c d)) in
          let here : P r = grind arith in subst P (sym own) here)
          (λ other. let e5 = free_else (ds d) r q (w.location (slot_of c d)) other in let e3 = old.free_descriptors q d lt in grind arith);
      limbo_descriptors = λ q d lt.
          let e = ap (in_any_limbo q) (place d) in
          dite (ℕ_discrete q r)
          (λ own.
          let e' = ap (in_any_limbo r) (place d) in
          let e2 = times-filter d (λ i. not (ds i)) ((l r).limbo_descriptors) in let e4 = old.limbo_descriptors r d lt in
          let e5 = limbo_then (ds d) r (w.location (slot_of c d)) in
          let P : ℕ → Type 0 = λ i. times d (l' i).limbo_descriptors ≡ in_any_limbo i ((after c w (Sweep r ds)).location (slot_of c d)) in
          let here : P r = grind arith in subst P (sym own) here)
          (λ other. let e5 = limbo_else (ds d) r q (w.location (slot_of c d)) other in let e3 = old.limbo_descriptors q d lt in grind arith);
      hand_nodes = λ q s ge. let before = old.hand_nodes q s ge in grind arith;
      free_nodes = λ q s ge. let before = old.free_nodes q s ge in grind arith;
      worn_nodes = λ q s ge. let before = old.worn_nodes q s ge in grind arith;
      limbo_nodes = λ q s y ge. let before = old.limbo_nodes q s y ge in grind arith;
    }
  where
    node : (s : ℕ) → s < c.nodes → (after c w (Sweep r ds)).location s ≡ w.location s
    node s lt = swept_not (is_among c ds s) r (w.location s) (not_among c ds s lt)

    place : (d : ℕ) → (after c w (Sweep r ds)).location (slot_of c d) ≡ swept (ds d) r (w.location (slot_of c d))
    place d = ap (λ (b : Bool). swept b r (w.location (slot_of c d))) (among_is c ds d)

-- events that move no slot
stays : (c : Counts) (w w' : EpochState) (l : ℕ → Lists) → ((s : ℕ) → w'.location s ≡ w.location s) → IsListed c w l → IsListed c w' l
stays c w w' l same old =
    record {
      hand = λ r1 t lt. old.hand r1 t lt ∙ sym (ap (in_hand r1) (same t));
      free = λ r1 t lt. old.free r1 t lt ∙ sym (ap (in_free r1) (same t));
      worn = λ r1 t lt. old.worn r1 t lt ∙ sym (ap (in_worn r1) (same t));
      limbo = λ r1 t y1 lt. old.limbo r1 t y1 lt ∙ sym (ap (in_limbo r1 y1) (same t));
      free_descriptors = λ r1 d1 lt. old.free_descriptors r1 d1 lt ∙ sym (ap (in_free r1) (same (slot_of c d1)));
      limbo_descriptors = λ r1 d1 lt. old.limbo_descriptors r1 d1 lt ∙ sym (ap (in_any_limbo r1) (same (slot_of c d1)));
      hand_nodes = λ r1 t ge. old.hand_nodes r1 t ge;
      free_nodes = λ r1 t ge. old.free_nodes r1 t ge;
      worn_nodes = λ r1 t ge. old.worn_nodes r1 t ge;
      limbo_nodes = λ r1 t y1 ge. old.limbo_nodes r1 t y1 ge;
    }

-- a commit that lost changes no list of the others, nor its own
same_lists : (c : Counts) (w w' : EpochState) (l l' : ℕ → Lists) → ((s : ℕ) → w'.location s ≡ w.location s) → ((r : ℕ) → l' r ≡ l r) → IsListed c w l → IsListed c w' l'
same_lists c w w' l l' same lists old = let moved = stays c w w' l same old in
    record {
      hand = λ r1 t lt. ap (λ (x : Lists). times t x.hand) (lists r1) ∙ moved.hand r1 t lt;
      free = λ r1 t lt. ap (λ (x : Lists). times t x.free) (lists r1) ∙ moved.free r1 t lt;
      worn = λ r1 t lt. ap (λ (x : Lists). times t x.worn) (lists r1) ∙ moved.worn r1 t lt;
      limbo = λ r1 t y1 lt. ap (λ (x : Lists). times_retired t y1 x.limbo) (lists r1) ∙ moved.limbo r1 t y1 lt;
      free_descriptors = λ r1 d1 lt. ap (λ (x : Lists). times d1 x.free_descriptors) (lists r1) ∙ moved.free_descriptors r1 d1 lt;
      limbo_descriptors = λ r1 d1 lt. ap (λ (x : Lists). times d1 x.limbo_descriptors) (lists r1) ∙ moved.limbo_descriptors r1 d1 lt;
      hand_nodes = λ r1 t ge. ap (λ (x : Lists). times t x.hand) (lists r1) ∙ moved.hand_nodes r1 t ge;
      free_nodes = λ r1 t ge. ap (λ (x : Lists). times t x.free) (lists r1) ∙ moved.free_nodes r1 t ge;
      worn_nodes = λ r1 t ge. ap (λ (x : Lists). times t x.worn) (lists r1) ∙ moved.worn_nodes r1 t ge;
      limbo_nodes = λ r1 t y1 ge. ap (λ (x : Lists). times_retired t y1 x.limbo) (lists r1) ∙ moved.limbo_nodes r1 t y1 ge;
    }

-- the two outcomes of a commit
made_won : (found r : ℕ) (worn : Bool) → found ≡ 0 → made found r worn ≡ Live
made_won found r worn won = grind arith

made_lost : (found r : ℕ) (worn : Bool) → found ≢ 0 → made found r worn ≡ tested worn r
made_lost found r worn lost = grind arith

made_lists_won : (found : ℕ) (worn : Bool) (s : ℕ) (x : Lists) → found ≡ 0 → made_lists found worn s x ≡ record x { hand = without x.hand s }
made_lists_won found worn s x won = grind arith

made_lists_lost : (found : ℕ) (worn : Bool) (s : ℕ) (x : Lists) → found ≢ 0 → made_lists found worn s x ≡ tested_lists worn s x
made_lists_lost found worn s x lost = grind arith

retired_won : (found r y : ℕ) (p : Location) → found ≡ 0 → retired found r y p ≡ Limbo r y
retired_won found r y p won = grind arith

retired_lost : (found r y : ℕ) (p : Location) → found ≢ 0 → retired found r y p ≡ p
retired_lost found r y p lost = grind arith

retired_lists_won : (found s y : ℕ) (x : Lists) → found ≡ 0 → retired_lists found s y x ≡ record x { limbo = x.limbo ++ record { slot = s; epoch = y } ∷ [] }
retired_lists_won found s y x won = grind arith

retired_lists_lost : (found s y : ℕ) (x : Lists) → found ≢ 0 → retired_lists found s y x ≡ x
retired_lists_lost found s y x lost = grind arith

-- an update by what stands there changes nothing
upd_same : {A : Type 0} (f : ℕ → A) (k i : ℕ) → upd f k (f k) i ≡ f i
upd_same f k i = dite (ℕ_discrete i k) (λ e. grind arith) (λ ne. grind arith)

-- a Make's commit
makes : (c : Counts) (w w' : EpochState) (l : ℕ → Lists) (r s found : ℕ) (worn : Bool) → ((t : ℕ) → w'.location t ≡ upd w.location s (made found r worn) t)
    → w.location s ≡ Hand r → s < c.nodes → IsListed c w l → IsListed c w' (upd l r (made_lists found worn s (l r)))
makes c w w' l r s found worn moved at node old =
    dite (ℕ_discrete found 0)
    (λ won. same_lists c (record w { location = upd w.location s Live }) w' (upd l r (record (l r) { hand = without (l r).hand s })) _
    (λ t. moved t ∙ ap (λ (p : Location). upd w.location s p t) (made_won found r worn won))
    (λ q. ap (λ (x : Lists). upd l r x q) (made_lists_won found worn s (l r) won)) (becomes_live c w l r s at node old))
    (λ lost. same_lists c (record w { location = upd w.location s (tested worn r) }) w' (upd l r (tested_lists worn s (l r))) _
    (λ t. moved t ∙ ap (λ (p : Location). upd w.location s p t) (made_lost found r worn lost))
    (λ q. ap (λ (x : Lists). upd l r x q) (made_lists_lost found worn s (l r) lost)) (tests c w l r s worn at node old))

-- a Retire's commit
retire_commits : (c : Counts) (w w' : EpochState) (l : ℕ → Lists) (r s y found : ℕ) → ((t : ℕ) → w'.location t ≡ upd w.location s (retired found r y (w.location s)) t)
    → (found ≡ 0 → w.location s ≡ Live) → s < c.nodes → IsListed c w l → IsListed c w' (upd l r (retired_lists found s y (l r)))
retire_commits c w w' l r s y found moved live node old =
    dite (ℕ_discrete found 0)
    (λ won. same_lists c (record w { location = upd w.location s (Limbo r y) }) w' (upd l r (record (l r) { limbo = (l r).limbo ++ record { slot = s; epoch = y } ∷ [] })) _
    (λ t. moved t ∙ ap (λ (p : Location). upd w.location s p t) (retired_won found r y (w.location s) won))
    (λ q. ap (λ (x : Lists). upd l r x q) (retired_lists_won found s y (l r) won)) (retires c w l r s y (live won) node old))
    (λ lost. same_lists c w w' l _
    (λ t. moved t ∙ ap (λ (p : Location). upd w.location s p t) (retired_lost found r y (w.location s) lost) ∙ upd_same w.location s t)
    (λ q. ap (λ (x : Lists). upd l r x q) (retired_lists_lost found s y (l r) lost) ∙ upd_same l r q) old)

-- every enabled event keeps the lists tied to where the slots are
pub lists_follow : (c : Counts) (w : EpochState) (l : ℕ → Lists) (e : Event) → Enabled c w e → IsSound c w → IsListed c w l → IsListed c (after c w e) (listed w l e)
lists_follow c w l (EnterLoad r) ok sound old = stays c w (after c w (EnterLoad r)) l (λ s. refl) old
lists_follow c w l (Announce r e) ok sound old = stays c w (after c w (Announce r e)) l (λ s. refl) old
lists_follow c w l (EnterAgain r) ok sound old = stays c w (after c w (EnterAgain r)) l (λ s. refl) old
lists_follow c w l (Exit r) ok sound old = stays c w (after c w (Exit r)) l (λ s. refl) old
lists_follow c w l (ScanEpoch r) ok sound old = stays c w (after c w (ScanEpoch r)) l (λ s. refl) old
lists_follow c w l (ScanOne r x n b) ok sound old = stays c w (after c w (ScanOne r x n b)) l (λ s. refl) old
lists_follow c w l (ScanLast r x n b) ok sound old = stays c _ (after c w (ScanLast r x n b)) _ (λ s. refl) (collects c w l r x old)
lists_follow c w l (Advance r x n) ok sound old = stays c _ (after c w (Advance r x n)) _ (λ s. refl) (collects c w l r (x + 1) old)
lists_follow c w l (Test r s b) ok sound old = stays c _ (after c w (Test r s b)) _ (λ t. refl) (tests c w l r s b ok (sound.for_nodes s (grind arith)) old)
lists_follow c w l (TakeSlot r s) ok sound old = stays c _ (after c w (TakeSlot r s)) _ (λ t. refl) (takes c w l r s ok.0 ok.1 old)
lists_follow c w l (GiveBoard r s i) ok sound old = stays c _ (after c w (GiveBoard r s i)) _ (λ t. refl) (gives c w l r s i ok.0 ok.1 old)
lists_follow c w l (TakeBoard r s i) ok sound old =
    stays c _ (after c w (TakeBoard r s i)) _ (λ t. refl) (takes_from_board c w l r s i ok (sound.for_nodes s (grind arith)) old)
lists_follow c w l (MakeCommit r d k s b) ok sound old = makes c w (after c w (MakeCommit r d k s b)) l r s (w.log d k) b (λ t. refl) ok.2 (sound.for_nodes s (grind arith)) old
lists_follow c w l (RetireEpoch r d k s) ok sound old = stays c w (after c w (RetireEpoch r d k s)) l (λ s. refl) old
lists_follow c w l (RetireCommit r) ok sound old = let x = w.retire r in retire_commits c w (after c w (RetireCommit r)) l r x.slot x.epoch (w.log x.descriptor x.index) (λ t. refl) (λ h. sound.retire_live r (ok, h)) (sound.retire_node r ok) old
lists_follow c w l (WordCommit r d k v) ok sound old = stays c w (after c w (WordCommit r d k v)) l (λ s. refl) old
lists_follow c w l (StoreLog r d k v) ok sound old = stays c w (after c w (StoreLog r d k v)) l (λ s. refl) old
lists_follow c w l (Reach r s) ok sound old = stays c w (after c w (Reach r s)) l (λ s. refl) old
lists_follow c w l (Publish r d roles) ok sound old = stays c _ (after c w (Publish r d roles)) _ (λ t. refl) (publishes c w l r d ok.1 old)
lists_follow c w l (RetireDescriptor r d) ok sound old = stays c _ (after c w (RetireDescriptor r d)) _ (λ t. refl) (retires_descriptor c w l r d w.epoch ok.1 old)
lists_follow c w l (Unguard r) ok sound old = stays c w (after c w (Unguard r)) l (λ s. refl) old
lists_follow c w l (Sweep r ds) ok sound old = sweeps c w l r ds old

pub lists_follow_all : (c : Counts) (w : EpochState) (l : ℕ → Lists) (es : List Event) → AllEnabled c w es → IsSound c w → IsListed c w l → IsListed c (after_all c w es) (listed_all c w l es)
lists_follow_all c w l [] ok sound old = old
lists_follow_all c w l (e ∷ es) ok sound old = lists_follow_all c (after c w e) (listed w l e) es ok.1 (keeps c w e ok.0 sound) (lists_follow c w l e ok.0 sound old)
