-- The lists after a collect.
use Rattle.std.specs.Prelude.{nat_lt}
use Rattle.std.proofs.lemmas.Bool.Decides.{nat_tests}
use Rattle.std.proofs.Common.{◌≡◌, ◌≢◌, ℕ, ◌+◌, Bool, true, false, cond, List, refl, ap, ◌∙◌, arith}
use mathlib.Core.Logic.{dite}
use native.Mathlib.Decide.{ℕ_discrete}
use Rattle.epoch_core.specs.declared.location.Location.{Location}
use Rattle.epoch_core.specs.declared.location.Location.TheVariants.{Fixed, Live, Hand, Free, Worn, Limbo, OnBoard}
use Rattle.epoch_core.specs.Moves.{is_old, collected}
use Rattle.epoch_core.specs.State.{Counts}
use Rattle.epoch_core.specs.Events.{slot_of, after_collect}
use Rattle.epoch_core.specs.Lists.{Entry, times, times_retired, old_slots, in_hand, in_free, in_worn, in_limbo}
use Rattle.epoch_core.proofs.Times.{times-old_none, times-old_one}

-- what leaves limbo of the node slots
pub leaving : (r e s : ℕ) (p : Location) (limbo : List Entry) → ((y : ℕ) → times_retired s y limbo ≡ in_limbo r y p)
    → times s (old_slots e limbo) + in_hand r p ≡ in_hand r (collected true r e p)
leaving r e s Fixed limbo at = let none = times-old_none s e limbo at in grind arith
leaving r e s Live limbo at = let none = times-old_none s e limbo at in grind arith
leaving r e s (Hand r') limbo at = let none = times-old_none s e limbo at in grind arith
leaving r e s (Free r') limbo at = let none = times-old_none s e limbo at in grind arith
leaving r e s (Worn r') limbo at = let none = times-old_none s e limbo at in grind arith
leaving r e s (OnBoard i) limbo at = let none = times-old_none s e limbo at in grind arith
leaving r e s (Limbo r' y') limbo at =
    dite (ℕ_discrete r' r)
    (λ own. let one = times-old_one s y' e limbo (λ y. let h = at y in grind arith) in grind arith)
    (λ other. let none = times-old_none s e limbo (λ y. let h = at y in grind arith) in grind arith)

-- nothing comes to be free by a collect
pub free_kept : (r r1 e : ℕ) (p : Location) → in_free r1 (collected true r e p) ≡ in_free r1 p
free_kept r r1 e Fixed = refl
free_kept r r1 e Live = refl
free_kept r r1 e (Hand r') = refl
free_kept r r1 e (Free r') = refl
free_kept r r1 e (Worn r') = refl
free_kept r r1 e (OnBoard i) = refl
free_kept r r1 e (Limbo r' y') = grind arith

pub worn_kept : (node : Bool) (r r1 e : ℕ) (p : Location) → in_worn r1 (collected node r e p) ≡ in_worn r1 p
worn_kept node r r1 e Fixed = refl
worn_kept node r r1 e Live = refl
worn_kept node r r1 e (Hand r') = refl
worn_kept node r r1 e (Free r') = refl
worn_kept node r r1 e (Worn r') = refl
worn_kept node r r1 e (OnBoard i) = refl
worn_kept true r r1 e (Limbo r' y') = grind arith
worn_kept false r r1 e (Limbo r' y') = grind arith

pub limbo_young : (r e y : ℕ) (p : Location) → in_limbo r y (collected true r e p) ≡ cond (is_old y e) 0 (in_limbo r y p)
limbo_young r e y Fixed = grind arith
limbo_young r e y Live = grind arith
limbo_young r e y (Hand r') = grind arith
limbo_young r e y (Free r') = grind arith
limbo_young r e y (Worn r') = grind arith
limbo_young r e y (OnBoard i) = grind arith
limbo_young r e y (Limbo r' y') = grind arith

-- a descriptor stays
pub descriptor_stays : (r e : ℕ) (p : Location) → collected false r e p ≡ p
descriptor_stays r e Fixed = refl
descriptor_stays r e Live = refl
descriptor_stays r e (Hand r') = refl
descriptor_stays r e (Free r') = refl
descriptor_stays r e (Worn r') = refl
descriptor_stays r e (OnBoard i) = refl
descriptor_stays r e (Limbo r' y') = refl

-- the lists of the others stay
pub hand_of_others : (node : Bool) (r r1 e : ℕ) (p : Location) → r1 ≢ r → in_hand r1 (collected node r e p) ≡ in_hand r1 p
hand_of_others node r r1 e Fixed ne = refl
hand_of_others node r r1 e Live ne = refl
hand_of_others node r r1 e (Hand r') ne = refl
hand_of_others node r r1 e (Free r') ne = refl
hand_of_others node r r1 e (Worn r') ne = refl
hand_of_others node r r1 e (OnBoard i) ne = refl
hand_of_others true r r1 e (Limbo r' y') ne = grind arith
hand_of_others false r r1 e (Limbo r' y') ne = grind arith

pub limbo_of_others : (node : Bool) (r r1 e y : ℕ) (p : Location) → r1 ≢ r → in_limbo r1 y (collected node r e p) ≡ in_limbo r1 y p
limbo_of_others node r r1 e y Fixed ne = refl
limbo_of_others node r r1 e y Live ne = refl
limbo_of_others node r r1 e y (Hand r') ne = refl
limbo_of_others node r r1 e y (Free r') ne = refl
limbo_of_others node r r1 e y (Worn r') ne = refl
limbo_of_others node r r1 e y (OnBoard i) ne = refl
limbo_of_others true r r1 e y (Limbo r' y') ne = grind arith
limbo_of_others false r r1 e y (Limbo r' y') ne = grind arith

-- a descriptor after a collect
pub descriptor_kept : (c : Counts) (location : ℕ → Location) (r e d : ℕ) → after_collect c location r e (slot_of c d) ≡ location (slot_of c d)
descriptor_kept c location r e d =
    let node : nat_lt (slot_of c d) c.nodes ≡ false = grind (arith, nat_tests) in
    ap (λ (b : Bool). collected b r e (location (slot_of c d))) node ∙ descriptor_stays r e (location (slot_of c d))
