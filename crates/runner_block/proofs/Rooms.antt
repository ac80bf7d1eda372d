-- How many slots a runner's lists hold.
use Rattle.std.proofs.Common.{zero, ◌⊎◌, inl, inr, ⊎_elim, ◌≡◌, ℕ, suc, ◌+◌, ◌<◌, ◌≤◌, List, [], ◌∷◌, ◌++◌, length, Bool, true, false, refl, sym, ap, ◌∙◌, arith, map, length-append}
use Rattle.std.specs.Prelude.{◌==◌, ◌||◌, not, if◌then◌else◌}
use Rattle.std.specs.List.{filter, list_any, IsDistinct, AllByRecursion}
use Rattle.std.proofs.lemmas.Bool.Decides.{nat_tests}
use Rattle.std.proofs.lemmas.List.{length-map}
use Rattle.std.proofs.lemmas.Map.Steps.{length-le_from_distinct_below}
use lib.Dec.{eqb}
use Rattle.machine_states.specs.runner_parts.specs.declared.entries.Tested.{Tested}
use Rattle.machine_states.specs.runner_parts.specs.Tests.{has}
use Rattle.machine_states.specs.runner_parts.specs.declared.entries.Retired.{Retired}
use Rattle.machine_states.specs.runner_parts.specs.State.{NodesState}
use Rattle.machine_states.specs.runner_parts.specs.Lists.{without, tests_without, slots_of}
use Rattle.machine_states.specs.First.{falling}
use Rattle.std.proofs.lemmas.List.Folds.{list_any-append}
use Rattle.runner_block.specs.Room.{AreTested, AreBelow, NodesFit}

-- a list without a number has no more entries
kept_or : (b : Bool) (x : ℕ) (xs ys : List ℕ) → length ys ≤ length xs → length (if b then x ∷ ys else ys) ≤ suc (length xs)
kept_or true x xs ys h = omega (arith, h)
kept_or false x xs ys h = omega (arith, h)

pub without_most : (xs : List ℕ) (x : ℕ) → length (without xs x) ≤ length xs
without_most [] x = omega arith
without_most (y ∷ xs) x = kept_or (not (y == x)) y xs (without xs x) (without_most xs x)

fewer_by : (b : Bool) (x : ℕ) (xs : List ℕ) (y : ℕ) → y == x ≡ b → (has xs x ≡ true → length (without xs x) + 1 ≤ length xs) → has (y ∷ xs) x ≡ true → length (if not b then y ∷ without xs x else without xs x) + 1 ≤ suc (length xs)
fewer_by true x xs y e h is = let a = without_most xs x in omega (arith, a)
fewer_by false x xs y e h is = let a = h (sym (ap (λ (c : Bool). c || has xs x) e) ∙ is) in omega (arith, a)

-- and fewer, where it had the number
pub without_fewer : (xs : List ℕ) (x : ℕ) → has xs x ≡ true → length (without xs x) + 1 ≤ length xs
without_fewer [] x is = absurd (let no : ⊥ = cc in no)
without_fewer (y ∷ xs) x is = fewer_by (y == x) x xs y refl (without_fewer xs x) is

abbrev slot_in : List Tested → ℕ → Bool
slot_in xs slot = list_any (λ y. y.slot == slot) xs

untested_by : (b : Bool) (slot : ℕ) (x : Tested) (xs : List Tested) → x.slot == slot ≡ b → slot_in xs slot ≡ false → slot_in (if not b then x ∷ xs else xs) slot ≡ false
untested_by true slot x xs e h = h
untested_by false slot x xs e h = ap (λ (c : Bool). c || slot_in xs slot) e ∙ h

-- a slot whose tests were forgotten has none
forgotten : (slot : ℕ) (xs : List Tested) → slot_in (tests_without xs slot) slot ≡ false
forgotten slot [] = refl
forgotten slot (x ∷ xs) = untested_by (x.slot == slot) slot x (tests_without xs slot) refl (forgotten slot xs)

neither : (a b : Bool) → a || b ≡ false → (a ≡ false) × (b ≡ false)
neither true b e = absurd (let no : ⊥ = cc in no)
neither false b e = (refl, e)

absent_by : (b : Bool) (other : ℕ) (x : Tested) (xs ys : List Tested) → (x.slot == other) || slot_in xs other ≡ false → (slot_in xs other ≡ false → slot_in ys other ≡ false) → slot_in (if b then x ∷ ys else ys) other ≡ false
absent_by true other x xs ys h step = let n = neither (x.slot == other) (slot_in xs other) h in ap (λ (c : Bool). c || slot_in ys other) n.0 ∙ step n.1
absent_by false other x xs ys h step = step (neither (x.slot == other) (slot_in xs other) h).1

-- a slot without tests stays so when others' are forgotten
absent_stays : (other slot : ℕ) (xs : List Tested) → slot_in xs other ≡ false → slot_in (tests_without xs slot) other ≡ false
absent_stays other slot [] h = refl
absent_stays other slot (x ∷ xs) h = absent_by (not (x.slot == slot)) other x xs (tests_without xs slot) h (absent_stays other slot xs)

fewer_tests_by : (b : Bool) (room : ℕ) (x : Tested) (xs ys : List Tested) → AreTested room (x ∷ xs) → (slot_in xs x.slot ≡ false → slot_in ys x.slot ≡ false) → AreTested room ys → AreTested room (if b then x ∷ ys else ys)
fewer_tests_by true room x xs ys h absent rest = (h.0, absent h.1, rest)
fewer_tests_by false room x xs ys h absent rest = rest

pub tested_without : (room slot : ℕ) (xs : List Tested) → AreTested room xs → AreTested room (tests_without xs slot)
tested_without room slot [] h = h
tested_without room slot (x ∷ xs) h = fewer_tests_by (not (x.slot == slot)) room x xs (tests_without xs slot) h (absent_stays x.slot slot xs) (tested_without room slot xs h.2)

apart_by : (b : Bool) (other : ℕ) (xs : List Tested) (x : Tested) → x.slot == other ≡ b → b ≡ false → slot_in xs other ≡ false → slot_in (xs ++ x ∷ []) other ≡ false
apart_by b other [] x e n h = ap (λ (c : Bool). c || false) (e ∙ n)
apart_by b other (y ∷ xs) x e n h = let t = neither (y.slot == other) (slot_in xs other) h in ap (λ (c : Bool). c || slot_in (xs ++ x ∷ []) other) t.0 ∙ apart_by b other xs x e n t.1

not_same : (a b : ℕ) → a == b ≡ false → b == a ≡ false
not_same a b e = grind (arith, nat_tests)

-- one more slot with tests
pub tested_more : (room : ℕ) (xs : List Tested) (x : Tested) → x.slot < room → slot_in xs x.slot ≡ false → AreTested room xs → AreTested room (xs ++ x ∷ [])
tested_more room [] x low absent h = (low, refl, tt)
tested_more room (y ∷ xs) x low absent h = let n = neither (y.slot == x.slot) (slot_in xs x.slot) absent in
    (h.0, apart_by false y.slot xs x (not_same y.slot x.slot n.0) refl h.1, tested_more room xs x low n.1 h.2)

pub tested_anew : (room : ℕ) (xs : List Tested) (x : Tested) → x.slot < room → AreTested room xs → AreTested room (tests_without xs x.slot ++ x ∷ [])
tested_anew room xs x low h = tested_more room (tests_without xs x.slot) x low (forgotten x.slot xs) (tested_without room x.slot xs h)

abbrev slots : List Tested → List ℕ
slots xs = map (λ x. x.slot) xs

eqb_same : (q n : ℕ) → eqb q n ≡ n == q
eqb_same q n = grind (arith, nat_tests)

any_slot : (q : ℕ) (xs : List Tested) → list_any (eqb q) (slots xs) ≡ slot_in xs q
any_slot q [] = refl
any_slot q (x ∷ xs) = (λ i. eqb_same q x.slot i || any_slot q xs i)

absent_all : (q : ℕ) (xs : List ℕ) → list_any (eqb q) xs ≡ false → AllByRecursion (λ y. eqb q y ≡ false) xs
absent_all q [] h = tt
absent_all q (x ∷ xs) h = let n = neither (eqb q x) (list_any (eqb q) xs) h in (n.0, absent_all q xs n.1)

distinct : (room : ℕ) (xs : List Tested) → AreTested room xs → IsDistinct eqb (slots xs)
unfolding IsDistinct
distinct room [] h = tt
distinct room (x ∷ xs) h = (absent_all x.slot (slots xs) (any_slot x.slot xs ∙ h.1), distinct room xs h.2)

below_by : (b : Bool) (room q : ℕ) (x : Tested) (xs : List Tested) → x.slot == q ≡ b → x.slot < room → (slot_in xs q ≡ true → q < room) → b || slot_in xs q ≡ true → q < room
below_by true room q x xs e low rest h = let is : x.slot ≡ q = grind (arith, nat_tests, e) in omega (arith, is, low)
below_by false room q x xs e low rest h = rest h

below : (room : ℕ) (xs : List Tested) → AreTested room xs → (q : ℕ) → slot_in xs q ≡ true → q < room
below room [] h q e = absurd (let no : ⊥ = cc in no)
below room (x ∷ xs) h q e = below_by (x.slot == q) room q x xs refl h.0 (below room xs h.2 q) e

-- as many slots are tested as there are at most
pub few_tested : (room : ℕ) (xs : List Tested) → AreTested room xs → length xs ≤ room
few_tested room xs h = let a = length-le_from_distinct_below (slots xs) room (distinct room xs h) (λ q e. below room xs h q (sym (any_slot q xs) ∙ e)) in let b = length-map xs (λ (x : Tested). x.slot) in omega (arith, a, b)

-- no more slots in lists with as much room
pub refit : (room n n' free free' hand hand' tests tests' limbo limbo' worn worn' : ℕ) (lists lists' : NodesState) → NodesFit room n free hand tests limbo worn lists → n' ≤ n
    → free' ≡ free → hand' ≡ hand → tests' ≡ tests → limbo' ≡ limbo → worn' ≡ worn → AreTested room lists'.tests → AreBelow room lists'.free → AreBelow room lists'.hand → AreBelow room (slots_of lists'.limbo)
    → NodesFit room n' free' hand' tests' limbo' worn' lists'
refit room n n' free free' hand hand' tests tests' limbo limbo' worn worn' lists lists' was less a b d e f once g h i = record {
  fits = (let z = was.fits in omega (arith, z, less));
  few = was.few;
  free_room = a ∙ was.free_room;
  hand_room = b ∙ was.hand_room;
  tests_room = d ∙ was.tests_room;
  limbo_room = e ∙ was.limbo_room;
  worn_room = f ∙ was.worn_room;
  tested_once = once;
  free_below = g;
  hand_below = h;
  limbo_below = i;
}

has_more : (b : Bool) (x y : ℕ) (xs ys : List ℕ) → (has ys x ≡ true → has xs x ≡ true) → has (if b then y ∷ ys else ys) x ≡ true → (y == x) || has xs x ≡ true
has_more true x y xs ys rest h = grind (arith, nat_tests, rest, h)
has_more false x y xs ys rest h = let r = rest h in grind (arith, nat_tests, r)

has_without : (xs : List ℕ) (slot x : ℕ) → has (without xs slot) x ≡ true → has xs x ≡ true
has_without [] slot x h = h
has_without (y ∷ xs) slot x h = has_more (not (y == slot)) x y xs (without xs slot) (has_without xs slot x) h

pub below_without : (room slot : ℕ) (xs : List ℕ) → AreBelow room xs → AreBelow room (without xs slot)
below_without room slot xs h = record { below = λ x has_it. h.below x (has_without xs slot x has_it) }

has_append : (xs ys : List ℕ) (x : ℕ) → has (xs ++ ys) x ≡ has xs x || has ys x
has_append xs ys x = list_any-append (λ y. y == x) xs ys

one_of : (a b : Bool) → a || b ≡ true → (a ≡ true) ⊎ (b ≡ true)
one_of true b e = inl refl
one_of false b e = inr e

pub below_append : (room : ℕ) (xs ys : List ℕ) → AreBelow room xs → AreBelow room ys → AreBelow room (xs ++ ys)
below_append room xs ys h h' = record { below = λ x e. ⊎_elim (λ a. h.below x a) (λ b. h'.below x b) (one_of (has xs x) (has ys x) (sym (has_append xs ys x) ∙ e)) }

pub below_one : (room x : ℕ) → x < room → AreBelow room (x ∷ [])
below_one room x low = record { below = λ y e. ⊎_elim (λ a. let is : x ≡ y = grind (arith, nat_tests, a) in omega (arith, is, low)) (λ b. absurd (let no : ⊥ = cc in no)) (one_of (x == y) false e) }

pub below_none : (room : ℕ) → AreBelow room []
below_none room = record { below = λ y e. absurd (let no : ⊥ = cc in no) }

has_kept : (b : Bool) (x : ℕ) (y : Retired) (xs ys : List Retired) → (has (slots_of ys) x ≡ true → has (slots_of xs) x ≡ true) → has (slots_of (if b then y ∷ ys else ys)) x ≡ true → (y.slot == x) || has (slots_of xs) x ≡ true
has_kept true x y xs ys rest h = grind (arith, nat_tests, rest, h)
has_kept false x y xs ys rest h = let r = rest h in grind (arith, nat_tests, r)

has_some : (p : Retired → Bool) (xs : List Retired) (x : ℕ) → has (slots_of (filter p xs)) x ≡ true → has (slots_of xs) x ≡ true
has_some p [] x h = h
has_some p (y ∷ xs) x h = has_kept (p y) x y xs (filter p xs) (has_some p xs x) h

pub below_filter : (room : ℕ) (p : Retired → Bool) (xs : List Retired) → AreBelow room (slots_of xs) → AreBelow room (slots_of (filter p xs))
below_filter room p xs h = record { below = λ x e. h.below x (has_some p xs x e) }

pub length_falling : (first count : ℕ) → length (falling first count) ≡ count
length_falling first zero = refl
length_falling first (suc n) = let h = length_falling first n in omega (arith, h)

-- numbers in falling order are below the one after the first
pub below_falling : (room first count : ℕ) → first + count ≤ room → AreBelow room (falling first count)
below_falling room first zero few = below_none room
below_falling room first (suc n) few = below_append room ((first + n) ∷ []) (falling first n) (below_one room (first + n) (omega (arith, few))) (below_falling room first n (omega (arith, few)))

-- one more test fits
pub one_more_fits : (room : ℕ) (xs : List Tested) (x : Tested) → x.slot < room → AreTested room xs → length (tests_without xs x.slot) < room
one_more_fits room xs x low h = let a = few_tested room (tests_without xs x.slot ++ x ∷ []) (tested_anew room xs x low h) in let b = length-append (tests_without xs x.slot) (x ∷ []) in omega (arith, a, b)
