-- Lists that have the same elements, each once, and lists that are mapped or turned round.
use Rattle.std.proofs.Common.{◌≡◌, ◌<◌, ◌-◌, Bool, true, false, true≢false, List, [], ◌∷◌, length, map, refl, sym, ap, ◌∙◌, ⊎_elim, arith}
use Rattle.std.specs.Prelude.{AllPairs, Contains, IsPermutation, reverse}
use Rattle.std.specs.List.{IsDistinct, remove}
use Rattle.std.proofs.lemmas.List.{get_or-map, length-map, get_or-reverse, length-reverse}
use Rattle.std.proofs.lemmas.List.Elements.{All-contains, All-from_recursion}
use Rattle.std.proofs.lemmas.List.Sorted.{IsPermutation-refl, IsPermutation-sym, IsPermutation-cons, IsPermutation-trans, IsPermutation-remove, Contains-permutation}
use Rattle.std.proofs.lemmas.Map.Keys.{IsDistinct-IsPermutation, IsDistinct-head, IsDistinct-tail}
use Rattle.history_orders.proofs.Entries.{contains_cases, contains_front, contains_behind, contains_none}

-- an element behind the first one of a list without repeats isn't the first one
not_first : {X : Type 0} (e : X → X → Bool) (itself : (x : X) → e x x ≡ true) (x y : X) (xs : List X) → IsDistinct e (x ∷ xs) → Contains xs y → y ≡ x → ⊥
not_first e itself x y xs apart at same =
    true≢false (sym (itself x) ∙ ap (e x) (sym same) ∙ All-contains (λ z. e x z ≡ false) xs y (All-from_recursion (λ z. e x z ≡ false) xs (IsDistinct-head e x xs apart)) at)

-- behind the first one, too, each element of the one list is in the other
rest_within : {X : Type 0} (e : X → X → Bool) (itself : (x : X) → e x x ≡ true) (x : X) (xs ys : List X) → IsDistinct e (x ∷ xs)
    → ((y : X) → Contains (x ∷ xs) y → Contains (x ∷ ys) y) → (y : X) → Contains xs y → Contains ys y
rest_within e itself x xs ys apart to y at =
    ⊎_elim (λ same. absurd (not_first e itself x y xs apart at same)) (λ behind. behind) (contains_cases x y ys (to y (contains_behind x y xs at)))

-- two lists without repeats that have the same elements are one list in another order
pub same_elements : {X : Type 0} (e : X → X → Bool) (flips : (x y : X) → e x y ≡ e y x) (itself : (x : X) → e x x ≡ true) (xs ys : List X)
    → IsDistinct e xs → IsDistinct e ys → ((x : X) → Contains xs x → Contains ys x) → ((x : X) → Contains ys x → Contains xs x) → IsPermutation xs ys
same_elements e flips itself [] [] apart apart' to from = IsPermutation-refl []
same_elements e flips itself [] (y ∷ ys) apart apart' to from = absurd (contains_none y (from y (contains_front y y ys refl)))
same_elements e flips itself (x ∷ xs) ys apart apart' to from =
    let at : Contains ys x = to x (contains_front x x xs refl) in
    let rest = remove ys at.0 in
    let moved : IsPermutation ys (x ∷ rest) = IsPermutation-remove ys at.0 x at.1 (sym at.2) in
    let back : IsPermutation (x ∷ rest) ys = IsPermutation-sym ys (x ∷ rest) moved in
    let apart'' : IsDistinct e (x ∷ rest) = IsDistinct-IsPermutation e flips ys (x ∷ rest) moved apart' in
    let to' = rest_within e itself x xs rest apart (λ y here. Contains-permutation ys (x ∷ rest) y moved (to y here)) in
    let from' = rest_within e itself x rest xs apart'' (λ y here. from y (Contains-permutation (x ∷ rest) ys y back here)) in
    IsPermutation-trans (x ∷ xs) (x ∷ rest) ys
    (IsPermutation-cons x xs rest (same_elements e flips itself xs rest (IsDistinct-tail e x xs apart) (IsDistinct-tail e x rest apart'') to' from')) back

-- the elements of a list that is mapped
pub contains_map : {X Y : Type 0} (f : X → Y) (x : X) (xs : List X) → Contains xs x → Contains (map f xs) (f x)
contains_map f x xs at = (at.0, omega (arith, at.1, length-map xs f), get_or-map f xs at.0 x (f x) at.1 ∙ ap f at.2)

pub contains_mapped : {X Y : Type 0} (f : X → Y) (y : Y) (xs : List X) → Contains (map f xs) y → (x : X) × Contains xs x × (y ≡ f x)
contains_mapped f y [] at = absurd (contains_none y at)
contains_mapped f y (x ∷ xs) at =
    ⊎_elim (λ same. (x, contains_front x x xs refl, same))
    (λ behind. let there = contains_mapped f y xs behind in (there.0, contains_behind x there.0 xs there.1, there.2))
    (contains_cases (f x) y (map f xs) at)

pub map_map : {X Y Z : Type 0} (f : X → Y) (g : Y → Z) (xs : List X) → map g (map f xs) ≡ map (λ x. g (f x)) xs
map_map f g [] = refl
map_map f g (x ∷ xs) = ap (λ l. g (f x) ∷ l) (map_map f g xs)

-- two functions that agree on the elements give one list
pub map_agree : {X Y : Type 0} (f g : X → Y) (xs : List X) → ((x : X) → Contains xs x → f x ≡ g x) → map f xs ≡ map g xs
map_agree f g [] agree = refl
map_agree f g (x ∷ xs) agree = λ i. agree x (contains_front x x xs refl) i ∷ map_agree f g xs (λ y at. agree y (contains_behind x y xs at)) i

-- what holds of each element and each later one, in a list that is turned round, and in one that is mapped
pub pairs_turned : {X : Type 0} (R : X → X → Type 0) (xs : List X) → AllPairs R xs → AllPairs (λ a b. R b a) (reverse xs)
pairs_turned R xs pairs i j d before within =
    let long = length-reverse xs in
    let first = get_or-reverse xs i d (omega (arith, long)) in
    let second = get_or-reverse xs j d (omega (arith, long)) in
    rw (first, second) (pairs (length xs - 1 - j) (length xs - 1 - i) d (omega (arith, long)) (omega (arith, long)))

pub pairs_mapped : {X Y : Type 0} (f : X → Y) (R : Y → Y → Type 0) (xs : List X) → AllPairs (λ a b. R (f a) (f b)) xs → AllPairs R (map f xs)
pairs_mapped f R [] pairs i j d before within = absurd (omega arith)
pairs_mapped f R (x ∷ xs) pairs i j d before within =
    let inside : j < length (x ∷ xs) = omega (arith, length-map (x ∷ xs) f) in
    let first = get_or-map f (x ∷ xs) i x d (omega arith) in
    let second = get_or-map f (x ∷ xs) j x d inside in
    rw (first, second) (pairs i j x before inside)
