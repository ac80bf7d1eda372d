-- Cells as the first values of a function.
use Rattle.std.proofs.Common.{◌≡◌, ℕ, ◌<◌, List, length, refl, ◌∙◌, arith, get_or, set, get_or-set_other, get_or-set_same, length-set}
use Rattle.std.proofs.lemmas.Bool.Decides.{nat_tests}
use Rattle.std.proofs.lemmas.List.FromFn.{get_or-map-range_with_len, length-map-range_with_len, fill_by_all}
use Rattle.body_terms.specs.Update.{upd}
use Rattle.body_terms.specs.Plain.{first_values}

-- there are as many values as are asked for
pub length-first_values : (n : ℕ) (f : ℕ → ℕ) → length (first_values n f) ≡ n
length-first_values n f = length-map-range_with_len f 0 n

-- each is the function's
pub get_or-first_values : (n : ℕ) (f : ℕ → ℕ) (p : ℕ) → p < n → get_or (first_values n f) p 0 ≡ f p
get_or-first_values n f p within = get_or-map-range_with_len f 0 n p p 0 within (omega arith)

stored_at : (xs : List ℕ) (p w k : ℕ) (f : ℕ → ℕ) → k < length xs → get_or xs k 0 ≡ f k → get_or (set xs p w) k 0 ≡ upd f p w k
stored_at xs p w k f within is = grind (arith, nat_tests, get_or-set_other, get_or-set_same)

-- a store among the values changes the function there
pub set-first_values : (n : ℕ) (f : ℕ → ℕ) (p w : ℕ) → set (first_values n f) p w ≡ first_values n (upd f p w)
set-first_values n f p w =
    fill_by_all (upd f p w) (set (first_values n f) p w) n 0 (length-set _ _ _ ∙ length-first_values n f)
    (λ k within. stored_at (first_values n f) p w k f (let long = length-first_values n f in omega arith) (get_or-first_values n f k within))

-- the values of a list are the list
pub first_values-list : (xs : List ℕ) → xs ≡ first_values (length xs) (λ p. get_or xs p 0)
first_values-list xs = fill_by_all (λ p. get_or xs p 0) xs (length xs) 0 refl (λ k within. refl)
