-- The choices of a run in one go, step by step.
use Rattle.std.proofs.Common.{◌≡◌, ℕ, zero, suc, ◌+◌, List, [], ◌∷◌, ◌++◌, length, take, drop, refl, sym, ap, ◌∙◌, arith, length-append, append_assoc, get_or}
use Rattle.std.specs.Prelude.{Bool, true, false, count_by, cond, slice_index, slice_index_or}
use Rattle.std.proofs.lemmas.List.{get_or-append-add}
use Rattle.std.proofs.lemmas.List.Sums.{sum_by-cons}
use Rattle.body_terms.specs.Line.{Registers, no_registers, registers_after, registers_through, registers_before}
use Rattle.body_terms.specs.Shape.{IsStep, is_take, is_make}
use Rattle.body_terms.specs.Plain.{no_choice, lock_choices, choices}
use Rattle.body_terms.specs.declared.step.Step.{Step}
use Rattle.body_terms.specs.declared.step.Step.TheVariants.{Load, Want, Fresh, Take, Make, Stamp, Store, Retire, Answer}
use Rattle.body_terms.proofs.LineLemmas.{split_at}

-- n dropped after m
drop-drop : {X : Type 0} (m n : ℕ) (xs : List X) → drop n (drop m xs) ≡ drop (m + n) xs
drop-drop zero n xs = (let z : n ≡ 0 + n = omega arith in ap (λ k. drop k xs) z)
drop-drop (suc m) n [] = nothing n ∙ sym (nothing (suc m + n))
  where
    nothing : {X : Type 0} (n : ℕ) → drop n (let e : List X = [] in e) ≡ []
    nothing zero = refl
    nothing (suc n) = refl
drop-drop (suc m) n (x ∷ xs) = drop-drop m n xs ∙ (let z : suc (m + n) ≡ suc m + n = omega arith in ap (λ k. drop k (x ∷ xs)) z)

-- the choices behind the first steps
pub choices-append : (cells : List ℕ) (front back : List Step) (taken : List Bool) (free : List ℕ) → choices cells (front ++ back) taken free ≡ choices cells front taken free ++ choices cells back (drop (count_by is_take front) taken) (drop (count_by is_make front) free)
choices-append cells [] back taken free = refl
choices-append cells (Load place into ∷ front) back taken free = ap (λ rest. no_choice ∷ rest) (choices-append cells front back taken free)
choices-append cells (Want reg word ∷ front) back taken free = choices-append cells front back taken free
choices-append cells (Fresh reg ∷ front) back taken free = choices-append cells front back taken free
choices-append cells (Take place word ∷ front) back taken free =
    let here = lock_choices (slice_index_or taken 0 false) (slice_index cells place) word in
    ap (λ rest. here ++ rest) (choices-append cells front back (drop 1 taken) free)
    ∙ (ap (λ t. here ++ (choices cells front (drop 1 taken) free ++ choices cells back t (drop (count_by is_make front) free))) (drop-drop 1 (count_by is_take front) taken ∙ ap (λ k. drop k taken) (sym (sum_by-cons (λ step. cond (is_take step) 1 0) (Take place word) front)))
    ∙ sym (append_assoc here _ _))
choices-append cells (Make init into ∷ front) back taken free =
    let here = record no_choice { slot = slice_index free 0 } in
    ap (λ rest. here ∷ rest) (choices-append cells front back taken (drop 1 free))
    ∙ ap (λ f. here ∷ (choices cells front taken (drop 1 free) ++ choices cells back (drop (count_by is_take front) taken) f)) (drop-drop 1 (count_by is_make front) free ∙ ap (λ k. drop k free) (sym (sum_by-cons (λ step. cond (is_make step) 1 0) (Make init into) front)))
choices-append cells (Stamp ∷ front) back taken free = choices-append cells front back taken free
choices-append cells (Store reg value ∷ front) back taken free = choices-append cells front back taken free
choices-append cells (Retire slot ∷ front) back taken free = ap (λ rest. no_choice ∷ rest) (choices-append cells front back taken free)
choices-append cells (Answer reply ∷ front) back taken free = choices-append cells front back taken free

length-lock_choices : (got : Bool) (standing free : ℕ) → length (lock_choices got standing free) ≡ 2
length-lock_choices true standing free = refl
length-lock_choices false standing free = refl

-- there is a choice for each word of the log
pub length-choices : (g : Registers) (cells : List ℕ) (steps : List Step) (taken : List Bool) (free : List ℕ) → g.count + length (choices cells steps taken free) ≡ (registers_through g steps).count
length-choices g cells [] taken free = omega arith
length-choices g cells (Load place into ∷ steps) taken free = let h = length-choices (registers_after g (Load place into)) cells steps taken free in omega arith
length-choices g cells (Want reg word ∷ steps) taken free = length-choices g cells steps taken free
length-choices g cells (Fresh reg ∷ steps) taken free = length-choices g cells steps taken free
length-choices g cells (Take place word ∷ steps) taken free =
    let h = length-choices (registers_after g (Take place word)) cells steps (drop 1 taken) free in
    let here = lock_choices (slice_index_or taken 0 false) (slice_index cells place) word in
    omega (arith, length-append here (choices cells steps (drop 1 taken) free), length-lock_choices (slice_index_or taken 0 false) (slice_index cells place) word)
length-choices g cells (Make init into ∷ steps) taken free = let h = length-choices (registers_after g (Make init into)) cells steps taken (drop 1 free) in omega arith
length-choices g cells (Stamp ∷ steps) taken free = length-choices g cells steps taken free
length-choices g cells (Store reg value ∷ steps) taken free = length-choices g cells steps taken free
length-choices g cells (Retire slot ∷ steps) taken free = let h = length-choices (registers_after g (Retire slot)) cells steps taken free in omega arith
length-choices g cells (Answer reply ∷ steps) taken free = length-choices g cells steps taken free

module _ (cells : List ℕ) (body : List Step) (taken : List Bool) (free : List ℕ) (n : ℕ) (step : Step) (here : IsStep body n step) where
  -- the choices from step n on stand behind the words committed before
  pub choices_here : (j : ℕ) → slice_index_or (choices cells body taken free) ((registers_before body n).count + j) no_choice ≡ slice_index_or (choices cells (step ∷ drop (suc n) body) (drop (count_by is_take (take n body)) taken) (drop (count_by is_make (take n body)) free)) j no_choice
  choices_here j =
      let front = choices cells (take n body) taken free in
      let long : length front ≡ (registers_before body n).count = (let h = length-choices no_registers cells (take n body) taken free in omega arith) in
      ap (λ b. get_or (choices cells b taken free) ((registers_before body n).count + j) no_choice) (split_at body n step here)
      ∙ (ap (λ cs. get_or cs ((registers_before body n).count + j) no_choice) (choices-append cells (take n body) (step ∷ drop (suc n) body) taken free)
      ∙ (ap (λ k. get_or (front ++ choices cells (step ∷ drop (suc n) body) (drop (count_by is_take (take n body)) taken) (drop (count_by is_make (take n body)) free)) (k + j) no_choice) (sym long)
      ∙ get_or-append-add front _ j no_choice))
