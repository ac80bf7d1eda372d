-- The end of a run: which exchanges it has, and which locks.
use Rattle.std.specs.Prelude.{◌==◌, ◌||◌, Bool, true, false, slice_index_or}
use Rattle.std.specs.List.{list_any}
use Rattle.std.proofs.Common.{◌≡◌, ℕ, zero, suc, ◌<◌, ◌≤◌, List, [], ◌∷◌, ◌++◌, length, take, sym, refl, ap, ◌∙◌, arith, inl, inr, ⊎_elim}
use Rattle.std.specs.Prelude.{◌⊎◌}
use Rattle.std.proofs.lemmas.Bool.Decides.{nat_tests}
use Rattle.machine_states.specs.epoch_core.specs.small_lemmas.proofs.Bools.{or_true}
use Rattle.machine_states.specs.body_terms.specs.declared.micro.Micro.{Micro}
use Rattle.machine_states.specs.body_terms.specs.declared.micro.Micro.TheVariants as micros
use Rattle.machine_states.specs.body_terms.specs.Line.{micro_at, releases, is_end}
use Rattle.machine_states.specs.runner_steps.specs.AfterInRun.{place_of}

-- these steps have taken this lock, free with this word: the outer one, or a nested one that was found to be held
abbrev pub TakesIn : List Micro → ℕ → ℕ → ℕ → ℕ → Type 0
TakesIn ms lock outer p word = ((p ≡ lock) × (word ≡ outer)) ⊎ ((i log : ℕ) × (i < length ms) × (micro_at ms i ≡ micros.CheckHeld p log word))

-- the exchanges of an end behind its first one
abbrev pub tail_of : List Micro → ℕ → ℕ → List Micro
tail_of ms lock outer = releases ms ++ micros.Release lock outer ∷ []

later : (micro : Micro) (ms : List Micro) (lock outer p word : ℕ) → TakesIn ms lock outer p word → TakesIn (micro ∷ ms) lock outer p word
later micro ms lock outer p word taken = ⊎_elim (λ first. inl first) (λ nested. inr (suc nested.0, nested.1, (let low = nested.2 in omega arith), nested.3)) taken

-- where a release stands, its lock was taken
pub release_taken : (ms : List Micro) (lock outer p word i : ℕ) → slice_index_or (tail_of ms lock outer) i micros.End ≡ micros.Release p word → TakesIn ms lock outer p word
release_taken [] lock outer p word zero e = inl (cc, cc)
release_taken [] lock outer p word (suc i) e = cc
release_taken (micros.CheckHeld p' k v ∷ ms) lock outer p word zero e = let a : p' ≡ p = cc in let b : v ≡ word = cc in inr (0, k, omega arith, (λ i. micros.CheckHeld (a i) k (b i)))
release_taken (micros.CheckHeld p' k v ∷ ms) lock outer p word (suc i) e = later (micros.CheckHeld p' k v) ms lock outer p word (release_taken ms lock outer p word i e)
release_taken (micro ∷ ms) lock outer p word i e = later micro ms lock outer p word (release_taken ms lock outer p word i e)

-- it is no setting of the done word
pub no_done : (ms : List Micro) (lock outer i : ℕ) → slice_index_or (tail_of ms lock outer) i micros.End ≡ micros.SetDone → ⊥
no_done [] lock outer zero e = cc
no_done [] lock outer (suc i) e = cc
no_done (micros.CheckHeld p' k v ∷ ms) lock outer zero e = cc
no_done (micros.CheckHeld p' k v ∷ ms) lock outer (suc i) e = no_done ms lock outer i e
no_done (micro ∷ ms) lock outer i e = no_done ms lock outer i e

-- the end stands behind the last one
pub past_all : (ms : List Micro) (lock outer i : ℕ) → is_end (slice_index_or (tail_of ms lock outer) i micros.End) ≡ true → length (tail_of ms lock outer) ≤ i
past_all [] lock outer zero e = cc
past_all [] lock outer (suc i) e = omega arith
past_all (micros.CheckHeld p' k v ∷ ms) lock outer zero e = cc
past_all (micros.CheckHeld p' k v ∷ ms) lock outer (suc i) e = let rest = past_all ms lock outer i e in omega arith
past_all (micro ∷ ms) lock outer i e = past_all ms lock outer i e

same_test : (p q : ℕ) → p ≡ q → (q == p) ≡ true
same_test p q e = grind (arith, nat_tests)

last_any : (f : Micro → Bool) (xs : List Micro) (y : Micro) → f y ≡ true → list_any f (xs ++ y ∷ []) ≡ true
last_any f [] y e = ap (λ b. b || false) e
last_any f (x ∷ xs) y e = ap (λ b. f x || b) (last_any f xs y e) ∙ or_true (f x)

nested_any : (ms : List Micro) (lock outer p word i log : ℕ) → i < length ms → micro_at ms i ≡ micros.CheckHeld p log word → list_any (λ x. place_of x == p) (tail_of ms lock outer) ≡ true
nested_any [] lock outer p word i log low e = absurd (omega arith)
nested_any (micros.CheckHeld p' k v ∷ ms) lock outer p word zero log low e = ap (λ b. b || list_any (λ x. place_of x == p) (tail_of ms lock outer)) (same_test p p' (let a : p' ≡ p = cc in sym a))
nested_any (micros.CheckHeld p' k v ∷ ms) lock outer p word (suc i) log low e = ap (λ b. (p' == p) || b) (nested_any ms lock outer p word i log (omega arith) e) ∙ or_true (p' == p)
nested_any (micro ∷ ms) lock outer p word zero log low e = absurd (let x = e in cc)
nested_any (micro ∷ ms) lock outer p word (suc i) log low e = nested_any ms lock outer p word i log (omega arith) e

-- each lock that was taken is released
pub all_released : (ms : List Micro) (lock outer p word : ℕ) → TakesIn ms lock outer p word → list_any (λ x. place_of x == p) (tail_of ms lock outer) ≡ true
all_released ms lock outer p word taken = ⊎_elim
    (λ first. last_any (λ x. place_of x == p) (releases ms) (micros.Release lock outer) (same_test p lock first.0))
    (λ nested. nested_any ms lock outer p word nested.0 nested.1 nested.2 nested.3) taken

-- the locks that have been released after one more exchange
pub released_more : (xs : List Micro) (n p : ℕ) (micro : Micro) → slice_index_or xs n micros.End ≡ micro → is_end micro ≡ false → list_any (λ x. place_of x == p) (take (suc n) xs) ≡ true
    → (list_any (λ x. place_of x == p) (take n xs) ≡ true) ⊎ (place_of micro ≡ p)
released_more [] n p micro e inner has = absurd (let x = ap is_end e in cc)
released_more (x ∷ xs) zero p micro e inner has = inr (let same : x ≡ micro = e in ap place_of (sym same) ∙ only (place_of x) p has)
  where
    only : (a b : ℕ) → ((a == b) || false) ≡ true → a ≡ b
    only a b h = grind (arith, nat_tests)
released_more (x ∷ xs) (suc n) p micro e inner has = by (place_of x == p) refl (released_more xs n p micro e inner)
  where
    by : (b : Bool) → (place_of x == p) ≡ b → (list_any (λ x. place_of x == p) (take (suc n) xs) ≡ true → (list_any (λ x. place_of x == p) (take n xs) ≡ true) ⊎ (place_of micro ≡ p))
        → (list_any (λ x. place_of x == p) (take (suc n) (x ∷ xs)) ≡ true) ⊎ (place_of micro ≡ p)
    by true is rest = inl (ap (λ b. b || list_any (λ x. place_of x == p) (take n xs)) is)
    by false is rest = ⊎_elim (λ old. inl (ap (λ b. (place_of x == p) || b) old ∙ or_true (place_of x == p))) (λ now. inr now)
        (rest (sym (ap (λ b. b || list_any (λ x. place_of x == p) (take (suc n) xs)) is) ∙ has))
