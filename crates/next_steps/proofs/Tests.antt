-- Lists of numbers, and how far slots have been looked at, after a change.
use Rattle.std.specs.Prelude.{◌==◌, ◌||◌, ◌-◌, not, cond, slice_index, Bool, true, false, if◌then◌else◌}
use Rattle.std.proofs.Common.{◌⊎◌, inl, inr, ◌≡◌, ◌≢◌, ℕ, ◌<◌, List, [], ◌∷◌, ◌++◌, length, sym, refl, ap, ◌∙◌, arith, Some, None}
use Rattle.std.proofs.lemmas.Bool.Decides.{nat_tests}
use Rattle.std.proofs.lemmas.List.Folds.{list_any_at}
use Rattle.machine_states.specs.epoch_core.specs.small_lemmas.proofs.Numbers.{equal_tested as equal_test, other_tested as differ_test}
use Rattle.machine_states.specs.runner_parts.specs.declared.entries.Tested.{Tested}
use Rattle.machine_states.specs.runner_parts.specs.Tests.{has}
use Rattle.machine_states.specs.runner_parts.specs.Lists.{without, test_of, tests_without}
use Rattle.machine_states.specs.runner_steps.specs.InRun.{last_of, is_slot}
use Rattle.machine_invariant.specs.machine_blocks.specs.machine_guards.specs.machine_agreement.specs.machine_epochs.proofs.Places.{has_append}

-- the last of a list is one of it
pub last_listed : (xs : List ℕ) (t : ℕ) → is_slot (last_of xs) t ≡ true → has xs t ≡ true
last_listed xs t e = by (length xs == 0) refl e
  where
    same : (a b : ℕ) → (a == b) ≡ true → a ≡ b
    same a b h = grind (arith, nat_tests)

    more : (n : ℕ) → (n == 0) ≡ false → n - 1 < n
    more n h = grind (arith, nat_tests)

    by : (b : Bool) → (length xs == 0) ≡ b → is_slot (cond b None (Some (slice_index xs (length xs - 1)))) t ≡ true → has xs t ≡ true
    by true h e = absurd (let z = e in cc)
    by false h e = list_any_at (λ y. y == t) xs (length xs - 1) 0 (more (length xs) h) e

-- a list without a number
pub without_has : (xs : List ℕ) (d t : ℕ) → has (without xs d) t ≡ true → (has xs t ≡ true) × (t ≢ d)
without_has [] d t e = absurd (let z = e in cc)
without_has (x ∷ xs) d t e = by (x == d) refl (λ h. without_has xs d t h) e
  where
    here : (x d t : ℕ) (b : Bool) → (x == d) ≡ false → ((x == t) || b) ≡ true → (b ≡ true → t ≢ d) → t ≢ d
    here x d t b ne e rest = grind (arith, nat_tests)

    or_has : (a b c : Bool) → (a || b) ≡ true → (b ≡ true → c ≡ true) → (a || c) ≡ true
    or_has true b c e h = refl
    or_has false b c e h = h e

    or_true : (a : Bool) {b : Bool} → b ≡ true → (a || b) ≡ true
    or_true true e = refl
    or_true false e = e

    by : (b : Bool) → (x == d) ≡ b → (has (without xs d) t ≡ true → (has xs t ≡ true) × (t ≢ d))
        → has (if not b then x ∷ without xs d else without xs d) t ≡ true → (has (x ∷ xs) t ≡ true) × (t ≢ d)
    by true is rest e = (or_true (x == t) (rest e).0, (rest e).1)
    by false is rest e = (or_has (x == t) (has (without xs d) t) (has xs t) e (λ h. (rest h).0), here x d t (has (without xs d) t) is e (λ h. (rest h).1))

pub without_not : (xs : List ℕ) (d t : ℕ) → t ≢ d → has (without xs d) t ≡ has xs t
without_not [] d t ne = refl
without_not (x ∷ xs) d t ne = let rest = without_not xs d t ne in grind (arith, nat_tests)

-- the entry for a slot is one of this slot
pub test_slot : (xs : List Tested) (t : ℕ) → (test_of xs t).slot ≡ t
test_slot [] t = refl
test_slot (x ∷ xs) t = by (x.slot == t) refl (test_slot xs t)
  where
    same : (a b : ℕ) → (a == b) ≡ true → a ≡ b
    same a b h = grind (arith, nat_tests)

    by : (b : Bool) → (x.slot == t) ≡ b → (test_of xs t).slot ≡ t → (if b then x else test_of xs t).slot ≡ t
    by true e rest = same x.slot t e
    by false e rest = rest

-- without the entries for one slot the others' stand
pub tests_without_other : (xs : List Tested) (d t : ℕ) → t ≢ d → test_of (tests_without xs d) t ≡ test_of xs t
tests_without_other [] d t ne = refl
tests_without_other (x ∷ xs) d t ne = by (x.slot == d) (x.slot == t) refl refl (tests_without_other xs d t ne)
  where
    both : (a d t : ℕ) → (a == d) ≡ true → (a == t) ≡ true → t ≢ d → ⊥
    both a d t e e' ne = grind (arith, nat_tests)

    by : (b c : Bool) → (x.slot == d) ≡ b → (x.slot == t) ≡ c → test_of (tests_without xs d) t ≡ test_of xs t
        → test_of (if not b then x ∷ tests_without xs d else tests_without xs d) t ≡ (if c then x else test_of xs t)
    by true true e e' rest = absurd (both x.slot d t e e' ne)
    by true false e e' rest = rest
    by false true e e' rest = ap (λ (b : Bool). if b then x else test_of (tests_without xs d) t) e'
    by false false e e' rest = ap (λ (b : Bool). if b then x else test_of (tests_without xs d) t) e' ∙ rest

-- and the one slot has none
pub tests_without_own : (xs : List Tested) (d : ℕ) → (test_of (tests_without xs d) d).cells ≡ 0
tests_without_own [] d = refl
tests_without_own (x ∷ xs) d = by (x.slot == d) refl (tests_without_own xs d)
  where
    by : (b : Bool) → (x.slot == d) ≡ b → (test_of (tests_without xs d) d).cells ≡ 0
        → (test_of (if not b then x ∷ tests_without xs d else tests_without xs d) d).cells ≡ 0
    by true e rest = rest
    by false e rest = ap (λ (b : Bool). (if b then x else test_of (tests_without xs d) d).cells) e ∙ rest

-- a new entry at the end
pub tests_push_own : (xs : List Tested) (x : Tested) → test_of (tests_without xs x.slot ++ x ∷ []) x.slot ≡ x
tests_push_own [] x = ap (λ (b : Bool). if b then x else test_of [] x.slot) (equal_test x.slot x.slot refl)
tests_push_own (y ∷ xs) x = by (y.slot == x.slot) refl (tests_push_own xs x)
  where
    by : (b : Bool) → (y.slot == x.slot) ≡ b → test_of (tests_without xs x.slot ++ x ∷ []) x.slot ≡ x
        → test_of ((if not b then y ∷ tests_without xs x.slot else tests_without xs x.slot) ++ x ∷ []) x.slot ≡ x
    by true e rest = rest
    by false e rest = ap (λ (b : Bool). if b then y else test_of (tests_without xs x.slot ++ x ∷ []) x.slot) e ∙ rest

push_other : (xs : List Tested) (x : Tested) (t : ℕ) → t ≢ x.slot → test_of (xs ++ x ∷ []) t ≡ test_of xs t
push_other [] x t ne = ap (λ (b : Bool). if b then x else test_of [] t) (differ_test x.slot t (λ e. ne (sym e)))
push_other (y ∷ xs) x t ne = ap (λ (z : Tested). if y.slot == t then y else z) (push_other xs x t ne)

pub tests_push_other : (xs : List Tested) (x : Tested) (t : ℕ) → t ≢ x.slot → test_of (tests_without xs x.slot ++ x ∷ []) t ≡ test_of xs t
tests_push_other xs x t ne = push_other (tests_without xs x.slot) x t ne ∙ tests_without_other xs x.slot t ne

-- a number of two lists is one of the first or of the second
pub either_has : (xs ys : List ℕ) (t : ℕ) → has (xs ++ ys) t ≡ true → (has xs t ≡ true) ⊎ (has ys t ≡ true)
either_has xs ys t e = by (has xs t) (has ys t) refl refl (sym (has_append xs ys t) ∙ e)
  where
    by : (a b : Bool) → has xs t ≡ a → has ys t ≡ b → (a || b) ≡ true → (has xs t ≡ true) ⊎ (has ys t ≡ true)
    by true b one two h = inl one
    by false true one two h = inr two
    by false false one two h = absurd (let z = h in cc)
