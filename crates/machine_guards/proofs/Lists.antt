-- What lists of numbers have, and how often.
use Rattle.std.specs.Prelude.{◌==◌, ◌&&◌, ◌||◌, cond, Bool, true, false}
use Rattle.std.specs.List.{filter}
use Rattle.std.proofs.Common.{◌≡◌, ℕ, ◌+◌, ◌≤◌, List, [], ◌∷◌, ◌++◌, refl, sym, ap, ◌∙◌, arith}
use Rattle.std.proofs.lemmas.Bool.Decides.{nat_tests}
use Rattle.machine_states.specs.runner_parts.specs.Tests.{has}
use Rattle.machine_states.specs.epoch_core.specs.Lists.{times}

-- what the parts of a list have
pub filter_has : (test : ℕ → Bool) (xs : List ℕ) (d : ℕ) → has (filter test xs) d ≡ (has xs d && test d)
filter_has test [] d = refl
filter_has test (x ∷ xs) d = by (test x) refl (filter_has test xs d)
  where
    same_test : (b : Bool) → test x ≡ b → x ≡ d → test d ≡ b
    same_test b is same = ap test (sym same) ∙ is

    taken : (x d : ℕ) (k k' t : Bool) → (x ≡ d → t ≡ true) → k ≡ (k' && t) → (x == d || k) ≡ ((x == d || k') && t)
    taken x d k k' t here rest = grind (arith, nat_tests)

    left : (x d : ℕ) (k k' t : Bool) → (x ≡ d → t ≡ false) → k ≡ (k' && t) → k ≡ ((x == d || k') && t)
    left x d k k' t here rest = grind (arith, nat_tests)

    by : (b : Bool) → test x ≡ b → has (filter test xs) d ≡ (has xs d && test d) → has (cond b (x ∷ filter test xs) (filter test xs)) d ≡ (has (x ∷ xs) d && test d)
    by true is rest = taken x d (has (filter test xs) d) (has xs d) (test d) (same_test true is) rest
    by false is rest = left x d (has (filter test xs) d) (has xs d) (test d) (same_test false is) rest

pub append_has : (xs ys : List ℕ) (d : ℕ) → has (xs ++ ys) d ≡ (has xs d || has ys d)
append_has [] ys d = refl
append_has (x ∷ xs) ys d = ap (λ b. x == d || b) (append_has xs ys d) ∙ together (x == d) (has xs d) (has ys d)
  where
    together : (a b c : Bool) → (a || (b || c)) ≡ ((a || b) || c)
    together true b c = refl
    together false b c = refl

-- what stands in a list
pub times_has : (xs : List ℕ) (d : ℕ) → has xs d ≡ true → 1 ≤ times d xs
times_has [] d is = absurd (let y = is in cc)
times_has (x ∷ xs) d is = by (x == d) (has xs d) (times d xs) (times_has xs d) is
  where
    by : (b b' : Bool) (n : ℕ) → (b' ≡ true → 1 ≤ n) → (b || b') ≡ true → 1 ≤ cond b (1 + n) n
    by true b' n rest is = omega arith
    by false b' n rest is = rest is

pub has_times : (xs : List ℕ) (d : ℕ) → (has xs d ≡ true → ⊥) → times d xs ≡ 0
has_times [] d not_there = refl
has_times (x ∷ xs) d not_there = by (x == d) (has xs d) (times d xs) (has_times xs d) not_there
  where
    by : (b b' : Bool) (n : ℕ) → ((b' ≡ true → ⊥) → n ≡ 0) → ((b || b') ≡ true → ⊥) → cond b (1 + n) n ≡ 0
    by true b' n rest out = absurd (out refl)
    by false b' n rest out = rest out

pub times_filter : (test : ℕ → Bool) (xs : List ℕ) (d : ℕ) → times d (filter test xs) ≡ cond (test d) (times d xs) 0
times_filter test [] d = by (test d)
  where
    by : (b : Bool) → ◌≡◌ {A = ℕ} 0 (cond b 0 0)
    by true = refl
    by false = refl
times_filter test (x ∷ xs) d = by (test x) refl (times_filter test xs d)
  where
    same_test : (b : Bool) → test x ≡ b → x ≡ d → test d ≡ b
    same_test b is same = ap test (sym same) ∙ is

    taken : (x d n n' : ℕ) (t : Bool) → (x ≡ d → t ≡ true) → n ≡ cond t n' 0 → cond (x == d) (1 + n) n ≡ cond t (cond (x == d) (1 + n') n') 0
    taken x d n n' t here rest = grind (arith, nat_tests)

    left : (x d n n' : ℕ) (t : Bool) → (x ≡ d → t ≡ false) → n ≡ cond t n' 0 → n ≡ cond t (cond (x == d) (1 + n') n') 0
    left x d n n' t here rest = grind (arith, nat_tests)

    by : (b : Bool) → test x ≡ b → times d (filter test xs) ≡ cond (test d) (times d xs) 0 → times d (cond b (x ∷ filter test xs) (filter test xs)) ≡ cond (test d) (times d (x ∷ xs)) 0
    by true is rest = taken x d (times d (filter test xs)) (times d xs) (test d) (same_test true is) rest
    by false is rest = left x d (times d (filter test xs)) (times d xs) (test d) (same_test false is) rest

pub times_append : (d : ℕ) (xs ys : List ℕ) → times d (xs ++ ys) ≡ times d xs + times d ys
times_append d [] ys = nought (times d ys)
  where
    nought : (n : ℕ) → n ≡ 0 + n
    nought n = omega arith
times_append d (x ∷ xs) ys = by (x == d) (times d (xs ++ ys)) (times d xs) (times d ys) (times_append d xs ys)
  where
    by : (b : Bool) (n k k' : ℕ) → n ≡ k + k' → cond b (1 + n) n ≡ cond b (1 + k) k + k'
    by true n k k' rest = omega arith
    by false n k k' rest = rest
