-- Numbers and tests that stand at most once in a list.
use Rattle.std.proofs.Common.{◌≡◌, ℕ, ◌+◌, ◌≤◌, List, [], ◌∷◌, ◌++◌, Bool, true, false, refl, sym, ap, ◌∙◌, cond, eq-eqb, length, get_or, set, arith}
use Rattle.std.specs.Prelude.{◌==◌, not}
use Rattle.machine_states.specs.runner_parts.specs.Lists.{without, tests_without}
use Rattle.machine_states.specs.runner_parts.specs.declared.entries.Tested.{Tested}
use Rattle.machine_states.specs.epoch_core.specs.Lists.{times}

-- how often it stands there, by whether it is the first
times_by : (b : Bool) (x y : ℕ) (ys : List ℕ) → y == x ≡ b → times x (y ∷ ys) ≡ cond b (1 + times x ys) (times x ys)
times_by b x y ys e = ap (λ b. cond b (1 + times x ys) (times x ys)) e

stands_by : (b : Bool) (x y : ℕ) (ys : List ℕ) → y == x ≡ b → 1 ≤ times x ys → 1 ≤ times x (y ∷ ys)
stands_by true x y ys e h = let a = times_by true x y ys e in omega (arith, a)
stands_by false x y ys e h = let a = times_by false x y ys e in omega (arith, a, h)

stands : (x : ℕ) (ys : List ℕ) → 1 ≤ times x (ys ++ x ∷ [])
stands x [] = let a = times_by true x x [] (eq-eqb x x refl) in omega (arith, a)
stands x (y ∷ ys) = stands_by (y == x) x y (ys ++ x ∷ []) refl (stands x ys)

gone_by : (b : Bool) (x y : ℕ) (ys : List ℕ) → y == x ≡ b → times x (y ∷ ys ++ x ∷ []) ≤ 1 → (times x (ys ++ x ∷ []) ≤ 1 → without (ys ++ x ∷ []) x ≡ ys) → without (y ∷ ys ++ x ∷ []) x ≡ y ∷ ys
gone_by true x y ys e once rest = absurd (let a = times_by true x y (ys ++ x ∷ []) e in let b = stands x ys in omega (arith, a, b, once))
gone_by false x y ys e once rest = let a = times_by false x y (ys ++ x ∷ []) e in
    ap (λ b. cond (not b) (y ∷ without (ys ++ x ∷ []) x) (without (ys ++ x ∷ []) x)) e ∙ ap (λ zs. y ∷ zs) (rest (omega (arith, a, once)))

-- the last number, which stands there once, leaves those before it
pub last_gone : (x : ℕ) (ys : List ℕ) → times x (ys ++ x ∷ []) ≤ 1 → without (ys ++ x ∷ []) x ≡ ys
last_gone x [] once = ap (λ b. cond (not b) (x ∷ []) []) (eq-eqb x x refl)
last_gone x (y ∷ ys) once = gone_by (y == x) x y ys refl once (last_gone x ys)

-- the only test, which is of this slot, is replaced
pub only_renewed : (xs : List Tested) (test : Tested) (found : Tested) → length xs ≡ 1 → found ≡ get_or xs 0 found → found.slot ≡ test.slot → set xs 0 test ≡ tests_without xs test.slot ++ test ∷ []
only_renewed [] test found one here same = absurd (omega (arith, one))
only_renewed (x ∷ []) test found one here same = ap (λ b. cond (not b) (x ∷ []) [] ++ test ∷ []) (sym (eq-eqb x.slot test.slot (ap (λ (t : Tested). t.slot) (sym here) ∙ same)))
only_renewed (x ∷ y ∷ xs) test found one here same = absurd (omega (arith, one))
