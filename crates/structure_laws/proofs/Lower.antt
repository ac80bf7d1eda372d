-- How many slots rank below another one: fewer at each step of a walk along which ranks fall.
use Rattle.std.specs.Prelude.{◌&&◌, nat_lt, cond, Bool, true, false}
use Rattle.std.proofs.Common.{◌≡◌, ℕ, zero, suc, ◌<◌, ◌≤◌, refl, sym, ap, ◌∙◌, ⊎_elim, arith}
use Rattle.std.proofs.lemmas.Bool.{cases_eq}
use Rattle.std.proofs.lemmas.Bool.Decides.{nat_tests}
use Rattle.structure_laws.specs.Ranks.{lower, passing}

is_one : (b : Bool) → b ≡ true → ◌≡◌ {A = ℕ} (cond b 1 0) 1
is_one b e = grind arith

not_one : (b : Bool) → b ≡ false → ◌≡◌ {A = ℕ} (cond b 1 0) 0
not_one b e = grind arith

-- the first test passes where the second does
module _ (f g : ℕ → Bool) (within : (u : ℕ) → f u ≡ true → g u ≡ true) where
  one : (a b : Bool) → (a ≡ true → b ≡ true) → ◌≤◌ (cond a 1 0) (cond b 1 0)
  one true true h = omega arith
  one true false h = absurd (let z = h refl in cc)
  one false b h = omega arith

  no_more : (n : ℕ) → passing f n ≤ passing g n
  no_more zero = omega arith
  no_more (suc n) = let rest = no_more n in let last = one (f n) (g n) (within n) in omega (arith, rest, last)

  -- and one number passes the second alone
  fewer : (n t : ℕ) → t < n → f t ≡ false → g t ≡ true → passing f n < passing g n
  fewer zero t low out in_it = absurd (omega (arith, low))
  fewer (suc n) t low out in_it = ⊎_elim
      (λ same. let rest = no_more n in
      let no = not_one (f n) (ap f (sym same) ∙ out) in
      let yes = is_one (g n) (ap g (sym same) ∙ in_it) in omega (arith, rest, no, yes))
      (λ other. let rest = fewer n t (omega (arith, low, other)) out in_it in
      let last = one (f n) (g n) (within n) in omega (arith, rest, last))
      (cases_eq t n)

all_pass : (n : ℕ) → passing (λ u. true) n ≡ n
all_pass zero = refl
all_pass (suc n) = let rest = all_pass n in omega (arith, rest)

not_below : (b : Bool) (a : ℕ) → (b && nat_lt a a) ≡ false
not_below b a = grind (arith, nat_tests)

below_too : (b : Bool) (a c d : ℕ) → c ≤ d → (b && nat_lt a c) ≡ true → (b && nat_lt a d) ≡ true
below_too b a c d le h = grind (arith, nat_tests)

below_is : (b : Bool) (a c : ℕ) → b ≡ true → a < c → (b && nat_lt a c) ≡ true
below_is b a c on low = grind (arith, nat_tests)

module _ (on : ℕ → Bool) (rank : ℕ → ℕ) (slots : ℕ) (within : (t : ℕ) → on t ≡ true → t < slots) where
  -- fewer than there are slots
  pub lower_few : (t : ℕ) → on t ≡ true → lower on rank slots t < slots
  lower_few t on_t =
      let few = fewer (λ u. on u && nat_lt (rank u) (rank t)) (λ u. true) (λ u h. refl) slots t (within t on_t) (not_below (on t) (rank t)) refl in
      let all = all_pass slots in omega (arith, few, all)

  -- fewer below one that ranks lower
  pub lower_falls : (s t : ℕ) → on t ≡ true → rank t < rank s → lower on rank slots t < lower on rank slots s
  lower_falls s t on_t falls = fewer (λ u. on u && nat_lt (rank u) (rank t)) (λ u. on u && nat_lt (rank u) (rank s))
      (λ u h. below_too (on u) (rank u) (rank t) (rank s) (omega (arith, falls)) h)
      slots t (within t on_t) (not_below (on t) (rank t)) (below_is (on t) (rank t) (rank s) on_t falls)
