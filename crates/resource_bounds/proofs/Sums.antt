-- Sums over the first runners.
use Rattle.std.proofs.Common.{◌≡◌, ℕ, zero, suc, ◌+◌, ◌<◌, ◌≤◌, refl, ap, ⊎_elim, arith}
use Rattle.std.proofs.lemmas.Bool.{cases_eq}

abbrev pub sum_to : (ℕ → ℕ) → ℕ → ℕ
sum_to f zero = 0
sum_to f (suc n) = sum_to f n + f n

-- where one of them changes and the others don't, the sum changes by as much
below_same : (f g : ℕ → ℕ) (r : ℕ) → ((i : ℕ) → (i ≡ r → ⊥) → g i ≡ f i) → (n : ℕ) → n ≤ r → sum_to g n ≡ sum_to f n
below_same f g r else zero low = refl
below_same f g r else (suc n) low =
    let rest = below_same f g r else n (omega (arith, low)) in let one = else n (λ e. omega (arith, e, low)) in omega (arith, rest, one)

pub one_changed : (f g : ℕ → ℕ) (r : ℕ) → ((i : ℕ) → (i ≡ r → ⊥) → g i ≡ f i) → (n : ℕ) → r < n → sum_to g n + f r ≡ sum_to f n + g r
one_changed f g r else zero low = absurd (omega (arith, low))
one_changed f g r else (suc n) low = ⊎_elim
    (λ e. let rest = below_same f g r else n (omega (arith, e)) in
    let one : g n ≡ g r = ap g e in let two : f n ≡ f r = ap f e in omega (arith, rest, one, two))
    (λ ne. let rest = one_changed f g r else n (omega (arith, low, ne)) in let one = else n ne in omega (arith, rest, one))
    (cases_eq n r)
