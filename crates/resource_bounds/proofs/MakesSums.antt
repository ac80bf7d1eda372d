-- Sums over the first requests.
use Rattle.std.specs.Prelude.{◌⊎◌, Bool, true, false, cond}
use Rattle.std.proofs.Common.{◌≡◌, ℕ, zero, suc, ◌+◌, ◌*◌, ◌<◌, ◌≤◌, refl, sym, subst, ⊎_elim, arith}
use Rattle.std.proofs.lemmas.Bool.{cases_eq}
use Rattle.machine_states.specs.map_history.specs.Words.{adds_by}
use Rattle.machine_states.specs.table_words.specs.declared.spot.Spot.{Spot}
use Rattle.machine_states.specs.table_words.specs.declared.spot.Spot.TheVariants.{Reply}
use Rattle.machine_states.specs.table_words.specs.Seen.{upd}
use Rattle.machine_states.proofs.Updates.{upd_here, upd_else}
use Rattle.resource_bounds.specs.Makes.{added}

abbrev pub total : (ℕ → ℕ) → ℕ → ℕ
total c zero = 0
total c (suc n) = total c n + c n

-- a change at a number behind them
else_total : (c : ℕ → ℕ) (k v n : ℕ) → n ≤ k → total (upd c k v) n ≡ total c n
else_total c k v zero low = refl
else_total c k v (suc n) low =
    let rest = else_total c k v n (omega (arith, low)) in
    let here = upd_else c k v n (λ e. omega (arith, e, low)) in omega (arith, rest, here)

-- one more at one of them
pub total_more : (c : ℕ → ℕ) (k n : ℕ) → k < n → total (upd c k (suc (c k))) n ≡ suc (total c n)
total_more c k zero low = absurd (omega (arith, low))
total_more c k (suc n) low = ⊎_elim
    (λ e. let rest = else_total c k (suc (c k)) n (omega (arith, e)) in
    let here : upd c k (suc (c k)) n ≡ suc (c n) = subst (λ i. upd c k (suc (c k)) i ≡ suc (c i)) (sym e) (upd_here c k (suc (c k))) in
    omega (arith, rest, here))
    (λ ne. let rest = total_more c k n (omega (arith, low, ne)) in
    let here = upd_else c k (suc (c k)) n ne in omega (arith, rest, here))
    (cases_eq n k)

-- two at most for each reply that a pair was added
pub total_added : (word : Spot → ℕ) (c : ℕ → ℕ) (n : ℕ) → ((q : ℕ) → (c q ≡ 0) ⊎ ((adds_by (word (Reply q)) ≡ true) × (c q ≤ 2)))
    → total c n ≤ 2 * added word n
total_added word c zero h = omega arith
total_added word c (suc n) h =
    let rest = total_added word c n h in
    ⊎_elim
    (λ z. omega (arith, rest, z))
    (λ y. let one = counts (adds_by (word (Reply n))) y.0 in
    let few = y.1 in omega (arith, rest, one, few))
    (h n)
  where
    counts : (b : Bool) → b ≡ true → 1 ≤ cond b 1 0
    counts true e = omega arith
    counts false e = absurd (let z = e in cc)
