-- At first each slot stands in its owner's free list and in no other.
use Rattle.std.specs.Prelude.{◌==◌, ◌&&◌, ◌/◌, cond, nat_lt, nat_le, Bool, true, false}
use Rattle.std.proofs.Common.{◌≡◌, ◌≢◌, ℕ, zero, suc, ◌+◌, ◌-◌, ◌*◌, ◌<◌, ◌≤◌, List, [], refl, sym, ap, ◌∙◌, subst, arith, ◌⊎◌, ⊎_elim, div-add-mod', mod-lt, mul_comm, mul-suc, mul-le-mul_left, zero-mul, inl, inr}
use Rattle.std.proofs.lemmas.Bool.{cases_eq}
use Rattle.std.proofs.lemmas.Bool.Decides.{nat_tests}
use Rattle.section_lines.specs.small_lemmas.proofs.Numbers.{self_tested as same_test, other_tested as other_test}
use Rattle.machine_states.specs.epoch_core.specs.Lists.{times}
use Rattle.machine_states.specs.First.{falling}
use Rattle.machine_epochs.specs.Firsts.{owner_of}

-- 1 where this is so
abbrev one_if : Bool → ℕ
one_if b = cond b 1 0

one_more : (from n s k : ℕ) → k ≡ one_if (nat_le from s && nat_lt s (from + n)) → cond (from + n == s) (1 + k) k ≡ one_if (nat_le from s && nat_lt s (from + suc n))
one_more from n s k e = grind (arith, nat_tests)

none_there : (from s : ℕ) → 0 ≡ one_if (nat_le from s && nat_lt s (from + 0))
none_there from s = grind (arith, nat_tests)

-- a number stands once among numbers in a row, where it is one of them
pub falling_times : (from n s : ℕ) → times s (falling from n) ≡ one_if (nat_le from s && nat_lt s (from + n))
falling_times from zero s = none_there from s
falling_times from (suc n) s = one_more from n s (times s (falling from n)) (falling_times from n s)

-- the multiples between which a number lies
between : (n u : ℕ) → 0 < n → (n * (u / n) ≤ u) × (u < n * (u / n) + n)
between n u h =
    let whole = div-add-mod' u n in
    let rest = mod-lt u h in
    let turned = mul_comm (u / n) n in
    (omega arith, omega arith)

-- a number is in this runner's row exactly where the runner is its owner
row_of : (size u r : ℕ) → 0 < size → (u / size == r) ≡ (nat_le (size * r) u && nat_lt u (size * r + size))
row_of size u r h =
    let b = between size u h in
    ⊎_elim
    (λ same. at_row same b.0 b.1)
    (λ other. ⊎_elim
    (λ less. before (let step = mul-le-mul_left size (let le : u / size + 1 ≤ r = omega arith in le) in let apart = mul-suc size (u / size) in omega arith) other)
    (λ more. behind (let step = mul-le-mul_left size (let le : r + 1 ≤ u / size = omega arith in le) in let apart = mul-suc size r in omega arith) other)
    (apart_ways (u / size) r other))
    (cases_eq (u / size) r)
  where
    apart_ways : (a b : ℕ) → a ≢ b → (a < b) ⊎ (b < a)
    apart_ways a b ne = search arith

    at_row : u / size ≡ r → size * (u / size) ≤ u → u < size * (u / size) + size → (u / size == r) ≡ (nat_le (size * r) u && nat_lt u (size * r + size))
    at_row same low high =
        in_row same (subst (λ k. size * k ≤ u) same low) (subst (λ k. u < size * k + size) same high)
      where
        in_row : u / size ≡ r → size * r ≤ u → u < size * r + size → (u / size == r) ≡ (nat_le (size * r) u && nat_lt u (size * r + size))
        in_row same low high = grind (arith, nat_tests)

    before : u < size * r → u / size ≢ r → (u / size == r) ≡ (nat_le (size * r) u && nat_lt u (size * r + size))
    before low ne = grind (arith, nat_tests)

    behind : size * r + size ≤ u → u / size ≢ r → (u / size == r) ≡ (nat_le (size * r) u && nat_lt u (size * r + size))
    behind high ne = grind (arith, nat_tests)

-- the same for one who has no row
past_rows : (size u runners r : ℕ) → 0 < size → u < size * runners → runners ≤ r → (u / size == r) ≡ false
past_rows size u runners r h low high = by_order (u / size) (between size u h).0
  where
    none : (k : ℕ) → k < r → (k == r) ≡ false
    none k lt = grind (arith, nat_tests)

    by_order : (k : ℕ) → size * k ≤ u → (k == r) ≡ false
    by_order k least = ⊎_elim (λ less. none k less) (λ more. absurd (let step = mul-le-mul_left size (let le : runners ≤ k = omega arith in le) in omega arith)) (order k r)
      where
        order : (a b : ℕ) → (a < b) ⊎ (b ≤ a)
        order a b = search arith

low_end : (from all extra s : ℕ) → from ≤ s → s - from < all → one_if (nat_le (from + all) s && nat_lt s (from + all + extra)) ≡ 0
low_end from all extra s low h = grind (arith, nat_tests)

high_end : (from all extra s : ℕ) → from ≤ s → all ≤ s - from → s < from + all + extra → one_if (nat_le (from + all) s && nat_lt s (from + all + extra)) ≡ 1
high_end from all extra s low h most = grind (arith, nat_tests)

moved : (from row size s : ℕ) → from ≤ s → (nat_le (from + row) s && nat_lt s (from + row + size)) ≡ (nat_le row (s - from) && nat_lt (s - from) (row + size))
moved from row size s low = grind (arith, nat_tests)

past_row : (from row size all s : ℕ) → from ≤ s → row + size ≤ all → all ≤ s - from → one_if (nat_le (from + row) s && nat_lt s (from + row + size)) ≡ 0
past_row from row size all s low fit h = grind (arith, nat_tests)

some_size : (size runners u : ℕ) → u < size * runners → 0 < size
some_size zero runners u h = let none = zero-mul runners in omega arith
some_size (suc size) runners u h = omega arith

module _ (size runners extra from : ℕ) where
  -- a runner's numbers
  abbrev pub rows : ℕ → List ℕ
  rows r = cond (r == runners) (falling (from + size * runners) extra) (cond (nat_lt r runners) (falling (from + size * r) size) [])

  module _ (s : ℕ) (low : from ≤ s) (most : s < from + size * runners + extra) where
    abbrev u : ℕ
    u = s - from

    abbrev at_owner : ℕ → ℕ
    at_owner r = cond (owner_of size runners u == r) 1 0

    -- in the workers' rows, and behind them
    inside_rows : (r : ℕ) → u < size * runners → at_owner r ≡ cond (u / size == r) 1 0
    inside_rows r h = ap (λ b. cond (cond b (u / size) runners == r) 1 0) (is_below u (size * runners) h)
      where
        is_below : (a b : ℕ) → a < b → nat_lt a b ≡ true
        is_below a b h = grind (arith, nat_tests)

    behind_rows : (r : ℕ) → size * runners ≤ u → at_owner r ≡ cond (runners == r) 1 0
    behind_rows r h = ap (λ b. cond (cond b (u / size) runners == r) 1 0) (not_below u (size * runners) h)
      where
        not_below : (a b : ℕ) → b ≤ a → nat_lt a b ≡ false
        not_below a b h = grind (arith, nat_tests)

    keeper_has : times s (falling (from + size * runners) extra) ≡ at_owner runners
    keeper_has = ⊎_elim
        (λ h. falling_times (from + size * runners) extra s ∙ (low_end from (size * runners) extra s low h
        ∙ sym (inside_rows runners h ∙ ap (λ b. cond b 1 0) (past_rows size u runners runners (some_size size runners u h) h (omega arith)))))
        (λ h. falling_times (from + size * runners) extra s ∙ (high_end from (size * runners) extra s low h most ∙ sym (behind_rows runners h ∙ ap (λ b. cond b 1 0) (same_test runners))))
        (order u (size * runners))
      where
        order : (a b : ℕ) → (a < b) ⊎ (b ≤ a)
        order a b = search arith

    worker_has : (r : ℕ) → r < runners → times s (falling (from + size * r) size) ≡ at_owner r
    worker_has r below = ⊎_elim
        (λ h. falling_times (from + size * r) size s ∙ (ap (λ b. cond b 1 0) (moved from (size * r) size s low) ∙ sym (inside_rows r h ∙ ap (λ b. cond b 1 0) (row_of size u r (some_size size runners u h)))))
        (λ h. falling_times (from + size * r) size s ∙ (past_row from (size * r) size (size * runners) s low row_fits h ∙ sym (behind_rows r h ∙ ap (λ b. cond b 1 0) (other_test runners r (λ e. absurd (omega arith))))))
        (order u (size * runners))
      where
        order : (a b : ℕ) → (a < b) ⊎ (b ≤ a)
        order a b = search arith

        row_fits : size * r + size ≤ size * runners
        row_fits = let step = mul-le-mul_left size (let le : r + 1 ≤ runners = omega arith in le) in let more = mul-suc size r in let one : r + 1 ≡ suc r = omega arith in let same = ap (λ k. size * k) one in omega arith

    nobody_has : (r : ℕ) → runners < r → 0 ≡ at_owner r
    nobody_has r above = ⊎_elim
        (λ h. sym (inside_rows r h ∙ ap (λ b. cond b 1 0) (past_rows size u runners r (some_size size runners u h) h (omega arith))))
        (λ h. sym (behind_rows r h ∙ ap (λ b. cond b 1 0) (other_test runners r (λ e. absurd (omega arith)))))
        (order u (size * runners))
      where
        order : (a b : ℕ) → (a < b) ⊎ (b ≤ a)
        order a b = search arith

    -- each number stands once in its owner's list, and in no other
    pub owned : (r : ℕ) → times s (rows r) ≡ at_owner r
    owned r = by_test (r == runners) (nat_lt r runners) refl refl
      where
        is_same : (a b : ℕ) → (a == b) ≡ true → a ≡ b
        is_same a b e = grind (arith, nat_tests)

        is_less : (a b : ℕ) → nat_lt a b ≡ true → a < b
        is_less a b e = grind (arith, nat_tests)

        is_more : (a b : ℕ) → (a == b) ≡ false → nat_lt a b ≡ false → b < a
        is_more a b e e' = grind (arith, nat_tests)

        by_test : (b b' : Bool) → (r == runners) ≡ b → nat_lt r runners ≡ b' → times s (cond b (falling (from + size * runners) extra) (cond b' (falling (from + size * r) size) [])) ≡ at_owner r
        by_test true b' e e' = keeper_has ∙ ap at_owner (sym (is_same r runners e))
        by_test false true e e' = worker_has r (is_less r runners e')
        by_test false false e e' = nobody_has r (is_more r runners e e')

  -- no number stands there that is before the rows, or behind the last one
  pub unowned : (s r : ℕ) → (s < from) ⊎ (from + size * runners + extra ≤ s) → times s (rows r) ≡ 0
  unowned s r out = by_test (r == runners) (nat_lt r runners) refl
    where
      is_less : (a b : ℕ) → nat_lt a b ≡ true → a < b
      is_less a b e = grind (arith, nat_tests)

      outside : (start n : ℕ) → (s < start) ⊎ (start + n ≤ s) → one_if (nat_le start s && nat_lt s (start + n)) ≡ 0
      outside start n h = grind (arith, nat_tests)

      worker : (r : ℕ) → r < runners → (s < from + size * r) ⊎ (from + size * r + size ≤ s)
      worker r below = let step = mul-le-mul_left size (let le : r + 1 ≤ runners = omega arith in le) in let more = mul-suc size r in let one : r + 1 ≡ suc r = omega arith in let same = ap (λ k. size * k) one in
          ⊎_elim (λ low. inl (omega arith)) (λ high. inr (omega arith)) out

      keeper : (s < from + size * runners) ⊎ (from + size * runners + extra ≤ s)
      keeper = ⊎_elim (λ low. inl (omega arith)) (λ high. inr high) out

      by_test : (b b' : Bool) → nat_lt r runners ≡ b' → times s (cond b (falling (from + size * runners) extra) (cond b' (falling (from + size * r) size) [])) ≡ 0
      by_test true b' e' = falling_times (from + size * runners) extra s ∙ outside (from + size * runners) extra keeper
      by_test false true e' = falling_times (from + size * r) size s ∙ outside (from + size * r) size (worker r (is_less r runners e'))
      by_test false false e' = refl
