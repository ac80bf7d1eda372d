-- How many entries of a limbo list are recent.
use Rattle.std.specs.Prelude.{nat_le, not, Bool, true, false, if◌then◌else◌, All}
use Rattle.std.specs.List.{filter}
use Rattle.std.proofs.Common.{◌≡◌, ℕ, ◌+◌, ◌≤◌, List, [], ◌∷◌, length, refl, ap, ◌∙◌, arith}
use Rattle.std.proofs.lemmas.Bool.Decides.{nat_tests}
use Rattle.std.proofs.lemmas.List.Elements.{All-head, All-tail, All-filter}
use Rattle.machine_states.specs.runner_parts.specs.declared.entries.Retired.{Retired}
use Rattle.machine_states.specs.runner_parts.specs.Lists.{is_old}

-- how many of these were retired with this epoch or a later one
abbrev pub recent : ℕ → List Retired → ℕ
recent epoch [] = 0
recent epoch (x ∷ xs) = if nat_le epoch x.epoch then 1 + recent epoch xs else recent epoch xs

-- none of these is recent in the next epoch
pub none_recent : (epoch : ℕ) (xs : List Retired) → All (λ x. x.epoch ≤ epoch) xs → recent (epoch + 1) xs ≡ 0
none_recent epoch [] most = refl
none_recent epoch (x ∷ xs) most =
    ap (λ (b : Bool). if b then 1 + recent (epoch + 1) xs else recent (epoch + 1) xs) (past epoch x.epoch (All-head (λ y. y.epoch ≤ epoch) x xs most))
    ∙ none_recent epoch xs (All-tail (λ y. y.epoch ≤ epoch) x xs most)
  where
    past : (e n : ℕ) → n ≤ e → nat_le (e + 1) n ≡ false
    past e n low = grind (arith, nat_tests)

pub none_kept : (epoch : ℕ) (f : Retired → Bool) (xs : List Retired) → All (λ x. x.epoch ≤ epoch) xs → recent (epoch + 1) (filter f xs) ≡ 0
none_kept epoch f xs most = none_recent epoch (filter f xs) (All-filter f (λ x. x.epoch ≤ epoch) xs most)

-- what a scan that reaches the next epoch leaves
pub kept_recent : (epoch : ℕ) (xs : List Retired) → length (filter (λ x. not (is_old (epoch + 1) x)) xs) ≡ recent epoch xs
kept_recent epoch [] = refl
kept_recent epoch (x ∷ xs) =
    by (not (is_old (epoch + 1) x)) (kept_recent epoch xs) ∙ ap (λ (b : Bool). if b then 1 + recent epoch xs else recent epoch xs) (same epoch x.epoch)
  where
    same : (e n : ℕ) → not (nat_le (n + 2) (e + 1)) ≡ nat_le e n
    same e n = grind (arith, nat_tests)

    by : (b : Bool) → length (filter (λ y. not (is_old (epoch + 1) y)) xs) ≡ recent epoch xs
        → length (if b then x ∷ filter (λ y. not (is_old (epoch + 1) y)) xs else filter (λ y. not (is_old (epoch + 1) y)) xs)
        ≡ (if b then 1 + recent epoch xs else recent epoch xs)
    by true e = omega (arith, e)
    by false e = e
