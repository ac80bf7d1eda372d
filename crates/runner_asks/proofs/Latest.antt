-- The words stored last, one after the other.
use Rattle.std.proofs.Common.{◌≡◌, ℕ, zero, suc, ◌+◌, ◌<◌, ◌≤◌, List, [], ◌∷◌, length, drop, get_or, Bool, true, false, refl, arith, None}
use Rattle.std.specs.Prelude.{◌&&◌}
use Rattle.runner_steps.specs.runner_parts.specs.declared.entries.Stored.{Stored}
use Rattle.runner_steps.specs.runner_parts.specs.Tests.{last_stored, are_stored, is_some_of}

-- one more number is looked at
pub stored_next : (xs : List Stored) (d w : ℕ) (ns : List ℕ) (i e : ℕ) → i < length ns
    → are_stored xs d w (drop i ns) ≡ (is_some_of (last_stored xs d w None) (get_or ns i e) && are_stored xs d (w + 1) (drop (i + 1) ns))
unfolding are_stored
stored_next xs d w [] i e h = absurd (omega arith)
stored_next xs d w (n ∷ ns) zero e h = refl
stored_next xs d w (n ∷ ns) (suc i) e h = let z : suc i + 1 ≡ suc (i + 1) = omega arith in rw z (stored_next xs d w ns i e (omega arith))

pub stored_end : (xs : List Stored) (d w : ℕ) (ns : List ℕ) (i : ℕ) → length ns ≤ i → are_stored xs d w (drop i ns) ≡ true
unfolding are_stored
stored_end xs d w [] zero h = refl
stored_end xs d w [] (suc i) h = refl
stored_end xs d w (n ∷ ns) zero h = absurd (omega arith)
stored_end xs d w (n ∷ ns) (suc i) h = stored_end xs d w ns i (omega arith)

pub false_first : (a b : Bool) → a ≡ false → (a && b) ≡ false
false_first a b e = rw e refl

pub true_first : (a b : Bool) → a ≡ true → (a && b) ≡ b
true_first a b e = rw e refl
