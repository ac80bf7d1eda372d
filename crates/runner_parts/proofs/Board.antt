-- The first load of a word of the board in a list of loads.
use Rattle.std.specs.Prelude.{◌==◌, slice_set, slice_index_or, Bool, true, false, if◌then◌else◌}
use Rattle.std.proofs.Common.{◌≡◌, ℕ, zero, suc, ◌<◌, List, [], ◌∷◌, length, refl, sym, ap, ◌∙◌, arith}
use Rattle.runner_parts.specs.declared.entries.BoardRead.{BoardRead}
use Rattle.runner_parts.specs.declared.entries.Tried.TheVariants as tries
use Rattle.runner_parts.specs.Lists.{board_tried, tried_as}

abbrev pub no_read : BoardRead
no_read = record { word = 0; read = 0; tried = tries.Not }

-- no load before this one is of the word
abbrev pub NoneBefore : List BoardRead → ℕ → ℕ → Type 0
NoneBefore xs i word = (k : ℕ) → k < i → ((slice_index_or xs k no_read).word == word) ≡ false

module _ (word : ℕ) (won : Bool) where
  pub tried_at : (xs : List BoardRead) (i : ℕ) → i < length xs → NoneBefore xs i word → ((slice_index_or xs i no_read).word == word) ≡ true
      → slice_set xs i (record (slice_index_or xs i no_read) { tried = tried_as won }) ≡ board_tried xs word won
  tried_at [] i few none here = absurd (omega arith)
  tried_at (x ∷ xs) zero few none here = sym (ap (λ b. if b then record x { tried = tried_as won } ∷ xs else x ∷ board_tried xs word won) here)
  tried_at (x ∷ xs) (suc i) few none here =
      ap (λ (ys : List BoardRead). x ∷ ys) (tried_at xs i (omega arith) (λ k h. none (suc k) (omega (arith, h))) here)
      ∙ sym (ap (λ b. if b then record x { tried = tried_as won } ∷ xs else x ∷ board_tried xs word won) (none 0 (omega arith)))

  pub tried_none : (xs : List BoardRead) → NoneBefore xs (length xs) word → board_tried xs word won ≡ xs
  tried_none [] none = refl
  tried_none (x ∷ xs) none =
      ap (λ b. if b then record x { tried = tried_as won } ∷ xs else x ∷ board_tried xs word won) (none 0 (omega arith))
      ∙ ap (λ (ys : List BoardRead). x ∷ ys) (tried_none xs (λ k h. none (suc k) (omega (arith, h))))
