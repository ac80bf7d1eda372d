-- States that are the same everywhere.
use Rattle.std.specs.Prelude.{ℕ, ◌≡◌}
use Rattle.guard_core.specs.State.{GuardState}

-- every field is the same at every number
pub record IsSame (w w' : GuardState) : Type 0 where
  pub entered : (r : ℕ) → w'.entered r ≡ w.entered r
  pub guard : (r : ℕ) → w'.guard r ≡ w.guard r
  pub sure : (r : ℕ) → w'.sure r ≡ w.sure r
  pub run : (r : ℕ) → w'.run r ≡ w.run r
  pub looked : (r : ℕ) → w'.looked r ≡ w.looked r
  pub descriptor : (d : ℕ) → w'.descriptor d ≡ w.descriptor d
  pub block : (b : ℕ) → w'.block b ≡ w.block b
  pub linked : (d : ℕ) → w'.linked d ≡ w.linked d
  pub over : (d : ℕ) → w'.over d ≡ w.over d
