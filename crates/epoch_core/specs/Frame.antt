-- States that are the same everywhere.
use Rattle.std.specs.Prelude.{ℕ, ◌≡◌}
use Rattle.epoch_core.specs.State.{EpochState}

-- every field is the same at every number
pub record IsSame (w w' : EpochState) : Type 0 where
  pub epoch : w'.epoch ≡ w.epoch
  pub announced : (r : ℕ) → w'.announced r ≡ w.announced r
  pub stage : (r : ℕ) → w'.stage r ≡ w.stage r
  pub clear : (r r' : ℕ) → w'.clear r r' ≡ w.clear r r'
  pub location : (s : ℕ) → w'.location s ≡ w.location s
  pub holds : (r s : ℕ) → w'.holds r s ≡ w.holds r s
  pub retire : (r : ℕ) → w'.retire r ≡ w.retire r
  pub role : (d k : ℕ) → w'.role d k ≡ w.role d k
  pub log : (d k : ℕ) → w'.log d k ≡ w.log d k
