-- States that are the same everywhere.
use Rattle.std.specs.Prelude.{ℕ, ◌≡◌}
use Rattle.history_core.specs.State.{HistoryState}

-- every field is the same at every number
pub record IsSame (w w' : HistoryState) : Type 0 where
  pub clock : w'.clock ≡ w.clock
  pub stamp : (n : ℕ) → w'.stamp n ≡ w.stamp n
  pub reply : (n : ℕ) → w'.reply n ≡ w.reply n
  pub history : w'.history ≡ w.history
  pub pairs : w'.pairs ≡ w.pairs
  pub used : (d : ℕ) → w'.used d ≡ w.used d
  pub done : (d : ℕ) → w'.done d ≡ w.done d
  pub request : (d : ℕ) → w'.request d ≡ w.request d
  pub answer : (d : ℕ) → w'.answer d ≡ w.answer d
  pub stage : (d : ℕ) → w'.stage d ≡ w.stage d
  pub floor : (d : ℕ) → w'.floor d ≡ w.floor d
  pub knew : (d n : ℕ) → w'.knew d n ≡ w.knew d n
  pub by : (n : ℕ) → w'.by n ≡ w.by n
  pub saw : (n k : ℕ) → w'.saw n k ≡ w.saw n k
  pub loaded : (r : ℕ) → w'.loaded r ≡ w.loaded r
  pub run : (r : ℕ) → w'.run r ≡ w.run r
  pub hand : (r : ℕ) → w'.hand r ≡ w.hand r
  pub published : (r : ℕ) → w'.published r ≡ w.published r
  pub known : (r n : ℕ) → w'.known r n ≡ w.known r n
  pub look : (r : ℕ) → w'.look r ≡ w.look r
