-- States that are the same everywhere.
use Rattle.std.specs.Prelude.{ℕ, ◌≡◌}
use Rattle.agreement_core.specs.State.{AgreementState}

-- every field is the same at every number
pub record IsSame (w w' : AgreementState) : Type 0 where
  pub cells : (p : ℕ) → w'.shared.cells p ≡ w.shared.cells p
  pub clock : w'.shared.clock ≡ w.shared.clock
  pub stamp : (q : ℕ) → w'.shared.stamp q ≡ w.shared.stamp q
  pub reply : (q : ℕ) → w'.shared.reply q ≡ w.shared.reply q
  pub seen : (p word : ℕ) → w'.shared.seen p word ≡ w.shared.seen p word
  pub section : (d : ℕ) → w'.section d ≡ w.section d
  pub used : (d : ℕ) → w'.used d ≡ w.used d
  pub live : (d : ℕ) → w'.live d ≡ w.live d
  pub over : (d : ℕ) → w'.over d ≡ w.over d
  pub run : (r : ℕ) → w'.run r ≡ w.run r
  pub finishes : (r : ℕ) → w'.finishes r ≡ w.finishes r
  pub finished : (r i : ℕ) → w'.finished r i ≡ w.finished r i
