-- What a transfer wants of the two balances was read there.
use Rattle.std.proofs.Common.{◌≡◌, ℕ, true, sym, ◌∙◌, inl, inr, ⊎_elim, arith}
use Rattle.std.specs.Prelude.{◌⊎◌, Some, slice_get}
use mathlib.Core.Logic.{dite}
use native.Mathlib.Decide.{ℕ_discrete}
use Rattle.agreement_core.specs.body_terms.specs.declared.step.Step.TheVariants.{Want}
use Rattle.agreement_core.specs.body_terms.specs.declared.thunk.Thunk.{Thunk}
use Rattle.agreement_core.specs.section_lines.specs.structure_laws.specs.Scene.{Readings}
use Rattle.agreement_core.specs.section_lines.specs.structure_laws.proofs.Pairs.{pair_read}
use Rattle.runner_steps.specs.runner_parts.specs.Tests.{has_pair}
use Rattle.account_laws.specs.Accounts.{wanted_lower, wanted_upper, lower_in, upper_in, accounts_of}
use Rattle.account_laws.proofs.Fitting.{Fit, fit_of}
use Rattle.account_laws.proofs.TransferSteps.{TransferIs, load_at}
use Rattle.lock_walks.specs.Wants.{WantsWereRead}

want_at : (lower upper : ℕ) (t : Thunk) (j r w : ℕ) → TransferIs lower upper t j (Want r w)
    → ((r ≡ 0) × (w ≡ wanted_lower t)) ⊎ ((r ≡ 1) × (w ≡ wanted_upper t))
want_at lower upper t j r w h = dite (ℕ_discrete r 0) (λ e. inl (e, grind arith)) (λ ne. inr (grind arith, grind arith))

module _ (accounts opening : ℕ) where
  -- one balance
  read_at : (readings : Readings) (place word p w : ℕ) → has_pair readings place word ≡ true → p ≡ place → w ≡ word
      → (k : ℕ) × (slice_get readings k ≡ Some (p, w))
  read_at readings place word p w read same_place same_word =
      let k = pair_read readings place word read in (k.0, k.1 ∙ (λ i. Some (sym same_place i, sym same_word i)))

  zero_one : {A : Type 0} (r : ℕ) → r ≡ 0 → r ≡ 1 → A
  zero_one r zero one = absurd (omega (arith, zero, one))

  pub wants_were_read : WantsWereRead (accounts_of accounts opening)
  wants_were_read layout limits readings op t allowed fits i j p r w load want =
      let fit : Fit accounts layout.version_max readings t = fit_of accounts layout.version_max readings t fits in
      ⊎_elim
      (λ lower. ⊎_elim
      (λ first. read_at readings _ _ p w fit.read_lower lower.1 first.1)
      (λ second. zero_one r lower.2 second.0)
      (want_at (lower_in accounts t) (upper_in accounts t) t j r w want))
      (λ upper. ⊎_elim
      (λ first. zero_one r first.0 upper.2)
      (λ second. read_at readings _ _ p w fit.read_upper upper.1 second.1)
      (want_at (lower_in accounts t) (upper_in accounts t) t j r w want))
      (load_at (lower_in accounts t) (upper_in accounts t) t i p r load)
