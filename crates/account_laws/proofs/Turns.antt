-- One transfer after the other keeps the money.
use Rattle.std.proofs.Common.{◌≡◌, ◌≢◌, ℕ, ◌+◌, ◌*◌, ◌<◌, refl, sym, ap, ◌∙◌, ⊎_elim, arith}
use Rattle.std.proofs.lemmas.Bool.{true≢false}
use Rattle.std.specs.Prelude.{◌==◌, ◌&&◌, ◌%◌, nat_lt}
use Rattle.runner_parts.specs.structure_laws.specs.map_history.specs.Replay.{Pairs}
use Rattle.runner_parts.specs.structure_laws.specs.body_terms.specs.Shape.{IsShaped}
use Rattle.runner_parts.specs.structure_laws.specs.body_terms.specs.Update.{upd}
use Rattle.runner_parts.specs.structure_laws.specs.body_terms.specs.Word.{value_of}
use Rattle.runner_parts.specs.structure_laws.specs.body_terms.specs.declared.value.Value.TheVariants.{Const}
use Rattle.runner_parts.specs.structure_laws.specs.body_terms.specs.declared.step.Step.TheVariants.{Load, Want}
use Rattle.runner_parts.specs.structure_laws.specs.body_terms.specs.declared.thunk.Thunk.{Thunk}
use Rattle.runner_parts.specs.block_words.specs.table_words.specs.declared.layout.Layout.{Layout}
use Rattle.runner_parts.specs.structure_laws.specs.Scene.{Cells, Readings, Section, Scene}
use Rattle.runner_parts.specs.structure_laws.specs.Sections.{IsStep}
use Rattle.runner_parts.specs.structure_laws.specs.InTurn.{StandsFor, AtStamp, AfterStores, InTurn}
use Rattle.runner_parts.specs.structure_laws.proofs.Changes.{upd_other, value-next_word, value_small}
use Rattle.shared_laws.proofs.AtStamp.{wanted_now}
use Rattle.shared_laws.proofs.Numbers.{eq_false}
use Rattle.account_laws.specs.Accounts.{balance_of, wanted_lower, wanted_upper, new_lower, new_upper, lower_in, upper_in, transfer_body, money, accounts_of}
use Rattle.account_laws.proofs.Totals.{total_same, total_two}
use Rattle.account_laws.proofs.TransferSteps.{load_at, shape_at}
use Rattle.account_laws.proofs.Places.{balance_there}
use Rattle.account_laws.proofs.Fitting.{Fit, fit_of}

-- the body of a thunk that fits has the shape of one
pub shape_own : (accounts version_max : ℕ) (readings : Readings) (t : Thunk) → Fit accounts version_max readings t → IsShaped (transfer_body accounts t)
shape_own accounts version_max readings t fit = shape_at (lower_in accounts t) (upper_in accounts t) t
    (eq_false _ _ (λ e. let order = fit.order in omega (arith, order, e)))

module _ (accounts opening : ℕ) (layout : Layout) where
  module _ (s : Scene) (pairs : Pairs) (d : ℕ) (x : Section) (before : StandsFor (accounts_of accounts opening) layout s pairs) (stamp : AtStamp (accounts_of accounts opening) s d x) where
    fit : Fit accounts layout.version_max x.readings x.thunk
    fit = fit_of accounts layout.version_max x.readings x.thunk (before.sound.fits d x stamp.here)

    abbrev lower : ℕ
    lower = lower_in accounts x.thunk

    abbrev upper : ℕ
    upper = upper_in accounts x.thunk

    -- the two balances are those that were read
    now : (i j p r w : ℕ) → IsStep (accounts_of accounts opening) x i (Load p r) → IsStep (accounts_of accounts opening) x j (Want r w) → s.cells p ≡ w
    now = wanted_now (accounts_of accounts opening) layout s before.sound d x stamp (shape_own accounts layout.version_max x.readings x.thunk fit)

    lower_now : s.cells (balance_of lower) ≡ wanted_lower x.thunk
    lower_now = now 0 1 (balance_of lower) 0 (wanted_lower x.thunk) refl refl

    upper_now : s.cells (balance_of upper) ≡ wanted_upper x.thunk
    upper_now = now 4 5 (balance_of upper) 1 (wanted_upper x.thunk) refl refl

    module _ (after : Cells) (left : AfterStores (accounts_of accounts opening) x s.cells after) where
      lower_after : value_of (after (balance_of lower)) ≡ new_lower x.thunk
      lower_after = ap value_of (left.changed 8 0 (balance_of lower) 0 (Const (new_lower x.thunk)) refl refl)
          ∙ value-next_word (x.reg 0) (new_lower x.thunk) (value_small _)

      upper_after : value_of (after (balance_of upper)) ≡ new_upper x.thunk
      upper_after = ap value_of (left.changed 9 4 (balance_of upper) 1 (Const (new_upper x.thunk)) refl refl)
          ∙ value-next_word (x.reg 1) (new_upper x.thunk) (value_small _)

      -- the others keep theirs
      others : (account : ℕ) → account < accounts → account ≢ lower → account ≢ upper → value_of (after (balance_of account)) ≡ value_of (s.cells (balance_of account))
      others account low ne ne' = ap value_of (left.same (balance_of account) (λ i j r v store load.
          ⊎_elim (λ first. ne (let e = first.1 in omega (arith, e))) (λ second. ne' (let e = second.1 in omega (arith, e)))
          (load_at lower upper x.thunk j (balance_of account) r load)))

      stands_after : money accounts after ≡ accounts * opening
      stands_after = total_two accounts lower upper (λ account. value_of (s.cells (balance_of account))) (λ account. value_of (after (balance_of account))) fit.order fit.low others
          ((λ k. lower_after k + upper_after k) ∙ (fit.sum ∙ sym (λ k. value_of (lower_now k) + value_of (upper_now k))))
          ∙ before.stands

  -- a change of a place that is no balance leaves the money
  elsewhere : (s : Scene) (p w : ℕ) → ((account : ℕ) → account < accounts → balance_of account ≢ p) → money accounts (upd s.cells p w) ≡ money accounts s.cells
  elsewhere s p w ne = total_same accounts (λ account. value_of (s.cells (balance_of account))) (λ account. value_of (upd s.cells p w (balance_of account)))
      (λ account low. ap value_of (upd_other s.cells p (balance_of account) w (ne account low)))

  pub accounts_in_turn : InTurn (accounts_of accounts opening) layout
  accounts_in_turn = record {
    answers = λ s pairs d x before stamp map. absurd (true≢false (sym map));
    stores = λ s pairs d x before stamp after left. stands_after s pairs d x before stamp after left;
    lock = λ s pairs p w before lock. elsewhere s p w (λ account low e.
        true≢false (sym (ap (λ q. nat_lt q (2 * accounts) && (q % 2 == 0)) e ∙ lock) ∙ (balance_there accounts account low).1))
        ∙ before.stands;
    hand = λ s pairs t i w before free small. elsewhere s (2 * accounts + 5 * t + i) w (λ account low e. omega (arith, e, low)) ∙ before.stands;
  }
