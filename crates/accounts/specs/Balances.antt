-- The balances in the words of a closed table.
use Rattle.std.specs.Prelude.{◌≡◌, ℕ, ◌<◌, List, length, slice_index}
use Rattle.agreement_core.specs.body_terms.specs.Word.{value_of}
use Rattle.agreement_core.specs.table_words.specs.declared.spot.Spot.TheVariants.{Cell}
use Rattle.agreement_core.specs.section_lines.specs.structure_laws.specs.Meaning.{Meaning}
use Rattle.closed_words.specs.version_words.specs.TableState.{WordsState, word_of}
use Rattle.account_laws.specs.Accounts.{balance_of}

module _ {T : Type 0} (m : Meaning) (w : WordsState T) where
  -- the balance of an account
  abbrev pub balance_in : ℕ → ℕ
  balance_in account = value_of (word_of m w (Cell (balance_of account)))

  -- these are the balances of so many accounts, in order of number
  pub record AreBalances (accounts : ℕ) (balances : List ℕ) : Type 0 where
    pub each : length balances ≡ accounts
    pub balance : (account : ℕ) → account < accounts → slice_index balances account ≡ balance_in account
