-- The balances of the first accounts, and one more.
use Rattle.std.proofs.Common.{◌≡◌, ℕ, zero, suc, ◌+◌, ◌<◌, List, [], ◌∷◌, ◌++◌, length, refl, sym, ap, ◌∙◌, subst, arith}
use Rattle.std.specs.Prelude.{slice_index, sum}
use Rattle.std.proofs.lemmas.List.{length-append}
use Rattle.std.proofs.lemmas.List.Sums.{sum_by_push}
use mathlib.Core.Logic.{dite}
use native.Mathlib.Decide.{ℕ_discrete}
use Rattle.agreement_core.specs.section_lines.specs.structure_laws.specs.Meaning.{Meaning}
use Rattle.account_laws.specs.Money.{total}
use Rattle.closed_words.specs.version_words.specs.TableState.{WordsState}
use Rattle.accounts.specs.Balances.{balance_in, AreBalances}

index_first : (xs : List ℕ) (x i : ℕ) → i < length xs → slice_index (xs ++ x ∷ []) i ≡ slice_index xs i
index_first [] x i low = absurd (omega (arith, low))
index_first (y ∷ xs) x zero low = refl
index_first (y ∷ xs) x (suc i) low = index_first xs x i (omega (arith, low))

index_last : (xs : List ℕ) (x : ℕ) → slice_index (xs ++ x ∷ []) (length xs) ≡ x
index_last [] x = refl
index_last (y ∷ xs) x = index_last xs x

module _ {T : Type 0} (m : Meaning) (w : WordsState T) where
  -- these are the balances of so many accounts, with their sum
  pub record AreFirst (account : ℕ) (balances : List ℕ) : Type 0 where
    pub are : AreBalances m w account balances
    pub sum : sum balances ≡ total account (balance_in m w)

  pub none_first : AreFirst 0 []
  none_first = record { are = record { each = refl; balance = λ account low. absurd (omega (arith, low)) }; sum = refl }

  pub one_more : (account : ℕ) (balances more : List ℕ) (x : ℕ) → more ≡ balances ++ x ∷ [] → x ≡ balance_in m w account → AreFirst account balances
      → AreFirst (account + 1) more
  one_more account balances more x is own first = subst (AreFirst (account + 1)) (sym is) (record {
    are = record {
      each = length-append balances (x ∷ []) ∙ ap (λ n. n + 1) first.are.each;
      balance = λ i low. by i low;
    };
    sum = sum_by_push (λ y. y) balances x ∙ ((λ k. first.sum k + own k) ∙ one_total);
  })
    where
      one_total : total account (balance_in m w) + balance_in m w account ≡ total (account + 1) (balance_in m w)
      one_total = ap (λ n. total n (balance_in m w)) (next account)
        where
          next : (n : ℕ) → suc n ≡ n + 1
          next n = omega arith

      by : (i : ℕ) → i < account + 1 → slice_index (balances ++ x ∷ []) i ≡ balance_in m w i
      by i low = dite (ℕ_discrete i account)
          (λ e. ap (slice_index (balances ++ x ∷ [])) (e ∙ sym first.are.each) ∙ (index_last balances x ∙ (own ∙ ap (balance_in m w) (sym e))))
          (λ ne. index_first balances x i (let each = first.are.each in omega (arith, low, ne, each)) ∙ first.are.balance i (omega (arith, low, ne)))
