-- A map of keys below a bound has the pairs of its keys, in order of key.
use Rattle.std.proofs.Common.{◌≡◌, ℕ, zero, suc, ◌+◌, ◌<◌, ◌≤◌, ◌==◌, List, [], ◌∷◌, ◌++◌, true, cond, refl, sym, ap, subst, ◌∙◌, arith, Option, Some, None}
use Rattle.std.specs.Prelude.{◌-◌, nat_lt, T}
use Rattle.std.specs.Ordering.{nat_cmp, is_lt}
use Rattle.std.specs.FinMap.{get, entries, entries_sorted, get-entries, nat_cmp-IsAntisymmetric, find, is_sorted}
use Rattle.std.specs.FinMap.Entries.{below_all, same_entries}
use Rattle.std.proofs.lemmas.List.{append_assoc, append-nil}
use Rattle.std.proofs.lemmas.Cmp.{nat_cmp_total}
use Rattle.std.proofs.lemmas.Bool.{and_from}
use mathlib.Core.Logic.{dite}
use native.Mathlib.Decide.{ℕ_discrete}
use Rattle.structure_laws.specs.table_words.specs.small_lemmas.proofs.Numbers.{self_tested as self}
use Rattle.structure_laws.specs.map_history.specs.Replay.{Pairs}
use Rattle.shared_laws.specs.Listing.{with_pair, listed}
use Rattle.shared_laws.proofs.Gathered.{less, eq_cmp}
use Rattle.shared_laws.proofs.Numbers.{lt_true, lt_false, eq_false}

module _ (has : ℕ → Option ℕ) where
  -- each is above what is below the first key
  above : (x key n : ℕ) → x < key → below_all nat_cmp x (listed has key n) ≡ true
  above x key zero low = refl
  above x key (suc n) low = by (above x (suc key) n (omega (arith, low))) (has key)
    where
      by : below_all nat_cmp x (listed has (suc key) n) ≡ true → (o : Option ℕ) → below_all nat_cmp x (with_pair key o (listed has (suc key) n)) ≡ true
      by rest None = rest
      by rest (Some v) = and_from (is_lt (nat_cmp x key)) (below_all nat_cmp x (listed has (suc key) n)) (less x key low) rest

  in_order : (key n : ℕ) → is_sorted nat_cmp (listed has key n) ≡ true
  in_order key zero = refl
  in_order key (suc n) = by (in_order (suc key) n) (has key)
    where
      by : is_sorted nat_cmp (listed has (suc key) n) ≡ true → (o : Option ℕ) → is_sorted nat_cmp (with_pair key o (listed has (suc key) n)) ≡ true
      by rest None = rest
      by rest (Some v) = and_from (below_all nat_cmp key (listed has (suc key) n)) (is_sorted nat_cmp (listed has (suc key) n)) (above key (suc key) n (omega arith)) rest

  -- a key below the first one is not found
  below : (q key n : ℕ) → q < key → find nat_cmp q (listed has key n) ≡ None
  below q key zero low = refl
  below q key (suc n) low = by (below q (suc key) n (omega (arith, low))) (has key)
    where
      by : find nat_cmp q (listed has (suc key) n) ≡ None → (o : Option ℕ) → find nat_cmp q (with_pair key o (listed has (suc key) n)) ≡ None
      by rest None = rest
      by rest (Some v) = ap (λ b. cond b (Some v) (find nat_cmp q (listed has (suc key) n)))
          (eq_cmp q key ∙ eq_false q key (λ e. omega (arith, e, low))) ∙ rest

  -- and each of the n keys is found with what it has
  finds : (q key n : ℕ) → key ≤ q → find nat_cmp q (listed has key n) ≡ cond (nat_lt q (key + n)) (has q) None
  finds q key zero low = ap (λ b. cond b (has q) None) (sym (lt_false q (key + 0) (omega (arith, low))))
  finds q key (suc n) low = dite (ℕ_discrete q key)
      (λ e. by_same e (has key) refl ∙ ap (λ b. cond b (has q) None) (sym (lt_true q (key + suc n) (omega (arith, e)))))
      (λ ne. by_other ne (has key) ∙ (finds q (suc key) n (omega (arith, low, ne)) ∙ ap (λ k. cond (nat_lt q k) (has q) None) (omega arith)))
    where
      by_same : q ≡ key → (o : Option ℕ) → has key ≡ o → find nat_cmp q (with_pair key o (listed has (suc key) n)) ≡ has q
      by_same e None h = below q (suc key) n (omega (arith, e)) ∙ sym (ap has e ∙ h)
      by_same e (Some v) h = ap (λ b. cond b (Some v) (find nat_cmp q (listed has (suc key) n))) (eq_cmp q key ∙ (ap (λ k. k == key) e ∙ self key)) ∙ sym (ap has e ∙ h)

      by_other : (q ≡ key → ⊥) → (o : Option ℕ) → find nat_cmp q (with_pair key o (listed has (suc key) n)) ≡ find nat_cmp q (listed has (suc key) n)
      by_other ne None = refl
      by_other ne (Some v) = ap (λ b. cond b (Some v) (find nat_cmp q (listed has (suc key) n)))
          (eq_cmp q key ∙ eq_false q key ne)

-- from one key to the next
pub next_key : (has : ℕ → Option ℕ) (items : List (ℕ × ℕ)) (key n : ℕ) → key < n → items ++ listed has key (n - key) ≡ (items ++ with_pair key (has key) []) ++ listed has (suc key) (n - suc key)
next_key has items key n low = ap (λ k. items ++ listed has key k) more ∙ by (has key) (listed has (suc key) (n - suc key))
  where
    more : n - key ≡ suc (n - suc key)
    more = omega (arith, low)

    by : (o : Option ℕ) (rest : List (ℕ × ℕ)) → items ++ with_pair key o rest ≡ (items ++ with_pair key o []) ++ rest
    by None rest = ap (λ xs. xs ++ rest) (sym (append-nil items))
    by (Some v) rest = sym (append_assoc items ((key, v) ∷ []) rest)

-- and past the last one
pub past_keys : (has : ℕ → Option ℕ) (items : List (ℕ × ℕ)) (key n : ℕ) → n ≤ key → items ++ listed has key (n - key) ≡ items
past_keys has items key n high = ap (λ k. items ++ listed has key k) none ∙ append-nil items
  where
    none : n - key ≡ 0
    none = omega (arith, high)

-- one more key was looked at
pub gathered_more : (has : ℕ → Option ℕ) (items also : List (ℕ × ℕ)) (key keys : ℕ) (o : Option ℕ) → key < keys → o ≡ has key → also ≡ items ++ with_pair key o []
    → items ++ listed has key (keys - key) ≡ listed has 0 keys → also ++ listed has (key + 1) (keys - (key + 1)) ≡ listed has 0 keys
gathered_more has items also key keys o low is same rest =
    let next : key + 1 ≡ suc key = omega arith in
    ap (λ k. also ++ listed has k (keys - k)) next
    ∙ ((λ i. same i ++ listed has (suc key) (keys - suc key))
    ∙ ((λ i. (items ++ with_pair key (is i) []) ++ listed has (suc key) (keys - suc key))
    ∙ (sym (next_key has items key keys low) ∙ rest)))

-- two answers for each key below the bound are listed alike
pub same_listed : (has also : ℕ → Option ℕ) (key n : ℕ) → ((q : ℕ) → q < key + n → has q ≡ also q) → listed has key n ≡ listed also key n
same_listed has also key zero same = refl
same_listed has also key (suc n) same = (λ i. with_pair key (same key (omega arith) i) (same_listed has also (suc key) n (λ q low. same q (omega (arith, low))) i))

pub are_entries : (has : ℕ → Option ℕ) (n : ℕ) (pairs : Pairs) → ((q : ℕ) → get pairs q ≡ cond (nat_lt q n) (has q) None) → listed has 0 n ≡ entries pairs
are_entries has n pairs is = same_entries nat_cmp nat_cmp_total nat_cmp-IsAntisymmetric (listed has 0 n) (entries pairs) (subst T (sym (in_order has 0 n)) tt) (entries_sorted pairs)
    (λ q. finds has q 0 n (omega arith) ∙ (ap (λ k. cond (nat_lt q k) (has q) None) (omega arith) ∙ (sym (is q) ∙ get-entries pairs q)))
