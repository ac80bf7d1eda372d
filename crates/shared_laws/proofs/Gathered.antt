-- Pairs are gathered in order of key, one behind the other.
use Rattle.std.proofs.Common.{◌≡◌, ◌≢◌, ℕ, suc, ◌<◌, ◌≤◌, ◌⊎◌, ⊎_elim, List, [], ◌∷◌, ◌++◌, Bool, true, false, cond, refl, sym, ap, subst, ◌∙◌, arith, Option, Some, None}
use Rattle.std.specs.Prelude.{◌==◌, nat_lt, slice_get, T}
use Rattle.std.specs.Ordering.{nat_cmp, is_lt, eq_by_cmp}
use Rattle.std.specs.FinMap.{get, entries, entries_sorted, get-entries, nat_cmp-IsAntisymmetric, find, is_sorted}
use Rattle.std.specs.FinMap.Entries.{below_all, same_entries}
use Rattle.std.proofs.lemmas.Bool.Decides.{nat_tests}
use Rattle.std.proofs.lemmas.Bool.{and_from}
use Rattle.std.proofs.lemmas.Cmp.{nat_cmp_total}
use Rattle.structure_laws.specs.map_history.specs.Replay.{Pairs}
use Rattle.structure_laws.proofs.Changes.{both_true}
use Rattle.shared_laws.specs.Gathered.{HasPairs}
use Rattle.shared_laws.proofs.Numbers.{get_more, lt_true, lt_false, lt_of, eq_true, eq_false}

pub eq_cmp : (a b : ℕ) → eq_by_cmp nat_cmp a b ≡ (a == b)
eq_cmp a b = grind (arith, nat_tests)

pub less : (a b : ℕ) → a < b → is_lt (nat_cmp a b) ≡ true
less a b low = grind (arith, nat_tests)

-- one more pair at the end of a list
below_more : (k : ℕ) (items : List (ℕ × ℕ)) (x : ℕ × ℕ) → below_all nat_cmp k items ≡ true → k < x.0
    → below_all nat_cmp k (items ++ x ∷ []) ≡ true
below_more k [] x all low = and_from (is_lt (nat_cmp k x.0)) true (less k x.0 low) refl
below_more k (y ∷ items) x all low = let tests = both_true (is_lt (nat_cmp k y.0)) (below_all nat_cmp k items) all in
    and_from (is_lt (nat_cmp k y.0)) (below_all nat_cmp k (items ++ x ∷ [])) tests.0 (below_more k items x tests.1 low)

sorted_more : (items : List (ℕ × ℕ)) (x : ℕ × ℕ) → is_sorted nat_cmp items ≡ true
    → ((i : ℕ) (y : ℕ × ℕ) → slice_get items i ≡ Some y → y.0 < x.0) → is_sorted nat_cmp (items ++ x ∷ []) ≡ true
sorted_more [] x sorted low = refl
sorted_more (y ∷ items) x sorted low = let tests = both_true (below_all nat_cmp y.0 items)
    (is_sorted nat_cmp items) sorted in
    and_from (below_all nat_cmp y.0 (items ++ x ∷ [])) (is_sorted nat_cmp (items ++ x ∷ []))
    (below_more y.0 items x tests.0 (low 0 y refl))
    (sorted_more items x tests.1 (λ i z at. low (suc i) z at))

abbrev or_else : Option ℕ → Option ℕ → Option ℕ
or_else (Some v) o = Some v
or_else None o = o

find_more : (q : ℕ) (items : List (ℕ × ℕ)) (x : ℕ × ℕ)
    → find nat_cmp q (items ++ x ∷ []) ≡ or_else (find nat_cmp q items) (cond (q == x.0) (Some x.1) None)
find_more q [] x = ap (λ c. cond c (Some x.1) None) (eq_cmp q x.0)
find_more q (y ∷ items) x = by (eq_by_cmp nat_cmp q y.0) (find_more q items x)
  where
    by : (c : Bool) → find nat_cmp q (items ++ x ∷ []) ≡ or_else (find nat_cmp q items)
        (cond (q == x.0) (Some x.1) None)
        → cond c (Some y.1) (find nat_cmp q (items ++ x ∷ [])) ≡ or_else (cond c (Some y.1) (find nat_cmp q items))
        (cond (q == x.0) (Some x.1) None)
    by true rest = refl
    by false rest = rest

-- a number is below another one, is it, or is above it
split : (q s : ℕ) → (q < s) ⊎ (q ≡ s) ⊎ (s < q)
split q s = search arith

-- no key is below the first one
pub none_yet : (pairs : Pairs) → HasPairs pairs 0 []
none_yet pairs = record {
  sorted = refl;
  low = λ i x at. absurd (cc);
  finds = λ q. sym (ap (λ b. cond b (get pairs q) None) (lt_false q 0 (omega arith)));
}

module _ (pairs : Pairs) (from to : ℕ) (items : List (ℕ × ℕ)) (has : HasPairs pairs from items) where
  before : (q : ℕ) → q < from → find nat_cmp q items ≡ get pairs q
  before q low = has.finds q ∙ ap (λ b. cond b (get pairs q) None) (lt_true q from low)

  not_yet : (q : ℕ) → from ≤ q → find nat_cmp q items ≡ None
  not_yet q high = has.finds q ∙ ap (λ b. cond b (get pairs q) None) (lt_false q from high)

  there : (q : ℕ) → q < to → cond (nat_lt q to) (get pairs q) None ≡ get pairs q
  there q low = ap (λ b. cond b (get pairs q) None) (lt_true q to low)

  -- where the map has no key from there on
  nothing : (q : ℕ) → (q < to → get pairs q ≡ None) → cond (nat_lt q to) (get pairs q) None ≡ None
  nothing q none = by (nat_lt q to) refl
    where
      by : (b : Bool) → nat_lt q to ≡ b → cond b (get pairs q) None ≡ None
      by true e = none (lt_of q to e)
      by false e = refl

  -- the pairs below a key are those below a greater one, where the map has none between
  pub none_more : from ≤ to → ((q : ℕ) → from ≤ q → q < to → get pairs q ≡ None) → HasPairs pairs to items
  none_more below none = record {
    sorted = has.sorted;
    low = λ i x at. let low = has.low i x at in omega (arith, low, below);
    finds = λ q. ⊎_elim (λ low. before q low ∙ sym (there q (omega (arith, low, below))))
        (λ high. not_yet q high ∙ sym (nothing q (none q high))) (apart q);
  }
    where
      apart : (q : ℕ) → (q < from) ⊎ (from ≤ q)
      apart q = search arith

  -- the pairs with keys below this one are there, and the map has it: behind it come those with keys below the next one
  module _ (value : ℕ) (own : get pairs from ≡ Some value) (below : from < to)
      (none : (q : ℕ) → from < q → q < to → get pairs q ≡ None) where
    kept : (o : Option ℕ) → or_else o None ≡ o
    kept None = refl
    kept (Some v) = refl

    other : (q : ℕ) → q ≢ from → or_else (find nat_cmp q items)
        (cond (q == from) (Some value) None) ≡ find nat_cmp q items
    other q ne = ap (λ b. or_else (find nat_cmp q items) (cond b (Some value) None)) (eq_false q from ne)
        ∙ kept (find nat_cmp q items)

    finds : (q : ℕ) → or_else (find nat_cmp q items) (cond (q == from) (Some value) None) ≡ cond (nat_lt q to)
        (get pairs q) None
    finds q = ⊎_elim
        (λ low. other q (λ e. omega (arith, e, low)) ∙ (before q low ∙ sym (there q (omega (arith, low, below)))))
        (⊎_elim
        (λ e. ap (λ o. or_else o (cond (q == from) (Some value) None)) (not_yet q (omega (arith, e)))
        ∙ (ap (λ b. cond b (Some value) None) (eq_true q from e)
        ∙ sym (there q (omega (arith, e, below)) ∙ (ap (get pairs) e ∙ own))))
        (λ high. other q (λ e. omega (arith, e, high))
        ∙ (not_yet q (omega (arith, high)) ∙ sym (nothing q (none q high)))))
        (split q from)

    pub pair_more : HasPairs pairs to (items ++ (from, value) ∷ [])
    pair_more = record {
      sorted = sorted_more items (from, value) has.sorted has.low;
      low = λ i x at. ⊎_elim (λ early. let low = has.low i x early in omega (arith, low, below))
          (λ same. subst (λ (y : ℕ × ℕ). y.0 < to) same below)
          (get_more items (from, value) x i at);
      finds = λ q. find_more q items (from, value) ∙ finds q;
    }

-- below a key that is above all that the map has are all of its pairs
pub all_pairs : (pairs : Pairs) (end : ℕ) (items : List (ℕ × ℕ)) → HasPairs pairs end items
    → ((q v : ℕ) → get pairs q ≡ Some v → q < end) → items ≡ entries pairs
all_pairs pairs end items has low = same_entries nat_cmp nat_cmp_total nat_cmp-IsAntisymmetric items (entries pairs)
    (subst T (sym has.sorted) tt) (entries_sorted pairs)
    (λ q. has.finds q ∙ (all q (get pairs q) refl ∙ get-entries pairs q))
  where
    nowhere : (b : Bool) → ◌≡◌ {A = Option ℕ} (cond b None None) None
    nowhere true = refl
    nowhere false = refl

    all : (q : ℕ) (o : Option ℕ) → get pairs q ≡ o → cond (nat_lt q end) (get pairs q) None ≡ get pairs q
    all q None e = ap (λ o. cond (nat_lt q end) o None) e ∙ (nowhere (nat_lt q end) ∙ sym e)
    all q (Some v) e = ap (λ b. cond b (get pairs q) None) (lt_true q end (low q v e))
