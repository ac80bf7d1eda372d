-- Chains are gathered node by node.
use Rattle.std.proofs.Common.{◌≡◌, ◌≢◌, ℕ, zero, suc, ◌+◌, ◌<◌, ◌≤◌, ◌⊎◌, inl, inr, ⊎_elim, List, [], ◌∷◌, ◌++◌, length, length-append, map, Bool, true, false, cond, refl, sym, ap, subst, ◌∙◌, arith, Some}
use Rattle.std.specs.Prelude.{◌==◌, slice_get}
use Rattle.std.proofs.lemmas.Bool.Decides.{nat_tests}
use mathlib.Core.Logic.{dite}
use native.Mathlib.Decide.{ℕ_discrete}
use Rattle.std.proofs.lemmas.Option.{slice_get_within}
use Rattle.machine_states.proofs.Steps.{some_same}
use Rattle.lock_walks.proofs.Each.{get_left, get_last, within_more}
use Rattle.bucket_walks.specs.bucket_laws.specs.Chain.{Nodes, Chains}
use Rattle.hash_table.specs.Gathered.{pair_of, IsAmong, IsGathered, IsGathering}

-- how often a number stands in a list
abbrev count : ℕ → List ℕ → ℕ
count t [] = 0
count t (x ∷ xs) = cond (x == t) 1 0 + count t xs

-- how many of them are below a bound
abbrev below : ℕ → List ℕ → ℕ
below zero xs = 0
below (suc n) xs = count n xs + below n xs

below_none : (n : ℕ) → below n [] ≡ 0
below_none zero = refl
below_none (suc n) = let rest = below_none n in omega (arith, rest)

-- whether the first of a list is this number
first_is : (x t : ℕ) (xs : List ℕ) → x ≡ t → count t (x ∷ xs) ≡ suc (count t xs)
first_is x t xs same = let e : (x == t) ≡ true = grind (arith, nat_tests, same) in let a : count t (x ∷ xs) ≡ 1 + count t xs = ap (λ b. cond b 1 0 + count t xs) e in omega (arith, a)

first_is_not : (x t : ℕ) (xs : List ℕ) → x ≢ t → count t (x ∷ xs) ≡ count t xs
first_is_not x t xs ne = let e : (x == t) ≡ false = grind (arith, nat_tests, ne) in let a : count t (x ∷ xs) ≡ 0 + count t xs = ap (λ b. cond b 1 0 + count t xs) e in omega (arith, a)

one_past : (n x : ℕ) (xs : List ℕ) → n ≤ x → below n (x ∷ xs) ≡ below n xs
one_past zero x xs high = refl
one_past (suc n) x xs high = let rest = one_past n x xs (omega (arith, high)) in let a = first_is_not x n xs (λ e. omega (arith, high, e)) in omega (arith, rest, a)

one_more : (n x : ℕ) (xs : List ℕ) → x < n → below n (x ∷ xs) ≡ suc (below n xs)
one_more zero x xs low = absurd (omega (arith, low))
one_more (suc n) x xs low = by (λ less. one_more n x xs less)
  where
    by : (x < n → below n (x ∷ xs) ≡ suc (below n xs)) → below (suc n) (x ∷ xs) ≡ suc (below (suc n) xs)
    by again = dite (ℕ_discrete x n)
        (λ same. let a = first_is x n xs same in let rest = one_past n x xs (omega (arith, same)) in omega (arith, rest, a))
        (λ ne. let a = first_is_not x n xs ne in let rest = again (omega (arith, low, ne)) in omega (arith, rest, a))

below_all : (n : ℕ) (xs : List ℕ) → ((i t : ℕ) → slice_get xs i ≡ Some t → t < n) → below n xs ≡ length xs
below_all n [] low = below_none n
below_all n (x ∷ xs) low = one_more n x xs (low 0 x refl) ∙ ap suc (below_all n xs (λ i t here. low (suc i) t here))

-- where a number stands in a list, or doesn't
count_some : (t : ℕ) (xs : List ℕ) → 0 < count t xs → (i : ℕ) × (slice_get xs i ≡ Some t)
count_some t [] some = absurd (omega (arith, some))
count_some t (x ∷ xs) some = by (λ more. count_some t xs more)
  where
    by : (0 < count t xs → (i : ℕ) × (slice_get xs i ≡ Some t)) → (i : ℕ) × (slice_get (x ∷ xs) i ≡ Some t)
    by again = dite (ℕ_discrete x t) (λ same. (0, ap Some same))
        (λ ne. let a = first_is_not x t xs ne in let rest = again (omega (arith, some, a)) in (suc rest.0, rest.1))

count_once : (t : ℕ) (xs : List ℕ) → ((i j : ℕ) → slice_get xs i ≡ Some t → slice_get xs j ≡ Some t → i ≡ j) → count t xs ≤ 1
count_once t [] once = omega arith
count_once t (x ∷ xs) once = by (count_once t xs (λ i j a b. let e = once (suc i) (suc j) a b in omega (arith, e)))
  where
    none : x ≡ t → count t xs ≡ 0
    none same = dite (ℕ_discrete (count t xs) 0) (λ e. e)
        (λ ne. absurd (let later = count_some t xs (omega (arith, ne)) in let e = once 0 (suc later.0) (ap Some same) later.1 in omega (arith, e)))

    by : count t xs ≤ 1 → count t (x ∷ xs) ≤ 1
    by tail = dite (ℕ_discrete x t) (λ same. let a = first_is x t xs same in let z = none same in omega (arith, a, z)) (λ ne. let a = first_is_not x t xs ne in omega (arith, a, tail))

below_few : (n : ℕ) (xs : List ℕ) → ((i j t : ℕ) → slice_get xs i ≡ Some t → slice_get xs j ≡ Some t → i ≡ j) → below n xs ≤ n
below_few zero xs once = omega arith
below_few (suc n) xs once = let a = count_once n xs (λ i j. once i j n) in let b = below_few n xs once in omega (arith, a, b)

-- different numbers below a bound are no more than it
pub few_different : (n : ℕ) (xs : List ℕ) → ((i t : ℕ) → slice_get xs i ≡ Some t → t < n) → ((i j t : ℕ) → slice_get xs i ≡ Some t → slice_get xs j ≡ Some t → i ≡ j) → length xs ≤ n
few_different n xs low once = let a = below_all n xs low in let b = below_few n xs once in omega (arith, a, b)

map_more : {A B : Type 0} (f : A → B) (xs : List A) (y : A) → map f (xs ++ y ∷ []) ≡ map f xs ++ f y ∷ []
map_more f [] y = refl
map_more f (x ∷ xs) y = ap (λ ys. f x ∷ ys) (map_more f xs y)

-- one more slot at the end
module _ (seen : List ℕ) (u : ℕ) where
  among_more : (t : ℕ) → (i : ℕ) × (slice_get seen i ≡ Some t) → (i : ℕ) × (slice_get (seen ++ u ∷ []) i ≡ Some t)
  among_more t here = (here.0, get_left seen (u ∷ []) here.0 (slice_get_within seen here.0 t here.1) ∙ here.1)

  among_new : (i : ℕ) × (slice_get (seen ++ u ∷ []) i ≡ Some u)
  among_new = (length seen, get_last seen u)

  among_cases : (t : ℕ) → (i : ℕ) × (slice_get (seen ++ u ∷ []) i ≡ Some t) → ((i : ℕ) × (slice_get seen i ≡ Some t)) ⊎ (t ≡ u)
  among_cases t here = dite (ℕ_discrete here.0 (length seen))
      (λ e. inr (sym (some_same u t (sym (get_last seen u) ∙ (ap (slice_get (seen ++ u ∷ [])) (sym e) ∙ here.1)))))
      (λ ne. inl (here.0, sym (get_left seen (u ∷ []) here.0 (within_more seen u t here.0 here.1 ne)) ∙ here.1))

  once_more : ((i j t : ℕ) → slice_get seen i ≡ Some t → slice_get seen j ≡ Some t → i ≡ j) → (((i : ℕ) × (slice_get seen i ≡ Some u)) → ⊥)
      → (i j t : ℕ) → slice_get (seen ++ u ∷ []) i ≡ Some t → slice_get (seen ++ u ∷ []) j ≡ Some t → i ≡ j
  once_more once new i j t a b = dite (ℕ_discrete i (length seen))
      (λ e. dite (ℕ_discrete j (length seen)) (λ f. e ∙ sym f)
      (λ nf. absurd (new (j, sym (get_left seen (u ∷ []) j (within_more seen u t j b nf)) ∙ (b ∙ ap Some (same i t e a))))))
      (λ ne. dite (ℕ_discrete j (length seen))
      (λ f. absurd (new (i, sym (get_left seen (u ∷ []) i (within_more seen u t i a ne)) ∙ (a ∙ ap Some (same j t f b)))))
      (λ nf. once i j t (sym (get_left seen (u ∷ []) i (within_more seen u t i a ne)) ∙ a) (sym (get_left seen (u ∷ []) j (within_more seen u t j b nf)) ∙ b)))
    where
      same : (k t : ℕ) → k ≡ length seen → slice_get (seen ++ u ∷ []) k ≡ Some t → t ≡ u
      same k t e here = some_same t u (sym here ∙ (ap (slice_get (seen ++ u ∷ [])) e ∙ get_last seen u))

module _ (bucket : ℕ → ℕ) (n : Nodes) (on : ℕ → Bool) (rank : ℕ → ℕ) (chains : Chains bucket n on rank) where
  pub gathers_none : IsGathered bucket n on 0 []
  gathers_none = record {
    seen = [];
    are = record { pairs = refl; once = λ i j t a b. absurd (never i t a); in_chain = λ t here. absurd (never here.0 t here.1) };
    low = λ t here. absurd (never here.0 t here.1);
    all = λ t is low. absurd (omega (arith, low));
  }
    where
      never : (i t : ℕ) → slice_get [] i ≡ Some t → ⊥
      never i t e = cc

  -- a chain begins at its head
  pub gathering_begins : (i : ℕ) (items : List (ℕ × ℕ)) → IsGathered bucket n on i items → IsGathering bucket n on rank i (n.head i) 0 items
  gathering_begins i items so = record {
    seen = so.seen;
    are = so.are;
    many = omega arith;
    low = λ t here. inl (so.low t here);
    all = so.all;
    chain = λ t is same. by t is same (n.head i) refl;
    at = λ u leads. chains.head_on i u leads;
  }
    where
      by : (t : ℕ) → on t ≡ true → bucket (n.key t) ≡ i → (link : ℕ) → n.head i ≡ link → IsAmong bucket n on so.seen t ⊎ ((u : ℕ) × (link ≡ suc u) × (rank t ≤ rank u))
      by t is same zero e = absurd (chains.head_none i t e is same)
      by t is same (suc u) e = inr (u, refl, chains.head_top i u t e is same)

  module _ (i u made : ℕ) (items : List (ℕ × ℕ)) (so : IsGathering bucket n on rank i (suc u) made items) where
    is_on : on u ≡ true
    is_on = (so.at u refl).0

    is_here : bucket (n.key u) ≡ i
    is_here = (so.at u refl).1

    -- it wasn't seen before
    is_new : ((j : ℕ) × (slice_get so.seen j ≡ Some u)) → ⊥
    is_new here = ⊎_elim (λ low. omega (arith, low, is_here)) (λ later. let less = later.1 u refl in omega (arith, less)) (so.low u here)

    pub gathering_more : IsGathering bucket n on rank i (n.next u) (made + 1) (items ++ pair_of bucket n on u ∷ [])
    gathering_more = record {
      seen = so.seen ++ u ∷ [];
      are = record {
        pairs = ap (λ xs. xs ++ pair_of bucket n on u ∷ []) so.are.pairs ∙ sym (map_more (pair_of bucket n on) so.seen u);
        once = once_more so.seen u so.are.once is_new;
        in_chain = λ t here. ⊎_elim (λ before. so.are.in_chain t before) (λ same. ap on same ∙ is_on) (among_cases so.seen u t here);
      };
      many = let a = so.many in let b = length-append so.seen (u ∷ []) in omega (arith, a, b);
      low = λ t here. ⊎_elim (λ before. lower t before) (λ same. inr (ap (λ v. bucket (n.key v)) same ∙ is_here, λ v leads. let less = (chains.next_on u v is_on leads).2 in subst (λ s. rank v < rank s) (sym same) less))
          (among_cases so.seen u t here);
      all = λ t is low. among_more so.seen u t (so.all t is low);
      chain = λ t is same. ⊎_elim (λ before. inl (among_more so.seen u t before))
          (λ ahead. further t is same (subst (λ v. rank t ≤ rank v) (sym (suc_same u ahead.0 ahead.1)) ahead.2)) (so.chain t is same);
      at = λ v leads. let next = chains.next_on u v is_on leads in (next.0, next.1 ∙ is_here);
    }
      where
        suc_same : (a b : ℕ) → suc a ≡ suc b → a ≡ b
        suc_same a b e = omega (arith, e)

        lower : (t : ℕ) → (j : ℕ) × (slice_get so.seen j ≡ Some t) → (bucket (n.key t) < i) ⊎ ((bucket (n.key t) ≡ i) × ((v : ℕ) → n.next u ≡ suc v → rank v < rank t))
        lower t before = ⊎_elim (λ low. inl low)
            (λ later. inr (later.0, λ v leads. let less = (chains.next_on u v is_on leads).2 in let more = later.1 u refl in omega (arith, less, more))) (so.low t before)

        beside : (t : ℕ) → bucket (n.key t) ≡ i → bucket (n.key t) ≡ bucket (n.key u)
        beside t same = same ∙ sym is_here

        further : (t : ℕ) → on t ≡ true → bucket (n.key t) ≡ i → rank t ≤ rank u → IsAmong bucket n on (so.seen ++ u ∷ []) t ⊎ ((v : ℕ) × (n.next u ≡ suc v) × (rank t ≤ rank v))
        further t is same few = dite (ℕ_discrete (rank t) (rank u))
            (λ e. inl (subst (λ s. IsAmong bucket n on (so.seen ++ u ∷ []) s) (sym (chains.rank_once t u is is_on (beside t same) e)) (among_new so.seen u)))
            (λ ne. inr (by (n.next u) refl (omega (arith, few, ne))))
          where
            by : (link : ℕ) → n.next u ≡ link → rank t < rank u → (v : ℕ) × (link ≡ suc v) × (rank t ≤ rank v)
            by zero e less = absurd (let last = chains.next_none u t is_on e is (beside t same) in omega (arith, last, less))
            by (suc v) e less = (v, refl, chains.next_top u v t is_on e is (beside t same) less)

  -- at its end
  pub gathered_more : (i made : ℕ) (items : List (ℕ × ℕ)) → IsGathering bucket n on rank i 0 made items → IsGathered bucket n on (i + 1) items
  gathered_more i made items so = record {
    seen = so.seen;
    are = so.are;
    low = λ t here. ⊎_elim (λ low. omega (arith, low)) (λ same. let e = same.0 in omega (arith, e)) (so.low t here);
    all = λ t is low. dite (ℕ_discrete (bucket (n.key t)) i) (λ e. ⊎_elim (λ before. before) (λ ahead. absurd (no_link ahead.0 ahead.1)) (so.chain t is e))
        (λ ne. so.all t is (omega (arith, low, ne)));
  }
    where
      no_link : (u : ℕ) → 0 ≡ suc u → ⊥
      no_link u e = omega (arith, e)

  -- which comes after no more nodes than there are slots
  pub chain_ends : (slots i u made : ℕ) (items : List (ℕ × ℕ)) → ((t : ℕ) → on t ≡ true → t < slots) → IsGathering bucket n on rank i (suc u) made items → made < slots
  chain_ends slots i u made items within so =
      let few = few_different slots (so.seen ++ u ∷ []) (λ j t here. within t (⊎_elim (λ before. so.are.in_chain t before) (λ same. ap on same ∙ (so.at u refl).0) (among_cases so.seen u t (j, here))))
      (once_more so.seen u so.are.once (is_new i u made items so)) in
      let a = so.many in let b = length-append so.seen (u ∷ []) in omega (arith, few, a, b)
