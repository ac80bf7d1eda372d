-- What was gathered and sorted is the map's pairs, in order of key.
use Rattle.std.proofs.Common.{◌≡◌, ◌≢◌, ℕ, zero, suc, ◌<◌, ◌==◌, List, [], ◌∷◌, length, get_or, Bool, true, false, cond, refl, sym, ap, subst, ◌∙◌, arith, AllPairs, IsPermutation, Option, Some, None}
use Rattle.std.specs.Prelude.{slice_get, T}
use Rattle.std.specs.declared.cmp.Ordering.{Ordering}
use Rattle.std.specs.Ordering.{nat_cmp, ordering_then, is_lt, eq_by_cmp}
use Rattle.std.specs.List.{IsDistinct, Contains}
use Rattle.std.specs.List.Sorted.{IsSorted}
use Rattle.std.specs.FinMap.{get, entries, entries_sorted, get-entries, nat_cmp-IsAntisymmetric, find, is_sorted}
use Rattle.std.specs.FinMap.Entries.{below_all, same_entries}
use Rattle.std.proofs.lemmas.Bool.{ne_eqb, and_from}
use Rattle.std.proofs.lemmas.Bool.Decides.{nat_tests}
use Rattle.std.proofs.lemmas.Cmp.{nat_cmp_total, then_total, on_total}
use Rattle.std.proofs.lemmas.List.Sorted.{Contains-permutation, sorted_far, ranks_by}
use Rattle.std.proofs.lemmas.Map.Keys.{IsDistinct-IsPermutation, IsDistinct-from_apart, apart_from_distinct}
use Rattle.std.proofs.lemmas.Option.{slice_get_within, slice_get-get_or, get_or_from_slice_get, slice_get-map}
use Rattle.machine_states.specs.epoch_core.specs.small_lemmas.proofs.Numbers.{tested_equal as equal_of, tested_other as differ_of}
use Rattle.machine_states.specs.map_history.specs.Replay.{Pairs}
use Rattle.machine_states.proofs.Steps.{some_same}
use Rattle.bucket_walks.specs.bucket_laws.specs.Chain.{Nodes, Chains, Contents}
use Rattle.hash_table.specs.Gathered.{pair_of, IsGathered}

abbrev pub pair_cmp : ℕ × ℕ → ℕ × ℕ → Ordering
pair_cmp a b = ordering_then (nat_cmp a.0 b.0) (nat_cmp a.1 b.1)

below_apart : (a b : ℕ × ℕ) → is_lt (pair_cmp b a) ≡ false → (a.0 == b.0) ≡ false → a.0 < b.0
below_apart a b sorted apart = grind (arith, nat_tests)

-- a sorted list of pairs with different keys has rising keys
rises : (items : List (ℕ × ℕ)) → IsSorted pair_cmp items → IsDistinct (λ (a b : ℕ × ℕ). a.0 == b.0) items → AllPairs (λ (a b : ℕ × ℕ). a.0 < b.0) items
rises items sorted distinct = λ i j d before within.
    let total = then_total (on_total (λ (p : ℕ × ℕ). p.0) nat_cmp_total) (on_total (λ (p : ℕ × ℕ). p.1) nat_cmp_total) in
    below_apart (get_or items i d) (get_or items j d)
    (sorted_far (λ a b. is_lt (pair_cmp a b)) (ranks_by total (λ p. p)) items sorted i j d (omega (arith, before)) within)
    (apart_from_distinct (λ (a b : ℕ × ℕ). a.0 == b.0) items i j d distinct before within)

less : (a b : ℕ) → a < b → is_lt (nat_cmp a b) ≡ true
less a b low = grind (arith, nat_tests)

all_below : (x : ℕ) (items : List (ℕ × ℕ)) → ((i : ℕ) (d : ℕ × ℕ) → i < length items → x < (get_or items i d).0) → below_all nat_cmp x items ≡ true
all_below x [] low = refl
all_below x (item ∷ items) low = and_from (is_lt (nat_cmp x item.0)) (below_all nat_cmp x items) (less x item.0 (low 0 item (omega arith)))
    (all_below x items (λ i d within. low (suc i) d (omega (arith, within))))

in_order : (items : List (ℕ × ℕ)) → AllPairs (λ (a b : ℕ × ℕ). a.0 < b.0) items → is_sorted nat_cmp items ≡ true
in_order [] rise = refl
in_order (item ∷ items) rise = and_from (below_all nat_cmp item.0 items) (is_sorted nat_cmp items)
    (all_below item.0 items (λ i d within. rise 0 (suc i) d (omega arith) (omega (arith, within))))
    (in_order items (λ i j d before within. rise (suc i) (suc j) d (omega (arith, before)) (omega (arith, within))))

eq_cmp : (a b : ℕ) → eq_by_cmp nat_cmp a b ≡ (a == b)
eq_cmp a b = grind (arith, nat_tests)

-- what a look-up in a list finds stands there, and what it doesn't find stands nowhere
found_at : (q v : ℕ) (items : List (ℕ × ℕ)) → find nat_cmp q items ≡ Some v → (i : ℕ) × (slice_get items i ≡ Some (q, v))
found_at q v [] e = absurd (cc)
found_at q v (item ∷ items) e = by (λ later. found_at q v items later) (eq_by_cmp nat_cmp q item.0) (eq_cmp q item.0) e
  where
    by : (find nat_cmp q items ≡ Some v → (i : ℕ) × (slice_get items i ≡ Some (q, v))) → (c : Bool) → c ≡ (q == item.0) → cond c (Some item.1) (find nat_cmp q items) ≡ Some v
        → (i : ℕ) × (slice_get (item ∷ items) i ≡ Some (q, v))
    by again true same h = (0, ap Some (λ j. (sym (equal_of q item.0 (sym same)) j, some_same item.1 v h j)))
    by again false same h = let later = again h in (suc later.0, later.1)

found_nowhere : (q k v i : ℕ) (items : List (ℕ × ℕ)) → find nat_cmp q items ≡ None → slice_get items i ≡ Some (k, v) → k ≢ q
found_nowhere q k v i [] e here same = absurd (cc)
found_nowhere q k v i (item ∷ items) e here same = by (λ j none there. found_nowhere q k v j items none there same) (eq_by_cmp nat_cmp q item.0) (eq_cmp q item.0) e i here
  where
    none_some : None ≡ Some item.1 → ⊥
    none_some h = cc

    by : ((j : ℕ) → find nat_cmp q items ≡ None → slice_get items j ≡ Some (k, v) → ⊥) → (c : Bool) → c ≡ (q == item.0) → cond c (Some item.1) (find nat_cmp q items) ≡ None → (i : ℕ)
        → slice_get (item ∷ items) i ≡ Some (k, v) → ⊥
    by again true eq h i here = none_some (sym h)
    by again false eq h zero here = differ_of q item.0 (sym eq) (sym same ∙ sym (ap (λ (x : ℕ × ℕ). x.0) (some_same item (k, v) here)))
    by again false eq h (suc i) here = again i h here

contained : (items : List (ℕ × ℕ)) (x : ℕ × ℕ) → (i : ℕ) × (slice_get items i ≡ Some x) → Contains items x
contained items x here = (here.0, slice_get_within items here.0 x here.1, get_or_from_slice_get items here.0 x x here.1)

stands_at : (items : List (ℕ × ℕ)) (x : ℕ × ℕ) → Contains items x → (i : ℕ) × (slice_get items i ≡ Some x)
stands_at items x there = (there.0, slice_get-get_or items there.0 x there.1 ∙ ap Some there.2)

module _ (bucket : ℕ → ℕ) (buckets : ℕ) (small : (key : ℕ) → bucket key < buckets) (n : Nodes) (on : ℕ → Bool) (rank : ℕ → ℕ) (chains : Chains bucket n on rank) (pairs : Pairs)
    (contents : Contents n on (get pairs)) (items : List (ℕ × ℕ)) (so : IsGathered bucket n on buckets items) where
  pair_at : (i t : ℕ) → slice_get so.seen i ≡ Some t → slice_get items i ≡ Some (pair_of bucket n on t)
  pair_at i t here = ap (λ xs. slice_get xs i) so.are.pairs ∙ (slice_get-map (pair_of bucket n on) so.seen i ∙ ap mapped here)
    where
      mapped : Option ℕ → Option (ℕ × ℕ)
      mapped None = None
      mapped (Some s) = Some (pair_of bucket n on s)

  seen_at : (i : ℕ) (x : ℕ × ℕ) → slice_get items i ≡ Some x → (t : ℕ) × (slice_get so.seen i ≡ Some t) × (x ≡ pair_of bucket n on t)
  seen_at i x here = by (slice_get so.seen i) refl
    where
      none_some : None ≡ Some x → ⊥
      none_some e = cc

      mapped : Option ℕ → Option (ℕ × ℕ)
      mapped None = None
      mapped (Some s) = Some (pair_of bucket n on s)

      by : (o : Option ℕ) → slice_get so.seen i ≡ o → (t : ℕ) × (o ≡ Some t) × (x ≡ pair_of bucket n on t)
      by None e = absurd (none_some (sym (ap (λ xs. slice_get xs i) so.are.pairs ∙ (slice_get-map (pair_of bucket n on) so.seen i ∙ ap mapped e)) ∙ here))
      by (Some t) e = (t, refl, some_same x (pair_of bucket n on t) (sym here ∙ pair_at i t e))

  distinct : IsDistinct (λ (a b : ℕ × ℕ). a.0 == b.0) items
  distinct = IsDistinct-from_apart (λ (a b : ℕ × ℕ). a.0 == b.0) items apart
    where
      apart : (i j : ℕ) (d : ℕ × ℕ) → i < j → j < length items → ((get_or items i d).0 == (get_or items j d).0) ≡ false
      apart i j d before within =
          let first = seen_at i (get_or items i d) (slice_get-get_or items i d (omega (arith, before, within))) in
          let second = seen_at j (get_or items j d) (slice_get-get_or items j d within) in
          ne_eqb (get_or items i d).0 (get_or items j d).0 (λ same.
          let keys : n.key first.0 ≡ n.key second.0 = sym (ap (λ (x : ℕ × ℕ). x.0) first.2) ∙ (same ∙ ap (λ (x : ℕ × ℕ). x.0) second.2) in
          let slots = chains.key_once first.0 second.0 (so.are.in_chain first.0 (i, first.1)) (so.are.in_chain second.0 (j, second.1)) keys in
          let places = so.are.once i j first.0 first.1 (second.1 ∙ ap Some (sym slots)) in omega (arith, places, before))

  module _ (sorted : List (ℕ × ℕ)) (same : IsPermutation items sorted) (order : IsSorted pair_cmp sorted) (same' : IsPermutation sorted items) where
    rising : is_sorted nat_cmp sorted ≡ true
    rising = in_order sorted (rises sorted order (IsDistinct-IsPermutation (λ (a b : ℕ × ℕ). a.0 == b.0) (λ a b. flips a.0 b.0) items sorted same distinct))
      where
        flips : (a b : ℕ) → (a == b) ≡ (b == a)
        flips a b = grind (arith, nat_tests)

    finds : (q : ℕ) → find nat_cmp q sorted ≡ get pairs q
    finds q = by (find nat_cmp q sorted) refl
      where
        by : (o : Option ℕ) → find nat_cmp q sorted ≡ o → o ≡ get pairs q
        by (Some v) e =
            let here = stands_at items (q, v) (Contains-permutation sorted items (q, v) same' (contained sorted (q, v) (found_at q v sorted e))) in
            let t = seen_at here.0 (q, v) here.1 in
            sym (ap (get pairs) (ap (λ (x : ℕ × ℕ). x.0) t.2) ∙ (contents.pair t.0 (so.are.in_chain t.0 (here.0, t.1)) ∙ ap Some (sym (ap (λ (x : ℕ × ℕ). x.1) t.2))))
        by None e = none_too (get pairs q) refl
          where
            none_too : (o : Option ℕ) → get pairs q ≡ o → None ≡ o
            none_too None h = refl
            none_too (Some v) h =
                let t = contents.slot q v h in
                let seen = so.all t.0 t.1 (small (n.key t.0)) in
                let there = stands_at sorted (pair_of bucket n on t.0) (Contains-permutation items sorted (pair_of bucket n on t.0) same (contained items (pair_of bucket n on t.0) (seen.0, pair_at seen.0 t.0 seen.1))) in
                absurd (found_nowhere q (n.key t.0) (n.value t.0) there.0 sorted e there.1 t.2)

    pub are_entries : sorted ≡ entries pairs
    are_entries = same_entries nat_cmp nat_cmp_total nat_cmp-IsAntisymmetric sorted (entries pairs) (subst T (sym rising) tt) (entries_sorted pairs) (λ q. finds q ∙ get-entries pairs q)
