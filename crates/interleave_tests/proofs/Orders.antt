-- Requests that are in order, by tests that compute.
use Rattle.std.proofs.Common.{◌≡◌, ℕ, zero, suc, ◌<◌, ◌≤◌, Bool, true, List, [], ◌∷◌, length, subst, arith}
use Rattle.std.specs.Prelude.{◌&&◌, nat_lt, nat_le, slice_index_or, map}
use Rattle.std.specs.List.{list_all, range_with_len}
use Rattle.std.proofs.lemmas.Bool.{and_parts}
use Rattle.machine_states.specs.epoch_core.specs.small_lemmas.proofs.Numbers.{tested_less as below, tested_most as most}
use Rattle.machine_states.specs.map_history.specs.declared.op.Request.{Request}
use Rattle.machine_states.specs.map_history.specs.Keys.{key_of, is_format_1}
use Rattle.machine_states.specs.map_history.proofs.Cells.{format_1_one_keyed, key_is}
use Rattle.machine_states.specs.map_history.specs.Requests.{AreInOrder}

-- a test passes at each place
all_of : (p : Request → Bool) (xs : List Request) → list_all p xs ≡ true → (k : ℕ) (d : Request) → k < length xs → p (slice_index_or xs k d) ≡ true
all_of p [] e k d low = absurd (omega arith)
all_of p (x ∷ xs) e zero d low = (and_parts (p x) (list_all p xs) e).0
all_of p (x ∷ xs) e (suc k) d low = all_of p xs (and_parts (p x) (list_all p xs) e).1 k d (omega arith)

-- no trace is above a later one
abbrev pub never_fall : List Request → Bool
never_fall [] = true
never_fall (x ∷ xs) = list_all (λ y. nat_le x.trace y.trace) xs && never_fall xs

rising_of : (xs : List Request) → never_fall xs ≡ true → (i j : ℕ) (d : Request) → i ≤ j → j < length xs → (slice_index_or xs i d).trace ≤ (slice_index_or xs j d).trace
rising_of [] e i j d le low = absurd (omega arith)
rising_of (x ∷ xs) e zero zero d le low = omega arith
rising_of (x ∷ xs) e zero (suc j) d le low = most x.trace (slice_index_or xs j d).trace (all_of (λ y. nat_le x.trace y.trace) xs (and_parts _ (never_fall xs) e).0 j d (omega arith))
rising_of (x ∷ xs) e (suc i) zero d le low = absurd (omega arith)
rising_of (x ∷ xs) e (suc i) (suc j) d le low = rising_of xs (and_parts _ (never_fall xs) e).1 i j d (omega arith) (omega arith)

pub in_order : (xs : List Request) → length xs ≤ 131072 → map (λ (q : Request). q.number) xs ≡ range_with_len 0 (length xs) → list_all (λ q. nat_lt q.trace 64) xs ≡ true
    → never_fall xs ≡ true → list_all (λ q. nat_le (key_of q.op) 4294967293) xs ≡ true → list_all (λ q. is_format_1 q.op) xs ≡ true → AreInOrder xs 64
in_order xs few numbered traces rising keys formats = record {
  few_traces = omega arith;
  few = few;
  numbered = numbered;
  within = λ k d low. below (slice_index_or xs k d).trace 64 (all_of (λ q. nat_lt q.trace 64) xs traces k d low);
  rising = rising_of xs rising;
  keys = λ k d low key on.
      subst (λ n. n ≤ 4294967293) (key_is (slice_index_or xs k d).op key (format_1_one_keyed (slice_index_or xs k d).op (all_of (λ q. is_format_1 q.op) xs formats k d low)) on)
      (most (key_of (slice_index_or xs k d).op) 4294967293 (all_of (λ q. nat_le (key_of q.op) 4294967293) xs keys k d low));
}
