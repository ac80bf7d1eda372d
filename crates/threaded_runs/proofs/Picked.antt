-- The elements of a list that pass a test, by their places.
use Rattle.std.specs.Prelude.{Bool, true, false, cond, count_by, slice_get}
use Rattle.std.specs.List.{filter}
use Rattle.std.proofs.Common.{◌≡◌, ℕ, zero, suc, ◌+◌, ◌<◌, ◌≤◌, List, [], ◌∷◌, ◌++◌, length, take, get_or, refl, sym, ap, ◌∙◌, subst, arith, Some}
use Rattle.std.proofs.lemmas.List.Elements.{filter-append}
use Rattle.std.proofs.lemmas.List.Sums.{sum_by-cons}
use Rattle.std.proofs.lemmas.List.{take_more}
use Rattle.machine_states.specs.epoch_core.specs.small_lemmas.proofs.Numbers.{one_at_most}
use Rattle.machine_states.proofs.Steps.{some_same}
use Rattle.machine_states.proofs.Sights.{some_none}

module _ {A : Type 0} (test : A → Bool) where
  -- how many elements before this place pass
  abbrev pub count_before : List A → ℕ → ℕ
  count_before xs k = length (filter test (take k xs))

  -- the element at this place of those that pass: where it stands in the whole list
  pub record IsPicked (xs : List A) (i : ℕ) (x : A) : Type 0 where
    pub at : ℕ
    pub here : slice_get xs at ≡ Some x
    pub passes : test x ≡ true
    pub index : count_before xs at ≡ i

  module _ (y : A) (xs : List A) (picked : (i : ℕ) (x : A) → slice_get (filter test xs) i ≡ Some x → IsPicked xs i x) where
    picked_behind : (i : ℕ) (x : A) → test y ≡ false → slice_get (filter test xs) i ≡ Some x → IsPicked (y ∷ xs) i x
    picked_behind i x fails e = let p = picked i x e in record {
      at = suc p.at;
      here = p.here;
      passes = p.passes;
      index = ap (λ b. length (cond b (y ∷ filter test (take p.at xs)) (filter test (take p.at xs)))) fails ∙ p.index;
    }

    picked_here : (i : ℕ) (x : A) → test y ≡ true → slice_get (y ∷ filter test xs) i ≡ Some x → IsPicked (y ∷ xs) i x
    picked_here zero x here e = record { at = zero; here = e; passes = subst (λ z. test z ≡ true) (some_same y x e) here; index = refl }
    picked_here (suc i) x here e = let p = picked i x e in record {
      at = suc p.at;
      here = p.here;
      passes = p.passes;
      index = ap (λ b. length (cond b (y ∷ filter test (take p.at xs)) (filter test (take p.at xs)))) here ∙ ap suc p.index;
    }

    picked_by : (b : Bool) (i : ℕ) (x : A) → test y ≡ b → slice_get (cond b (y ∷ filter test xs) (filter test xs)) i ≡ Some x → IsPicked (y ∷ xs) i x
    picked_by true i x here e = picked_here i x here e
    picked_by false i x fails e = picked_behind i x fails e

  pub picked : (xs : List A) (i : ℕ) (x : A) → slice_get (filter test xs) i ≡ Some x → IsPicked xs i x
  picked [] i x e = some_none x e
  picked (y ∷ xs) i x e = picked_by y xs (picked xs) (test y) i x refl e

  module _ (y x : A) (xs : List A) (k : ℕ) where
    kept_by : (b : Bool) → test y ≡ b → slice_get (filter test xs) (count_before xs k) ≡ Some x
        → slice_get (cond b (y ∷ filter test xs) (filter test xs)) (length (cond b (y ∷ filter test (take k xs)) (filter test (take k xs)))) ≡ Some x
    kept_by true here e = e
    kept_by false fails e = e

  -- an element that passes stands among those that pass
  pub kept : (xs : List A) (k : ℕ) (x : A) → slice_get xs k ≡ Some x → test x ≡ true → slice_get (filter test xs) (count_before xs k) ≡ Some x
  kept [] k x e here = some_none x e
  kept (y ∷ xs) zero x e here = ap (λ b. slice_get (cond b (y ∷ filter test xs) (filter test xs)) zero) (subst (λ z. test z ≡ true) (sym (some_same y x e)) here) ∙ e
  kept (y ∷ xs) (suc k) x e here = kept_by y x xs k (test y) refl (kept xs k x e here)

  module _ (y : A) (xs : List A) (j k : ℕ) where
    below_by : (b : Bool) → count_before xs j < count_before xs k
        → length (cond b (y ∷ filter test (take j xs)) (filter test (take j xs))) < length (cond b (y ∷ filter test (take k xs)) (filter test (take k xs)))
    below_by true few = omega (arith, few)
    below_by false few = few

  -- of two of them the earlier one comes earlier there
  pub before : (xs : List A) (j k : ℕ) (x : A) → slice_get xs j ≡ Some x → test x ≡ true → j < k → count_before xs j < count_before xs k
  before [] j k x e here low = some_none x e
  before (y ∷ xs) j zero x e here low = absurd (omega (arith, low))
  before (y ∷ xs) zero (suc k) x e here low =
      subst (λ b. 0 < length (cond b (y ∷ filter test (take k xs)) (filter test (take k xs)))) (sym (subst (λ z. test z ≡ true) (sym (some_same y x e)) here)) (let n : ℕ = length (filter test (take k xs)) in omega arith)
  before (y ∷ xs) (suc j) (suc k) x e here low = below_by y xs j k (test y) (before xs j k x e here (omega (arith, low)))

  -- those that pass among one more
  pub one_more : (xs : List A) (k : ℕ) (d : A) → k < length xs → filter test (take (k + 1) xs) ≡ filter test (take k xs) ++ cond (test (get_or xs k d)) (get_or xs k d ∷ []) []
  one_more xs k d low = ap (filter test) (take_more xs k d low) ∙ filter-append test (take k xs) (get_or xs k d ∷ [])

  -- where the first elements, so many, pass, so many do at least
  pub front_passes : (xs : List A) (n : ℕ) → n ≤ length xs → ((i : ℕ) (x : A) → i < n → slice_get xs i ≡ Some x → test x ≡ true) → n ≤ count_by test xs
  front_passes xs zero few all = omega arith
  front_passes [] (suc n) few all = absurd (omega (arith, few))
  front_passes (x ∷ xs) (suc n) few all =
      let first : count_by test (x ∷ xs) ≡ cond (test x) 1 0 + count_by test xs = sum_by-cons (λ (y : A). cond (test y) 1 0) x xs in
      let passes : ◌≡◌ {A = ℕ} (cond (test x) 1 0) 1 = ap (λ (b : Bool). cond b 1 0) (all 0 x (omega arith) refl) in
      let rest : n ≤ count_by test xs = front_passes xs n (omega (arith, few)) (λ i y low at. all (suc i) y (omega (arith, low)) at) in
      omega (arith, first, passes, rest)

  -- and where only these do, so many do at most
  pub front_only : (xs : List A) (n : ℕ) → ((i : ℕ) (x : A) → n ≤ i → slice_get xs i ≡ Some x → test x ≡ false) → count_by test xs ≤ n
  front_only [] n none = omega arith
  front_only (x ∷ xs) zero none =
      let first : count_by test (x ∷ xs) ≡ cond (test x) 1 0 + count_by test xs = sum_by-cons (λ (y : A). cond (test y) 1 0) x xs in
      let fails : ◌≡◌ {A = ℕ} (cond (test x) 1 0) 0 = ap (λ (b : Bool). cond b 1 0) (none 0 x (omega arith) refl) in
      let rest : count_by test xs ≤ 0 = front_only xs zero (λ i y past at. none (suc i) y (omega arith) at) in
      omega (arith, first, fails, rest)
  front_only (x ∷ xs) (suc n) none =
      let first : count_by test (x ∷ xs) ≡ cond (test x) 1 0 + count_by test xs = sum_by-cons (λ (y : A). cond (test y) 1 0) x xs in
      let one = one_at_most (test x) in
      let rest : count_by test xs ≤ n = front_only xs n (λ i y past at. none (suc i) y (omega (arith, past)) at) in
      omega (arith, first, one, rest)
