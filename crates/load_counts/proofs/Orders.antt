-- Two lists with the same elements in one order are one list.
use Rattle.std.proofs.Common.{◌≡◌, suc, Bool, true, false, cond, List, [], ◌∷◌, refl, sym, ap, ◌∙◌, subst, ⊎_elim, inl, inr, arith}
use Rattle.std.specs.Prelude.{◌⊎◌, AllPairs, Contains, filter}
use Rattle.run_reports.specs.history_orders.proofs.Entries.{contains_behind, contains_cases, contains_front, contains_none}

pairs_head : {X : Type 0} (R : X → X → Type 0) (x y : X) (xs : List X) → AllPairs R (x ∷ xs) → Contains xs y → R x y
pairs_head R x y xs pairs here = subst (R x) here.2 (pairs 0 (suc here.0) y (omega arith) (omega (arith, here.1)))

pairs_tail : {X : Type 0} (R : X → X → Type 0) (x : X) (xs : List X) → AllPairs R (x ∷ xs) → AllPairs R xs
pairs_tail R x xs pairs i j d before within = pairs (suc i) (suc j) d (omega arith) (omega arith)

module _ {X : Type 0} (R : X → X → Type 0) (never : (x y : X) → R x y → R y x → ⊥) where
  firsts : (x y : X) (xs ys : List X) → AllPairs R (x ∷ xs) → AllPairs R (y ∷ ys) → Contains (y ∷ ys) x → Contains (x ∷ xs) y → x ≡ y
  firsts x y xs ys order order' to from =
      ⊎_elim (λ same. same)
      (λ later. ⊎_elim (λ same. sym same) (λ later'. absurd (never x y (pairs_head R x y xs order later') (pairs_head R y x ys order' later)))
      (contains_cases x y xs from))
      (contains_cases y x ys to)

  rests : (x y : X) (xs ys : List X) → AllPairs R (x ∷ xs) → x ≡ y → ((z : X) → Contains (x ∷ xs) z → Contains (y ∷ ys) z) → (z : X) → Contains xs z → Contains ys z
  rests x y xs ys order same to z here =
      ⊎_elim
      (λ first. let before = subst (R x) (first ∙ sym same) (pairs_head R x z xs order here) in absurd (never x x before before))
      (λ later. later)
      (contains_cases y z ys (to z (contains_behind x z xs here)))

  pub one_order : (xs ys : List X) → AllPairs R xs → AllPairs R ys → ((z : X) → Contains xs z → Contains ys z) → ((z : X) → Contains ys z → Contains xs z) → xs ≡ ys
  one_order [] [] order order' to from = refl
  one_order [] (y ∷ ys) order order' to from = absurd (contains_none y (from y (contains_front y y ys refl)))
  one_order (x ∷ xs) [] order order' to from = absurd (contains_none x (to x (contains_front x x xs refl)))
  one_order (x ∷ xs) (y ∷ ys) order order' to from =
      let first = firsts x y xs ys order order' (to x (contains_front x x xs refl)) (from y (contains_front y y ys refl)) in
      let rest = one_order xs ys (pairs_tail R x xs order) (pairs_tail R y ys order') (rests x y xs ys order first to) (rests y x ys xs order' (sym first) from) in
      ap (λ z. z ∷ xs) first ∙ ap (λ zs. y ∷ zs) rest

-- the elements of a part
pub contains_part : {X : Type 0} (p : X → Bool) (x : X) (xs : List X) → Contains xs x → p x ≡ true → Contains (filter p xs) x
contains_part p x [] here passes = absurd (contains_none x here)
contains_part p x (y ∷ xs) here passes = by (contains_part p x xs) (p y) refl (contains_cases y x xs here)
  where
    by : (Contains xs x → p x ≡ true → Contains (filter p xs) x) → (b : Bool) → p y ≡ b → (x ≡ y) ⊎ Contains xs x → Contains (cond b (y ∷ filter p xs) (filter p xs)) x
    by again true is (inl same) = contains_front y x (filter p xs) same
    by again true is (inr later) = contains_behind y x (filter p xs) (again later passes)
    by again false is (inl same) = let no : true ≡ false = sym passes ∙ ap p same ∙ is in absurd (cc)
    by again false is (inr later) = again later passes

pub part_contains : {X : Type 0} (p : X → Bool) (x : X) (xs : List X) → Contains (filter p xs) x → Contains xs x × (p x ≡ true)
part_contains p x [] here = absurd (contains_none x here)
part_contains p x (y ∷ xs) here = by (part_contains p x xs) (p y) refl here
  where
    by : (Contains (filter p xs) x → Contains xs x × (p x ≡ true)) → (b : Bool) → p y ≡ b → Contains (cond b (y ∷ filter p xs) (filter p xs)) x → Contains (y ∷ xs) x × (p x ≡ true)
    by again true is here =
        ⊎_elim (λ same. (contains_front y x xs same, ap p same ∙ is)) (λ later. let rest = again later in (contains_behind y x xs rest.0, rest.1))
        (contains_cases y x (filter p xs) here)
    by again false is here = let rest = again here in (contains_behind y x xs rest.0, rest.1)
