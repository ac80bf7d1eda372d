-- Entries of the keeper's record, and lists of different numbers.
use Rattle.std.specs.Prelude.{◌==◌, ◌||◌, not, slice_get, Bool, true, false, if◌then◌else◌}
use Rattle.std.specs.List.{filter}
use Rattle.std.proofs.Common.{◌≡◌, ◌≢◌, ℕ, zero, suc, ◌<◌, ◌≤◌, List, [], ◌∷◌, ◌++◌, length, refl, sym, ap, ◌∙◌, subst, inl, inr, ⊎_elim, arith, Option, Some, None}
use Rattle.std.specs.Prelude.{◌⊎◌}
use Rattle.std.proofs.lemmas.Bool.{cases_eq}
use Rattle.std.proofs.lemmas.Bool.Decides.{nat_tests}
use Rattle.std.proofs.lemmas.Option.{none-some}
use Rattle.machine_states.specs.table_words.specs.declared.spot.Spot.{Spot}
use Rattle.machine_states.specs.table_words.specs.declared.spot.Spot.TheVariants.{Cell}
use Rattle.machine_states.specs.runner_parts.specs.declared.entries.Left.{Left}
use Rattle.machine_states.specs.runner_parts.specs.Tests.{has}
use Rattle.runner_facts.specs.machine_facts.specs.machine_agreement.proofs.Releases.{get_more}
use Rattle.runner_facts.specs.Keeper.{IsLastLeft}
use Rattle.keeper_facts.specs.Freed.{HasLeft, AreApart}

get_kept : {A : Type 0} (xs ys : List A) (y : A) (i : ℕ) → slice_get xs i ≡ Some y → slice_get (xs ++ ys) i ≡ Some y
get_kept [] ys y i e = absurd (let z = e in cc)
get_kept (x ∷ xs) ys y zero e = e
get_kept (x ∷ xs) ys y (suc i) e = get_kept xs ys y i e

-- what is in the record stays in it while it grows
pub left_on : (left more : List Left) (place number : ℕ) → HasLeft left place number → HasLeft (left ++ more) place number
left_on left more place number old = record {
  at = old.at;
  entry = old.entry;
  here = get_kept left more old.entry old.at old.here;
  spot = old.spot;
  number_is = old.number_is;
}

-- what is in it with one entry more was in it, or is that entry
pub left_split : (left : List Left) (x : Left) (place number : ℕ) → HasLeft (left ++ x ∷ []) place number
    → HasLeft left place number ⊎ ((x.spot ≡ Cell place) × (x.number ≡ number))
left_split left x place number is = ⊎_elim
    (λ before. inl (record { at = is.at; entry = is.entry; here = before.1; spot = is.spot; number_is = is.number_is }))
    (λ now. inr (ap (λ (y : Left). y.spot) now.1 ∙ is.spot, ap (λ (y : Left). y.number) now.1 ∙ is.number_is))
    (get_more left x is.entry is.at is.here)

is_cell : (a : Spot) (place : ℕ) → (a ≡ Cell place) ⊎ (a ≢ Cell place)
is_cell (Cell i) place = ⊎_elim (λ same. inl (ap (λ n. Cell n) same)) (λ ne. inr (λ e. ne (let z : i ≡ place = cc in z))) (cases_eq i place)
is_cell _ place = inr (λ e. let z = e in cc)

-- the last entry for this cell, if there is one
record HasLast (left : List Left) (place : ℕ) : Type 0 where
  pub entry : Left
  pub last : IsLastLeft left entry
  pub spot : entry.spot ≡ Cell place

abbrev HasNone : List Left → ℕ → Type 0
HasNone left place = (i : ℕ) (x : Left) → slice_get left i ≡ Some x → x.spot ≢ Cell place

find_last : (left : List Left) (place : ℕ) → HasLast left place ⊎ HasNone left place
find_last [] place = inr (λ i x e. absurd (let z = e in cc))
find_last (x ∷ left) place = ⊎_elim
    (λ found. inl (record { entry = found.entry; last = one_more found.entry found.last; spot = found.spot }))
    (λ none. ⊎_elim
    (λ is. inl (record { entry = x; last = record { at = 0; here = refl; last = first none is }; spot = is }))
    (λ ne. inr (neither none ne))
    (is_cell x.spot place))
    (find_last left place)
  where
    one_more : (y : Left) → IsLastLeft left y → IsLastLeft (x ∷ left) y
    one_more y last = record { at = suc last.at; here = last.here; last = later }
      where
        later : (i : ℕ) (z : Left) → suc last.at < i → slice_get (x ∷ left) i ≡ Some z → z.spot ≢ y.spot
        later zero z low e = absurd (omega (arith, low))
        later (suc i) z low e = last.last i z (omega (arith, low)) e

    first : HasNone left place → x.spot ≡ Cell place → (i : ℕ) (z : Left) → 0 < i → slice_get (x ∷ left) i ≡ Some z → z.spot ≢ x.spot
    first none is zero z low e = absurd (omega (arith, low))
    first none is (suc i) z low e = λ same. none i z e (same ∙ is)

    neither : HasNone left place → x.spot ≢ Cell place → (i : ℕ) (z : Left) → slice_get (x ∷ left) i ≡ Some z → z.spot ≢ Cell place
    neither none ne zero z e = λ same. ne (ap (λ (y : Left). y.spot) (let s : x ≡ z = cc in s) ∙ same)
    neither none ne (suc i) z e = none i z e

pub record StandsLast (left : List Left) (place word : ℕ) : Type 0 where
  pub number : ℕ
  pub has : HasLeft left place number
  pub is : word ≡ number

-- where the last entries stand, the last one for a cell that has some is its word
pub last_stands : (word : Spot → ℕ) (left : List Left) → ((x : Left) → IsLastLeft left x → word x.spot ≡ x.number) → (place number : ℕ)
    → HasLeft left place number → StandsLast left place (word (Cell place))
last_stands word left stands place number old = ⊎_elim
    (λ (found : HasLast left place). record {
      number = found.entry.number;
      has = record { at = found.last.at; entry = found.entry; here = found.last.here; spot = found.spot; number_is = refl };
      is = ap word (sym found.spot) ∙ stands found.entry found.last;
    })
    (λ none. absurd (none old.at old.entry old.here old.spot))
    (find_last left place)

-- a list of different numbers, without one of them
abbrev remove : ℕ → List ℕ → List ℕ
remove d ds = filter (λ e. not (e == d)) ds

one_less : (d : ℕ) (ds : List ℕ) → has ds d ≡ false → length (remove d ds) ≡ length ds
one_less d [] none = refl
one_less d (e ∷ ds) none = by (e == d) refl none (one_less d ds)
  where
    by : (b : Bool) → (e == d) ≡ b → (b || has ds d) ≡ false → (has ds d ≡ false → length (remove d ds) ≡ length ds)
        → length (if not b then e ∷ remove d ds else remove d ds) ≡ suc (length ds)
    by true is none rest = absurd (let z = none in cc)
    by false is none rest = ap suc (rest none)

removed_length : (d : ℕ) (ds : List ℕ) → AreApart ds → length ds ≤ suc (length (remove d ds))
removed_length d [] apart = omega arith
removed_length d (e ∷ ds) apart = by (e == d) refl (removed_length d ds apart.1)
  where
    equal : (a b : ℕ) → (a == b) ≡ true → a ≡ b
    equal a b e = grind (arith, nat_tests)

    by : (b : Bool) → (e == d) ≡ b → length ds ≤ suc (length (remove d ds)) → suc (length ds) ≤ suc (length (if not b then e ∷ remove d ds else remove d ds))
    by true is rest = let same = one_less d ds (subst (λ n. has ds n ≡ false) (equal e d is) apart.0) in omega (arith, same)
    by false is rest = omega (arith, rest)

-- what the shorter list has, the longer one has, and it isn't the removed number
removed_has : (d : ℕ) (ds : List ℕ) (x : ℕ) → has (remove d ds) x ≡ true → (has ds x ≡ true) × (x ≢ d)
removed_has d [] x e = absurd (let z = e in cc)
removed_has d (e ∷ ds) x h = by (e == d) refl h (removed_has d ds x)
  where
    other : (a b : ℕ) → (a == b) ≡ false → a ≢ b
    other a b e = grind (arith, nat_tests)

    same_of : (a b : ℕ) → (a == b) ≡ true → b ≡ a
    same_of a b e = grind (arith, nat_tests)

    or_right : (a b : Bool) → b ≡ true → (a || b) ≡ true
    or_right true b e = refl
    or_right false b e = e

    either : (e == d) ≡ false → (has (remove d ds) x ≡ true → (has ds x ≡ true) × (x ≢ d)) → (c : Bool) → (e == x) ≡ c → (c || has (remove d ds) x) ≡ true
        → ((c || has ds x) ≡ true) × (x ≢ d)
    either is rest true same h = (refl, subst (λ n. n ≢ d) (sym (same_of e x same)) (other e d is))
    either is rest false same h = rest h

    by : (b : Bool) → (e == d) ≡ b → has (if not b then e ∷ remove d ds else remove d ds) x ≡ true
        → (has (remove d ds) x ≡ true → (has ds x ≡ true) × (x ≢ d)) → ((e == x) || has ds x ≡ true) × (x ≢ d)
    by true is h rest = let old = rest h in (or_right (e == x) (has ds x) old.0, old.1)
    by false is h rest = either is rest (e == x) refl h

removed_apart : (d : ℕ) (ds : List ℕ) → AreApart ds → AreApart (remove d ds)
removed_apart d [] apart = tt
removed_apart d (e ∷ ds) apart = by (not (e == d)) (removed_apart d ds apart.1)
  where
    none : (b : Bool) → has (remove d ds) e ≡ b → b ≡ false
    none true h = let z = sym (removed_has d ds e h).0 ∙ apart.0 in absurd (cc)
    none false h = refl

    by : (b : Bool) → AreApart (remove d ds) → AreApart (if b then e ∷ remove d ds else remove d ds)
    by true rest = (none (has (remove d ds) e) refl, rest)
    by false rest = rest

-- each of the numbers is what one of the first keys gives
abbrev Given : (ℕ → Option ℕ) → ℕ → List ℕ → Type 0
Given f n ds = (d : ℕ) → has ds d ≡ true → (r : ℕ) × (r < n) × (f r ≡ Some d)

none_given : (f : ℕ → Option ℕ) (ds : List ℕ) → Given f 0 ds → length ds ≤ 0
none_given f [] given = omega arith
none_given f (d ∷ ds) given = let first = given d (head d) in let low = first.1 in absurd (omega (arith, low))
  where
    head : (n : ℕ) → ((n == n) || has ds n) ≡ true
    head n = grind (arith, nat_tests)

-- so different numbers are no more than the keys
pub few_given : (f : ℕ → Option ℕ) (n : ℕ) (ds : List ℕ) → AreApart ds → ((d : ℕ) → has ds d ≡ true → (r : ℕ) × (r < n) × (f r ≡ Some d)) → length ds ≤ n
few_given f zero ds apart given = none_given f ds given
few_given f (suc n) ds apart given = by (f n) refl (few_given f n)
  where
    lower : (r : ℕ) → r < suc n → r ≢ n → r < n
    lower r low ne = grind arith

    some_same : (a b : ℕ) → Some a ≡ Some b → a ≡ b
    some_same a b e = grind arith

    by : (o : Option ℕ) → f n ≡ o → ((es : List ℕ) → AreApart es → ((d : ℕ) → has es d ≡ true → (r : ℕ) × (r < n) × (f r ≡ Some d)) → length es ≤ n) → length ds ≤ suc n
    by None is fewer = let rest = fewer ds apart (λ d h. let g = given d h in
        (g.0, lower g.0 g.1 (λ same. none-some d (sym is ∙ ap f (sym same) ∙ g.2)), g.2)) in omega (arith, rest)
    by (Some e) is fewer =
        let rest = fewer (remove e ds) (removed_apart e ds apart) (λ d h.
        let before = removed_has e ds d h in
        let g = given d before.0 in
        (g.0, lower g.0 g.1 (λ same. before.1 (some_same d e (sym g.2 ∙ ap f same ∙ is))), g.2)) in
        let long = removed_length e ds apart in omega (arith, rest, long)
