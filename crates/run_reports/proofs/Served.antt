-- The served requests of a list with its entries.
use Rattle.std.proofs.Common.{◌≡◌, ℕ, zero, suc, ◌+◌, ◌<◌, ◌≤◌, List, [], ◌∷◌, Option, None, Some, sym, ap, ⊎_elim, arith}
use Rattle.std.specs.Prelude.{All, AllPairs, Contains, slice_get}
use Rattle.std.specs.List.{enumerate_from, filter_map, zip}
use Rattle.std.proofs.lemmas.List.Elements.{All-nil, All-cons, All-weaker}
use Rattle.std.proofs.lemmas.List.Kept.{AllPairs-cons}
use Rattle.history_orders.specs.map_history.specs.declared.op.Entry.{Entry}
use Rattle.history_orders.specs.map_history.specs.declared.op.Request.{Request}
use Rattle.history_orders.proofs.Entries.{contains_cases, contains_front, contains_behind, contains_none}
use Rattle.report_text.specs.Entries.{Entered, entered_of}

-- the served requests of these, which are numbered from one on
abbrev pub entered_from : ℕ → List Request → List (Option Entry) → List Entered
entered_from n requests entries = filter_map entered_of (enumerate_from n (zip requests entries))

-- it is that of one place
pub record IsEntered (n : ℕ) (requests : List Request) (entries : List (Option Entry)) (x : Entered) : Type 0 where
  pub place : ℕ
  pub number : x.number ≡ n + place
  pub request : slice_get requests place ≡ Some x.request
  pub entry : slice_get entries place ≡ Some (Some x.entry)

one_later : (n : ℕ) (q : Request) (first : Option Entry) (requests : List Request) (entries : List (Option Entry)) (x : Entered)
    → IsEntered (n + 1) requests entries x → IsEntered n (q ∷ requests) (first ∷ entries) x
one_later n q first requests entries x is = record { place = suc is.place; number = omega (arith, is.number); request = is.request; entry = is.entry }

-- each of them is that of a place
pub entered_are : (n : ℕ) (requests : List Request) (entries : List (Option Entry)) (x : Entered) → Contains (entered_from n requests entries) x
    → IsEntered n requests entries x
entered_are n [] entries x at = absurd (contains_none x at)
entered_are n (q ∷ requests) [] x at = absurd (contains_none x at)
entered_are n (q ∷ requests) (None ∷ entries) x at = one_later n q None requests entries x (entered_are (n + 1) requests entries x at)
entered_are n (q ∷ requests) (Some entry ∷ entries) x at =
    ⊎_elim
    (λ same. record {
      place = 0;
      number = omega (arith, ap (λ (y : Entered). y.number) same);
      request = ap (λ (y : Entered). Some y.request) (sym same);
      entry = ap (λ (y : Entered). Some (Some y.entry)) (sym same);
    })
    (λ behind. one_later n q (Some entry) requests entries x (entered_are (n + 1) requests entries x behind))
    (contains_cases (record { number = n; request = q; entry = entry }) x (entered_from (n + 1) requests entries) at)

-- and that of each place with an entry is among them
pub entered_has : (n k : ℕ) (requests : List Request) (entries : List (Option Entry)) (x : Entered) → x.number ≡ n + k
    → slice_get requests k ≡ Some x.request → slice_get entries k ≡ Some (Some x.entry) → Contains (entered_from n requests entries) x
entered_has n k [] entries x number request entry = absurd (cc)
entered_has n k (q ∷ requests) [] x number request entry = absurd (cc)
entered_has n zero (q ∷ requests) (None ∷ entries) x number request entry = absurd (cc)
entered_has n zero (q ∷ requests) (Some first ∷ entries) x number request entry =
    let same_number : x.number ≡ n = omega (arith, number) in
    let same_request : q ≡ x.request = cc in
    let same_entry : first ≡ x.entry = cc in
    contains_front (record { number = n; request = q; entry = first }) x (entered_from (n + 1) requests entries)
    (λ i. record { number = same_number i; request = sym same_request i; entry = sym same_entry i })
entered_has n (suc k) (q ∷ requests) (None ∷ entries) x number request entry = entered_has (n + 1) k requests entries x (omega (arith, number)) request entry
entered_has n (suc k) (q ∷ requests) (Some first ∷ entries) x number request entry =
    contains_behind (record { number = n; request = q; entry = first }) x (entered_from (n + 1) requests entries)
    (entered_has (n + 1) k requests entries x (omega (arith, number)) request entry)

-- their numbers rise
numbers_low : (n : ℕ) (requests : List Request) (entries : List (Option Entry)) → All (λ (x : Entered). n ≤ x.number) (entered_from n requests entries)
numbers_low n [] entries = All-nil (λ (x : Entered). n ≤ x.number)
numbers_low n (q ∷ requests) [] = All-nil (λ (x : Entered). n ≤ x.number)
numbers_low n (q ∷ requests) (None ∷ entries) =
    All-weaker (λ (x : Entered). n + 1 ≤ x.number) (λ (x : Entered). n ≤ x.number) (λ x low. omega arith) _ (numbers_low (n + 1) requests entries)
numbers_low n (q ∷ requests) (Some entry ∷ entries) =
    All-cons (λ (x : Entered). n ≤ x.number) _ _ (omega arith)
    (All-weaker (λ (x : Entered). n + 1 ≤ x.number) (λ (x : Entered). n ≤ x.number) (λ x low. omega arith) _ (numbers_low (n + 1) requests entries))

pub numbers_rise : (n : ℕ) (requests : List Request) (entries : List (Option Entry)) → AllPairs (λ (a b : Entered). a.number < b.number) (entered_from n requests entries)
numbers_rise n [] entries = λ i j d before within. absurd (omega arith)
numbers_rise n (q ∷ requests) [] = λ i j d before within. absurd (omega arith)
numbers_rise n (q ∷ requests) (None ∷ entries) = numbers_rise (n + 1) requests entries
numbers_rise n (q ∷ requests) (Some entry ∷ entries) =
    AllPairs-cons (λ (a b : Entered). a.number < b.number) (record { number = n; request = q; entry = entry }) (entered_from (n + 1) requests entries)
    (All-weaker (λ (x : Entered). n + 1 ≤ x.number) (λ (x : Entered). n < x.number) (λ x low. omega arith) _ (numbers_low (n + 1) requests entries))
    (numbers_rise (n + 1) requests entries)
