-- A history of stamps that rise along the requests leaves what these leave in their order.
use Rattle.std.specs.Prelude.{Bool, Contains, slice_get}
use Rattle.std.proofs.Common.{◌≡◌, ◌≢◌, ℕ, zero, suc, ◌<◌, ◌≤◌, true, true≢false, List, [], ◌∷◌, Some, length, refl, sym, ap, ◌∙◌, ⊎_elim, subst, arith}
use Rattle.std.specs.FinMap.{empty}
use Rattle.std.proofs.lemmas.Bool.{cases_eq, cases_lt}
use Rattle.std.proofs.lemmas.List.Elements.{All-contains}
use Rattle.std.proofs.lemmas.Option.{slice_get-get_or}
use Rattle.history_orders.specs.map_history.specs.declared.op.Op.{Op}
use Rattle.history_orders.specs.map_history.specs.declared.op.Op.TheVariants.{Get}
use Rattle.history_orders.specs.map_history.specs.declared.op.Request.{Request}
use Rattle.history_orders.specs.map_history.specs.Replay.{Pairs, map_after}
use Rattle.history_orders.specs.Turns.{Follows}
use Rattle.history_orders.specs.Stamped.{Stamped, turn_of, is_earlier, IsInOrder, map_of, IsHistoryOf}
use Rattle.history_orders.proofs.Entries.{contains_cases, contains_front, contains_behind, contains_none, order_head, order_tail}
use Rattle.history_orders.proofs.Turns.{before_itself, before_turns, before_following}
use Rattle.map_sizes.specs.Sizes.{map_from, map_behind, HaveOps, HaveFirstStamps}

-- the map that the operations with the first numbers, so many, leave
abbrev map_to : (ℕ → Op) → ℕ → Pairs
map_to op zero = empty
map_to op (suc n) = map_after (map_to op n) (op n)

-- one request more
one_more : (pairs : Pairs) (requests : List Request) (n : ℕ) (request : Request) → slice_get requests n ≡ Some request
    → map_from pairs requests (suc n) ≡ map_after (map_from pairs requests n) request.op
one_more pairs [] n request at = absurd (let z = at in cc)
one_more pairs (first ∷ requests) zero request at = ap (λ (q : Request). map_after pairs q.op) same
  where
    same : first ≡ request
    same = let z = at in cc
one_more pairs (first ∷ requests) (suc n) request at = one_more (map_after pairs first.op) requests n request at

in_order : (op : ℕ → Op) (requests : List Request) → HaveOps op requests → (count : ℕ) → count ≤ length requests
    → map_to op count ≡ map_from empty requests count
in_order op requests ops zero few = refl
in_order op requests ops (suc n) few =
    let at = slice_get-get_or requests n (record { trace = 0; number = 0; op = Get 0 }) few in
    ap (λ pairs. map_after pairs (op n)) (in_order op requests ops n (omega (arith, few)))
    ∙ (ap (map_after (map_from empty requests n)) (ops n _ at) ∙ sym (one_more empty requests n _ at))

-- the entries are those of the first numbers, so many, each once
record AreFirst (op : ℕ → Op) (stamp : ℕ → ℕ) (count : ℕ) (history : List Stamped) : Type 0 where
  order : IsInOrder history
  within : (e : Stamped) → Contains history e → e.number < count
  stamps : (e : Stamped) → Contains history e → e.stamp ≡ stamp e.number
  ops : (e : Stamped) → Contains history e → e.op ≡ op e.number
  all : (n : ℕ) → n < count → (e : Stamped) × Contains history e × (e.number ≡ n)

module _ (op : ℕ → Op) (stamp : ℕ → ℕ) (n : ℕ) (rising : (i k : ℕ) → i < k → k < suc n → Follows (stamp i) (stamp k)) (e : Stamped) (history : List Stamped)
    (are : AreFirst op stamp (suc n) (e ∷ history)) where
  -- whatever stands behind the first entry comes before it
  earlier : (x : Stamped) → Contains history x → is_earlier x e ≡ true
  earlier x at = All-contains (λ y. is_earlier y e ≡ true) history x (order_head e history are.order) at

  -- the first entry is that of the last number
  last : e.number ≡ n
  last = ⊎_elim (λ same. ap (λ (x : Stamped). x.number) (sym same) ∙ of_last.2) (λ behind. ⊎_elim (λ is. is) (λ other. absurd (later other behind)) (cases_eq e.number n)) (contains_cases e of_last.0 history of_last.1)
    where
      of_last : (x : Stamped) × Contains (e ∷ history) x × (x.number ≡ n)
      of_last = are.all n (omega arith)

      later : e.number ≢ n → Contains history of_last.0 → ⊥
      later other behind =
          let low : e.number < n = let w = are.within e (contains_front e e history refl) in omega (arith, w, other) in
          let less : Follows e.stamp of_last.0.stamp = subst (λ k. Follows k of_last.0.stamp) (sym (are.stamps e (contains_front e e history refl)))
          (subst (λ k. Follows (stamp e.number) k) (sym (are.stamps of_last.0 of_last.1 ∙ ap stamp of_last.2)) (rising e.number n low (omega arith))) in
          let numbers : e.number < of_last.0.number = omega (arith, low, of_last.2) in
          true≢false (sym (before_following (turn_of e) (turn_of of_last.0) less numbers) ∙ before_turns (turn_of of_last.0) (turn_of e) (earlier of_last.0 behind))

  -- those behind it have other numbers
  other : (x : Stamped) → Contains history x → x.number ≢ n
  other x at is =
      let numbers : x.number ≡ e.number = is ∙ sym last in
      let stamps : x.stamp ≡ e.stamp = are.stamps x (contains_behind e x history at) ∙ ap stamp numbers ∙ sym (are.stamps e (contains_front e e history refl)) in
      true≢false (sym (earlier x at) ∙ (λ i. is_earlier_by (stamps i) (numbers i)) ∙ before_itself (turn_of e))
    where
      is_earlier_by : ℕ → ℕ → Bool
      is_earlier_by s k = is_earlier (record x { stamp = s; number = k }) e

  behind : AreFirst op stamp n history
  behind = record {
    order = order_tail e history are.order;
    within = λ x at. let w = are.within x (contains_behind e x history at) in let o = other x at in omega (arith, w, o);
    stamps = λ x at. are.stamps x (contains_behind e x history at);
    ops = λ x at. are.ops x (contains_behind e x history at);
    all = λ k low. let found = are.all k (omega (arith, low)) in
        (found.0, ⊎_elim (λ same. absurd (let z = ap (λ (x : Stamped). x.number) same in omega (arith, z, found.2, last, low))) (λ there. there) (contains_cases e found.0 history found.1), found.2);
  }

first_map : (op : ℕ → Op) (stamp : ℕ → ℕ) (count : ℕ) → ((i k : ℕ) → i < k → k < count → Follows (stamp i) (stamp k)) → (history : List Stamped)
    → AreFirst op stamp count history → map_of history ≡ map_to op count
first_map op stamp zero rising [] are = refl
first_map op stamp zero rising (e ∷ history) are = absurd (omega (arith, are.within e (contains_front e e history refl)))
first_map op stamp (suc n) rising [] are = let found = are.all n (omega arith) in absurd (contains_none found.0 found.1)
first_map op stamp (suc n) rising (e ∷ history) are =
    ap (λ pairs. map_after pairs e.op) (first_map op stamp n (λ i k less low. rising i k less (omega (arith, low))) history (behind op stamp n rising e history are))
    ∙ ap (map_after (map_to op n)) (are.ops e (contains_front e e history refl) ∙ ap op (last op stamp n rising e history are))

pub replayed : (op : ℕ → Op) (stamp : ℕ → ℕ) (requests : List Request) (count : ℕ) (history : List Stamped) → HaveOps op requests
    → HaveFirstStamps stamp requests count → IsHistoryOf op stamp history → map_of history ≡ map_behind requests count
replayed op stamp requests count history ops first of =
    first_map op stamp count first.rising history are ∙ in_order op requests ops count first.few
  where
    are : AreFirst op stamp count history
    are = record {
      order = of.order;
      within = λ e at. ⊎_elim (λ low. low) (λ high. absurd (of.stamped e at (of.stamps e at ∙ first.none e.number high))) (cases_lt e.number count);
      stamps = of.stamps;
      ops = of.ops;
      all = λ n low. of.all n (first.some n low);
    }
