-- A history leaves no more pairs than there are requests.
use Rattle.std.proofs.Common.{◌≡◌, ◌≢◌, ℕ, ◌+◌, ◌<◌, ◌≤◌, ◌==◌, Bool, true, false, List, [], ◌∷◌, length, map, refl, ◌∙◌, arith}
use Rattle.std.specs.Prelude.{◌||◌, Contains, reverse}
use Rattle.std.specs.List.{IsDistinct, list_any}
use Rattle.std.specs.Ordering.{nat_cmp}
use Rattle.std.specs.FinMap.{empty, len, len-empty}
use Rattle.std.proofs.lemmas.Bool.{ne_eqb}
use Rattle.std.proofs.lemmas.Bool.Decides.{nat_tests}
use Rattle.std.proofs.lemmas.List.{length-map, length-reverse}
use Rattle.std.proofs.lemmas.Map.Keys.{IsDistinct-from_apart}
use Rattle.std.proofs.lemmas.Map.Steps.{length-le_from_distinct_below}
use Rattle.history_orders.specs.map_history.specs.declared.op.Op.{Op}
use Rattle.history_orders.specs.map_history.specs.Replay.{Pairs, map_after, map_after_all}
use Rattle.history_orders.specs.map_history.proofs.Sizes.{len-map_after}
use Rattle.history_orders.specs.Stamped.{Stamped, answered_of, oldest_first, ops_of, IsHistoryOf}
use Rattle.history_orders.proofs.Entries.{contains_front, contains_behind}
use Rattle.run_reports.proofs.Elements.{pairs_mapped}
use Rattle.run_reports.proofs.Legality.{numbers_apart}

-- each operation adds a pair at the most
few_after : (pairs : Pairs) (ops : List Op) → len (map_after_all pairs ops) ≤ len pairs + length ops
few_after pairs [] = omega arith
few_after pairs (op ∷ ops) = let first = len-map_after pairs op in let rest = few_after (map_after pairs op) ops in omega (arith, first, rest)

-- an entry of a history for a number that is found among those of its entries
numbered_entry : (q : ℕ) (history : List Stamped) → list_any (λ n. q == n) (map (λ (e : Stamped). e.number) history) ≡ true
    → (e : Stamped) × Contains history e × (e.number ≡ q)
numbered_entry q [] found = absurd (cc)
numbered_entry q (e ∷ history) found = by (λ later. numbered_entry q history later) (q == e.number) refl found
  where
    by : (list_any (λ n. q == n) (map (λ (x : Stamped). x.number) history) ≡ true → (x : Stamped) × Contains history x × (x.number ≡ q))
        → (b : Bool) → (q == e.number) ≡ b → (b || list_any (λ n. q == n) (map (λ (x : Stamped). x.number) history)) ≡ true
        → (x : Stamped) × Contains (e ∷ history) x × (x.number ≡ q)
    by again true same found = (e, contains_front e e history refl, grind (arith, nat_tests))
    by again false same found = let there = again found in (there.0, contains_behind e there.0 history there.1, there.2)

few_entries : (op : ℕ → Op) (stamp : ℕ → ℕ) (history : List Stamped) (count : ℕ) → IsHistoryOf op stamp history → ((n : ℕ) → stamp n ≢ 0 → n < count)
    → length history ≤ count
few_entries op stamp history count of within = omega (arith, few, length-map history (λ (e : Stamped). e.number))
  where
    apart : IsDistinct (λ a b. a == b) (map (λ (e : Stamped). e.number) history)
    apart = IsDistinct-from_apart (λ a b. a == b) (map (λ (e : Stamped). e.number) history)
        (λ i j d before inside. ne_eqb _ _ (pairs_mapped (λ (e : Stamped). e.number) (λ a b. a ≢ b) history (numbers_apart op stamp history of) i j d before inside))

    few : length (map (λ (e : Stamped). e.number) history) ≤ count
    few = length-le_from_distinct_below (map (λ (e : Stamped). e.number) history) count apart
        (λ q found.
        let e = numbered_entry q history found in
        let there = within e.0.number (λ none. of.stamped e.0 e.1 (of.stamps e.0 e.1 ∙ none)) in
        omega (arith, there, e.2))

pub few_pairs : (op : ℕ → Op) (stamp : ℕ → ℕ) (history : List Stamped) (count : ℕ) → IsHistoryOf op stamp history → ((n : ℕ) → stamp n ≢ 0 → n < count)
    → len (map_after_all empty (ops_of history)) ≤ count
few_pairs op stamp history count of within =
    let pairs = few_after empty (ops_of history) in
    let none = len-empty nat_cmp ℕ in
    let asked = length-map (oldest_first history) (λ answered. answered.op) in
    let answered = length-map (reverse history) answered_of in
    let turned = length-reverse history in
    let few = few_entries op stamp history count of within in
    omega (arith, pairs, none, asked, answered, turned, few)
