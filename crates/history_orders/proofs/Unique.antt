-- Two histories of one list of requests and stamp words are one.
use Rattle.std.proofs.Common.{◌≡◌, ℕ, true, true≢false, List, [], ◌∷◌, refl, sym, ap, ◌∙◌, subst, ⊎_elim, arith}
use Rattle.std.specs.Prelude.{◌⊎◌, ◌<◌, Some, Contains, get_or, slice_get}
use Rattle.std.proofs.lemmas.Option.{slice_get_within, get_or_from_slice_get}
use Rattle.std.proofs.lemmas.List.Elements.{All-contains}
use Rattle.map_history.specs.declared.op.Op.{Op}
use Rattle.map_history.specs.Replay.{reply_of}
use Rattle.history_orders.specs.Turns.{comes_before}
use Rattle.history_orders.specs.Stamped.{Stamped, turn_of, is_earlier, IsInOrder, map_of, IsReplayed, IsHistoryOf}
use Rattle.history_orders.proofs.Turns.{before_itself, before_turns}
use Rattle.history_orders.proofs.Entries.{contains_cases, contains_front, contains_behind, contains_none, order_head, order_tail}

-- the same but for the reply
record AreAlike (a b : Stamped) : Type 0 where
  stamp : a.stamp ≡ b.stamp
  number : a.number ≡ b.number
  op : a.op ≡ b.op

-- each entry of the first has its like in the second
abbrev IsWithin : List Stamped → List Stamped → Type 0
IsWithin xs ys = (e : Stamped) → Contains xs e → (f : Stamped) × Contains ys f × AreAlike e f

turned : (a b : Stamped) → AreAlike a b → turn_of a ≡ turn_of b
turned a b alike = λ i. (alike.stamp i, alike.number i)

one : (a b : Stamped) → AreAlike a b → a.reply ≡ b.reply → a ≡ b
one a b alike reply = λ i. record { stamp = alike.stamp i; number = alike.number i; op = alike.op i; reply = reply i }

-- an entry alike to one behind comes before the first
behind_earlier : (x e f : Stamped) (xs : List Stamped) → IsInOrder (x ∷ xs) → Contains xs f → AreAlike e f → is_earlier e x ≡ true
behind_earlier x e f xs order at alike = ap (λ turn. comes_before turn (turn_of x)) (turned e f alike)
    ∙ All-contains (λ y. is_earlier y x ≡ true) xs f (order_head x xs order) at

turned_back : {a b : Stamped} → AreAlike a b → AreAlike b a
turned_back alike = record { stamp = sym alike.stamp; number = sym alike.number; op = sym alike.op }

both_before : (x y : Stamped) → is_earlier x y ≡ true → is_earlier y x ≡ true → ⊥
both_before x y before before' = let not = before_turns (turn_of x) (turn_of y) before in cc

-- where each has its like, the first entries are alike
heads : (x y : Stamped) (xs ys : List Stamped) → IsInOrder (x ∷ xs) → IsInOrder (y ∷ ys) → IsWithin (x ∷ xs) (y ∷ ys) → IsWithin (y ∷ ys) (x ∷ xs) → AreAlike x y
heads x y xs ys order order' to from =
    let there = to x (contains_front x x xs refl) in
    let here = from y (contains_front y y ys refl) in
    ⊎_elim (λ first. subst (AreAlike x) first there.2)
    (λ later. ⊎_elim (λ first. turned_back (subst (AreAlike y) first here.2))
    (λ later'. absurd (both_before x y (behind_earlier y x there.0 ys order' later there.2) (behind_earlier x y here.0 xs order later' here.2)))
    (contains_cases x here.0 xs here.1))
    (contains_cases y there.0 ys there.1)

-- and behind them each has its like
tails : (x y : Stamped) (xs ys : List Stamped) → IsInOrder (x ∷ xs) → AreAlike x y → IsWithin (x ∷ xs) (y ∷ ys) → IsWithin xs ys
tails x y xs ys order alike to e at =
    let there = to e (contains_behind x e xs at) in
    ⊎_elim (λ first.
    let before = behind_earlier x y e xs order at (turned_back (subst (AreAlike e) first there.2)) in
    let itself = before_itself (turn_of y) in
    let same = ap (comes_before (turn_of y)) (turned x y alike) in
    absurd (true≢false (sym before ∙ same ∙ itself)))
    (λ later. (there.0, later, there.2))
    (contains_cases y there.0 ys there.1)

same_histories : (xs ys : List Stamped) → IsInOrder xs → IsInOrder ys → IsWithin xs ys → IsWithin ys xs → IsReplayed xs → IsReplayed ys → xs ≡ ys
same_histories [] [] order order' to from replayed replayed' = refl
same_histories [] (y ∷ ys) order order' to from replayed replayed' = absurd (contains_none _ (from y (contains_front y y ys refl)).1)
same_histories (x ∷ xs) [] order order' to from replayed replayed' = absurd (contains_none _ (to x (contains_front x x xs refl)).1)
same_histories (x ∷ xs) (y ∷ ys) order order' to from replayed replayed' =
    let first = heads x y xs ys order order' to from in
    let rest = same_histories xs ys (order_tail x xs order) (order_tail y ys order') (tails x y xs ys order first to) (tails y x ys xs order' (turned_back first) from) replayed.1 replayed'.1 in
    let reply : x.reply ≡ y.reply = replayed.0 ∙ ap (λ history. reply_of (map_of history) x.op) rest ∙ ap (reply_of (map_of ys)) first.op ∙ sym replayed'.0 in
    ap (λ e. e ∷ xs) (one x y first reply) ∙ ap (λ history. y ∷ history) rest

pub unique : (op : ℕ → Op) (stamp : ℕ → ℕ) (a b : List Stamped) → IsHistoryOf op stamp a → IsHistoryOf op stamp b → IsReplayed a → IsReplayed b → a ≡ b
unique op stamp a b of_a of_b replayed_a replayed_b = same_histories a b of_a.order of_b.order (within a b of_a of_b) (within b a of_b of_a) replayed_a replayed_b
  where
    within : (a b : List Stamped) → IsHistoryOf op stamp a → IsHistoryOf op stamp b → IsWithin a b
    within a b of_a of_b e at =
        let there = of_b.all e.number (λ none. of_a.stamped e at (of_a.stamps e at ∙ none)) in (
          there.0,
          there.1,
          record {
            stamp = of_a.stamps e at ∙ ap stamp (sym there.2) ∙ sym (of_b.stamps there.0 there.1);
            number = sym there.2;
            op = of_a.ops e at ∙ ap op (sym there.2) ∙ sym (of_b.ops there.0 there.1);
          },
        )

-- no request stands twice
pub once : (op : ℕ → Op) (stamp : ℕ → ℕ) (history : List Stamped) → IsHistoryOf op stamp history → (i j : ℕ) (a b : Stamped)
    → slice_get history i ≡ Some a → slice_get history j ≡ Some b → a.number ≡ b.number → i ≡ j
once op stamp history of i j a b here there number =
    ⊎_elim (λ lt. absurd (twice i j a b lt here there (same_turn a b (at i a here) (at j b there) number)))
    (⊎_elim (λ same. same) (λ gt. absurd (twice j i b a gt there here (same_turn b a (at j b there) (at i a here) (sym number)))))
    (compare_places i j)
  where
    compare_places : (i j : ℕ) → (i < j) ⊎ (i ≡ j) ⊎ (j < i)
    compare_places i j = search arith

    at : (i : ℕ) (a : Stamped) → slice_get history i ≡ Some a → Contains history a
    at i a here = (i, slice_get_within history i a here, get_or_from_slice_get history i a a here)

    same_turn : (a b : Stamped) → Contains history a → Contains history b → a.number ≡ b.number → turn_of a ≡ turn_of b
    same_turn a b at_a at_b number = let stamps = of.stamps a at_a ∙ ap stamp number ∙ sym (of.stamps b at_b) in λ k. (stamps k, number k)

    twice : (i j : ℕ) (a b : Stamped) → i < j → slice_get history i ≡ Some a → slice_get history j ≡ Some b → turn_of a ≡ turn_of b → ⊥
    twice i j a b lt here there same =
        let before = of.order i j a lt (slice_get_within history j b there) in
        let first = get_or_from_slice_get history i a a here in
        let second = get_or_from_slice_get history j b a there in
        let now : is_earlier b a ≡ true = subst (λ x. is_earlier x a ≡ true) second (subst (λ x. is_earlier (get_or history j a) x ≡ true) first before) in
        true≢false (sym now ∙ ap (λ turn. comes_before turn (turn_of a)) (sym same) ∙ before_itself (turn_of a))
