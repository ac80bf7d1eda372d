-- A history is legal exactly where, for each key, the part on that key is.
use Rattle.std.proofs.Common.{◌≡◌, ◌≢◌, ℕ, suc, List, [], ◌∷◌, refl, sym, ◌∙◌, subst, ⊎_elim, arith}
use Rattle.std.specs.Prelude.{◌↔◌}
use Rattle.std.proofs.lemmas.Bool.{cases_eq}
use Rattle.std.specs.FinMap.{get}
use Rattle.map_history.specs.declared.op.Op.{Op}
use Rattle.map_history.specs.Keys.{key_of, IsOneKeyed, DependsOn}
use Rattle.map_history.specs.Replay.{Pairs, map_after}
use Rattle.map_history.specs.History.{Answered, AreOneKeyed, IsLegalFrom, on_key}
use Rattle.map_history.proofs.Cells.{key_is, same_replies, elsewhere, alike_after}

first_one : (x : Answered) (xs : List Answered) → AreOneKeyed (x ∷ xs) → IsOneKeyed x.op
first_one x xs one = one 0 x (omega arith)

rest_one : (x : Answered) (xs : List Answered) → AreOneKeyed (x ∷ xs) → AreOneKeyed xs
rest_one x xs one = λ k d low. one (suc k) d (omega (arith, low))

-- maps that are alike at the key of an operation with one key are so at each key on which it depends
alike_at : (a b : Pairs) (op : Op) (key : ℕ) → IsOneKeyed op → key_of op ≡ key → get a key ≡ get b key
    → (k : ℕ) → DependsOn op k → get a k ≡ get b k
alike_at a b op key one here same k on = subst (λ n. get a n ≡ get b n) (sym here ∙ key_is op k one on) same

-- an operation with another key changes nothing at this one
off_key : (op : Op) (key : ℕ) → IsOneKeyed op → key_of op ≢ key → DependsOn op key → ⊥
off_key op key one ne on = ne (key_is op key one on)

on_key-here : (key : ℕ) (x : Answered) (xs : List Answered) → key_of x.op ≡ key → on_key key (x ∷ xs) ≡ x ∷ on_key key xs
on_key-here key x xs e = grind arith

on_key-else : (key : ℕ) (x : Answered) (xs : List Answered) → key_of x.op ≢ key → on_key key (x ∷ xs) ≡ on_key key xs
on_key-else key x xs e = grind arith

-- the part on a key is legal from every map that is alike there
part_legal : (key : ℕ) (a b : Pairs) (history : List Answered) → AreOneKeyed history → get a key ≡ get b key → IsLegalFrom a history → IsLegalFrom b (on_key key history)
part_legal key a b [] one same legal = tt
part_legal key a b (x ∷ xs) one same (reply, legal) =
    ⊎_elim
    (λ here. subst (IsLegalFrom b) (sym (on_key-here key x xs here)) (
      reply ∙ same_replies a b x.op (alike_at a b x.op key (first_one x xs one) here same),
      part_legal key (map_after a x.op) (map_after b x.op) xs (rest_one x xs one) (alike_after a b x.op (alike_at a b x.op key (first_one x xs one) here same) key same) legal,
    ))
    (λ other. subst (IsLegalFrom b) (sym (on_key-else key x xs other))
    (part_legal key (map_after a x.op) b xs (rest_one x xs one) (elsewhere a x.op key (off_key x.op key (first_one x xs one) other) ∙ same) legal))
    (cases_eq (key_of x.op) key)

-- what is legal at one map is so at a map that is alike at the key of each operation
alike_legal : (key : ℕ) (a b : Pairs) (history : List Answered) → AreOneKeyed history → get a key ≡ get b key → IsLegalFrom a (on_key key history) → IsLegalFrom b (on_key key history)
alike_legal key a b [] one same legal = tt
alike_legal key a b (x ∷ xs) one same legal =
    ⊎_elim
    (λ here. let (reply, rest) = subst (IsLegalFrom a) (on_key-here key x xs here) legal in
    subst (IsLegalFrom b) (sym (on_key-here key x xs here)) (
      reply ∙ same_replies a b x.op (alike_at a b x.op key (first_one x xs one) here same),
      alike_legal key (map_after a x.op) (map_after b x.op) xs (rest_one x xs one) (alike_after a b x.op (alike_at a b x.op key (first_one x xs one) here same) key same) rest,
    ))
    (λ other. subst (IsLegalFrom b) (sym (on_key-else key x xs other))
    (alike_legal key a b xs (rest_one x xs one) same (subst (IsLegalFrom a) (on_key-else key x xs other) legal)))
    (cases_eq (key_of x.op) key)

-- behind the first operation the parts are still legal
parts_behind : (key : ℕ) (pairs : Pairs) (x : Answered) (xs : List Answered) → AreOneKeyed (x ∷ xs) → IsLegalFrom pairs (on_key key (x ∷ xs)) → IsLegalFrom (map_after pairs x.op) (on_key key xs)
parts_behind key pairs x xs one legal =
    ⊎_elim
    (λ here. let (reply, rest) = subst (IsLegalFrom pairs) (on_key-here key x xs here) legal in rest)
    (λ other. alike_legal key pairs (map_after pairs x.op) xs (rest_one x xs one) (sym (elsewhere pairs x.op key (off_key x.op key (first_one x xs one) other))) (subst (IsLegalFrom pairs) (on_key-else key x xs other) legal))
    (cases_eq (key_of x.op) key)

whole_legal : (pairs : Pairs) (history : List Answered) → AreOneKeyed history → ((key : ℕ) → IsLegalFrom pairs (on_key key history)) → IsLegalFrom pairs history
whole_legal pairs [] one legal = tt
whole_legal pairs (x ∷ xs) one legal =
    let (reply, rest) = subst (IsLegalFrom pairs) (on_key-here (key_of x.op) x xs refl) (legal (key_of x.op)) in
    (reply, whole_legal (map_after pairs x.op) xs (rest_one x xs one) (λ key. parts_behind key pairs x xs one (legal key)))

pub by_key : (pairs : Pairs) (history : List Answered) → AreOneKeyed history → IsLegalFrom pairs history ↔ ((key : ℕ) → IsLegalFrom pairs (on_key key history))
by_key pairs history one = (λ legal key. part_legal key pairs pairs history one refl legal, whole_legal pairs history one)
