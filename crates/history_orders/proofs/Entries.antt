-- An entry is put into a history.
use Rattle.std.proofs.Common.{◌≡◌, ◌≢◌, zero, suc, Bool, true, false, IsTrue, cond, List, [], ◌∷◌, length, refl, sym, ap, ◌∙◌, subst, inl, inr, ⊎_elim, arith}
use Rattle.std.specs.Prelude.{◌⊎◌, All, Contains, slice_index_or}
use Rattle.std.proofs.lemmas.List.Elements.{Contains-get_or, All-cons, All-head, All-tail, All-nil, All-weaker}
use Rattle.std.proofs.lemmas.List.Kept.{AllPairs-cons}
use Rattle.map_history.specs.Keys.{HaveNoCommonKey}
use Rattle.map_history.specs.Replay.{reply_of, map_after}
use Rattle.map_history.proofs.Commuting.{commuting_map, commuting_reply}
use Rattle.history_orders.specs.Stamped.{Stamped, turn_of, is_earlier, IsInOrder, map_of, IsReplayed, put_in, IsLastOnItsKeys}
use Rattle.history_orders.proofs.Turns.{before_joins, before_either}

-- what is said of each entry of a history, beside one that goes in
abbrev pub IsApartAfter : Stamped → Stamped → Type 0
IsApartAfter e x = is_earlier x e ≡ false → HaveNoCommonKey x.op e.op

abbrev pub IsBefore : Stamped → Stamped → Type 0
IsBefore e x = is_earlier x e ≡ true

pub bool_cases : (b : Bool) → (b ≡ true) ⊎ (b ≡ false)
bool_cases true = inl refl
bool_cases false = inr refl

-- an element stands at the front or behind it
pub contains_cases : {X : Type 0} (x y : X) (xs : List X) → Contains (x ∷ xs) y → (y ≡ x) ⊎ Contains xs y
contains_cases x y xs (zero, within, same) = inl (sym same)
contains_cases x y xs (suc k, within, same) = inr (k, omega arith, same)

pub contains_front : {X : Type 0} (x y : X) (xs : List X) → y ≡ x → Contains (x ∷ xs) y
contains_front x y xs same = (0, omega arith, sym same)

pub contains_behind : {X : Type 0} (x y : X) (xs : List X) → Contains xs y → Contains (x ∷ xs) y
contains_behind x y xs at = (suc at.0, omega (arith, at.1), at.2)

pub contains_none : {X : Type 0} (y : X) → Contains [] y → ⊥
contains_none y at = absurd (omega (arith, at.1))

pub order_head : (x : Stamped) (xs : List Stamped) → IsInOrder (x ∷ xs) → All (λ y. is_earlier y x ≡ true) xs
order_head x xs order k d within = order zero (suc k) d (omega arith) (omega arith)

pub order_tail : (x : Stamped) (xs : List Stamped) → IsInOrder (x ∷ xs) → IsInOrder xs
order_tail x xs order i j d before within = order (suc i) (suc j) d (omega arith) (omega arith)

order_cons : (x : Stamped) (xs : List Stamped) → All (λ y. is_earlier y x ≡ true) xs → IsInOrder xs → IsInOrder (x ∷ xs)
order_cons x xs head tail = AllPairs-cons (λ later earlier. IsTrue (is_earlier earlier later)) x xs head tail

pub put_first : (e x : Stamped) (xs : List Stamped) → is_earlier x e ≡ true → put_in e (x ∷ xs) ≡ e ∷ x ∷ xs
put_first e x xs h = ap (λ b. cond b (e ∷ x ∷ xs) (x ∷ put_in e xs)) h

pub put_behind : (e x : Stamped) (xs : List Stamped) → is_earlier x e ≡ false → put_in e (x ∷ xs) ≡ x ∷ put_in e xs
put_behind e x xs h = ap (λ b. cond b (e ∷ x ∷ xs) (x ∷ put_in e xs)) h

pub map-put_in : (e : Stamped) (xs : List Stamped) → IsLastOnItsKeys e xs → map_of (put_in e xs) ≡ map_after (map_of xs) e.op
map-put_in e [] last = refl
map-put_in e (x ∷ xs) last =
    ⊎_elim
    (λ h. ap map_of (put_first e x xs h))
    (λ h. ap map_of (put_behind e x xs h)
    ∙ ap (λ pairs. map_after pairs x.op) (map-put_in e xs (All-tail (IsApartAfter e) x xs last))
    ∙ sym (commuting_map x.op e.op (map_of xs) (All-head (IsApartAfter e) x xs last h)))
    (bool_cases (is_earlier x e))

pub replayed-put_in : (e : Stamped) (xs : List Stamped) → IsLastOnItsKeys e xs → e.reply ≡ reply_of (map_of xs) e.op → IsReplayed xs → IsReplayed (put_in e xs)
replayed-put_in e [] last reply replayed = (reply, tt)
replayed-put_in e (x ∷ xs) last reply replayed =
    ⊎_elim
    (λ h. subst IsReplayed (sym (put_first e x xs h)) (reply, replayed))
    (λ h.
    let apart = All-head (IsApartAfter e) x xs last h in
    let behind = All-tail (IsApartAfter e) x xs last in
    subst IsReplayed (sym (put_behind e x xs h)) (
      replayed.0 ∙ sym (commuting_reply x.op e.op (map_of xs) apart) ∙ ap (λ pairs. reply_of pairs x.op) (sym (map-put_in e xs behind)),
      replayed-put_in e xs behind (reply ∙ commuting_reply e.op x.op (map_of xs) (λ key a b. apart key b a)) replayed.1,
    ))
    (bool_cases (is_earlier x e))

all-put_in : (P : Stamped → Type 0) (e : Stamped) (xs : List Stamped) → P e → All P xs → All P (put_in e xs)
all-put_in P e [] here all = All-cons P e [] here all
all-put_in P e (x ∷ xs) here all =
    ⊎_elim
    (λ h. subst (All P) (sym (put_first e x xs h)) (All-cons P e (x ∷ xs) here all))
    (λ h. subst (All P) (sym (put_behind e x xs h)) (All-cons P x (put_in e xs) (All-head P x xs all) (all-put_in P e xs here (All-tail P x xs all))))
    (bool_cases (is_earlier x e))

pub order-put_in : (e : Stamped) (xs : List Stamped) → All (λ x. x.number ≢ e.number) xs → IsInOrder xs → IsInOrder (put_in e xs)
order-put_in e [] apart order = order_cons e [] (All-nil (IsBefore e)) order
order-put_in e (x ∷ xs) apart order =
    ⊎_elim
    (λ h. subst IsInOrder (sym (put_first e x xs h))
    (order_cons e (x ∷ xs) (All-cons (IsBefore e) x xs h (All-weaker (IsBefore x) (IsBefore e)
    (λ y before. before_joins (turn_of y) (turn_of x) (turn_of e) before h) xs (order_head x xs order))) order))
    (λ h. subst IsInOrder (sym (put_behind e x xs h))
    (order_cons x (put_in e xs)
    (all-put_in (IsBefore x) e xs (before_either (turn_of x) (turn_of e) (All-head (λ y. y.number ≢ e.number) x xs apart) h) (order_head x xs order))
    (order-put_in e xs (All-tail (λ y. y.number ≢ e.number) x xs apart) (order_tail x xs order))))
    (bool_cases (is_earlier x e))

pub in-put_in : (e x : Stamped) (xs : List Stamped) → Contains (put_in e xs) x → (x ≡ e) ⊎ Contains xs x
in-put_in e x [] at = contains_cases e x [] at
in-put_in e x (y ∷ ys) at =
    ⊎_elim
    (λ h. contains_cases e x (y ∷ ys) (subst (λ xs. Contains xs x) (put_first e y ys h) at))
    (λ h. ⊎_elim (λ same. inr (contains_front y x ys same))
    (λ behind. ⊎_elim inl (λ there. inr (contains_behind y x ys there)) (in-put_in e x ys behind))
    (contains_cases y x (put_in e ys) (subst (λ xs. Contains xs x) (put_behind e y ys h) at)))
    (bool_cases (is_earlier y e))

pub put_in-contains : (e x : Stamped) (xs : List Stamped) → (x ≡ e) ⊎ Contains xs x → Contains (put_in e xs) x
put_in-contains e x [] at = ⊎_elim (contains_front e x []) (λ none. absurd (contains_none x none)) at
put_in-contains e x (y ∷ ys) at =
    ⊎_elim
    (λ h. subst (λ xs. Contains xs x) (sym (put_first e y ys h)) (⊎_elim (contains_front e x (y ∷ ys)) (contains_behind e x (y ∷ ys)) at))
    (λ h. subst (λ xs. Contains xs x) (sym (put_behind e y ys h))
    (⊎_elim (λ same. contains_behind y x (put_in e ys) (put_in-contains e x ys (inl same)))
    (λ there. ⊎_elim (contains_front y x (put_in e ys)) (λ behind. contains_behind y x (put_in e ys) (put_in-contains e x ys (inr behind))) (contains_cases y x ys there)) at))
    (bool_cases (is_earlier y e))

pub length-put_in : (e : Stamped) (xs : List Stamped) → length (put_in e xs) ≡ suc (length xs)
length-put_in e [] = refl
length-put_in e (x ∷ xs) = ⊎_elim (λ h. ap length (put_first e x xs h)) (λ h. ap length (put_behind e x xs h) ∙ ap suc (length-put_in e xs)) (bool_cases (is_earlier x e))

-- what holds of each entry, said of the list
pub all_of : (P : Stamped → Type 0) (xs : List Stamped) → ((x : Stamped) → Contains xs x → P x) → All P xs
all_of P xs each k d within = each (slice_index_or xs k d) (Contains-get_or xs k d within)
