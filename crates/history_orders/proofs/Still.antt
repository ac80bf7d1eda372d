-- Entries that change nothing at their turn, and what other entries leave of a turn.
use Rattle.std.proofs.Common.{◌≡◌, true, false, cond, List, [], ◌∷◌, refl, sym, ap, ◌∙◌, subst, inl, inr, ⊎_elim}
use Rattle.std.specs.Prelude.{Contains}
use Rattle.std.specs.FinMap.{get}
use Rattle.std.proofs.lemmas.List.Elements.{All-head, All-tail, All-contains}
use Rattle.map_history.specs.declared.op.Op.{Op}
use Rattle.map_history.specs.Keys.{HaveNoCommonKey}
use Rattle.map_history.specs.Replay.{Pairs, reply_of, map_after}
use Rattle.map_history.proofs.Cells.{depends, elsewhere, same_pairs}
use Rattle.map_history.proofs.Commuting.{commuting_map, commuting_reply}
use Rattle.history_orders.specs.Turns.{comes_before}
use Rattle.history_orders.specs.Stamped.{Stamped, turn_of, is_earlier, IsInOrder, map_of, map_before, IsReplayed, HasReply, IsStill, put_in, IsLastOnItsKeys, AreApartOrStill}
use Rattle.history_orders.proofs.Turns.{before_itself, before_turns, before_joins, after_before, after_joins, between_equal, one_number}
use Rattle.history_orders.proofs.Entries.{IsApartAfter, IsBefore, bool_cases, contains_front, contains_behind, order_head, order_tail, put_first, put_behind, map-put_in}

-- this map stays with the operation
abbrev Keeps : Op → Pairs → Type 0
Keeps op pairs = map_after pairs op ≡ pairs

turned : (a b : Op) → HaveNoCommonKey a b → HaveNoCommonKey b a
turned a b apart = λ key on also. apart key also on

-- what changes nothing behind an operation without a key in common changes nothing before it
still_before : (a b : Op) (pairs : Pairs) → HaveNoCommonKey a b → Keeps b (map_after pairs a) → Keeps b pairs
still_before a b pairs apart still = same_pairs _ _ (λ q. ⊎_elim
    (λ on. sym (elsewhere (map_after pairs b) a q (λ also. apart q also on))
    ∙ (ap (λ p. get p q) (sym (commuting_map a b pairs apart) ∙ still) ∙ elsewhere pairs a q (λ also. apart q also on)))
    (λ off. elsewhere pairs b q off)
    (depends b q))

-- the map at a turn, by whether the newest entry comes before it
before_first : (e x : Stamped) (xs : List Stamped) → is_earlier x e ≡ true → map_before e (x ∷ xs) ≡ map_of (x ∷ xs)
before_first e x xs h = ap (λ b. cond b (map_of (x ∷ xs)) (map_before e xs)) h

before_rest : (e x : Stamped) (xs : List Stamped) → is_earlier x e ≡ false → map_before e (x ∷ xs) ≡ map_before e xs
before_rest e x xs h = ap (λ b. cond b (map_of (x ∷ xs)) (map_before e xs)) h

still_first : (e x : Stamped) (xs : List Stamped) → is_earlier x e ≡ true → IsStill e (x ∷ xs) → Keeps e.op (map_of (x ∷ xs))
still_first e x xs h still = subst (Keeps e.op) (before_first e x xs h) still

still_rest : (e x : Stamped) (xs : List Stamped) → is_earlier x e ≡ false → IsStill e (x ∷ xs) → IsStill e xs
still_rest e x xs h still = subst (Keeps e.op) (before_rest e x xs h) still

-- an entry that changes nothing at its turn is put in
pub map-put_still : (e : Stamped) (xs : List Stamped) → IsStill e xs → map_of (put_in e xs) ≡ map_of xs
map-put_still e [] still = still
map-put_still e (x ∷ xs) still = ⊎_elim
    (λ h. ap map_of (put_first e x xs h) ∙ still_first e x xs h still)
    (λ h. ap map_of (put_behind e x xs h)
    ∙ ap (λ pairs. map_after pairs x.op) (map-put_still e xs (still_rest e x xs h still)))
    (bool_cases (is_earlier x e))

pub replayed-put_still : (e : Stamped) (xs : List Stamped) → IsStill e xs → HasReply e xs → IsReplayed xs → IsReplayed (put_in e xs)
replayed-put_still e [] still reply replayed = (reply, tt)
replayed-put_still e (x ∷ xs) still reply replayed = ⊎_elim
    (λ h. subst IsReplayed (sym (put_first e x xs h))
    (subst (λ (pairs : Pairs). e.reply ≡ reply_of pairs e.op) (before_first e x xs h) reply, replayed))
    (λ h.
    let quiet = still_rest e x xs h still in
    subst IsReplayed (sym (put_behind e x xs h)) (
      replayed.0 ∙ ap (λ pairs. reply_of pairs x.op) (sym (map-put_still e xs quiet)),
      replayed-put_still e xs quiet (subst (λ (pairs : Pairs). e.reply ≡ reply_of pairs e.op) (before_rest e x xs h) reply) replayed.1,
    ))
    (bool_cases (is_earlier x e))

-- an entry that doesn't come before the turn leaves its map
pub before-later : (e x : Stamped) (xs : List Stamped) → is_earlier x e ≡ false → map_before e (put_in x xs) ≡ map_before e xs
before-later e x [] later = before_rest e x [] later
before-later e x (y ∷ ys) later = ⊎_elim
    (λ first. ap (map_before e) (put_first x y ys first) ∙ before_rest e x (y ∷ ys) later)
    (λ behind.
    let after = after_joins (turn_of y) (turn_of x) (turn_of e) behind later in
    ap (map_before e) (put_behind x y ys behind)
    ∙ (before_rest e y (put_in x ys) after ∙ (before-later e x ys later ∙ sym (before_rest e y ys after))))
    (bool_cases (is_earlier y x))

-- where both come before it, the whole map is the one at the turn
put_whole : (e x y : Stamped) (ys : List Stamped) → is_earlier x e ≡ true → is_earlier y e ≡ true
    → map_before e (put_in x (y ∷ ys)) ≡ map_of (put_in x (y ∷ ys))
put_whole e x y ys early first = ⊎_elim
    (λ h. subst (λ xs. map_before e xs ≡ map_of xs) (sym (put_first x y ys h)) (before_first e x (y ∷ ys) early))
    (λ h. subst (λ xs. map_before e xs ≡ map_of xs) (sym (put_behind x y ys h)) (before_first e y (put_in x ys) first))
    (bool_cases (is_earlier y x))

-- an earlier entry does to the map at the turn what it does to the whole map
module _ (e x : Stamped) (early : is_earlier x e ≡ true) (change : Pairs → Pairs) (Goes : List Stamped → Type 0)
    (behind : (y : Stamped) (ys : List Stamped) → is_earlier y x ≡ false → Goes (y ∷ ys) → Goes ys)
    (whole : (ys : List Stamped) → Goes ys → map_of (put_in x ys) ≡ change (map_of ys)) where
  before-put : (ys : List Stamped) → Goes ys → map_before e (put_in x ys) ≡ change (map_before e ys)
  before-put [] goes = before_first e x [] early ∙ whole [] goes
  before-put (y ∷ ys) goes = ⊎_elim
      (λ first. put_whole e x y ys early first ∙ (whole (y ∷ ys) goes ∙ ap change (sym (before_first e y ys first))))
      (λ later.
      let after = after_before (turn_of y) (turn_of e) (turn_of x) later early in
      ap (map_before e) (put_behind x y ys after)
      ∙ (before_rest e y (put_in x ys) later ∙ (before-put ys (behind y ys after goes) ∙ ap change (sym (before_rest e y ys later)))))
      (bool_cases (is_earlier y e))

pub before-still : (e x : Stamped) (xs : List Stamped) → is_earlier x e ≡ true → IsStill x xs → map_before e (put_in x xs) ≡ map_before e xs
before-still e x xs early still =
    before-put e x early (λ pairs. pairs) (IsStill x) (λ y ys after. still_rest x y ys after) (map-put_still x) xs still

before-apart : (e x : Stamped) (xs : List Stamped) → is_earlier x e ≡ true → IsLastOnItsKeys x xs
    → map_before e (put_in x xs) ≡ map_after (map_before e xs) x.op
before-apart e x xs early last =
    before-put e x early (λ pairs. map_after pairs x.op) (IsLastOnItsKeys x) (λ y ys after. All-tail (IsApartAfter x) y ys) (map-put_in x) xs last

-- so one without a key in common leaves the reply, and that nothing is changed
pub reply-apart : (e x : Stamped) (xs : List Stamped) → is_earlier x e ≡ true → IsLastOnItsKeys x xs → HaveNoCommonKey x.op e.op
    → HasReply e xs → HasReply e (put_in x xs)
reply-apart e x xs early last apart reply =
    reply ∙ sym (ap (λ pairs. reply_of pairs e.op) (before-apart e x xs early last)
    ∙ commuting_reply e.op x.op (map_before e xs) (turned x.op e.op apart))

pub still-apart : (e x : Stamped) (xs : List Stamped) → is_earlier x e ≡ true → IsLastOnItsKeys x xs → HaveNoCommonKey x.op e.op
    → IsStill e xs → IsStill e (put_in x xs)
still-apart e x xs early last apart still = subst (Keeps e.op) (sym (before-apart e x xs early last))
    (commuting_map x.op e.op (map_before e xs) apart ∙ ap (λ pairs. map_after pairs x.op) still)

-- so an entry that changes nothing leaves the map at each turn
pub before-put_still : (e x : Stamped) (xs : List Stamped) → IsStill x xs → map_before e (put_in x xs) ≡ map_before e xs
before-put_still e x xs still =
    ⊎_elim (λ early. before-still e x xs early still) (λ later. before-later e x xs later) (bool_cases (is_earlier x e))

-- and one that is the last on its keys leaves the reply, and that nothing is changed, where it has no key in common or
-- comes later
pub reply-put_in : (e x : Stamped) (xs : List Stamped) → IsLastOnItsKeys x xs → (is_earlier x e ≡ true → HaveNoCommonKey x.op e.op)
    → HasReply e xs → HasReply e (put_in x xs)
reply-put_in e x xs last apart reply = ⊎_elim
    (λ early. reply-apart e x xs early last (apart early) reply)
    (λ later. reply ∙ ap (λ pairs. reply_of pairs e.op) (sym (before-later e x xs later)))
    (bool_cases (is_earlier x e))

pub still-put_in : (e x : Stamped) (xs : List Stamped) → IsLastOnItsKeys x xs → (is_earlier x e ≡ true → HaveNoCommonKey x.op e.op)
    → IsStill e xs → IsStill e (put_in x xs)
still-put_in e x xs last apart still = ⊎_elim
    (λ early. still-apart e x xs early last (apart early) still)
    (λ later. subst (Keeps e.op) (sym (before-later e x xs later)) still)
    (bool_cases (is_earlier x e))

-- in a history in order the map at the turn of the newest entry is that of the others
own_turn : (x : Stamped) (xs : List Stamped) → IsInOrder (x ∷ xs) → map_before x (x ∷ xs) ≡ map_of xs
own_turn x [] order = before_rest x x [] (before_itself (turn_of x))
own_turn x (y ∷ ys) order = before_rest x x (y ∷ ys) (before_itself (turn_of x))
    ∙ before_first x y ys (All-head (IsBefore x) y ys (order_head x (y ∷ ys) order))

still_own : (x : Stamped) (xs : List Stamped) → IsInOrder (x ∷ xs) → IsStill x (x ∷ xs) → map_of (x ∷ xs) ≡ map_of xs
still_own x xs order still = subst (Keeps x.op) (own_turn x xs order) still

-- and what changes nothing there changes nothing without that one
still_behind : (x y : Stamped) (xs : List Stamped) → IsInOrder (y ∷ xs) → Contains xs x → IsStill x (y ∷ xs) → IsStill x xs
still_behind x y xs order at still =
    still_rest x y xs (before_turns (turn_of x) (turn_of y) (All-contains (IsBefore y) xs x (order_head y xs order) at)) still

apart_rest : (e x : Stamped) (xs : List Stamped) → IsInOrder (x ∷ xs) → AreApartOrStill e (x ∷ xs) → AreApartOrStill e xs
apart_rest e x xs order each y at later =
    ⊎_elim inl (λ still. inr (still_behind y x xs order at still)) (each y (contains_behind x y xs at) later)

-- from the whole map to the one at a turn
pub reply-found : (e : Stamped) (xs : List Stamped) → IsInOrder xs → AreApartOrStill e xs
    → reply_of (map_of xs) e.op ≡ reply_of (map_before e xs) e.op
reply-found e [] order each = refl
reply-found e (x ∷ xs) order each = ⊎_elim
    (λ h. ap (λ pairs. reply_of pairs e.op) (sym (before_first e x xs h)))
    (λ h. ⊎_elim
    (λ apart. commuting_reply e.op x.op (map_of xs) (turned x.op e.op apart))
    (λ still. ap (λ pairs. reply_of pairs e.op) (still_own x xs order still))
    (each x (contains_front x x xs refl) h)
    ∙ (reply-found e xs (order_tail x xs order) (apart_rest e x xs order each)
    ∙ ap (λ pairs. reply_of pairs e.op) (sym (before_rest e x xs h))))
    (bool_cases (is_earlier x e))

pub still-found : (e : Stamped) (xs : List Stamped) → IsInOrder xs → AreApartOrStill e xs → Keeps e.op (map_of xs) → IsStill e xs
still-found e [] order each keeps = keeps
still-found e (x ∷ xs) order each keeps = ⊎_elim
    (λ h. subst (Keeps e.op) (sym (before_first e x xs h)) keeps)
    (λ h.
    let rest : Keeps e.op (map_of xs) = ⊎_elim
    (λ apart. still_before x.op e.op (map_of xs) apart keeps)
    (λ still. subst (Keeps e.op) (still_own x xs order still) keeps)
    (each x (contains_front x x xs refl) h) in
    subst (Keeps e.op) (sym (before_rest e x xs h))
    (still-found e xs (order_tail x xs order) (apart_rest e x xs order each) rest))
    (bool_cases (is_earlier x e))

-- what stands between the two turns changes nothing
abbrev AreStillBetween : Stamped → Stamped → List Stamped → Type 0
AreStillBetween a b xs = (x : Stamped) → Contains xs x → is_earlier x a ≡ false → is_earlier x b ≡ true → IsStill x xs

between_rest : (a b x : Stamped) (xs : List Stamped) → IsInOrder (x ∷ xs) → AreStillBetween a b (x ∷ xs) → AreStillBetween a b xs
between_rest a b x xs order each y at after before =
    still_behind y x xs order at (each y (contains_behind x y xs at) after before)

-- behind an entry that comes before the turn all do
before_behind : (b x : Stamped) (xs : List Stamped) → IsInOrder (x ∷ xs) → is_earlier x b ≡ true → map_before b xs ≡ map_of xs
before_behind b x [] order before = refl
before_behind b x (y ∷ ys) order before = before_first b y ys
    (before_joins (turn_of y) (turn_of x) (turn_of b) (All-head (IsBefore x) y ys (order_head x (y ∷ ys) order)) before)

one_map : (a b : Stamped) (xs : List Stamped) → is_earlier a b ≡ true → IsInOrder xs → AreStillBetween a b xs
    → map_before a xs ≡ map_before b xs
one_map a b [] first order each = refl
one_map a b (x ∷ xs) first order each =
    let rest = one_map a b xs first (order_tail x xs order) (between_rest a b x xs order each) in
    ⊎_elim
    (λ (h : is_earlier x a ≡ true). before_first a x xs h
    ∙ sym (before_first b x xs (before_joins (turn_of x) (turn_of a) (turn_of b) h first)))
    (λ (h : is_earlier x a ≡ false). before_rest a x xs h ∙ (rest ∙ ⊎_elim
    (λ (g : is_earlier x b ≡ true). before_behind b x xs order g
    ∙ sym (before_first b x xs g ∙ still_own x xs order (each x (contains_front x x xs refl) h g)))
    (λ (g : is_earlier x b ≡ false). sym (before_rest b x xs g))
    (bool_cases (is_earlier x b))))
    (bool_cases (is_earlier x a))

same_turns : (a b : Stamped) (xs : List Stamped) → turn_of a ≡ turn_of b → map_before a xs ≡ map_before b xs
same_turns a b [] same = refl
same_turns a b (x ∷ xs) same =
    let rest = same_turns a b xs same in
    λ i. cond (comes_before (turn_of x) (same i)) (map_of (x ∷ xs)) (rest i)

-- entries with one stamp, of which none with that stamp changes anything, have one map at their turns
pub equal_turns : (a b : Stamped) (xs : List Stamped) → IsInOrder xs → a.stamp ≡ b.stamp
    → ((x : Stamped) → Contains xs x → x.stamp ≡ a.stamp → IsStill x xs) → map_before a xs ≡ map_before b xs
equal_turns a b xs order same each = ⊎_elim
    (λ first. one_map a b xs first order (between a b same each))
    (λ after. ⊎_elim
    (λ first. sym (one_map b a xs first order (between b a (sym same) (λ x at e. each x at (e ∙ sym same)))))
    (λ also. let number = one_number (turn_of a) (turn_of b) same after also in same_turns a b xs (λ i. (same i, number i)))
    (bool_cases (is_earlier b a)))
    (bool_cases (is_earlier a b))
  where
    between : (a b : Stamped) → a.stamp ≡ b.stamp → ((x : Stamped) → Contains xs x → x.stamp ≡ a.stamp → IsStill x xs)
        → AreStillBetween a b xs
    between a b same each x at after before = each x at (between_equal (turn_of x) (turn_of a) (turn_of b) same after before)
