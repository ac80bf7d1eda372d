-- The replies of a map whose values have 32 bits.
use Rattle.std.specs.Prelude.{slice_get}
use Rattle.std.proofs.Common.{◌≡◌, ℕ, zero, suc, Bool, true, false, cond, List, [], ◌∷◌, refl, sym, ◌∙◌, subst, Some}
use Rattle.std.specs.FinMap.{empty, get-empty}
use Rattle.std.specs.Ordering.{nat_cmp}
use Rattle.small_lemmas.proofs.Lists.{some_the_same as some_same, some_not_none as none_some}
use Rattle.map_history.specs.Keys.{GivesSmall}
use Rattle.map_history.specs.Replay.{Pairs, HasSmallValues, reply_of}
use Rattle.map_history.specs.Words.{IsReply}
use Rattle.map_history.proofs.Values.{after_small, reply_small}
use Rattle.history_orders.specs.Stamped.{Stamped, is_earlier, map_of, map_before, IsReplayed}

empty_small : HasSmallValues empty
empty_small k v e = absurd (none_some v (sym e ∙ get-empty nat_cmp k))

-- each entry's operation gives a small value
abbrev pub AreSmall : List Stamped → Type 0
AreSmall history = (i : ℕ) (e : Stamped) → slice_get history i ≡ Some e → GivesSmall e.op

history_small : (history : List Stamped) → AreSmall history → HasSmallValues (map_of history)
history_small [] each = empty_small
history_small (e ∷ history) each = after_small (map_of history) e.op (each 0 e refl) (history_small history (λ i x is. each (suc i) x is))

-- so each reply of a replayed history is one
pub replies_small : (history : List Stamped) → IsReplayed history → AreSmall history
    → (i : ℕ) (e : Stamped) → slice_get history i ≡ Some e → IsReply e.reply
replies_small [] replayed each i e is = absurd (none_some e (sym is))
replies_small (x ∷ history) replayed each zero e is =
    subst (λ (y : Stamped). IsReply y.reply) (some_same x e is)
    (subst IsReply (sym replayed.0) (reply_small (map_of history) x.op (history_small history (λ i y there. each (suc i) y there))))
replies_small (x ∷ history) replayed each (suc i) e is = replies_small history replayed.1 (λ j y there. each (suc j) y there) i e is

either : (b : Bool) (p q : Pairs) → HasSmallValues p → HasSmallValues q → HasSmallValues (cond b p q)
either true p q one two = one
either false p q one two = two

before_small : (e : Stamped) (history : List Stamped) → AreSmall history → HasSmallValues (map_before e history)
before_small e [] each = empty_small
before_small e (x ∷ history) each =
    either (is_earlier x e) (map_of (x ∷ history)) (map_before e history) (history_small (x ∷ history) each)
    (before_small e history (λ i y is. each (suc i) y is))

-- and so is the reply of the map at any turn
pub turn_small : (e : Stamped) (history : List Stamped) → AreSmall history → IsReply (reply_of (map_before e history) e.op)
turn_small e history each = reply_small (map_before e history) e.op (before_small e history each)
