-- A history read from its newest entry, and from its oldest.
use Rattle.std.proofs.Common.{◌≡◌, List, [], ◌∷◌, ◌++◌, map, reverse, refl, sym, ap, ◌∙◌, subst}
use Rattle.std.proofs.lemmas.List.{map-append, reverse-append}
use Rattle.std.specs.FinMap.{empty}
use Rattle.map_history.specs.declared.op.Op.{Op}
use Rattle.map_history.specs.History.{Answered, IsLegalFrom}
use Rattle.map_history.specs.Replay.{Pairs, reply_of, map_after, map_after_all}
use Rattle.history_orders.specs.Stamped.{Stamped, answered_of, oldest_first, ops_of, map_of, IsReplayed}

-- the operations of a list with replies
abbrev pub asked : List Answered → List Op
asked history = map (λ answered. answered.op) history

oldest-more : (e : Stamped) (history : List Stamped) → oldest_first (e ∷ history) ≡ oldest_first history ++ answered_of e ∷ []
oldest-more e history = ap (map answered_of) (reverse-append (e ∷ []) history) ∙ map-append answered_of (reverse history) (e ∷ [])

after-push : (pairs : Pairs) (history : List Answered) (x : Answered) → map_after_all pairs (asked (history ++ x ∷ [])) ≡ map_after (map_after_all pairs (asked history)) x.op
after-push pairs [] x = refl
after-push pairs (y ∷ history) x = after-push (map_after pairs y.op) history x

legal-push : (pairs : Pairs) (history : List Answered) (x : Answered) → IsLegalFrom pairs history → x.reply ≡ reply_of (map_after_all pairs (asked history)) x.op → IsLegalFrom pairs (history ++ x ∷ [])
legal-push pairs [] x legal reply = (reply, tt)
legal-push pairs (y ∷ history) x legal reply = (legal.0, legal-push (map_after pairs y.op) history x legal.1 reply)

legal-pop : (pairs : Pairs) (history : List Answered) (x : Answered) → IsLegalFrom pairs (history ++ x ∷ []) → IsLegalFrom pairs history × (x.reply ≡ reply_of (map_after_all pairs (asked history)) x.op)
legal-pop pairs [] x legal = (tt, legal.0)
legal-pop pairs (y ∷ history) x legal = let rest = legal-pop (map_after pairs y.op) history x legal.1 in ((legal.0, rest.0), rest.1)

pub map-oldest_first : (history : List Stamped) → map_after_all empty (ops_of history) ≡ map_of history
map-oldest_first [] = refl
map-oldest_first (e ∷ history) =
    ap (λ h. map_after_all empty (asked h)) (oldest-more e history) ∙ after-push empty (oldest_first history) (answered_of e)
    ∙ ap (λ pairs. map_after pairs e.op) (map-oldest_first history)

pub legal-oldest_first : (history : List Stamped) → IsReplayed history → IsLegalFrom empty (oldest_first history)
legal-oldest_first [] replayed = tt
legal-oldest_first (e ∷ history) replayed = subst (IsLegalFrom empty) (sym (oldest-more e history))
    (legal-push empty (oldest_first history) (answered_of e) (legal-oldest_first history replayed.1)
    (replayed.0 ∙ ap (λ pairs. reply_of pairs e.op) (sym (map-oldest_first history))))

pub oldest_first-legal : (history : List Stamped) → IsLegalFrom empty (oldest_first history) → IsReplayed history
oldest_first-legal [] legal = tt
oldest_first-legal (e ∷ history) legal =
    let parts = legal-pop empty (oldest_first history) (answered_of e) (subst (IsLegalFrom empty) (oldest-more e history) legal) in
    (parts.1 ∙ ap (λ pairs. reply_of pairs e.op) (map-oldest_first history), oldest_first-legal history parts.0)
