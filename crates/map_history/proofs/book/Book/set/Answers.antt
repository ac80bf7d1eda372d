use Rattle.std.proofs.Common.{◌≡◌, ap, sym, ◌∙◌, subst, is_some, rules, Result, Ok, IfOk, OnOk}
use Rattle.std.specs.FinMap as map
use Rattle.map_history.specs.declared.reply.Reply.{Reply}
use Rattle.map_history.specs.Replay.{replaced}
use Rattle.map_history.proofs.Entries.{get-seen, pairs_of-added, len-set}
use Rattle.map_history.proofs.book.Book.set.Goals.{in-Some, in-None}
use Rattle.map_history.proofs.book.Book.set.Goals as goal

answers : {E : Type 0} (r : Result Reply E) (reply wanted : Reply) → r ≡ Ok reply → reply ≡ wanted → IfOk r (λ reply. reply ≡ wanted)
answers r reply wanted is same = subst (λ r. IfOk r (λ reply. reply ≡ wanted)) (sym is) same

leaves : {E : Type 0} (r : Result Reply E) (reply : Reply) (P : Type 0) → r ≡ Ok reply → P → OnOk r P
leaves r reply P is holds = subst (λ r. OnOk r P) (sym is) holds

pub returns-in_err-old-clause-cause : goal.returns-in_err-old-clause-cause
returns-in_err-old-clause-cause c =
    search (rules, ap is_some (get-seen _ _ c.args.key c.self.view_is (sym c.in_err-old.ensures.absent)))

pub invariant_of-self-2 : goal.invariant_of-self-2
invariant_of-self-2 c =
    ap map.len (pairs_of-added _ _ _ c.args.key c.args.value c.self.view_is c.in_ok-old.ensures.updates.0)
    ∙ len-set _ c.args.key c.args.value _ _ (get-seen _ _ c.args.key c.self.view_is c.in_ok-old.ensures.old) (ap map.len (sym c.self.view_is) ∙ c.self.invariant)
    ∙ sym c.in_ok-old.ensures.len

pub returns-clause-reply : goal.returns-clause-reply
returns-clause-reply c =
    let had = sym (get-seen _ _ c.args.key c.self.view_is c.in_ok-old.ensures.old) in
    elim c.match-branch-2.branch [
      | in-Some w ↦ answers _ _ _ w.result-is (ap replaced (sym w.in-Some.is ∙ had))
      | in-None w ↦ answers _ _ _ w.result-is (ap replaced (sym w.in-None.is ∙ had))
    ]

pub returns-clause-ok : goal.returns-clause-ok
returns-clause-ok c =
    let after = pairs_of-added _ _ _ c.args.key c.args.value c.self.view_is c.in_ok-old.ensures.updates.0 in
    elim c.match-branch-2.branch [
      | in-Some w ↦ leaves _ _ _ w.result-is after
      | in-None w ↦ leaves _ _ _ w.result-is after
    ]
