use Rattle.std.proofs.Common.{ap, sym, ◌∙◌, if◌then◌else◌, ◌+◌, is_some, rules}
use Rattle.std.specs.FinMap as map
use Rattle.std.specs.BTreeMap.{btree_map_len}
use Rattle.map_history.proofs.Entries.{contains_key-seen, pairs_of-added, len-added, chosen}
use Rattle.map_history.proofs.book.Book.insert.Goals as goal

pub returns-then-contains_key-clause-reply : goal.returns-then-contains_key-clause-reply
returns-then-contains_key-clause-reply c =
    sym (chosen _ _ (contains_key-seen _ _ c.args.key c.self.view_is c.contains_key.ensures c.if-contains_key.true))

pub returns-then-contains_key-clause-ok : goal.returns-then-contains_key-clause-ok
returns-then-contains_key-clause-ok c =
    sym (chosen _ _ (contains_key-seen _ _ c.args.key c.self.view_is c.contains_key.ensures c.if-contains_key.true))

pub invariant_of-self-2 : goal.invariant_of-self-2
invariant_of-self-2 c =
    let absent = contains_key-seen _ _ c.args.key c.self.view_is c.contains_key.ensures c.if-contains_key.false in
    let none = ap is_some c.in_ok-insert.ensures.old ∙ sym c.contains_key.ensures ∙ c.if-contains_key.false in
    ap map.len (pairs_of-added _ _ _ c.args.key c.args.value c.self.view_is c.in_ok-insert.ensures.updates.0)
    ∙ len-added _ c.args.key c.args.value _ absent (ap map.len (sym c.self.view_is) ∙ c.self.invariant)
    ∙ sym (c.in_ok-insert.ensures.len ∙ ap (λ b. btree_map_len c.self.inside.pairs + (if b then 0 else 1)) none)

pub returns-in_err-insert-clause-cause : goal.returns-in_err-insert-clause-cause
returns-in_err-insert-clause-cause c =
    search (rules, contains_key-seen _ _ c.args.key c.self.view_is c.contains_key.ensures c.if-contains_key.false)

pub returns-clause-reply : goal.returns-clause-reply
returns-clause-reply c =
    sym (chosen _ _ (contains_key-seen _ _ c.args.key c.self.view_is c.contains_key.ensures c.if-contains_key.false))

pub returns-clause-ok : goal.returns-clause-ok
returns-clause-ok c =
    pairs_of-added _ _ _ c.args.key c.args.value c.self.view_is c.in_ok-insert.ensures.updates.0
    ∙ sym (chosen _ _ (contains_key-seen _ _ c.args.key c.self.view_is c.contains_key.ensures c.if-contains_key.false))
