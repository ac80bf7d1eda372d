use Rattle.std.proofs.Common.{ap, sym, ◌∙◌, is_some, refl}
use Rattle.std.specs.FinMap as map
use Rattle.map_history.proofs.Entries.{contains_key-seen, pairs_of-removed, len-removed, chosen}
use Rattle.map_history.proofs.book.Book.remove.Goals.{then-is_some, else-is_some}
use Rattle.map_history.proofs.book.Book.remove.Goals as goal

pub invariant_of-self : goal.invariant_of-self
invariant_of-self c =
    let there = contains_key-seen _ _ c.args.key c.self.view_is (ap is_some c.remove.ensures.value) refl in
    ap map.len (pairs_of-removed _ _ _ c.args.key c.self.view_is c.remove.ensures.updates.0)
    ∙ len-removed _ c.args.key _ _ _ there (ap map.len (sym c.self.view_is) ∙ c.self.invariant) c.remove.ensures.len

pub returns-clause-reply : goal.returns-clause-reply
returns-clause-reply c =
    let there = contains_key-seen _ _ c.args.key c.self.view_is (ap is_some c.remove.ensures.value) (sym c.is_some.ensures) in
    elim c.if-is_some.branch [
      | then-is_some w ↦ w.result-is ∙ sym (chosen _ _ (there ∙ w.if-is_some.true))
      | else-is_some w ↦ w.result-is ∙ sym (chosen _ _ (there ∙ w.if-is_some.false))
    ]

pub returns-clause-after : goal.returns-clause-after
returns-clause-after c = pairs_of-removed _ _ _ c.args.key c.self.view_is c.remove.ensures.updates.0
