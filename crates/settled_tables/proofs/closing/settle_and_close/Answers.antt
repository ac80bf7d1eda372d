use Rattle.std.proofs.Common.{refl, sym, ◌∙◌, subst}
use Rattle.closed_words.specs.Histories.{HoldsNoLock}
use Rattle.settled_tables.specs.Once.{SectionsCameOnce}
use Rattle.settled_tables.proofs.Released.{joined_still, holds_none, came_once}
use Rattle.settled_tables.proofs.closing.settle_and_close.Goals as goal

pub close-requires-clause-joined : goal.close-requires-clause-joined
close-requires-clause-joined g c κs within =
    joined_still (g.S.Structure.meaning c.args.table.structure) c.args.table c.args.keeper c.settle-keeper.result c.settle-keeper.ensures.settles c.requires.next.joined

pub returns-clause-free : goal.returns-clause-free
returns-clause-free g c =
    let number = c.settle-keeper.ensures.settles.number ∙ c.requires.next.joined.number in
    subst (λ s. HoldsNoLock (g.S.Structure.meaning s) c.close.result) (sym c.close.ensures.structure)
    (holds_none (g.S.Structure.meaning c.args.table.structure) c.args.table c.args.keeper c.settle-keeper.result c.settle-keeper.ensures.settles c.close.result c.settle-keeper.ensures.own number c.close.ensures)

pub returns-clause-once : goal.returns-clause-once
returns-clause-once g c =
    let met = g.met.S.Structure g.world.𝓛 g.world.𝓜 g.world.𝓡 ((λ s allowed. allowed), (λ patient. patient), (λ alone. alone), (λ cuts. cuts)) in
    subst (λ s. SectionsCameOnce (g.S.Structure.meaning s) c.close.result) (sym c.close.ensures.structure)
    (came_once (g.S.Structure.meaning c.args.table.structure) (met.laws c.args.table.structure) c.args.table c.settle-keeper.result c.close.result
    (c.requires.own.limits _ refl) (c.requires.own.allowed _ refl) c.close.ensures)
