use Rattle.std.proofs.Common.{◌<◌, ◌∙◌, sym, subst, arith, refl}
use Rattle.lock_walks.proofs.Leading.{WalksStandIn}
use Rattle.lock_walks.proofs.Onward.{next_is_low, next_may_be_loaded, is_nearer, went_by, stays}
use Rattle.lock_walks.proofs.plans.load_next.Goals as goal

pub overflow_cast-wanted : goal.overflow_cast-wanted
overflow_cast-wanted g c =
    let met = g.met.S.Structure g.world.𝓛 g.world.𝓜 g.world.𝓡 ((λ s allowed. allowed), (λ patient. patient), (λ alone. alone), (λ cuts. cuts)) in
    let low = next_is_low (g.S.Structure.meaning c.args.table.now.structure) g.W.Walker.way (subst (λ s. WalksStandIn (g.S.Structure.meaning s)) c.structure.ensures c.walks_stand.ensures) c.args.table.now (c.requires.own.limits _ refl) (c.requires.own.allowed _ refl)
    _ _ _ _ c.requires.own _ _ _ c.requires.on_way.0 c.requires.on_way.1 _ (sym c.wanted.ensures ∙ c.in-Some.is) (met.laws c.args.table.now.structure) in
    omega (arith, low)

pub returns-in_default-clause-goes : goal.returns-in_default-clause-goes
returns-in_default-clause-goes g c = stays (g.S.Structure.meaning c.args.table.now.structure) c.args.table.now.layout g.W.Walker.way _ _ _ _ _ _ _

pub load_cell-runner-requires-clause-next : goal.load_cell-runner-requires-clause-next
load_cell-runner-requires-clause-next g c κs within = next_may_be_loaded (g.S.Structure.meaning c.args.table.now.structure) g.W.Walker.way (subst (λ s. WalksStandIn (g.S.Structure.meaning s)) c.structure.ensures c.walks_stand.ensures) c.args.table.now (c.requires.own.limits _ refl) (c.requires.own.allowed _ refl)
    _ _ _ _ c.requires.own _ _ _ c.requires.on_way.0 c.requires.on_way.1 _ (sym c.wanted.ensures ∙ c.in-Some.is)

pub returns-clause-goes : goal.returns-clause-goes
returns-clause-goes g c = went_by (g.S.Structure.meaning c.args.table.now.structure) g.W.Walker.way (subst (λ s. WalksStandIn (g.S.Structure.meaning s)) c.structure.ensures c.walks_stand.ensures) c.args.table.now (c.requires.own.limits _ refl) (c.requires.own.allowed _ refl)
    _ _ _ _ c.requires.own _ _ _ _ _ (sym c.wanted.ensures ∙ c.in-Some.is) _ c.feed.ensures _ c.load_cell-runner.ensures.event _ _ _ _ c.passes-going.ensures

pub returns-clause-nearer : goal.returns-clause-nearer
returns-clause-nearer g c = λ some. subst (λ w. g.W.Walker.way.left w < g.W.Walker.way.left c.args.walker.now) (sym c.feed.ensures)
    (is_nearer (g.S.Structure.meaning c.args.table.now.structure) g.W.Walker.way (subst (λ s. WalksStandIn (g.S.Structure.meaning s)) c.structure.ensures c.walks_stand.ensures) c.args.table.now (c.requires.own.limits _ refl) (c.requires.own.allowed _ refl)
    _ _ _ _ c.requires.own _ _ _ c.requires.on_way.0 c.requires.on_way.1 _ (sym c.wanted.ensures ∙ c.in-Some.is) _)
