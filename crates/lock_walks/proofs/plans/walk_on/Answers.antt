use Rattle.std.proofs.Common.{subst, refl}
use Rattle.lock_walks.proofs.Leading.{WalksStandIn}
use Rattle.lock_walks.proofs.Onward.{way_begins}
use Rattle.lock_walks.proofs.plans.walk_on.Goals as goal

pub load_next-runner-requires-clause-on_way : goal.load_next-runner-requires-clause-on_way
load_next-runner-requires-clause-on_way g c κs within = (
  _,
  way_begins (g.S.Structure.meaning c.args.table.now.structure) g.W.Walker.way (subst (λ s. WalksStandIn (g.S.Structure.meaning s)) c.structure.ensures c.walks_stand.ensures) c.args.table.now (c.requires.own.limits _ refl) (c.requires.own.allowed _ refl)
      _ _ _ _ _ _ _ c.requires.allowed c.requires.leads c.requires.entered,
)

pub returns-then-not-going-clause-led : goal.returns-then-not-going-clause-led
returns-then-not-going-clause-led g c = c.load_next-runner.ensures.goes.cut _ (way_begins (g.S.Structure.meaning c.args.table.now.structure) g.W.Walker.way (subst (λ s. WalksStandIn (g.S.Structure.meaning s)) c.structure.ensures c.walks_stand.ensures) c.args.table.now (c.requires.own.limits _ refl) (c.requires.own.allowed _ refl)
    _ _ _ _ _ _ _ c.requires.allowed c.requires.leads c.requires.entered) c.if-not-going.true

pub pass_nodes-runner-requires-clause-on_way : goal.pass_nodes-runner-requires-clause-on_way
pass_nodes-runner-requires-clause-on_way g c κs within = (
  _,
  c.load_next-runner.ensures.goes.on _ (way_begins (g.S.Structure.meaning c.args.table.now.structure) g.W.Walker.way (subst (λ s. WalksStandIn (g.S.Structure.meaning s)) c.structure.ensures c.walks_stand.ensures) c.args.table.now (c.requires.own.limits _ refl) (c.requires.own.allowed _ refl)
      _ _ _ _ _ _ _ c.requires.allowed c.requires.leads c.requires.entered) c.if-not-going.false,
)

pub returns-then-not-going-2-clause-led : goal.returns-then-not-going-2-clause-led
returns-then-not-going-2-clause-led g c = c.pass_nodes-runner.ensures.goes.cut _ (c.load_next-runner.ensures.goes.on _ (way_begins (g.S.Structure.meaning c.args.table.now.structure) g.W.Walker.way (subst (λ s. WalksStandIn (g.S.Structure.meaning s)) c.structure.ensures c.walks_stand.ensures) c.args.table.now (c.requires.own.limits _ refl) (c.requires.own.allowed _ refl)
    _ _ _ _ _ _ _ c.requires.allowed c.requires.leads c.requires.entered) c.if-not-going.false) c.if-not-going-2.true

pub end_walk-requires-clause-on_way : goal.end_walk-requires-clause-on_way
end_walk-requires-clause-on_way g c κs within = (
  _,
  c.pass_nodes-runner.ensures.goes.on _ (c.load_next-runner.ensures.goes.on _ (way_begins (g.S.Structure.meaning c.args.table.now.structure) g.W.Walker.way (subst (λ s. WalksStandIn (g.S.Structure.meaning s)) c.structure.ensures c.walks_stand.ensures) c.args.table.now (c.requires.own.limits _ refl) (c.requires.own.allowed _ refl)
      _ _ _ _ _ _ _ c.requires.allowed c.requires.leads c.requires.entered) c.if-not-going.false) c.if-not-going-2.false,
)

pub returns-clause-led : goal.returns-clause-led
returns-clause-led g c = c.end_walk.ensures.led _ (c.pass_nodes-runner.ensures.goes.on _ (c.load_next-runner.ensures.goes.on _ (way_begins (g.S.Structure.meaning c.args.table.now.structure) g.W.Walker.way (subst (λ s. WalksStandIn (g.S.Structure.meaning s)) c.structure.ensures c.walks_stand.ensures) c.args.table.now (c.requires.own.limits _ refl) (c.requires.own.allowed _ refl)
    _ _ _ _ _ _ _ c.requires.allowed c.requires.leads c.requires.entered) c.if-not-going.false) c.if-not-going-2.false)
