use Rattle.std.proofs.Common.{◌∙◌, refl, sym, ap, subst, arith}
use Rattle.std.specs.Prelude.{is_some}
use Rattle.lock_walks.proofs.Leading.{WalksStandIn}
use Rattle.lock_walks.proofs.Onward.{whole_way, none_left, goes_then, gone_on}
use Rattle.lock_walks.proofs.plans.end_walk.Goals as goal

pub returns-in_default-clause-led : goal.returns-in_default-clause-led
returns-in_default-clause-led g c = λ start so. whole_way (g.S.Structure.meaning c.args.table.now.structure) g.W.Walker.way (subst (λ s. WalksStandIn (g.S.Structure.meaning s)) c.structure.ensures c.walks_stand.ensures) c.args.table.now (c.requires.own.limits _ refl) (c.requires.own.allowed _ refl)
    _ _ _ _ c.loop-made.invariant.own _ _ _ start (c.loop-made.invariant.goes.on start so refl) (sym c.wanted.ensures ∙ c.in_default.is)

pub load_next-loaded-requires-clause-on_way : goal.load_next-loaded-requires-clause-on_way
load_next-loaded-requires-clause-on_way g c κs within = (c.requires.on_way.0, c.loop-made.invariant.goes.on c.requires.on_way.0 c.requires.on_way.1 refl)

pub returns-then-not-going-clause-led : goal.returns-then-not-going-clause-led
returns-then-not-going-clause-led g c = λ start so. c.load_next-loaded.ensures.goes.cut start (c.loop-made.invariant.goes.on start so refl) c.if-not-going.true

pub loop-made-preserved : goal.loop-made-preserved
loop-made-preserved g c = record {
  own = c.load_next-loaded.ensures.own;
  goes = goes_then _ _ _ c.loop-made.invariant.goes (gone_on c.load_next-loaded.ensures.goes c.if-not-going.false);
  few = let few = c.loop-made.invariant.few in let less = c.load_next-loaded.ensures.nearer (ap is_some (sym c.wanted.ensures ∙ c.in-Some.is)) in omega (arith, few, less);
}

pub returns-clause-led : goal.returns-clause-led
returns-clause-led g c = λ start so. whole_way (g.S.Structure.meaning c.args.table.now.structure) g.W.Walker.way (subst (λ s. WalksStandIn (g.S.Structure.meaning s)) c.structure.ensures c.walks_stand.ensures) c.args.table.now (c.requires.own.limits _ refl) (c.requires.own.allowed _ refl)
    _ _ _ _ c.loop-made.invariant.own _ _ _ start (c.loop-made.invariant.goes.on start so refl)
    (none_left (g.S.Structure.meaning c.args.table.now.structure) g.W.Walker.way (subst (λ s. WalksStandIn (g.S.Structure.meaning s)) c.structure.ensures c.walks_stand.ensures) c.args.table.now (c.requires.own.limits _ refl) (c.requires.own.allowed _ refl)
    _ _ _ _ c.loop-made.invariant.own _ _ _ start (c.loop-made.invariant.goes.on start so refl)
    (let few = c.loop-made.invariant.few in let end = c.loop-made-test.false in let past = c.loop-made.auto._made-end in omega (arith, few, end, past)))
