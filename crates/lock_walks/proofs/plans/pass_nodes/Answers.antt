use Rattle.std.proofs.Common.{refl}
use Rattle.lock_walks.proofs.Onward.{stays, goes_then, cut_short, gone_on}
use Rattle.lock_walks.proofs.plans.pass_nodes.Goals as goal

pub loop-passed-init : goal.loop-passed-init
loop-passed-init g c = record {
  own = c.requires.own;
  goes = stays (g.S.Structure.meaning c.args.table.now.structure) c.args.table.now.layout g.W.Walker.way _ _ _ _ _ _ _;
}

pub pass_node-loaded-requires-clause-on_way : goal.pass_node-loaded-requires-clause-on_way
pass_node-loaded-requires-clause-on_way g c κs within = (c.requires.on_way.0, c.loop-passed.invariant.goes.on c.requires.on_way.0 c.requires.on_way.1 refl)

pub returns-then-not-is_on_links-clause-goes : goal.returns-then-not-is_on_links-clause-goes
returns-then-not-is_on_links-clause-goes g c = c.loop-passed.invariant.goes

pub returns-then-not-going-clause-goes : goal.returns-then-not-going-clause-goes
returns-then-not-going-clause-goes g c = goes_then _ _ _ c.loop-passed.invariant.goes (cut_short c.pass_node-loaded.ensures.goes c.if-not-going.true)

pub loop-passed-preserved : goal.loop-passed-preserved
loop-passed-preserved g c = record {
  own = c.pass_node-loaded.ensures.own;
  goes = goes_then _ _ _ c.loop-passed.invariant.goes (gone_on c.pass_node-loaded.ensures.goes c.if-not-going.false);
}

pub returns-clause-goes : goal.returns-clause-goes
returns-clause-goes g c = c.loop-passed.invariant.goes
