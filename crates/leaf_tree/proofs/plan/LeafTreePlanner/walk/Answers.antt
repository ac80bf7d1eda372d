use Rattle.std.proofs.Common.{sym, subst}
use Rattle.lock_walks.specs.Way.{Leads}
use Rattle.tree_walks.specs.tree_laws.specs.Leaves.{tree}
use Rattle.leaf_tree.specs.Planned.{tree_way}
use Rattle.leaf_tree.proofs.Leads.{leads}
use Rattle.leaf_tree.proofs.plan.LeafTreePlanner.walk.Goals as goal

pub returns-clause-leads : goal.returns-clause-leads
returns-clause-leads c = subst (λ walk. Leads tree_way tree c.args.layout (record { walk = walk })) (sym c.begin.ensures) (leads c.args.layout c.args.op c.requires.served (c.far_walks_are_long.ensures c.args.layout c.args.op c.requires.limits c.requires.allowed))
