use Rattle.std.proofs.Common.{sym, subst}
use Rattle.lock_walks.specs.Way.{Leads}
use Rattle.list_walks.specs.list_laws.specs.Nodes.{list}
use Rattle.sorted_list.specs.Planned.{list_way}
use Rattle.sorted_list.proofs.Leads.{leads}
use Rattle.sorted_list.proofs.plan.SortedListPlanner.walk.Goals as goal

pub returns-clause-leads : goal.returns-clause-leads
returns-clause-leads c = subst (λ walk. Leads list_way list c.args.layout (record { walk = walk })) (sym c.begin.ensures) (leads c.args.layout c.args.op c.requires.served (c.far_walks_are_long.ensures c.args.layout c.args.op c.requires.limits c.requires.allowed))
