use Rattle.tree_walks.proofs.Leading.{walk_leads}
use Rattle.tree_walks.proofs.laws.tree_walks_lead.Goals as goal

pub returns : goal.returns
returns c = walk_leads
