use Rattle.list_walks.proofs.Leading.{walk_leads}
use Rattle.list_walks.proofs.laws.list_walks_lead.Goals as goal

pub returns : goal.returns
returns c = walk_leads
