use Rattle.list_laws.proofs.Held.{held}
use Rattle.list_laws.proofs.laws.links_lead_on.Goals as goal

pub returns : goal.returns
returns c = held
