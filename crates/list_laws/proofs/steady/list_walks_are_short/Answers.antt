use Rattle.list_laws.proofs.Near.{walks_are_short}
use Rattle.list_laws.proofs.steady.list_walks_are_short.Goals as goal

pub returns : goal.returns
returns c = walks_are_short
