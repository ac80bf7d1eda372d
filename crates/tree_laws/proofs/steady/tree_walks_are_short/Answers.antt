use Rattle.tree_laws.proofs.Near.{walks_are_short}
use Rattle.tree_laws.proofs.steady.tree_walks_are_short.Goals as goal

pub returns : goal.returns
returns c = walks_are_short
