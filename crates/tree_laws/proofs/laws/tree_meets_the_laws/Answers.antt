use Rattle.tree_laws.proofs.TreeLaws.{tree_laws}
use Rattle.tree_laws.proofs.laws.tree_meets_the_laws.Goals as goal

pub returns : goal.returns
returns c = tree_laws
