use Rattle.tree_laws.proofs.TreeLaws.{tree_plans}
use Rattle.tree_laws.proofs.laws.tree_meets_the_planners_laws.Goals as goal

pub returns : goal.returns
returns c = tree_plans
