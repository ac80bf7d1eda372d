use Rattle.plain_laws.proofs.TreeLaw.{runs_do_the_operations}
use Rattle.plain_laws.proofs.trees.tree_bodies_do_the_operations.Goals as goal

pub returns : goal.returns
returns c = runs_do_the_operations
