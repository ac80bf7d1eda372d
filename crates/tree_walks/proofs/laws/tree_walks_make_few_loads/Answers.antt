use Rattle.tree_walks.proofs.Gets.{make_few_loads}
use Rattle.tree_walks.proofs.laws.tree_walks_make_few_loads.Goals as goal

pub returns : goal.returns
returns c = make_few_loads
