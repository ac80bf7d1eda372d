use Rattle.tree_walks.proofs.Gets.{only_look}
use Rattle.tree_walks.proofs.laws.tree_gets_only_look.Goals as goal

pub returns : goal.returns
returns c = only_look
