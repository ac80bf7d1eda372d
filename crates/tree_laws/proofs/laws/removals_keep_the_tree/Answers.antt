use Rattle.tree_laws.proofs.Removal.{removal_keeps}
use Rattle.tree_laws.proofs.laws.removals_keep_the_tree.Goals as goal

pub returns : goal.returns
returns c n covers d e a p b l tree is = removal_keeps n covers d e a p b l tree is
