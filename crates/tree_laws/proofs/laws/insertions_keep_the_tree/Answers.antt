use Rattle.tree_laws.proofs.Insertion.{insertion_keeps}
use Rattle.tree_laws.proofs.laws.insertions_keep_the_tree.Goals as goal

pub returns : goal.returns
returns c n covers d h a l t f tree is = insertion_keeps n covers d h a l t f tree is
