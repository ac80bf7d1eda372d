use Rattle.tree_laws.proofs.Replacement.{replacement_keeps}
use Rattle.tree_laws.proofs.laws.replacements_keep_the_tree.Goals as goal

pub returns : goal.returns
returns c n covers d a l f tree is = replacement_keeps n covers d a l f tree is
