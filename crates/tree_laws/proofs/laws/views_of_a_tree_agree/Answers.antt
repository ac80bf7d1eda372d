use Rattle.tree_laws.proofs.Views.{views_agree}
use Rattle.tree_laws.proofs.laws.views_of_a_tree_agree.Goals as goal

pub returns : goal.returns
returns c n covers covers' tree tree' = views_agree n covers covers' tree tree'
