use Rattle.tree_laws.proofs.Landed.{has_landed}
use Rattle.tree_laws.proofs.laws.walks_land_on_the_path.Goals as goal

pub returns : goal.returns
returns c layout s sound kept d x here link mark = has_landed layout s sound kept d x here link mark
