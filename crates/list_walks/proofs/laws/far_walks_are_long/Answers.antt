use Rattle.list_walks.proofs.Far.{far_law}
use Rattle.list_walks.proofs.laws.far_walks_are_long.Goals as goal

pub returns : goal.returns
returns c layout op limits allowed = far_law layout op limits allowed
