use Rattle.direct_laws.proofs.DirectCells.{direct_plans}
use Rattle.direct_laws.proofs.laws.direct_meets_the_planners_laws.Goals as goal

pub returns : goal.returns
returns c = direct_plans c.args.base c.args.keys c.requires
