use Rattle.direct_laws.proofs.DirectCells.{direct_laws}
use Rattle.direct_laws.proofs.laws.direct_meets_the_laws.Goals as goal

pub returns : goal.returns
returns c = direct_laws c.args.base c.args.keys c.requires
