use Rattle.list_laws.proofs.ListLaws.{list_laws}
use Rattle.list_laws.proofs.laws.list_meets_the_laws.Goals as goal

pub returns : goal.returns
returns c = list_laws
