use Rattle.list_walks.proofs.Gets.{make_few_loads}
use Rattle.list_walks.proofs.laws.list_walks_make_few_loads.Goals as goal

pub returns : goal.returns
returns c = make_few_loads
