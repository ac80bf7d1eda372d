use Rattle.list_walks.proofs.Gets.{only_look}
use Rattle.list_walks.proofs.laws.list_gets_only_look.Goals as goal

pub returns : goal.returns
returns c = only_look
