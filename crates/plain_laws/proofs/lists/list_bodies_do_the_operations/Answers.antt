use Rattle.plain_laws.proofs.ListLaw.{runs_do_the_operations}
use Rattle.plain_laws.proofs.lists.list_bodies_do_the_operations.Goals as goal

pub returns : goal.returns
returns c = runs_do_the_operations
