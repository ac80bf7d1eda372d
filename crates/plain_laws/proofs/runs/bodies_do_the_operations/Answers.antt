use Rattle.plain_laws.proofs.Law.{runs_do_the_operations}
use Rattle.plain_laws.proofs.runs.bodies_do_the_operations.Goals as goal

pub returns : goal.returns
returns c = runs_do_the_operations
