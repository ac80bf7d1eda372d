use Rattle.plain_laws.proofs.MoveLaw.{runs_do_the_operations}
use Rattle.plain_laws.proofs.moves.move_bodies_do_the_operations.Goals as goal

pub returns : goal.returns
returns c = runs_do_the_operations
