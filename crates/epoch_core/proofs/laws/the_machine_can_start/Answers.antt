use Rattle.epoch_core.proofs.Starting.{starts}
use Rattle.epoch_core.proofs.laws.the_machine_can_start.Goals as goal

pub returns : goal.returns
returns c = starts
