use Rattle.guard_core.proofs.Listing.{starts}
use Rattle.guard_core.proofs.laws.the_machine_can_start.Goals as goal

pub returns : goal.returns
returns c = starts
