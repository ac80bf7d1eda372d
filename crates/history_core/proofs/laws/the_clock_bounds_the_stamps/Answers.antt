use Rattle.history_core.proofs.Consequences.{clock_stands}
use Rattle.history_core.proofs.laws.the_clock_bounds_the_stamps.Goals as goal

pub returns : goal.returns
returns c = clock_stands
