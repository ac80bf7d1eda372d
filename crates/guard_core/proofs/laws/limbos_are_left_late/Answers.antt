use Rattle.guard_core.proofs.Leaving.{leaves_unheld}
use Rattle.guard_core.proofs.laws.limbos_are_left_late.Goals as goal

pub returns : goal.returns
returns c = leaves_unheld
