use Rattle.history_core.proofs.Standing.{same_sound}
use Rattle.history_core.proofs.laws.changes_elsewhere_keep_the_invariant.Goals as goal

pub returns : goal.returns
returns c = same_sound
