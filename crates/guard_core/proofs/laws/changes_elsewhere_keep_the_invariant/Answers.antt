use Rattle.guard_core.proofs.Same.{same_sound}
use Rattle.guard_core.proofs.laws.changes_elsewhere_keep_the_invariant.Goals as goal

pub returns : goal.returns
returns c = same_sound
