use Rattle.guard_core.proofs.Keeping.{keeps}
use Rattle.guard_core.proofs.laws.events_keep_the_invariant.Goals as goal

pub returns : goal.returns
returns c = keeps
