use Rattle.history_core.proofs.Keeping.{event_keeps}
use Rattle.history_core.proofs.laws.events_keep_the_invariant.Goals as goal

pub returns : goal.returns
returns c = event_keeps
