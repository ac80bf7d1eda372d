use Rattle.history_core.proofs.Consequences.{closed}
use Rattle.history_core.proofs.laws.closed_histories_are_answered.Goals as goal

pub returns : goal.returns
returns c = closed
