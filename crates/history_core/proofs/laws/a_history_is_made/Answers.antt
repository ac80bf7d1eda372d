use Rattle.history_core.proofs.Making.{made}
use Rattle.history_core.proofs.laws.a_history_is_made.Goals as goal

pub returns : goal.returns
returns c = made
