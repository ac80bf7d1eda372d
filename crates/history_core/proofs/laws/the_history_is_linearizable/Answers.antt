use Rattle.history_core.proofs.RealTime.{events_keep, publications_ask}
use Rattle.history_core.proofs.laws.the_history_is_linearizable.Goals as goal

pub returns-clause-order : goal.returns-clause-order
returns-clause-order c = events_keep

pub returns-clause-asked : goal.returns-clause-asked
returns-clause-asked c = publications_ask
