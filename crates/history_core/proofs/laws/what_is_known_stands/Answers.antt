use Rattle.history_core.proofs.Consequences.{knowledge_stands}
use Rattle.history_core.proofs.laws.what_is_known_stands.Goals as goal

pub returns : goal.returns
returns c = knowledge_stands
