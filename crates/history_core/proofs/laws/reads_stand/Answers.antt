use Rattle.history_core.proofs.Consequences.{reads_stand}
use Rattle.history_core.proofs.laws.reads_stand.Goals as goal

pub returns : goal.returns
returns c = reads_stand
