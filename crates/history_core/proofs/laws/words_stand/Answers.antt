use Rattle.history_core.proofs.Standing.{words_stand}
use Rattle.history_core.proofs.laws.words_stand.Goals as goal

pub returns : goal.returns
returns c = words_stand
