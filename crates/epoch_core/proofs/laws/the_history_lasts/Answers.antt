use Rattle.epoch_core.proofs.Lasting.{lasts}
use Rattle.epoch_core.proofs.Freeing.{freed_stay, moves}
use Rattle.epoch_core.proofs.laws.the_history_lasts.Goals as goal

pub returns-clause-stays : goal.returns-clause-stays
returns-clause-stays c = lasts

pub returns-clause-freed : goal.returns-clause-freed
returns-clause-freed c = freed_stay

pub returns-clause-moves : goal.returns-clause-moves
returns-clause-moves c = λ counts w h e ok sound exact. moves counts w h e ok sound exact
