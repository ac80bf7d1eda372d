use Rattle.agreement_core.proofs.Lasting.{lasts}
use Rattle.agreement_core.proofs.Closing.{closed_stay, numbers_stay}
use Rattle.agreement_core.proofs.laws.the_history_lasts.Goals as goal

pub returns-clause-stays : goal.returns-clause-stays
returns-clause-stays c = lasts

pub returns-clause-closed : goal.returns-clause-closed
returns-clause-closed c = closed_stay

pub returns-clause-numbers : goal.returns-clause-numbers
returns-clause-numbers c = numbers_stay
