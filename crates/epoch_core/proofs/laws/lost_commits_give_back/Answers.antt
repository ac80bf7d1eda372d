use Rattle.epoch_core.proofs.Lasting.{make_goes_on, retire_goes_on}
use Rattle.epoch_core.proofs.laws.lost_commits_give_back.Goals as goal

pub returns-clause-make : goal.returns-clause-make
returns-clause-make c = make_goes_on

pub returns-clause-retire : goal.returns-clause-retire
returns-clause-retire c = retire_goes_on
