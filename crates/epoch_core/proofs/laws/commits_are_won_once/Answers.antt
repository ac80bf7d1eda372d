use Rattle.epoch_core.specs.Schedules.{first_state}
use Rattle.epoch_core.specs.History.{no_history}
use Rattle.epoch_core.proofs.Keeping.{first}
use Rattle.epoch_core.proofs.Exactly.{exact_first, exact_all}
use Rattle.epoch_core.proofs.laws.commits_are_won_once.Goals as goal

pub returns : goal.returns
returns c = λ counts location es start ok.
    exact_all counts (first_state location) no_history es ok (first counts location start) (exact_first counts location start)
