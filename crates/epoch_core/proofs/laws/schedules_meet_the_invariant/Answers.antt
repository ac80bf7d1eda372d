use Rattle.epoch_core.specs.Schedules.{first_state}
use Rattle.epoch_core.proofs.Keeping.{first, keeps_all}
use Rattle.epoch_core.proofs.laws.schedules_meet_the_invariant.Goals as goal

pub returns : goal.returns
returns c = λ counts location es start ok. keeps_all counts (first_state location) es ok (first counts location start)
