use Rattle.epoch_core.specs.Schedules.{first_state, after_all}
use Rattle.epoch_core.proofs.Keeping.{first, keeps_all}
use Rattle.epoch_core.proofs.Reusing.{held_are_safe}
use Rattle.epoch_core.proofs.laws.held_slots_are_safe.Goals as goal

pub returns : goal.returns
returns c = λ counts location es start ok.
    held_are_safe counts (after_all counts (first_state location) es) (keeps_all counts (first_state location) es ok (first counts location start))
