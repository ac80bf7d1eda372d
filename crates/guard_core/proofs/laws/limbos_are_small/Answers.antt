use Rattle.guard_core.specs.Schedules.{first_state}
use Rattle.guard_core.proofs.Keeping.{first, keeps_all}
use Rattle.guard_core.proofs.laws.limbos_are_small.Goals as goal

pub returns : goal.returns
returns c = λ counts descriptor block es start ok.
    (keeps_all counts (first_state descriptor block) es ok (first counts descriptor block start)).eight
