use Rattle.guard_core.specs.Schedules.{first_state, after_all}
use Rattle.guard_core.proofs.Keeping.{first, keeps_all}
use Rattle.guard_core.proofs.Holding.{held_are_safe, given_to_nobody}
use Rattle.guard_core.proofs.laws.held_descriptors_and_blocks_are_safe.Goals as goal

pub returns-clause-safe : goal.returns-clause-safe
returns-clause-safe c = λ counts descriptor block es start ok.
    held_are_safe counts (after_all (first_state descriptor block) es)
    (keeps_all counts (first_state descriptor block) es ok (first counts descriptor block start))

pub returns-clause-given_out : goal.returns-clause-given_out
returns-clause-given_out c = λ counts descriptor block es start ok.
    given_to_nobody counts (after_all (first_state descriptor block) es)
    (keeps_all counts (first_state descriptor block) es ok (first counts descriptor block start))
