use Rattle.guard_core.specs.Schedules.{first_state}
use Rattle.guard_core.proofs.Keeping.{first}
use Rattle.guard_core.proofs.Listing.{lists_follow_all}
use Rattle.guard_core.proofs.laws.all_stand_in_one_list.Goals as goal

pub returns : goal.returns
returns c = λ counts descriptor block l es start listed ok.
    lists_follow_all counts (first_state descriptor block) l es ok (first counts descriptor block start) listed
