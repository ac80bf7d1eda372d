use Rattle.epoch_core.specs.Schedules.{first_state}
use Rattle.epoch_core.proofs.Keeping.{first}
use Rattle.epoch_core.proofs.Listing.{lists_follow_all}
use Rattle.epoch_core.proofs.laws.slots_stand_in_one_list.Goals as goal

pub returns : goal.returns
returns c = λ counts location l es start listed ok. lists_follow_all counts (first_state location) l es ok (first counts location start) listed
