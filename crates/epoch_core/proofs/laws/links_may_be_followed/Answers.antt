use Rattle.epoch_core.proofs.Reusing.{may_follow}
use Rattle.epoch_core.proofs.laws.links_may_be_followed.Goals as goal

pub returns : goal.returns
returns c = may_follow
