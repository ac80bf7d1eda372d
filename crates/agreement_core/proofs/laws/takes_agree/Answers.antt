use Rattle.agreement_core.proofs.Standing.{takes_stand}
use Rattle.agreement_core.proofs.laws.takes_agree.Goals as goal

pub returns : goal.returns
returns c = λ rules w d sound. takes_stand rules w sound d
