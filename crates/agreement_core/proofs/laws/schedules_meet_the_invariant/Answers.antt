use Rattle.agreement_core.specs.Schedules.{first_state}
use Rattle.agreement_core.proofs.Keeping.{first, keeps_all}
use Rattle.agreement_core.proofs.laws.schedules_meet_the_invariant.Goals as goal

pub returns : goal.returns
returns c = λ rules cells es start ok. keeps_all rules (first_state cells) es ok (first rules cells start)
