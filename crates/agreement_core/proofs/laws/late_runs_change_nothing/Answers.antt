use Rattle.agreement_core.proofs.Late.{by_stepper}
use Rattle.agreement_core.proofs.laws.late_runs_change_nothing.Goals as goal

pub returns : goal.returns
returns c = λ rules w e r ok sound. by_stepper rules w e ok sound r
