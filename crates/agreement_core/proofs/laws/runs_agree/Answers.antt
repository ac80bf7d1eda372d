use Rattle.agreement_core.specs.Schedules.{first_state}
use Rattle.agreement_core.proofs.Keeping.{first, keeps_all}
use Rattle.agreement_core.proofs.Standing.{agree, holds_nothing}
use Rattle.agreement_core.proofs.laws.runs_agree.Goals as goal

pub returns-clause-over : goal.returns-clause-over
returns-clause-over c = λ rules w r i d sound. holds_nothing rules w sound r i d

pub returns-clause-agree : goal.returns-clause-agree
returns-clause-agree c = λ rules cells es start ok. agree rules _ (keeps_all rules (first_state cells) es ok (first rules cells start))
