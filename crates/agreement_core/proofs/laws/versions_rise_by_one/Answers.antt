use Rattle.agreement_core.proofs.Rising.{rises}
use Rattle.agreement_core.proofs.Standing.{not_future}
use Rattle.agreement_core.proofs.laws.versions_rise_by_one.Goals as goal

pub returns-clause-rise : goal.returns-clause-rise
returns-clause-rise c = rises

pub returns-clause-read : goal.returns-clause-read
returns-clause-read c = not_future
