use Rattle.agreement_core.proofs.Helping.{is_helped}
use Rattle.agreement_core.proofs.laws.a_section_is_helped.Goals as goal

pub returns : goal.returns
returns c = is_helped
