use Rattle.report_check.proofs.Causes.{one_answer}
use Rattle.report_check.proofs.whole.check_input.Goals as goal

pub returns-clause-exact : goal.returns-clause-exact
returns-clause-exact g c = one_answer _ c.read_and_check.result c.read_and_check.ensures.answer
