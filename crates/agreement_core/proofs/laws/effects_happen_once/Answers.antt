use Rattle.agreement_core.specs.Schedules.{first_state}
use Rattle.agreement_core.specs.History.{no_history}
use Rattle.agreement_core.proofs.Keeping.{first}
use Rattle.agreement_core.proofs.Recording.{first_exact, keeps_exact_all}
use Rattle.agreement_core.proofs.Lasting.{happened, nothing, answered_or_left}
use Rattle.agreement_core.proofs.laws.effects_happen_once.Goals as goal

pub returns-clause-exact : goal.returns-clause-exact
returns-clause-exact c = λ rules cells es start ok. keeps_exact_all rules (first_state cells) no_history es ok (first rules cells start) (first_exact rules cells)

pub returns-clause-over : goal.returns-clause-over
returns-clause-over c = λ rules w d sound used. answered_or_left rules w sound d used

pub returns-clause-answered : goal.returns-clause-answered
returns-clause-answered c = λ rules w h d sound exact used. happened rules w sound h exact d used

pub returns-clause-left : goal.returns-clause-left
returns-clause-left c = λ rules w h d sound exact used. nothing rules w sound h exact d used
