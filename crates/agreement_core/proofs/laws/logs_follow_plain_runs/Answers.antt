use Rattle.agreement_core.proofs.PlainRuns.{follows_plain_run, starts_over}
use Rattle.agreement_core.proofs.laws.logs_follow_plain_runs.Goals as goal

pub returns-clause-start : goal.returns-clause-start
returns-clause-start c = λ rules w d sound used. starts_over rules w sound d used

pub returns-clause-follows : goal.returns-clause-follows
returns-clause-follows c = λ rules w d body fixed_cells first clock start sound used is over. follows_plain_run rules w sound d used body is fixed_cells first clock start over
