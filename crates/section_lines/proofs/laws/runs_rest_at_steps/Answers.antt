use Rattle.section_lines.proofs.Resting.{rests_at, run_rests}
use Rattle.section_lines.proofs.laws.runs_rest_at_steps.Goals as goal

pub returns-clause-line : goal.returns-clause-line
returns-clause-line c = rests_at

pub returns-clause-steps : goal.returns-clause-steps
returns-clause-steps c = run_rests
