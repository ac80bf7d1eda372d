use Rattle.section_lines.proofs.Resting.{leaving_fewer}
use Rattle.section_lines.proofs.laws.leaving_runs_make_fewer_steps.Goals as goal

pub returns : goal.returns
returns c = leaving_fewer
