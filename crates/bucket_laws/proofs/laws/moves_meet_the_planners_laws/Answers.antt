use Rattle.bucket_laws.proofs.Planner.{moves_plan}
use Rattle.bucket_laws.proofs.laws.moves_meet_the_planners_laws.Goals as goal

pub returns : goal.returns
returns c = moves_plan c.args.bits c.requires
