use Rattle.bucket_laws.proofs.Planner.{buckets_plan}
use Rattle.bucket_laws.proofs.laws.buckets_meet_the_planners_laws.Goals as goal

pub returns : goal.returns
returns c = buckets_plan c.args.bits c.requires
