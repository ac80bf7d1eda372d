use Rattle.list_laws.proofs.ListLaws.{list_plans}
use Rattle.list_laws.proofs.laws.list_meets_the_planners_laws.Goals as goal

pub returns : goal.returns
returns c = list_plans
