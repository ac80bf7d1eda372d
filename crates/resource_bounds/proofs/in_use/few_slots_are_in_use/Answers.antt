use Rattle.resource_bounds.proofs.InUseReached.{reached_few}
use Rattle.resource_bounds.proofs.in_use.few_slots_are_in_use.Goals as goal

pub returns : goal.returns
returns g c = λ per_pair layout requests w planner limits allowed reached.
    reached_few (g.S.Structure.meaning c.args.structure.now) layout limits requests per_pair planner w reached
