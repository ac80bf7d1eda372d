use Rattle.resource_bounds.proofs.MakesReached.{reached_counted}
use Rattle.resource_bounds.proofs.makes.makes_are_counted.Goals as goal

pub returns : goal.returns
returns g c = λ per_pair layout requests w planner limits allowed reached.
    let met = g.met.S.Structure g.world.𝓛 g.world.𝓜 g.world.𝓡 ((λ s allowed. allowed), (λ patient. patient), (λ alone. alone), (λ cuts. cuts)) in
    reached_counted (g.S.Structure.meaning c.args.structure.now) (met.laws c.args.structure.now) layout limits requests allowed per_pair planner w reached
