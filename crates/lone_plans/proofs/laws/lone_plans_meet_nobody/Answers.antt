use Rattle.lone_plans.proofs.Planned.{lone_met}
use Rattle.lone_plans.proofs.laws.lone_plans_meet_nobody.Goals as goal

pub returns : goal.returns
returns g c =
    let met = g.met.S.Structure g.world.𝓛 g.world.𝓜 g.world.𝓡 ((λ s allowed. allowed), (λ patient. patient), (λ alone. alone), (λ cuts. cuts)) in
    let plans = g.met.S.Planner g.world.𝓛 g.world.𝓜 g.world.𝓡 ((λ s allowed. allowed), (λ patient. patient), (λ alone. alone), (λ cuts. cuts)) in
    let structure = c.args.structure.now in
    lone_met (g.S.Structure.meaning structure) (met.laws structure) (g.S.Planner.planning structure) (plans.walks_steadily structure)
