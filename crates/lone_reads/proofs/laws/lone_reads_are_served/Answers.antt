use Rattle.lone_reads.proofs.Served.{lone_served}
use Rattle.lone_reads.proofs.laws.lone_reads_are_served.Goals as goal

pub returns : goal.returns
returns g c =
    let met = g.met.S.Structure g.world.𝓛 g.world.𝓜 g.world.𝓡 ((λ s allowed. allowed), (λ patient. patient), (λ alone. alone), (λ cuts. cuts)) in
    let plans = g.met.S.Planner g.world.𝓛 g.world.𝓜 g.world.𝓡 ((λ s allowed. allowed), (λ patient. patient), (λ alone. alone), (λ cuts. cuts)) in
    let structure = c.args.structure.now in
    lone_served (g.S.Structure.meaning structure) (met.laws structure) (g.S.Planner.planning structure) (plans.plans_lawfully structure)
    (plans.walks_steadily structure) (plans.gets_are_light structure)
