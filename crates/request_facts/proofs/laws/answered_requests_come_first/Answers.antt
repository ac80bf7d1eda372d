use Rattle.request_facts.proofs.Standing.{answered_come_first}
use Rattle.request_facts.proofs.laws.answered_requests_come_first.Goals as goal

pub returns : goal.returns
returns g c =
    let met = g.met.S.Structure g.world.𝓛 g.world.𝓜 g.world.𝓡 ((λ s allowed. allowed), (λ patient. patient), (λ alone. alone), (λ cuts. cuts)) in
    λ layout requests. answered_come_first (g.S.Structure.meaning c.args.structure.now) (met.laws c.args.structure.now) layout requests
