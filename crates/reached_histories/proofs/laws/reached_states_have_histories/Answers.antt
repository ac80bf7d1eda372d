use Rattle.reached_histories.proofs.Histories.{reached_have}
use Rattle.reached_histories.proofs.laws.reached_states_have_histories.Goals as goal

pub returns : goal.returns
returns g c =
    let met = g.met.S.Structure g.world.𝓛 g.world.𝓜 g.world.𝓡 ((λ s allowed. allowed), (λ patient. patient), (λ alone. alone), (λ cuts. cuts)) in
    λ layout requests. reached_have (g.S.Structure.meaning c.args.structure.now) (met.laws c.args.structure.now) layout requests
