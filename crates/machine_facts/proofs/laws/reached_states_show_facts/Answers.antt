use Rattle.machine_facts.proofs.Following.{facts_after}
use Rattle.machine_facts.proofs.laws.reached_states_show_facts.Goals as goal

pub returns : goal.returns
returns g c = λ layout requests events w.
    let met = g.met.S.Structure g.world.𝓛 g.world.𝓜 g.world.𝓡 ((λ s allowed. allowed), (λ patient. patient), (λ alone. alone), (λ cuts. cuts)) in
    facts_after (g.S.Structure.meaning c.args.structure.now) (met.laws c.args.structure.now) layout requests events w
