use Rattle.machine_agreement.proofs.FirstJoined.{first_joined}
use Rattle.machine_agreement.proofs.laws.first_states_are_joined.Goals as goal

pub returns : goal.returns
returns g c = λ layout requests limits w start.
    let met = g.met.S.Structure g.world.𝓛 g.world.𝓜 g.world.𝓡 ((λ s allowed. allowed), (λ patient. patient), (λ alone. alone), (λ cuts. cuts)) in
    first_joined (g.S.Structure.meaning c.args.structure.now) layout requests w start (met.laws c.args.structure.now).first limits
