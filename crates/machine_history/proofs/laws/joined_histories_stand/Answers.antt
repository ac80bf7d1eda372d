use Rattle.machine_history.proofs.Joining.{joined_stands}
use Rattle.machine_history.proofs.laws.joined_histories_stand.Goals as goal

pub returns : goal.returns
returns g c = λ layout limits.
    let met = g.met.S.Structure g.world.𝓛 g.world.𝓜 g.world.𝓡 ((λ s allowed. allowed), (λ patient. patient), (λ alone. alone), (λ cuts. cuts)) in
    joined_stands (g.S.Structure.meaning c.args.structure.now) (met.laws c.args.structure.now) layout limits
