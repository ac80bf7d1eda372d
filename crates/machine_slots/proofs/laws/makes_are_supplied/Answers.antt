use Rattle.machine_slots.proofs.Stores.{supplies_stores}
use Rattle.machine_slots.proofs.laws.makes_are_supplied.Goals as goal

pub returns : goal.returns
returns g c = λ layout limits counts nodes j kept free made was.
    let met = g.met.S.Structure g.world.𝓛 g.world.𝓜 g.world.𝓡 ((λ s allowed. allowed), (λ patient. patient), (λ alone. alone), (λ cuts. cuts)) in
    let m = g.S.Structure.meaning c.args.structure.now in let laws = met.laws c.args.structure.now in
    supplies_stores m laws layout limits counts nodes j kept free made was
