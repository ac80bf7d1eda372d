use Rattle.machine_slots.proofs.Filled.{filled_after}
use Rattle.machine_slots.proofs.laws.makes_find_what_they_stored.Goals as goal

pub returns : goal.returns
returns g c = λ layout limits counts nodes j kept held made made' was in_hand step ok goes.
    let met = g.met.S.Structure g.world.𝓛 g.world.𝓜 g.world.𝓡 ((λ s allowed. allowed), (λ patient. patient), (λ alone. alone), (λ cuts. cuts)) in
    let m = g.S.Structure.meaning c.args.structure.now in let laws = met.laws c.args.structure.now in
    filled_after m laws layout limits counts nodes j kept held made was in_hand made' step ok goes
