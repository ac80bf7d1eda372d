use Rattle.machine_scenes.proofs.Supplies.{supplies_agreement, supplies_epochs}
use Rattle.machine_scenes.proofs.laws.lawful_scenes_supply.Goals as goal

pub returns : goal.returns
returns g c = λ layout limits counts nodes j kept.
    let met = g.met.S.Structure g.world.𝓛 g.world.𝓜 g.world.𝓡 ((λ s allowed. allowed), (λ patient. patient), (λ alone. alone), (λ cuts. cuts)) in
    let m = g.S.Structure.meaning c.args.structure.now in let laws = met.laws c.args.structure.now in
    (supplies_agreement m laws layout limits counts nodes j kept, supplies_epochs m laws layout limits counts nodes j kept)
