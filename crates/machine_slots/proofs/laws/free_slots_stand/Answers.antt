use Rattle.machine_slots.proofs.Cells.{hands_stand}
use Rattle.machine_slots.proofs.laws.free_slots_stand.Goals as goal

pub returns : goal.returns
returns g c = λ layout limits counts nodes j kept held step ok t i low five free no_fill.
    let met = g.met.S.Structure g.world.𝓛 g.world.𝓜 g.world.𝓡 ((λ s allowed. allowed), (λ patient. patient), (λ alone. alone), (λ cuts. cuts)) in
    let m = g.S.Structure.meaning c.args.structure.now in let laws = met.laws c.args.structure.now in
    hands_stand m laws layout limits counts nodes j kept held t i low five free step ok no_fill
