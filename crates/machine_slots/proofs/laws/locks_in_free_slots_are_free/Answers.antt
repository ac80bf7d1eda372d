use Rattle.machine_slots.proofs.Locks.{locks_free}
use Rattle.machine_slots.proofs.laws.locks_in_free_slots_are_free.Goals as goal

pub returns : goal.returns
returns g c = λ layout limits counts nodes j kept held.
    let met = g.met.S.Structure g.world.𝓛 g.world.𝓜 g.world.𝓡 ((λ s allowed. allowed), (λ patient. patient), (λ alone. alone), (λ cuts. cuts)) in
    let m = g.S.Structure.meaning c.args.structure.now in let laws = met.laws c.args.structure.now in
    locks_free m laws layout limits counts nodes j kept held
