use Rattle.machine_slots.proofs.Locks.{locks_held_after}
use Rattle.machine_slots.proofs.laws.publishers_hold_their_locks.Goals as goal

pub returns : goal.returns
returns g c = λ layout limits counts nodes j kept held step ok back.
    let met = g.met.S.Structure g.world.𝓛 g.world.𝓜 g.world.𝓡 ((λ s allowed. allowed), (λ patient. patient), (λ alone. alone), (λ cuts. cuts)) in
    let m = g.S.Structure.meaning c.args.structure.now in let laws = met.laws c.args.structure.now in
    locks_held_after m laws layout limits counts nodes j kept step ok back held
