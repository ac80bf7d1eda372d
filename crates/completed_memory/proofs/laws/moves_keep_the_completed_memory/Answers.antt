use Rattle.completed_memory.proofs.Moving.{memory_moves}
use Rattle.completed_memory.proofs.laws.moves_keep_the_completed_memory.Goals as goal

pub returns : goal.returns
returns g c = λ layout limits.
    let met = g.met.S.Structure g.world.𝓛 g.world.𝓜 g.world.𝓡 ((λ s allowed. allowed), (λ patient. patient), (λ alone. alone), (λ cuts. cuts)) in
    memory_moves (g.S.Structure.meaning c.args.structure.now) (met.laws c.args.structure.now) layout limits
