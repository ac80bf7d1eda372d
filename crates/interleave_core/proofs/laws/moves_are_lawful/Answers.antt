use Rattle.machine_states.specs.structure_laws.proofs.Moves.{moves}
use Rattle.interleave_core.proofs.laws.moves_are_lawful.Goals as goal

pub returns : goal.returns
returns g c = λ layout limits.
    let met = g.met.S.Structure g.world.𝓛 g.world.𝓜 g.world.𝓡 ((λ s allowed. allowed), (λ patient. patient), (λ alone. alone), (λ cuts. cuts)) in
    moves (g.S.Structure.meaning c.args.structure.now) (met.laws c.args.structure.now) layout limits
